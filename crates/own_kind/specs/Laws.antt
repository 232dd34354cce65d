-- That a mask which is empty or full keeps the laws of a mask. No contract cites these.
--   held           the rule lets in the empty and the full set
--   place_uniform  the place at an index of a set whose places are all alike
--   shown          the flag in a picture is the first of the members
--   lawful         the laws
use Rattle.std.proofs.Common.{◌≡◌, ℕ, Bool, true, false, ◌&&◌, List, [], ◌∷◌, get_or, replicate, ltb, refl, arith, rules}
use Rattle.std.proofs.lemmas.List.{length-replicate}
use Rattle.std.proofs.lemmas.Grind.{common_steps}
use Rattle.words.specs.Bits.{one}
use Rattle.mask.specs.Kinds.{Lawful}
use Rattle.mask.proofs.Balance.{count-replicate}
use Rattle.own_kind.specs.Meaning.{none_or_all, uniform_kind}

pub held : (n : ℕ) (b : Bool) → none_or_all (replicate n b) ≡ true
held n b = grind (arith, common_steps, count-replicate)

pub place_uniform : (n i : ℕ) (b : Bool) → get_or (replicate n b) i false ≡ (b && ltb i n)
place_uniform n i b = grind (arith, common_steps)

pub shown : (n m : ℕ) (a b : Bool) → n ≡ m → replicate n a ≡ replicate m b → ◌≡◌ {A = List ℕ} (n ∷ one (a && ltb 0 n) ∷ []) (m ∷ one (b && ltb 0 m) ∷ [])
shown n m a b p e = grind (arith, common_steps, place_uniform n 0 a, place_uniform m 0 b)

pub lawful : Lawful uniform_kind
lawful =
    record {
      long = λ s. length-replicate s.domain_size s.full;
      held = λ s. held s.domain_size s.full;
      empty = λ s. held s.domain_size false;
      full = λ s. held s.domain_size true;
      seen = Prim.search rules;
      shown = λ a b p e. shown a.domain_size b.domain_size a.full b.full p e;
      spans = λ s b. (record { domain_size = s.domain_size; full = b }, refl, refl, refl);
    }
