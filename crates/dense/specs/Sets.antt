-- The meaning of a dense set, read off its words.
--   own_words       the words of a row that hold a domain
--   pictured        a domain, then the words of a row that hold it
--   dense_kind      what a dense set means: its domain; a member for each set bit below it; it can hold every member set;
--                   its picture is the domain and then its own words; the words past those are not its own
--   words_backing   what handed-over words come to: they suffice where the domain has that many
--   Superset        every member of the second set is one of the first
--   Compared        what superset answers
use Rattle.std.specs.Prelude.{◌≡◌, ℕ, Bool, true, false, List, ◌∷◌, take, drop, Ok, Err, vec_items, vec_len, Result, Vec, ◌≢◌, nat_le, slice_index_or}
use Rattle.index.specs.declared.refusal.Refusal.{Refusal}
use Rattle.index.specs.declared.refusal.Refusal.TheVariants.{Domains}
use Rattle.mask.specs.Kinds.{Kind, Backing, Tells}
use Rattle.words.specs.Bits.{holds, words_for}
use Rattle.rows.specs.Members.{tab}
use Rattle.dense.specs.declared.bit_set.DenseBitSet.{DenseBitSet}

abbrev pub own_words : DenseBitSet → List ℕ
own_words s = take (words_for s.domain_size) (vec_items s.words)

-- a domain, then the words of a row that hold it
abbrev pub pictured : ℕ → List ℕ → List ℕ
pictured n words = n ∷ take (words_for n) words

abbrev pub dense_kind : Kind DenseBitSet
dense_kind =
    record {
      domain = λ s. s.domain_size;
      members = λ s. tab (holds (vec_items s.words)) s.domain_size;
      rule = λ s members. true;
      picture = λ s. pictured s.domain_size (vec_items s.words);
      spare = λ s. drop (words_for s.domain_size) (vec_items s.words);
    }

abbrev pub words_backing : {Z : Type 0} → Backing (Vec ℕ Z)
words_backing =
    record {
      suffices = λ n memory. nat_le (words_for n) (vec_len memory);
      rule = λ n memory members. true;
      spare = λ n memory. drop (words_for n) (vec_items memory);
    }

abbrev pub Superset : List Bool → List Bool → Type 0
Superset bs cs = (i : ℕ) → slice_index_or cs i false ≡ true → slice_index_or bs i false ≡ true

abbrev pub Compared : DenseBitSet → DenseBitSet → Result Bool Refusal → Type 0
Compared s t (Ok b) = (s.domain_size ≡ t.domain_size) × Tells b (Superset (dense_kind.members s) (dense_kind.members t))
Compared s t (Err e) = (s.domain_size ≢ t.domain_size) × (e ≡ Domains s.domain_size t.domain_size)
