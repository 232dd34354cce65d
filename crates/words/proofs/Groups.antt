-- A row cut into groups of eight words.
use Rattle.std.proofs.Common.{◌≡◌, ℕ, zero, suc, ◌+◌, ◌*◌, ◌/◌, ◌<◌, min, Bool, true, false, List, [], ◌∷◌, ◌++◌, length, get_or, take, drop, sym, refl, ap, ◌∙◌, subst, ap₂, inl, inr, arith}
use Rattle.std.proofs.lemmas.List.{length-append, drop-drop}
use Rattle.std.proofs.lemmas.Grind.{common_steps}
use Rattle.std.proofs.Math.Seq.{take-append_seam, drop-append_seam}
use Rattle.std.proofs.lemmas.Bool.{cases_Bool, both_ways}
use Rattle.std.proofs.lemmas.Slice.Zip.{length-zip, get_or-zip}
use Rattle.std.proofs.lemmas.Iterator.{YieldsList}
use Rattle.std.proofs.lemmas.Iterator.Splits.{YieldsList-from_shown_while}
use Rattle.std.specs.Bool.{MatchBool}
use Rattle.std.specs.List.{zip, AllWithin, HoldsAt}
use Rattle.std.specs.declared.slice.Chunks.{Chunks}
use Rattle.std.specs.Slice.Iter.{chunks_rest, chunks_size, chunks_steps, chunk_count}
use Rattle.words.specs.declared.table.Table.{Table}
use Rattle.words.specs.Rows.{modifies}
use Rattle.words.proofs.Updating.{part_alike, alike_part, alike_unchanged, unchanged_alike}

pub groups : ℕ → List ℕ → List (List ℕ)
groups zero ws = []
groups (suc n) ws = take 8 ws ∷ groups n (drop 8 ws)

front : (ps rest : List ℕ) → length ps ≡ min 8 (length ps + length rest) → (take 8 (ps ++ rest) ≡ ps) × (drop 8 (ps ++ rest) ≡ rest)
front ps [] l = (grind (arith, common_steps), grind (arith, common_steps))
front ps (x ∷ rest) l =
    let e : length ps ≡ 8 = omega arith in
    (ap (λ n. take n (ps ++ x ∷ rest)) (sym e) ∙ take-append_seam ps (x ∷ rest), ap (λ n. drop n (ps ++ x ∷ rest)) (sym e) ∙ drop-append_seam ps (x ∷ rest))

groups_step : (ws ps rest : List ℕ) → ws ≡ ps ++ rest → length ps ≡ min 8 (length ws) → 0 < length ws
    → groups (chunk_count (length ws) 8) ws ≡ ps ∷ groups (chunk_count (length rest) 8) rest
unfolding groups
groups_step ws ps rest e l some =
    let long : length ws ≡ length ps + length rest = ap length e ∙ length-append ps rest in
    let m : chunk_count (length ws) 8 ≡ suc (chunk_count (length rest) 8) = omega (arith, long) in
    let cut = front ps rest (omega (arith, long)) in
    rw m (ap₂ (λ x y. x ∷ groups (chunk_count (length rest) 8) y) (ap (take 8) e ∙ cut.0) (ap (drop 8) e ∙ cut.1))

pub length-groups : (n : ℕ) (ws : List ℕ) → length (groups n ws) ≡ n
unfolding groups
length-groups zero ws = refl
length-groups (suc n) ws = ap suc (length-groups n (drop 8 ws))

get_or-groups : (n k : ℕ) (ws d : List ℕ) → k < n → get_or (groups n ws) k d ≡ take 8 (drop (8 * k) ws)
unfolding groups
get_or-groups zero k ws d h = absurd (omega arith)
get_or-groups (suc n) zero ws d h = refl
get_or-groups (suc n) (suc k) ws d h = get_or-groups n k (drop 8 ws) d (omega arith) ∙ ap (take 8) (let e : 8 + 8 * k ≡ 8 * suc k = omega arith in drop-drop (8 * k) 8 ws ∙ ap (λ n. drop n ws) e)

no_group : (n : ℕ) → n ≡ 0 → chunk_count n 8 ≡ 0
no_group n e = omega arith

groups_left : Chunks ℕ → List (List ℕ)
groups_left s = groups (chunk_count (length (chunks_rest s)) 8) (chunks_rest s)

pub groups_given : (s : Chunks ℕ) (ws : List ℕ) → chunks_size s ≡ 8 → chunks_rest s ≡ ws → YieldsList chunks_steps (λ x. x.now) s (groups (chunk_count (length ws) 8) ws)
unfolding groups_left groups
groups_given s ws size is =
    subst (λ xs. YieldsList chunks_steps (λ x. x.now) s (groups (chunk_count (length xs) 8) xs)) is
    (YieldsList-from_shown_while chunks_steps (λ x. x.now) groups_left (λ t. chunks_size t ≡ 8)
    (λ a b p k. length-groups (chunk_count (length (chunks_rest a)) 8) (chunks_rest a) ∙ no_group (length (chunks_rest a)) k.1.0)
    (λ a x b p k. (k.0 ∙ p, groups_step (chunks_rest a) x.now (chunks_rest b) k.1.0 (k.1.1 ∙ ap (λ n. min n (length (chunks_rest a))) p) k.1.2))
    s size)

-- a pair of rows would change where a pair of their groups would
module _ (t : Table) (us vs : List ℕ) where
  abbrev pub pairs : List (List ℕ × List ℕ)
  pairs = zip (groups (chunk_count (length us) 8) us) (groups (chunk_count (length vs) 8) vs)

  length-pairs : length pairs ≡ min (chunk_count (length us) 8) (chunk_count (length vs) 8)
  length-pairs = length-zip _ _ ∙ ap₂ min (length-groups (chunk_count (length us) 8) us) (length-groups (chunk_count (length vs) 8) vs)

  get_or-pairs : (k : ℕ) (d : List ℕ × List ℕ) → k < length pairs → get_or pairs k d ≡ (take 8 (drop (8 * k) us), take 8 (drop (8 * k) vs))
  get_or-pairs k d h =
      let n = chunk_count (length us) 8 in
      let m = chunk_count (length vs) 8 in
      get_or-zip (groups n us) (groups m vs) k d (omega (arith, length-pairs, length-groups n us)) (omega (arith, length-pairs, length-groups m vs))
      ∙ ap₂ (λ x y. (x, y)) (get_or-groups n k us d.0 (omega (arith, length-pairs))) (get_or-groups m k vs d.1 (omega (arith, length-pairs)))

  pub groups_modify : (r : Bool) → MatchBool r ((k : ℕ) × (k < length pairs) × HoldsAt (λ p. modifies t p.0 p.1 ≡ true) pairs k) (AllWithin (λ p. modifies t p.0 p.1 ≡ false) pairs 0 (length pairs))
      → r ≡ modifies t us vs
  groups_modify true h = elim (cases_Bool (modifies t us vs)) [
    | inl e ↦ sym e
    | inr e ↦ absurd (both_ways (modifies t (take 8 (drop (8 * h.0) us)) (take 8 (drop (8 * h.0) vs))) (alike_part t us vs (8 * h.0) 8 (unchanged_alike t us vs e))
        (subst (λ p. modifies t p.0 p.1 ≡ true) (get_or-pairs h.0 ([], []) h.1) (h.2 ([], []))))
  ]
  groups_modify false h =
      sym (alike_unchanged t us vs (λ i a b.
      let k : ℕ = i / 512 in
      let w : k < length pairs = omega (arith, length-pairs) in
      part_alike t us vs (8 * k) 8 (subst (λ p. modifies t p.0 p.1 ≡ false) (get_or-pairs k ([], []) w) (h k ([], []) (omega arith) w)) i (omega arith) (omega arith) (omega arith)))
