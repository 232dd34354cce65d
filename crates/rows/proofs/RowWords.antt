-- Laws of a row of words.
use Rattle.std.proofs.Common.{◌≡◌, ℕ, ◌+◌, ◌-◌, ◌*◌, ◌/◌, ◌%◌, ◌^◌, ◌<◌, ◌≤◌, min, Bool, false, cond, not, eqb, ltb, List, ◌∷◌, ◌++◌, map, length, get_or, take, drop, set, replicate, sym, ap, ◌∙◌, ap₂, inl, inr, arith, rules, lit<, pow_pos, pow_mono}
use lib.Bits.{bit_and}
use Rattle.std.specs.List.{range_with_len}
use Rattle.std.proofs.lemmas.List.FromFn.{length-map-range_with_len, get_or-map-range_with_len}
use Rattle.std.proofs.lemmas.List.{places, get_or_append_left, length-replicate, get_or-replicate, get_or-take, length-take-le, ext_get_or, get_or-set_same, get_or-set_other, length-set}
use Rattle.std.proofs.lemmas.Bool.{cases_eq, cases_lt, eq-eqb, ne_eqb}
use Rattle.std.proofs.lemmas.Bool.Decides.{nat_tests}
use Rattle.words.specs.Bits.{bit, holds, words_for}
use Rattle.rows.specs.Members.{tab, Fit, Clean}
use Rattle.words.proofs.RowBits.{holds_word}
use Rattle.words.proofs.Bitwise.{bit_none, bit_ones, same_bits, and_pow}
use Rattle.rows.proofs.Tabs.{tab_is, tab_same, length-tab, get_or-tab}

-- ---- a word's test against an index's mask

pub bit_tested : (ws : List ℕ) (i j m : ℕ) → j ≡ i / 64 → m ≡ 2 ^ (i % 64) → not (eqb (bit_and (get_or ws j 0) m) 0) ≡ holds ws i
unfolding holds
bit_tested ws i j m e f = ap₂ (λ x y. not (eqb (bit_and (get_or ws x 0) y) 0)) e f ∙ and_pow (get_or ws (i / 64) 0) (i % 64)

-- ---- a row that begins with zeros

pub get_or-blank : (n k : ℕ) (xs : List ℕ) → k < n → get_or (replicate n 0 ++ xs) k 0 ≡ 0
get_or-blank n k xs h = get_or_append_left (replicate n 0) xs 0 k (rw length-replicate h) ∙ get_or-replicate n k 0 0 h

pub holds_blank : (n i : ℕ) (xs : List ℕ) → i < 64 * n → holds (replicate n 0 ++ xs) i ≡ false
unfolding holds
holds_blank n i xs h = let l : i / 64 < n = omega arith in ap (λ w. bit w (i % 64)) (get_or-blank n (i / 64) xs l) ∙ bit_none (i % 64)

module _ (n : ℕ) (ws xs : List ℕ) (e : ws ≡ replicate (words_for n) 0 ++ xs) where
  pub blank_fit : Fit n ws
  blank_fit k h = rw (e, get_or-blank) (lit< tt)

  pub blank_clean : Clean n ws
  blank_clean i l h = rw e (holds_blank (words_for n) i xs h)

  pub blank_members : tab (holds ws) n ≡ replicate n false
  blank_members = sym (tab_is (holds ws) (replicate n false) n (length-replicate n false) (λ i l. get_or-replicate n i false false l ∙ sym (rw e (holds_blank (words_for n) i xs (omega arith)))))

-- ---- a row whose first m bits are set, and no others

abbrev pub run_word : ℕ → ℕ → ℕ
run_word m j = 2 ^ min 64 (m - 64 * j) - 1

abbrev pub run_row : ℕ → ℕ → List ℕ
run_row m w = map (run_word m) (range_with_len 0 w)

bit_run : (m j k : ℕ) → k < 64 → bit (run_word m j) k ≡ ltb (64 * j + k) m
bit_run m j k h = bit_ones (min 64 (m - 64 * j)) k ∙ grind (arith, nat_tests)

-- the first words of the row, put in front of what a Vec held
abbrev pub refill : ℕ → List ℕ → List ℕ → List ℕ
refill n xs ws = take n (ws ++ drop (length ws) xs)

get_or-refill : (n w m k : ℕ) (xs : List ℕ) → k < w → w ≤ n → get_or (refill n xs (run_row m w)) k 0 ≡ run_word m k
get_or-refill n w m k xs h l =
    get_or-take n (run_row m w ++ drop (length (run_row m w)) xs) k 0 (omega arith)
    ∙ get_or_append_left (run_row m w) (drop (length (run_row m w)) xs) 0 k (rw length-map-range_with_len h)
    ∙ get_or-map-range_with_len (run_word m) 0 w k k 0 h (omega arith)

module _ (n len m : ℕ) (xs : List ℕ) (enough : words_for n ≤ len) where
  pub run_fit : Fit n (refill len xs (run_row m (words_for n)))
  run_fit k h =
      let p = pow_mono {i = min 64 (m - 64 * k)} {j = 64} (omega arith) in
      rw (get_or-refill len (words_for n) m k xs h enough) (omega (arith, p, pow_pos (min 64 (m - 64 * k))))

  pub holds_run : (i : ℕ) → i < 64 * words_for n → holds (refill len xs (run_row m (words_for n))) i ≡ ltb i m
  unfolding holds
  holds_run i h =
      let l : i / 64 < words_for n = omega arith in
      let k : i % 64 < 64 = omega arith in
      let e : 64 * (i / 64) + i % 64 ≡ i = omega arith in
      ap (λ w. bit w (i % 64)) (get_or-refill len (words_for n) m (i / 64) xs l enough) ∙ bit_run m (i / 64) (i % 64) k ∙ ap (λ x. ltb x m) e

-- ---- a row whose first words are written anew
module _ (own ps : List ℕ) (w : ℕ) (fits : w ≤ length own) (long : length ps ≡ w) where
  pub front_long : length (ps ++ drop w own) ≡ length own
  front_long = search (rules, places)

  pub front_in : (k : ℕ) → k < w → get_or (ps ++ drop w own) k 0 ≡ get_or ps k 0
  front_in k h = get_or_append_left ps (drop w own) 0 k (omega arith)

  pub front_out : (k : ℕ) → w ≤ k → get_or (ps ++ drop w own) k 0 ≡ get_or own k 0
  front_out k h = grind (arith, places)

-- ---- the words of a row from its bits, and the other way

pub holds-take : (w i : ℕ) (ws : List ℕ) → i < 64 * w → holds (take w ws) i ≡ holds ws i
unfolding holds
holds-take w i ws h = ap (λ x. bit x (i % 64)) (get_or-take w ws (i / 64) 0 (omega arith))

pub tab-take : (n : ℕ) (ws : List ℕ) → tab (holds (take (words_for n) ws)) n ≡ tab (holds ws) n
tab-take n ws = tab_same (holds (take (words_for n) ws)) (holds ws) n (λ i h. holds-take (words_for n) i ws (omega arith))

pub row_seen : (n m : ℕ) (us vs : List ℕ) → (n ∷ take (words_for n) us) ≡ (m ∷ take (words_for m) vs)
    → (n ≡ m) × (tab (holds us) n ≡ tab (holds vs) m)
row_seen n m us vs e =
    let p : n ≡ m = cc in
    let q : take (words_for n) us ≡ take (words_for m) vs = cc in
    (p, sym (tab-take n us) ∙ ap₂ (λ x y. tab (holds x) y) q p ∙ tab-take m vs)

same_row : (n : ℕ) (us vs : List ℕ) → words_for n ≤ length us → words_for n ≤ length vs → Fit n us → Fit n vs
    → ((i : ℕ) → i < 64 * words_for n → holds us i ≡ holds vs i) → take (words_for n) us ≡ take (words_for n) vs
same_row n us vs la lb fa fb h =
    let ea = length-take-le (words_for n) us la in
    ext_get_or 0 (take (words_for n) us) (take (words_for n) vs) (ea ∙ sym (length-take-le (words_for n) vs lb)) (λ k l.
    let s : k < words_for n = omega arith in
    get_or-take (words_for n) us k 0 s
    ∙ same_bits 64 (get_or us k 0) (get_or vs k 0) (fa k s) (fb k s) (λ j t. sym (holds_word us k j t) ∙ h (64 * k + j) (omega arith) ∙ holds_word vs k j t)
    ∙ sym (get_or-take (words_for n) vs k 0 s))

pub row_shown : (n m : ℕ) (us vs : List ℕ) → words_for n ≤ length us → words_for m ≤ length vs → Fit n us → Fit m vs → Clean n us → Clean m vs
    → n ≡ m → tab (holds us) n ≡ tab (holds vs) m → (n ∷ take (words_for n) us) ≡ (m ∷ take (words_for m) vs)
row_shown n m us vs la lb fa fb ca cb p e =
    let w : words_for n ≡ words_for m = ap words_for p in
    let r : take (words_for n) us ≡ take (words_for n) vs =
    same_row n us vs la (omega arith) fa (λ k h. fb k (omega arith)) (λ i h. elim (cases_lt i n) [
      | inl l ↦ sym (get_or-tab (holds us) n i false l) ∙ ap (λ xs. get_or xs i false) e ∙ get_or-tab (holds vs) m i false (omega arith)
      | inr l ↦ ca i l h ∙ sym (cb i (omega arith) (omega arith))
    ]) in
    ap₂ (λ x y. x ∷ y) p (r ∙ ap (λ x. take x vs) w)

-- the row after a write of bit i
abbrev pub Put : List ℕ → List ℕ → ℕ → Bool → Type 0
Put us vs i b = (j : ℕ) → holds vs j ≡ cond (eqb j i) b (holds us j)

-- ---- what a write of one bit does to the members and to the bits past n

pub put_members : (n i : ℕ) (us vs : List ℕ) (b : Bool) → Put us vs i b → tab (holds vs) n ≡ set (tab (holds us) n) i b
put_members n i us vs b h =
    sym (tab_is (holds vs) (set (tab (holds us) n) i b) n (length-set (tab (holds us) n) i b ∙ length-tab (holds us) n) (λ j l.
    elim (cases_eq j i) [
      | inl e ↦ (let k : i < length (tab (holds us) n) = omega (arith, length-tab (holds us) n) in
          ap (λ x. get_or (set (tab (holds us) n) i b) x false) e ∙ get_or-set_same (tab (holds us) n) i b false k ∙ sym (h j ∙ ap (λ x. cond x b (holds us j)) (eq-eqb j i e)))
      | inr ne ↦ get_or-set_other (tab (holds us) n) i j b false ne ∙ get_or-tab (holds us) n j false l ∙ sym (h j ∙ ap (λ x. cond x b (holds us j)) (ne_eqb j i ne))
    ]))

pub put_clean : (n i : ℕ) (us vs : List ℕ) (b : Bool) → i < n → Put us vs i b → Clean n us → Clean n vs
put_clean n i us vs b h put clean j l k = put j ∙ ap (λ x. cond x b (holds us j)) (ne_eqb j i (λ e. omega arith)) ∙ clean j l k
