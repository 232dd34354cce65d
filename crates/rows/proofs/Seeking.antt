-- The lowest set bit of a row at or after an index.
use Rattle.std.proofs.Common.{◌≡◌, ℕ, ◌+◌, ◌-◌, ◌*◌, ◌/◌, ◌^◌, ◌<◌, ◌≤◌, true, false, not, ◌&&◌, ltb, List, length, get_or, sym, ap, ◌∙◌, inl, inr, arith}
use lib.Bits.{bit_and}
use lib.Pow.{pow-lt}
use Rattle.std.proofs.Math.Bool.{and-true}
use Rattle.std.proofs.lemmas.Bool.{cases_lt, and_parts, not-true, ltb-false, le-ltb}
use Rattle.words.specs.Bits.{bit, holds, Low}
use Rattle.words.proofs.Bitwise.{bit-bit_and, bit_not, bit_ones, bit_none}
use Rattle.words.proofs.RowBits.{holds_word}

-- `w & !((1 << m) - 1)` has the bits of w from m on
pub bit_from : (w m k : ℕ) → m < 64 → k < 64 → bit (bit_and w (2 ^ 64 - 1 - (2 ^ m - 1))) k ≡ (bit w k && not (ltb k m))
bit_from w m k hm hk =
    let top : 2 ^ m < 2 ^ 64 = pow-lt hm in
    let small : 2 ^ m - 1 < 2 ^ 64 = omega arith in
    bit-bit_and w (2 ^ 64 - 1 - (2 ^ m - 1)) k ∙ ap (λ x. bit w k && x) (bit_not 64 (2 ^ m - 1) k small hk ∙ ap not (bit_ones m k))

-- the bits of word j, by their index in the row
pub at_word : (ws : List ℕ) (j i : ℕ) → 64 * j ≤ i → i < 64 * j + 64 → holds ws i ≡ bit (get_or ws j 0) (i - 64 * j)
at_word ws j i a b = let e : 64 * j + (i - 64 * j) ≡ i = omega arith in sym (ap (holds ws) e) ∙ holds_word ws j (i - 64 * j) (omega arith)

-- a word whose bits from m on are those of word j
module _ (ws : List ℕ) (from j m v : ℕ) (at : from ≡ 64 * j + m) (few : m < 64) (cut : (k : ℕ) → k < 64 → bit v k ≡ (bit (get_or ws j 0) k && not (ltb k m))) where
  clear_at : (i : ℕ) → from ≤ i → i < 64 * j + 64 → bit v (i - 64 * j) ≡ false → holds ws i ≡ false
  clear_at i a b z =
      let k : i - 64 * j < 64 = omega arith in
      at_word ws j i (omega arith) b ∙ sym (cut (i - 64 * j) k ∙ ap (λ x. bit (get_or ws j 0) (i - 64 * j) && not x) (le-ltb (i - 64 * j) m (omega arith)) ∙ and-true (bit (get_or ws j 0) (i - 64 * j))) ∙ z

  pub first_none : v ≡ 0 → (i : ℕ) → from ≤ i → i < 64 * (j + 1) → holds ws i ≡ false
  first_none e i a b = clear_at i a (omega arith) (ap (λ x. bit x (i - 64 * j)) e ∙ bit_none (i - 64 * j))

  pub first_some : (t : ℕ) → t < 64 → Low v t → j < length ws → (from ≤ 64 * j + t) × (64 * j + t < 64 * length ws) × (holds ws (64 * j + t) ≡ true) × ((i : ℕ) → from ≤ i → i < 64 * j + t → holds ws i ≡ false)
  first_some t h low within =
      let parts = and_parts (bit (get_or ws j 0) t) (not (ltb t m)) (sym (cut t h) ∙ low.set) in
      let past : m ≤ t = ltb-false t m (not-true (ltb t m) parts.1) in
      (omega arith, omega arith, holds_word ws j t h ∙ parts.0, λ i a b. clear_at i a (omega arith) (low.below (i - 64 * j) (omega arith)))

-- words that are 0 have no bit set, from word a on
pub zeros : (ws : List ℕ) (from a k : ℕ) → ((i : ℕ) → from ≤ i → i < 64 * a → holds ws i ≡ false) → ((j : ℕ) → j < k → get_or ws (a + j) 0 ≡ 0)
    → (i : ℕ) → from ≤ i → i < 64 * (a + k) → holds ws i ≡ false
zeros ws from a k below none i l h = elim (cases_lt i (64 * a)) [
  | inl s ↦ below i l s
  | inr s ↦ (let e : a + (i / 64 - a) ≡ i / 64 = omega arith in
      let z = ap (λ x. get_or ws x 0) (sym e) ∙ none (i / 64 - a) (omega arith) in
      at_word ws (i / 64) i (omega arith) (omega arith) ∙ ap (λ x. bit x (i - 64 * (i / 64))) z ∙ bit_none (i - 64 * (i / 64)))
]

-- a later word
pub word_some : (ws : List ℕ) (from k t : ℕ) → ((i : ℕ) → from ≤ i → i < 64 * k → holds ws i ≡ false) → t < 64 → Low (get_or ws k 0) t → k < length ws → from ≤ 64 * k
    → (from ≤ 64 * k + t) × (64 * k + t < 64 * length ws) × (holds ws (64 * k + t) ≡ true) × ((i : ℕ) → from ≤ i → i < 64 * k + t → holds ws i ≡ false)
word_some ws from k t below h low within past = (
  omega arith,
  omega arith,
  holds_word ws k t h ∙ low.set,
  λ i a b. elim (cases_lt i (64 * k)) [
    | inl l ↦ below i a l
    | inr l ↦ at_word ws k i l (omega arith) ∙ low.below (i - 64 * k) (omega arith)
  ],
)
