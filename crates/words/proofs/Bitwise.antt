-- Laws of single bits, `bit w k`, from std's of `bit_at w k`, the bit as a number.
use Rattle.std.proofs.Common.{◌≡◌, ℕ, zero, suc, ◌+◌, ◌-◌, ◌*◌, ◌/◌, ◌%◌, ◌^◌, ◌<◌, ◌≤◌, min, max, Bool, true, false, not, ◌&&◌, ◌||◌, eqb, ltb, ◌⊎◌, sym, refl, ap, ◌∙◌, ap₂, inl, inr, pow-suc, zero-add, one-add, arith, pow_pos}
use lib.Arith.{lt-one}
use lib.Bits.{bit_and, bit_or, bit_xor, and_lt, and_le_l, and_le_r, or_add_and, xor_add_and}
use lib.Pow.{ones_sub-lt}
use lib.Count.{ones, ones_step, count_trailing_zeros}
use Rattle.std.specs.Int.{bit_at}
use Rattle.std.proofs.lemmas.Nat.{le-div, div_below, one_shl}
use Rattle.std.proofs.lemmas.Nat.Bits.{bit_at_lowest, bit_at-suc, bit_at-zero, bit_at_and, bit_at_or, bit_at-pow_same, bit_at-pow_other, and_pow as and_pow_at, bit_at_ones, bit_at_ones_above, bit_at-lt, same_from_bits_below, bit_at_above}
use Rattle.std.proofs.lemmas.Bool.Decides.{nat_tests}
use Rattle.std.proofs.lemmas.Bool.{lt-ltb, le-ltb, eq-eqb, ne_eqb, cases_eq, cases_lt}
use Rattle.std.specs.Bool.{then_some}
use Rattle.words.specs.Bits.{one, bit, tally, Low, Least}
use Rattle.words.specs.Rows.{enters}
use Rattle.words.proofs.Tallies.{tally_same}

-- the bit as a number tells the bit
pub bit_is : (w k : ℕ) → bit w k ≡ eqb (bit_at w k) 1
unfolding bit
bit_is w k = refl

pub bit_zero : (w : ℕ) → bit w 0 ≡ eqb (w % 2) 1
bit_zero w = bit_is w 0 ∙ ap (λ x. eqb x 1) (bit_at_lowest w)

pub bit-suc : (w k : ℕ) → bit w (suc k) ≡ bit (w / 2) k
bit-suc w k = bit_is w (suc k) ∙ ap (λ x. eqb x 1) (bit_at-suc w k) ∙ sym (bit_is (w / 2) k)

-- ---- and, or, not

pub bit-bit_and : (a b k : ℕ) → bit (bit_and a b) k ≡ (bit a k && bit b k)
bit-bit_and a b k = rw (bit_is, bit_is, bit_is, bit_at_and a b k) (digits (bit_at a k) (bit_at b k) (bit_at-lt a k) (bit_at-lt b k))
  where
    digits : (x y : ℕ) → x < 2 → y < 2 → eqb (min x y) 1 ≡ (eqb x 1 && eqb y 1)
    digits x y h l = grind (arith, nat_tests)

pub bit-bit_or : (a b k : ℕ) → bit (bit_or a b) k ≡ (bit a k || bit b k)
bit-bit_or a b k = rw (bit_is, bit_is, bit_is, bit_at_or a b k) (digits (bit_at a k) (bit_at b k) (bit_at-lt a k) (bit_at-lt b k))
  where
    digits : (x y : ℕ) → x < 2 → y < 2 → eqb (max x y) 1 ≡ (eqb x 1 || eqb y 1)
    digits x y h l = grind (arith, nat_tests)

-- of a word of any width, while std has it of the machine's widths
pub bit_not : (m w k : ℕ) → w < 2 ^ m → k < m → bit (2 ^ m - 1 - w) k ≡ not (bit w k)
bit_not zero w k h l = absurd (omega arith)
bit_not (suc m) w zero h l =
    let e : (2 ^ suc m - 1 - w) % 2 ≡ 1 - w % 2 = omega (arith, pow-suc 2 m) in
    rw (bit_zero, bit_zero, e) (grind (arith, nat_tests))
bit_not (suc m) w (suc k) h l =
    let e : (2 ^ suc m - 1 - w) / 2 ≡ 2 ^ m - 1 - w / 2 = omega (arith, pow-suc 2 m) in
    rw (bit-suc, bit-suc, e) (bit_not m (w / 2) k (omega (arith, pow-suc 2 m)) (omega arith))

-- ---- bits past a number's length, one bit, and a run of ones

pub bit_past : (m w k : ℕ) → w < 2 ^ m → m ≤ k → bit w k ≡ false
bit_past m w k h l = bit_is w k ∙ ap (λ x. eqb x 1) (bit_at_above w m k h l)

pub bit_none : (k : ℕ) → bit 0 k ≡ false
bit_none k = bit_is 0 k ∙ ap (λ x. eqb x 1) (bit_at-zero k)

pub bit-pow : (m k : ℕ) → bit (2 ^ m) k ≡ eqb k m
bit-pow m k = bit_is (2 ^ m) k ∙ elim (cases_eq k m) [
  | inl e ↦ rw (e, bit_at-pow_same m) (sym (eq-eqb m m refl))
  | inr ne ↦ rw (bit_at-pow_other m k ne) (sym (ne_eqb k m ne))
]

pub bit_ones : (m k : ℕ) → bit (2 ^ m - 1) k ≡ ltb k m
bit_ones m k = bit_is (2 ^ m - 1) k ∙ elim (cases_lt k m) [
  | inl l ↦ rw (bit_at_ones m k l) (sym (lt-ltb k m l))
  | inr l ↦ rw (bit_at_ones_above m k l) (sym (le-ltb k m l))
]

-- ---- a number is its bits

pub same_bits : (m a b : ℕ) → a < 2 ^ m → b < 2 ^ m → ((k : ℕ) → k < m → bit a k ≡ bit b k) → a ≡ b
same_bits m a b ha hb h =
    same_from_bits_below m a b ha hb (λ k l. digit (bit_at a k) (bit_at b k) (bit_at-lt a k) (bit_at-lt b k) (sym (bit_is a k) ∙ h k l ∙ bit_is b k))
  where
    digit : (x y : ℕ) → x < 2 → y < 2 → eqb x 1 ≡ eqb y 1 → x ≡ y
    digit x y h l e = grind (arith, nat_tests)

-- ---- the count of the ones

low_one : (w : ℕ) → w % 2 ≡ one (eqb (w % 2) 1)
low_one w = grind (arith, nat_tests)

pub ones_tally : (m w : ℕ) → w < 2 ^ m → ones w ≡ tally (bit w) 0 m
unfolding ones tally
ones_tally zero w h = ap ones (lt-one h)
ones_tally (suc m) w h =
    ones_step w
    ∙ ap₂ (λ x y. x + y) (low_one w ∙ ap one (sym (bit_zero w)))
    (ones_tally m (w / 2) (omega (arith, pow-suc 2 m)) ∙ tally_same (bit (w / 2)) (bit w) 0 1 m (λ i l. rw (zero-add, one-add) (sym (bit-suc w i))))

-- how many bits a word has that another lacks, `(a & !b).count_ones()`

bit_and_not : (x y : Bool) → (x && not y) ≡ enters y x
bit_and_not true true = refl
bit_and_not true false = refl
bit_and_not false true = refl
bit_and_not false false = refl

pub ones_enters : (a b : ℕ) → a < 2 ^ 64 → b < 2 ^ 64 → ones (bit_and a (2 ^ 64 - 1 - b)) ≡ tally (λ k. enters (bit b k) (bit a k)) 0 64
ones_enters a b ha hb =
    ones_tally 64 (bit_and a (2 ^ 64 - 1 - b)) (and_lt 64 a (2 ^ 64 - 1 - b) ha (ones_sub-lt 64 b))
    ∙ tally_same (bit (bit_and a (2 ^ 64 - 1 - b))) (λ k. enters (bit b k) (bit a k)) 0 0 64 (λ k h.
    rw zero-add (bit-bit_and a (2 ^ 64 - 1 - b) k ∙ ap (λ x. bit a k && x) (bit_not 64 b k hb h) ∙ bit_and_not (bit a k) (bit b k)))

-- ---- words that gather differences

pub bit_xor_zero : (a b : ℕ) → bit_xor a b ≡ 0 → a ≡ b
bit_xor_zero a b e = omega (arith, xor_add_and a b, and_le_l a b, and_le_r a b)

pub bit_or_zero : (a b : ℕ) → bit_or a b ≡ 0 → (a ≡ 0) × (b ≡ 0)
bit_or_zero a b e = (omega (arith, or_add_and a b, and_le_r a b), omega (arith, or_add_and a b, and_le_l a b))

-- ---- the highest bit

pub bit_top : (w j : ℕ) → 2 ^ j ≤ w → w < 2 ^ suc j → bit w j ≡ true
unfolding bit
bit_top w j low high =
    let l = le-div 1 w (2 ^ j) (pow_pos j) (omega arith) in
    let h = div_below w (2 ^ j) 2 (pow_pos j) (omega (arith, pow-suc 2 j)) in
    let e : w / 2 ^ j ≡ 1 = omega arith in rw e

-- ---- a word's test against the mask of one bit, `w & (1 << m) != 0`

pub and_pow : (w m : ℕ) → not (eqb (bit_and w (2 ^ m)) 0) ≡ bit w m
and_pow w m = rw (and_pow_at w m, bit_is) (digit (bit_at w m) (2 ^ m) (bit_at-lt w m) (pow_pos m))
  where
    digit : (x y : ℕ) → x < 2 → 0 < y → not (eqb (x * y) 0) ≡ eqb x 1
    digit x y h l = grind (arith, nat_tests)

-- ---- the lowest set bit

trailing_odd : (k w : ℕ) → w % 2 ≡ 1 → count_trailing_zeros (suc k) w ≡ 0
unfolding count_trailing_zeros
trailing_odd k w e = rw e

trailing_even : (k w : ℕ) → w % 2 ≡ 0 → count_trailing_zeros (suc k) w ≡ suc (count_trailing_zeros k (w / 2))
unfolding count_trailing_zeros
trailing_even k w e = rw e

even_or_odd : (w : ℕ) → (w % 2 ≡ 0) ⊎ (w % 2 ≡ 1)
even_or_odd w = search arith

-- of a word of any width, while std has it of the machine's widths
pub trailing_low : (m w : ℕ) → 0 < w → w < 2 ^ m → (count_trailing_zeros m w < m) × Low w (count_trailing_zeros m w)
trailing_low zero w p h = absurd (omega (arith, lt-one h))
trailing_low (suc m) w p h = elim (even_or_odd w) [
  | inr e ↦ rw (trailing_odd m w e) (omega arith, record { set = rw (bit_zero, e); below = λ j l. absurd (omega arith) })
  | inl e ↦ (let r = trailing_low m (w / 2) (omega arith) (omega (arith, pow-suc 2 m)) in
      rw (trailing_even m w e) (omega (arith, r.0), record { set = bit-suc w (count_trailing_zeros m (w / 2)) ∙ r.1.set; below = even_below w m e r.1 }))
]
  where
    even_below : (w m : ℕ) → w % 2 ≡ 0 → Low (w / 2) (count_trailing_zeros m (w / 2)) → (j : ℕ) → j < suc (count_trailing_zeros m (w / 2)) → bit w j ≡ false
    even_below w m e r zero l = rw (bit_zero, e)
    even_below w m e r (suc j) l = bit-suc w j ∙ r.below j (omega arith)

-- ---- as the functions of words need it

pub bit_of_max : (k : ℕ) → k < 64 → bit (2 ^ 64 - 1) k ≡ true
bit_of_max k h = bit_ones 64 k ∙ lt-ltb k 64 h

pub bit_of_ones : (m k : ℕ) → m < 64 → bit (1 * 2 ^ m % 2 ^ 64 - 1) k ≡ ltb k m
bit_of_ones m k h = ap (λ x. bit (x - 1) k) (one_shl m 64 h) ∙ bit_ones m k

pub bit_highest : (w k : ℕ) → 2 ^ k ≤ w → w < 2 * 2 ^ k → bit w k ≡ true
bit_highest w k low high = bit_top w k low (omega (arith, pow-suc 2 k))

pub bit_higher : (w k j : ℕ) → w < 2 * 2 ^ k → k < j → bit w j ≡ false
bit_higher w k j high h = bit_past (suc k) w j (omega (arith, pow-suc 2 k)) (omega arith)

pub least : (w : ℕ) → w < 2 ^ 64 → Least w (then_some (not (eqb w 0)) (count_trailing_zeros 64 w))
least w h = elim (cases_eq w 0) [
  | inl e ↦ rw (eq-eqb w 0 e) e
  | inr ne ↦ rw (ne_eqb w 0 ne) (trailing_low 64 w (omega arith) h)
]

-- words of ones, of none, and of the lowest ones
pub ruleset even_bits = (bit_of_max, bit_none, bit_of_ones)

pub ruleset highest_bits = (bit_highest, bit_higher, bit_none)
