-- Laws of the bits of a row.
use Rattle.std.proofs.Common.{◌≡◌, ℕ, ◌+◌, ◌-◌, ◌*◌, ◌/◌, ◌%◌, ◌^◌, ◌<◌, ◌≤◌, Bool, true, false, cond, not, ◌&&◌, ◌||◌, eqb, ltb, List, length, get_or, take, drop, set, sym, refl, ap, ◌∙◌, subst, ap₂, inl, inr, arith}
use lib.Bits.{bit_and, bit_or, and_le_l}
use lib.Pow.{pow-lt}
use Rattle.std.proofs.lemmas.List.{length-take, length-drop, get_or-take, get_or-drop, get_or-set_same, get_or-set_other, length-set, get_or_past}
use Rattle.std.proofs.Math.Bool.{and-true}
use Rattle.std.proofs.lemmas.Bool.{cases_eq, cases_lt, eq-eqb, ne_eqb, lt-ltb, and_left}
use Rattle.std.proofs.lemmas.Bool.Decides.{nat_tests}
use Rattle.words.specs.Bits.{bit, holds}
use Rattle.words.specs.Rows.{Rewritten, put, trimmed}
use Rattle.words.proofs.Bitwise.{bit_none, bit-bit_and, bit-bit_or, bit_not, bit-pow, bit_of_ones, same_bits}

pub holds_word : (ws : List ℕ) (j k : ℕ) → k < 64 → holds ws (64 * j + k) ≡ bit (get_or ws j 0) k
unfolding holds
holds_word ws j k h =
    let e : (64 * j + k) / 64 ≡ j = omega arith in let f : (64 * j + k) % 64 ≡ k = omega arith in rw (e, f)

-- past its end a row has no bit
pub holds_past : (ws : List ℕ) (i : ℕ) → 64 * length ws ≤ i → holds ws i ≡ false
unfolding holds
holds_past ws i h = ap (λ w. bit w (i % 64)) (get_or_past ws (i / 64) 0 (omega arith)) ∙ bit_none (i % 64)

-- a part of a row, m words from word a on
pub get_or-part : (ws : List ℕ) (a m k : ℕ) → k < m → get_or (take m (drop a ws)) k 0 ≡ get_or ws (a + k) 0
get_or-part ws a m k h = get_or-take m (drop a ws) k 0 h ∙ get_or-drop a ws k 0

pub length_part : (ws : List ℕ) (a m : ℕ) → a + m ≤ length ws → length (take m (drop a ws)) ≡ m
length_part ws a m h = omega (arith, length-take m (drop a ws), length-drop a ws)

pub holds_part : (ws : List ℕ) (a m i : ℕ) → i < 64 * m → holds (take m (drop a ws)) i ≡ holds ws (64 * a + i)
unfolding holds
holds_part ws a m i h =
    let e : (64 * a + i) / 64 ≡ a + i / 64 = omega arith in
    let f : (64 * a + i) % 64 ≡ i % 64 = omega arith in
    rw (e, f) (ap (λ w. bit w (i % 64)) (get_or-part ws a m (i / 64) (omega arith)))

-- a row with one word written anew
pub holds-set_other : (ws : List ℕ) (j w i : ℕ) → (i / 64 ≡ j → ⊥) → holds (set ws j w) i ≡ holds ws i
unfolding holds
holds-set_other ws j w i ne = ap (λ x. bit x (i % 64)) (get_or-set_other ws j (i / 64) w 0 ne)

pub holds-set_same : (ws : List ℕ) (j w i : ℕ) → j < length ws → i / 64 ≡ j → holds (set ws j w) i ≡ bit w (i % 64)
unfolding holds
holds-set_same ws j w i l e = ap (λ x. bit x (i % 64)) (ap (λ x. get_or (set ws j w) x 0) e ∙ get_or-set_same ws j w 0 l)

pub set_fit : (ws : List ℕ) (j w : ℕ) → j < length ws → w < 2 ^ 64 → (k : ℕ) → get_or ws k 0 < 2 ^ 64 → get_or (set ws j w) k 0 < 2 ^ 64
set_fit ws j w within small k h = elim (cases_eq k j) [
  | inl e ↦ rw (e, get_or-set_same ws j w 0 within) small
  | inr ne ↦ rw (get_or-set_other ws j k w 0 ne) h
]

-- a word whose bits stay is the same word
pub set_rest : (f : ℕ → Bool) (ws : List ℕ) (j w : ℕ) → j < length ws → w < 2 ^ 64 → get_or ws j 0 < 2 ^ 64 → ((i : ℕ) → holds (set ws j w) i ≡ f i)
    → (k : ℕ) → ((b : ℕ) → b < 64 → f (64 * k + b) ≡ holds ws (64 * k + b)) → get_or (set ws j w) k 0 ≡ get_or ws k 0
set_rest f ws j w within small read bits k stays = elim (cases_eq k j) [
  | inl e ↦ (let StaysHere : (b : ℕ) → b < 64 → f (64 * j + b) ≡ holds ws (64 * j + b) = subst (λ x. (b : ℕ) → b < 64 → f (64 * x + b) ≡ holds ws (64 * x + b)) e stays in
      let same : w ≡ get_or ws j 0 = same_bits 64 w (get_or ws j 0) small read (λ b l.
      sym (holds_word (set ws j w) j b l ∙ ap (λ x. bit x b) (get_or-set_same ws j w 0 within)) ∙ bits (64 * j + b) ∙ StaysHere b l ∙ holds_word ws j b l) in
      ap (λ x. get_or (set ws j w) x 0) e ∙ get_or-set_same ws j w 0 within ∙ same ∙ ap (λ x. get_or ws x 0) (sym e))
  | inr ne ↦ get_or-set_other ws j k w 0 ne
]

-- ---- one bit written

module _ (ws : List ℕ) (p j w v : ℕ) (b : Bool) (within : j < length ws) (word : j ≡ p / 64) (read : w ≡ get_or ws j 0) (small : v < 2 ^ 64)
    (turn : (k : ℕ) → k < 64 → bit v k ≡ cond (eqb k (p % 64)) b (bit w k)) where
  put_row_bits : (i : ℕ) → holds (set ws j v) i ≡ put ws p b i
  unfolding holds put
  put_row_bits i = elim (cases_eq (i / 64) j) [
    | inl e ↦ (let f : eqb (i % 64) (p % 64) ≡ eqb i p = grind (arith, nat_tests) in
        let old : w ≡ get_or ws (i / 64) 0 = read ∙ ap (λ x. get_or ws x 0) (sym e) in
        holds-set_same ws j v i within e ∙ turn (i % 64) (omega arith) ∙ ap₂ (λ x y. cond x b (bit y (i % 64))) f old)
    | inr ne ↦ (let f : eqb i p ≡ false = ne_eqb i p (λ e. ne (ap (λ x. x / 64) e ∙ sym word)) in
        holds-set_other ws j v i ne ∙ ap (λ x. cond x b (holds ws i)) (sym f))
  ]

  pub put_row : w < 2 ^ 64 → Rewritten (put ws p b) ws (set ws j v)
  put_row fits = record { long = length-set ws j v; bits = put_row_bits; fit = set_fit ws j v within small; rest = set_rest (put ws p b) ws j v within small (subst (λ x. x < 2 ^ 64) read fits) put_row_bits }

  pub read_bit : bit w (p % 64) ≡ holds ws p
  unfolding holds
  read_bit = ap (λ x. bit x (p % 64)) (read ∙ ap (λ x. get_or ws x 0) word)

same : (b : Bool) → cond b (not b) b ≡ false
same true = refl
same false = refl

other : (b x : Bool) → (x ≡ b → ⊥) → cond b (not x) x ≡ true
other true true ne = absurd (ne refl)
other true false ne = refl
other false true ne = refl
other false false ne = absurd (ne refl)

-- a word with bit m written is another word exactly where that turned the bit
module _ (w v m : ℕ) (b : Bool) (hw : w < 2 ^ 64) (hv : v < 2 ^ 64) (hm : m < 64) (turn : (k : ℕ) → k < 64 → bit v k ≡ cond (eqb k m) b (bit w k)) where
  kept : bit w m ≡ b → v ≡ w
  kept e = same_bits 64 v w hv hw (λ k l. turn k l ∙ elim (cases_eq k m) [
    | inl q ↦ ap (λ x. cond x b (bit w k)) (eq-eqb k m q) ∙ sym (ap (bit w) q ∙ e)
    | inr ne ↦ ap (λ x. cond x b (bit w k)) (ne_eqb k m ne)
  ])

  written : v ≡ w → bit w m ≡ b
  written e = ap (λ x. bit x m) (sym e) ∙ turn m hm ∙ ap (λ x. cond x b (bit w m)) (eq-eqb m m refl)

  pub turned : not (eqb v w) ≡ cond b (not (bit w m)) (bit w m)
  turned = elim (cases_eq v w) [
    | inl q ↦ ap not (eq-eqb v w q) ∙ sym (ap (λ y. cond b (not y) y) (written q) ∙ same b)
    | inr ne ↦ ap not (ne_eqb v w ne) ∙ sym (other b (bit w m) (λ e. ne (kept e)))
  ]

-- ---- `w | 1 << m` and `w & !(1 << m)`

bit_or_cond : (x y : Bool) → (x || y) ≡ cond y true x
bit_or_cond true true = refl
bit_or_cond true false = refl
bit_or_cond false true = refl
bit_or_cond false false = refl

bit_and_cond : (x y : Bool) → (x && not y) ≡ cond y false x
bit_and_cond true true = refl
bit_and_cond true false = refl
bit_and_cond false true = refl
bit_and_cond false false = refl

pub bit_on : (w m k : ℕ) → bit (bit_or w (2 ^ m)) k ≡ cond (eqb k m) true (bit w k)
bit_on w m k = bit-bit_or w (2 ^ m) k ∙ ap (λ x. bit w k || x) (bit-pow m k) ∙ bit_or_cond (bit w k) (eqb k m)

pub bit_off : (w m k : ℕ) → m < 64 → k < 64 → bit (bit_and w (2 ^ 64 - 1 - 2 ^ m)) k ≡ cond (eqb k m) false (bit w k)
bit_off w m k l h =
    bit-bit_and w (2 ^ 64 - 1 - 2 ^ m) k ∙ ap (λ x. bit w k && x) (bit_not 64 (2 ^ m) k (pow-lt l) h ∙ ap not (bit-pow m k)) ∙ bit_and_cond (bit w k) (eqb k m)

-- ---- the last word trimmed

pub trimmed_none : (r : ℕ) (ws : List ℕ) (i : ℕ) → r ≡ 0 → trimmed r ws i ≡ holds ws i
unfolding trimmed
trimmed_none r ws i e = ap (λ x. holds ws i && (x || ltb i (64 * (length ws - 1) + r))) (eq-eqb r 0 e) ∙ and-true (holds ws i)

pub trimmed_past : (r : ℕ) (ws : List ℕ) (i : ℕ) → holds ws i ≡ false → trimmed r ws i ≡ false
unfolding trimmed
trimmed_past r ws i e = and_left (holds ws i) (eqb r 0 || ltb i (64 * (length ws - 1) + r)) e

module _ (ws : List ℕ) (j r w v : ℕ) (last : j + 1 ≡ length ws) (some : 0 < r) (few : r < 64) (read : w ≡ get_or ws j 0) (small : v < 2 ^ 64)
    (low : (k : ℕ) → bit v k ≡ (bit w k && ltb k r)) where
  open_at : (i : ℕ) → trimmed r ws i ≡ (holds ws i && ltb i (64 * j + r))
  unfolding trimmed
  open_at i =
      let e : length ws - 1 ≡ j = omega arith in
      ap₂ (λ x y. holds ws i && (x || ltb i (64 * y + r))) (ne_eqb r 0 (λ z. omega arith)) e

  trim_bits : (i : ℕ) → holds (set ws j v) i ≡ trimmed r ws i
  unfolding holds
  trim_bits i = elim (cases_eq (i / 64) j) [
    | inl e ↦ (let f : ltb (i % 64) r ≡ ltb i (64 * j + r) = grind (arith, nat_tests) in
        let old : w ≡ get_or ws (i / 64) 0 = read ∙ ap (λ x. get_or ws x 0) (sym e) in
        holds-set_same ws j v i (omega arith) e ∙ low (i % 64) ∙ ap₂ (λ x y. bit x (i % 64) && y) old f ∙ sym (open_at i))
    | inr ne ↦ holds-set_other ws j v i ne ∙ elim (cases_lt i (64 * j)) [
      | inl l ↦ sym (open_at i ∙ ap (λ x. holds ws i && x) (lt-ltb i (64 * j + r) (omega arith)) ∙ and-true (holds ws i))
      | inr l ↦ (let past = holds_past ws i (omega arith) in past ∙ sym (trimmed_past r ws i past))
    ]
  ]

  pub trim_row : w < 2 ^ 64 → Rewritten (trimmed r ws) ws (set ws j v)
  trim_row fits = record { long = length-set ws j v; bits = trim_bits; fit = set_fit ws j v (omega arith) small; rest = set_rest (trimmed r ws) ws j v (omega arith) small (subst (λ x. x < 2 ^ 64) read fits) trim_bits }

pub trimmed_last : (ws : List ℕ) (r : ℕ) → 0 < length ws → 0 < r → r < 64 → get_or ws (length ws - 1) 0 < 2 ^ 64
    → Rewritten (trimmed r ws) ws (set ws (length ws - 1) (bit_and (get_or ws (length ws - 1) 0) (1 * 2 ^ r % 2 ^ 64 - 1)))
trimmed_last ws r some low high fits =
    let w = get_or ws (length ws - 1) 0 in
    let mask : ℕ = 1 * 2 ^ r % 2 ^ 64 - 1 in
    trim_row ws (length ws - 1) r w (bit_and w mask) (omega arith) low high refl (omega (arith, and_le_l w mask))
    (λ k. bit-bit_and w mask k ∙ ap (λ x. bit w k && x) (bit_of_ones r k high)) fits

-- where the domain ends with a word, or there is no word, there is nothing to clear
pub trimmed_whole : (ws : List ℕ) (r : ℕ) → r ≡ 0 → Rewritten (trimmed r ws) ws ws
trimmed_whole ws r e = record { long = refl; bits = λ i. sym (trimmed_none r ws i e); fit = λ k h. h; rest = λ k h. refl }

pub trimmed_empty : (ws : List ℕ) (r : ℕ) → length ws ≡ 0 → Rewritten (trimmed r ws) ws ws
trimmed_empty ws r e = record {
  long = refl;
  bits = λ i. let past = holds_past ws i (omega (arith, e)) in past ∙ sym (trimmed_past r ws i past);
  fit = λ k h. h;
  rest = λ k h. refl;
}
