-- Counts of a row's set bits from one index to another.
use Rattle.std.proofs.Common.{◌≡◌, ℕ, ◌+◌, ◌-◌, ◌*◌, ◌/◌, ◌%◌, ◌^◌, ◌<◌, ◌≤◌, ◌&&◌, ltb, List, [], ◌∷◌, length, get_or, take, drop, sym, ap, ◌∙◌, ap₂, zero-add, arith, pow_pos}
use lib.Bits.{bit_and}
use lib.Count.{ones}
use Rattle.std.proofs.lemmas.Nat.{and_le_r}
use Rattle.std.proofs.Math.Bool.{and-true, and-false}
use Rattle.std.proofs.lemmas.Bool.{lt-ltb, le-ltb}
use Rattle.words.specs.Bits.{bit, holds, tally, set_bits}
use Rattle.words.proofs.Bitwise.{bit-bit_and, bit_ones, ones_tally}
use Rattle.words.proofs.RowBits.{holds_word, holds_past, holds_part, length_part}
use Rattle.words.proofs.Tallies.{tally_le, tally_add, tally_same, tally_none, tally_trim}

-- the first k bits of word j
pub low_count : (ws : List ℕ) (j k w : ℕ) → k < 64 → w ≡ get_or ws j 0 → ones (bit_and w (2 ^ k - 1)) ≡ tally (holds ws) (64 * j) k
low_count ws j k w l e =
    let v = bit_and w (2 ^ k - 1) in
    let small : v < 2 ^ k = omega (arith, and_le_r w (2 ^ k - 1), pow_pos k) in
    ones_tally k v small
    ∙ tally_same (bit v) (holds ws) 0 (64 * j) k (λ i h.
    rw zero-add
    (bit-bit_and w (2 ^ k - 1) i ∙ ap (λ x. bit w i && x) (bit_ones k i ∙ lt-ltb i k h) ∙ and-true (bit w i) ∙ ap (λ x. bit x i) e ∙ sym (holds_word ws j i (omega arith))))

-- the bits of the word that has index s, below s
pub masked_count : (ws : List ℕ) (s w m : ℕ) → w ≡ get_or ws (s / 64) 0 → ((b : ℕ) → b < 64 → bit m b ≡ ltb (64 * (s / 64) + b) s)
    → set_bits (bit_and w m ∷ []) % 2 ^ 64 ≡ tally (holds ws) (64 * (s / 64)) (s % 64)
unfolding set_bits
masked_count ws s w m is below =
    let j : ℕ = s / 64 in
    let k : ℕ = s % 64 in
    let row : List ℕ = bit_and w m ∷ [] in
    let masked : (b : ℕ) → b < 64 → holds row b ≡ (bit w b && ltb (64 * j + b) s) = λ b h.
    (rw zero-add at (holds_word row 0 b h)) ∙ bit-bit_and w m b ∙ ap (λ x. bit w b && x) (below b h) in
    let trimmed = tally_trim (holds row) k 64 (omega arith) (λ b l h. masked b h ∙ ap (λ x. bit w b && x) (le-ltb (64 * j + b) s (omega arith)) ∙ and-false (bit w b)) in
    let same = tally_same (holds row) (holds ws) 0 (64 * j) k (λ b h.
    rw zero-add
    (masked b (omega arith) ∙ ap (λ x. bit w b && x) (lt-ltb (64 * j + b) s (omega arith)) ∙ and-true (bit w b) ∙ ap (λ x. bit x b) is ∙ sym (holds_word ws j b (omega arith)))) in
    omega (arith, trimmed, same, tally_le (holds ws) (64 * j) k)

pub past_count : (ws : List ℕ) (j k : ℕ) → length ws ≤ j → tally (holds ws) (64 * j) k ≡ 0
past_count ws j k l = tally_none (holds ws) (64 * j) k (λ i h. holds_past ws (64 * j + i) (omega arith))

-- the words from a on, m of them
pub part_count : (ws : List ℕ) (a m : ℕ) → a + m ≤ length ws → set_bits (take m (drop a ws)) ≡ tally (holds ws) (64 * a) (64 * m)
unfolding set_bits
part_count ws a m h =
    ap (λ x. tally (holds (take m (drop a ws))) 0 (64 * x)) (length_part ws a m h)
    ∙ tally_same (holds (take m (drop a ws))) (holds ws) 0 (64 * a) (64 * m) (λ i l. rw zero-add (holds_part ws a m i l))

module _ (ws : List ℕ) (s e w before : ℕ) (order : s ≤ e) (within : e ≤ 64 * length ws) (fits : e < 2 ^ 64)
    (whole : w ≡ set_bits (take (e / 64 - s / 64) (drop (s / 64) ws)) % 2 ^ 64) (low : before ≡ tally (holds ws) (64 * (e / 64)) (e % 64)) where
  whole_is : w ≡ tally (holds ws) (64 * (s / 64)) (64 * (e / 64 - s / 64))
  whole_is =
      let m = e / 64 - s / 64 in
      let p = part_count ws (s / 64) m (omega arith) in
      omega (arith, p, tally_le (holds ws) (64 * (s / 64)) (64 * m))

  pub between_fits : w + before < 2 ^ 64
  between_fits = omega (arith, whole_is, tally_le (holds ws) (64 * (s / 64)) (64 * (e / 64 - s / 64)), tally_le (holds ws) (64 * (e / 64)) (e % 64))

  -- both sides count from the first bit of the start's word to the end
  pub between_count : w + before ≡ tally (holds ws) (64 * (s / 64)) (s % 64) + tally (holds ws) s (e - s)
  between_count =
      let p = holds ws in
      let a : ℕ = s / 64 in
      let m : ℕ = e / 64 - s / 64 in
      let same : 64 * m + e % 64 ≡ s % 64 + (e - s) = omega arith in
      let at_end : 64 * a + 64 * m ≡ 64 * (e / 64) = omega arith in
      let at_start : 64 * a + s % 64 ≡ s = omega arith in
      ap₂ (λ x y. x + y) whole_is (low ∙ ap (λ x. tally p x (e % 64)) (sym at_end))
      ∙ sym (tally_add p (64 * a) (64 * m) (e % 64))
      ∙ ap (tally p (64 * a)) same
      ∙ tally_add p (64 * a) (s % 64) (e - s)
      ∙ ap (λ x. tally p (64 * a) (s % 64) + tally p x (e - s)) at_start

  module _ (skipped : ℕ) (lead : skipped ≡ tally (holds ws) (64 * (s / 64)) (s % 64)) where
    pub between_covers : skipped ≤ w + before
    between_covers = omega (arith, between_count)

    pub between_counts : w + before - skipped ≡ tally (holds ws) s (e - s)
    between_counts = omega (arith, between_count)
