-- The word is written with the bit on or off, and differs from what it was exactly where that turned the bit.
use Rattle.std.proofs.Common.{◌≡◌, ℕ, ◌-◌, ◌%◌, ◌^◌, ◌<◌, cond, not, eqb, length, get_or, sym, refl, ap, ◌∙◌, arith}
use lib.Bits.{bit_and, bit_or, or_lt, and_le_l}
use lib.Pow.{pow-lt}
use Rattle.words.specs.Bits.{bit}
use Rattle.words.proofs.RowBits.{bit_on, bit_off, put_row, read_bit, turned}
use Rattle.words.proofs.rows.write.Goals as goal
use Rattle.words.proofs.rows.write.Goals.{then-on, else-on}

abbrev at : (g : _) → goal.Joined-on g → ℕ
at g c = c.word_index_and_mask-word_index.result.0

abbrev old : (g : _) → goal.Joined-on g → ℕ
old g c = get_or c.args.words.now (at g c) 0

abbrev m : (g : _) → goal.Joined-on g → ℕ
m g c = g.T.Idx.place c.args.value % 64

turn : (g : _) (c : goal.Joined-on g) (k : ℕ) → k < 64 → bit c.if-on.new_word k ≡ cond (eqb k (m g c)) c.args.on (bit (old g c) k)
turn g c k h =
    let mask = c.word_index_and_mask-word_index.ensures.mask in
    elim c.if-on.branch [
      | then-on t ↦ ap (λ x. bit x k) (t.new_word-is ∙ ap (bit_or (old g c)) mask) ∙ bit_on (old g c) (m g c) k ∙ ap (λ b. cond (eqb k (m g c)) b (bit (old g c) k)) (sym t.if-on.true)
      | else-on t ↦ ap (λ x. bit x k) (t.new_word-is ∙ ap (λ x. bit_and (old g c) (2 ^ 64 - 1 - x)) mask) ∙ bit_off (old g c) (m g c) k (omega arith) h ∙ ap (λ b. cond (eqb k (m g c)) b (bit (old g c) k)) (sym t.if-on.false)
    ]

small : (g : _) (c : goal.Joined-on g) → c.if-on.new_word < 2 ^ 64
small g c =
    let mask = c.word_index_and_mask-word_index.ensures.mask in
    let fits : old g c < 2 ^ 64 = omega arith in
    let q : m g c < 64 = omega arith in
    elim c.if-on.branch [
      | then-on t ↦ rw (t.new_word-is ∙ ap (bit_or (old g c)) mask) (or_lt 64 (old g c) (2 ^ m g c) fits (pow-lt q))
      | else-on t ↦ omega (arith, t.new_word-is, and_le_l (old g c) (2 ^ 64 - 1 - c.word_index_and_mask-word_index.result.1))
    ]

pub returns : goal.returns
returns g c =
    let ws = c.args.words.now in
    let p = g.T.Idx.place c.args.value in
    let b = c.args.on in
    let v = c.if-on.new_word in
    let word = c.word_index_and_mask-word_index.ensures.index in
    let within : at g c < length ws = omega arith in (
      omega (arith, word),
      turned (old g c) v (m g c) b (omega arith) (small g c) (omega arith) (turn g c)
          ∙ ap (λ x. cond b (not x) x) (read_bit ws p (at g c) (old g c) v b within word refl (small g c) (turn g c)),
      put_row ws p (at g c) (old g c) v b within word refl (small g c) (turn g c) (omega arith),
    )
