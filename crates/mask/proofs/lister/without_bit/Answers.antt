-- The bit is cleared and no other, and a number that lost a bit is smaller.
use Rattle.std.proofs.Common.{◌≡◌, ℕ, ◌-◌, ◌*◌, ◌%◌, ◌^◌, ◌<◌, true, false, cond, eqb, sym, refl, ap, ◌∙◌, inl, inr, true≢false, arith}
use lib.Bits.{bit_and, and_le_l}
use Rattle.std.proofs.lemmas.Nat.{one_shl}
use Rattle.std.proofs.lemmas.Bool.{cases_eq, eq-eqb}
use Rattle.words.specs.Bits.{bit}
use Rattle.words.proofs.RowBits.{bit_off}
use Rattle.mask.proofs.lister.without_bit.Goals as goal

cleared : (w k b : ℕ) → k < 64 → b < 64 → bit (bit_and w (2 ^ 64 - 1 - (1 * 2 ^ k) % 2 ^ 64)) b ≡ cond (eqb b k) false (bit w b)
cleared w k b hk hb = ap (λ x. bit (bit_and w (2 ^ 64 - 1 - x)) b) (one_shl k 64 hk) ∙ bit_off w k b hk hb

smaller : (w v k : ℕ) → v ≡ bit_and w (2 ^ 64 - 1 - (1 * 2 ^ k) % 2 ^ 64) → k < 64 → bit w k ≡ true → v < w
smaller w v k e hk set = elim (cases_eq v w) [
  | inl q ↦ absurd (true≢false (sym set ∙ ap (λ x. bit x k) (sym q ∙ e) ∙ cleared w k k hk hk ∙ ap (λ x. cond x false (bit w k)) (eq-eqb k k refl)))
  | inr ne ↦ omega (arith, and_le_l w (2 ^ 64 - 1 - (1 * 2 ^ k) % 2 ^ 64))
]

pub returns : goal.returns
returns c = record {
  less = smaller c.args.word _ c.args.k refl c.requires.inside c.requires.set;
  bits = λ b h. cleared c.args.word c.args.k b c.requires.inside h;
}
