-- A number's six lowest bits tell the patterns of a round apart; its other bits are the round's.
use Rattle.std.proofs.Common.{ℕ, List, [], ◌∷◌, sym, refl, ◌∙◌}
use Rattle.std.proofs.lemmas.Bool.{lt-ltb, eq-eqb, ne_eqb}
use Rattle.words.specs.Bits.{bit}
use Rattle.words.proofs.Bitwise.{bit_none, bit_ones}
use Rattle.mask.proofs.Patterns.{bit_low_part, bit_high_part, table_rule}
use Rattle.mask.proofs.trials.pattern_word.Goals as goal

low_bits : List ℕ
low_bits =
    0xAAAA_AAAA_AAAA_AAAA ∷ 0xCCCC_CCCC_CCCC_CCCC ∷ 0xF0F0_F0F0_F0F0_F0F0 ∷ 0xFF00_FF00_FF00_FF00 ∷ 0xFFFF_0000_FFFF_0000 ∷ 0xFFFF_FFFF_0000_0000 ∷ []

pub returns-then-b-lt6 : goal.returns-then-b-lt6
unfolding bit low_bits
returns-then-b-lt6 c k h =
    table_rule 6 low_bits refl c.args.b k c.if-b-lt6.true h ∙ sym (bit_low_part 6 c.args.round k c.args.b c.if-b-lt6.true)

pub returns-then-round-b-eq1 : goal.returns-then-round-b-eq1
unfolding bit
returns-then-round-b-eq1 c k h =
    bit_ones 64 k ∙ lt-ltb k 64 h ∙ sym (bit_high_part 6 c.args.round k c.args.b h c.if-b-lt6.false ∙ eq-eqb _ 1 c.if-round-b-eq1.true)

pub returns-else-round-b-eq1 : goal.returns-else-round-b-eq1
unfolding bit
returns-else-round-b-eq1 c k h =
    bit_none k ∙ sym (bit_high_part 6 c.args.round k c.args.b h c.if-b-lt6.false ∙ ne_eqb _ 1 c.if-round-b-eq1.false)
