-- The last word loses its bits past the domain, and where there is none, or the domain ends with it, nothing does.
use Rattle.std.proofs.Common.{◌≡◌, ℕ, ◌-◌, ◌*◌, ◌%◌, ◌^◌, bit_and, length, get_or, set, sym, subst, rules, arith}
use Rattle.std.proofs.lemmas.Bool.{ltb-true, ltb-false}
use Rattle.words.specs.Rows.{Rewritten, trimmed}
use Rattle.words.proofs.RowBits.{trimmed_last, trimmed_whole, trimmed_empty}
use Rattle.words.proofs.rows.clear_excess_bits_in_final_word.Goals as goal

pub returns-in-Some : goal.returns-in-Some
returns-in-Some c =
    let ws = c.args.words.now in
    let r = c.args.domain_size % 64 in
    let is : c.in-Some.last.now ≡ get_or ws (length ws - 1) 0 = c.in-Some.ensures.item.4 (omega arith) 0 in
    let some = ltb-true 0 (length ws) (sym c.in-Some.ensures.item.0) in
    subst (λ (w : ℕ). Rewritten (trimmed r ws) ws (set ws (length ws - 1) (bit_and w (1 * 2 ^ r % 2 ^ 64 - 1)))) (sym is)
    (trimmed_last ws r some (omega arith) (omega arith) (search (rules, is)))

pub returns-in_default : goal.returns-in_default
returns-in_default c =
    trimmed_empty c.args.words.now (c.args.domain_size % 64) (omega (arith, ltb-false 0 (length c.args.words.now) (sym c.in_default.ensures.item.0)))

pub returns-else-num_bits_in_final_word-gt0 : goal.returns-else-num_bits_in_final_word-gt0
returns-else-num_bits_in_final_word-gt0 c = trimmed_whole c.args.words.now (c.args.domain_size % 64) (omega arith)
