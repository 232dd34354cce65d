-- The groups of both rows are looked at in turn, up to one that would change.
use Rattle.std.proofs.Common.{true, false, ◌≡◌, ap, ◌∙◌, rules}
use borrow.Author.Tests.{tests}
use Rattle.std.proofs.lemmas.Iterator.{cases_from_any, YieldsList-from_zip}
use Rattle.std.specs.Slice.Iter.{chunks_rest, chunks_size}
use Rattle.words.specs.Rows.{modifies}
use Rattle.words.proofs.Groups.{groups_given, groups_modify}
use Rattle.words.proofs.rows.would_modify_words.Goals as goal

pub returns : goal.returns
returns g c =
    let t = g.O.Operator.table c.args.op.now in
    groups_modify t c.args.lhs.now c.args.rhs.now c.any.result
    (cases_from_any c.any.new.self _ c.any.result (λ p. modifies t p.0 p.1 ≡ true) (λ p. modifies t p.0 p.1 ≡ false) c.any.ensures.ran
    (YieldsList-from_zip
    (groups_given c.zip.result.a c.args.lhs.now (ap chunks_size c.zip.ensures.first ∙ c.chunks.ensures.size) (ap chunks_rest c.zip.ensures.first ∙ c.chunks.ensures.rest))
    (groups_given c.zip.result.b c.args.rhs.now (ap chunks_size c.zip.ensures.second ∙ c.chunks-2.ensures.size) (ap chunks_rest c.zip.ensures.second ∙ c.chunks-2.ensures.rest)))
    (λ x q k. search (rules, tests)) (λ x q k. search (rules, tests)))
