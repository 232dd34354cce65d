use Rattle.std.proofs.Common.{◌*◌, ◌/◌, ap, ◌∙◌, arith}
use Rattle.splice.proofs.Columns.{shared_out}
use Rattle.splice.proofs.strip.Columns.start.Goals as goal

pub returns-clause-value : goal.returns-clause-value
returns-clause-value c =
    let n = c.args.self.samples in
    let j = c.args.column in
    shared_out j n c.count-count.result (omega (arith, c.requires.some, c.count-count.ensures)) ∙ ap (λ x. j * n / x) c.count-count.ensures
