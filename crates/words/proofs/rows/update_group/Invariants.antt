use Rattle.words.proofs.Updating.{Partly}
use Rattle.words.proofs.rows.update_group.Given as goal

abbrev pub invariant-loop-k : goal.invariant-loop-k
invariant-loop-k g l = Partly (g.O.Operator.table l.op) l.initial.lhs l.rhs l.lhs l.k l.entered l.left
