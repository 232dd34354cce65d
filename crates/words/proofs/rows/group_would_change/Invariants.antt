use Rattle.std.proofs.Common.{◌≡◌}
use Rattle.words.proofs.Updating.{Alike}
use Rattle.words.proofs.rows.group_would_change.Given as goal

abbrev pub invariant-loop-k : goal.invariant-loop-k
invariant-loop-k g l = (l.changed ≡ 0 → Alike (g.O.Operator.table l.op) l.lhs l.rhs 0 l.k) × (Alike (g.O.Operator.table l.op) l.lhs l.rhs 0 l.k → l.changed ≡ 0)
