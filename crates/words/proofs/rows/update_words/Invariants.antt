use Rattle.std.proofs.Common.{◌≡◌, ◌-◌, min, length}
use Rattle.words.proofs.Updating.{Partly}
use Rattle.words.proofs.rows.update_words.Given as goal

-- the words of the groups so far are written, of which the last may be short
abbrev pub invariant-loop-start : goal.invariant-loop-start
invariant-loop-start g l =
    (l.shared ≡ min (length l.lhs) (length l.rhs))
    × Partly (g.O.Operator.table l.op) l.initial.lhs l.rhs l.lhs (min l.start l.shared) l.entered l.left

abbrev pub decreases-loop-start : goal.decreases-loop-start
decreases-loop-start g l = l.shared - l.start
