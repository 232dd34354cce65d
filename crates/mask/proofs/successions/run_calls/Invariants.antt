use Rattle.std.proofs.Common.{◌≡◌, List, map, length, get_or}
use Rattle.mask.specs.Collectors.{Gathered}
use Rattle.mask.specs.Kinds.{Kept}
use Rattle.mask.specs.Machine.{Report}
use Rattle.mask.specs.Trials.{move}
use Rattle.mask.proofs.Running.{Midway}
use Rattle.mask.proofs.successions.run_calls.Given as goal

abbrev pub invariant-loop-c : goal.invariant-loop-c
invariant-loop-c g l =
    (done : List Report)
    × Gathered done l.initial.reports l.reports
    × (length done ≡ l.c-index)
    × ((d : g.row.M.Denot) → Midway (g.M.Mask.kind.domain l.initial.mask) (g.M.Mask.kind.rule l.initial.mask) (g.M.Mask.kind.members l.initial.mask)
    (map (move g.T.Idx.place g.O.Operator.table g.M.Mask.kind (λ j. get_or l.row j d)) l.calls) done (g.M.Mask.kind.members l.mask) l.c-index)
    × Kept g.M.Mask.kind l.initial.mask l.mask
