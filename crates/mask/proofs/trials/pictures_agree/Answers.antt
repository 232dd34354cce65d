-- The trials decide whether the pictures are equal, for any kind of mask.
use Rattle.mask.proofs.Decides.{trials_decide}
use Rattle.mask.specs.Trials.{untried_call}
use Rattle.mask.proofs.Firsts.{none_both}
use Rattle.mask.proofs.Patterns.{tried_plain, tells_like}
use Rattle.mask.proofs.trials.pictures_agree.Goals as goal

pub patterns_agree-requires : goal.patterns_agree-requires
patterns_agree-requires g c = let t = none_both untried_call c.args.xs.now c.args.ys.now c.requires in record { first = t.0; second = t.1 }

pub returns : goal.returns
returns g c =
    let xs = c.args.xs.now in
    let ys = c.args.ys.now in
    let tried = none_both untried_call xs ys c.requires in
    let decided = trials_decide g.T.Idx.place g.O.Operator.table g.M.Mask.kind g.met.M.Mask.laws.long g.met.M.Mask.laws.empty g.met.M.Mask.laws.full g.met.M.Mask.laws.seen g.met.M.Mask.laws.shown g.met.M.Mask.laws.spans xs ys (tried_plain xs tried.0) (tried_plain ys tried.1) in
    (c.requires, c.patterns_agree.ensures, λ m pos. tells_like c.patterns_agree.result (decided m pos).0 (decided m pos).1 c.patterns_agree.ensures)
