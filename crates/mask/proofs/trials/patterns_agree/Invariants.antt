use Rattle.std.proofs.Common.{◌≡◌, ℕ, ◌*◌, ◌<◌}
use Rattle.mask.specs.Trials.{pattern_trial}
use Rattle.mask.proofs.trials.patterns_agree.Given as goal

abbrev pub invariant-loop-round : goal.invariant-loop-round
invariant-loop-round g l =
    (v : ℕ) → v < 64 * l.round → pattern_trial g.T.Idx.place g.O.Operator.table v l.xs ≡ pattern_trial g.T.Idx.place g.O.Operator.table v l.ys
