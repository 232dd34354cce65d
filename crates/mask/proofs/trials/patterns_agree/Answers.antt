-- Words that differ, differ at a pattern; and the rounds have every pattern.
use Rattle.std.proofs.Common.{ℕ, Bool, arith}
use Rattle.mask.specs.Trials.{pattern_trial}
use Rattle.mask.proofs.Patterns.{round_alike, round_more, agree_on, agree_on_all}
use Rattle.mask.proofs.trials.patterns_agree.Goals as goal

pub returns-then-trial_word : goal.returns-then-trial_word
returns-then-trial_word g c agree =
    let F : ℕ → Bool = λ v. pattern_trial g.T.Idx.place g.O.Operator.table v c.args.xs.now in
    let G : ℕ → Bool = λ v. pattern_trial g.T.Idx.place g.O.Operator.table v c.args.ys.now in
    c.if-trial_word.true (
    round_alike F G c.loop-round.round c.trial_word.result c.trial_word-in-loop-round.result c.trial_word.ensures c.trial_word-in-loop-round.ensures
    c.trial_word.type_inv c.trial_word-in-loop-round.type_inv (agree_on g.T.Idx.place g.O.Operator.table c.args.xs.now c.args.ys.now agree))

pub loop-round-preserved : goal.loop-round-preserved
loop-round-preserved g c =
    let F : ℕ → Bool = λ v. pattern_trial g.T.Idx.place g.O.Operator.table v c.args.xs.now in
    let G : ℕ → Bool = λ v. pattern_trial g.T.Idx.place g.O.Operator.table v c.args.ys.now in
    round_more F G c.loop-round.round c.trial_word.result c.trial_word-in-loop-round.result c.trial_word.ensures c.trial_word-in-loop-round.ensures c.if-trial_word.false c.loop-round.invariant

pub returns : goal.returns
returns g c =
    agree_on_all g.T.Idx.place g.O.Operator.table c.args.xs.now c.args.ys.now c.requires.first c.requires.second
    (λ v h. c.loop-round.invariant v (omega (arith, c.loop-round-test.false)))
