-- Each call turns the sixty-four bits as it turns one.
use Rattle.std.proofs.Common.{◌+◌, ◌*◌, sym, ◌∙◌, subst}
use Rattle.words.specs.Bits.{bit}
use Rattle.mask.specs.Trials.{Named}
use Rattle.mask.proofs.Patterns.{tried_each, trial_more, trial_none}
use Rattle.mask.proofs.trials.trial_word.Goals as goal

pub trial_step-word-requires : goal.trial_step-word-requires
trial_step-word-requires g c =
    subst (Named 16) (sym c.c-item.is) (tried_each c.args.calls.now c.requires c.loop-c.c-index c.c-item.result c.loop-c-test.true)

pub loop-c-preserved : goal.loop-c-preserved
loop-c-preserved g c k h =
    trial_more g.T.Idx.place g.O.Operator.table (λ j. bit (64 * c.args.round + k) (j + 1)) (bit c.loop-c.word k) (bit c.trial_step-word.result k)
    c.args.calls.now c.loop-c.c-index c.c-item.result c.loop-c-test.true c.c-item.is (c.trial_step-word.ensures k h)
    ∙ c.loop-c.invariant k h

pub returns : goal.returns
returns g c k h =
    trial_none g.T.Idx.place g.O.Operator.table (λ j. bit (64 * c.args.round + k) (j + 1)) (bit c.loop-c.word k) c.args.calls.now c.loop-c.c-index c.loop-c-test.false
    ∙ c.loop-c.invariant k h
