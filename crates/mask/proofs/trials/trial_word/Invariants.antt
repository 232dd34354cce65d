use Rattle.std.proofs.Common.{◌≡◌, ℕ, ◌+◌, ◌*◌, ◌<◌, drop}
use Rattle.words.specs.Bits.{bit}
use Rattle.mask.specs.Trials.{trial, pattern_trial}
use Rattle.mask.proofs.trials.trial_word.Given as goal

-- what is left of the list, from the bits so far, leaves what the whole list leaves
abbrev pub invariant-loop-c : goal.invariant-loop-c
invariant-loop-c g l =
    (k : ℕ) → k < 64
    → trial g.T.Idx.place g.O.Operator.table (λ j. bit (64 * l.round + k) (j + 1)) (bit l.word k) (drop l.c-index l.calls)
    ≡ pattern_trial g.T.Idx.place g.O.Operator.table (64 * l.round + k) l.calls
