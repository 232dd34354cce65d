-- 0 has no bit, and the largest word has every one.
use Rattle.std.proofs.Common.{◌∙◌}
use Rattle.std.proofs.lemmas.Bool.{lt-ltb}
use Rattle.words.proofs.Bitwise.{bit_none, bit_ones}
use Rattle.mask.proofs.trials.trial_step.Goals as goal

pub returns-in-Clear : goal.returns-in-Clear
returns-in-Clear g c k h = rw c.in-Clear.is (bit_none k)

pub returns-in-InsertAll : goal.returns-in-InsertAll
returns-in-InsertAll g c k h = rw c.in-InsertAll.is (bit_ones 64 k ∙ lt-ltb k 64 h)
