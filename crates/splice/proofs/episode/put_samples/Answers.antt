-- Each sample is put beside those before it.
use Rattle.std.proofs.Common.{rules}
use Rattle.splice.proofs.Splicing.{put_none, put_more, put_last}
use Rattle.splice.proofs.episode.put_samples.Goals as goal

pub loop-sample-init : goal.loop-sample-init
loop-sample-init c = search (rules, put_none)

pub loop-sample-preserved : goal.loop-sample-preserved
loop-sample-preserved c = search (rules, put_more)

pub returns-2-clause-bits : goal.returns-2-clause-bits
returns-2-clause-bits c = search (rules, put_last)
