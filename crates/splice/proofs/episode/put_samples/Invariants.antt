use Rattle.splice.proofs.Splicing.{SoFar}
use Rattle.splice.proofs.episode.put_samples.Given as goal

-- the row has the samples before this one
abbrev pub invariant-loop-sample : goal.invariant-loop-sample
invariant-loop-sample l = SoFar l.fn.step.first l.row l.sample
