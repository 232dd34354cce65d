-- A row of zeros has no sample.
use Rattle.std.proofs.Common.{arith, rules}
use Rattle.splice.proofs.Splicing.{holds_none}
use Rattle.splice.proofs.episode.Episode.new.Goals as goal

pub invariant_of-result : goal.invariant_of-result
invariant_of-result c = record { small = omega arith; rows = search rules; ends = λ i l. search (rules, holds_none) }
