-- A row of zeros has no sample.
use Rattle.std.proofs.Common.{rules}
use Rattle.splice.proofs.Splicing.{holds_none}
use Rattle.splice.proofs.episode.advert_row.Goals as goal

pub put_samples-requires-clause-none : goal.put_samples-requires-clause-none
put_samples-requires-clause-none c = λ i. search (rules, holds_none)
