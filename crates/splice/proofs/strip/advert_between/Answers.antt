-- What lies before the start is counted once with the whole words and then taken away.
use Rattle.std.proofs.Common.{rules}
use Rattle.splice.proofs.Counting.{between_fits, between_covers, between_counts}
use Rattle.splice.proofs.strip.advert_between.Goals as goal

pub overflow_add-result : goal.overflow_add-result
overflow_add-result c = search (rules, between_fits)

pub overflow_sub-result : goal.overflow_sub-result
overflow_sub-result c = search (rules, between_covers)

pub returns : goal.returns
returns c = search (rules, between_counts)
