-- The mask keeps the bits below the index, and past the row's end there are none.
use Rattle.std.proofs.Common.{rules}
use Rattle.splice.proofs.Counting.{masked_count, past_count}
use Rattle.splice.proofs.strip.advert_before.Goals as goal

pub returns-in-Some : goal.returns-in-Some
returns-in-Some c = search (rules, masked_count)

pub returns-in-None : goal.returns-in-None
returns-in-None c = search (rules, past_count)
