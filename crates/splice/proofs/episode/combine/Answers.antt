-- Laying combines by `Or`, and lifting by `And` with the advert's complement.
use Rattle.std.proofs.Common.{rules}
use Rattle.splice.proofs.Splicing.{combined_by_lay, combined_by_lift}
use Rattle.splice.proofs.episode.combine.Goals as goal

pub returns-in-Lay : goal.returns-in-Lay
returns-in-Lay c = search (rules, combined_by_lay)

pub returns-in-Lift : goal.returns-in-Lift
returns-in-Lift c = search (rules, combined_by_lift)
