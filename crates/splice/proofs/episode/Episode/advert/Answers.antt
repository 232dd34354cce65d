-- No bit past the last sample is set, so the set bits are the samples that are advert.
use Rattle.std.proofs.Common.{rules}
use Rattle.splice.proofs.Splicing.{count_all}
use Rattle.splice.proofs.episode.Episode.advert.Goals as goal

pub returns : goal.returns
returns c = search (rules, count_all)
