-- What a call leaves of an episode.
--   IsClear      an episode of n samples as it begins, without advert
--   IsUnchanged  an episode is as it was
--   ChangesBy    a step was worked on an episode; a step that lays an advert is noted, and the rest is as it was
use Rattle.std.specs.Prelude.{◌≡◌, ℕ, [], replicate}
use Rattle.words.specs.Bits.{words_for}
use Rattle.splice.specs.declared.episode.Episode.{Episode}
use Rattle.splice.specs.declared.episode.Report.{Report}
use Rattle.splice.specs.declared.steps.Step.{Step}
use Rattle.splice.specs.Masks.{noted, Worked}

pub record IsClear (n : ℕ) (episode : Episode) : Type 0 where
  pub samples : episode.samples ≡ n
  pub mask : episode.mask.items ≡ replicate (words_for n) 0
  pub began : episode.began.items ≡ replicate (words_for n) 0
  pub laid : episode.laid.items ≡ []

pub record IsUnchanged (old new : Episode) : Type 0 where
  pub samples : new.samples ≡ old.samples
  pub mask : new.mask.items ≡ old.mask.items
  pub began : new.began.items ≡ old.began.items
  pub laid : new.laid.items ≡ old.laid.items

pub record ChangesBy (step : Step) (old new : Episode) (report : Report) : Type 0 where
  pub samples : new.samples ≡ old.samples
  pub mask : Worked step old.samples old.mask.items new.mask.items report
  pub began : new.began.items ≡ old.began.items
  pub laid : new.laid.items ≡ noted step.call old.laid.items step
