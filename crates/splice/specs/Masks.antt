-- What a step makes of an episode's mask, a row of words whose bit i is sample i.
--   between    whether sample i lies in an advert from first to last
--   HasAdvert  a row has a step's samples, and no other
--   after      whether a sample is advert after a call, by whether it was and whether it lies in the call's advert
--   gained     how many of n samples are out of one row and in another
--   Combined   a row became another by a call with an advert's row, and a report says how many bits entered and left
--   noted      the steps that laid an advert, with one step more
--   Worked     a step was worked on an episode of n samples
use Rattle.std.specs.Prelude.{◌≡◌, ℕ, ◌*◌, Bool, not, ◌&&◌, ◌||◌, List, [], ◌∷◌, ◌++◌, length, nat_le}
use Rattle.words.specs.Bits.{holds, tally}
use Rattle.words.specs.Rows.{enters, capped}
use Rattle.splice.specs.declared.episode.Report.{Report}
use Rattle.splice.specs.declared.steps.Call.{Call}
use Rattle.splice.specs.declared.steps.Call.TheVariants.{Lay, Lift}
use Rattle.splice.specs.declared.steps.Step.{Step}
use Rattle.splice.specs.Steps.{IsInside}
use Rattle.splice.specs.Strips.{Drawn}

abbrev pub between : ℕ → ℕ → ℕ → Bool
between first last i = nat_le first i && nat_le i last

abbrev pub HasAdvert : Step → List ℕ → Type 0
HasAdvert step ws = (i : ℕ) → holds ws i ≡ between step.first step.last i

abbrev pub after : Call → Bool → Bool → Bool
after Lay was advert = was || advert
after Lift was advert = was && not advert

abbrev pub gained : ℕ → List ℕ → List ℕ → ℕ
gained n old new = tally (λ i. enters (holds old i) (holds new i)) 0 n

pub record Combined (call : Call) (old advert new : List ℕ) (entered left : ℕ) : Type 0 where
  pub long : length new ≡ length old
  pub bits : (i : ℕ) → holds new i ≡ after call (holds old i) (holds advert i)
  pub came : entered ≡ capped (gained (64 * length old) old new)
  pub went : left ≡ capped (gained (64 * length old) new old)

abbrev pub noted : Call → List Step → Step → List Step
noted Lay laid step = laid ++ step ∷ []
noted Lift laid step = laid

pub record Worked (step : Step) (n : ℕ) (old new : List ℕ) (r : Report) : Type 0 where
  pub inside : IsInside step n
  pub samples : (i : ℕ) → holds new i ≡ after step.call (holds old i) (between step.first step.last i)
  pub entered : r.entered ≡ gained n old new
  pub left : r.left ≡ gained n new old
  pub advert : r.advert ≡ tally (holds new) 0 n
  pub strip : Drawn n new r.strip
