-- What a line does to the episode, which there is once a line gave its length.
--   Kept      the episode is as it was
--   Begins    an episode of n samples without advert begins
--   Works     a step is worked on the episode
--   Explains  a fault is one that a line can have at what there is of an episode
--   Told      what a line answers and leaves; a line that is refused changes nothing
use Rattle.std.specs.Prelude.{◌≡◌, ℕ, ◌<◌, ◌≤◌, Some, None, Ok, Err, Option, Result, IsSome, IsSomeAnd, MatchOption}
use Rattle.splice.specs.declared.lines.Outcome.{Outcome}
use Rattle.splice.specs.declared.lines.Outcome.TheVariants.{Began, Worked}
use Rattle.splice.specs.declared.episode.Episode.{Episode}
use Rattle.splice.specs.declared.episode.Report.{Report}
use Rattle.splice.specs.declared.fault.Fault.{Fault}
use Rattle.splice.specs.declared.fault.Fault.TheVariants.{NotText, Unreadable, LengthUnknown, LengthKnown, Backward, PastEnd, Memory}
use Rattle.splice.specs.declared.steps.Step.{Step}
use Rattle.splice.specs.Episodes.{IsClear, IsUnchanged, ChangesBy}

abbrev pub Kept : Option Episode → Option Episode → Type 0
Kept old new = MatchOption old (new ≡ None) (λ was. IsSomeAnd new (IsUnchanged was))

abbrev pub Begins : Option Episode → Option Episode → ℕ → Type 0
Begins old new n = (old ≡ None) × IsSomeAnd new (IsClear n)

abbrev pub Works : Option Episode → Option Episode → Step → Report → Type 0
Works old new s r = IsSomeAnd old (λ was. IsSomeAnd new (λ now. ChangesBy s was now r))

abbrev pub Explains : Option Episode → Fault → Type 0
Explains old NotText = ⊥
Explains old (Unreadable text form) = Unit {0}
Explains old LengthUnknown = old ≡ None
Explains old LengthKnown = IsSome old
Explains old (Backward first last) = IsSomeAnd old (λ was. last < first)
Explains old (PastEnd last samples) = IsSomeAnd old (λ was. (samples ≡ was.samples) × (samples ≤ last))
Explains old (Memory samples) = MatchOption old (Unit {0}) (λ was. samples ≡ was.samples)

abbrev pub Told : Option Episode → Option Episode → Result (Option Outcome) Fault → Type 0
Told old new (Ok None) = Kept old new
Told old new (Ok (Some (Began n))) = Begins old new n
Told old new (Ok (Some (Worked s r))) = Works old new s r
Told old new (Err fault) = Kept old new × Explains old fault
