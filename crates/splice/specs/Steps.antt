-- What reading a line answers, and when a step is refused.
--   Number       a word is read as a decimal number of 64 bits, or not at all
--   StepRead     two words are read as the first and the last sample of a call, or not at all
--   word         the word of a call
--   CallRead     a word is read as a call, or is that of none
--   NumberAt     there is a word, and it is read as n
--   Says         what four words say
--   Asks         the form in which a line was to be written, by the word that it begins with
--   WordsRead    four words are read as what they say; where they say nothing, the form is told
--   text_of      the text behind a reference, where there is one
--   Misread      a fault of reading: the line cannot be read
--   IsInside     a step's samples lie in order within an episode of n samples
--   Refused      a step's fault in an episode of n samples; a first sample after the last is told before an end past the episode's
--   Within       a step that lies within an episode of n samples passes, any other is refused
use Rattle.std.specs.Prelude.{◌≡◌, ◌≢◌, ℕ, ◌^◌, ◌<◌, ◌≤◌, ◌⊎◌, List, Some, None, Ok, Err, codes, Option, Result}
use Rattle.std.specs.Borrow.{Bor}
use Rattle.std.specs.Option.{SomeIff, option_map}
use Rattle.std.specs.Str.Parse.{IsNumeral, digits_value, without_leading_plus}
use Rattle.splice.specs.declared.fault.Fault.{Fault}
use Rattle.splice.specs.declared.fault.Fault.TheVariants.{NotText, Unreadable, LengthUnknown, LengthKnown, Backward, PastEnd, Memory}
use Rattle.splice.specs.declared.fault.Form.{Form}
use Rattle.splice.specs.declared.fault.Form.TheVariants.{Length as LengthForm, Step as StepForm, Any as AnyForm}
use Rattle.splice.specs.declared.steps.Call.{Call}
use Rattle.splice.specs.declared.steps.Call.TheVariants.{Lay, Lift}
use Rattle.splice.specs.declared.steps.Line.{Line}
use Rattle.splice.specs.declared.steps.Line.TheVariants.{Length, Work}
use Rattle.splice.specs.declared.steps.Step.{Step}

abbrev pub Number : List ℕ → Option ℕ → Type 0
Number word r = SomeIff r (IsNumeral 10 (without_leading_plus word) × (digits_value 10 (without_leading_plus word) < 2 ^ 64)) (digits_value 10 (without_leading_plus word))

abbrev pub StepRead : Call → List ℕ → List ℕ → Option Step → Type 0
StepRead call first last None = Number first None ⊎ Number last None
StepRead call first last (Some s) = (s.call ≡ call) × Number first (Some s.first) × Number last (Some s.last)

abbrev pub word : Call → List ℕ
word Lay = codes "lay"
word Lift = codes "lift"

abbrev pub CallRead : List ℕ → Result Call Form → Type 0
CallRead text (Ok call) = text ≡ word call
CallRead text (Err form) = (form ≡ AnyForm) × ((call : Call) → text ≢ word call)

abbrev pub NumberAt : Option (List ℕ) → ℕ → Type 0
NumberAt None n = ⊥
NumberAt (Some word) n = Number word (Some n)

abbrev pub Says : Option (List ℕ) → Option (List ℕ) → Option (List ℕ) → Option (List ℕ) → Line → Type 0
Says a b c d (Length n) = (a ≡ Some (codes "episode")) × NumberAt b n × (c ≡ None) × (d ≡ None)
Says a b c d (Work s) = (a ≡ Some (word s.call)) × NumberAt b s.first × NumberAt c s.last × (d ≡ None)

abbrev pub Asks : Option (List ℕ) → Form → Type 0
Asks a LengthForm = a ≡ Some (codes "episode")
Asks a StepForm = (call : Call) × (a ≡ Some (word call))
Asks a AnyForm = (a ≢ Some (codes "episode")) × ((call : Call) → a ≢ Some (word call))

abbrev pub WordsRead : Option (List ℕ) → Option (List ℕ) → Option (List ℕ) → Option (List ℕ) → Result Line Form → Type 0
WordsRead a b c d (Ok line) = Says a b c d line
WordsRead a b c d (Err form) = Asks a form × ((line : Line) → Says a b c d line → ⊥)

abbrev pub text_of : Option (Bor (List ℕ)) → Option (List ℕ)
text_of = option_map (λ text. text.now)

abbrev pub Misread : Fault → Type 0
Misread NotText = ⊥
Misread (Unreadable text form) = Unit {0}
Misread LengthUnknown = ⊥
Misread LengthKnown = ⊥
Misread (Backward first last) = ⊥
Misread (PastEnd last samples) = ⊥
Misread (Memory samples) = ⊥

pub record IsInside (step : Step) (n : ℕ) : Type 0 where
  pub ordered : step.first ≤ step.last
  pub within : step.last < n

abbrev pub Refused : Step → ℕ → Fault → Type 0
Refused s n NotText = ⊥
Refused s n (Unreadable text form) = ⊥
Refused s n LengthUnknown = ⊥
Refused s n LengthKnown = ⊥
Refused s n (Backward first last) = (first ≡ s.first) × (last ≡ s.last) × (last < first)
Refused s n (PastEnd last samples) = (last ≡ s.last) × (samples ≡ n) × (s.first ≤ last) × (samples ≤ last)
Refused s n (Memory samples) = ⊥

abbrev pub Within : Step → ℕ → Result (Unit {0}) Fault → Type 0
Within s n (Ok passed) = IsInside s n
Within s n (Err f) = Refused s n f
