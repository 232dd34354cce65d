-- Slots and the places of a break.
--   number       the number of a place, from 0
--   Numbered     the place that has a number, or that none has it
--   slot_index   the index of a slot: eight for each break before its own, and one for each place before its own
use Rattle.std.specs.Prelude.{◌≡◌, ℕ, ◌+◌, ◌*◌, ◌≤◌, Result, MatchResult}
use Rattle.index.specs.declared.slot.Place.{Place}
use Rattle.index.specs.declared.slot.Place.TheVariants.{First, Second, Third, Fourth, Fifth, Sixth, Seventh, Eighth}
use Rattle.index.specs.declared.slot.NoPlace.{NoPlace}
use Rattle.index.specs.declared.slot.Slot.{Slot}

abbrev pub number : Place → ℕ
number First = 0
number Second = 1
number Third = 2
number Fourth = 3
number Fifth = 4
number Sixth = 5
number Seventh = 6
number Eighth = 7

abbrev pub Numbered : ℕ → Result Place NoPlace → Type 0
Numbered n r = MatchResult r (λ place. number place ≡ n) (λ e. (e.0 ≡ n) × (8 ≤ n))

abbrev pub slot_index : Slot → ℕ
slot_index s = 8 * s.break_number + number s.place
