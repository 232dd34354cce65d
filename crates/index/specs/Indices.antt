-- What an index type answers. It is given by its limit and by the place of each of its values.
--   Found   the value asked for at a number, or nothing
--   Moved   a value moved on in place, or left where it was
use Rattle.std.specs.Prelude.{◌≡◌, ℕ, ◌+◌, ◌<◌, ◌≤◌, Some, None, Option}

module _ {T : Type 0} (limit : ℕ) (place : T → ℕ) where
  abbrev pub Found : ℕ → Option T → Type 0
  Found i None = limit ≤ i
  Found i (Some v) = (i < limit) × (place v ≡ i)

  abbrev pub Moved : T → ℕ → T → Option (Unit {0}) → Type 0
  Moved from amount to None = (limit ≤ place from + amount) × (to ≡ from)
  Moved from amount to (Some u) = (place from + amount < limit) × (place to ≡ place from + amount)
