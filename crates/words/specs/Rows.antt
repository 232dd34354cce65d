-- What the word functions leave in a row of words and what they answer.
--   Rewritten   a row became another whose bit i is f i; a word that fitted 64 bits still does, and one whose bits stay is the same
--   put         a row's bits once the one at an index is written
--   Put         what a write of one bit answers and leaves, past the row's end too
--   trimmed     a row's bits without those of its last word from bit r on, where r is not 0
--   shared      how many bits two rows have in common: those of the shorter
--   combined    a row's bits once each that is shared went through a table with the other row's
--   enters      out before and in after
--   entered     how many bits went from 0 to 1, left how many from 1 to 0
--   capped      what a number of 64 bits can say of a count
--   changed     whether a report says that any bit changed
--   modifies    whether a table would change any bit of a row
--   Updated     a row went through a table with another, and a report says how many bits entered and how many left
use Rattle.std.specs.Prelude.{◌≡◌, ℕ, ◌+◌, ◌-◌, ◌*◌, ◌^◌, ◌<◌, ◌≤◌, min, Bool, true, false, cond, not, ◌&&◌, ◌||◌, List, length, Ok, Err, Result, ◌==◌, nat_lt, slice_index}
use Rattle.index.specs.declared.refusal.Refusal.{Refusal}
use Rattle.index.specs.declared.refusal.Refusal.TheVariants.{Index}
use Rattle.words.specs.declared.table.Table.{Table}
use Rattle.words.specs.Bits.{holds, tally}
use Rattle.words.specs.Tables.{look}

pub record Rewritten (f : ℕ → Bool) (old new : List ℕ) : Type 0 where
  pub long : length new ≡ length old
  pub bits : (i : ℕ) → holds new i ≡ f i
  pub fit : (k : ℕ) → slice_index old k < 2 ^ 64 → slice_index new k < 2 ^ 64
  pub rest : (k : ℕ) → ((b : ℕ) → b < 64 → f (64 * k + b) ≡ holds old (64 * k + b)) → slice_index new k ≡ slice_index old k

unfoldable pub put : List ℕ → ℕ → Bool → ℕ → Bool
put ws p b i = cond (i == p) b (holds ws i)

-- out before and in after
abbrev pub enters : Bool → Bool → Bool
enters true b = false
enters false b = b

abbrev pub Put : Bool → ℕ → List ℕ → List ℕ → Result Bool Refusal → Type 0
Put b p old new (Ok turned) = (p < 64 * length old) × (turned ≡ cond b (not (holds old p)) (holds old p)) × Rewritten (put old p b) old new
Put b p old new (Err e) = (64 * length old ≤ p) × (e ≡ Index p) × (new ≡ old)

unfoldable pub trimmed : ℕ → List ℕ → ℕ → Bool
trimmed r ws i = holds ws i && (r == 0 || nat_lt i (64 * (length ws - 1) + r))

abbrev pub shared : List ℕ → List ℕ → ℕ
shared us vs = 64 * min (length us) (length vs)

abbrev pub capped : ℕ → ℕ
capped n = min n (2 ^ 64 - 1)

abbrev pub changed : ℕ → ℕ → Bool
changed e l = nat_lt 0 e || nat_lt 0 l

module _ (t : Table) (us vs : List ℕ) where
  unfoldable pub combined : ℕ → Bool
  combined i = cond (nat_lt i (shared us vs)) (look t (holds us i) (holds vs i)) (holds us i)

  unfoldable pub entered : ℕ
  entered = tally (λ i. enters (holds us i) (look t (holds us i) (holds vs i))) 0 (shared us vs)

  unfoldable pub left : ℕ
  left = tally (λ i. enters (look t (holds us i) (holds vs i)) (holds us i)) 0 (shared us vs)

  abbrev pub modifies : Bool
  modifies = changed entered left

  pub record Updated (new : List ℕ) (report : ℕ × ℕ) : Type 0 where
    pub row : Rewritten combined us new
    pub entered : report.0 ≡ capped entered
    pub left : report.1 ≡ capped left
