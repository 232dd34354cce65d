-- The strip that shows an episode in columns.
--   columns_of   how many columns an episode of n samples has
--   edge         the sample at which column j starts; past the last column it is n
--   width        how many samples column j has
--   Tiled        every sample lies in one of the columns
--   mark_of      the mark of a column by how many of its samples are advert
--   column_mark  the mark of column j of n samples, by which of them a row of words has
--   Drawn        a strip shows which of n samples a row of words has
use Rattle.std.specs.Prelude.{◌≡◌, ℕ, ◌+◌, ◌-◌, ◌*◌, ◌/◌, ◌<◌, ◌≤◌, min, if◌then◌else◌, List, ◌==◌, None, Some, slice_index_or}
use Rattle.words.specs.Bits.{holds, tally}
use Rattle.splice.specs.declared.strip.Mark.{Mark}
use Rattle.splice.specs.declared.strip.Mark.TheVariants.{Clear, Part, Full}
use Rattle.splice.specs.declared.strip.Strip.{Strip}

abbrev pub columns_of : ℕ → ℕ
columns_of n = min n 64

abbrev pub edge : ℕ → ℕ → ℕ
edge n j = j * n / columns_of n

abbrev pub width : ℕ → ℕ → ℕ
width n j = edge n (j + 1) - edge n j

abbrev pub Tiled : ℕ → Type 0
Tiled n = (i : ℕ) → i < n → (j : ℕ) × (j < columns_of n) × (edge n j ≤ i) × (i < edge n (j + 1))

abbrev pub mark_of : ℕ → ℕ → Mark
mark_of advert samples =
    if advert == 0 then Clear else (if advert == samples then Full else Part)

abbrev pub column_mark : ℕ → List ℕ → ℕ → Mark
column_mark n ws j = mark_of (tally (holds ws) (edge n j) (width n j)) (width n j)

pub record Drawn (n : ℕ) (ws : List ℕ) (s : Strip) : Type 0 where
  pub marks : (j : ℕ) → j < columns_of n → slice_index_or s.marks j None ≡ Some (column_mark n ws j)
  pub long : (j : ℕ) → columns_of n ≤ j → slice_index_or s.marks j None ≡ None
