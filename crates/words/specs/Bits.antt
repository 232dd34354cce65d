-- Bits of a word and of a row of words. Index i is bit i mod 64 of word i div 64, and bit 0 is the lowest.
--   bit         bit k of a number
--   HasBits     bit k of a word is f k, for each of the 64
--   holds       the bit of a row at an index; past the row's end it is 0
--   words_for   how many words n bits take
--   tally       how many of n indices from a on pass a test
--   set_bits    how many bits of a row are set
--   Highest     the highest set bit of a word, or nothing where no bit is set
--   Low         a bit that is set, with none set below it
--   Least       the lowest set bit of a word, or nothing where no bit is set
use Rattle.std.specs.Prelude.{◌≡◌, ℕ, zero, suc, ◌+◌, ◌*◌, ◌/◌, ◌%◌, ◌^◌, ◌<◌, min, Bool, true, false, List, length, Some, None, Option, ◌==◌, slice_index}

unfoldable pub bit : ℕ → ℕ → Bool
bit w k = w / 2 ^ k % 2 == 1

abbrev pub HasBits : ℕ → (ℕ → Bool) → Type 0
HasBits w f = (k : ℕ) → k < 64 → bit w k ≡ f k

unfoldable pub holds : List ℕ → ℕ → Bool
holds ws i = bit (slice_index ws (i / 64)) (i % 64)

abbrev pub words_for : ℕ → ℕ
words_for n = n / 64 + min 1 (n % 64)

abbrev pub one : Bool → ℕ
one true = 1
one false = 0

unfoldable pub tally : (ℕ → Bool) → ℕ → ℕ → ℕ
tally p a zero = 0
tally p a (suc n) = one (p a) + tally p (a + 1) n

unfoldable pub set_bits : List ℕ → ℕ
set_bits ws = tally (holds ws) 0 (64 * length ws)

abbrev pub Highest : ℕ → Option ℕ → Type 0
Highest w None = (k : ℕ) → bit w k ≡ false
Highest w (Some k) = (bit w k ≡ true) × ((j : ℕ) → k < j → bit w j ≡ false)

-- bit t is the lowest that is set
pub record Low (w t : ℕ) : Type 0 where
  pub set : bit w t ≡ true
  pub below : (j : ℕ) → j < t → bit w j ≡ false

abbrev pub Least : ℕ → Option ℕ → Type 0
Least w None = w ≡ 0
Least w (Some t) = (t < 64) × Low w t
