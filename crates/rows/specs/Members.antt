-- The members of a row of words, and how a row becomes another.
--   tab        a test's answers at the indices below n
--   Fit        each word that n bits take fits 64 bits
--   Clean      the bits of those words at or past n are 0
--   IsRow      a row has the words that n bits take, and is clean
--   Becomes    over n bits a row became another whose bit i is f i, clean and fit, and what lies past is as it was;
--              the report says how many bits entered and how many left
--   Lowest     the lowest index at or after a number, below n, that passes a test, or nothing
use Rattle.std.specs.Prelude.{◌≡◌, ℕ, ◌*◌, ◌^◌, ◌<◌, ◌≤◌, Bool, true, false, List, map, length, Some, None, Option, slice_index}
use Rattle.std.specs.List.{range_with_len}
use Rattle.words.specs.Bits.{holds, tally, words_for}
use Rattle.words.specs.Rows.{enters}

unfoldable pub tab : (ℕ → Bool) → ℕ → List Bool
tab f n = map f (range_with_len 0 n)

abbrev pub Fit : ℕ → List ℕ → Type 0
Fit n ws = (k : ℕ) → k < words_for n → slice_index ws k < 2 ^ 64

abbrev pub Clean : ℕ → List ℕ → Type 0
Clean n ws = (i : ℕ) → n ≤ i → i < 64 * words_for n → holds ws i ≡ false

pub record IsRow (n : ℕ) (ws : List ℕ) : Type 0 where
  pub enough : words_for n ≤ length ws
  pub clean : Clean n ws

-- how many of the bits below n are set in the second row and not in the first
unfoldable pub gain : List ℕ → List ℕ → ℕ → ℕ
gain us vs n = tally (λ i. enters (holds us i) (holds vs i)) 0 n

pub record Becomes (f : ℕ → Bool) (n : ℕ) (own cur : List ℕ) (r : ℕ × ℕ) : Type 0 where
  pub long : length cur ≡ length own
  pub bits : (i : ℕ) → i < n → holds cur i ≡ f i
  pub clean : Clean n cur
  pub fit : Fit n cur
  pub spare : (k : ℕ) → words_for n ≤ k → slice_index cur k ≡ slice_index own k
  pub came : r.0 ≡ gain own cur n
  pub went : r.1 ≡ gain cur own n

abbrev pub Lowest : (ℕ → Bool) → ℕ → ℕ → Option ℕ → Type 0
Lowest p from n None = (i : ℕ) → from ≤ i → i < n → p i ≡ false
Lowest p from n (Some i) = (from ≤ i) × (i < n) × (p i ≡ true) × ((j : ℕ) → from ≤ j → j < i → p j ≡ false)
