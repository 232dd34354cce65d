-- Members as a table of a test: counts, combinations and writes.
use Rattle.std.proofs.Common.{◌≡◌, ℕ, zero, suc, ◌+◌, ◌<◌, ◌≤◌, Bool, true, false, List, ◌∷◌, map, length, get_or, replicate, sym, refl, ap, ◌∙◌, inl, inr, zero-add, arith}
use Rattle.std.proofs.lemmas.Bool.{cases_lt}
use Rattle.std.specs.List.{range_with_len}
use Rattle.std.proofs.lemmas.List.{length-replicate, get_or-replicate, get_or_past}
use Rattle.std.proofs.lemmas.List.FromFn.{length-map-range_with_len, get_or-map-range_with_len, fill_by_all}
use Rattle.words.specs.declared.table.Table.{Table}
use Rattle.words.specs.Tables.{look}
use Rattle.words.specs.Bits.{one, tally}
use Rattle.words.specs.Rows.{enters}
use Rattle.mask.specs.Machine.{gained, count, through}
use Rattle.rows.specs.Members.{tab}
use Rattle.words.proofs.Tallies.{tally_le, tally_trim}

gained_from : (f g : ℕ → Bool) (a n : ℕ) → gained (map f (range_with_len a n)) (map g (range_with_len a n)) ≡ tally (λ i. enters (f i) (g i)) a n
unfolding tally gained
gained_from f g a zero = refl
gained_from f g a (suc n) = ap (λ x. one (enters (f a) (g a)) + x) (gained_from f g (a + 1) n)

pub gained-tab : (f g : ℕ → Bool) (n : ℕ) → gained (tab f n) (tab g n) ≡ tally (λ i. enters (f i) (g i)) 0 n
unfolding tab
gained-tab f g n = gained_from f g 0 n

through_from : (t : Table) (f g : ℕ → Bool) (a n : ℕ) → through t (map f (range_with_len a n)) (map g (range_with_len a n)) ≡ map (λ i. look t (f i) (g i)) (range_with_len a n)
unfolding through
through_from t f g a zero = refl
through_from t f g a (suc n) = ap (λ x. look t (f a) (g a) ∷ x) (through_from t f g (a + 1) n)

pub through-tab : (t : Table) (f g : ℕ → Bool) (n : ℕ) → through t (tab f n) (tab g n) ≡ tab (λ i. look t (f i) (g i)) n
unfolding tab
through-tab t f g n = through_from t f g 0 n

pub length-tab : (f : ℕ → Bool) (n : ℕ) → length (tab f n) ≡ n
unfolding tab
length-tab f n = length-map-range_with_len f 0 n

pub get_or-tab : (f : ℕ → Bool) (n i : ℕ) (d : Bool) → i < n → get_or (tab f n) i d ≡ f i
unfolding tab
get_or-tab f n i d h = get_or-map-range_with_len f 0 n i i d h (zero-add i)

-- a list that has the function's values is its table
pub tab_is : (f : ℕ → Bool) (xs : List Bool) (n : ℕ) → length xs ≡ n → ((i : ℕ) → i < n → get_or xs i false ≡ f i) → xs ≡ tab f n
unfolding tab
tab_is f xs n e h = fill_by_all f xs n false e h

pub tab_same : (f g : ℕ → Bool) (n : ℕ) → ((i : ℕ) → i < n → f i ≡ g i) → tab f n ≡ tab g n
tab_same f g n h = tab_is g (tab f n) n (length-tab f n) (λ i l. get_or-tab f n i false l ∙ h i l)

pub tab_const : (b : Bool) (n : ℕ) → tab (λ _. b) n ≡ replicate n b
tab_const b n = sym (tab_is (λ _. b) (replicate n b) n (length-replicate n b) (λ i l. get_or-replicate n i b false l))

pub tally_cap : (p : ℕ → Bool) (n m : ℕ) → ((i : ℕ) → n ≤ i → i < m → p i ≡ false) → tally p 0 m ≤ n
tally_cap p n m h = elim (cases_lt m n) [ inl l ↦ omega (arith, tally_le p 0 m) | inr l ↦ omega (arith, tally_trim p n m l h, tally_le p 0 n) ]

pub enters_none : (b : Bool) → enters b false ≡ false
enters_none true = refl
enters_none false = refl

-- how many members there are
count_from : (f : ℕ → Bool) (a n : ℕ) → count (map f (range_with_len a n)) ≡ tally f a n
unfolding tally count
count_from f a zero = refl
count_from f a (suc n) = ap (λ x. one (f a) + x) (count_from f (a + 1) n)

pub count-tab : (f : ℕ → Bool) (n : ℕ) → count (tab f n) ≡ tally f 0 n
unfolding tab
count-tab f n = count_from f 0 n

-- past the domain there is no member
pub get_or-tab_past : (f : ℕ → Bool) (n i : ℕ) → n ≤ i → get_or (tab f n) i false ≡ false
get_or-tab_past f n i h = get_or_past (tab f n) i false (omega (arith, length-tab f n))
