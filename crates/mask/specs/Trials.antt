-- One-bit trials of call lists, and what they decide.
--   Accepted       no report is a refusal
--   Named          a call's operand, if any, is one of a row of that many masks
--   past_call      a call's operand, if it is none of a row of that many masks
--   untried_call   why a call cannot be tried, if it cannot
--   first_answer   what a question answers of the first item of a list of which it answers anything
--   past_row       the first operand of a list that is none of a row of that many masks
--   untried        why the first call of a list that cannot be tried cannot
--   Plain          only combine, clear and insert_all
--   bit_after      what a call makes of one bit, by a pattern that gives each operand's bit
--   trial          what a list makes of one bit
--   pattern_trial  the trial on a numbered pattern
--   Agree          two lists have the same trials on every pattern
--   move           a call as one of the machine, with each operand filled in
--   Leaves         a list, run from one mask, has no refusal and leaves another
--   SamePictures   two lists leave masks of equal pictures, from every start and with every filling of the operands
--   TrialsDecide   two lists agree exactly when they leave equal pictures
--   Tried          what the trials of two lists answer
use Rattle.std.specs.Option.{option_or}
use Rattle.std.specs.Prelude.{◌≡◌, ℕ, ◌+◌, ◌<◌, ◌≤◌, Bool, true, false, cond, List, [], ◌∷◌, ◌++◌, map, is_ok, Some, None, Ok, Err, Option, Result, nat_lt}
use Rattle.words.specs.Bits.{bit}
use Rattle.words.specs.declared.table.Table.{Table}
use Rattle.words.specs.Tables.{look}
use Rattle.mask.specs.Kinds.{Kind, Tells}
use Rattle.mask.specs.Machine.{Move, insert, remove, clear, insert_all, combine, run, Report}
use Rattle.mask.specs.declared.calls.Call.{Call}
use Rattle.mask.specs.declared.calls.Call.TheVariants.{Insert, Remove, Clear, InsertAll, Combine}
use Rattle.mask.specs.declared.trials.NotTried.{NotTried}
use Rattle.mask.specs.declared.trials.NotTried.TheVariants.{Single, Operand}

unfoldable pub Accepted : List Report → Type 0
Accepted [] = Unit {0}
Accepted (r ∷ rs) = (is_ok r ≡ true) × Accepted rs

-- the operand, if any, is one of a row of that many masks
abbrev pub Named : {T O : Type 0} → ℕ → Call T O → Type 0
Named n (Insert i) = Unit {0}
Named n (Remove i) = Unit {0}
Named n Clear = Unit {0}
Named n InsertAll = Unit {0}
Named n (Combine o j) = j < n

-- the operand, if it is none of a row of that many masks
abbrev pub past_call : {T O : Type 0} → ℕ → Call T O → Option ℕ
past_call n (Insert i) = None
past_call n (Remove i) = None
past_call n Clear = None
past_call n InsertAll = None
past_call n (Combine o j) = cond (nat_lt j n) None (Some j)

-- why a call cannot be tried: it is on a single index, or its operand has the number 16 or more
abbrev pub untried_call : {T O : Type 0} → Call T O → Option NotTried
untried_call (Insert i) = Some Single
untried_call (Remove i) = Some Single
untried_call Clear = None
untried_call InsertAll = None
untried_call (Combine o j) = cond (nat_lt j 16) None (Some (Operand j))

-- what a question answers of the first item of a list of which it answers anything
unfoldable pub first_answer : {A B : Type 0} → (A → Option B) → List A → Option B
first_answer f [] = None
first_answer f (x ∷ xs) = option_or (f x) (first_answer f xs)

abbrev pub past_row : {T O : Type 0} → ℕ → List (Call T O) → Option ℕ
past_row n cs = first_answer (past_call n) cs

abbrev pub untried : {T O : Type 0} → List (Call T O) → Option NotTried
untried cs = first_answer untried_call cs

-- only combine, clear and insert_all
unfoldable pub Plain : {T O : Type 0} → List (Call T O) → Type 0
Plain [] = Unit {0}
Plain (Insert i ∷ cs) = ⊥
Plain (Remove i ∷ cs) = ⊥
Plain (Clear ∷ cs) = Plain cs
Plain (InsertAll ∷ cs) = Plain cs
Plain (Combine o j ∷ cs) = Plain cs

module _ {T O : Type 0} (place : T → ℕ) (table : O → Table) where
  abbrev pub bit_after : (ℕ → Bool) → Bool → Call T O → Bool
  bit_after p b (Insert i) = b
  bit_after p b (Remove i) = b
  bit_after p b Clear = false
  bit_after p b InsertAll = true
  bit_after p b (Combine o j) = look (table o) b (p j)

  -- the trial of a list: one bit for the start, one for each operand
  unfoldable pub trial : (ℕ → Bool) → Bool → List (Call T O) → Bool
  trial p b [] = b
  trial p b (c ∷ cs) = trial p (bit_after p b c) cs

  -- the trial on the pattern of number v: bit 0 is for the start, bit j + 1 for operand j
  abbrev pub pattern_trial : ℕ → List (Call T O) → Bool
  pattern_trial v cs = trial (λ j. bit v (j + 1)) (bit v 0) cs

  unfoldable pub Agree : List (Call T O) → List (Call T O) → Type 0
  Agree xs ys = (p : ℕ → Bool) (b : Bool) → trial p b xs ≡ trial p b ys

  module _ {M : Type 0} (kind : Kind M) where
    abbrev pub move : (ℕ → M) → Call T O → Move
    move fill (Insert i) = insert (place i)
    move fill (Remove i) = remove (place i)
    move fill Clear = clear
    move fill InsertAll = insert_all
    move fill (Combine o j) = combine (table o) (kind.domain (fill j)) (kind.members (fill j))

    -- the list, run from the mask s, has no refusal and leaves the mask t
    pub record Leaves (fill : ℕ → M) (cs : List (Call T O)) (s t : M) : Type 0 where
      pub domains : kind.domain t ≡ kind.domain s
      pub rules : kind.rule t ≡ kind.rule s
      pub accepted : Accepted (run (kind.domain s) (kind.rule s) (kind.members s) (map (move fill) cs)).0
      pub leaves : kind.members t ≡ (run (kind.domain s) (kind.rule s) (kind.members s) (map (move fill) cs)).1

    -- from every start and with every filling of the operands, where neither has a refusal
    abbrev pub SamePictures : ℕ → List (Call T O) → List (Call T O) → Type 0
    SamePictures n xs ys =
        (fill : ℕ → M) (s t a b : M) → ((j : ℕ) → kind.domain (fill j) ≡ n) → kind.domain s ≡ n → kind.domain t ≡ n → kind.members s ≡ kind.members t
        → Leaves fill xs s a → Leaves fill ys t b → kind.picture a ≡ kind.picture b

    -- at every domain of at least 1 that a mask of the kind has
    abbrev pub TrialsDecide : List (Call T O) → List (Call T O) → Type 0
    TrialsDecide xs ys =
        Plain xs → Plain ys → (m : M) → 1 ≤ kind.domain m
        → (Agree xs ys → SamePictures (kind.domain m) xs ys) × (SamePictures (kind.domain m) xs ys → Agree xs ys)

    -- what the trials of two lists answer: whether they agree on every pattern, or the first call that cannot be tried
    abbrev pub Tried : List (Call T O) → List (Call T O) → Result Bool NotTried → Type 0
    Tried xs ys (Ok b) =
        (untried (xs ++ ys) ≡ None) × Tells b (Agree xs ys) × ((m : M) → 1 ≤ kind.domain m → Tells b (SamePictures (kind.domain m) xs ys))
    Tried xs ys (Err e) = untried (xs ++ ys) ≡ Some e
