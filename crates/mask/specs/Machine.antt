-- The mask as a machine: what each call answers and leaves, index by index.
-- Members are a list of as many bits as the domain has indices: bit i says whether i is a member.
--   count         how many members there are
--   gained        how many indices are in the second set and not in the first
--   through       two sets, index by index, through an operator's table
--   indices       the members, rising
--   next_member   the lowest member at or after a number, or nothing
--   contained     what contains answers
--   Rule          a holding rule: which member sets a mask can hold
--   Report        what a changing call answers: (entered, left), or a refusal
--   Move          a changing call
--   step          what a call answers, and the members after it
--   run           the same of a succession of calls
--   total         a sum over reports, of entered or of left; a refusal adds nothing
use Rattle.std.specs.Prelude.{ℕ, ◌+◌, Bool, true, false, cond, List, [], ◌∷◌, drop, replicate, Some, None, Ok, Err, Option, Result, ◌==◌, nat_lt, slice_index_or, slice_set}
use Rattle.index.specs.declared.refusal.Refusal.{Refusal}
use Rattle.index.specs.declared.refusal.Refusal.TheVariants.{Index, Domains, Holding}
use Rattle.words.specs.declared.table.Table.{Table}
use Rattle.words.specs.Bits.{one}
use Rattle.words.specs.Rows.{enters}
use Rattle.words.specs.Tables.{look}

unfoldable pub count : List Bool → ℕ
count [] = 0
count (b ∷ bs) = one b + count bs

-- how many indices are in the second set and not in the first
unfoldable pub gained : List Bool → List Bool → ℕ
gained [] ys = 0
gained (a ∷ xs) [] = 0
gained (a ∷ xs) (b ∷ ys) = one (enters a b) + gained xs ys

unfoldable pub through : Table → List Bool → List Bool → List Bool
through t [] ys = []
through t (a ∷ xs) [] = []
through t (a ∷ xs) (b ∷ ys) = look t a b ∷ through t xs ys

-- the members, rising, of a set whose first place is the index i
unfoldable pub indices : ℕ → List Bool → List ℕ
indices i [] = []
indices i (true ∷ bs) = i ∷ indices (i + 1) bs
indices i (false ∷ bs) = indices (i + 1) bs

abbrev pub first : List ℕ → Option ℕ
first [] = None
first (i ∷ is) = Some i

-- the lowest member at or after a number
abbrev pub next_member : List Bool → ℕ → Option ℕ
next_member bs from = first (indices from (drop from bs))

-- an index at or past the domain is refused
abbrev pub contained : ℕ → List Bool → ℕ → Result Bool Refusal
contained n bs i = cond (nat_lt i n) (Ok (slice_index_or bs i false)) (Err (Index i))

-- which member sets a mask can hold
abbrev pub Rule : Type 0
Rule = List Bool → Bool

-- what a changing call answers: how many indices entered and how many left, or a refusal
abbrev pub Report : Type 0
Report = Result (ℕ × ℕ) Refusal

-- a changing call, with the domain and the members of the other mask
pub data Move : Type 0 where
  insert : ℕ → Move
  remove : ℕ → Move
  clear : Move
  insert_all : Move
  combine : Table → ℕ → List Bool → Move

abbrev pub settle : Rule → List Bool → List Bool → Report × List Bool
settle rule old new = cond (rule new) (Ok (gained old new, gained new old), new) (Err Holding, old)

-- at a domain n, a holding rule and members: the answer, and the members after it
unfoldable pub step : ℕ → Rule → List Bool → Move → Report × List Bool
step n rule old (insert i) = cond (nat_lt i n) (settle rule old (slice_set old i true)) (Err (Index i), old)
step n rule old (remove i) = cond (nat_lt i n) (settle rule old (slice_set old i false)) (Err (Index i), old)
step n rule old clear = settle rule old (replicate n false)
step n rule old insert_all = settle rule old (replicate n true)
step n rule old (combine t m other) = cond (n == m) (settle rule old (through t old other)) (Err (Domains n m), old)

-- a succession of calls: the answers in order, and the members after the last
unfoldable pub run : ℕ → Rule → List Bool → List Move → List Report × List Bool
run n rule old [] = ([], old)
run n rule old (m ∷ ms) = let s = step n rule old m in let r = run n rule s.1 ms in (s.0 ∷ r.0, r.1)

abbrev pub entered : Report → ℕ
entered (Ok p) = p.0
entered (Err e) = 0

abbrev pub left : Report → ℕ
left (Ok p) = p.1
left (Err e) = 0

unfoldable pub total : (Report → ℕ) → List Report → ℕ
total f [] = 0
total f (r ∷ rs) = f r + total f rs
