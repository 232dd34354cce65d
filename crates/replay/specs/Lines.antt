-- How calls are written, and what reading answers.
--   is_skipped  a line is blank or a comment
--   Cuts        a word cut off the front of a text, and what is left, or none where only white space is left
--   FirstWords  the first words of a text
--   Asks        what reading a line answers: nothing where it is skipped, else what its first words say, or a fault
--   Number      a word is read as a decimal number of 64 bits, or not at all
--   digits      a table as a word of four bits
--   kind_name   the name of the call that makes a mask of a kind
--   filling     the word for a full mask or an empty one
--   Spelt       a call's name, the number after its mask's and the word after that, where there are such
--   Reads       what is read is written so, and where nothing is read, no call is
--   Says        what the first words of a line ask for: a call's name, a mask's number, a number, a word, and none after these
use Rattle.std.specs.Prelude.{◌≡◌, ℕ, ◌^◌, ◌<◌, ◌≤◌, Bool, cond, List, [], ◌∷◌, Some, None, codes, Option, Ok, Err, Result, length, true, false, slice_index, ◌++◌, ◌==◌, ◌||◌}
use Rattle.std.specs.Option.{SomeIff, option_copied}
use Rattle.std.specs.Char.{is_whitespace, is_not_whitespace}
use Rattle.std.specs.Str.{trim, NoCharPasses, EmptyOrStartsWithPassing}
use Rattle.std.specs.Str.Parse.{IsNumeral, digits_value, without_leading_plus}
use Rattle.words.specs.declared.table.Table.{Table}
use Rattle.replay.specs.declared.calls.Call.{Call}
use Rattle.replay.specs.declared.calls.Call.TheVariants.{Make, Change, Combine, Ask, Loose, Superset, Equal, Picture}
use Rattle.replay.specs.declared.calls.Change.TheVariants.{Insert, Remove, Clear, InsertAll}
use Rattle.replay.specs.declared.calls.Combination.TheVariants.{Union, Intersect, Subtract, UnionNot, CloneFrom, Tabled}
use Rattle.replay.specs.declared.calls.Kind.{Kind}
use Rattle.replay.specs.declared.calls.Kind.TheVariants.{Dense}
use Rattle.replay.specs.declared.calls.Question.TheVariants.{Contains, Empty, Count, Next, List as Listing}
use Rattle.replay.specs.declared.calls.Request.{Request}
use Rattle.replay.specs.declared.calls.Words.{Words}
use Rattle.replay.specs.declared.fault.Fault.{Fault}
use Rattle.replay.specs.declared.fault.Fault.TheVariants.{Text}

abbrev pub Number : List ℕ → Option ℕ → Type 0
Number word r = SomeIff r
    (IsNumeral 10 (without_leading_plus word) × (digits_value 10 (without_leading_plus word) < 2 ^ 64))
    (digits_value 10 (without_leading_plus word))

abbrev pub digit : Bool → ℕ
digit b = cond b 49 48

abbrev pub digits : Table → List ℕ
digits t = digit t.neither ∷ digit t.operand_only ∷ digit t.own_only ∷ digit t.both ∷ []

abbrev pub kind_name : Kind → List ℕ
kind_name Dense = codes "dense"

abbrev pub filling : Bool → List ℕ
filling full = cond full (codes "filled") (codes "empty")

module _ (name : List ℕ) (number : Option ℕ) (word : Option (List ℕ)) where
  abbrev pub Alone : List ℕ → Type 0
  Alone called = (name ≡ called) × (number ≡ None) × (word ≡ None)

  abbrev pub With : List ℕ → ℕ → Type 0
  With called n = (name ≡ called) × (number ≡ Some n) × (word ≡ None)

  abbrev pub Spelt : Call → Type 0
  Spelt (Make m) = (name ≡ kind_name m.kind) × (number ≡ Some m.domain) × (word ≡ Some (filling m.full)) × (m.domain ≤ 2 ^ 32)
  Spelt (Change (Insert i)) = With (codes "insert") i
  Spelt (Change (Remove i)) = With (codes "remove") i
  Spelt (Change Clear) = Alone (codes "clear")
  Spelt (Change InsertAll) = Alone (codes "insert_all")
  Spelt (Combine Union k) = With (codes "union") k
  Spelt (Combine Intersect k) = With (codes "intersect") k
  Spelt (Combine Subtract k) = With (codes "subtract") k
  Spelt (Combine UnionNot k) = With (codes "union_not") k
  Spelt (Combine CloneFrom k) = With (codes "clone_from") k
  Spelt (Combine (Tabled t) k) = (name ≡ codes "table") × (number ≡ Some k) × (word ≡ Some (digits t))
  Spelt (Ask (Contains i)) = With (codes "contains") i
  Spelt (Ask Empty) = Alone (codes "empty")
  Spelt (Ask Count) = Alone (codes "count")
  Spelt (Ask (Next i)) = With (codes "next") i
  Spelt (Ask Listing) = Alone (codes "list")
  Spelt (Loose i) = With (codes "loose") i
  Spelt (Superset k) = With (codes "superset") k
  Spelt (Equal k) = With (codes "equal") k
  Spelt Picture = Alone (codes "picture")

abbrev pub Reads : {A : Type 0} → (A → Type 0) → Option A → Type 0
Reads P None = (c : _) → P c → ⊥
Reads P (Some c) = P c

-- an optional word is read as an optional number
abbrev pub NumberOf : Option (List ℕ) → Option ℕ → Type 0
NumberOf None None = Unit {0}
NumberOf None (Some n) = ⊥
NumberOf (Some word) None = ⊥
NumberOf (Some word) (Some n) = Number word (Some n)

pub record Says (words : Words) (said : Request) : Type 0 where
  pub called : List ℕ
  pub named : option_copied words.name ≡ Some called
  pub on : NumberOf (option_copied words.mask) (Some said.mask)
  pub with : Option ℕ
  pub numbered : NumberOf (option_copied words.number) with
  pub spelt : Spelt called with (option_copied words.word) said.call
  pub ends : words.more ≡ None

-- blank, or with the byte '#' in front of its other text
abbrev pub is_skipped : List ℕ → Bool
is_skipped line = (length (trim line) == 0) || (slice_index (trim line) 0 == 35)

abbrev pub Cuts : List ℕ → Option (List ℕ) → List ℕ → Type 0
Cuts text None rest = (rest ≡ text) × NoCharPasses is_not_whitespace text
Cuts text (Some word) rest = (gap : List ℕ) × (text ≡ gap ++ (word ++ rest)) × (0 < length word)
    × NoCharPasses is_not_whitespace gap × NoCharPasses is_whitespace word
    × ((more : List ℕ) × EmptyOrStartsWithPassing is_whitespace rest more)

-- each word is cut off what the one before it left
pub record FirstWords (text : List ℕ) (words : Words) : Type 0 where
  pub past_name : List ℕ
  pub past_mask : List ℕ
  pub past_number : List ℕ
  pub past_word : List ℕ
  pub past_more : List ℕ
  pub name : Cuts text (option_copied words.name) past_name
  pub mask : Cuts past_name (option_copied words.mask) past_mask
  pub number : Cuts past_mask (option_copied words.number) past_number
  pub word : Cuts past_number (option_copied words.word) past_word
  pub more : Cuts past_word (option_copied words.more) past_more

abbrev pub Asks : List ℕ → Result (Option Request) Fault → Type 0
Asks line (Ok None) = is_skipped line ≡ true
Asks line (Ok (Some request)) = (is_skipped line ≡ false)
    × ((words : Words) × FirstWords (trim line) words × Says words request)
Asks line (Err fault) = (is_skipped line ≡ false) × (fault ≡ Text)
    × ((words : Words) × FirstWords (trim line) words × ((request : Request) → Says words request → ⊥))
