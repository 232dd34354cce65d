-- A mask of any kind by its meaning, and what it is asked.
--   domain_of, members_of, rule_of, spare_of, picture_of   of a mask of any kind
--   any_kind                                   what a mask of any kind means
--   flagged                                    a flag or a refusal as a call's answer
--   Asked                                      what a question answers to a mask of that domain and those members
--   Compares                                   what superset answers
--   spare_words                                the words that are handed over behind a mask's own
--   Pictured                                   the picture of a dense mask, by its domain and the memory that it gave back
--   Pictures                                   the picture of a mask, whose spare words lie behind those that it shows
use Rattle.std.specs.Prelude.{◌≡◌, ℕ, Bool, List, [], ◌∷◌, take, drop, Ok, Err, vec_items, Result, ◌==◌}
use Rattle.dense.specs.Sets.{dense_kind, Compared}
use Rattle.index.specs.declared.refusal.Refusal.{Refusal}
use Rattle.mask.specs.Kinds.{Kind}
use Rattle.mask.specs.Machine.{Rule, contained, count, next_member}
use Rattle.words.specs.Bits.{words_for}
use Rattle.replay.specs.declared.answers.Answer.{Answer}
use Rattle.replay.specs.declared.answers.Answer.TheVariants.{Made, Report, Flag, Count, Found, Numbers, Picture, Spoilt}
use Rattle.replay.specs.declared.calls.Question.{Question}
use Rattle.replay.specs.declared.calls.Question.TheVariants.{Contains, Empty, Count as Counting, Next, List as Listing}
use Rattle.replay.specs.declared.fault.Fault.{Fault}
use Rattle.replay.specs.declared.fault.Fault.TheVariants.{Refused}
use Rattle.replay.specs.declared.kinds.AnyMask.{AnyMask}
use Rattle.replay.specs.declared.kinds.AnyMask.TheVariants.{Dense}

abbrev pub domain_of : AnyMask → ℕ
domain_of (Dense s) = dense_kind.domain s

abbrev pub members_of : AnyMask → List Bool
members_of (Dense s) = dense_kind.members s

abbrev pub rule_of : AnyMask → Rule
rule_of (Dense s) = dense_kind.rule s

abbrev pub spare_of : AnyMask → List ℕ
spare_of (Dense s) = dense_kind.spare s

abbrev pub picture_of : AnyMask → List ℕ
picture_of (Dense s) = dense_kind.picture s

abbrev pub any_kind : Kind AnyMask
any_kind = record { domain = domain_of; members = members_of; rule = rule_of; picture = picture_of; spare = spare_of }

abbrev pub flagged : Result Bool Refusal → Result Answer Fault
flagged (Ok b) = Ok (Flag b)
flagged (Err e) = Err (Refused e)

-- of a list nothing is said: that a Vec holds what a collector put into its places did not prove once the loan is over
abbrev pub Asked : ℕ → List Bool → Question → Result Answer Fault → Type 0
Asked n bs (Contains i) r = r ≡ flagged (contained n bs i)
Asked n bs Empty r = r ≡ Ok (Flag (count bs == 0))
Asked n bs Counting r = r ≡ Ok (Count (count bs))
Asked n bs (Next i) r = r ≡ Ok (Found (next_member bs i))
Asked n bs Listing r = Unit {0}

abbrev pub Compares : AnyMask → AnyMask → Result Bool Refusal → Type 0
Compares (Dense s) (Dense t) r = Compared s t r

abbrev pub spare_words : List ℕ
spare_words = 81985529216486895 ∷ 18364758544493064720 ∷ []

abbrev pub Pictured : ℕ → List ℕ → Answer → Type 0
Pictured n ws Made = ⊥
Pictured n ws (Report e l) = ⊥
Pictured n ws (Flag b) = ⊥
Pictured n ws (Count c) = ⊥
Pictured n ws (Found o) = ⊥
Pictured n ws (Numbers v) = ⊥
Pictured n ws (Picture v) = (vec_items v ≡ n ∷ take (words_for n) ws) × (drop (words_for n) ws ≡ spare_words)
Pictured n ws Spoilt = drop (words_for n) ws ≡ spare_words → ⊥

abbrev pub Pictures : AnyMask → Answer → Type 0
Pictures m Made = ⊥
Pictures m (Report e l) = ⊥
Pictures m (Flag b) = ⊥
Pictures m (Count c) = ⊥
Pictures m (Found o) = ⊥
Pictures m (Numbers v) = ⊥
Pictures m (Picture v) = (vec_items v ≡ picture_of m) × (spare_of m ≡ spare_words)
Pictures m Spoilt = spare_of m ≡ spare_words → ⊥
