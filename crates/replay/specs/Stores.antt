-- The masks by their numbers, and what is answered of them.
--   mask_at      the mask of a number, if there is one
--   Same         a store has the masks of another
--   Puts         a store has the masks of another, but for one number
--   Found        the mask of a number, or that it is missing
--   OfMask       what is answered of the mask of a number, or that it is missing
--   OfMasks      the same of two masks
--   OnMask       the same of a call that may change that mask; where it is missing nothing changes
--   lends_mask   a store lends the mask of a number, and has what was last written to it
--   reported     a report or a refusal as a call's answer
--   Turns        a changing call answers, and leaves of a mask, what the machine does
--   Covers       whether the second mask's members are all the first's, or a refusal
--   SamePicture  whether two masks have equal pictures
--   Makes        a new mask is made, or memory is too little and nothing changes
--   TurnsAt      a changing call turns the mask of a number
--   Shown        a mask shows its picture, and one of its domain and members takes its place
--   Answers      what a call answers and leaves; of a combination nothing is said
use Rattle.std.specs.Prelude.{◌≡◌, ℕ, Bool, false, List, Some, None, Ok, Err, Option, Result, replicate, slice_index_or}
use Rattle.std.specs.BTreeMap.{get, Updates}
use Rattle.std.specs.Option.{MatchOption}
use Rattle.std.specs.Result.{MatchResult}
use Rattle.std.specs.Ordering.{nat_cmp}
use Rattle.std.specs.Borrow.{LendsSoOk, MutBor, Fml}
use Rattle.index.specs.declared.refusal.Refusal.{Refusal}
use Rattle.mask.specs.Kinds.{Tells}
use Rattle.mask.specs.Machine.{Move, Report as Reported, step}
use Rattle.replay.specs.contracts.kinds.AnyMask.{the_row as mask_row}
use Rattle.replay.specs.contracts.store.Store.{the_row as store_row}
use Rattle.replay.specs.declared.answers.Answer.{Answer}
use Rattle.replay.specs.declared.answers.Answer.TheVariants.{Made, Report, Flag}
use Rattle.replay.specs.declared.calls.Call.{Call}
use Rattle.replay.specs.declared.calls.Call.TheVariants.{Make, Change, Combine, Ask, Loose, Superset, Equal, Picture}
use Rattle.replay.specs.declared.calls.NewMask.{NewMask}
use Rattle.replay.specs.declared.fault.Fault.{Fault}
use Rattle.replay.specs.declared.fault.Fault.TheVariants.{Missing, Refused, Memory}
use Rattle.replay.specs.declared.kinds.AnyMask.{AnyMask}
use Rattle.replay.specs.declared.store.Store.{Store}
use Rattle.replay.specs.Calls.{moved}
use Rattle.replay.specs.Masks.{domain_of, members_of, rule_of, spare_of, picture_of, flagged, Asked, Compares, Pictures}

abbrev pub mask_at : Store → ℕ → Option AnyMask
mask_at s n = get nat_cmp s.masks n

abbrev pub Same : Store → Store → Type 0
Same s t = (k : ℕ) → mask_at t k ≡ mask_at s k

abbrev pub Puts : Store → ℕ → AnyMask → Store → Type 0
Puts s n m t = Updates nat_cmp s.masks t.masks n (Some m)

abbrev pub Found : {R : Type 0} → Store → ℕ → Result R Fault → (R → AnyMask) → Type 0
Found s n r now = MatchResult r (λ x. mask_at s n ≡ Some (now x)) (λ e. (e ≡ Missing) × (mask_at s n ≡ None))

abbrev pub OfMask : {A : Type 0} → Store → ℕ → Result A Fault → (AnyMask → Type 0) → Type 0
OfMask s n r P = MatchOption (mask_at s n) (r ≡ Err Missing) P

abbrev pub OnMask : {A : Type 0} → Store → ℕ → Result A Fault → Store → (AnyMask → Type 0) → Type 0
OnMask s n r t P = MatchOption (mask_at s n) ((r ≡ Err Missing) × Same s t) P

-- the same of two masks
abbrev pub OfMasks : {A : Type 0} → Store → ℕ → ℕ → Result A Fault → (AnyMask → AnyMask → Type 0) → Type 0
OfMasks s n k r P = OfMask s n r (λ m. OfMask s k r (P m))

-- a store ends with the last value of the mask that it lends
abbrev pub lends_mask : MutBor Store → ℕ → Result (MutBor AnyMask) Fault → Fml
lends_mask s n r = LendsSoOk store_row mask_row s r (λ t m. Puts s.now n m t) (λ t. Same s.now t)

abbrev pub reported : Reported → Result Answer Fault
reported (Ok p) = Ok (Report p.0 p.1)
reported (Err e) = Err (Refused e)

pub record Turns (old : AnyMask) (call : Move) (r : Result Answer Fault) (new : AnyMask) : Type 0 where
  pub report : Reported
  pub machine : ◌≡◌ {A = Reported × List Bool} (report, members_of new)
      (step (domain_of old) (rule_of old) (members_of old) call)
  pub answered : r ≡ reported report
  pub domain : domain_of new ≡ domain_of old
  pub rule : rule_of new ≡ rule_of old
  pub spare : spare_of new ≡ spare_of old

abbrev pub Covers : Result Answer Fault → AnyMask → AnyMask → Type 0
Covers r m o = (b : Result Bool Refusal) × Compares m o b × (r ≡ flagged b)

abbrev pub SamePicture : Result Answer Fault → AnyMask → AnyMask → Type 0
SamePicture r m o = (b : Bool) × Tells b (picture_of m ≡ picture_of o) × (r ≡ Ok (Flag b))

module _ (s : Store) (n : ℕ) (r : Result Answer Fault) (t : Store) where
  abbrev pub Makes : NewMask → Type 0
  Makes wanted = MatchResult r
      (λ a. (a ≡ Made) × ((m : AnyMask) × (domain_of m ≡ wanted.domain)
      × (members_of m ≡ replicate wanted.domain wanted.full) × Puts s n m t))
      (λ e. (e ≡ Memory) × Same s t)

  abbrev pub TurnsAt : Move → Type 0
  TurnsAt call = OnMask s n r t (λ m. (new : AnyMask) × Turns m call r new × Puts s n new t)

  abbrev pub Shown : AnyMask → Type 0
  Shown m = MatchResult r
      (λ a. Pictures m a × ((copy : AnyMask) × (domain_of copy ≡ domain_of m)
      × (members_of copy ≡ members_of m) × Puts s n copy t))
      (λ e. Same s t)

  abbrev pub Answers : Call → Type 0
  Answers (Make wanted) = Makes wanted
  Answers (Change change) = TurnsAt (moved change)
  Answers (Combine combination k) = Unit {0}
  Answers Picture = OnMask s n r t Shown
  Answers (Ask question) = (t ≡ s) × OfMask s n r (λ m. Asked (domain_of m) (members_of m) question r)
  Answers (Loose i) = (t ≡ s) × OfMask s n r (λ m. r ≡ Ok (Flag (slice_index_or (members_of m) i false)))
  Answers (Superset k) = (t ≡ s) × OfMasks s n k r (Covers r)
  Answers (Equal k) = (t ≡ s) × OfMasks s n k r (SamePicture r)
