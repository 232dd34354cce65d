-- A kind of mask by its meaning, and what the calls of a kind promise.
--   Kind       what a mask of the kind means: its domain, its members, which member sets it can hold, the picture by
--              which masks are compared, and the memory that lies past its own part
--   Backing    what memory that is handed over comes to at a domain: whether it suffices, which member sets a mask in it
--              can hold, and what of it lies past the mask's part
--   Lawful     what is true of all masks of a kind
--   Answered   a changing call answered and left what the machine does
--   Kept       domain, rule and the memory past the mask's own are as they were
--   Changed    both of a changing call
--   combining  a combine with another mask, as a call of the machine
--   IsMade     a mask made of handed-over memory, full or empty
--   Made       such a mask, or the memory back where it is too little
--   Ended      the memory that a mask gives back
--   Shows      a word's bits are the members from 64 × k on
--   Tells      a flag says whether something is so
use Rattle.std.specs.Prelude.{◌≡◌, ℕ, ◌+◌, ◌*◌, Bool, true, false, List, length, replicate, Ok, Err, Result, slice_index_or}
use Rattle.index.specs.declared.refusal.Refusal.TheVariants.{Memory}
use Rattle.mask.specs.declared.kind.Refused.{Refused}
use Rattle.words.specs.declared.table.Table.{Table}
use Rattle.words.specs.Bits.{HasBits}
use Rattle.mask.specs.Machine.{Move, combine, Report, Rule, step}

pub record Kind (M : Type 0) : Type 0 where
  pub domain : M → ℕ
  pub members : M → List Bool
  pub rule : M → Rule
  pub picture : M → List ℕ
  pub spare : M → List ℕ

pub record Backing (A : Type 0) : Type 0 where
  pub suffices : ℕ → A → Bool
  pub rule : ℕ → A → Rule
  pub spare : ℕ → A → List ℕ

abbrev pub Tells : Bool → Type 0 → Type 0
Tells true P = P
Tells false P = P → ⊥

abbrev pub Shows : List Bool → ℕ → ℕ → Type 0
Shows bs k word = HasBits word (λ b. slice_index_or bs (64 * k + b) false)

module _ {M : Type 0} (kind : Kind M) where
  pub record Lawful : Type 0 where
    -- a bit for each index of the domain
    pub long : (s : M) → length (kind.members s) ≡ kind.domain s
    -- the rule lets in what the mask holds, and the empty and the full set
    pub held : (s : M) → kind.rule s (kind.members s) ≡ true
    pub empty : (s : M) → kind.rule s (replicate (kind.domain s) false) ≡ true
    pub full : (s : M) → kind.rule s (replicate (kind.domain s) true) ≡ true
    -- pictures are equal exactly where domains and members are
    pub seen : (a b : M) → kind.picture a ≡ kind.picture b
        → (kind.domain a ≡ kind.domain b) × (kind.members a ≡ kind.members b)
    pub shown : (a b : M) → kind.domain a ≡ kind.domain b → kind.members a ≡ kind.members b
        → kind.picture a ≡ kind.picture b
    -- of each mask's domain and rule there are an empty and a full one
    pub spans : (s : M) (b : Bool) → (e : M) × (kind.domain e ≡ kind.domain s) × (kind.rule e ≡ kind.rule s)
        × (kind.members e ≡ replicate (kind.domain s) b)

  abbrev pub Answered : M → Move → Report → M → Type 0
  Answered s call r t =
      ◌≡◌ {A = Report × List Bool} (r, kind.members t) (step (kind.domain s) (kind.rule s) (kind.members s) call)

  abbrev pub Kept : M → M → Type 0
  Kept s t = (kind.domain t ≡ kind.domain s) × (kind.rule t ≡ kind.rule s) × (kind.spare t ≡ kind.spare s)

  pub record Changed (s : M) (call : Move) (r : Report) (t : M) : Type 0 where
    pub machine : Answered s call r t
    pub kept : Kept s t

  -- a combine with a mask, as a call of the machine
  abbrev pub combining : Table → M → Move
  combining t other = combine t (kind.domain other) (kind.members other)

  module _ {A : Type 0} (backing : Backing A) where
    pub record IsMade (full : Bool) (n : ℕ) (memory : A) (m : M) : Type 0 where
      pub enough : backing.suffices n memory ≡ true
      pub domain : kind.domain m ≡ n
      pub members : kind.members m ≡ replicate n full
      pub rule : kind.rule m ≡ backing.rule n memory
      pub spare : kind.spare m ≡ backing.spare n memory

    abbrev pub Made : Bool → ℕ → A → Result M (Refused A) → Type 0
    Made full n memory (Ok m) = IsMade full n memory m
    Made full n memory (Err e) =
        (backing.suffices n memory ≡ false) × (e.refusal ≡ Memory) × (e.memory ≡ memory)

    pub record Ended (s : M) (memory : A) : Type 0 where
      pub enough : backing.suffices (kind.domain s) memory ≡ true
      pub rule : backing.rule (kind.domain s) memory ≡ kind.rule s
      pub spare : backing.spare (kind.domain s) memory ≡ kind.spare s
