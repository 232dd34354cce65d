-- What is true of a whole succession of calls on one mask from new.
--   Ran          the machine's run: the members that it leaves, and the reports that were collected
--   IsNotRun     why no call was made: each answer with its cause, and the memory as it was handed over
--   Succession   a mask made at a domain with a rule, empty or full; the calls over a row of operands; the mask that is
--                left, with its reports
use Rattle.std.specs.Prelude.{◌≡◌, ℕ, ◌+◌, ◌≤◌, Bool, false, cond, List, map, replicate, Some, None, Option, nat_le, slice_index_or}
use Rattle.words.specs.declared.table.Table.{Table}
use Rattle.index.specs.declared.refusal.Refusal.TheVariants.{Places, Memory}
use Rattle.mask.specs.Collectors.{Gathered}
use Rattle.mask.specs.Kinds.{Kind}
use Rattle.mask.specs.Machine.{Rule, Report, run, count, entered, left, total}
use Rattle.mask.specs.Trials.{move, TrialsDecide}
use Rattle.mask.specs.declared.calls.Call.{Call}
use Rattle.mask.specs.declared.collector.Collector.{Collector}
use Rattle.mask.specs.declared.successions.NotRun.{NotRun}
use Rattle.mask.specs.declared.successions.NotRun.TheVariants.{Operand, Refused}

pub record Ran (r : List Report × List Bool) (bs : List Bool) (before after : Collector Report) : Type 0 where
  pub leaves : bs ≡ r.1
  pub reports : Gathered r.0 before after

abbrev pub IsNotRun : {A : Type 0} → Option ℕ → ℕ → ℕ → Bool → A → NotRun A → Type 0
IsNotRun past calls free suffices memory (Operand j m) = (past ≡ Some j) × (m ≡ memory)
IsNotRun past calls free suffices memory (Refused r) =
    (past ≡ None) × (r.memory ≡ memory) × (r.refusal ≡ cond (nat_le calls free) Memory Places)
    × (calls ≤ free → suffices ≡ false)

module _ {M O T : Type 0} (kind : Kind M) (table : O → Table) (place : T → ℕ) where
  pub record Succession (n : ℕ) (made : Rule) (full : Bool) (row : List M) (calls : List (Call T O)) (reports : List Report) (mask : M) : Type 0 where
    -- reports and members are the machine's on the same calls
    pub machine : (d : M) → (reports, kind.members mask)
        ≡ run n made (replicate n full) (map (move place table kind (λ j. slice_index_or row j d)) calls)
    pub kept : (kind.domain mask ≡ n) × (kind.rule mask ≡ made)
    -- the members number all that entered less all that left, and the domain if made full
    pub balance : count (kind.members mask) + total left reports ≡ total entered reports + cond full n 0
    -- of any two lists, the one-bit trials decide whether they leave equal masks
    pub trials : (xs ys : List (Call T O)) → TrialsDecide place table kind xs ys
