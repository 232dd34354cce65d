-- Sets whose places are all alike.
use Rattle.std.proofs.Common.{◌≡◌, ℕ, zero, suc, ◌+◌, ◌%◌, ◌<◌, ◌≤◌, Bool, true, false, cond, eqb, ◌&&◌, List, set, replicate, ltb, Some, None, Ok, Err, sym, ap, ◌∙◌, inl, inr, arith}
use Rattle.std.specs.Bool.{beq}
use Rattle.std.proofs.lemmas.List.{length-set, get_or-replicate, set-get_or}
use Rattle.std.proofs.lemmas.Grind.{common_steps}
use Rattle.std.specs.Cmp.{booleans_Decides}
use Rattle.std.proofs.lemmas.Bool.{cases_lt}
use Rattle.index.specs.declared.refusal.Refusal.TheVariants.{Holding}
use Rattle.words.specs.Bits.{bit, one}
use Rattle.words.specs.Rows.{enters}
use Rattle.words.specs.Tables.{look}
use Rattle.words.specs.declared.table.Table.{Table}
use Rattle.words.proofs.Bitwise.{bit_none, bit_zero}
use Rattle.mask.specs.Machine.{Report, count, gained, step, next_member, insert, remove, clear, insert_all, combine}
use Rattle.mask.proofs.Balance.{count-replicate, exchange}
use Rattle.mask.proofs.Decides.{through-replicate}
use Rattle.mask.proofs.Nexts.{next_none, next_some}
use Rattle.mask.proofs.Steps.{gained_self, gained-set, lost_set, put_in}
use Rattle.own_kind.specs.Meaning.{none_or_all}
use Rattle.own_kind.specs.Laws.{held, place_uniform}

pub gained_uniform : (n : ℕ) (a b : Bool) → gained (replicate n a) (replicate n b) ≡ cond (enters a b) n 0
unfolding gained
gained_uniform zero a b = grind arith
gained_uniform (suc n) a b = grind (arith, gained_uniform n a b)

-- ---- one place of many differs, and the rule keeps that out

written_count : (n i : ℕ) (was on : Bool) → i < n → count (set (replicate n was) i on) + one (enters on was) ≡ cond was n 0 + one (enters was on)
written_count n i was on h =
    let old = replicate n was in
    grind (arith, common_steps, exchange old (set old i on) (sym (length-set old i on)), lost_set old i on, gained-set old i on, count-replicate n was)

split : (n i : ℕ) (was on : Bool) → i < n → 1 < n → beq was on ≡ false → none_or_all (set (replicate n was) i on) ≡ false
split n i was on h l e = grind (arith, common_steps, written_count n i was on h)

-- ---- what the machine does with such a set

module _ (n i : ℕ) (inside : i < n) where
  pub put_same : (was on : Bool) → beq was on ≡ true → ◌≡◌ {A = Report × List Bool} (Ok (0, 0), replicate n was) (step n none_or_all (replicate n was) (cond on (insert i) (remove i)))
  put_same was on e =
      let old = replicate n was in
      let none = sym (gained_self old) in
      let same = sym (set-get_or old i false) ∙ ap (set old i) (get_or-replicate n i was false inside ∙ (booleans_Decides was on).0 e) in
      put_in n none_or_all old old (0, 0) (held n was) none none on i inside same

  pub put_split : (was on : Bool) → beq was on ≡ false → 1 < n → ◌≡◌ {A = Report × List Bool} (Err Holding, replicate n was) (step n none_or_all (replicate n was) (cond on (insert i) (remove i)))
  unfolding step
  put_split was on e l = grind (arith, split n i was on inside l e)

-- the only index is every index
pub put_only : (n i : ℕ) (was on : Bool) → i < n → n ≤ 1
    → step n none_or_all (replicate n was) (cond on insert_all clear) ≡ step n none_or_all (replicate n was) (cond on (insert i) (remove i))
unfolding step
put_only zero i was on h l = absurd (omega arith)
put_only (suc zero) zero was on h l = grind arith
put_only (suc zero) (suc i) was on h l = absurd (omega arith)
put_only (suc (suc n)) i was on h l = absurd (omega arith)

-- two sets that are put through a table come out as such a set
pub combine_uniform : (t : Table) (n m : ℕ) (was operand on : Bool) → on ≡ look t was operand → n ≡ m
    → step n none_or_all (replicate n was) (cond on insert_all clear) ≡ step n none_or_all (replicate n was) (combine t m (replicate m operand))
unfolding step
combine_uniform t n m was operand on e same = grind (arith, through-replicate t n was operand)

-- ---- the lowest member at or after a number

pub next_uniform : (n from : ℕ) (b : Bool) → next_member (replicate n b) from ≡ cond (b && ltb from n) (Some from) None
next_uniform n from false = next_none (replicate n false) from (λ i l. place_uniform n i false)
next_uniform n from true = elim (cases_lt from n) [
  | inl l ↦ next_some (replicate n true) from from (omega arith) (grind (arith, place_uniform)) (λ j a b. absurd (omega arith)) ∙ grind arith
  | inr l ↦ next_none (replicate n true) from (λ i a. grind (arith, place_uniform)) ∙ grind arith
]

-- what the calls that only ask rest on
pub ruleset uniform_sets = (gained_uniform, count-replicate, place_uniform, next_uniform, bit_none)

-- ---- a flag as a word, and a word's lowest bit as a flag

pub odd_bit : (w : ℕ) → eqb (w % 2) 1 ≡ bit w 0
odd_bit w = sym (bit_zero w)

pub ruleset flag_bits = (odd_bit, bit_zero)
