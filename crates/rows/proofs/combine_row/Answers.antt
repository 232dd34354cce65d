-- Whole words are combined at once, and the last one without the bits past the domain.
use Rattle.std.proofs.Common.{◌≡◌, ℕ, ◌+◌, ◌-◌, ◌*◌, ◌/◌, ◌<◌, ◌≤◌, Bool, ◌&&◌, List, ◌++◌, get_or, drop, set, sym, ap, ◌∙◌, ap₂, le_refl, arith}
use lib.Bits.{bit_and, and_lt}
use Rattle.words.specs.Bits.{bit, holds}
use Rattle.words.specs.declared.table.Table.{Table}
use Rattle.words.specs.Tables.{look}
use Rattle.words.proofs.Bitwise.{bit-bit_and}
use Rattle.words.proofs.RowBits.{holds_word}
use Rattle.rows.proofs.Combining.{whole_done}
use Rattle.rows.proofs.Loops.{Done, done_more, done_cap, done_all, under, under_past, under_below}
use Rattle.rows.proofs.combine_row.Given as given
use Rattle.rows.proofs.combine_row.Goals as goal

pub returns-then-domain-eq0 : goal.returns-then-domain-eq0
returns-then-domain-eq0 g c =
    let t = g.O.Operator.table c.args.op.now in
    let own = c.args.own.now in
    let n = c.args.domain in
    let f : ℕ → Bool = λ i. look t (holds own i) (holds c.args.other.now i) in
    let u = c.update_words-entered in
    let d = whole_done t own c.args.other.now u.new.lhs n u.result.0 u.result.1 c.requires.row.enough c.requires.other_enough (omega arith) c.requires.fit u.ensures.row u.ensures.entered u.ensures.left in
    done_all (under f n) n own _ (n / 64) _ _ d c.requires.row.clean (under_past f n) f (under_below f n) (omega arith)

module _ (g : given.Over) (c : goal.After-turned-came g) where
  abbrev t : Table
  t = g.O.Operator.table c.args.op.now

  abbrev own : List ℕ
  own = c.args.own.now

  abbrev other : List ℕ
  other = c.args.other.now

  abbrev n : ℕ
  n = c.args.domain

  abbrev f : ℕ → Bool
  f i = look t (holds own i) (holds other i)

  abbrev cur : List ℕ
  cur = c.update_words-entered.new.lhs ++ drop (n / 64 - 0) own

  abbrev new : ℕ
  new = bit_and c.apply.result c.word_below.result

  whole : Done (under f n) own cur (n / 64) c.update_words-entered.result.0 c.update_words-entered.result.1
  whole =
      let u = c.update_words-entered in
      whole_done t own other u.new.lhs n u.result.0 u.result.1 c.requires.row.enough c.requires.other_enough (omega arith) c.requires.fit u.ensures.row u.ensures.entered u.ensures.left

  old_is : get_or cur (n / 64) 0 ≡ get_or own (n / 64) 0
  old_is = whole.rest (n / 64) (le_refl (n / 64))

  new_bit : (k : ℕ) → k < 64 → bit new k ≡ under f n (64 * (n / 64) + k)
  new_bit k h =
      let mine : bit (get_or cur (n / 64) 0) k ≡ holds own (64 * (n / 64) + k) = ap (λ x. bit x k) old_is ∙ sym (holds_word own (n / 64) k h) in
      let theirs : bit (get_or other (n / 64) 0) k ≡ holds other (64 * (n / 64) + k) = sym (holds_word other (n / 64) k h) in
      bit-bit_and c.apply.result c.word_below.result k ∙ ap₂ (λ x y. x && y) (c.apply.ensures.bits k h ∙ ap₂ (look t) mine theirs) (c.word_below.ensures k h)

  last : Done (under f n) own (set cur (n / 64) new) (n / 64 + 1) (c.update_words-entered.result.0 + c.turned-came.result.0) (c.update_words-entered.result.1 + c.turned-came.result.1)
  last =
      done_more (under f n) own cur (n / 64) c.update_words-entered.result.0 c.update_words-entered.result.1 (get_or cur (n / 64) 0) new c.turned-came.result.0 c.turned-came.result.1
      whole (omega (arith, whole.long, c.requires.row.enough)) (and_lt 64 c.apply.result c.word_below.result (omega arith) (omega arith)) old_is new_bit c.turned-came.ensures.came c.turned-came.ensures.went

  capped : (c.update_words-entered.result.0 + c.turned-came.result.0 ≤ n) × (c.update_words-entered.result.1 + c.turned-came.result.1 ≤ n)
  capped = done_cap (under f n) n own _ (n / 64 + 1) _ _ last c.requires.row.clean (under_past f n) (omega arith)

pub overflow_add-result : goal.overflow_add-result
overflow_add-result g c = omega (arith, (capped g c).0)

pub overflow_add-result-2 : goal.overflow_add-result-2
overflow_add-result-2 g c = omega (arith, (capped g c).1)

pub returns : goal.returns
returns g c = done_all (under (f g c) (n g c)) (n g c) (own g c) _ (n g c / 64 + 1) _ _ (last g c) c.requires.row.clean (under_past (f g c) (n g c)) (f g c) (under_below (f g c) (n g c)) (omega arith)
