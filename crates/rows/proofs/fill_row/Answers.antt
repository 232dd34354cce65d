-- Each word is counted and written, and the members are the bits counted.
use Rattle.std.proofs.Common.{◌≡◌, ℕ, ◌+◌, ◌-◌, ◌*◌, ◌%◌, ◌^◌, ◌<◌, ◌++◌, Bool, true, false, ◌⊎◌, inl, inr, List, take, drop, replicate, set, sym, refl, ap, ◌∙◌, subst, arith}
use Rattle.std.proofs.lemmas.List.{length-take, drop_all, append-nil}
use Rattle.std.proofs.lemmas.List.Edits.{fill_more}
use Rattle.words.specs.Bits.{bit, holds, tally, words_for}
use Rattle.words.specs.Rows.{Rewritten, trimmed}
use Rattle.words.proofs.Bitwise.{bit_of_max, bit_none}
use Rattle.rows.specs.Members.{IsRow}
use Rattle.rows.proofs.Filling.{cleared, filled, next_count, next_below, first_below, all_below}
use Rattle.rows.proofs.fill_row.Goals as goal
use Rattle.rows.proofs.fill_row.Goals.{then-on, else-on, After-clear_excess_bits_in_final_word}

pub loop-word-init : goal.loop-word-init
unfolding tally
loop-word-init c = record { written = refl; counted = refl }

pub overflow_add-members : goal.overflow_add-members
overflow_add-members c =
    let n = c.args.domain in
    let own = c.args.own.now in
    let e : c.num_words.result - 0 ≡ words_for n = omega (arith, c.num_words.ensures) in
    let i = c.loop-word.word-index in
    let w = c.loop-word.invariant.written ∙ ap (λ k. replicate i c.if-on.fill ++ drop i (take k own)) e in
    let x = c.loop-word.invariant.counted ∙ ap (λ k. tally (holds (take k own)) 0 (64 * i)) e in
    omega (arith, next_below n i c.loop-word.members c.if-on.fill own c.loop-word.row w x (omega arith) c.requires.clean (omega (arith, length-take (c.num_words.result - 0) own)))

pub loop-word-preserved : goal.loop-word-preserved
loop-word-preserved c =
    let n = c.args.domain in
    let own = c.args.own.now in
    let e : c.num_words.result - 0 ≡ words_for n = omega (arith, c.num_words.ensures) in
    let i = c.loop-word.word-index in
    let w = c.loop-word.invariant.written ∙ ap (λ k. replicate i c.if-on.fill ++ drop i (take k own)) e in
    let x = c.loop-word.invariant.counted ∙ ap (λ k. tally (holds (take k own)) 0 (64 * i)) e in
    record {
      written = ap (λ ws. set ws i c.if-on.fill) c.loop-word.invariant.written ∙ fill_more i c.if-on.fill (take (c.num_words.result - 0) own) (omega (arith, length-take (c.num_words.result - 0) own));
      counted = next_count n i c.loop-word.members c.if-on.fill own c.loop-word.row w x (omega arith) ∙ ap (λ k. tally (holds (take k own)) 0 (64 * (i + 1))) (sym e);
    }

pub overflow_sub-result : goal.overflow_sub-result
overflow_sub-result c =
    let n = c.args.domain in
    let own = c.args.own.now in
    let e : c.num_words.result - 0 ≡ words_for n = omega (arith, c.num_words.ensures) in
    let x = c.loop-word.invariant.counted ∙ ap (λ k. tally (holds (take k own)) 0 (64 * c.loop-word.word-index)) e in
    omega (arith, x, first_below n c.loop-word.word-index own c.requires.clean (omega (arith, length-take (c.num_words.result - 0) own)))

-- the bits of the word that is written
ones_of : (on : Bool) (f : ℕ) → (on ≡ true) × (f ≡ 2 ^ 64 - 1) ⊎ (on ≡ false) × (f ≡ 0) → ((k : ℕ) → k < 64 → bit f k ≡ on) × (f < 2 ^ 64)
ones_of on f (inl h) = (λ k l. ap (λ x. bit x k) h.1 ∙ bit_of_max k l ∙ sym h.0, omega (arith, h.1))
ones_of on f (inr h) = (λ k l. ap (λ x. bit x k) h.1 ∙ bit_none k ∙ sym h.0, omega (arith, h.1))

-- every word is written and counted
all_written : (n i x f : ℕ) (own row new : List ℕ) → IsRow n own → i ≡ words_for n → row ≡ replicate i f ++ drop i (take (words_for n) own) → x ≡ tally (holds (take (words_for n) own)) 0 (64 * i)
    → Rewritten (trimmed (n % 64) row) row new → Rewritten (trimmed (n % 64) (replicate (words_for n) f)) (replicate (words_for n) f) new × (x ≡ tally (holds own) 0 n)
all_written n i x f own row new r ei written counted cut =
    let w = words_for n in
    let e : row ≡ replicate w f =
    written ∙ ap (λ k. replicate k f ++ drop k (take w own)) ei ∙ ap (λ ws. replicate w f ++ ws) (drop_all w (take w own) (omega (arith, length-take w own))) ∙ append-nil (replicate w f) in
    (subst (λ ws. Rewritten (trimmed (n % 64) ws) ws new) e cut, counted ∙ ap (λ k. tally (holds (take (words_for n) own)) 0 (64 * k)) ei ∙ all_below n own r.clean)

-- what is known where the last word is cut
finished : (c : After-clear_excess_bits_in_final_word)
    → Rewritten (trimmed (c.args.domain % 64) (replicate (words_for c.args.domain) c.if-on.fill)) (replicate (words_for c.args.domain) c.if-on.fill) c.clear_excess_bits_in_final_word.new.words
    × (c.loop-word.members ≡ tally (holds c.args.own.now) 0 c.args.domain)
finished c =
    let n = c.args.domain in
    let own = c.args.own.now in
    let e : c.num_words.result - 0 ≡ words_for n = omega (arith, c.num_words.ensures) in
    let i = c.loop-word.word-index in
    let f = c.if-on.fill in
    let w = c.loop-word.invariant.written ∙ ap (λ k. replicate i f ++ drop i (take k own)) e in
    let x = c.loop-word.invariant.counted ∙ ap (λ k. tally (holds (take k own)) 0 (64 * i)) e in
    all_written n i c.loop-word.members f own c.loop-word.row c.clear_excess_bits_in_final_word.new.words c.requires (omega (arith, length-take (c.num_words.result - 0) own)) w x c.clear_excess_bits_in_final_word.ensures

filled_with : (c : After-clear_excess_bits_in_final_word) → ((k : ℕ) → k < 64 → bit c.if-on.fill k ≡ c.args.on) × (c.if-on.fill < 2 ^ 64)
filled_with c = ones_of c.args.on c.if-on.fill (elim c.if-on.branch [
  | then-on t ↦ inl (t.if-on.true, t.fill-is)
  | else-on t ↦ inr (t.if-on.false, t.fill-is)
])

pub returns-then-on-2 : goal.returns-then-on-2
returns-then-on-2 c =
    let n = c.args.domain in
    let e : c.num_words.result - 0 ≡ words_for n = omega (arith, c.num_words.ensures) in
    let at = (goal.at.returns-then-on-2 c).After-clear_excess_bits_in_final_word in
    let b = filled_with at in
    let a = finished at in
    rw (e, a.1) (filled n c.args.own.now c.clear_excess_bits_in_final_word.new.words c.args.on c.if-on.fill c.requires b.0 b.1 a.0 c.if-on-2.true)

pub returns-else-on-2 : goal.returns-else-on-2
returns-else-on-2 c =
    let n = c.args.domain in
    let e : c.num_words.result - 0 ≡ words_for n = omega (arith, c.num_words.ensures) in
    let at = (goal.at.returns-else-on-2 c).After-clear_excess_bits_in_final_word in
    let b = filled_with at in
    let a = finished at in
    rw (e, a.1) (cleared n c.args.own.now c.clear_excess_bits_in_final_word.new.words c.args.on c.if-on.fill c.requires b.0 b.1 a.0 c.if-on-2.false)
