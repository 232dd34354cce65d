-- Every word before the answer's has no set bit from `from` on.
use Rattle.std.proofs.Common.{◌≡◌, ℕ, ◌+◌, ◌-◌, ◌*◌, ◌/◌, ◌%◌, ◌^◌, ◌<◌, ◌≤◌, false, not, ◌&&◌, ltb, List, length, get_or, drop, None, Some, sym, ap, ◌∙◌, subst, zero-add, rules, arith}
use borrow.Author.Tests.{tests}
use lib.Bits.{bit_and}
use Rattle.std.specs.List.{enumerate_from, AllWithin}
use Rattle.std.proofs.lemmas.List.{get_or-drop, length-drop}
use Rattle.std.proofs.lemmas.List.FromFn.{length-enumerate_from, get_or-enumerate_from}
use Rattle.std.proofs.lemmas.Iterator.{first_from_find, YieldsList-from_slice}
use Rattle.std.proofs.lemmas.Iterator.Adapters.{YieldsList-from_skip}
use Rattle.std.proofs.lemmas.Iterator.Consumers.{YieldsList-at, YieldsList-from_enumerate}
use Rattle.words.specs.Bits.{bit, holds, Low}
use Rattle.rows.specs.Members.{Lowest}
use Rattle.rows.proofs.Seeking.{bit_from, first_none, first_some, zeros, word_some}
use Rattle.rows.proofs.next_set.Goals as goal
use Rattle.rows.proofs.next_set.Goals.{In_default}

-- the first word, cut at the start's bit
cut : (w from mask k : ℕ) → mask ≡ 2 ^ (from % 64) → k < 64 → bit (bit_and w (2 ^ 64 - 1 - (mask - 1))) k ≡ (bit w k && not (ltb k (from % 64)))
cut w from mask k em h = ap (λ x. bit (bit_and w (2 ^ 64 - 1 - (x - 1))) k) em ∙ bit_from w (from % 64) k (omega arith) h

pub returns-in-Some : goal.returns-in-Some
returns-in-Some c =
    let ws = c.args.words.now in
    let from = c.args.from in
    let j = c.word_index_and_mask-start.result.0 in
    let e = c.word_index_and_mask-start.ensures in
    let w : c.in_ok-first.field-0.now ≡ get_or ws j 0 = search rules in
    let within : j < length ws = search rules in
    first_some ws from j (from % 64) _ (omega (arith, e.index)) (omega arith) (λ k h. cut c.in_ok-first.field-0.now from _ k e.mask h ∙ ap (λ x. bit x k && not (ltb k (from % 64))) w) c.in-Some.bit c.in-Some.ensures.0 c.in-Some.ensures.1 within

-- nothing in the word of the start
first : (c : In_default) (i : ℕ) → c.args.from ≤ i → i < 64 * (c.word_index_and_mask-start.result.0 + 1) → holds c.args.words.now i ≡ false
first c =
    let ws = c.args.words.now in
    let from = c.args.from in
    let j = c.word_index_and_mask-start.result.0 in
    let e = c.word_index_and_mask-start.ensures in
    let w : c.in_ok-first.field-0.now ≡ get_or ws j 0 = search rules in
    first_none ws from j (from % 64) _ (omega (arith, e.index)) (omega arith) (λ k h. cut c.in_ok-first.field-0.now from _ k e.mask h ∙ ap (λ x. bit x k && not (ltb k (from % 64))) w) c.in_default.ensures

-- the words after the first, each with its index
later_at : (ws : List ℕ) (a k : ℕ) (d : ℕ × ℕ) → a + k < length ws → get_or (drop a (enumerate_from 0 ws)) k d ≡ (a + k, get_or ws (a + k) d.1)
later_at ws a k d h = get_or-drop a (enumerate_from 0 ws) k d ∙ get_or-enumerate_from 0 ws (a + k) d h ∙ ap (λ n. (n, get_or ws (a + k) d.1)) (zero-add (a + k))

length-later : (ws : List ℕ) (a : ℕ) → length (drop a (enumerate_from 0 ws)) ≡ length ws - a
length-later ws a = length-drop a (enumerate_from 0 ws) ∙ ap (λ n. n - a) (length-enumerate_from 0 ws)

none_later : (ws : List ℕ) (a m : ℕ) → a + m ≤ length ws → AllWithin (λ p. p.1 ≡ 0) (drop a (enumerate_from 0 ws)) 0 m → (k : ℕ) → k < m → get_or ws (a + k) 0 ≡ 0
none_later ws a m h none k l = sym (ap (λ p. p.1) (later_at ws a k (0, 0) (omega arith))) ∙ none k (0, 0) (omega arith) l

pub returns-in_err-k : goal.returns-in_err-k
returns-in_err-k c =
    let ws = c.args.words.now in
    let a = c.word_index_and_mask-start.result.0 + 1 in
    let m = length ws - a in
    let within : a ≤ length ws = search rules in
    let none = first_from_find c.find.new.self _ None (λ p. p.1 ≡ 0 → ⊥) (λ p. p.1 ≡ 0) c.in_err-k.ensures.ran
    (YieldsList-from_skip a (YieldsList-at c.skip-later.ensures.source (YieldsList-from_enumerate (YieldsList-at c.enumerate.ensures.source (YieldsList-from_slice ws c.iter.ensures.rest)) c.enumerate.ensures.count)) c.skip-later.ensures.count)
    (λ x q k. search (rules, tests)) (λ x q k. search (rules, tests)) in
    subst (Lowest (holds ws) c.args.from (64 * length ws)) (sym c.from_residual-in_err-k.ensures)
    (λ i l h. zeros ws c.args.from a m (first (goal.at.returns-in_err-k c).In_default) (none_later ws a m (omega arith) (λ k d p q. none k d p (omega (arith, length-later ws a)))) i l (omega arith))

ahead : (from a i k n : ℕ) → a ≡ from / 64 + 1 → a + i ≡ k → a + i < n → (k < n) × (from ≤ 64 * k)
ahead from a i k n ea ek h = (omega arith, omega arith)

pub returns : goal.returns
returns c =
    let ws = c.args.words.now in
    let a = c.word_index_and_mask-start.result.0 + 1 in
    let e = c.word_index_and_mask-start.ensures in
    let some = first_from_find c.find.new.self _ (Some (c.in_ok-k.k, c.in_ok-k.word)) (λ p. p.1 ≡ 0 → ⊥) (λ p. p.1 ≡ 0) c.in_ok-k.ensures.ran
    (YieldsList-from_skip a (YieldsList-at c.skip-later.ensures.source (YieldsList-from_enumerate (YieldsList-at c.enumerate.ensures.source (YieldsList-from_slice ws c.iter.ensures.rest)) c.enumerate.ensures.count)) c.skip-later.ensures.count)
    (λ x q k. search (rules, tests)) (λ x q k. search (rules, tests)) in
    let i = some.1 in
    let within : a + i < length ws = omega (arith, some.2, length-later ws a) in
    let is = sym (later_at ws a i (0, 0) within) ∙ some.3 (0, 0) in
    let k : a + i ≡ c.in_ok-k.k = ap (λ p. p.0) is in
    let w : c.in_ok-k.word.now ≡ get_or ws c.in_ok-k.k 0 = sym (ap (λ p. p.1) is) ∙ ap (λ n. get_or ws n 0) k in
    let past = ahead c.args.from a i c.in_ok-k.k (length ws) (ap (λ x. x + 1) e.index) k within in
    word_some ws c.args.from c.in_ok-k.k c.in_ok-min_bit.field-0
    (subst (λ n. (j : ℕ) → c.args.from ≤ j → j < 64 * n → holds ws j ≡ false) k (zeros ws c.args.from a i (first (goal.at.returns c).In_default) (none_later ws a i (omega arith) some.4)))
    c.in_ok-min_bit.ensures.0 (subst (λ x. Low x c.in_ok-min_bit.field-0) w c.in_ok-min_bit.ensures.1) past.0 past.1
