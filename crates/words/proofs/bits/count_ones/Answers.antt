-- Each word adds its ones, which are its set bits.
use Rattle.std.proofs.Common.{◌≡◌, ℕ, suc, ◌+◌, ◌*◌, ◌/◌, ◌%◌, ◌^◌, ◌<◌, List, [], ◌∷◌, length, get_or, fold, sym, ap, ◌∙◌, ap₂, add-zero, zero-add, arith, rules}
use lib.Count.{ones}
use Rattle.words.specs.Bits.{bit, holds, tally, set_bits}
use Rattle.words.proofs.Bitwise.{ones_tally}
use Rattle.words.proofs.Tallies.{tally_add, tally_same}
use Rattle.words.proofs.RowBits.{holds_word}
use Rattle.words.proofs.bits.count_ones.Goals as goal

holds-cons : (w : ℕ) (ws : List ℕ) (i : ℕ) → holds (w ∷ ws) (64 + i) ≡ holds ws i
unfolding holds
holds-cons w ws i =
    let e : (64 + i) / 64 ≡ suc (i / 64) = omega arith in
    let f : (64 + i) % 64 ≡ i % 64 = omega arith in
    ap₂ (λ x y. bit (get_or (w ∷ ws) x 0) y) e f

set_bits-cons : (w : ℕ) (ws : List ℕ) → w < 2 ^ 64 → set_bits (w ∷ ws) ≡ ones w + set_bits ws
unfolding set_bits
set_bits-cons w ws small =
    let e : 64 * suc (length ws) ≡ 64 + 64 * length ws = omega arith in
    ap (tally (holds (w ∷ ws)) 0) e ∙ tally_add (holds (w ∷ ws)) 0 64 (64 * length ws)
    ∙ ap₂ (λ x y. x + y) (tally_same (holds (w ∷ ws)) (bit w) 0 0 64 (λ k h. let s : 0 + k ≡ 64 * 0 + k = omega arith in ap (holds (w ∷ ws)) s ∙ holds_word (w ∷ ws) 0 k h ∙ ap (bit w) (sym (zero-add k))) ∙ sym (ones_tally 64 w small))
    (tally_same (holds (w ∷ ws)) (holds ws) (0 + 64) 0 (64 * length ws) (λ i h. rw (zero-add, zero-add) (holds-cons w ws i)))

added : (ws : List ℕ) (a : ℕ) → ((k : ℕ) → get_or ws k 0 < 2 ^ 64) → fold (λ t w. (t + ones w) % 2 ^ 64) (a % 2 ^ 64) ws ≡ (a + set_bits ws) % 2 ^ 64
unfolding set_bits tally
added [] a small = ap (λ n. n % 2 ^ 64) (sym (add-zero a))
added (w ∷ ws) a small =
    let e : (a % 2 ^ 64 + ones w) % 2 ^ 64 ≡ (a + ones w) % 2 ^ 64 = omega arith in
    let s = set_bits-cons w ws (small 0) in
    ap (λ x. fold (λ t v. (t + ones v) % 2 ^ 64) x ws) e ∙ added ws (a + ones w) (λ k. small (suc k)) ∙ omega (arith, s)

pub returns : goal.returns
returns c =
    let e : c.fold.result ≡ fold (λ t w. (t + ones w) % 2 ^ 64) 0 c.args.words.now = search rules in
    e ∙ added c.args.words.now 0 (λ k. omega (arith, c.type_inv.words k)) ∙ ap (λ n. n % 2 ^ 64) (zero-add (set_bits c.args.words.now))
