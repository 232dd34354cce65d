-- A word of a row, as members.
use Rattle.std.proofs.Common.{◌≡◌, ℕ, ◌+◌, ◌*◌, ◌<◌, ◌≤◌, false, List, length, get_or, take, sym, ap, ◌∙◌, inl, inr, arith}
use Rattle.std.proofs.lemmas.List.{get_or-take, get_or_past, length-take-le}
use Rattle.std.proofs.lemmas.Bool.{cases_lt}
use Rattle.words.specs.Bits.{bit, holds, words_for}
use Rattle.words.proofs.Bitwise.{bit_none}
use Rattle.words.proofs.RowBits.{holds_word}
use Rattle.rows.specs.Members.{tab, Clean}
use Rattle.rows.proofs.Tabs.{get_or-tab, get_or-tab_past}

-- past the words that a domain takes there is none, and no bit
pub row_word : (n : ℕ) (ws : List ℕ) (k b : ℕ) → words_for n ≤ length ws → Clean n ws → b < 64
    → bit (get_or (take (words_for n) ws) k 0) b ≡ get_or (tab (holds ws) n) (64 * k + b) false
row_word n ws k b enough clean h = elim (cases_lt k (words_for n)) [
  | inl l ↦ (let is = ap (λ x. bit x b) (get_or-take (words_for n) ws k 0 l) ∙ sym (holds_word ws k b h) in
      is ∙ elim (cases_lt (64 * k + b) n) [
        | inl i ↦ sym (get_or-tab (holds ws) n (64 * k + b) false i)
        | inr o ↦ clean (64 * k + b) o (omega arith) ∙ sym (get_or-tab_past (holds ws) n (64 * k + b) o)
      ])
  | inr o ↦ ap (λ x. bit x b) (get_or_past (take (words_for n) ws) k 0 (omega (arith, length-take-le (words_for n) ws enough)))
      ∙ bit_none b ∙ sym (get_or-tab_past (holds ws) n (64 * k + b) (omega arith))
]
