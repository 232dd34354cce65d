-- What the set's own words say, since the set keeps them clean.
use Rattle.std.proofs.Common.{◌≡◌, ℕ, ◌*◌, ◌%◌, ◌^◌, ◌≤◌, List, length, get_or, take, vec_items, ap, ◌∙◌, subst, sym, ap₂, arith}
use Rattle.words.specs.Bits.{bit, holds, set_bits, words_for}
use Rattle.rows.specs.Members.{Lowest}
use Rattle.rows.proofs.Lent.{row_count, row_next}
use Rattle.rows.proofs.RowWords.{holds-take}
use Rattle.rows.proofs.Tabs.{get_or-tab, get_or-tab_past}
use Rattle.dense.specs.Sets.{own_words}
use Rattle.dense.specs.declared.bit_set.DenseBitSet.{DenseBitSet}
use Rattle.dense.proofs.Reading.{row_word}
use Rattle.dense.proofs.bit_set.DenseBitSet.row.Goals as goal

own_is : (c : goal.After-num_words) → take c.num_words.result c.deref.result.now ≡ own_words c.args.self.now
own_is c = ap₂ (λ w xs. take w xs) c.num_words.ensures c.deref.ensures.value

enough : (s : DenseBitSet) → words_for s.domain_size ≤ length (vec_items s.words)
enough s = omega (arith, s.enough, s.words.ok.0)

pub returns-clause-bits : goal.returns-clause-bits
returns-clause-bits c i h =
    let s = c.args.self.now in
    ap (λ xs. holds xs i) (own_is c) ∙ holds-take (words_for s.domain_size) i (vec_items s.words) (omega arith) ∙ sym (get_or-tab (holds (vec_items s.words)) s.domain_size i _ h)

pub returns-clause-past : goal.returns-clause-past
returns-clause-past c i h = let s = c.args.self.now in get_or-tab_past (holds (vec_items s.words)) s.domain_size i h

pub returns-clause-shows : goal.returns-clause-shows
returns-clause-shows c k b h =
    let s = c.args.self.now in
    ap (λ xs. bit (get_or xs k 0) b) (own_is c) ∙ row_word s.domain_size (vec_items s.words) k b (enough s) s.clean h

pub returns-clause-count : goal.returns-clause-count
returns-clause-count c =
    let s = c.args.self.now in
    ap (λ xs. set_bits xs % 2 ^ 64) (own_is c) ∙ row_count s.domain_size (vec_items s.words) s.small (enough s) s.clean

pub returns-clause-lowest : goal.returns-clause-lowest
returns-clause-lowest c from found h =
    let s = c.args.self.now in
    row_next s.domain_size (vec_items s.words) from found (enough s) s.clean (subst (λ (xs : List ℕ). Lowest (holds xs) from (64 * length xs) found) (own_is c) h)
