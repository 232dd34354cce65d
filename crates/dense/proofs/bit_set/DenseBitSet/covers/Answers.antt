-- A union brings nothing in exactly where the set holds every member of the other.
use Rattle.std.proofs.Common.{◌≡◌, ℕ, ◌≤◌, not, length, take, vec_items, ap, ◌∙◌, subst, sym, ap₂, arith}
use Rattle.mask.specs.Kinds.{Tells}
use Rattle.words.specs.Bits.{holds, words_for}
use Rattle.words.specs.Rows.{changed, entered, left}
use Rattle.words.specs.Tables.{or_table}
use Rattle.rows.specs.Members.{tab, Clean}
use Rattle.dense.specs.Sets.{Superset}
use Rattle.dense.proofs.Covering.{over_rows}
use Rattle.dense.proofs.bit_set.DenseBitSet.covers.Goals as goal

pub returns : goal.returns
returns c =
    let s = c.args.self.now in
    let o = c.args.other.now in
    let n = s.domain_size in
    let same : n ≡ o.domain_size = c.requires in
    let own : words_for n ≤ length (vec_items s.words) = omega (arith, s.enough, s.words.ok.0) in
    let other : words_for n ≤ length (vec_items o.words) = omega (arith, o.enough, o.words.ok.0, ap words_for same) in
    let vs = c.row-2.ensures.words ∙ ap (λ (w : ℕ). take (words_for w) (vec_items o.words)) (sym same) in
    let flag = c.would_modify_words.ensures ∙ ap₂ (λ xs ys. changed (entered or_table xs ys) (left or_table xs ys)) c.row.ensures.words vs in
    let clean_too : Clean n (vec_items o.words) = λ i a b. o.clean i (omega (arith, same)) (omega (arith, ap words_for same)) in
    subst (λ (m : ℕ). Tells (not c.would_modify_words.result) (Superset (tab (holds (vec_items s.words)) n) (tab (holds (vec_items o.words)) m))) same
    (over_rows n (vec_items s.words) (vec_items o.words) own other s.clean clean_too c.would_modify_words.result flag)
