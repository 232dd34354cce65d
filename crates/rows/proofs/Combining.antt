-- The whole words of a row, combined at once.
use Rattle.std.proofs.Common.{◌≡◌, ℕ, ◌+◌, ◌-◌, ◌*◌, ◌/◌, ◌%◌, ◌^◌, ◌<◌, ◌≤◌, Bool, cond, List, ◌++◌, length, get_or, take, drop, sym, ap, ◌∙◌, subst, ap₂, arith}
use Rattle.std.proofs.lemmas.List.{length-take-le, get_or-take}
use Rattle.std.proofs.lemmas.Bool.{lt-ltb}
use Rattle.words.specs.declared.table.Table.{Table}
use Rattle.words.specs.Bits.{bit, holds, tally, words_for}
use Rattle.words.specs.Rows.{Rewritten, combined, entered, left, capped, shared, enters}
use Rattle.words.specs.Tables.{look}
use Rattle.words.proofs.Tallies.{tally_same, tally_le}
use Rattle.rows.specs.Members.{Fit, gain}
use Rattle.rows.proofs.Loops.{Done, under, under_below}
use Rattle.rows.proofs.RowWords.{holds-take, front_long, front_in, front_out}

module _ (t : Table) (own other ps : List ℕ) (w n e l : ℕ) (fits : w ≤ length own) (fits-too : w ≤ length other) (below : 64 * w ≤ n) (small : n < 2 ^ 64)
    (fit : (k : ℕ) → k < w → get_or own k 0 < 2 ^ 64) (row : Rewritten (combined t (take w own) (take w other)) (take w own) ps)
    (came : e ≡ capped (entered t (take w own) (take w other))) (went : l ≡ capped (left t (take w own) (take w other))) where
  abbrev aim : ℕ → Bool
  aim i = look t (holds own i) (holds other i)

  own_long : length (take w own) ≡ w
  own_long = length-take-le w own fits

  all : shared (take w own) (take w other) ≡ 64 * w
  all = omega (arith, own_long, length-take-le w other fits-too)

  long : length ps ≡ w
  long = row.long ∙ own_long

  at : (i : ℕ) → i < 64 * w → holds (ps ++ drop w own) i ≡ aim i
  unfolding holds combined
  at i h =
      ap (λ x. bit x (i % 64)) (front_in own ps w fits long (i / 64) (omega arith)) ∙ row.bits i
      ∙ ap (λ x. cond x (look t (holds (take w own) i) (holds (take w other) i)) (holds (take w own) i)) (lt-ltb i (shared (take w own) (take w other)) (omega (arith, all)))
      ∙ ap₂ (look t) (holds-take w i own h) (holds-take w i other h)

  count : (p q : ℕ → Bool) (x : ℕ) → ((i : ℕ) → i < 64 * w → q i ≡ p i) → x ≡ capped (tally q 0 (shared (take w own) (take w other))) → x ≡ tally p 0 (64 * w)
  count p q x same e =
      let s = ap (tally q 0) all ∙ tally_same q p 0 0 (64 * w) (λ i h. same (0 + i) (omega arith)) in
      omega (arith, e, s, tally_le p 0 (64 * w))

  pub front_done : Done (under aim n) own (ps ++ drop w own) w e l
  unfolding gain entered left
  front_done = record {
    long = front_long own ps w fits long;
    bits = λ i h. at i h ∙ sym (under_below aim n i (omega arith));
    rest = front_out own ps w fits long;
    fit = λ k h. rw (front_in own ps w fits long k h) (row.fit k (rw (get_or-take w own k 0 h) (fit k h)));
    came_is = count (λ i. enters (holds own i) (holds (ps ++ drop w own) i)) _ e (λ i h. ap₂ enters (holds-take w i own h) (ap₂ (look t) (holds-take w i own h) (holds-take w i other h) ∙ sym (at i h))) came;
    went_is = count (λ i. enters (holds (ps ++ drop w own) i) (holds own i)) _ l (λ i h. ap₂ enters (ap₂ (look t) (holds-take w i own h) (holds-take w i other h) ∙ sym (at i h)) (holds-take w i own h)) went;
  }

-- all the whole words of a domain of n bits
pub whole_done : (t : Table) (own other ps : List ℕ) (n e l : ℕ) → words_for n ≤ length own → words_for n ≤ length other → n < 2 ^ 64 → Fit n own
    → Rewritten (combined t (take (n / 64 - 0) own) (take (n / 64 - 0) other)) (take (n / 64 - 0) own) ps
    → e ≡ capped (entered t (take (n / 64 - 0) own) (take (n / 64 - 0) other)) → l ≡ capped (left t (take (n / 64 - 0) own) (take (n / 64 - 0) other))
    → Done (under (λ i. look t (holds own i) (holds other i)) n) own (ps ++ drop (n / 64 - 0) own) (n / 64) e l
whole_done t own other ps n e l enough enough-too small fit row came went =
    let same : n / 64 - 0 ≡ n / 64 = omega arith in
    subst (λ (j : ℕ). Done (under (λ i. look t (holds own i) (holds other i)) n) own (ps ++ drop (n / 64 - 0) own) j e l) same
    (front_done t own other ps (n / 64 - 0) n e l (omega arith) (omega arith) (omega arith) small (λ k h. fit k (omega arith)) row came went)
