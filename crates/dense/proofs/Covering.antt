-- A set that covers another of the same domain.
use Rattle.std.proofs.Common.{◌≡◌, ℕ, ◌<◌, ◌≤◌, Bool, true, false, not, List, length, get_or, take, sym, refl, ◌∙◌, inl, inr, true≢false, arith}
use Rattle.std.proofs.lemmas.List.{length-take-le}
use Rattle.std.proofs.lemmas.Bool.{cases_lt}
use Rattle.mask.specs.Kinds.{Tells}
use Rattle.words.specs.Bits.{holds, words_for}
use Rattle.words.specs.Rows.{changed, entered, left}
use Rattle.words.specs.Tables.{look, or_table}
use Rattle.rows.specs.Members.{tab, Clean}
use Rattle.words.proofs.Updating.{unchanged_alike, alike_unchanged}
use Rattle.rows.proofs.RowWords.{holds-take}
use Rattle.rows.proofs.Tabs.{get_or-tab, get_or-tab_past}
use Rattle.dense.specs.Sets.{Superset}

or_same : (x y : Bool) → (y ≡ true → x ≡ true) → look or_table x y ≡ x
or_same true true h = refl
or_same true false h = refl
or_same false true h = sym (h refl)
or_same false false h = refl

or_only : (x y : Bool) → look or_table x y ≡ x → y ≡ true → x ≡ true
or_only true y e h = refl
or_only false true e h = sym e
or_only false false e h = h

module _ (n : ℕ) (us vs : List ℕ) (own : words_for n ≤ length us) (other : words_for n ≤ length vs) (clean : Clean n us) (clean_too : Clean n vs) where
  abbrev w : ℕ
  w = words_for n

  member : (ws : List ℕ) (i : ℕ) → i < n → get_or (tab (holds ws) n) i false ≡ holds (take w ws) i
  member ws i h = get_or-tab (holds ws) n i false h ∙ sym (holds-take w i ws (omega arith))

  long : (ws : List ℕ) → w ≤ length ws → length (take w ws) ≡ w
  long ws h = length-take-le w ws h

  pub over_rows : (b : Bool) → b ≡ changed (entered or_table (take w us) (take w vs)) (left or_table (take w us) (take w vs)) → Tells (not b) (Superset (tab (holds us) n) (tab (holds vs) n))
  over_rows true e = λ over. absurd (true≢false (e ∙ alike_unchanged or_table (take w us) (take w vs) (λ i a h.
      elim (cases_lt i n) [
        | inl l ↦ or_same (holds (take w us) i) (holds (take w vs) i) (λ y. sym (member us i l) ∙ over i (member vs i l ∙ y))
        | inr l ↦ or_same (holds (take w us) i) (holds (take w vs) i) (λ y. absurd (true≢false (sym y ∙ holds-take w i vs (omega (arith, long us own, long vs other)) ∙ clean_too i l (omega (arith, long us own, long vs other)))))
      ])))
  over_rows false e = λ i y. elim (cases_lt i n) [
    | inl l ↦ (let al = unchanged_alike or_table (take w us) (take w vs) (sym e) in
        member us i l ∙ or_only (holds (take w us) i) (holds (take w vs) i) (al i (omega arith) (omega (arith, long us own, long vs other))) (sym (member vs i l) ∙ y))
    | inr l ↦ absurd (true≢false (sym y ∙ get_or-tab_past (holds vs) n i l))
  ]
