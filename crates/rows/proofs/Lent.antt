-- A Vec whose words were lent as a row and came back written, and what a set is asked.
use Rattle.std.proofs.Common.{◌≡◌, ℕ, ◌+◌, ◌-◌, ◌*◌, ◌%◌, ◌^◌, ◌<◌, ◌≤◌, Bool, false, cond, eqb, List, ◌++◌, length, get_or, take, drop, replicate, Some, None, vec_items, Option, Vec, sym, ap, ◌∙◌, subst, inl, inr, true≢false, zero-add, arith}
use Rattle.std.specs.Vec.{with_items}
use Rattle.std.proofs.lemmas.List.{with_items_is, drop_at, length-replicate, get_or-drop, length-drop, length-take-le, ext_get_or}
use Rattle.std.proofs.lemmas.Bool.{cases_lt, ne_eqb}
use Rattle.mask.specs.Machine.{count, next_member}
use Rattle.mask.proofs.Nexts.{next_none, next_some}
use Rattle.words.specs.Bits.{holds, tally, set_bits, words_for}
use Rattle.words.specs.Rows.{Rewritten, put}
use Rattle.words.proofs.Tallies.{tally_same, tally_trim, tally_le}
use Rattle.rows.specs.Members.{tab, Fit, Clean, Becomes, Lowest}
use Rattle.rows.proofs.Loops.{becomes_moved}
use Rattle.rows.proofs.RowWords.{Put, holds-take, tab-take}
use Rattle.rows.proofs.Tabs.{get_or-tab, get_or-tab_past, count-tab}

module _ {Z : Type 0} (v : Vec ℕ Z) (own cur : List ℕ) (e : own ≡ vec_items v) where
  back : length cur ≡ length own → vec_items (with_items v cur) ≡ cur
  back l = with_items_is v cur (l ∙ ap length e ∙ sym v.ok.0)

  pub lent_becomes : (f h : ℕ → Bool) (n : ℕ) (r : ℕ × ℕ) → ((i : ℕ) → i < n → f i ≡ h i) → Becomes f n own cur r → Becomes h n (vec_items v) (vec_items (with_items v cur)) r
  lent_becomes f h n r same b = becomes_moved f h n own (vec_items v) cur (vec_items (with_items v cur)) r e (back b.long) same b

  module _ (l : length cur ≡ length own) where
    pub lent_put : (i : ℕ) (b : Bool) → Put own cur i b → Put (vec_items v) (vec_items (with_items v cur)) i b
    lent_put i b put j = ap (λ x. holds x j) (back l) ∙ put j ∙ ap (λ x. cond (eqb j i) b (holds x j)) e

    pub lent_fit : (n : ℕ) → (Fit n own → Fit n cur) → Fit n (vec_items v) → Fit n (vec_items (with_items v cur))
    lent_fit n h f = subst (Fit n) (sym (back l)) (h (subst (Fit n) (sym e) f))

-- ---- what lies past a set's own words

pub same_behind : (w : ℕ) (us vs : List ℕ) → length vs ≡ length us → ((k : ℕ) → w ≤ k → get_or vs k 0 ≡ get_or us k 0) → drop w vs ≡ drop w us
same_behind w us vs long same =
    ext_get_or 0 (drop w vs) (drop w us) (length-drop w vs ∙ ap (λ x. x - w) long ∙ sym (length-drop w us))
    (λ k l. get_or-drop w vs k 0 ∙ same (w + k) (omega arith) ∙ sym (get_or-drop w us k 0))

-- a row that was lent, with one bit written
module _ {Z : Type 0} (v : Vec ℕ Z) (own cur : List ℕ) (e : own ≡ vec_items v) (n i : ℕ) (b : Bool) (inside : i < n) (r : Rewritten (put own i b) own cur) where
  pub lent_write : Put (vec_items v) (vec_items (with_items v cur)) i b
  unfolding put
  lent_write = lent_put v own cur e r.long i b r.bits

  pub lent_write_fit : Fit n (vec_items v) → Fit n (vec_items (with_items v cur))
  lent_write_fit = lent_fit v own cur e r.long n (λ f k h. r.fit k (f k h))

  pub lent_write_behind : drop (words_for n) (vec_items (with_items v cur)) ≡ drop (words_for n) (vec_items v)
  unfolding put
  lent_write_behind =
      ap (drop (words_for n)) (with_items_is v cur (r.long ∙ ap length e ∙ sym v.ok.0))
      ∙ same_behind (words_for n) own cur r.long (λ k h. r.rest k (λ m l. ap (λ x. cond x b (holds own (64 * k + m))) (ne_eqb (64 * k + m) i (λ q. omega arith))))
      ∙ ap (drop (words_for n)) e

pub becomes_behind : (f : ℕ → Bool) (n : ℕ) (us vs : List ℕ) (r : ℕ × ℕ) → Becomes f n us vs r → drop (words_for n) vs ≡ drop (words_for n) us
becomes_behind f n us vs r b = same_behind (words_for n) us vs b.long b.spare

-- ---- what a set is asked, from its words

pub row_count : (n : ℕ) (ws : List ℕ) → n < 2 ^ 64 → words_for n ≤ length ws → Clean n ws → set_bits (take (words_for n) ws) % 2 ^ 64 ≡ count (tab (holds ws) n)
unfolding set_bits
row_count n ws small enough clean =
    let w = words_for n in
    let long : length (take w ws) ≡ w = length-take-le w ws enough in
    let all : tally (holds (take w ws)) 0 (64 * length (take w ws)) ≡ tally (holds ws) 0 n =
    ap (λ x. tally (holds (take w ws)) 0 (64 * x)) long
    ∙ tally_same (holds (take w ws)) (holds ws) 0 0 (64 * w) (λ i h. rw zero-add (holds-take w i ws h))
    ∙ tally_trim (holds ws) n (64 * w) (omega arith) clean in
    omega (arith, all, tally_le (holds ws) 0 n, count-tab (holds ws) n)

next_of : (p : ℕ → Bool) (n m from : ℕ) (r : Option ℕ) → n ≤ m → ((i : ℕ) → n ≤ i → i < m → p i ≡ false) → Lowest p from m r → r ≡ next_member (tab p n) from
next_of p n m from None l clean h = sym (next_none (tab p n) from (λ i a. elim (cases_lt i n) [
  | inl s ↦ get_or-tab p n i false s ∙ h i a (omega arith)
  | inr s ↦ get_or-tab_past p n i s
]))
next_of p n m from (Some i) l clean h =
    let inside : i < n = elim (cases_lt i n) [
      | inl s ↦ s
      | inr s ↦ absurd (true≢false (sym h.2 ∙ clean i s h.1))
    ] in
    sym (next_some (tab p n) from i h.0 (get_or-tab p n i false inside ∙ h.2) (λ j a b. get_or-tab p n j false (omega arith) ∙ h.3 j a b))

pub row_next : (n : ℕ) (ws : List ℕ) (from : ℕ) (r : Option ℕ) → words_for n ≤ length ws → Clean n ws → Lowest (holds (take (words_for n) ws)) from (64 * length (take (words_for n) ws)) r → r ≡ next_member (tab (holds ws) n) from
row_next n ws from r enough clean h =
    let w = words_for n in
    let long : length (take w ws) ≡ w = length-take-le w ws enough in
    next_of (holds (take w ws)) n (64 * length (take w ws)) from r (omega arith) (λ i a b. holds-take w i ws (omega arith) ∙ clean i a (omega arith)) h
    ∙ ap (λ x. next_member x from) (tab-take n ws)

-- words cleared at the front leave the others
pub blank_behind : (w : ℕ) (us vs : List ℕ) → us ≡ replicate w 0 ++ drop w vs → drop w us ≡ drop w vs
blank_behind w us vs e = ap (drop w) e ∙ drop_at (replicate w 0) (drop w vs) w (length-replicate w 0)
