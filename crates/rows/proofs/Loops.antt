-- A loop that writes a row anew, word by word, and counts the bits that come and go.
use Rattle.std.proofs.Common.{◌≡◌, ℕ, ◌+◌, ◌*◌, ◌/◌, ◌%◌, ◌^◌, ◌<◌, ◌≤◌, Bool, false, ◌&&◌, ltb, List, length, get_or, set, sym, refl, ap, ◌∙◌, subst, ap₂, inl, inr, zero-add, arith}
use Rattle.std.proofs.Math.Bool.{and-true}
use Rattle.std.proofs.lemmas.List.{get_or-set_same, get_or-set_other, length-set}
use Rattle.std.proofs.lemmas.Bool.{cases_eq, le-ltb, lt-ltb, and_right}
use Rattle.words.specs.Bits.{bit, holds, tally, words_for}
use Rattle.words.specs.Rows.{enters}
use Rattle.mask.specs.Machine.{gained}
use Rattle.rows.specs.Members.{tab, gain, Becomes, Clean}
use Rattle.words.proofs.Tallies.{tally_add, tally_same, tally_trim}
use Rattle.rows.proofs.Tabs.{tally_cap, enters_none, tab_same, gained-tab}
use Rattle.words.proofs.RowBits.{holds_word, holds-set_other, holds-set_same}

-- ---- the loop's invariant: the words below j are written, and the others are as they were

pub record Done (f : ℕ → Bool) (own cur : List ℕ) (j came went : ℕ) : Type 0 where
  pub long : length cur ≡ length own
  pub bits : (i : ℕ) → i < 64 * j → holds cur i ≡ f i
  pub rest : (k : ℕ) → j ≤ k → get_or cur k 0 ≡ get_or own k 0
  pub fit : (k : ℕ) → k < j → get_or cur k 0 < 2 ^ 64
  pub came_is : came ≡ gain own cur (64 * j)
  pub went_is : went ≡ gain cur own (64 * j)

pub done_none : (f : ℕ → Bool) (own : List ℕ) → Done f own own 0 0 0
unfolding tally gain
done_none f own = record { long = refl; bits = λ i h. absurd (omega arith); rest = λ k h. refl; fit = λ k h. absurd (omega arith); came_is = refl; went_is = refl }

-- one word more of a count
more : (p q r : ℕ → Bool) (j a c : ℕ) → ((i : ℕ) → i < 64 * j → p i ≡ q i) → ((k : ℕ) → k < 64 → p (64 * j + k) ≡ r k) → a ≡ tally q 0 (64 * j) → c ≡ tally r 0 64
    → a + c ≡ tally p 0 (64 * (j + 1))
more p q r j a c below here ea ec =
    let e : 64 * (j + 1) ≡ 64 * j + 64 = omega arith in
    ap₂ (λ x y. x + y)
    (ea ∙ sym (tally_same p q 0 0 (64 * j) (λ i h. rw zero-add (below i h))))
    (ec ∙ sym (tally_same p r (0 + 64 * j) 0 64 (λ k l. rw (zero-add, zero-add) (here k l))))
    ∙ sym (tally_add p 0 (64 * j) 64) ∙ ap (tally p 0) (sym e)

module _ (f : ℕ → Bool) (own cur : List ℕ) (j came went old new c w : ℕ) (d : Done f own cur j came went)
    (within : j < length cur) (small : new < 2 ^ 64) (at_own : old ≡ get_or own j 0)
    (target : (k : ℕ) → k < 64 → bit new k ≡ f (64 * j + k))
    (ec : c ≡ tally (λ k. enters (bit old k) (bit new k)) 0 64) (ew : w ≡ tally (λ k. enters (bit new k) (bit old k)) 0 64) where
  below : (i : ℕ) → i < 64 * j → holds (set cur j new) i ≡ holds cur i
  below i h = holds-set_other cur j new i (λ e. omega arith)

  here : (k : ℕ) → k < 64 → holds (set cur j new) (64 * j + k) ≡ bit new k
  here k h =
      let e : (64 * j + k) / 64 ≡ j = omega arith in
      let s : (64 * j + k) % 64 ≡ k = omega arith in
      holds-set_same cur j new (64 * j + k) within e ∙ ap (bit new) s

  old_bit : (k : ℕ) → k < 64 → holds own (64 * j + k) ≡ bit old k
  old_bit k h = holds_word own j k h ∙ ap (λ x. bit x k) (sym at_own)

  pub done_more : Done f own (set cur j new) (j + 1) (came + c) (went + w)
  unfolding gain
  done_more = record {
    long = length-set cur j new ∙ d.long;
    bits = λ i h. elim (cases_eq (i / 64) j) [
      | inl e ↦ (let k : i % 64 < 64 = omega arith in let s : 64 * j + i % 64 ≡ i = omega arith in
          holds-set_same cur j new i within e ∙ target (i % 64) k ∙ ap f s)
      | inr ne ↦ (let l : i < 64 * j = omega arith in below i l ∙ d.bits i l)
    ];
    rest = λ k h. get_or-set_other cur j k new 0 (λ e. omega arith) ∙ d.rest k (omega arith);
    fit = λ k h. elim (cases_eq k j) [
      | inl e ↦ rw (e, get_or-set_same cur j new 0 within) small
      | inr ne ↦ rw (get_or-set_other cur j k new 0 ne) (d.fit k (omega arith))
    ];
    came_is = more (λ i. enters (holds own i) (holds (set cur j new) i)) (λ i. enters (holds own i) (holds cur i)) (λ k. enters (bit old k) (bit new k)) j came c
        (λ i h. ap (enters (holds own i)) (below i h)) (λ k h. ap₂ enters (old_bit k h) (here k h)) d.came_is ec;
    went_is = more (λ i. enters (holds (set cur j new) i) (holds own i)) (λ i. enters (holds cur i) (holds own i)) (λ k. enters (bit new k) (bit old k)) j went w
        (λ i h. ap (λ x. enters x (holds own i)) (below i h)) (λ k h. ap₂ enters (here k h) (old_bit k h)) d.went_is ew;
  }

-- ---- its counts are at most n, and its end

module _ (f : ℕ → Bool) (n : ℕ) (own cur : List ℕ) (j came went : ℕ) (d : Done f own cur j came went) (clean : Clean n own) (past : (i : ℕ) → n ≤ i → f i ≡ false) where
  came_none : (i : ℕ) → n ≤ i → i < 64 * j → enters (holds own i) (holds cur i) ≡ false
  came_none i l h = ap (enters (holds own i)) (d.bits i h ∙ past i l) ∙ enters_none (holds own i)

  went_none : 64 * j ≤ 64 * words_for n → (i : ℕ) → n ≤ i → i < 64 * j → enters (holds cur i) (holds own i) ≡ false
  went_none k i l h = ap (enters (holds cur i)) (clean i l (omega arith)) ∙ enters_none (holds cur i)

  pub done_cap : j ≤ words_for n → (came ≤ n) × (went ≤ n)
  unfolding gain
  done_cap k =
      let a = tally_cap (λ i. enters (holds own i) (holds cur i)) n (64 * j) came_none in
      let b = tally_cap (λ i. enters (holds cur i) (holds own i)) n (64 * j) (went_none (omega arith)) in
      (omega (arith, a, d.came_is), omega (arith, b, d.went_is))

  pub done_all : (h : ℕ → Bool) → ((i : ℕ) → i < n → f i ≡ h i) → j ≡ words_for n → Becomes h n own cur (came, went)
  unfolding gain
  done_all h same e = record {
    long = d.long;
    bits = λ i l. d.bits i (omega arith) ∙ same i l;
    clean = λ i l k. d.bits i (omega arith) ∙ past i l;
    fit = λ k l. d.fit k (omega arith);
    spare = λ k l. d.rest k (omega arith);
    came = d.came_is ∙ tally_trim (λ i. enters (holds own i) (holds cur i)) n (64 * j) (omega arith) came_none;
    went = d.went_is ∙ tally_trim (λ i. enters (holds cur i) (holds own i)) n (64 * j) (omega arith) (went_none (omega arith));
  }

-- ---- bits below n alone

abbrev pub under : (ℕ → Bool) → ℕ → ℕ → Bool
under f n i = f i && ltb i n

pub under_past : (f : ℕ → Bool) (n i : ℕ) → n ≤ i → under f n i ≡ false
under_past f n i h = and_right (f i) (ltb i n) (le-ltb i n h)

pub under_below : (f : ℕ → Bool) (n i : ℕ) → i < n → under f n i ≡ f i
under_below f n i h = ap (λ x. f i && x) (lt-ltb i n h) ∙ and-true (f i)

-- ---- what a mask shows of it

module _ (f : ℕ → Bool) (n : ℕ) (own cur : List ℕ) (r : ℕ × ℕ) (b : Becomes f n own cur r) where
  pub becomes_members : tab (holds cur) n ≡ tab f n
  becomes_members = tab_same (holds cur) f n b.bits

  pub becomes_came : r.0 ≡ gained (tab (holds own) n) (tab (holds cur) n)
  unfolding gain
  becomes_came = b.came ∙ sym (gained-tab (holds own) (holds cur) n)

  pub becomes_went : r.1 ≡ gained (tab (holds cur) n) (tab (holds own) n)
  unfolding gain
  becomes_went = b.went ∙ sym (gained-tab (holds cur) (holds own) n)

-- the same of other names for the rows
pub becomes_moved : (f h : ℕ → Bool) (n : ℕ) (own own' cur cur' : List ℕ) (r : ℕ × ℕ) → own ≡ own' → cur' ≡ cur → ((i : ℕ) → i < n → f i ≡ h i)
    → Becomes f n own cur r → Becomes h n own' cur' r
becomes_moved f h n own own' cur cur' r p q same b =
    let at_cur : Becomes h n own cur r = record { long = b.long; bits = λ i l. b.bits i l ∙ same i l; clean = b.clean; fit = b.fit; spare = b.spare; came = b.came; went = b.went } in
    let at_own : Becomes h n own' cur r = subst (λ u. Becomes h n u cur r) p at_cur in
    subst (λ v. Becomes h n own' v r) (sym q) at_own
