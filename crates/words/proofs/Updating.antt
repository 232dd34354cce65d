-- Rows that go through an operator: which words stay as they are, and how far a loop has come.
use Rattle.std.proofs.Common.{◌≡◌, ℕ, ◌+◌, ◌-◌, ◌*◌, ◌/◌, ◌%◌, ◌^◌, ◌<◌, ◌≤◌, min, Bool, true, false, cond, ltb, List, length, get_or, take, drop, set, sym, refl, ap, ◌∙◌, subst, ap₂, ◌⊎◌, inl, inr, zero-add, arith, rules}
use borrow.Rule.Slice.PartMut.{put_mid}
use lib.Bits.{bit_or, bit_xor, xor_self}
use Rattle.std.proofs.lemmas.List.{get_or-set_same, get_or-set_other, length-set, length-take, length-drop, places}
use Rattle.std.proofs.lemmas.Bool.{cases_eq, cases_lt, lt-ltb, le-ltb, ltb-false, or_parts}
use Rattle.words.specs.declared.table.Table.{Table}
use Rattle.words.specs.Bits.{bit, holds, tally}
use Rattle.words.specs.Tables.{look, Applied}
use Rattle.words.specs.Rows.{Rewritten, enters, shared, combined, entered, left, capped, changed, modifies, Updated}
use Rattle.words.proofs.Bitwise.{same_bits, bit_xor_zero, bit_or_zero}
use Rattle.words.proofs.RowBits.{holds_word, holds_part, get_or-part, length_part, holds-set_other, holds-set_same, set_fit}
use Rattle.words.proofs.Tallies.{tally_le, tally_add, tally_same, tally_none, tally_zero, tally_trim}

-- the words from a up to b stay as they are
abbrev pub Alike : Table → List ℕ → List ℕ → ℕ → ℕ → Type 0
Alike t us vs a b = (i : ℕ) → 64 * a ≤ i → i < 64 * b → look t (holds us i) (holds vs i) ≡ holds us i

enters_same : (a b : Bool) → b ≡ a → (enters a b ≡ false) × (enters b a ≡ false)
enters_same true true e = (refl, refl)
enters_same false false e = (refl, refl)
enters_same true false e = (refl, sym e)
enters_same false true e = (e, refl)

neither_enters : (a b : Bool) → enters a b ≡ false → enters b a ≡ false → b ≡ a
neither_enters true true p q = refl
neither_enters true false p q = sym q
neither_enters false true p q = p
neither_enters false false p q = refl

module _ (t : Table) (us vs : List ℕ) where
  -- one word more, whose difference is gathered in c
  module _ (a j c old operand new : ℕ) (own : old ≡ get_or us j 0) (other : operand ≡ get_or vs j 0) (ho : old < 2 ^ 64) (hn : new < 2 ^ 64) (applied : Applied t old operand new) (from : a ≤ j) where
    at_word : (k : ℕ) → k < 64 → look t (holds us (64 * j + k)) (holds vs (64 * j + k)) ≡ bit new k
    at_word k h =
        ap₂ (look t) (holds_word us j k h ∙ ap (λ x. bit x k) (sym own)) (holds_word vs j k h ∙ ap (λ x. bit x k) (sym other)) ∙ sym (applied k h)

    pub alike_more : (c ≡ 0 → Alike t us vs a j) → bit_or c (bit_xor old new) ≡ 0 → Alike t us vs a (j + 1)
    alike_more below e i l h =
        let z = bit_or_zero c (bit_xor old new) e in
        elim (cases_lt i (64 * j)) [
          | inl s ↦ below z.0 i l s
          | inr s ↦ (let p : 64 * j + (i - 64 * j) ≡ i = omega arith in
              let k : i - 64 * j < 64 = omega arith in
              let at = at_word (i - 64 * j) k ∙ ap (λ x. bit x (i - 64 * j)) (sym (bit_xor_zero old new z.1) ∙ own) ∙ sym (holds_word us j (i - 64 * j) k) in
              rw p at at)
        ]

    pub alike_less : (Alike t us vs a j → c ≡ 0) → Alike t us vs a (j + 1) → bit_or c (bit_xor old new) ≡ 0
    alike_less below al =
        let z : c ≡ 0 = below (λ i l h. al i l (omega arith)) in
        let s : new ≡ old = same_bits 64 new old hn ho (λ k h.
        sym (at_word k h) ∙ al (64 * j + k) (omega arith) (omega arith) ∙ holds_word us j k h ∙ ap (λ x. bit x k) (sym own)) in
        ap₂ bit_or z (ap (bit_xor old) s ∙ xor_self old)

  -- rows that stay as they are have nothing that enters or leaves
  pub alike_none : Alike t us vs 0 (min (length us) (length vs)) → (entered t us vs ≡ 0) × (left t us vs ≡ 0)
  unfolding entered left
  alike_none al = (
    tally_none _ 0 (shared us vs) (λ i h. (enters_same (holds us (0 + i)) _ (al (0 + i) (omega arith) (omega arith))).0),
    tally_none _ 0 (shared us vs) (λ i h. (enters_same (holds us (0 + i)) _ (al (0 + i) (omega arith) (omega arith))).1),
  )

  pub none_alike : entered t us vs ≡ 0 → left t us vs ≡ 0 → Alike t us vs 0 (min (length us) (length vs))
  unfolding entered left
  none_alike e l i a h =
      let p = tally_zero _ 0 (shared us vs) e i h in
      let q = tally_zero _ 0 (shared us vs) l i h in
      neither_enters (holds us i) _ (rw zero-add at p) (rw zero-add at q)

  pub unchanged_alike : modifies t us vs ≡ false → Alike t us vs 0 (min (length us) (length vs))
  unchanged_alike e =
      let z = or_parts (ltb 0 (entered t us vs)) (ltb 0 (left t us vs)) e in
      none_alike (omega (arith, ltb-false 0 (entered t us vs) z.0)) (omega (arith, ltb-false 0 (left t us vs) z.1))

  pub alike_unchanged : Alike t us vs 0 (min (length us) (length vs)) → modifies t us vs ≡ false
  alike_unchanged al = let z = alike_none al in ap₂ changed z.0 z.1

-- m words from word a on, or as many as there are
module _ (t : Table) (us vs : List ℕ) (a m : ℕ) where
  part_own : (i : ℕ) → 64 * a ≤ i → i < 64 * (a + m) → (ws : List ℕ) → holds (take m (drop a ws)) (i - 64 * a) ≡ holds ws i
  part_own i l h ws = let s : 64 * a + (i - 64 * a) ≡ i = omega arith in holds_part ws a m (i - 64 * a) (omega arith) ∙ ap (holds ws) s

  pub part_alike : modifies t (take m (drop a us)) (take m (drop a vs)) ≡ false → (i : ℕ) → 64 * a ≤ i → i < 64 * (a + m) → i < shared us vs → look t (holds us i) (holds vs i) ≡ holds us i
  part_alike e i l h s =
      let al = unchanged_alike t (take m (drop a us)) (take m (drop a vs)) e in
      let p = part_own i l h us in
      sym (ap₂ (look t) p (part_own i l h vs)) ∙ al (i - 64 * a) (omega arith) (omega (arith, length-take m (drop a us), length-take m (drop a vs), length-drop a us, length-drop a vs)) ∙ p

  pub alike_part : Alike t us vs 0 (min (length us) (length vs)) → modifies t (take m (drop a us)) (take m (drop a vs)) ≡ false
  alike_part al = alike_unchanged t (take m (drop a us)) (take m (drop a vs)) (λ k l h.
      let b : k < 64 * m = omega (arith, length-take m (drop a us)) in
      let p = holds_part us a m k b in
      ap₂ (look t) p (holds_part vs a m k b) ∙ al (64 * a + k) (omega arith) (omega (arith, length-take m (drop a us), length-take m (drop a vs), length-drop a us, length-drop a vs)) ∙ sym p)

-- the words of a row, part of which is another
get_or-put_in : (ws new : List ℕ) (j m k : ℕ) → j ≤ length ws → k < length new → get_or (put_mid j m ws new) (j + k) 0 ≡ get_or new k 0
get_or-put_in ws new j m k h l = search (rules, places)

length-put_mid : (ws new : List ℕ) (j m : ℕ) → j + m ≤ length ws → length new ≡ m → length (put_mid j m ws new) ≡ length ws
length-put_mid ws new j m h l = search (rules, places)

get_or-put_out : (ws new : List ℕ) (j m k : ℕ) → j + m ≤ length ws → length new ≡ m → (k < j) ⊎ (j + m ≤ k) → get_or (put_mid j m ws new) k 0 ≡ get_or ws k 0
get_or-put_out ws new j m k h l (inl b) = search (rules, places)
get_or-put_out ws new j m k h l (inr a) = search (rules, places)

-- ---- a row that is written anew word by word, with its two counts

module _ (t : Table) (us vs : List ℕ) where
  abbrev pub in_at : ℕ → Bool
  in_at i = enters (holds us i) (look t (holds us i) (holds vs i))

  abbrev pub out_at : ℕ → Bool
  out_at i = enters (look t (holds us i) (holds vs i)) (holds us i)

  -- the words below j are written, the others are as they were
  pub record Partly (cur : List ℕ) (j e l : ℕ) : Type 0 where
    pub long : length cur ≡ length us
    pub bits : (i : ℕ) → i < 64 * j → holds cur i ≡ look t (holds us i) (holds vs i)
    pub rest : (k : ℕ) → j ≤ k → get_or cur k 0 ≡ get_or us k 0
    pub same : (k : ℕ) → k < j → ((b : ℕ) → b < 64 → look t (holds us (64 * k + b)) (holds vs (64 * k + b)) ≡ holds us (64 * k + b)) → get_or cur k 0 ≡ get_or us k 0
    pub fit : (k : ℕ) → get_or us k 0 < 2 ^ 64 → get_or cur k 0 < 2 ^ 64
    pub came : e ≡ capped (tally in_at 0 (64 * j))
    pub went : l ≡ capped (tally out_at 0 (64 * j))

  pub partly_none : Partly us 0 0 0
  unfolding tally
  partly_none = record { long = refl; bits = λ i h. absurd (omega arith); rest = λ k h. refl; same = λ k h q. refl; fit = λ k h. h; came = refl; went = refl }

  -- m words more of a count
  count_more : (p r : ℕ → Bool) (j m a c : ℕ) → ((k : ℕ) → k < 64 * m → p (64 * j + k) ≡ r k) → a ≡ capped (tally p 0 (64 * j)) → c ≡ capped (tally r 0 (64 * m))
      → (b : ℕ) → b ≡ capped (a + c) → b ≡ capped (tally p 0 (64 * (j + m)))
  count_more p r j m a c here ea ec b eb =
      let e : 64 * (j + m) ≡ 64 * j + 64 * m = omega arith in
      let s = tally_same p r (0 + 64 * j) 0 (64 * m) (λ k l. rw (zero-add, zero-add) (here k l)) in
      let all = ap (tally p 0) e ∙ tally_add p 0 (64 * j) (64 * m) in
      omega (arith, all, s, ea, ec, eb)

  module _ (cur : List ℕ) (j e l old operand new c w : ℕ) (d : Partly cur j e l) (within : j < length cur) (own : old ≡ get_or cur j 0) (other : operand ≡ get_or vs j 0)
      (ho : old < 2 ^ 64) (hn : new < 2 ^ 64) (applied : Applied t old operand new)
      (ec : c ≡ tally (λ k. enters (bit old k) (bit new k)) 0 64) (ew : w ≡ tally (λ k. enters (bit new k) (bit old k)) 0 64)
      (e' l' : ℕ) (ee : e' ≡ capped (e + c)) (el : l' ≡ capped (l + w)) where
    old_bit : (k : ℕ) → k < 64 → holds us (64 * j + k) ≡ bit old k
    old_bit k h = holds_word us j k h ∙ ap (λ x. bit x k) (sym (own ∙ d.rest j (omega arith)))

    new_bit : (k : ℕ) → k < 64 → look t (holds us (64 * j + k)) (holds vs (64 * j + k)) ≡ bit new k
    new_bit k h = ap₂ (look t) (old_bit k h) (holds_word vs j k h ∙ ap (λ x. bit x k) (sym other)) ∙ sym (applied k h)

    few : (p : ℕ → Bool) (x : ℕ) → x ≡ tally p 0 64 → x ≡ capped (tally p 0 64)
    few p x q = omega (arith, q, tally_le p 0 64)

    pub partly_more : Partly (set cur j new) (j + 1) e' l'
    partly_more = record {
      long = length-set cur j new ∙ d.long;
      bits = λ i h. elim (cases_eq (i / 64) j) [
        | inl q ↦ (let s : 64 * j + i % 64 ≡ i = omega arith in
            holds-set_same cur j new i within q ∙ sym (new_bit (i % 64) (omega arith)) ∙ ap (λ x. look t (holds us x) (holds vs x)) s)
        | inr ne ↦ holds-set_other cur j new i ne ∙ d.bits i (omega arith)
      ];
      rest = λ k h. get_or-set_other cur j k new 0 (λ q. omega arith) ∙ d.rest k (omega arith);
      same = λ k h stays. elim (cases_eq k j) [
        | inl q ↦ (let here = subst (λ x. (b : ℕ) → b < 64 → look t (holds us (64 * x + b)) (holds vs (64 * x + b)) ≡ holds us (64 * x + b)) q stays in
            let is : new ≡ old = same_bits 64 new old hn ho (λ b l. sym (new_bit b l) ∙ here b l ∙ old_bit b l) in
            ap (λ x. get_or (set cur j new) x 0) q ∙ get_or-set_same cur j new 0 within ∙ is ∙ own ∙ d.rest j (omega arith) ∙ ap (λ x. get_or us x 0) (sym q))
        | inr ne ↦ get_or-set_other cur j k new 0 ne ∙ d.same k (omega arith) stays
      ];
      fit = λ k h. set_fit cur j new within hn k (d.fit k h);
      came = count_more in_at (λ k. enters (bit old k) (bit new k)) j 1 e c (λ k h. ap₂ enters (old_bit k h) (new_bit k h)) d.came (few _ c ec) e' ee;
      went = count_more out_at (λ k. enters (bit new k) (bit old k)) j 1 l w (λ k h. ap₂ enters (new_bit k h) (old_bit k h)) d.went (few _ w ew) l' el;
    }

  unread : (cur : List ℕ) (j e l : ℕ) → Partly cur j e l → (i : ℕ) → 64 * j ≤ i → holds cur i ≡ holds us i
  unfolding holds
  unread cur j e l d i a = ap (λ x. bit x (i % 64)) (d.rest (i / 64) (omega arith))

  -- m words that are put through the table as a row of their own
  module _ (cur new : List ℕ) (j m e l c w : ℕ) (d : Partly cur j e l) (own : j + m ≤ length cur) (other : j + m ≤ length vs)
      (u : Updated t (take m (drop j cur)) (take m (drop j vs)) new (c, w)) (e' l' : ℕ) (ee : e' ≡ capped (e + c)) (el : l' ≡ capped (l + w)) where
    abbrev ps : List ℕ
    ps = take m (drop j cur)

    abbrev qs : List ℕ
    qs = take m (drop j vs)

    all : shared ps qs ≡ 64 * m
    all = omega (arith, length_part cur j m own, length_part vs j m other)

    long : length new ≡ m
    long = u.row.long ∙ length_part cur j m own

    inside : (k : ℕ) → k < m → get_or (put_mid j m cur new) (j + k) 0 ≡ get_or new k 0
    inside k h = get_or-put_in cur new j m k (omega arith) (omega (arith, long))

    outside : (k : ℕ) → (k < j) ⊎ (j + m ≤ k) → get_or (put_mid j m cur new) k 0 ≡ get_or cur k 0
    outside k h = get_or-put_out cur new j m k own long h

    own_at : (i : ℕ) → i < 64 * m → holds ps i ≡ holds us (64 * j + i)
    own_at i h = holds_part cur j m i h ∙ unread cur j e l d (64 * j + i) (omega arith)

    looked_at : (i : ℕ) → i < 64 * m → look t (holds ps i) (holds qs i) ≡ look t (holds us (64 * j + i)) (holds vs (64 * j + i))
    looked_at i h = ap₂ (look t) (own_at i h) (holds_part vs j m i h)

    -- a word of the part, from the part's start
    part_bit : (i : ℕ) → i < 64 * m → holds (put_mid j m cur new) (64 * j + i) ≡ look t (holds us (64 * j + i)) (holds vs (64 * j + i))
    unfolding holds combined
    part_bit i h =
        let p : (64 * j + i) / 64 ≡ j + i / 64 = omega arith in
        let q : (64 * j + i) % 64 ≡ i % 64 = omega arith in
        ap₂ bit (ap (λ x. get_or (put_mid j m cur new) x 0) p ∙ inside (i / 64) (omega arith)) q ∙ u.row.bits i
        ∙ ap (λ x. cond x (look t (holds ps i) (holds qs i)) (holds ps i)) (lt-ltb i (shared ps qs) (omega (arith, all)))
        ∙ looked_at i h

    -- the same word, as one of the whole row
    at_bit : (i : ℕ) → 64 * j ≤ i → i < 64 * (j + m) → holds (put_mid j m cur new) i ≡ look t (holds us i) (holds vs i)
    at_bit i a h = let s : 64 * j + (i - 64 * j) ≡ i = omega arith in let p = part_bit (i - 64 * j) (omega arith) in rw s at p

    part_count : (p r : ℕ → Bool) (x y n : ℕ) → ((i : ℕ) → i < 64 * m → p (64 * j + i) ≡ r i) → n ≡ 64 * m → x ≡ capped (tally p 0 (64 * j)) → y ≡ capped (tally r 0 n)
        → (b : ℕ) → b ≡ capped (x + y) → b ≡ capped (tally p 0 (64 * (j + m)))
    part_count p r x y n here is ex ey b eb = count_more p r j m x y here ex (ey ∙ ap (λ z. capped (tally r 0 z)) is) b eb

    pub partly_part : Partly (put_mid j m cur new) (j + m) e' l'
    unfolding entered left combined holds
    partly_part = record {
      long = length-put_mid cur new j m own long ∙ d.long;
      bits = λ i h. elim (cases_lt i (64 * j)) [
        | inl s ↦ out_bit i (inl s) ∙ d.bits i s
        | inr s ↦ at_bit i s h
      ];
      rest = λ k h. outside k (inr h) ∙ d.rest k (omega arith);
      same = λ k h stays. elim (cases_lt k j) [
        | inl s ↦ outside k (inl s) ∙ d.same k s stays
        | inr s ↦ (let q : j + (k - j) ≡ k = omega arith in
            let b : k - j < m = omega arith in
            ap (λ x. get_or (put_mid j m cur new) x 0) (sym q) ∙ inside (k - j) b ∙ u.row.rest (k - j) (λ b' l'. stays_part k (k - j) b' q b l' (stays b' l')) ∙ get_or-part cur j m (k - j) b
            ∙ ap (λ x. get_or cur x 0) q ∙ d.rest k s)
      ];
      fit = λ k h. elim (cases_lt k j) [
        | inl s ↦ rw (outside k (inl s)) (d.fit k h)
        | inr s ↦ elim (cases_lt k (j + m)) [
          | inl b ↦ (let q : j + (k - j) ≡ k = omega arith in
              let n : k - j < m = omega arith in
              let p : get_or ps (k - j) 0 ≡ get_or cur k 0 = get_or-part cur j m (k - j) n ∙ ap (λ x. get_or cur x 0) q in
              let z = ap (λ x. get_or (put_mid j m cur new) x 0) (sym q) ∙ inside (k - j) n in
              rw z (u.row.fit (k - j) (rw p (d.fit k h))))
          | inr b ↦ rw (outside k (inr b)) (d.fit k h)
        ]
      ];
      came = part_count in_at _ e c (shared ps qs) (λ i h. sym (ap₂ enters (own_at i h) (looked_at i h))) all d.came u.entered e' ee;
      went = part_count out_at _ l w (shared ps qs) (λ i h. sym (ap₂ enters (looked_at i h) (own_at i h))) all d.went u.left l' el;
    }
      where
        out_bit : (i : ℕ) → (i < 64 * j) ⊎ (64 * (j + m) ≤ i) → holds (put_mid j m cur new) i ≡ holds cur i
        out_bit i (inl s) = ap (λ x. bit x (i % 64)) (outside (i / 64) (inl (omega arith)))
        out_bit i (inr s) = ap (λ x. bit x (i % 64)) (outside (i / 64) (inr (omega arith)))

        stays_part : (k n b : ℕ) → j + n ≡ k → n < m → b < 64 → look t (holds us (64 * k + b)) (holds vs (64 * k + b)) ≡ holds us (64 * k + b)
            → cond (ltb (64 * n + b) (shared ps qs)) (look t (holds ps (64 * n + b)) (holds qs (64 * n + b))) (holds ps (64 * n + b)) ≡ holds ps (64 * n + b)
        stays_part k n b e w h same =
            let s : 64 * j + (64 * n + b) ≡ 64 * k + b = omega arith in
            let i : 64 * n + b < 64 * m = omega arith in
            ap (λ x. cond x (look t (holds ps (64 * n + b)) (holds qs (64 * n + b))) (holds ps (64 * n + b))) (lt-ltb (64 * n + b) (shared ps qs) (omega (arith, all)))
            ∙ looked_at (64 * n + b) i ∙ ap (λ x. look t (holds us x) (holds vs x)) s ∙ same ∙ ap (holds us) (sym s) ∙ sym (own_at (64 * n + b) i)

  -- words that stay as they are
  module _ (cur : List ℕ) (j m e l : ℕ) (d : Partly cur j e l) (up : j ≤ m) (alike : Alike t cur vs j m) where
    same : (i : ℕ) → 64 * j ≤ i → i < 64 * m → look t (holds us i) (holds vs i) ≡ holds us i
    same i a h = ap (λ x. look t x (holds vs i)) (sym (unread cur j e l d i a)) ∙ alike i a h ∙ unread cur j e l d i a

    count_same : (p : ℕ → Bool) → ((i : ℕ) → 64 * j ≤ i → i < 64 * m → p i ≡ false) → tally p 0 (64 * m) ≡ tally p 0 (64 * j)
    count_same p h = tally_trim p (64 * j) (64 * m) (omega arith) h

    pub partly_same : Partly cur m e l
    partly_same = record {
      long = d.long;
      bits = λ i h. elim (cases_lt i (64 * j)) [
        | inl s ↦ d.bits i s
        | inr s ↦ unread cur j e l d i s ∙ sym (same i s h)
      ];
      rest = λ k h. d.rest k (omega arith);
      same = λ k h stays. elim (cases_lt k j) [
        | inl s ↦ d.same k s stays
        | inr s ↦ d.rest k s
      ];
      fit = d.fit;
      came = d.came ∙ ap capped (sym (count_same in_at (λ i a h. (enters_same (holds us i) _ (same i a h)).0)));
      went = d.went ∙ ap capped (sym (count_same out_at (λ i a h. (enters_same (holds us i) _ (same i a h)).1)));
    }

  -- every shared word is written
  module _ (cur : List ℕ) (e l : ℕ) (d : Partly cur (min (length us) (length vs)) e l) where
    pub partly_all : Rewritten (combined t us vs) us cur
    unfolding combined holds
    partly_all = record {
      rest = λ k stays. elim (cases_lt k (min (length us) (length vs))) [
        | inl s ↦ d.same k s (λ b l. sym (ap (λ x. cond x (look t (holds us (64 * k + b)) (holds vs (64 * k + b))) (holds us (64 * k + b))) (lt-ltb (64 * k + b) (shared us vs) (omega arith))) ∙ stays b l)
        | inr s ↦ d.rest k s
      ];
      long = d.long;
      bits = λ i. elim (cases_lt i (shared us vs)) [
        | inl s ↦ d.bits i s ∙ ap (λ x. cond x (look t (holds us i) (holds vs i)) (holds us i)) (sym (lt-ltb i (shared us vs) s))
        | inr s ↦ ap (λ x. bit x (i % 64)) (d.rest (i / 64) (omega arith)) ∙ ap (λ x. cond x (look t (holds us i) (holds vs i)) (holds us i)) (sym (le-ltb i (shared us vs) s))
      ];
      fit = d.fit;
    }

    pub partly_counts : (e ≡ capped (entered t us vs)) × (l ≡ capped (left t us vs))
    unfolding entered left
    partly_counts = (d.came, d.went)
