-- Patterns of bits as numbers, and the trials of lists on them.
use Rattle.std.proofs.Common.{◌≡◌, ℕ, zero, suc, ◌+◌, ◌-◌, ◌*◌, ◌/◌, ◌%◌, ◌^◌, ◌<◌, ◌≤◌, Bool, true, false, cond, eqb, ltb, List, [], ◌∷◌, map, length, get_or, drop, Some, None, sym, refl, ap, ◌∙◌, inl, inr, le_of_suc-le-suc, mul_assoc, pow-suc, zero-add, add-one, arith}
use native.Mathlib.Nat.{pow-succ'}
use Rattle.std.proofs.lemmas.List.FromFn.{get_or-map-range_with_len}
use Rattle.std.proofs.lemmas.List.{drop_more, drop_all}
use Rattle.std.proofs.lemmas.Bool.{cases_lt, ltb-true}
use Rattle.std.specs.List.{range_with_len}
use Rattle.words.specs.Bits.{bit, one}
use Rattle.words.specs.Tables.{look}
use Rattle.words.specs.declared.table.Table.{Table}
use Rattle.words.proofs.Bitwise.{bit_zero, bit-suc, same_bits}
use Rattle.mask.specs.Kinds.{Tells}
use Rattle.mask.specs.Trials.{Named, Plain, untried_call, untried, past_row, first_answer, bit_after, trial, pattern_trial, Agree}
use Rattle.mask.specs.declared.calls.Call.{Call}
use Rattle.mask.specs.declared.calls.Call.TheVariants.{Insert, Remove, Clear, InsertAll, Combine}
use Rattle.mask.specs.declared.trials.NotTried.TheVariants.{Operand}
use Rattle.mask.proofs.Firsts.{none_here}
use Rattle.mask.proofs.Operands.{past_cons, all_named}

-- ---- bits of a number that is written in two parts

pow_times : (m a : ℕ) → 2 ^ suc m * a ≡ 2 * (2 ^ m * a)
pow_times m a = rw (pow-succ', mul_assoc)

half_parts : (m a k : ℕ) → (2 ^ suc m * a + k) / 2 ≡ 2 ^ m * a + k / 2
half_parts m a k = omega (arith, pow_times m a)

pub bit_low_part : (m a k b : ℕ) → b < m → bit (2 ^ m * a + k) b ≡ bit k b
bit_low_part zero a k b l = absurd (omega arith)
bit_low_part (suc m) a k zero l =
    let e : (2 ^ suc m * a + k) % 2 ≡ k % 2 = omega (arith, pow_times m a) in
    bit_zero (2 ^ suc m * a + k) ∙ ap (λ (x : ℕ). eqb x 1) e ∙ sym (bit_zero k)
bit_low_part (suc m) a k (suc b) l =
    bit-suc (2 ^ suc m * a + k) b ∙ ap (λ (x : ℕ). bit x b) (half_parts m a k) ∙ bit_low_part m a (k / 2) b (le_of_suc-le-suc l) ∙ sym (bit-suc k b)

pub bit_high_part : (m a k b : ℕ) → k < 2 ^ m → m ≤ b → bit (2 ^ m * a + k) b ≡ bit a (b - m)
bit_high_part zero a k b h l =
    let e : 2 ^ 0 * a + k ≡ a = omega arith in
    let f : b - 0 ≡ b = omega arith in
    ap (λ (x : ℕ). bit x b) e ∙ ap (bit a) (sym f)
bit_high_part (suc m) a k zero h l = absurd (omega arith)
bit_high_part (suc m) a k (suc b) h l =
    let f : b - m ≡ suc b - suc m = omega arith in
    let small : k / 2 < 2 ^ m = omega (arith, pow-suc 2 m) in
    bit-suc (2 ^ suc m * a + k) b ∙ ap (λ (x : ℕ). bit x b) (half_parts m a k) ∙ bit_high_part m a (k / 2) b small (le_of_suc-le-suc l) ∙ ap (bit a) f

-- ---- a table's rule, by one computed test

-- two functions that make the same list are equal at each place of it
same_places : {X : Type 0} (f g : ℕ → X) (d : X) (n : ℕ) → map f (range_with_len 0 n) ≡ map g (range_with_len 0 n) → (k : ℕ) → k < n → f k ≡ g k
same_places f g d n e k h =
    sym (get_or-map-range_with_len f 0 n k k d h (zero-add k)) ∙ ap (λ (l : List _). get_or l k d) e ∙ get_or-map-range_with_len g 0 n k k d h (zero-add k)

-- a table of the bits of the numbers below 64
abbrev pub bits_of_table : List ℕ → ℕ → List Bool
bits_of_table ws b = map (bit (get_or ws b 0)) (range_with_len 0 64)

abbrev pub bits_of_numbers : ℕ → List Bool
bits_of_numbers b = map (λ k. bit k b) (range_with_len 0 64)

pub table_rule : (n : ℕ) (ws : List ℕ) → map (bits_of_table ws) (range_with_len 0 n) ≡ map bits_of_numbers (range_with_len 0 n) → (b k : ℕ) → b < n → k < 64 → bit (get_or ws b 0) k ≡ bit k b
table_rule n ws test b k hb hk =
    same_places (bit (get_or ws b 0)) (λ x. bit x b) false 64 (same_places (bits_of_table ws) bits_of_numbers [] n test b hb) k hk

-- ---- a number made of bits

abbrev pub number : ℕ → (ℕ → Bool) → ℕ
number zero q = 0
number (suc m) q = one (q 0) + 2 * number m (λ i. q (suc i))

one_small : (b : Bool) → one b ≤ 1
one_small true = omega arith
one_small false = omega arith

one_is : (b : Bool) → eqb (one b) 1 ≡ b
one_is true = refl
one_is false = refl

pub number_below : (m : ℕ) (q : ℕ → Bool) → number m q < 2 ^ m
number_below zero q = omega arith
number_below (suc m) q = omega (arith, one_small (q 0), number_below m (λ i. q (suc i)), pow-suc 2 m)

pub number_bit : (m : ℕ) (q : ℕ → Bool) (i : ℕ) → i < m → bit (number m q) i ≡ q i
number_bit zero q i h = absurd (omega arith)
number_bit (suc m) q zero h =
    let n : ℕ = number m (λ i. q (suc i)) in
    let e : (one (q 0) + 2 * n) % 2 ≡ one (q 0) = omega (arith, one_small (q 0)) in
    bit_zero (one (q 0) + 2 * n) ∙ ap (λ (x : ℕ). eqb x 1) e ∙ one_is (q 0)
number_bit (suc m) q (suc i) h =
    let n : ℕ = number m (λ i. q (suc i)) in
    let e : (one (q 0) + 2 * n) / 2 ≡ n = omega (arith, one_small (q 0)) in
    bit-suc (one (q 0) + 2 * n) i ∙ ap (λ (x : ℕ). bit x i) e ∙ number_bit m (λ i. q (suc i)) i (le_of_suc-le-suc h)

-- ---- rounds of sixty-four numbers, whose values at two functions are the bits of two words

module _ (F G : ℕ → Bool) (round a b : ℕ) (as-F : (k : ℕ) → k < 64 → bit a k ≡ F (64 * round + k)) (as-G : (k : ℕ) → k < 64 → bit b k ≡ G (64 * round + k)) where
  pub round_alike : a < 2 ^ 64 → b < 2 ^ 64 → ((v : ℕ) → F v ≡ G v) → a ≡ b
  round_alike ha hb same = same_bits 64 a b ha hb (λ k h. as-F k h ∙ same (64 * round + k) ∙ sym (as-G k h))

  pub round_more : a ≡ b → ((v : ℕ) → v < 64 * round → F v ≡ G v) → (v : ℕ) → v < 64 * (round + 1) → F v ≡ G v
  round_more e before v h = elim (cases_lt v (64 * round)) [
    | inl l ↦ before v l
    | inr l ↦ (
        let k : ℕ = v - 64 * round in
        let at : 64 * round + k ≡ v = omega arith in
        let small : k < 64 = omega arith in
        ap F (sym at) ∙ sym (as-F k small) ∙ ap (λ (x : ℕ). bit x k) e ∙ as-G k small ∙ ap G at)
  ]

-- ---- lists that can be tried

module _ {T O : Type 0} where
  tried_named : (c : Call T O) → untried_call c ≡ None → Named 16 c
  tried_named (Insert i) h = tt
  tried_named (Remove i) h = tt
  tried_named Clear h = tt
  tried_named InsertAll h = tt
  tried_named (Combine o j) h = go (ltb j 16) refl h where
    go : (b : Bool) → ltb j 16 ≡ b → cond b None (Some (Operand j)) ≡ None → j < 16
    go true e p = ltb-true j 16 e
    go false e p = absurd (let z : ◌≡◌ {A = ℕ} 0 1 = cc in omega arith)

  pub tried_row : (cs : List (Call T O)) → untried cs ≡ None → past_row 16 cs ≡ None
  unfolding first_answer
  tried_row [] h = refl
  tried_row (c ∷ cs) h = let t = none_here untried_call c cs h in past_cons 16 c cs (tried_named c t.0) ∙ tried_row cs t.1

  -- every call of such a list names an operand that has a pattern
  pub tried_each : (cs : List (Call T O)) → untried cs ≡ None → (k : ℕ) (c : Call T O) → k < length cs → Named 16 (get_or cs k c)
  tried_each cs h = all_named 16 cs (tried_row cs h)

  pub tried_plain : (cs : List (Call T O)) → untried cs ≡ None → Plain cs
  unfolding Plain first_answer
  tried_plain [] h = tt
  tried_plain (Insert i ∷ cs) h = let z : ◌≡◌ {A = ℕ} 0 1 = cc in omega arith
  tried_plain (Remove i ∷ cs) h = let z : ◌≡◌ {A = ℕ} 0 1 = cc in omega arith
  tried_plain (Clear ∷ cs) h = tried_plain cs h
  tried_plain (InsertAll ∷ cs) h = tried_plain cs h
  tried_plain (Combine o j ∷ cs) h = tried_plain cs (none_here untried_call (Combine o j) cs h).1

-- ---- trials on patterns

module _ {T O : Type 0} (place : T → ℕ) (table : O → Table) where
  -- a loop over the list, at the call at k
  pub trial_more : (p : ℕ → Bool) (b after : Bool) (cs : List (Call T O)) (k : ℕ) (c : Call T O) → k < length cs → c ≡ get_or cs k c → after ≡ bit_after place table p b c
      → trial place table p after (drop (k + 1) cs) ≡ trial place table p b (drop k cs)
  unfolding trial
  trial_more p b after cs k c l is e =
      ap (λ (x : Bool). trial place table p x (drop (k + 1) cs)) e ∙ ap (λ (x : Call T O). trial place table p b (x ∷ drop (k + 1) cs)) is
      ∙ ap (trial place table p b) (sym (drop_more cs k c l))

  pub trial_none : (p : ℕ → Bool) (b : Bool) (cs : List (Call T O)) (k : ℕ) → length cs ≤ k → b ≡ trial place table p b (drop k cs)
  unfolding trial
  trial_none p b cs k l = ap (trial place table p b) (sym (drop_all k cs l))

  after_alike : (p q : ℕ → Bool) → ((j : ℕ) → j < 16 → p j ≡ q j) → (b : Bool) (c : Call T O) → Named 16 c → bit_after place table p b c ≡ bit_after place table q b c
  after_alike p q h b (Insert i) n = refl
  after_alike p q h b (Remove i) n = refl
  after_alike p q h b Clear n = refl
  after_alike p q h b InsertAll n = refl
  after_alike p q h b (Combine o j) n = ap (look (table o) b) (h j n)

  -- a trial reads a pattern at the operands named alone
  trial_alike : (p q : ℕ → Bool) → ((j : ℕ) → j < 16 → p j ≡ q j) → (b : Bool) (cs : List (Call T O)) → untried cs ≡ None → trial place table p b cs ≡ trial place table q b cs
  unfolding trial
  trial_alike p q h b [] u = refl
  trial_alike p q h b (c ∷ cs) u =
      let t = none_here untried_call c cs u in
      ap (λ (x : Bool). trial place table p x cs) (after_alike p q h b c (tried_named c t.0)) ∙ trial_alike p q h (bit_after place table q b c) cs t.1

  -- a pattern with the start's bit in front
  abbrev started : Bool → (ℕ → Bool) → ℕ → Bool
  started b p zero = b
  started b p (suc j) = p j

  -- every trial is one on a numbered pattern
  numbered : (p : ℕ → Bool) (b : Bool) (cs : List (Call T O)) → untried cs ≡ None → pattern_trial place table (number 17 (started b p)) cs ≡ trial place table p b cs
  numbered p b cs u =
      let v : ℕ = number 17 (started b p) in
      let start : bit v 0 ≡ b = number_bit 17 (started b p) 0 (omega arith) in
      let others : (j : ℕ) → j < 16 → bit v (j + 1) ≡ p j = λ j h. ap (bit v) (add-one j) ∙ number_bit 17 (started b p) (suc j) (omega arith) in
      trial_alike (λ j. bit v (j + 1)) p others (bit v 0) cs u ∙ ap (λ (x : Bool). trial place table p x cs) start

  pub agree_on_all : (xs ys : List (Call T O)) → untried xs ≡ None → untried ys ≡ None → ((v : ℕ) → v < 2 ^ 17 → pattern_trial place table v xs ≡ pattern_trial place table v ys) → Agree place table xs ys
  unfolding Agree
  agree_on_all xs ys ux uy h p b =
      sym (numbered p b xs ux) ∙ h (number 17 (started b p)) (number_below 17 (started b p)) ∙ numbered p b ys uy

  pub agree_on : (xs ys : List (Call T O)) → Agree place table xs ys → (v : ℕ) → pattern_trial place table v xs ≡ pattern_trial place table v ys
  unfolding Agree
  agree_on xs ys h v = h (λ j. bit v (j + 1)) (bit v 0)

-- ---- a flag for one statement is a flag for another that holds exactly when it does

pub tells_like : {P Q : Type 0} (b : Bool) → (P → Q) → (Q → P) → Tells b P → Tells b Q
tells_like true to from t = to t
tells_like false to from t = λ q. t (from q)
