-- The first item of a list of which a question answers anything.
use denote.Param.Members.{Mut}
use Rattle.std.proofs.Common.{◌≡◌, ℕ, zero, suc, ◌+◌, ◌<◌, List, [], ◌∷◌, ◌++◌, length, get_or, slice_get, Some, None, Option, MatchOption, IfSome, IsSomeAnd, IsTrue, sym, refl, ap, subst, ◌∙◌, suc-le-suc, le_of_suc-le-suc, not-suc-le-zero, arith}
use Rattle.std.proofs.lemmas.Iterator.{YieldsList}
use Rattle.std.specs.Fn.{Called}
use Rattle.std.specs.Iterator.{AlwaysYields, Yields}
use Rattle.std.specs.Iterator.Runs.{Run, SomeRun, YieldsRun, AllItemsGive, IsFirstToGive}
use Rattle.std.specs.Option.{option_or}
use Rattle.mask.specs.Trials.{first_answer}

option_or_assoc : {B : Type 0} (a b c : Option B) → option_or (option_or a b) c ≡ option_or a (option_or b c)
option_or_assoc (Some e) b c = refl
option_or_assoc None b c = refl

none_parts : {B : Type 0} (a b : Option B) → option_or a b ≡ None → (a ≡ None) × (b ≡ None)
none_parts (Some e) b h = absurd (let z : ◌≡◌ {A = ℕ} 0 1 = cc in omega arith)
none_parts None b h = (refl, h)

module _ {A B : Type 0} (f : A → Option B) where
  pub first_answer-append : (xs ys : List A) → first_answer f (xs ++ ys) ≡ option_or (first_answer f xs) (first_answer f ys)
  unfolding first_answer
  first_answer-append [] ys = refl
  first_answer-append (x ∷ xs) ys =
      ap (option_or (f x)) (first_answer-append xs ys) ∙ sym (option_or_assoc (f x) (first_answer f xs) (first_answer f ys))

  pub none_here : (x : A) (xs : List A) → first_answer f (x ∷ xs) ≡ None → (f x ≡ None) × (first_answer f xs ≡ None)
  unfolding first_answer
  none_here x xs h = none_parts (f x) (first_answer f xs) h

  pub none_both : (xs ys : List A) → first_answer f (xs ++ ys) ≡ None → (first_answer f xs ≡ None) × (first_answer f ys ≡ None)
  none_both xs ys h = none_parts (first_answer f xs) (first_answer f ys) (sym (first_answer-append xs ys) ∙ h)

  pub none_at : (xs : List A) → first_answer f xs ≡ None → (k : ℕ) (d : A) → k < length xs → f (get_or xs k d) ≡ None
  none_at [] h k d l = absurd (not-suc-le-zero l)
  none_at (x ∷ xs) h zero d l = (none_here x xs h).0
  none_at (x ∷ xs) h (suc k) d l = none_at xs (none_here x xs h).1 k d (le_of_suc-le-suc l)

-- `or_else`, which goes on where there is nothing
pub gone_on : {B : Type 0} (first second r : Option B) (E : Type 0) → MatchOption first E (λ x. r ≡ Some x) → (E → r ≡ second) → r ≡ option_or first second
gone_on None second r E m k = k m
gone_on (Some x) second r E m k = m

-- `find_map` over a chain that gives a list, with a closure that asks the question of each item
module _ {S A B C F : Type 0} (steps : S → Option A → S → Type 0) (v : A → B) (g : Mut F (A × Unit {0}) (Option C)) (f : F) (h : B → Option C)
    (k : (x : A) (r : Option C) (q : F) → Called g f (x, tt) r q → (q ≡ f) × (r ≡ h (v x))) where
  answered : (r : Option C) (x : A) (y : B) (ys : List B) → v x ≡ y → Called g f (x, tt) r f → option_or r (first_answer h ys) ≡ first_answer h (y ∷ ys)
  unfolding first_answer
  answered r x y ys e c = ap (λ o. option_or o (first_answer h ys)) ((k x r f c).1 ∙ ap h e)

  none_answered : (xs : List A) (ys : List B) (s t u : S) → AlwaysYields steps v s ys → Yields steps s xs t → steps t None u
      → ((n : ℕ) → IfSome (slice_get xs n) (λ x. Called g f (x, tt) None f)) → None ≡ first_answer h ys
  unfolding first_answer
  none_answered [] [] s t u e w p c = refl
  none_answered [] (y ∷ ys) s t u e w p c = absurd (e.0 u (subst (λ z. steps z None u) (sym w) p))
  none_answered (x ∷ xs) [] s t u e w p c = absurd (e x w.0 w.1)
  none_answered (x ∷ xs) (y ∷ ys) s t u e w p c =
      let m = e.1 x w.0 w.1 in none_answered xs ys w.0 t u m.1 w.2 p (λ n. c (suc n)) ∙ answered None x y ys m.0 (c zero)

  some_answered : (z : C) (xs : List A) (i : ℕ) (ys : List B) (s t : S) → AlwaysYields steps v s ys → Yields steps s xs t
      → IsSomeAnd (slice_get xs i) (λ x. Called g f (x, tt) (Some z) f) → ((n : ℕ) → n < i → IsSomeAnd (slice_get xs n) (λ x. Called g f (x, tt) None f))
      → Some z ≡ first_answer h ys
  some_answered z [] i ys s t e w hit miss = absurd hit
  some_answered z (x ∷ xs) i [] s t e w hit miss = absurd (e x w.0 w.1)
  some_answered z (x ∷ xs) zero (y ∷ ys) s t e w hit miss = answered (Some z) x y ys (e.1 x w.0 w.1).0 hit
  some_answered z (x ∷ xs) (suc i) (y ∷ ys) s t e w hit miss =
      let m = e.1 x w.0 w.1 in
      some_answered z xs i ys w.0 t m.1 w.2 hit (λ n l. miss (suc n) (suc-le-suc l)) ∙ answered None x y ys m.0 (miss zero (omega arith))

  by_run : (r : Option C) (p : Run steps) (all : List B) → AlwaysYields steps v p.from all
      → MatchOption r (IsTrue p.whole × AllItemsGive p g f None) (λ y. (i : ℕ) × (i < p.len) × (p.len ≡ i + 1) × IsFirstToGive p g f (Some y) None i)
      → r ≡ first_answer h all
  unfolding YieldsRun
  by_run None p all e d =
      let end = p.gave.0.2 d.0 in
      none_answered p.items all p.from p.gave.0.0 end.0 e p.gave.0.1 end.1
      (λ n. subst (λ o. IfSome o (λ x. Called g f (x, tt) None f)) (p.gave.1 n) (d.1 (λ a r q c. (k a.0 r q c).0) n))
  by_run (Some z) p all e d =
      let told = d.3 (λ a r q c. (k a.0 r q c).0) in
      some_answered z p.items d.0 all p.from p.gave.0.0 e p.gave.0.1
      (subst (λ o. IsSomeAnd o (λ x. Called g f (x, tt) (Some z) f)) (p.gave.1 d.0) told.0)
      (λ n l. subst (λ o. IsSomeAnd o (λ x. Called g f (x, tt) None f)) (p.gave.1 n) (told.1 n l))

-- from the clause `runs` of `find_map`
pub first_answer-from_find_map : {S A B C F : Type 0} {steps : S → Option A → S → Type 0} {v : A → B} {g : Mut F (A × Unit {0}) (Option C)} {f : F} {s : S} {all : List B} (h : B → Option C) (r : Option C)
    → SomeRun steps s (λ p. MatchOption r (IsTrue p.whole × AllItemsGive p g f None) (λ y. (i : ℕ) × (i < p.len) × (p.len ≡ i + 1) × IsFirstToGive p g f (Some y) None i))
    → YieldsList steps v s all → ((x : A) (r : Option C) (q : F) → Called g f (x, tt) r q → (q ≡ f) × (r ≡ h (v x))) → r ≡ first_answer h all
first_answer-from_find_map {steps = steps} {v = v} {g = g} {f = f} {all = all} h r d e k =
    by_run steps v g f h k r d.0 all (subst (λ z. AlwaysYields steps v z all) (sym d.1) e.runs) d.2
