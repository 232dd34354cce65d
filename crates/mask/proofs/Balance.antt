-- The members number what was there, plus all that entered, less all that left.
use Rattle.std.proofs.Common.{◌≡◌, ℕ, zero, suc, ◌+◌, Bool, true, false, cond, eqb, ltb, List, [], ◌∷◌, length, replicate, Ok, Err, sym, refl, ◌∙◌, arith}
use Rattle.std.proofs.lemmas.List.{length-set, length-replicate}
use Rattle.std.proofs.lemmas.Bool.{eqb-true}
use Rattle.mask.specs.Machine.{Move, insert, remove, clear, insert_all, combine, step, run, Rule, Report, gained, count, entered, left, total}
use Rattle.index.specs.declared.refusal.Refusal.{Refusal}
use Rattle.mask.proofs.Decides.{length-through}

-- what is in the second set and what only the first had make as many as what is in the first and what only the second has
pub exchange : (xs ys : List Bool) → length xs ≡ length ys → count ys + gained ys xs ≡ count xs + gained xs ys
unfolding count gained
exchange [] [] e = refl
exchange [] (y ∷ ys) e = absurd (let z : ◌≡◌ {A = ℕ} 0 1 = cc in omega arith)
exchange (x ∷ xs) [] e = absurd (let z : ◌≡◌ {A = ℕ} 0 1 = cc in omega arith)
exchange (true ∷ xs) (true ∷ ys) e = let h = exchange xs ys (let f : suc (length xs) ≡ suc (length ys) = e in omega arith) in omega (arith, h)
exchange (true ∷ xs) (false ∷ ys) e = let h = exchange xs ys (let f : suc (length xs) ≡ suc (length ys) = e in omega arith) in omega (arith, h)
exchange (false ∷ xs) (true ∷ ys) e = let h = exchange xs ys (let f : suc (length xs) ≡ suc (length ys) = e in omega arith) in omega (arith, h)
exchange (false ∷ xs) (false ∷ ys) e = let h = exchange xs ys (let f : suc (length xs) ≡ suc (length ys) = e in omega arith) in omega (arith, h)

-- an answer and the members after it, against those before
pub record Even (old : List Bool) (s : Report × List Bool) : Type 0 where
  pub long : length s.1 ≡ length old
  pub sums : count s.1 + left s.0 ≡ count old + entered s.0

refused_even : (old : List Bool) (e : Refusal) → Even old (Err e, old)
refused_even old e = record { long = refl; sums = refl }

settle_even : (b : Bool) (e : Refusal) (old new : List Bool) → length new ≡ length old → Even old (cond b (Ok (gained old new, gained new old), new) (Err e, old))
settle_even true e old new l = record { long = l; sums = exchange old new (sym l) }
settle_even false e old new l = refused_even old e

guard_even : (b : Bool) (e : Refusal) (old : List Bool) (s : Report × List Bool) → (b ≡ true → Even old s) → Even old (cond b s (Err e, old))
guard_even true e old s h = h refl
guard_even false e old s h = refused_even old e

-- the other mask of a combine has as many places as its domain
abbrev pub Fair : Move → Type 0
Fair (insert i) = Unit {0}
Fair (remove i) = Unit {0}
Fair clear = Unit {0}
Fair insert_all = Unit {0}
Fair (combine t m other) = length other ≡ m

step_even : (n : ℕ) (rule : Rule) (old : List Bool) (m : Move) → length old ≡ n → Fair m → Even old (step n rule old m)
unfolding step
step_even n rule old (insert i) l f = guard_even (ltb i n) _ old _ (λ _. settle_even _ _ old _ (length-set old i true))
step_even n rule old (remove i) l f = guard_even (ltb i n) _ old _ (λ _. settle_even _ _ old _ (length-set old i false))
step_even n rule old clear l f = settle_even _ _ old _ (length-replicate n false ∙ sym l)
step_even n rule old insert_all l f = settle_even _ _ old _ (length-replicate n true ∙ sym l)
step_even n rule old (combine t m other) l f = guard_even (eqb n m) _ old _ (λ e. settle_even _ _ old _ (length-through t old other (l ∙ eqb-true n m e ∙ sym f)))

unfoldable pub AllFair : List Move → Type 0
AllFair [] = Unit {0}
AllFair (m ∷ ms) = Fair m × AllFair ms

pub run_even : (n : ℕ) (rule : Rule) (old : List Bool) (ms : List Move) → length old ≡ n → AllFair ms
    → count (run n rule old ms).1 + total left (run n rule old ms).0 ≡ count old + total entered (run n rule old ms).0
unfolding run total AllFair
run_even n rule old [] l f = refl
run_even n rule old (m ∷ ms) l f =
    let s = step n rule old m in
    let e = step_even n rule old m l f.0 in
    let h = run_even n rule s.1 ms (e.long ∙ l) f.1 in
    let k = e.sums in
    omega (arith, h, k)

pub count-replicate : (n : ℕ) (b : Bool) → count (replicate n b) ≡ cond b n 0
unfolding count
count-replicate zero true = refl
count-replicate zero false = refl
count-replicate (suc n) true = let h = count-replicate n true in omega (arith, h)
count-replicate (suc n) false = let h = count-replicate n false in omega (arith, h)
