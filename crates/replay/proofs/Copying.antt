-- A mask that has taken another's members over.
use Rattle.std.proofs.Common.{◌≡◌, ℕ, Bool, List, [], ◌∷◌, length, Ok, refl, arith}
use Rattle.mask.specs.Machine.{Report, Rule, combine, step, through}
use Rattle.words.specs.Tables.{second_table}

through_second : (xs ys : List Bool) → length xs ≡ length ys → through second_table xs ys ≡ ys
unfolding through
through_second [] [] h = refl
through_second [] (y ∷ ys) h = absurd (omega arith)
through_second (x ∷ xs) [] h = absurd (omega arith)
through_second (x ∷ xs) (y ∷ ys) h = let rest = through_second xs ys (omega arith) in grind arith

pub taken_over : (n m : ℕ) (rule : Rule) (old other next : List Bool) (p : ℕ × ℕ) → length old ≡ length other
    → ◌≡◌ {A = Report × List Bool} (Ok p, next) (step n rule old (combine second_table m other)) → next ≡ other
unfolding step
taken_over n m rule old other next p long h =
    let through = through_second old other long in grind arith
