-- What a refusal returns.
--   returned   the number of a refusal, then the values that come with it
--   listed     the values of a call's answer, in order
use Rattle.std.specs.Prelude.{ℕ, List, [], ◌∷◌}
use Rattle.index.specs.declared.refusal.Refusal.{Refusal}
use Rattle.index.specs.declared.refusal.Refusal.TheVariants.{Index, Domains, Range, Memory, Holding, Limit, Row, Places}
use Rattle.index.specs.declared.refusal.Values.{Values}
use Rattle.index.specs.declared.refusal.Values.TheVariants.{Nothing, One, Two}

abbrev pub returned : Refusal → List ℕ
returned (Index i) = 1 ∷ i ∷ []
returned (Domains m n) = 2 ∷ m ∷ n ∷ []
returned Range = 3 ∷ []
returned Memory = 4 ∷ []
returned Holding = 5 ∷ []
returned Limit = 6 ∷ []
returned (Row r) = 7 ∷ r ∷ []
returned Places = 8 ∷ []

abbrev pub listed : Values → List ℕ
listed Nothing = []
listed (One a) = a ∷ []
listed (Two a b) = a ∷ b ∷ []
