-- A row of words with a number set before them.
use Rattle.std.proofs.Common.{◌≡◌, ℕ, zero, suc, ◌+◌, ◌-◌, ◌<◌, List, [], ◌∷◌, ◌++◌, length, take, drop, set, refl, ap, ap₂, ◌∙◌, add-one, le_of_suc-le-suc, not-suc-le-zero, arith}

last : (n t : ℕ) (ws : List ℕ) → t < length ws → drop t (set (take (suc t) ws) t n) ≡ n ∷ []
last n t [] h = absurd (not-suc-le-zero h)
last n zero (w ∷ ws) h = refl
last n (suc t) (w ∷ ws) h = last n t ws (le_of_suc-le-suc h)

before : (n t : ℕ) (ws : List ℕ) → t < length ws → take t (set (take (suc t) ws) t n) ≡ take t ws
before n t [] h = absurd (not-suc-le-zero h)
before n zero (w ∷ ws) h = refl
before n (suc t) (w ∷ ws) h = ap (λ x. w ∷ x) (before n t ws (le_of_suc-le-suc h))

-- the row is cut behind its first t words and one more, which becomes the number and is turned to the front
pub turned_front : (n t l : ℕ) (ws cut out : List ℕ) → l ≡ t + 1 → t < length ws → cut ≡ take (t + 1) ws
    → out ≡ drop (l - 1) (set cut t n) ++ take (l - 1) (set cut t n) → out ≡ n ∷ take t ws
turned_front n t l ws cut out long some is made =
    let p : l - 1 ≡ t = omega (arith, long) in
    made ∙ ap (λ k. drop k (set cut t n) ++ take k (set cut t n)) p
    ∙ ap (λ xs. drop t (set xs t n) ++ take t (set xs t n)) (is ∙ ap (λ k. take k ws) (add-one t))
    ∙ ap₂ (λ x y. x ++ y) (last n t ws some) (before n t ws some)
