-- The lowest member at or after a number, from what holds of the members.
use Rattle.std.proofs.Common.{◌≡◌, ℕ, zero, suc, ◌+◌, ◌-◌, ◌<◌, ◌≤◌, Bool, true, false, List, [], ◌∷◌, get_or, drop, Some, None, sym, refl, ap, ◌∙◌, add-zero, arith}
use Rattle.std.proofs.lemmas.List.{get_or-drop}
use Rattle.std.proofs.lemmas.Bool.{true≢false}
use Rattle.mask.specs.Machine.{first, indices, next_member}

first_none : (a : ℕ) (bs : List Bool) → ((k : ℕ) → get_or bs k false ≡ false) → first (indices a bs) ≡ None
unfolding indices
first_none a [] h = refl
first_none a (true ∷ bs) h = absurd (true≢false (h 0))
first_none a (false ∷ bs) h = first_none (a + 1) bs (λ k. h (suc k))

first_some : (a : ℕ) (bs : List Bool) (k : ℕ) → get_or bs k false ≡ true → ((j : ℕ) → j < k → get_or bs j false ≡ false) → first (indices a bs) ≡ Some (a + k)
unfolding indices
first_some a [] k e h = absurd (true≢false (sym e))
first_some a (true ∷ bs) zero e h = ap Some (sym (add-zero a))
first_some a (true ∷ bs) (suc k) e h = absurd (true≢false (h 0 (omega arith)))
first_some a (false ∷ bs) zero e h = absurd (true≢false (sym e))
first_some a (false ∷ bs) (suc k) e h =
    let s : a + 1 + k ≡ a + suc k = omega arith in
    first_some (a + 1) bs k e (λ j l. h (suc j) (omega arith)) ∙ ap Some s

pub next_none : (bs : List Bool) (from : ℕ) → ((i : ℕ) → from ≤ i → get_or bs i false ≡ false) → next_member bs from ≡ None
next_none bs from h = first_none from (drop from bs) (λ k. get_or-drop from bs k false ∙ h (from + k) (omega arith))

pub next_some : (bs : List Bool) (from i : ℕ) → from ≤ i → get_or bs i false ≡ true → ((j : ℕ) → from ≤ j → j < i → get_or bs j false ≡ false) → next_member bs from ≡ Some i
next_some bs from i a e h =
    let s : from + (i - from) ≡ i = omega arith in
    first_some from (drop from bs) (i - from) (get_or-drop from bs (i - from) false ∙ ap (λ x. get_or bs x false) s ∙ e)
    (λ j l. get_or-drop from bs j false ∙ h (from + j) (omega arith) (omega arith))
    ∙ ap Some s
