-- Laws of counts of the indices that pass a test.
use Rattle.std.proofs.Common.{◌≡◌, ℕ, zero, suc, ◌+◌, ◌-◌, ◌<◌, ◌≤◌, Bool, true, false, sym, refl, ap, ◌∙◌, ap₂, add-zero, add_assoc, zero-add, arith}
use Rattle.words.specs.Bits.{one, tally}

pub one_le : (b : Bool) → one b ≤ 1
one_le true = omega arith
one_le false = omega arith

pub tally_le : (p : ℕ → Bool) (a n : ℕ) → tally p a n ≤ n
unfolding tally
tally_le p a zero = omega arith
tally_le p a (suc n) = omega (arith, one_le (p a), tally_le p (a + 1) n)

pub tally_add : (p : ℕ → Bool) (a m n : ℕ) → tally p a (m + n) ≡ tally p a m + tally p (a + m) n
unfolding tally
tally_add p a zero n = rw (zero-add, zero-add, add-zero)
tally_add p a (suc m) n =
    let e : suc m + n ≡ suc (m + n) = omega arith in
    let f : a + suc m ≡ (a + 1) + m = omega arith in
    rw (e, f) (ap (λ x. one (p a) + x) (tally_add p (a + 1) m n) ∙ sym (add_assoc (one (p a)) (tally p (a + 1) m) (tally p (a + 1 + m) n)))

-- two tests that agree, index by index
pub tally_same : (p q : ℕ → Bool) (a b n : ℕ) → ((i : ℕ) → i < n → p (a + i) ≡ q (b + i)) → tally p a n ≡ tally q b n
unfolding tally
tally_same p q a b zero h = refl
tally_same p q a b (suc n) h =
    let here : p a ≡ q b = let k : 0 < suc n = omega arith in let e = h 0 k in (rw (add-zero, add-zero) at e) in
    let rest : tally p (a + 1) n ≡ tally q (b + 1) n = tally_same p q (a + 1) (b + 1) n (λ i l.
    let k : 1 + i < suc n = omega arith in let e = h (1 + i) k in
    rw (add_assoc, add_assoc) e) in
    ap₂ (λ x y. one x + y) here rest

pub tally_none : (p : ℕ → Bool) (a n : ℕ) → ((i : ℕ) → i < n → p (a + i) ≡ false) → tally p a n ≡ 0
unfolding tally
tally_none p a zero h = refl
tally_none p a (suc n) h =
    let here : p a ≡ false = let k : 0 < suc n = omega arith in let e = h 0 k in (rw add-zero at e) in
    let rest : tally p (a + 1) n ≡ 0 = tally_none p (a + 1) n (λ i l.
    let k : 1 + i < suc n = omega arith in let e = h (1 + i) k in rw add_assoc e) in
    ap₂ (λ x y. one x + y) here rest

-- a count of 0 says that no index passes
pub tally_zero : (p : ℕ → Bool) (a n : ℕ) → tally p a n ≡ 0 → (i : ℕ) → i < n → p (a + i) ≡ false
unfolding tally
tally_zero p a zero e i h = absurd (omega arith)
tally_zero p a (suc n) e zero h = rw add-zero (first (p a) (omega arith))
  where
    first : (b : Bool) → one b ≡ 0 → b ≡ false
    first true z = absurd (omega arith)
    first false z = refl
tally_zero p a (suc n) e (suc i) h =
    let s : a + suc i ≡ a + 1 + i = omega arith in rw s (tally_zero p (a + 1) n (omega arith) i (omega arith))

-- tests that fail from n on
pub tally_trim : (p : ℕ → Bool) (n m : ℕ) → n ≤ m → ((i : ℕ) → n ≤ i → i < m → p i ≡ false) → tally p 0 m ≡ tally p 0 n
tally_trim p n m l h =
    let e : m ≡ n + (m - n) = omega arith in
    ap (tally p 0) e ∙ tally_add p 0 n (m - n)
    ∙ ap (λ x. tally p 0 n + x) (tally_none p (0 + n) (m - n) (λ i k. h (0 + n + i) (omega arith) (omega arith)))
    ∙ add-zero (tally p 0 n)
