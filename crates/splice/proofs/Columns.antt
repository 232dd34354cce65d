-- Where the columns of a strip start and end.
use Rattle.std.proofs.Common.{◌≡◌, ℕ, zero, suc, ◌+◌, ◌*◌, ◌/◌, ◌%◌, ◌<◌, ◌≤◌, sym, ap, ◌∙◌, inl, inr, zero-mul, add-one, arith}
use Rattle.std.proofs.Math.Nat.{mul-add-div, div-add-mod, mul_assoc, mul_comm, mul-add}
use native.Mathlib.Nat.{mul-div_cancel_left, zero-div}
use Rattle.std.proofs.lemmas.Bool.{cases_lt}
use Rattle.splice.specs.Strips.{columns_of, edge, Tiled}

-- whole columns and what is left over, shared out apart
module _ (j n c : ℕ) (some : 0 < c) where
  parts : c * (j * (n / c)) + j * (n % c) ≡ j * n
  parts =
      ap (λ x. x + j * (n % c)) (sym (mul_assoc c j (n / c)) ∙ ap (λ x. x * (n / c)) (mul_comm c j) ∙ mul_assoc j c (n / c))
      ∙ sym (mul-add j (c * (n / c)) (n % c)) ∙ ap (λ x. j * x) (div-add-mod n c)

  pub shared_out : j * (n / c) + j * (n % c) / c ≡ j * n / c
  shared_out = sym (mul-add-div some (j * (n / c)) (j * (n % c))) ∙ ap (λ x. x / c) parts

pub edge_last : (n : ℕ) → edge n (columns_of n) ≡ n
edge_last n = elim (cases_lt 0 n) [
  | inl some ↦ (let pos : 0 < columns_of n = omega arith in mul-div_cancel_left n pos)
  | inr none ↦ (let z : n ≡ 0 = omega arith in rw z)
]

-- the column of a sample that lies before column m
column_of : (n i m : ℕ) → i < edge n m → (j : ℕ) × (j < m) × (edge n j ≤ i) × (i < edge n (j + 1))
column_of n i zero h =
    let z : 0 * n / columns_of n ≡ 0 = rw (zero-mul, zero-div) in absurd (omega (arith, z))
column_of n i (suc m) h = elim (cases_lt i (edge n m)) [
  | inl l ↦ (let (j, k, low, high) = column_of n i m l in (j, omega arith, low, high))
  | inr l ↦ (m, omega arith, l, rw add-one h)
]

pub tiled : (n : ℕ) → Tiled n
tiled n i h = column_of n i (columns_of n) (rw (edge_last n) h)
