-- Adverts that are laid into a row and lifted out of it.
use Rattle.std.proofs.Common.{◌≡◌, ℕ, ◌+◌, ◌*◌, ◌/◌, ◌%◌, ◌^◌, ◌<◌, ◌≤◌, Bool, true, false, cond, ◌&&◌, eqb, ltb, leb, List, length, get_or, replicate, Ok, Err, Result, sym, refl, ap, ◌∙◌, subst, ap₂, inl, inr, arith}
use Rattle.std.proofs.lemmas.List.{get_or-replicate, get_or_past, length-replicate}
use Rattle.std.proofs.lemmas.Bool.{cases_lt, lt-ltb, le-ltb}
use Rattle.std.proofs.lemmas.Bool.Decides.{nat_tests}
use Rattle.index.specs.declared.refusal.Refusal.{Refusal}
use Rattle.words.specs.declared.table.Table.{Table}
use Rattle.words.specs.Bits.{bit, holds, tally, set_bits, words_for}
use Rattle.words.specs.Rows.{Rewritten, Put, put, enters, shared, combined, entered, left, capped}
use Rattle.words.specs.Tables.{look, or_table, and_table, complemented}
use Rattle.words.proofs.Bitwise.{bit_none}
use Rattle.words.proofs.RowBits.{holds_past}
use Rattle.words.proofs.Tallies.{tally_le, tally_same, tally_trim}
use Rattle.splice.specs.declared.steps.Call.{Call}
use Rattle.splice.specs.declared.steps.Call.TheVariants.{Lay, Lift}
use Rattle.splice.specs.declared.steps.Step.{Step}
use Rattle.splice.specs.declared.strip.Strip.{Strip}
use Rattle.splice.specs.Masks.{between, HasAdvert, after, gained, Combined, Worked}
use Rattle.splice.specs.Strips.{Drawn}

-- ---- a row with no sample

abbrev no_words : ℕ → List ℕ
no_words n = replicate n 0

zero_word : (n k : ℕ) → get_or (no_words n) k 0 ≡ 0
zero_word n k = elim (cases_lt k n) [
  | inl l ↦ get_or-replicate n k 0 0 l
  | inr l ↦ get_or_past (no_words n) k 0 (let e : length (no_words n) ≡ n = length-replicate n 0 in omega arith)
]

pub holds_none : (n i : ℕ) → holds (no_words n) i ≡ false
unfolding holds
holds_none n i = ap (λ w. bit w (i % 64)) (zero_word n (i / 64)) ∙ bit_none (i % 64)

-- ---- samples that are put into a row one by one

module _ (first : ℕ) where
  abbrev pub SoFar : List ℕ → ℕ → Type 0
  SoFar ws p = (i : ℕ) → holds ws i ≡ (leb first i && ltb i p)

  pub put_none : (ws : List ℕ) → ((i : ℕ) → holds ws i ≡ false) → SoFar ws first
  put_none ws none i = none i ∙ grind (arith, nat_tests)

  pub put_more : (old new : List ℕ) (p : ℕ) (r : Result Bool Refusal) → Put true p old new r → p < 64 * length old → first ≤ p → SoFar old p → SoFar new (p + 1)
  unfolding put
  put_more old new p (Ok turned) h within up so i =
      let s = so i in h.2.bits i ∙ ap (cond (eqb i p) true) s ∙ grind (arith, nat_tests)
  put_more old new p (Err e) h within up so i = absurd (omega (arith, h.0))

  pub put_last : (old new : List ℕ) (p last : ℕ) (r : Result Bool Refusal) → Put true p old new r → p < 64 * length old → first ≤ p → p ≡ last → SoFar old p → (i : ℕ) → holds new i ≡ between first last i
  put_last old new p last r h within up is so i = put_more old new p r h within up so i ∙ grind (arith, nat_tests)

-- ---- a row combined with another of its length

after_none : (call : Call) → after call false false ≡ false
after_none Lay = refl
after_none Lift = refl

module _ (t : Table) (call : Call) (same : (a b : Bool) → look t a b ≡ after call a b) (us vs new : List ℕ) (long : length us ≡ length vs) (row : Rewritten (combined t us vs) us new) where
  new_bits : (i : ℕ) → holds new i ≡ after call (holds us i) (holds vs i)
  unfolding combined
  new_bits i = row.bits i ∙ elim (cases_lt i (shared us vs)) [
    | inl l ↦ ap (λ x. cond x (look t (holds us i) (holds vs i)) (holds us i)) (lt-ltb i (shared us vs) l) ∙ same (holds us i) (holds vs i)
    | inr l ↦ (let u = holds_past us i (omega arith) in
        let v = holds_past vs i (omega arith) in
        ap (λ x. cond x (look t (holds us i) (holds vs i)) (holds us i)) (le-ltb i (shared us vs) l) ∙ u ∙ sym (ap₂ (after call) u v ∙ after_none call))
  ]

  look_new : (i : ℕ) → look t (holds us i) (holds vs i) ≡ holds new i
  look_new i = same (holds us i) (holds vs i) ∙ sym (new_bits i)

  all : shared us vs ≡ 64 * length us
  all = omega arith

  came_is : entered t us vs ≡ gained (64 * length us) us new
  unfolding entered
  came_is = tally_same _ (λ i. enters (holds us i) (holds new i)) 0 0 (shared us vs) (λ i h. ap (enters (holds us (0 + i))) (look_new (0 + i))) ∙ ap (tally (λ i. enters (holds us i) (holds new i)) 0) all

  went_is : left t us vs ≡ gained (64 * length us) new us
  unfolding left
  went_is = tally_same _ (λ i. enters (holds new i) (holds us i)) 0 0 (shared us vs) (λ i h. ap (λ x. enters x (holds us (0 + i))) (look_new (0 + i))) ∙ ap (tally (λ i. enters (holds new i) (holds us i)) 0) all

  pub combine_all : (e l : ℕ) → e ≡ capped (entered t us vs) → l ≡ capped (left t us vs) → Combined call us vs new e l
  combine_all e l he hl = record { long = row.long; bits = new_bits; came = he ∙ ap capped came_is; went = hl ∙ ap capped went_is }

lays : (a b : Bool) → look or_table a b ≡ after Lay a b
lays true true = refl
lays true false = refl
lays false true = refl
lays false false = refl

lifts : (a b : Bool) → look (complemented and_table) a b ≡ after Lift a b
lifts true true = refl
lifts true false = refl
lifts false true = refl
lifts false false = refl

-- `Or` is laying, and `And` with the operand's complement lifting
module _ (call : Call) (us vs new : List ℕ) (e l : ℕ) (long : length us ≡ length vs) where
  pub combined_by_lay : call ≡ Lay → Rewritten (combined or_table us vs) us new → e ≡ capped (entered or_table us vs) → l ≡ capped (left or_table us vs) → Combined call us vs new e l
  combined_by_lay is row he hl = rw is (combine_all or_table Lay lays us vs new long row e l he hl)

  pub combined_by_lift : call ≡ Lift → Rewritten (combined (complemented and_table) us vs) us new → e ≡ capped (entered (complemented and_table) us vs) → l ≡ capped (left (complemented and_table) us vs)
      → Combined call us vs new e l
  combined_by_lift is row he hl = rw is (combine_all (complemented and_table) Lift lifts us vs new long row e l he hl)

pub combined_at : {call : Call} {old old' advert advert' new new' : List ℕ} (e l : ℕ) → old ≡ old' → advert ≡ advert' → new ≡ new' → Combined call old advert new e l
    → Combined call old' advert' new' e l
combined_at {call} {old} {old'} {advert} {advert'} {new} {new'} e l p q r row =
    subst (λ (x : List ℕ). Combined call x advert' new' e l) p (subst (λ (x : List ℕ). Combined call old x new' e l) q (subst (λ (x : List ℕ). Combined call old advert x e l) r row))

-- ---- counts of a row that has nothing past its n samples

module _ (n : ℕ) (fits : n < 2 ^ 64) where
  pub count_all : (ws : List ℕ) → length ws ≡ words_for n → ((i : ℕ) → n ≤ i → holds ws i ≡ false) → set_bits ws % 2 ^ 64 ≡ tally (holds ws) 0 n
  unfolding set_bits
  count_all ws long ends =
      let e = tally_trim (holds ws) n (64 * length ws) (omega arith) (λ i l h. ends i l) in
      omega (arith, e, tally_le (holds ws) 0 n)

  pub gained_all : (old new : List ℕ) (c : ℕ) → length old ≡ words_for n → ((i : ℕ) → n ≤ i → holds old i ≡ false) → ((i : ℕ) → n ≤ i → holds new i ≡ false)
      → c ≡ capped (gained (64 * length old) old new) → c ≡ gained n old new
  gained_all old new c long old-ends new-ends e =
      let p = (λ (i : ℕ). enters (holds old i) (holds new i)) in
      let t = tally_trim p n (64 * length old) (omega arith) (λ i l h. ap₂ enters (old-ends i l) (new-ends i l)) in
      omega (arith, e, t, tally_le p 0 n)

-- ---- a step

no_advert : (first last n i : ℕ) → last < n → n ≤ i → between first last i ≡ false
no_advert first last n i h l = grind (arith, nat_tests)

-- an advert that ends within the n samples leaves nothing past them
module _ (step : Step) (n : ℕ) (old advert new : List ℕ) (e l : ℕ) (row : Combined step.call old advert new e l) (put : HasAdvert step advert)
    (within : step.last < n) (ends : (i : ℕ) → n ≤ i → holds old i ≡ false) where
  pub worked_ends : (i : ℕ) → n ≤ i → holds new i ≡ false
  worked_ends i h =
      row.bits i ∙ ap₂ (after step.call) (ends i h) (put i ∙ no_advert step.first step.last n i within h) ∙ after_none step.call

  pub worked_all : step.first ≤ step.last → n < 2 ^ 64 → length old ≡ words_for n → (a : ℕ) (s : Strip) → a ≡ tally (holds new) 0 n → Drawn n new s
      → Worked step n old new (record { entered = e; left = l; advert = a; strip = s })
  worked_all order small long a s count drawn = record {
    inside = record { ordered = order; within = within };
    samples = λ i. row.bits i ∙ ap (after step.call (holds old i)) (put i);
    entered = gained_all n small old new e long ends worked_ends row.came;
    left = gained_all n small new old l (row.long ∙ long) worked_ends ends (row.went ∙ ap (λ m. capped (gained (64 * m) new old)) (sym row.long));
    advert = count;
    strip = drawn;
  }
