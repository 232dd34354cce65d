-- What the machine answers, case by case.
use Rattle.std.proofs.Common.{◌≡◌, ℕ, zero, suc, ◌+◌, ◌<◌, ◌≤◌, Bool, true, false, cond, not, List, [], ◌∷◌, get_or, set, replicate, Ok, Err, sym, refl, ap, ◌∙◌, ap₂, add-zero, zero-add}
use Rattle.std.proofs.lemmas.Bool.{lt-ltb, le-ltb, eq-eqb, ne_eqb}
use Rattle.index.specs.declared.refusal.Refusal.TheVariants.{Index, Domains, Holding}
use Rattle.words.specs.declared.table.Table.{Table}
use Rattle.mask.specs.Machine.{Rule, Report, gained, through, settle, step, insert, remove, clear, insert_all, combine}
use Rattle.words.specs.Bits.{one}
use Rattle.words.specs.Rows.{enters}

module _ (n : ℕ) (rule : Rule) (old : List Bool) where
  pub insert_out : (i : ℕ) → n ≤ i → ◌≡◌ {A = Report × List Bool} (Err (Index i), old) (step n rule old (insert i))
  unfolding step
  insert_out i h = rw (le-ltb i n h)

  pub remove_out : (i : ℕ) → n ≤ i → ◌≡◌ {A = Report × List Bool} (Err (Index i), old) (step n rule old (remove i))
  unfolding step
  remove_out i h = rw (le-ltb i n h)

  pub combine_out : (t : Table) (m : ℕ) (other : List Bool) → (n ≡ m → ⊥) → ◌≡◌ {A = Report × List Bool} (Err (Domains n m), old) (step n rule old (combine t m other))
  unfolding step
  combine_out t m other h = rw (ne_eqb n m h)

  -- a call that is let in: the members that it leaves, and the two counts
  module _ (new : List Bool) (r : ℕ × ℕ) (allowed : rule new ≡ true) (came : r.0 ≡ gained old new) (went : r.1 ≡ gained new old) where
    settled : (aim : List Bool) → new ≡ aim → ◌≡◌ {A = Report × List Bool} (Ok r, new) (settle rule old aim)
    settled aim e =
        ap₂ (λ x y. (Ok (x, y), new)) came went ∙ ap (λ b. cond b (Ok (gained old new, gained new old), new) (Err Holding, old)) (sym allowed) ∙ ap (settle rule old) e

    pub insert_in : (i : ℕ) → i < n → new ≡ set old i true → ◌≡◌ {A = Report × List Bool} (Ok r, new) (step n rule old (insert i))
    unfolding step
    insert_in i h e = settled (set old i true) e ∙ rw (lt-ltb i n h)

    pub remove_in : (i : ℕ) → i < n → new ≡ set old i false → ◌≡◌ {A = Report × List Bool} (Ok r, new) (step n rule old (remove i))
    unfolding step
    remove_in i h e = settled (set old i false) e ∙ rw (lt-ltb i n h)

    pub clear_in : new ≡ replicate n false → ◌≡◌ {A = Report × List Bool} (Ok r, new) (step n rule old clear)
    unfolding step
    clear_in e = settled (replicate n false) e

    pub insert_all_in : new ≡ replicate n true → ◌≡◌ {A = Report × List Bool} (Ok r, new) (step n rule old insert_all)
    unfolding step
    insert_all_in e = settled (replicate n true) e

    pub combine_in : (t : Table) (m : ℕ) (other : List Bool) → n ≡ m → new ≡ through t old other → ◌≡◌ {A = Report × List Bool} (Ok r, new) (step n rule old (combine t m other))
    unfolding step
    combine_in t m other h e = settled (through t old other) e ∙ rw (eq-eqb n m h)

-- what one insertion or removal changes
pub gained_self : (xs : List Bool) → gained xs xs ≡ 0
unfolding gained
gained_self [] = refl
gained_self (true ∷ xs) = rw zero-add (gained_self xs)
gained_self (false ∷ xs) = rw zero-add (gained_self xs)

pub gained-set : (xs : List Bool) (i : ℕ) (b : Bool) → gained xs (set xs i b) ≡ one (enters (get_or xs i b) b)
unfolding gained
gained-set [] i true = refl
gained-set [] i false = refl
gained-set (x ∷ xs) zero b = ap (λ n. one (enters x b) + n) (gained_self xs) ∙ add-zero (one (enters x b))
gained-set (true ∷ xs) (suc i) true = rw zero-add (gained-set xs i true)
gained-set (true ∷ xs) (suc i) false = rw zero-add (gained-set xs i false)
gained-set (false ∷ xs) (suc i) true = rw zero-add (gained-set xs i true)
gained-set (false ∷ xs) (suc i) false = rw zero-add (gained-set xs i false)

pub lost_set : (xs : List Bool) (i : ℕ) (b : Bool) → gained (set xs i b) xs ≡ one (enters b (get_or xs i b))
unfolding gained
lost_set [] i true = refl
lost_set [] i false = refl
lost_set (x ∷ xs) zero b = ap (λ n. one (enters b x) + n) (gained_self xs) ∙ add-zero (one (enters b x))
lost_set (true ∷ xs) (suc i) true = rw zero-add (lost_set xs i true)
lost_set (true ∷ xs) (suc i) false = rw zero-add (lost_set xs i false)
lost_set (false ∷ xs) (suc i) true = rw zero-add (lost_set xs i true)
lost_set (false ∷ xs) (suc i) false = rw zero-add (lost_set xs i false)

-- the counts of one write
pub set_counts : (old new : List Bool) (i : ℕ) (b was : Bool) (r : ℕ × ℕ) → new ≡ set old i b → was ≡ get_or old i b → r.0 ≡ one (enters was b) → r.1 ≡ one (enters b was)
    → (r.0 ≡ gained old new) × (r.1 ≡ gained new old)
set_counts old new i b was r m e came went =
    (came ∙ ap (λ x. one (enters x b)) e ∙ sym (gained-set old i b) ∙ ap (gained old) (sym m), went ∙ ap (λ x. one (enters b x)) e ∙ sym (lost_set old i b) ∙ ap (λ x. gained x old) (sym m))

-- the same of a call that goes one way or the other
module _ (n : ℕ) (rule : Rule) (old : List Bool) where
  pub put_out : (on : Bool) (i : ℕ) → n ≤ i → ◌≡◌ {A = Report × List Bool} (Err (Index i), old) (step n rule old (cond on (insert i) (remove i)))
  put_out true i h = insert_out n rule old i h
  put_out false i h = remove_out n rule old i h

  module _ (new : List Bool) (r : ℕ × ℕ) (allowed : rule new ≡ true) (came : r.0 ≡ gained old new) (went : r.1 ≡ gained new old) where
    pub put_in : (on : Bool) (i : ℕ) → i < n → new ≡ set old i on → ◌≡◌ {A = Report × List Bool} (Ok r, new) (step n rule old (cond on (insert i) (remove i)))
    put_in true i h e = insert_in n rule old new r allowed came went i h e
    put_in false i h e = remove_in n rule old new r allowed came went i h e

    pub fill_in : (on : Bool) → new ≡ replicate n on → ◌≡◌ {A = Report × List Bool} (Ok r, new) (step n rule old (cond on insert_all clear))
    fill_in true e = insert_all_in n rule old new r allowed came went e
    fill_in false e = clear_in n rule old new r allowed came went e

-- one bit turned on or off: how many entered and how many left
pub turned_counts : (on was turned : Bool) (r : ℕ × ℕ) → turned ≡ cond on (not was) was → r.0 ≡ cond on (one turned) 0 → r.1 ≡ cond on 0 (one turned)
    → (r.0 ≡ one (enters was on)) × (r.1 ≡ one (enters on was))
turned_counts true true turned r e a b = (a ∙ ap one e, b)
turned_counts true false turned r e a b = (a ∙ ap one e, b)
turned_counts false true turned r e a b = (a, b ∙ ap one e)
turned_counts false false turned r e a b = (a, b ∙ ap one e)
