-- One-bit trials decide whether two lists leave equal pictures.
use Rattle.std.proofs.Common.{◌≡◌, ℕ, zero, suc, ◌<◌, ◌≤◌, Bool, true, false, cond, eqb, List, [], ◌∷◌, map, length, get_or, replicate, is_ok, Ok, Err, sym, refl, ap, ◌∙◌, subst, le_of_suc-le-suc, not-suc-le-zero, arith}
use mathlib.Core.Bool.{false≢true}
use Rattle.std.proofs.lemmas.Bool.{eq-eqb, cond-true}
use Rattle.std.proofs.lemmas.List.{length-replicate, get_or-replicate, ext_get_or}
use Rattle.words.specs.declared.table.Table.{Table}
use Rattle.words.specs.Tables.{look}
use Rattle.mask.specs.Kinds.{Kind}
use Rattle.mask.specs.Machine.{combine, step, settle, run, Rule, Report, through, gained}
use Rattle.mask.specs.Trials.{Accepted, Plain, bit_after, trial, Agree, move, Leaves, SamePictures, TrialsDecide}
use Rattle.mask.specs.declared.calls.Call.{Call}
use Rattle.mask.specs.declared.calls.Call.TheVariants.{Insert, Remove, Clear, InsertAll, Combine}
use Rattle.index.specs.declared.refusal.Refusal.TheVariants.{Holding}

pub length-through : (t : Table) (xs ys : List Bool) → length xs ≡ length ys → length (through t xs ys) ≡ length xs
unfolding through
length-through t [] ys e = refl
length-through t (x ∷ xs) [] e = absurd (let z : ◌≡◌ {A = ℕ} 0 1 = cc in omega arith)
length-through t (x ∷ xs) (y ∷ ys) e = ap suc (length-through t xs ys (let f : suc (length xs) ≡ suc (length ys) = e in omega arith))

through_at : (t : Table) (xs ys : List Bool) → length xs ≡ length ys → (i : ℕ) → i < length xs → get_or (through t xs ys) i false ≡ look t (get_or xs i false) (get_or ys i false)
unfolding through
through_at t [] ys e i h = absurd (not-suc-le-zero h)
through_at t (x ∷ xs) [] e i h = absurd (let z : ◌≡◌ {A = ℕ} 0 1 = cc in omega arith)
through_at t (x ∷ xs) (y ∷ ys) e zero h = refl
through_at t (x ∷ xs) (y ∷ ys) e (suc i) h = through_at t xs ys (let f : suc (length xs) ≡ suc (length ys) = e in omega arith) i (le_of_suc-le-suc h)

pub through-replicate : (t : Table) (n : ℕ) (a b : Bool) → through t (replicate n a) (replicate n b) ≡ replicate n (look t a b)
unfolding through
through-replicate t zero a b = refl
through-replicate t (suc n) a b = ap (λ (l : List Bool). look t a b ∷ l) (through-replicate t n a b)

-- an accepted call leaves the new members
settled : (b : Bool) (p : ℕ × ℕ) (old new : List Bool) → is_ok (cond {A = Report × List Bool} b (Ok p, new) (Err Holding, old)).0 ≡ true → (cond {A = Report × List Bool} b (Ok p, new) (Err Holding, old)).1 ≡ new
settled true p old new h = refl
settled false p old new h = absurd (false≢true h)

module _ {T O M : Type 0} (place : T → ℕ) (table : O → Table) (kind : Kind M)
    (n : ℕ) (fill : ℕ → M) (fills : (j : ℕ) → kind.domain (fill j) ≡ n) (longs : (j : ℕ) → length (kind.members (fill j)) ≡ n) where
  abbrev bits : ℕ → ℕ → Bool
  bits i j = get_or (kind.members (fill j)) i false

  -- an accepted call keeps the length, and sends each index its own way
  record Goes (r : Rule) (old : List Bool) (c : Call T O) : Type 0 where
    long : length (step n r old (move place table kind fill c)).1 ≡ n
    at : (i : ℕ) → i < n → get_or (step n r old (move place table kind fill c)).1 i false ≡ bit_after place table (bits i) (get_or old i false) c

  one_step : (r : Rule) (old : List Bool) (c : Call T O) (cs : List (Call T O)) → Plain (c ∷ cs) → length old ≡ n → is_ok (step n r old (move place table kind fill c)).0 ≡ true → Goes r old c
  unfolding step Plain
  one_step r old (Insert i) cs p l h = absurd p
  one_step r old (Remove i) cs p l h = absurd p
  one_step r old Clear cs p l h =
      let e = settled (r (replicate n false)) _ old (replicate n false) h in
      record { long = ap length e ∙ length-replicate n false; at = λ i b. ap (λ (x : List Bool). get_or x i false) e ∙ get_or-replicate n i false false b }
  one_step r old InsertAll cs p l h =
      let e = settled (r (replicate n true)) _ old (replicate n true) h in
      record { long = ap length e ∙ length-replicate n true; at = λ i b. ap (λ (x : List Bool). get_or x i false) e ∙ get_or-replicate n i true false b }
  one_step r old (Combine o j) cs p l h =
      let new : List Bool = through (table o) old (kind.members (fill j)) in
      let same : length old ≡ length (kind.members (fill j)) = l ∙ sym (longs j) in
      let q : step n r old (combine (table o) (kind.domain (fill j)) (kind.members (fill j))) ≡ settle r old new = cond-true (eqb n (kind.domain (fill j))) _ _ (eq-eqb n (kind.domain (fill j)) (sym (fills j))) in
      let g : is_ok (settle r old new).0 ≡ true = ap (λ (x : Report × List Bool). is_ok x.0) (sym q) ∙ h in
      let e : (step n r old (combine (table o) (kind.domain (fill j)) (kind.members (fill j)))).1 ≡ new = ap (λ (x : Report × List Bool). x.1) q ∙ settled (r new) _ old new g in
      record { long = ap length e ∙ length-through (table o) old (kind.members (fill j)) same ∙ l; at = λ i b. ap (λ (x : List Bool). get_or x i false) e ∙ through_at (table o) old (kind.members (fill j)) same i (subst (λ (k : ℕ). i < k) (sym l) b) }

  -- an accepted run sends each index its own way, which is the trial of its bits
  record Went (r : Rule) (old : List Bool) (cs : List (Call T O)) : Type 0 where
    long : length (run n r old (map (move place table kind fill) cs)).1 ≡ n
    at : (i : ℕ) → i < n → get_or (run n r old (map (move place table kind fill) cs)).1 i false ≡ trial place table (bits i) (get_or old i false) cs

  tail_plain : (c : Call T O) (cs : List (Call T O)) → Plain (c ∷ cs) → Plain cs
  unfolding Plain
  tail_plain (Insert i) cs p = absurd p
  tail_plain (Remove i) cs p = absurd p
  tail_plain Clear cs p = p
  tail_plain InsertAll cs p = p
  tail_plain (Combine o j) cs p = p

  went : (r : Rule) (old : List Bool) (cs : List (Call T O)) → Plain cs → length old ≡ n → Accepted (run n r old (map (move place table kind fill) cs)).0 → Went r old cs
  unfolding run trial Accepted
  went r old [] p l a = record { long = l; at = λ i b. refl }
  went r old (c ∷ cs) p l a =
      let s = one_step r old c cs p l a.0 in
      let w = went r (step n r old (move place table kind fill c)).1 cs (tail_plain c cs p) s.long a.1 in
      record { long = w.long; at = λ i b. w.at i b ∙ ap (λ (x : Bool). trial place table (bits i) x cs) (s.at i b) }

-- from a uniform start with uniform operands every call is accepted, and the mask stays uniform
module _ {T O M : Type 0} (place : T → ℕ) (table : O → Table) (kind : Kind M)
    (n : ℕ) (r : Rule) (admits : (b : Bool) → r (replicate n b) ≡ true)
    (p : ℕ → Bool) (fill : ℕ → M) (fills : (j : ℕ) → kind.domain (fill j) ≡ n) (uniform : (j : ℕ) → kind.members (fill j) ≡ replicate n (p j)) where
  record Stays (b : Bool) (c : Call T O) : Type 0 where
    ok : is_ok (step n r (replicate n b) (move place table kind fill c)).0 ≡ true
    is : (step n r (replicate n b) (move place table kind fill c)).1 ≡ replicate n (bit_after place table p b c)

  admitted : (old : List Bool) (b : Bool) → settle r old (replicate n b) ≡ (Ok (gained old (replicate n b), gained (replicate n b) old), replicate n b)
  admitted old b = cond-true (r (replicate n b)) _ _ (admits b)

  stays : (b : Bool) (c : Call T O) (cs : List (Call T O)) → Plain (c ∷ cs) → Stays b c
  unfolding step Plain
  stays b (Insert i) cs h = absurd h
  stays b (Remove i) cs h = absurd h
  stays b Clear cs h = let e = admitted (replicate n b) false in record { ok = ap (λ (x : Report × List Bool). is_ok x.0) e; is = ap (λ (x : Report × List Bool). x.1) e }
  stays b InsertAll cs h = let e = admitted (replicate n b) true in record { ok = ap (λ (x : Report × List Bool). is_ok x.0) e; is = ap (λ (x : Report × List Bool). x.1) e }
  stays b (Combine o j) cs h =
      let q : step n r (replicate n b) (combine (table o) (kind.domain (fill j)) (kind.members (fill j))) ≡ settle r (replicate n b) (through (table o) (replicate n b) (kind.members (fill j))) = cond-true (eqb n (kind.domain (fill j))) _ _ (eq-eqb n (kind.domain (fill j)) (sym (fills j))) in
      let u : through (table o) (replicate n b) (kind.members (fill j)) ≡ replicate n (look (table o) b (p j)) = ap (λ (x : List Bool). through (table o) (replicate n b) x) (uniform j) ∙ through-replicate (table o) n b (p j) in
      let e = q ∙ ap (λ (x : List Bool). settle r (replicate n b) x) u ∙ admitted (replicate n b) (look (table o) b (p j)) in
      record { ok = ap (λ (x : Report × List Bool). is_ok x.0) e; is = ap (λ (x : Report × List Bool). x.1) e }

  record Remains (b : Bool) (cs : List (Call T O)) : Type 0 where
    ok : Accepted (run n r (replicate n b) (map (move place table kind fill) cs)).0
    is : (run n r (replicate n b) (map (move place table kind fill) cs)).1 ≡ replicate n (trial place table p b cs)

  plain_rest : (c : Call T O) (cs : List (Call T O)) → Plain (c ∷ cs) → Plain cs
  unfolding Plain
  plain_rest (Insert i) cs h = absurd h
  plain_rest (Remove i) cs h = absurd h
  plain_rest Clear cs h = h
  plain_rest InsertAll cs h = h
  plain_rest (Combine o j) cs h = h

  remains : (b : Bool) (cs : List (Call T O)) → Plain cs → Remains b cs
  unfolding run trial Accepted
  remains b [] h = record { ok = tt; is = refl }
  remains b (c ∷ cs) h =
      let s = stays b c cs h in
      let w = remains (bit_after place table p b c) cs (plain_rest c cs h) in
      let from : List Bool → List Report × List Bool = λ x. run n r x (map (move place table kind fill) cs) in
      record { ok = (s.ok, subst (λ (x : List Bool). Accepted (from x).0) (sym s.is) w.ok); is = ap (λ (x : List Bool). (from x).1) s.is ∙ w.is }

-- the theorem, for a kind that keeps six of the laws
module _ {T O M : Type 0} (place : T → ℕ) (table : O → Table) (kind : Kind M)
    (long : (s : M) → length (kind.members s) ≡ kind.domain s)
    (empty : (s : M) → kind.rule s (replicate (kind.domain s) false) ≡ true)
    (full : (s : M) → kind.rule s (replicate (kind.domain s) true) ≡ true)
    (seen : (a b : M) → kind.picture a ≡ kind.picture b → (kind.domain a ≡ kind.domain b) × (kind.members a ≡ kind.members b))
    (shown : (a b : M) → kind.domain a ≡ kind.domain b → kind.members a ≡ kind.members b → kind.picture a ≡ kind.picture b)
    (spans : (s : M) (b : Bool) → (e : M) × (kind.domain e ≡ kind.domain s) × (kind.rule e ≡ kind.rule s) × (kind.members e ≡ replicate (kind.domain s) b)) where
  agree_same : (n : ℕ) (xs ys : List (Call T O)) → Plain xs → Plain ys → Agree place table xs ys → SamePictures place table kind n xs ys
  unfolding Agree
  agree_same n xs ys px py agree fill s t a b fills ds dt st la lb =
      let longs : (j : ℕ) → length (kind.members (fill j)) ≡ n = λ j. long (fill j) ∙ fills j in
      let ra : Accepted (run n (kind.rule s) (kind.members s) (map (move place table kind fill) xs)).0 = subst (λ (k : ℕ). Accepted (run k (kind.rule s) (kind.members s) (map (move place table kind fill) xs)).0) ds la.accepted in
      let rb : Accepted (run n (kind.rule t) (kind.members t) (map (move place table kind fill) ys)).0 = subst (λ (k : ℕ). Accepted (run k (kind.rule t) (kind.members t) (map (move place table kind fill) ys)).0) dt lb.accepted in
      let wa = went place table kind n fill fills longs (kind.rule s) (kind.members s) xs px (long s ∙ ds) ra in
      let wb = went place table kind n fill fills longs (kind.rule t) (kind.members t) ys py (long t ∙ dt) rb in
      let ea : kind.members a ≡ (run n (kind.rule s) (kind.members s) (map (move place table kind fill) xs)).1 = la.leaves ∙ ap (λ (k : ℕ). (run k (kind.rule s) (kind.members s) (map (move place table kind fill) xs)).1) ds in
      let eb : kind.members b ≡ (run n (kind.rule t) (kind.members t) (map (move place table kind fill) ys)).1 = lb.leaves ∙ ap (λ (k : ℕ). (run k (kind.rule t) (kind.members t) (map (move place table kind fill) ys)).1) dt in
      let la' : length (kind.members a) ≡ n = ap length ea ∙ wa.long in
      let lb' : length (kind.members b) ≡ n = ap length eb ∙ wb.long in
      let places : (i : ℕ) → i < length (kind.members a) → get_or (kind.members a) i false ≡ get_or (kind.members b) i false = λ i h.
      let h' : i < n = subst (λ (k : ℕ). i < k) la' h in
      ap (λ (x : List Bool). get_or x i false) ea ∙ wa.at i h' ∙ agree (λ j. get_or (kind.members (fill j)) i false) (get_or (kind.members s) i false)
      ∙ ap (λ (x : List Bool). trial place table (λ j. get_or (kind.members (fill j)) i false) (get_or x i false) ys) st ∙ sym (wb.at i h') ∙ sym (ap (λ (x : List Bool). get_or x i false) eb) in
      shown a b (la.domains ∙ ds ∙ sym (lb.domains ∙ dt)) (ext_get_or false (kind.members a) (kind.members b) (la' ∙ sym lb') places)

  same_agree : (m : M) → 1 ≤ kind.domain m → (xs ys : List (Call T O)) → Plain xs → Plain ys → SamePictures place table kind (kind.domain m) xs ys → Agree place table xs ys
  unfolding Agree
  same_agree m pos xs ys px py same p b =
      let n : ℕ = kind.domain m in
      let of : Bool → M = λ x. (spans m x).0 in
      let admits : (x : Bool) → kind.rule m (replicate n x) ≡ true = λ x. elim x as (λ v. kind.rule m (replicate n v) ≡ true) [ true ↦ full m | false ↦ empty m ] in
      let fill : ℕ → M = λ j. of (p j) in
      let fills : (j : ℕ) → kind.domain (fill j) ≡ n = λ j. (spans m (p j)).1 in
      let uniform : (j : ℕ) → kind.members (fill j) ≡ replicate n (p j) = λ j. (spans m (p j)).3 in
      let run_of : List (Call T O) → List Report × List Bool = λ cs. run n (kind.rule m) (replicate n b) (map (move place table kind fill) cs) in
      let leaves : (cs : List (Call T O)) → Plain cs → Leaves place table kind fill cs (of b) (of (trial place table p b cs)) = λ cs h.
      let w = remains place table kind n (kind.rule m) admits p fill fills uniform b cs h in
      let from : ℕ → Rule → List Bool → List Report × List Bool = λ k r x. run k r x (map (move place table kind fill) cs) in
      let e : from (kind.domain (of b)) (kind.rule (of b)) (kind.members (of b)) ≡ from n (kind.rule m) (replicate n b) =
      ap (λ (k : ℕ). from k (kind.rule (of b)) (kind.members (of b))) (spans m b).1 ∙ ap (λ (r : Rule). from n r (kind.members (of b))) (spans m b).2 ∙ ap (λ (x : List Bool). from n (kind.rule m) x) (spans m b).3 in
      record {
        domains = (spans m (trial place table p b cs)).1 ∙ sym (spans m b).1;
        rules = (spans m (trial place table p b cs)).2 ∙ sym (spans m b).2;
        accepted = subst (λ (x : List Report × List Bool). Accepted x.0) (sym e) w.ok;
        leaves = (spans m (trial place table p b cs)).3 ∙ sym w.is ∙ sym (ap (λ (x : List Report × List Bool). x.1) e);
      } in
      let pic = same fill (of b) (of b) (of (trial place table p b xs)) (of (trial place table p b ys)) fills (spans m b).1 (spans m b).1 refl (leaves xs px) (leaves ys py) in
      let mem : replicate n (trial place table p b xs) ≡ replicate n (trial place table p b ys) = sym (spans m (trial place table p b xs)).3 ∙ (seen _ _ pic).1 ∙ (spans m (trial place table p b ys)).3 in
      sym (get_or-replicate n 0 (trial place table p b xs) false pos) ∙ ap (λ (x : List Bool). get_or x 0 false) mem ∙ get_or-replicate n 0 (trial place table p b ys) false pos

  pub trials_decide : (xs ys : List (Call T O)) → TrialsDecide place table kind xs ys
  trials_decide xs ys px py m pos = (agree_same (kind.domain m) xs ys px py, same_agree m pos xs ys px py)
