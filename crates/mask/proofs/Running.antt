-- A loop that makes the calls of a list and collects their reports.
use Rattle.std.proofs.Common.{◌≡◌, ℕ, suc, ◌+◌, ◌<◌, ◌≤◌, Bool, List, [], ◌∷◌, ◌++◌, map, length, get_or, take, drop, set, sym, refl, ap, ◌∙◌, subst, append_assoc, arith}
use Rattle.std.proofs.lemmas.List.{length-set, take-set-le, drop-set-add, take_more_set, drop-drop, drop-set-lt, length-drop, length_push, drop_more, drop_all, append-nil, get_or-map}
use Rattle.mask.specs.Machine.{Move, clear, step, run, Rule, Report}
use Rattle.mask.specs.Collectors.{held, SameLoan, Appended, Gathered}
use Rattle.mask.specs.Successions.{Ran}
use Rattle.mask.specs.declared.collector.Collector.{Collector}

pub appended_none : {X : Type 0} (filled : ℕ) (old : List X) → Appended [] filled old filled old
appended_none filled old = record { counts = omega arith; long = refl; before = refl; holds = refl; behind = refl }

pub appended_more : {X : Type 0} (items : List X) (start : ℕ) (old : List X) (filled : ℕ) (new : List X) (x : X) → filled < length new → Appended items start old filled new → Appended (items ++ x ∷ []) start old (filled + 1) (set new filled x)
appended_more items start old filled new x room a =
    let k : ℕ = length items in
    let more : length (items ++ x ∷ []) ≡ k + 1 = length_push items x in
    let at : filled ≡ start + k = a.counts in
    let inside : k < length (drop start new) = let u = length-drop start new in omega (arith, u, at, room) in
    let moved : drop start (set new filled x) ≡ set (drop start new) k x = ap (λ (y : ℕ). drop start (set new y x)) at ∙ drop-set-add start new k x in
    record {
      counts = omega (arith, at, more);
      long = length-set new filled x ∙ a.long;
      before = take-set-le start new filled x (omega (arith, at)) ∙ a.before;
      holds = ap (λ (y : ℕ). take y (drop start (set new filled x))) more ∙ ap (λ (l : List _). take (k + 1) l) moved ∙ take_more_set (drop start new) k x inside ∙ ap (λ (l : List _). l ++ x ∷ []) a.holds;
      behind =
          let p : start + length (items ++ x ∷ []) ≡ filled + 1 = omega (arith, at, more) in
          let b : drop filled new ≡ drop filled old = ap (λ (y : ℕ). drop y new) at ∙ a.behind ∙ sym (ap (λ (y : ℕ). drop y old) at) in
          ap (λ (y : ℕ). drop y (set new filled x)) p ∙ drop-set-lt (filled + 1) new filled x (omega arith) ∙ sym (drop-drop 1 filled new) ∙ ap (λ (l : List _). drop 1 l) b ∙ drop-drop 1 filled old ∙ sym (ap (λ (y : ℕ). drop y old) p);
    }

-- what is left of the run from here on, behind the reports that are done, is the whole run
abbrev pub Midway : ℕ → Rule → List Bool → List Move → List Report → List Bool → ℕ → Type 0
Midway n rule from ms done bs k = run n rule from ms ≡ (done ++ (run n rule bs (drop k ms)).0, (run n rule bs (drop k ms)).1)

pub midway_none : (n : ℕ) (rule : Rule) (bs : List Bool) (ms : List Move) → Midway n rule bs ms [] bs 0
midway_none n rule bs ms = refl

pub midway_more : (n : ℕ) (rule : Rule) (from : List Bool) (ms : List Move) (done : List Report) (bs : List Bool) (k : ℕ) (r : Report) (bs' : List Bool)
    → k < length ms → (r, bs') ≡ step n rule bs (get_or ms k clear) → Midway n rule from ms done bs k → Midway n rule from ms (done ++ r ∷ []) bs' (k + 1)
unfolding run
midway_more n rule from ms done bs k r bs' h e m =
    let f : List Bool → List Report × List Bool = λ x. run n rule x (drop (k + 1) ms) in
    let s : Report × List Bool = step n rule bs (get_or ms k clear) in
    let opened : run n rule bs (drop k ms) ≡ (s.0 ∷ (f s.1).0, (f s.1).1) = ap (λ (l : List Move). run n rule bs l) (drop_more ms k clear h) in
    let closed : (s.0 ∷ (f s.1).0, (f s.1).1) ≡ (r ∷ (f bs').0, (f bs').1) = ap (λ (p : Report × List Bool). (p.0 ∷ (f p.1).0, (f p.1).1)) (sym e) in
    let both = opened ∙ closed in
    m ∙ ap (λ (p : List Report × List Bool). (done ++ p.0, p.1)) both ∙ ap (λ (l : List Report). (l, (f bs').1)) (sym (append_assoc done (r ∷ []) (f bs').0))

pub midway_all : (n : ℕ) (rule : Rule) (from : List Bool) (ms : List Move) (done : List Report) (bs : List Bool) (k : ℕ) → length ms ≤ k → Midway n rule from ms done bs k → run n rule from ms ≡ (done, bs)
unfolding run
midway_all n rule from ms done bs k h m =
    m ∙ ap (λ (l : List Move). (done ++ (run n rule bs l).0, (run n rule bs l).1)) (drop_all k ms h) ∙ ap (λ (l : List Report). (l, bs)) (append-nil done)

pub gathered_none : {X : Type 0} (c : Collector X) → Gathered [] c c
gathered_none c = record { puts = appended_none c.filled (held c); loan = refl }

-- one item more, by what a push leaves
pub gathered_more : {X : Type 0} (items : List X) (start c d : Collector X) (x : X) → c.filled < length (held c) → held d ≡ set (held c) c.filled x → d.filled ≡ c.filled + 1 → SameLoan c d
    → Gathered items start c → Gathered (items ++ x ∷ []) start d
gathered_more {X} items start c d x room places count loan g = record {
  puts = subst (λ (n : ℕ). Appended (items ++ x ∷ []) start.filled (held start) n (held d)) (sym count)
      (subst (λ (l : List X). Appended (items ++ x ∷ []) start.filled (held start) (c.filled + 1) l) (sym places) (appended_more items start.filled (held start) c.filled (held c) x room g.puts));
  loan = loan ∙ g.loan;
}

-- a call of the list, as the machine's move at its place
pub stepped : {C : Type 0} (f : C → Move) (cs : List C) (k : ℕ) (c : C) (n m : ℕ) (rule rule' : Rule) (bs bs' : List Bool) (r : Report) → k < length cs → c ≡ get_or cs k c → m ≡ n → rule' ≡ rule
    → (r, bs') ≡ step m rule' bs (f c) → (r, bs') ≡ step n rule bs (get_or (map f cs) k clear)
stepped f cs k c n m rule rule' bs bs' r h is dm dr e =
    e ∙ ap (λ (x : ℕ). step x rule' bs (f c)) dm ∙ ap (λ (x : Rule). step n x bs (f c)) dr ∙ ap (λ (x : Move). step n rule bs x) (ap f is ∙ sym (get_or-map f cs k c clear h))

pub length_run : (n : ℕ) (rule : Rule) (bs : List Bool) (ms : List Move) → length (run n rule bs ms).0 ≡ length ms
unfolding run
length_run n rule bs [] = refl
length_run n rule bs (m ∷ ms) = ap suc (length_run n rule (step n rule bs m).1 ms)

-- the reports that a run collected are those at their places, as many as the calls
pub collected : (n : ℕ) (rule : Rule) (bs : List Bool) (ms : List Move) (k : ℕ) (left : List Bool) (old new : Collector Report) → length ms ≡ k
    → Ran (run n rule bs ms) left old new → (take k (drop old.filled (held new)), left) ≡ run n rule bs ms
collected n rule bs ms k left old new e r =
    let l : k ≡ length (run n rule bs ms).0 = sym (length_run n rule bs ms ∙ e) in
    let h : take k (drop old.filled (held new)) ≡ (run n rule bs ms).0 = ap (λ (x : ℕ). take x (drop old.filled (held new))) l ∙ r.reports.puts.holds in
    ap (λ (x : List Report). (x, left)) h ∙ ap (λ (x : List Bool). ((run n rule bs ms).0, x)) r.leaves

pub ran_from : {n n' : ℕ} {rule rule' : Rule} {bs bs' : List Bool} (ms : List Move) {left : List Bool} {old new : Collector Report} → n ≡ n' → rule ≡ rule' → bs ≡ bs'
    → Ran (run n rule bs ms) left old new → Ran (run n' rule' bs' ms) left old new
ran_from {n} {n'} {rule} {rule'} {bs} {bs'} ms {left} {old} {new} a b c r =
    subst (λ (x : List Bool). Ran (run n' rule' x ms) left old new) c
    (subst (λ (x : Rule). Ran (run n' x bs ms) left old new) b (subst (λ (x : ℕ). Ran (run x rule bs ms) left old new) a r))
