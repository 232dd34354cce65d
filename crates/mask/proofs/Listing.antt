-- A loop that puts the members, one after another, into a collector's places.
use Rattle.std.proofs.Common.{◌≡◌, ℕ, zero, suc, ◌+◌, ◌-◌, ◌*◌, ◌<◌, ◌≤◌, Bool, true, false, cond, ◌&&◌, eqb, leb, List, [], ◌∷◌, ◌++◌, map, length, get_or, take, drop, set, Some, None, sym, refl, ap, ◌∙◌, subst, inl, inr, append_assoc, arith}
use Rattle.std.proofs.lemmas.List.{length-set, take-set-le, drop-set-add, take_more_set, map_push, drop-drop, drop-set-lt, length-drop, append-nil, length-map, length-take-le, drop_more, drop_all}
use Rattle.mask.specs.Machine.{indices, first, next_member, count}
use Rattle.std.proofs.lemmas.Bool.{le-leb, lt-leb, leb-true, eq-eqb, ne_eqb, cases_lt, cases_order, and_parts, and_right}
use Rattle.mask.specs.Kinds.{Shows}
use Rattle.mask.proofs.Nexts.{next_some}
use Rattle.words.specs.Bits.{bit, Low}
use Rattle.words.proofs.Bitwise.{bit_none}

length-indices : (i : ℕ) (bs : List Bool) → length (indices i bs) ≡ count bs
unfolding indices count
length-indices i [] = refl
length-indices i (true ∷ bs) = let h = length-indices (i + 1) bs in omega (arith, h)
length-indices i (false ∷ bs) = let h = length-indices (i + 1) bs in omega (arith, h)

-- the first member of a set whose places begin at f, and those behind it
pub record Ahead (f : ℕ) (bs : List Bool) (i : ℕ) : Type 0 where
  pub low : f ≤ i
  pub high : i < f + length bs
  pub splits : indices f bs ≡ i ∷ indices (i + 1) (drop (i + 1 - f) bs)

ahead : (f : ℕ) (bs : List Bool) (i : ℕ) → first (indices f bs) ≡ Some i → Ahead f bs i
unfolding indices
ahead f [] i e = absurd (let z : ◌≡◌ {A = ℕ} 0 1 = cc in omega arith)
ahead f (true ∷ bs) i e =
    let q : f ≡ i = cc in
    let r : f + 1 - f ≡ 1 = omega arith in
    let P : ℕ → Type 0 = λ x. f ∷ indices (f + 1) bs ≡ x ∷ indices (x + 1) (drop (x + 1 - f) (true ∷ bs)) in
    record { low = omega arith; high = omega arith; splits = subst P q (ap (λ (k : ℕ). f ∷ indices (f + 1) (drop k (true ∷ bs))) (sym r)) }
ahead f (false ∷ bs) i e =
    let h = ahead (f + 1) bs i e in
    let r : i + 1 - f ≡ suc (i + 1 - (f + 1)) = omega (arith, h.low) in
    record { low = omega (arith, h.low); high = omega (arith, h.high); splits = h.splits ∙ ap (λ (k : ℕ). i ∷ indices (i + 1) (drop k (false ∷ bs))) (sym r) }

nothing : (is : List ℕ) → first is ≡ None → is ≡ []
nothing [] e = refl
nothing (i ∷ is) e = absurd (let z : ◌≡◌ {A = ℕ} 0 1 = cc in omega arith)

-- the member found at or after a number, and what is left behind it
pub record Found (bs : List Bool) (from i : ℕ) : Type 0 where
  pub low : from ≤ i
  pub high : i < length bs
  pub splits : indices from (drop from bs) ≡ i ∷ indices (i + 1) (drop (i + 1) bs)

pub found : (bs : List Bool) (from i : ℕ) → next_member bs from ≡ Some i → Found bs from i
found bs from i e =
    let h = ahead from (drop from bs) i e in
    let d : drop (i + 1 - from) (drop from bs) ≡ drop (i + 1) bs = drop-drop (i + 1 - from) from bs ∙ ap (λ (k : ℕ). drop k bs) (let g = h.low in omega (arith, g)) in
    let l = length-drop from bs in
    record { low = h.low; high = let a = h.low in let b = h.high in omega (arith, a, b, l); splits = h.splits ∙ ap (λ (x : List Bool). i ∷ indices (i + 1) x) d }

pub none_left : (bs : List Bool) (from : ℕ) → next_member bs from ≡ None → indices from (drop from bs) ≡ []
none_left bs from e = nothing (indices from (drop from bs)) e

module _ {T : Type 0} (place : T → ℕ) (bs : List Bool) (start : ℕ) (old : List T) where
  -- the members below `from` stand behind the first `start` places, and there is room for the rest
  pub record Partly (filled : ℕ) (new : List T) (from : ℕ) : Type 0 where
    pub put : ℕ
    pub at : filled ≡ start + put
    pub long : length new ≡ length old
    pub room : filled + length (indices from (drop from bs)) ≤ length old
    pub front : take start new ≡ take start old
    pub given : map place (take put (drop start new)) ++ indices from (drop from bs) ≡ indices 0 bs
    pub back : drop filled new ≡ drop filled old

  pub partly_none : start + count bs ≤ length old → Partly start old 0
  partly_none h = record { put = 0; at = omega arith; long = refl; room = let e = length-indices 0 bs in omega (arith, h, e); front = refl; given = refl; back = refl }

  pub partly_more : (filled : ℕ) (new : List T) (from i : ℕ) (v : T) → Found bs from i → place v ≡ i → Partly filled new from → Partly (filled + 1) (set new filled v) (i + 1)
  partly_more filled new from i v f e p =
      let rest : List ℕ = indices (i + 1) (drop (i + 1) bs) in
      let fit : filled + 1 + length rest ≤ length old = let a = p.room in let b = ap length f.splits in omega (arith, a, b) in
      let k : ℕ = p.put in
      let inside : k < length (drop start new) = let a = length-drop start new in let b = p.long in let c = p.at in omega (arith, a, b, c, fit) in
      let moved : drop start (set new filled v) ≡ set (drop start new) k v = ap (λ (x : ℕ). drop start (set new x v)) p.at ∙ drop-set-add start new k v in
      let taken : take (k + 1) (drop start (set new filled v)) ≡ take k (drop start new) ++ v ∷ [] = ap (λ (x : List T). take (k + 1) x) moved ∙ take_more_set (drop start new) k v inside in
      let mapped : map place (take (k + 1) (drop start (set new filled v))) ≡ map place (take k (drop start new)) ++ i ∷ [] = ap (λ (x : List T). map place x) taken ∙ map_push place (take k (drop start new)) v ∙ ap (λ (x : ℕ). map place (take k (drop start new)) ++ x ∷ []) e in
      record {
        put = k + 1;
        at = let a = p.at in omega (arith, a);
        long = length-set new filled v ∙ p.long;
        room = fit;
        front = take-set-le start new filled v (let a = p.at in omega (arith, a)) ∙ p.front;
        given = ap (λ (x : List ℕ). x ++ rest) mapped ∙ append_assoc (map place (take k (drop start new))) (i ∷ []) rest ∙ ap (λ (x : List ℕ). map place (take k (drop start new)) ++ x) (sym f.splits) ∙ p.given;
        back = drop-set-lt (filled + 1) new filled v (omega arith) ∙ sym (drop-drop 1 filled new) ∙ ap (λ (x : List T). drop 1 x) p.back ∙ drop-drop 1 filled old;
      }

module _ {T : Type 0} (place : T → ℕ) (bs : List Bool) (start : ℕ) (old : List T) where
  -- with none left to come, all of them stand there
  pub all_put : (filled : ℕ) (new : List T) (from : ℕ) → indices from (drop from bs) ≡ [] → (p : Partly place bs start old filled new from) → p.put ≡ count bs
  all_put filled new from e p =
      let whole : map place (take p.put (drop start new)) ≡ indices 0 bs = sym (append-nil (map place (take p.put (drop start new)))) ∙ ap (λ (x : List ℕ). map place (take p.put (drop start new)) ++ x) (sym e) ∙ p.given in
      let a = ap length whole in
      let b = length-indices 0 bs in
      let c = length-map (take p.put (drop start new)) place in
      let d = length-take-le p.put (drop start new) (let u = length-drop start new in let v = p.long in let w = p.at in let x = p.room in omega (arith, u, v, w, x)) in
      omega (arith, a, b, c, d)

  pub put_all : (filled : ℕ) (new : List T) (from : ℕ) → indices from (drop from bs) ≡ [] → Partly place bs start old filled new from
      → (filled ≡ start + count bs) × (take start new ≡ take start old) × (map place (take (count bs) (drop start new)) ≡ indices 0 bs) × (drop (start + count bs) new ≡ drop (start + count bs) old)
  put_all filled new from e p =
      let k = all_put filled new from e p in
      let at : filled ≡ start + count bs = p.at ∙ ap (λ (x : ℕ). start + x) k in
      let whole : map place (take p.put (drop start new)) ≡ indices 0 bs = sym (append-nil (map place (take p.put (drop start new)))) ∙ ap (λ (x : List ℕ). map place (take p.put (drop start new)) ++ x) (sym e) ∙ p.given in
      (at, p.front, ap (λ (x : ℕ). map place (take x (drop start new))) (sym k) ∙ whole, ap (λ (x : ℕ). drop x new) (sym at) ∙ p.back ∙ ap (λ (x : ℕ). drop x old) at)

  pub partly_at : {filled filled' : ℕ} {new new' : List T} (from : ℕ) → filled' ≡ filled → new' ≡ new → Partly place bs start old filled new from → Partly place bs start old filled' new' from
  partly_at {filled} {filled'} {new} {new'} from e d p = subst (λ (x : ℕ). Partly place bs start old x new' from) (sym e) (subst (λ (y : List T). Partly place bs start old filled y from) (sym d) p)

-- ---- word by word

both_true : (x : Bool) → (x && true) ≡ x
both_true true = refl
both_true false = refl

step_over : (bs : List Bool) (f : ℕ) → f < length bs → get_or bs f false ≡ false → indices f (drop f bs) ≡ indices (f + 1) (drop (f + 1) bs)
unfolding indices
step_over bs f l e = ap (λ (x : List Bool). indices f x) (drop_more bs f false l) ∙ ap (λ (x : Bool). indices f (x ∷ drop (f + 1) bs)) e

pub past_end : (bs : List Bool) (f : ℕ) → length bs ≤ f → indices f (drop f bs) ≡ []
unfolding indices
past_end bs f l = ap (λ (x : List Bool). indices f x) (drop_all f bs l)

-- no member between two numbers: what is left to come is the same
pub skip : (bs : List Bool) (f d : ℕ) → ((i : ℕ) → f ≤ i → i < f + d → get_or bs i false ≡ false) → indices f (drop f bs) ≡ indices (f + d) (drop (f + d) bs)
skip bs f zero h = let e : f ≡ f + 0 = omega arith in ap (λ (x : ℕ). indices x (drop x bs)) e
skip bs f (suc d) h =
    let e : f + 1 + d ≡ f + suc d = omega arith in
    elim (cases_lt f (length bs)) [
      | inl l ↦ step_over bs f l (h f (omega arith) (omega arith)) ∙ skip bs (f + 1) d (λ i a b. h i (omega arith) (omega arith)) ∙ ap (λ (x : ℕ). indices x (drop x bs)) e
      | inr l ↦ past_end bs f l ∙ sym (past_end bs (f + suc d) (omega arith))
    ]

module _ {T : Type 0} (place : T → ℕ) (bs : List Bool) (start : ℕ) (old : List T) where
  -- the members below an index of word k are put, and the bits of rest are those of the word from there on
  pub record Within (filled : ℕ) (new : List T) (k rest : ℕ) : Type 0 where
    pub next : ℕ
    pub low : 64 * k ≤ next
    pub high : next ≤ 64 * k + 64
    pub partly : Partly place bs start old filled new next
    pub bits : (b : ℕ) → b < 64 → bit rest b ≡ (get_or bs (64 * k + b) false && leb next (64 * k + b))

  pub within_none : (filled : ℕ) (new : List T) (k word : ℕ) → Shows bs k word → Partly place bs start old filled new (64 * k) → Within filled new k word
  within_none filled new k word shows p = record {
    next = 64 * k;
    low = omega arith;
    high = omega arith;
    partly = p;
    bits = λ b h. shows b h ∙ sym (ap (λ x. get_or bs (64 * k + b) false && x) (le-leb (64 * k) (64 * k + b) (omega arith)) ∙ both_true (get_or bs (64 * k + b) false));
  }

  module _ (filled : ℕ) (new : List T) (k rest t : ℕ) (w : Within filled new k rest) (few : t < 64) (low : Low rest t) where
    parts : (get_or bs (64 * k + t) false ≡ true) × (leb w.next (64 * k + t) ≡ true)
    parts = and_parts (get_or bs (64 * k + t) false) (leb w.next (64 * k + t)) (sym (w.bits t few) ∙ low.set)

    from_next : w.next ≤ 64 * k + t
    from_next = leb-true w.next (64 * k + t) parts.1

    none_between : (j : ℕ) → w.next ≤ j → j < 64 * k + t → get_or bs j false ≡ false
    none_between j a b =
        let e : 64 * k + (j - 64 * k) ≡ j = omega (arith, w.low) in
        let i : j - 64 * k < 64 = omega (arith, w.low) in
        let z = sym (w.bits (j - 64 * k) i) ∙ low.below (j - 64 * k) (omega (arith, w.low)) in
        let o : leb w.next (64 * k + (j - 64 * k)) ≡ true = le-leb w.next (64 * k + (j - 64 * k)) (omega (arith, e)) in
        ap (λ (x : ℕ). get_or bs x false) (sym e) ∙ sym (ap (λ x. get_or bs (64 * k + (j - 64 * k)) false && x) o ∙ both_true (get_or bs (64 * k + (j - 64 * k)) false)) ∙ z

    pub within_found : Found bs w.next (64 * k + t)
    within_found = found bs w.next (64 * k + t) (next_some bs w.next (64 * k + t) from_next parts.0 none_between)

    -- the bit that was put is taken out
    pub within_more : (v : T) (rest' : ℕ) → place v ≡ 64 * k + t → ((b : ℕ) → b < 64 → bit rest' b ≡ cond (eqb b t) false (bit rest b)) → Within (filled + 1) (set new filled v) k rest'
    within_more v rest' e gone = record {
      next = 64 * k + t + 1;
      low = omega arith;
      high = omega arith;
      partly = partly_more place bs start old filled new w.next (64 * k + t) v within_found e w.partly;
      bits = λ b h. gone b h ∙ taken b h;
    }
      where
        taken : (b : ℕ) → b < 64 → cond (eqb b t) false (bit rest b) ≡ (get_or bs (64 * k + b) false && leb (64 * k + t + 1) (64 * k + b))
        taken b h = elim (cases_order b t) [
          | inl q ↦ ap (λ x. cond x false (bit rest b)) (eq-eqb b t q) ∙ sym (and_right (get_or bs (64 * k + b) false) (leb (64 * k + t + 1) (64 * k + b)) (lt-leb (64 * k + t + 1) (64 * k + b) (omega arith)))
          | inr o ↦ elim o [
            | inl q ↦ ap (λ x. cond x false (bit rest b)) (ne_eqb b t (λ z. omega arith)) ∙ low.below b q ∙ sym (and_right (get_or bs (64 * k + b) false) (leb (64 * k + t + 1) (64 * k + b)) (lt-leb (64 * k + t + 1) (64 * k + b) (omega arith)))
            | inr q ↦ ap (λ x. cond x false (bit rest b)) (ne_eqb b t (λ z. omega arith)) ∙ w.bits b h
                ∙ ap (λ x. get_or bs (64 * k + b) false && x) (le-leb w.next (64 * k + b) (omega (arith, from_next)) ∙ sym (le-leb (64 * k + t + 1) (64 * k + b) (omega arith)))
          ]
        ]

  -- a word with nothing left to put
  pub within_all : (filled : ℕ) (new : List T) (k rest : ℕ) → rest ≡ 0 → Within filled new k rest → Partly place bs start old filled new (64 * (k + 1))
  within_all filled new k rest z w =
      let d : ℕ = 64 * k + 64 - w.next in
      let e : w.next + d ≡ 64 * (k + 1) = omega (arith, w.high) in
      let same : indices w.next (drop w.next bs) ≡ indices (64 * (k + 1)) (drop (64 * (k + 1)) bs) = skip bs w.next d (λ i a b. none i a (omega (arith, w.high))) ∙ ap (λ (x : ℕ). indices x (drop x bs)) e in
      let p = w.partly in
      record {
        put = p.put;
        at = p.at;
        long = p.long;
        front = p.front;
        back = p.back;
        room = omega (arith, p.room, ap length same);
        given = ap (λ (x : List ℕ). map place (take p.put (drop start new)) ++ x) (sym same) ∙ p.given;
      }
    where
      none : (i : ℕ) → w.next ≤ i → i < 64 * k + 64 → get_or bs i false ≡ false
      none i a b =
          let e : 64 * k + (i - 64 * k) ≡ i = omega (arith, w.low) in
          let q : i - 64 * k < 64 = omega (arith, w.low) in
          let o : leb w.next (64 * k + (i - 64 * k)) ≡ true = le-leb w.next (64 * k + (i - 64 * k)) (omega (arith, e)) in
          ap (λ (x : ℕ). get_or bs x false) (sym e) ∙ sym (ap (λ x. get_or bs (64 * k + (i - 64 * k)) false && x) o ∙ both_true (get_or bs (64 * k + (i - 64 * k)) false)) ∙ sym (w.bits (i - 64 * k) q) ∙ ap (λ x. bit x (i - 64 * k)) z ∙ bit_none (i - 64 * k)

  pub within_at : {filled filled' : ℕ} {new new' : List T} (k rest : ℕ) → filled' ≡ filled → new' ≡ new → Within filled new k rest → Within filled' new' k rest
  within_at {filled} {filled'} {new} {new'} k rest e d w = subst (λ (x : ℕ). Within x new' k rest) (sym e) (subst (λ (y : List T). Within filled y k rest) (sym d) w)
