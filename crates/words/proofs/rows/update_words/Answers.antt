-- Each group is written as a row of its own, or stays where nothing in it would change.
use Rattle.std.proofs.Common.{◌≡◌, ℕ, ◌+◌, ◌-◌, min, false, List, length, take, drop, sym, ap, ◌∙◌, subst, arith}
use borrow.Rule.Slice.PartMut.{put_mid}
use Rattle.words.specs.declared.table.Table.{Table}
use Rattle.words.specs.Rows.{Updated, modifies}
use Rattle.words.proofs.Updating.{Partly, part_alike, partly_none, partly_part, partly_same, partly_all, partly_counts}
use Rattle.words.proofs.rows.update_words.Goals as goal
use Rattle.words.proofs.rows.update_words.Goals.{Joined-group_would_change, then-group_would_change, else-group_would_change}

pub loop-start-init : goal.loop-start-init
loop-start-init g c =
    let z : min 0 c.min-shared.result ≡ 0 = omega arith in
    (c.min-shared.ensures, rw z (partly_none (g.O.Operator.table c.args.op.now) c.args.lhs.now c.args.rhs.now))

-- the words up to the group's end are written
next : (g : _) (c : Joined-group_would_change g)
    → Partly (g.O.Operator.table c.args.op.now) c.args.lhs.now c.args.rhs.now c.if-group_would_change.lhs (c.loop-start.start + c.min.result) c.if-group_would_change.entered c.if-group_would_change.left
next g c =
    let t = g.O.Operator.table c.args.op.now in
    let us = c.args.lhs.now in
    let vs = c.args.rhs.now in
    let cur = c.loop-start.lhs in
    let a = c.loop-start.start in
    let m = c.min.result in
    let s : a + m - a ≡ m = omega arith in
    let z : min a c.min-shared.result ≡ a = omega arith in
    let d : Partly t us vs cur a c.loop-start.entered c.loop-start.left = subst (λ j. Partly t us vs cur j c.loop-start.entered c.loop-start.left) z c.loop-start.invariant.1 in
    elim c.if-group_would_change.branch [
      | then-group_would_change w ↦ (let u = w.update_group-came in
          let whole : Updated t (take m (drop a cur)) (take m (drop a vs)) u.new.lhs u.result = subst (λ x. Updated t (take x (drop a cur)) (take x (drop a vs)) u.new.lhs u.result) s u.ensures in
          let p = partly_part t us vs cur u.new.lhs a m c.loop-start.entered c.loop-start.left u.result.0 u.result.1 d (omega arith) (omega arith) whole
          c.if-group_would_change.entered c.if-group_would_change.left (w.entered-is ∙ w.saturating_add-entered.ensures) (w.left-is ∙ w.saturating_add-left.ensures) in
          let q = w.lhs-is ∙ ap (λ x. put_mid a x cur u.new.lhs) s in
          subst (λ x. Partly t us vs x (a + m) c.if-group_would_change.entered c.if-group_would_change.left) (sym q) p)
      | else-group_would_change w ↦ (let e : modifies t (take m (drop a cur)) (take m (drop a vs)) ≡ false =
          subst (λ x. modifies t (take x (drop a cur)) (take x (drop a vs)) ≡ false) s (sym c.group_would_change.ensures ∙ w.if-group_would_change.false) in
          let p = partly_same t us vs cur a (a + m) c.loop-start.entered c.loop-start.left d (omega arith) (λ i l h. part_alike t cur vs a m e i l h (omega arith)) in
          rw (w.lhs-is, w.entered-is, w.left-is) p)
    ]

pub loop-start-preserved : goal.loop-start-preserved
loop-start-preserved g c =
    let e : c.loop-start.start + c.min.result ≡ min (c.loop-start.start + 8) c.min-shared.result = omega arith in (
      omega arith,
      subst (λ j. Partly (g.O.Operator.table c.args.op.now) c.args.lhs.now c.args.rhs.now c.if-group_would_change.lhs j c.if-group_would_change.entered c.if-group_would_change.left) e (next g (goal.at.loop-start-preserved g c).Joined-group_would_change),
    )

-- the whole row is written
whole : (t : Table) (us vs cur : List ℕ) (j e l : ℕ) → j ≡ min (length us) (length vs) → Partly t us vs cur j e l → Updated t us vs cur (e, l)
whole t us vs cur j e l is d =
    let all = subst (λ x. Partly t us vs cur x e l) is d in
    let n = partly_counts t us vs cur e l all in
    record { row = partly_all t us vs cur e l all; entered = n.0; left = n.1 }

pub returns-after-group_would_change : goal.returns-after-group_would_change
returns-after-group_would_change g c =
    whole (g.O.Operator.table c.args.op.now) c.args.lhs.now c.args.rhs.now c.if-group_would_change.lhs (c.loop-start.start + c.min.result) c.if-group_would_change.entered c.if-group_would_change.left
    (omega arith) (next g (goal.at.returns-after-group_would_change g c).Joined-group_would_change)

pub returns : goal.returns
returns g c =
    whole (g.O.Operator.table c.args.op.now) c.args.lhs.now c.args.rhs.now c.loop-start.lhs (min c.loop-start.start c.min-shared.result) c.loop-start.entered c.loop-start.left
    (omega arith) c.loop-start.invariant.1
