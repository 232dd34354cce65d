-- Each word is written in its turn, and what comes and goes is added.
use Rattle.std.proofs.Common.{◌≡◌, ◌^◌, ◌<◌, min, length, get_or, refl, subst, arith}
use Rattle.words.proofs.Updating.{Partly, partly_none, partly_more, partly_all, partly_counts}
use Rattle.words.proofs.rows.update_group.Goals as goal

pub loop-k-init : goal.loop-k-init
loop-k-init g c = partly_none (g.O.Operator.table c.args.op.now) c.args.lhs.now c.args.rhs.now

pub loop-k-preserved : goal.loop-k-preserved
loop-k-preserved g c =
    let cur = c.loop-k.lhs in
    let j = c.loop-k.k in
    let old = get_or cur j 0 in
    let ho : old < 2 ^ 64 = omega arith in
    let t = c.turned-came in
    partly_more (g.O.Operator.table c.args.op.now) c.args.lhs.now c.args.rhs.now cur j c.loop-k.entered c.loop-k.left old (get_or c.args.rhs.now j 0) c.apply-new.result
    t.result.0 t.result.1 c.loop-k.invariant (omega arith) refl refl ho (omega arith) c.apply-new.ensures.bits t.ensures.came t.ensures.went
    c.saturating_add-entered.result c.saturating_add-left.result c.saturating_add-entered.ensures c.saturating_add-left.ensures

pub returns : goal.returns
returns g c =
    let t = g.O.Operator.table c.args.op.now in
    let us = c.args.lhs.now in
    let vs = c.args.rhs.now in
    let s : c.loop-k.k ≡ min (length us) (length vs) = omega arith in
    let d : Partly t us vs c.loop-k.lhs (min (length us) (length vs)) c.loop-k.entered c.loop-k.left =
    subst (λ j. Partly t us vs c.loop-k.lhs j c.loop-k.entered c.loop-k.left) s c.loop-k.invariant in
    let n = partly_counts t us vs c.loop-k.lhs c.loop-k.entered c.loop-k.left d in
    record { row = partly_all t us vs c.loop-k.lhs c.loop-k.entered c.loop-k.left d; entered = n.0; left = n.1 }
