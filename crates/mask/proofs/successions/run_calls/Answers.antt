use Rattle.std.proofs.Common.{ℕ, ◌<◌, ◌≤◌, Bool, List, [], ◌∷◌, ◌++◌, map, length, get_or, sym, refl, ◌∙◌, subst, arith}
use Rattle.std.proofs.lemmas.List.{length_push, length-map}
use Rattle.mask.specs.Collectors.{held}
use Rattle.mask.specs.Machine.{Move, Report}
use Rattle.mask.specs.Trials.{move}
use Rattle.mask.specs.Successions.{Ran}
use Rattle.mask.proofs.Running.{gathered_none, gathered_more, midway_none, midway_more, midway_all, stepped}
use Rattle.mask.proofs.successions.run_calls.Goals as goal

pub loop-c-init : goal.loop-c-init
loop-c-init g c = ([], gathered_none _, refl, λ d. midway_none _ _ _ _, (refl, refl, refl))

pub loop-c-preserved : goal.loop-c-preserved
loop-c-preserved g c =
    let old = c.loop-c.invariant in
    let done : List Report = old.0 in
    let r : Report = c.apply_call-report.result in
    let puts = old.1.puts in
    let room : c.loop-c.reports.filled < length (held c.loop-c.reports) = omega (arith, puts.counts, puts.long, old.2, c.loop-c-test.true, c.requires.room) in (
      done ++ r ∷ [],
      gathered_more done _ c.loop-c.reports c.push.new.self r room c.push.ensures.places c.push.ensures.filled c.push.ensures.loan old.1,
      (let a = length_push done r in omega (arith, a, old.2)),
      (λ d.
          let mv = move g.T.Idx.place g.O.Operator.table g.M.Mask.kind (λ j. get_or c.args.row.now j d) in
          let h : c.loop-c.c-index < length (map mv c.args.calls.now) = subst (λ (x : ℕ). c.loop-c.c-index < x) (sym (length-map c.args.calls.now mv)) c.loop-c-test.true in
          midway_more _ _ _ (map mv c.args.calls.now) done (g.M.Mask.kind.members c.loop-c.mask) c.loop-c.c-index r (g.M.Mask.kind.members c.apply_call-report.new.mask) h
          (stepped mv c.args.calls.now c.loop-c.c-index c.c-item.result _ _ _ _ _ _ r c.loop-c-test.true c.c-item.is old.4.0 old.4.1 (c.apply_call-report.ensures.machine d))
          (old.3 d)),
      (c.apply_call-report.ensures.kept.0 ∙ old.4.0, c.apply_call-report.ensures.kept.1 ∙ old.4.1, c.apply_call-report.ensures.kept.2 ∙ old.4.2),
    )

pub returns-clause-machine : goal.returns-clause-machine
returns-clause-machine g c d =
    let old = c.loop-c.invariant in
    let mv = move g.T.Idx.place g.O.Operator.table g.M.Mask.kind (λ j. get_or c.args.row.now j d) in
    let ms : List Move = map mv c.args.calls.now in
    let h : length ms ≤ c.loop-c.c-index = omega (arith, length-map c.args.calls.now mv, c.loop-c-test.false) in
    let e = midway_all _ _ _ ms old.0 (g.M.Mask.kind.members c.loop-c.mask) c.loop-c.c-index h (old.3 d) in
    subst (λ (p : List Report × List Bool). Ran p (g.M.Mask.kind.members c.loop-c.mask) c.args.reports.now c.loop-c.reports) (sym e) (record { leaves = refl; reports = old.1 })
