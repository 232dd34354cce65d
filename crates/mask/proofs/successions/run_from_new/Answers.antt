use Rattle.std.proofs.Common.{◌≡◌, ℕ, ◌+◌, Bool, List, map, length, get_or, take, drop, replicate, sym, ap, ◌∙◌, subst, arith}
use Rattle.std.proofs.lemmas.List.{length-map, length-replicate}
use Rattle.mask.specs.Collectors.{held, Gathered}
use Rattle.mask.specs.Machine.{Move, Report, Rule, run, count, total, entered, left}
use Rattle.mask.specs.Trials.{move}
use Rattle.mask.specs.Successions.{Ran}
use Rattle.mask.proofs.Balance.{run_even, count-replicate}
use Rattle.mask.proofs.Decides.{trials_decide}
use Rattle.mask.proofs.Operands.{all_named, all_fair}
use Rattle.mask.proofs.Running.{collected, ran_from}
use Rattle.mask.proofs.successions.run_from_new.Goals as goal
use Rattle.mask.proofs.successions.run_from_new.Goals.{In_ok-mask}

pub run_calls-requires-clause-named : goal.run_calls-requires-clause-named
run_calls-requires-clause-named g c = all_named _ _ (sym c.past_row.ensures ∙ c.in_default.is)

-- the machine's run on the same calls, from the members that the mask began with
pub returns-clause-law : goal.returns-clause-law
returns-clause-law g c =
    let n : ℕ = c.args.n in
    let made = c.in_ok-mask.ensures in
    let start : List Bool = replicate n c.args.full in
    let rule : Rule = g.M.Mask.backing.rule n c.args.memory in
    let calls = c.args.calls.now in
    let mask = c.run_calls.new.mask in
    let bs : List Bool = g.M.Mask.kind.members mask in
    let kept = c.run_calls.ensures.kept in
    let reports : List Report = take (length calls) (drop c.args.reports.now.filled (held c.run_calls.new.reports)) in
    let mv : g.row.M.Denot → _ → Move = λ d. move g.T.Idx.place g.O.Operator.table g.M.Mask.kind (λ j. get_or c.args.row.now j d) in
    let ran : (d : g.row.M.Denot) → Ran (run n rule start (map (mv d) calls)) bs c.args.reports.now c.run_calls.new.reports = λ d.
    ran_from (map (mv d) calls) made.domain made.rule made.members (c.run_calls.ensures.machine d) in
    let seen : (d : g.row.M.Denot) → (reports, bs) ≡ run n rule start (map (mv d) calls) = λ d.
    collected n rule start (map (mv d) calls) (length calls) bs _ _ (length-map calls (mv d)) (ran d) in
    let even = run_even n rule start (map (mv mask) calls) (length-replicate n c.args.full) (all_fair g.T.Idx.place g.O.Operator.table g.M.Mask.kind g.met.M.Mask.laws.long (λ j. get_or c.args.row.now j mask) calls) in
    let sums : count bs + total left reports ≡ count start + total entered reports = subst (λ (p : List Report × List Bool). count p.1 + total left p.0 ≡ count start + total entered p.0) (sym (seen mask)) even in
    let from = count-replicate n c.args.full in (
      reports,
      subst (λ (x : List Report). Gathered x c.args.reports.now c.run_calls.new.reports) (sym (ap (λ (p : List Report × List Bool). p.0) (seen mask))) (ran mask).reports,
      record {
        machine = seen;
        kept = (kept.0 ∙ made.domain, kept.1 ∙ made.rule);
        balance = omega (arith, sums, from);
        trials = trials_decide g.T.Idx.place g.O.Operator.table g.M.Mask.kind g.met.M.Mask.laws.long g.met.M.Mask.laws.empty g.met.M.Mask.laws.full g.met.M.Mask.laws.seen g.met.M.Mask.laws.shown g.met.M.Mask.laws.spans;
      },
    )
