use Rattle.std.proofs.Common.{rules, tests}
use Rattle.std.proofs.lemmas.Iterator.{YieldsList-from_slice}
use Rattle.mask.specs.Trials.{past_call}
use Rattle.mask.proofs.Firsts.{first_answer-from_find_map}
use Rattle.mask.proofs.calls.past_row.Goals as goal

pub returns : goal.returns
returns g c =
    first_answer-from_find_map (past_call c.args.rows) c.find_map.result c.find_map.ensures.runs
    (YieldsList-from_slice c.args.calls.now cc) (λ x r q k. search (rules, tests))
