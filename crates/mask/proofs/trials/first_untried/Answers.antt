use Rattle.std.proofs.Common.{rules, tests}
use Rattle.std.proofs.lemmas.Iterator.{YieldsList-from_slice}
use Rattle.mask.specs.Trials.{untried_call}
use Rattle.mask.proofs.Firsts.{first_answer-from_find_map}
use Rattle.mask.proofs.trials.first_untried.Goals as goal

pub returns : goal.returns
returns g c =
    first_answer-from_find_map untried_call c.find_map.result c.find_map.ensures.runs
    (YieldsList-from_slice c.args.calls.now cc) (λ x r q k. search (rules, tests))
