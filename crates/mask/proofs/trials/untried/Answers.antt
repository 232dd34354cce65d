use Rattle.std.proofs.Common.{sym, ap, ◌∙◌, rules}
use Rattle.std.specs.Option.{option_or}
use Rattle.mask.specs.Trials.{untried_call, untried}
use Rattle.mask.proofs.Firsts.{first_answer-append, gone_on}
use Rattle.mask.proofs.trials.untried.Goals as goal

pub returns : goal.returns
returns g c =
    let second = untried c.args.ys.now in
    gone_on c.first_untried.result second c.or_else.result _ c.or_else.ensures (λ e. search rules) ∙ ap (λ o. option_or o second) c.first_untried.ensures
    ∙ sym (first_answer-append untried_call c.args.xs.now c.args.ys.now)
