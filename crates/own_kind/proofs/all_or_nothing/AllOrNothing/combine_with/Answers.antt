-- Two sets of places that are all alike, put through a table, are such a set.
use Rattle.std.proofs.Common.{refl, ◌∙◌}
use Rattle.mask.proofs.Steps.{combine_out}
use Rattle.own_kind.proofs.Uniform.{combine_uniform}
use Rattle.own_kind.proofs.all_or_nothing.AllOrNothing.combine_with.Goals as goal

pub returns-then-self-other : goal.returns-then-self-other
returns-then-self-other g c = record { machine = combine_out _ _ _ _ _ _ c.if-self-other.true; kept = (refl, refl, refl) }

pub returns : goal.returns
returns g c =
    let f = c.fill.ensures in
    record { machine = f.machine ∙ combine_uniform _ _ _ _ c.args.other.now.full _ c.looked_up-on.ensures c.if-self-other.false; kept = f.kept }
