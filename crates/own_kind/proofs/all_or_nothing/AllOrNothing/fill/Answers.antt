-- The set that is asked for is one that the mask can hold.
use Rattle.std.proofs.Common.{refl}
use Rattle.mask.proofs.Steps.{fill_in}
use Rattle.own_kind.specs.Laws.{held}
use Rattle.own_kind.proofs.all_or_nothing.AllOrNothing.fill.Goals as goal

pub returns : goal.returns
returns c =
    let n = c.args.self.now.domain_size in
    record {
      machine = fill_in n _ _ _ _ (held n c.args.on) c.entering.ensures c.entering-2.ensures c.args.on refl;
      kept = (refl, refl, refl);
    }
