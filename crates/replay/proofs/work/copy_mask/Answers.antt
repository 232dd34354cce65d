use Rattle.std.proofs.Common.{arith}
use Rattle.replay.proofs.Copying.{taken_over}
use Rattle.replay.proofs.work.copy_mask.Goals as goal

pub returns-in-Ok-clause-members : goal.returns-in-Ok-clause-members
returns-in-Ok-clause-members g c =
    let long = g.met.M.Mask.laws.long in
    let kind = g.M.Mask.kind in
    let copy = c.in_ok-copy.copy in
    let mask = c.args.mask.now in
    taken_over (kind.domain copy) (kind.domain mask) (kind.rule copy) (kind.members copy) (kind.members mask) (kind.members c.clone_from.new.self) c.in-Ok.field-0
    (omega (arith, long copy, long mask, c.in_ok-copy.ensures.domain, c.domain_size.ensures)) c.in-Ok.ensures.machine
