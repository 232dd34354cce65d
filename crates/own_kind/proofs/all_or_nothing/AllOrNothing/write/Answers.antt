-- One index can be written where that changes nothing, or where it is the only one.
use Rattle.std.proofs.Common.{refl, ◌∙◌, arith}
use Rattle.mask.proofs.Steps.{put_out}
use Rattle.own_kind.proofs.Uniform.{put_same, put_split, put_only}
use Rattle.own_kind.proofs.all_or_nothing.AllOrNothing.write.Goals as goal

pub returns-then-index-self : goal.returns-then-index-self
returns-then-index-self c = record { machine = put_out _ _ _ c.args.on _ (omega arith); kept = (refl, refl, refl) }

pub returns-then-self-on : goal.returns-then-self-on
returns-then-self-on c = record { machine = put_same _ _ (omega arith) _ c.args.on c.if-self-on.true; kept = (refl, refl, refl) }

pub returns-then-self-gt1 : goal.returns-then-self-gt1
returns-then-self-gt1 c =
    record { machine = put_split _ _ (omega arith) _ c.args.on c.if-self-on.false (omega arith); kept = (refl, refl, refl) }

pub returns : goal.returns
returns c =
    let f = c.fill.ensures in
    record { machine = f.machine ∙ put_only _ _ _ c.args.on (omega arith) (omega arith); kept = f.kept }
