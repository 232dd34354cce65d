-- Each bit below the domain goes through the operator's table.
use Rattle.std.proofs.Common.{vec_items, sym, refl, ap, ◌∙◌, ap₂}
use Rattle.mask.specs.Machine.{through}
use Rattle.words.specs.Bits.{holds}
use Rattle.words.specs.Tables.{look}
use Rattle.rows.specs.Members.{tab}
use Rattle.rows.proofs.Lent.{lent_becomes, becomes_behind}
use Rattle.rows.proofs.Loops.{becomes_members, becomes_came, becomes_went}
use Rattle.mask.proofs.Steps.{combine_in, combine_out}
use Rattle.rows.proofs.Tabs.{through-tab}
use Rattle.dense.proofs.bit_set.DenseBitSet.combine_with.Goals as goal

pub returns-then-self-other : goal.returns-then-self-other
returns-then-self-other g c = record { machine = combine_out _ _ _ _ _ _ c.if-self-other.true; kept = (refl, refl, refl) }

pub returns : goal.returns
returns g c =
    let t = g.O.Operator.table c.args.op.now in
    let s = c.args.self.now in
    let n = s.domain_size in
    let own = vec_items s.words in
    let other = vec_items c.args.other.now.words in
    let b = lent_becomes s.words c.deref_mut.result.now c.combine_row.new.own c.deref_mut.ensures.value _ (λ i. look t (holds own i) (holds other i)) _ _
    (λ i h. ap₂ (λ x y. look t (holds x i) (holds y i)) c.deref_mut.ensures.value c.deref.ensures.value) c.combine_row.ensures in
    let z = becomes_members _ _ _ _ _ b ∙ sym (through-tab t (holds own) (holds other) n) ∙ ap (λ x. through t (tab (holds own) n) (tab (holds other) x)) c.if-self-other.false in
    record {
      machine = combine_in n _ _ _ _ refl (becomes_came _ _ _ _ _ b) (becomes_went _ _ _ _ _ b) t _ _ c.if-self-other.false z;
      kept = (refl, refl, becomes_behind _ n _ _ _ b);
    }
