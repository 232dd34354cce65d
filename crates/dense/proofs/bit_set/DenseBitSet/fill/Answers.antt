-- Every bit below the domain is written alike.
use Rattle.std.proofs.Common.{refl, ◌∙◌}
use Rattle.rows.proofs.Lent.{lent_becomes, becomes_behind}
use Rattle.rows.proofs.Loops.{becomes_members, becomes_came, becomes_went}
use Rattle.mask.proofs.Steps.{fill_in}
use Rattle.rows.proofs.Tabs.{tab_const}
use Rattle.dense.proofs.bit_set.DenseBitSet.fill.Goals as goal

pub returns : goal.returns
returns c =
    let s = c.args.self.now in
    let n = s.domain_size in
    let b = lent_becomes s.words c.deref_mut.result.now c.fill_row.new.own c.deref_mut.ensures.value _ (λ _. c.args.on) _ _ (λ i h. refl) c.fill_row.ensures in
    record {
      machine = fill_in n _ _ _ _ refl (becomes_came _ _ _ _ _ b) (becomes_went _ _ _ _ _ b) c.args.on (becomes_members _ _ _ _ _ b ∙ tab_const c.args.on n);
      kept = (refl, refl, becomes_behind _ n _ _ _ b);
    }
