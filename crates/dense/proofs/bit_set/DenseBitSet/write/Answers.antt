-- One bit of one word is written, and it is the index's.
use Rattle.std.proofs.Common.{◌<◌, cond, not, vec_items, sym, refl, ap, ◌∙◌, arith}
use Rattle.words.specs.Bits.{holds}
use Rattle.rows.proofs.Lent.{lent_write, lent_write_fit, lent_write_behind}
use Rattle.rows.proofs.RowWords.{put_members, put_clean}
use Rattle.mask.proofs.Steps.{put_out, put_in, set_counts, turned_counts}
use Rattle.rows.proofs.Tabs.{get_or-tab}
use Rattle.dense.proofs.bit_set.DenseBitSet.write.Goals as goal

pub returns-then-index-self : goal.returns-then-index-self
returns-then-index-self c = record { machine = put_out _ _ _ c.args.on _ (omega arith); kept = (refl, refl, refl) }

pub invariant_of-self : goal.invariant_of-self
invariant_of-self c =
    let s = c.args.self.now in
    let row = c.deref_mut.result.now in
    let inside : c.args.index < s.domain_size = omega arith in
    let at = lent_write s.words row c.write_bit-turned.new.words c.deref_mut.ensures.value s.domain_size c.args.index c.args.on inside c.write_bit-turned.ensures.row in
    let fit = lent_write_fit s.words row c.write_bit-turned.new.words c.deref_mut.ensures.value s.domain_size c.args.index c.args.on inside c.write_bit-turned.ensures.row in
    record { small = s.small; enough = s.enough; fit = fit s.fit; clean = put_clean s.domain_size c.args.index _ _ c.args.on inside at s.clean }

pub returns : goal.returns
returns c =
    let s = c.args.self.now in
    let n = s.domain_size in
    let i = c.args.index in
    let on = c.args.on in
    let row = c.deref_mut.result.now in
    let e = c.deref_mut.ensures.value in
    let inside : i < n = omega arith in
    let at = lent_write s.words row c.write_bit-turned.new.words e n i on inside c.write_bit-turned.ensures.row in
    let m = put_members n i _ _ on at in
    let was = sym (get_or-tab (holds (vec_items s.words)) n i on inside) in
    let turn = c.write_bit-turned.ensures.value ∙ ap (λ x. cond on (not (holds x i)) (holds x i)) e in
    let one = turned_counts on (holds (vec_items s.words) i) c.write_bit-turned.result c.report_one.result turn c.report_one.ensures.came c.report_one.ensures.went in
    let k = set_counts _ _ i on (holds (vec_items s.words) i) c.report_one.result m was one.0 one.1 in
    record {
      machine = put_in n _ _ _ _ refl k.0 k.1 on i inside m;
      kept = (refl, refl, lent_write_behind s.words row c.write_bit-turned.new.words e n i on inside c.write_bit-turned.ensures.row);
    }
