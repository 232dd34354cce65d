-- The mask is combined with a row of the step's samples, all of which lie within the episode.
use Rattle.std.proofs.Common.{◌≡◌, vec_items, sym, ◌∙◌, rules}
use Rattle.std.proofs.lemmas.List.{with_items_is}
use Rattle.std.specs.Vec.{with_items}
use Rattle.splice.specs.Masks.{HasAdvert}
use Rattle.splice.proofs.Splicing.{combined_at, worked_all}
use Rattle.splice.proofs.episode.Episode.work.Goals as goal

pub returns-clause-ok : goal.returns-clause-ok
returns-clause-ok c =
    let e = c.args.self.now in
    let new = c.combine-entered.new.mask in
    let row = c.combine-entered.ensures in
    let final : vec_items (with_items e.mask new) ≡ new = with_items_is e.mask new (row.long ∙ c.deref_mut.ensures.len) in
    let all = combined_at c.combine-entered.result.0 c.combine-entered.result.1 c.deref_mut.ensures.value c.deref.ensures.value (sym final) row in
    let put : HasAdvert c.args.step c.in_ok-advert.advert.items = search rules in
    record {
      samples = search rules;
      mask = worked_all c.args.step e.samples (vec_items e.mask) (vec_items c.in_ok-advert.advert) (vec_items (with_items e.mask new)) c.combine-entered.result.0 c.combine-entered.result.1 all
          put c.in_ok-check.ensures.within e.ends c.in_ok-check.ensures.ordered e.small (sym e.mask.ok.0 ∙ e.rows) c.advert.result c.of.result c.advert.ensures c.of.ensures.drawn;
      began = search rules;
      laid = search rules;
    }
