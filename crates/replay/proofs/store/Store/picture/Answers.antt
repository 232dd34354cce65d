use Rattle.std.proofs.Common.{rules}
use Rattle.replay.proofs.Stores.{shown}
use Rattle.replay.proofs.store.Store.picture.Goals as goal

pub returns : goal.returns
returns c =
    shown c.args.self.now c.args.number (c.mask_mut.follows.lender c.replace.new.dest) c.in_ok-mask.mask.now c.replace.new.dest c.in_ok-mask.ensures.value (search rules) c.into_picture.result (search rules) (search rules) (search rules)
