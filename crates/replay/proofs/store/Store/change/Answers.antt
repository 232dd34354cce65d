use Rattle.std.proofs.Common.{rules, Ok, Err}
use Rattle.replay.specs.Calls.{moved}
use Rattle.replay.specs.Stores.{reported}
use Rattle.replay.proofs.Stores.{turned}
use Rattle.replay.proofs.store.Store.change.Goals as goal

pub returns-in_err-entered : goal.returns-in_err-entered
returns-in_err-entered c =
    turned c.args.self.now c.args.number (c.mask_mut.follows.lender c.change.new.self) c.in_ok-mask_mut.field-0.now c.change.new.self
    c.in_ok-mask_mut.ensures.value (search rules) (moved c.args.change) (Err c.in_err-entered.field-0.0) c.from_residual-in_err-entered.result
    (search rules) (search rules) (search rules) (search rules) (search rules)

pub returns : goal.returns
returns c =
    turned c.args.self.now c.args.number (c.mask_mut.follows.lender c.change.new.self) c.in_ok-mask_mut.field-0.now c.change.new.self
    c.in_ok-mask_mut.ensures.value (search rules) (moved c.args.change) (Ok (c.in_ok-entered.entered, c.in_ok-entered.left))
    (reported (Ok (c.in_ok-entered.entered, c.in_ok-entered.left)))
    (search rules) (search rules) (search rules) (search rules) (search rules)
