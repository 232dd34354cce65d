use Rattle.std.proofs.Common.{arith}
use Rattle.replay.proofs.Pictures.{turned_front}
use Rattle.replay.proofs.kinds.words_after_domain.Goals as goal

pub returns : goal.returns
returns c =
    turned_front c.args.domain c.args.taken c.truncate.new.self.len c.args.memory.items c.truncate.new.self.items c.rotate_right.new.self.items
    (omega (arith, c.requires, c.truncate.ensures.len)) (omega (arith, c.requires, c.args.memory.ok.0)) c.truncate.ensures.items c.rotate_right.ensures.items
