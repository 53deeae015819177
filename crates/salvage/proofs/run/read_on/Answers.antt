-- `salvage::run::read_on` meets its contract. Assumes nothing.
use mathlib.Core.Path.{refl}
use Rattle.log_parts.proofs.Turns.{follows_more}
use borrow.Author.Rules.{rules}
use Rattle.salvage.proofs.run.read_on.Goals as goal

pub returns : goal.returns
returns c = let m = c.more-part in
    let e = m.ensures in
    record { walk_value = (refl, search rules); follows = follows_more c.args.r.part m.result c.args.buf.now _ c.requires.0 e.at_value.0 e.at_value.1 e.buf_after }
