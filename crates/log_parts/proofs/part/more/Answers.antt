-- `log_parts::part::more` meets its contract: what is read stands behind what was moved. Assumes nothing.
use mathlib.Core.Path.{refl, ap, ◌∙◌}
use Prim.Native.Nat.{◌-◌}
use native.Mathlib.Omega.{arith}
use lib.ListN.{length, take}
use borrow.Rule.Slice.PartMut.{take_put}
use borrow.Author.Rules.{rules}
use Rattle.log_parts.proofs.Fronts.{moved}
use Rattle.log_parts.proofs.part.more.Goals as goal

pub returns : goal.returns
returns c = let m = c.copy_within in
    let p = c.args.p in
    record { at_value = (refl, search rules, search rules); buf_after = take_put (p.end - p.at) (length m.new.self - (p.end - p.at)) m.new.self c.read-got.new.buf (omega arith) ∙ ap (take (p.end - p.at)) m.ensures.after ∙ moved c.args.buf.now p.at p.end c.requires.0 c.requires.1 }
