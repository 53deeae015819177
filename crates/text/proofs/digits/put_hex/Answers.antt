-- `text::digits::put_hex` meets its contract: each turn puts one digit more. Assumes nothing.
use native.Mathlib.Omega.{arith}
use Rattle.text.proofs.Glyphs.{put_none, put_next, put_done}
use Rattle.text.proofs.digits.put_hex.Goals as goal

pub loop-k-init : goal.loop-k-init
loop-k-init c = (omega arith, put_none _ _ _)

pub loop-k-preserved : goal.loop-k-preserved
loop-k-preserved c = let l = c.loop-k in
    (omega arith, put_next _ _ _ _ l.k _ l.invariant.1 (omega arith) (omega arith) c.glyph_of.ensures)

pub shape_of-buf : goal.shape_of-buf
shape_of-buf c = c.loop-k.invariant.1.long

pub returns : goal.returns
returns c = put_done _ _ _ _ _ c.loop-k.invariant.1 (omega arith)
