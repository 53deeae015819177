-- `printer::bytes::put_byte` meets its contract: a store is a text of one byte. Assumes nothing.
use mathlib.Core.List.{[], ◌∷◌}
use mathlib.Core.Path.{refl}
use native.Mathlib.Omega.{arith}
use Rattle.printer.proofs.Pastes.{pasted_one}
use Rattle.printer.proofs.Texts.{fitted, kept_out}
use Rattle.printer.proofs.bytes.put_byte.Goals as goal

pub returns-then-at-out : goal.returns-then-at-out
returns-then-at-out c = let a = c.args in let p = fitted a.out.now a.at (a.byte ∷ []) 1 refl _ (omega arith) (pasted_one a.out.now a.at a.byte c.if-at-out.true) in
    record { place = p.0; put = p.1 }

pub returns : goal.returns
returns c = let a = c.args in let p = kept_out a.out.now a.at (a.byte ∷ []) 1 refl (omega arith) in
    record { place = p.0; put = p.1 }
