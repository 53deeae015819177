-- `blocks::ahead::read_first` meets its contract. Assumes nothing.
use mathlib.Core.Bool.{not}
use mathlib.Core.Path.{refl, ap}
use native.Mathlib.Omega.{arith}
use Rattle.samples.proofs.Taken.{fits_if, refused_if, taken_if}
use Rattle.blocks.proofs.Held.{next_read}
use borrow.Author.Rules.{rules}
use Rattle.blocks.proofs.ahead.read_first.Goals as goal

pub returns-then-not-takes : goal.returns-then-not-takes
returns-then-not-takes c = record { next_read = λ t. absurd (refused_if _ _ _ _ c.takes.ensures (ap not c.if-not-takes.true) t); held_unchanged = λ f. (refl, c.unread.ensures.1, c.unread.ensures.4) }

pub read_pieces-p-requires : goal.read_pieces-p-requires
read_pieces-p-requires c = let f = fits_if _ _ _ _ c.takes.ensures (ap not c.if-not-takes.false) in (f.some, omega arith, omega (arith, f.channels_few), omega (arith, f.has), omega arith, search rules)

pub left_in-requires : goal.left_in-requires
left_in-requires c = let f = fits_if _ _ _ _ c.takes.ensures (ap not c.if-not-takes.false) in (f.some, f.channels_few, c.read_pieces-p.ensures.broken)

pub returns : goal.returns
returns c = record { next_read = λ t. next_read _ _ refl (fits_if _ _ _ _ c.takes.ensures (ap not c.if-not-takes.false)).some _ _ _ _ _ _ c.read_pieces-p.ensures _ c.left_in.ensures.0; held_unchanged = λ f. absurd (taken_if _ _ _ _ c.takes.ensures (ap not c.if-not-takes.false) f) }
