-- `wave::line_at`: the place and the fraction of k, and the line from there. Assumes nothing.
use Rattle.std.proofs.Common.{T, sym, subst, arith}
use lib.Ieee.{to_signed}
use Rattle.wave.proofs.Lines.{castable, line_at_lem, place_small}
use Rattle.wave.proofs.line_at.Goals as goal

pub place_of-place-requires : goal.place_of-place-requires
place_of-place-requires c = castable c.args.k _ (subst T (sym c.well_formed.1.0.1) tt) c.requires.k_value c.split-s.ensures

pub overflow_add-place : goal.overflow_add-place
overflow_add-place c = record { fits = omega (arith, place_small (to_signed 63 c.split-s.result.floor) c.place_of-place.result c.args.ahead c.place_of-place.ensures c.requires.ahead_bound) }

pub line_from-requires : goal.line_from-requires
line_from-requires c = place_small (to_signed 63 c.split-s.result.floor) c.place_of-place.result c.args.ahead c.place_of-place.ensures c.requires.ahead_bound

pub returns : goal.returns
returns c = let a = c.args in
    line_at_lem a.ahead a.k _ _ _ c.split-s.ensures c.place_of-place.ensures c.line_from.ensures
