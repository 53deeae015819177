-- `path::place_of` meets its contract. Assumes nothing.
use mathlib.Core.Path.{sym, subst}
use native.Mathlib.Omega.{arith}
use lib.Dec.{T}
use lib.Ieee.{binary64, fits}
use Rattle.path.proofs.Spans.{count_held, place_out, cast_asks, cast_few, cast_is}
use Rattle.path.proofs.place_of.Goals as goal
use Rattle.path.proofs.place_of.Goals.{Start}

-- x is a double
held : (c : Start) → T (fits binary64 c.args.x)
held c = subst T (sym c.well_formed.1.1.0.1) tt

pub int_to_float-first : goal.int_to_float-first
int_to_float-first c = count_held _ (omega (arith, c.requires))

pub float_to_int-start : goal.float_to_int-start
float_to_int-start c = cast_asks _ _ _ c.requires.0 c.requires.1 (held (goal.at.float_to_int-start c).Start) _ _ c.span_of.ensures c.is_within.ensures c.if-is_within.true c.split-s.result c.split-s.ensures

pub overflow_cast-start : goal.overflow_cast-start
overflow_cast-start c = omega (arith, cast_few _ _ _ c.requires.0 c.requires.1 (held (goal.at.overflow_cast-start c).Start) _ _ c.span_of.ensures c.is_within.ensures c.if-is_within.true c.split-s.result c.split-s.ensures)

pub returns-then-is_within : goal.returns-then-is_within
returns-then-is_within c = cast_is _ _ _ c.requires.0 c.requires.1 (held (goal.at.returns-then-is_within c).Start) _ _ c.span_of.ensures c.is_within.ensures c.if-is_within.true c.split-s.result c.split-s.ensures

pub returns : goal.returns
returns c = place_out _ _ _ c.requires.0 c.requires.1 (held (goal.at.returns c).Start) _ _ c.span_of.ensures c.is_within.ensures c.if-is_within.false
