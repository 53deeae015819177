-- `grid_places::spot_of` meets its contract: each answer goes by the tests that led there. Assumes nothing.
use Rattle.std.proofs.Common.{◌∙◌}
use Rattle.grid_places.proofs.Signs.{index_kept, spot_plain, spot_high, spot_low, turned_fits, turned_kept, spot_minus, spot_far}
use Rattle.grid_places.proofs.spot_of.Goals as goal

pub overflow_cast-n : goal.overflow_cast-n
overflow_cast-n c = index_kept c.args.p.index c.struct_told-1.given.0.1 c.if-z-ge0.true

pub returns-then-n-last : goal.returns-then-n-last
returns-then-n-last c = let a = c.args in
    c.spot_at.ensures ∙ spot_plain a.p.index c.struct_told-1.given.0.1 a.shift a.last a.p.subindex c.if-z-ge0.true

pub returns-then-z-ge0 : goal.returns-then-z-ge0
returns-then-z-ge0 c = let a = c.args in
    spot_high a.p.index c.struct_told-1.given.0.1 a.shift a.last a.p.subindex c.if-z-ge0.true c.if-n-last.false

pub overflow_sub-n : goal.overflow_sub-n
overflow_sub-n c = turned_fits c.args.p.index c.struct_told-1.given.0.1 c.if-z-ge0.false c.if-z-geminus131072.true

pub overflow_cast-n-then-z-geminus131072 : goal.overflow_cast-n-then-z-geminus131072
overflow_cast-n-then-z-geminus131072 c = turned_kept c.args.p.index c.struct_told-1.given.0.1 c.if-z-ge0.false c.if-z-geminus131072.true

pub returns-then-n-shift : goal.returns-then-n-shift
returns-then-n-shift c = let a = c.args in
    c.spot_at-then-n-shift.ensures
    ∙ spot_minus a.p.index c.struct_told-1.given.0.1 c.if-z-ge0.false c.if-z-geminus131072.true a.shift a.last a.p.subindex c.if-n-shift.true

pub returns-else-n-shift : goal.returns-else-n-shift
returns-else-n-shift c = let a = c.args in
    spot_far a.p.index c.struct_told-1.given.0.1 c.if-z-ge0.false c.if-z-geminus131072.true a.shift a.last a.p.subindex c.if-n-shift.false

pub returns-else-z-geminus131072 : goal.returns-else-z-geminus131072
returns-else-z-geminus131072 c = let a = c.args in
    spot_low a.p.index c.struct_told-1.given.0.1 a.shift a.last a.p.subindex c.if-z-ge0.false c.if-z-geminus131072.false c.requires.0
