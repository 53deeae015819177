-- `samples::counts::takes` meets its contract. Assumes nothing.
use native.Mathlib.Omega.{arith}
use Rattle.samples.proofs.Taken.{taken_none, taken_channels, taken_frames, taken_room}
use Rattle.samples.proofs.counts.takes.Goals as goal

pub returns-then-channels-eq0 : goal.returns-then-channels-eq0
returns-then-channels-eq0 c = taken_none _ _ _ c.if-channels-eq0.true

pub returns-then-channels-gt16 : goal.returns-then-channels-gt16
returns-then-channels-gt16 c = taken_channels _ _ _ (omega arith) c.if-channels-gt16.true

pub returns-then-share-gt65536 : goal.returns-then-share-gt65536
returns-then-share-gt65536 c = taken_frames _ _ _ (omega arith) c.if-channels-gt16.false c.if-share-gt65536.true

pub returns : goal.returns
returns c = taken_room _ _ _ (omega arith) c.if-channels-gt16.false c.if-share-gt65536.false _ c.samples_in.ensures.0
