-- `text::words::step` meets its contract: each return goes by the tests that led there. Assumes nothing.
use Rattle.std.proofs.Common.{arith}
use Rattle.text.proofs.Runs.{no_digit, too_large, one_digit, step_is}
use Rattle.text.proofs.words.step.Goals as goal

pub returns-then-d-base : goal.returns-then-d-base
returns-then-d-base c = step_is _ _ _ _ _ _ c.in_ok-count.was c.digit_of-d.ensures (no_digit _ _ _ _ c.if-d-base.true)

pub returns-then-number-d : goal.returns-then-number-d
returns-then-number-d c = step_is _ _ _ _ _ _ c.in_ok-count.was c.digit_of-d.ensures
    (too_large _ _ _ _ c.requires c.if-d-base.false (omega arith) c.if-number-d.true)

pub returns : goal.returns
returns c = step_is _ _ _ _ _ _ c.in_ok-count.was c.digit_of-d.ensures
    (one_digit _ _ _ _ _ c.requires c.if-d-base.false (omega arith) c.if-number-d.false c.one_more.ensures)
