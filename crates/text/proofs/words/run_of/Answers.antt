-- `text::words::run_of` meets its contract: each turn reads one byte more. Assumes nothing.
use Rattle.text.specs.Digits.{numeral_from}
use Rattle.text.specs.Words.{only_digits}
use Rattle.text.proofs.Runs.{come_next}
use Rattle.text.proofs.words.run_of.Goals as goal

pub loop-byte-init : goal.loop-byte-init
unfolding only_digits numeral_from
loop-byte-init c = c.no_digits-run.ensures

pub loop-byte-preserved : goal.loop-byte-preserved
loop-byte-preserved c = come_next _ _ _ _ _ c.requires c.loop-byte-test.true c.loop-byte.invariant c.step-run.ensures
