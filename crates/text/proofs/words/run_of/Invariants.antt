-- `text::words::run_of` meets its contract: each turn reads one byte more. Assumes nothing.
use Rattle.std.proofs.Common.{◌≡◌, take}
use Rattle.text.specs.Words.{run_of}
use Rattle.text.proofs.words.run_of.Given as goal

abbrev pub invariant-loop-byte : goal.invariant-loop-byte
invariant-loop-byte l = l.run ≡ run_of l.base (take l.byte-index l.word)
