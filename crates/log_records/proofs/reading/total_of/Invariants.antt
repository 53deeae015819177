-- `log_records::reading::total_of` meets its contract: each turn adds one byte more. Assumes nothing.
use Rattle.log_records.proofs.Sums.{Added}
use Rattle.log_records.proofs.reading.total_of.Given as goal

abbrev pub invariant-loop-byte : goal.invariant-loop-byte
invariant-loop-byte l = Added l.bytes l.from l.sum l.byte-index
