-- `log_records::reading::read_record` meets its contract. Assumes nothing.
use Rattle.std.proofs.Common.{rules}
use Rattle.log_records.proofs.Places.{read_by}
use Rattle.log_records.proofs.reading.read_record.Goals as goal

pub returns-in_err-n : goal.returns-in_err-n
returns-in_err-n c = rw (read_by c.args.log.now c.args.at) (search rules)

pub returns : goal.returns
returns c = rw (read_by c.args.log.now c.args.at) (search rules)
