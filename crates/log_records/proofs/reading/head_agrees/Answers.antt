-- `log_records::reading::head_agrees` meets its contract. Assumes nothing.
use Rattle.log_records.proofs.Places.{head_at}
use Rattle.log_records.proofs.reading.head_agrees.Goals as goal

pub returns : goal.returns
returns c = let a = c.args in
    head_at a.log.now a.at
