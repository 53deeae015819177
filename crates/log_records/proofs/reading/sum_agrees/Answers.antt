-- `log_records::reading::sum_agrees` meets its contract. Assumes nothing.
use Rattle.log_records.proofs.Places.{sum_at}
use Rattle.log_records.proofs.reading.sum_agrees.Goals as goal

pub returns : goal.returns
returns c = sum_at c.args.log.now c.args.at c.args.n _ _ c.requires.0 c.two_at.ensures.0 c.total_of.ensures.0
