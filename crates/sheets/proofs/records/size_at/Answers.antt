-- `sheets::records::size_at` meets its contract. Assumes nothing.
use Rattle.sheets.proofs.Judging.{four_bytes}
use Rattle.sheets.proofs.records.size_at.Goals as goal

pub returns : goal.returns
returns c = four_bytes c.args.payload.now c.args.at _ _ _ _ c.wide-a.ensures.0 c.wide-b.ensures.0 c.wide-c.ensures.0 c.wide-d.ensures.0
