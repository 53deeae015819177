-- `Measured::is_state` meets its contract. Assumes nothing.
use Rattle.state.specs.Record.{is_state}
use Rattle.state.proofs.measured.Measured.is_state.Goals as goal

pub returns : goal.returns
unfolding is_state
returns c = rw (c.args.self.kind_held, c.is_index.ensures, c.sizes_hold.ensures, c.maxima_hold.ensures, c.steps_hold.ensures, c.ratios_hold.ensures, c.counts_hold.ensures)
