-- `construction::fresh_state` meets its contract. Assumes nothing.
use Rattle.construction.proofs.fresh_state.Goals as goal

pub returns : goal.returns
returns c = rw (c.start_index.ensures, c.nbr_points.ensures, c.step_of-step.ensures)
