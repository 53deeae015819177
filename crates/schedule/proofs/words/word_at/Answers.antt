-- `schedule::words::word_at` meets its contract. Assumes nothing.
use Rattle.schedule.proofs.Runs.{word_is}
use Rattle.schedule.proofs.words.word_at.Goals as goal

pub returns : goal.returns
returns c = let a = c.args in
    word_is a.line.now a.at _ _ c.run_end-from.ensures.place c.run_end-to.ensures.place c.run_end-to.ensures.within.0 c.run_end-to.ensures.within.1
