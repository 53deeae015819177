-- `quarter::QuarterWave::entry`: the table has 1,025 entries. Assumes nothing.
use Rattle.std.proofs.Common.{length, ap, ◌∙◌, arith}
use Rattle.quarter.proofs.Rules.{rules}
use Rattle.quarter.proofs.QuarterWave.entry.Goals as goal

pub bounds-self-k : goal.bounds-self-k
bounds-self-k c = omega (arith, ap length c.args.self.made ∙ rules.long, c.requires)
