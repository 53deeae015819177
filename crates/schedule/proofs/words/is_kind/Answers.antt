-- `schedule::words::is_kind` meets its contract. Assumes nothing.
use Rattle.schedule.proofs.Runs.{kind_blank, kind_other}
use Rattle.schedule.proofs.words.is_kind.Goals as goal

pub returns-then-blank : goal.returns-then-blank
returns-then-blank c = kind_blank c.args.blank c.args.byte _ c.is_blank.ensures c.if-blank.true

pub returns-else-blank : goal.returns-else-blank
returns-else-blank c = kind_other c.args.blank c.args.byte _ c.is_blank-else-blank.ensures c.if-blank.false
