-- `schedule::entries::entry_of` meets its contract. Assumes nothing.
use Rattle.schedule.proofs.Lines.{line_over, line_bad, line_is}
use Rattle.schedule.proofs.entries.entry_of.Goals as goal

pub returns-then-is_over : goal.returns-then-is_over
returns-then-is_over c = line_over c.args.line.now _ _ c.word_at-first.ensures _ c.is_over.ensures c.if-is_over.true

pub returns-then-fourth-line : goal.returns-then-fourth-line
returns-then-fourth-line c = line_bad c.args.line.now _ _ c.word_at-first.ensures _ c.is_over.ensures c.if-is_over.false _ _ c.word_at-second.ensures
    _ _ c.word_at-third.ensures _ _ c.word_at-fourth.ensures c.if-fourth-line.true

pub returns : goal.returns
returns c = line_is c.args.line.now _ _ c.word_at-first.ensures _ c.is_over.ensures c.if-is_over.false _ _ c.word_at-second.ensures
    _ _ c.word_at-third.ensures _ _ c.word_at-fourth.ensures c.if-fourth-line.false _ c.fields_of.ensures
