-- `sheets::records::take_start` meets its contract. Assumes nothing.
use mathlib.Core.Path.{ap, ◌∙◌}
use Rattle.lines.specs.Lines.{Going}
use Rattle.lines.specs.Lines.{started, going_of}
use lib.Ieee.{Float}
use Rattle.lines.specs.declared.End.TheVariants as end
use Rattle.sheets.specs.Sheet.{Row, page_of, sums_of, judged_of, current_of, with_line, line_row}
use Rattle.sheets.proofs.Judging.{start_length, start_is}
use Rattle.sheets.proofs.records.take_start.Goals as goal

pub returns-then-payload-ne8 : goal.returns-then-payload-ne8
returns-then-payload-ne8 c = let a = c.args in
    start_length (page_of a.s) a.payload.now (judged_of c.ended.result) c.if-payload-ne8.true c.ended.ensures

pub returns : goal.returns
returns c = let a = c.args in
    let p = page_of a.s in
    let s = sums_of a.s.total in
    start_is p a.payload.now (judged_of c.with_lined.result) c.if-payload-ne8.false
    (c.with_lined.ensures
    ∙ ap (λ (r : Row). with_line p s r (going_of c.start_line.result)) c.line_told.ensures
    ∙ ap (λ (g : Going). with_line p s (line_row (current_of a.s.line) end.Closed) g) (c.start_line.ensures ∙ ap (λ (x : Float). started x) c.sample_at.ensures))
