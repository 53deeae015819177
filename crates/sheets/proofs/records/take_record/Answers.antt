-- `sheets::records::take_record` meets its contract. Assumes nothing.
use mathlib.Core.Path.{refl}
use Rattle.sheets.specs.Sheet.{page_of, judged_of}
use Rattle.sheets.proofs.Judging.{kind_block, kind_setting, kind_start}
use Rattle.sheets.proofs.records.take_record.Goals as goal

pub returns-then-kind-eq3 : goal.returns-then-kind-eq3
returns-then-kind-eq3 c = let a = c.args in
    kind_block (page_of a.s) a.kind a.payload.now (judged_of c.block_on.result) c.if-kind-eq3.true c.block_on.ensures

pub returns-then-kind-eq2 : goal.returns-then-kind-eq2
returns-then-kind-eq2 c = let a = c.args in
    kind_setting (page_of a.s) a.kind a.payload.now _ c.if-kind-eq3.false c.if-kind-eq2.true refl

pub returns : goal.returns
returns c = let a = c.args in
    kind_start (page_of a.s) a.kind a.payload.now (judged_of c.take_start.result) c.if-kind-eq3.false c.if-kind-eq2.false c.take_start.ensures
