-- `sheets::records::take_block` meets its contract. Assumes nothing.
use mathlib.Core.Path.{ap, ◌∙◌}
use Prim.Native.Nat.{ℕ}
use lib.Ieee.{Float}
use Rattle.samples.specs.Samples.{little_from, sample_at}
use Rattle.lines.specs.Lines.{Going, figures_of, with_block}
use Rattle.sheets.specs.Sheet.{quiet, page_of, sums_of, judged_of, with_line}
use Rattle.sheets.proofs.Judging.{block_length, block_is}
use Rattle.sheets.proofs.records.take_block.Goals as goal

pub returns-then-payload-ne32 : goal.returns-then-payload-ne32
returns-then-payload-ne32 c = let a = c.args in
    block_length (page_of a.s) a.payload.now (judged_of c.ended.result) (figures_of a.line) c.if-payload-ne32.true c.ended.ensures

pub returns : goal.returns
returns c = let a = c.args in
    let p = page_of a.s in
    let s = sums_of a.s.closed in
    let f = figures_of a.line in
    let bs = a.payload.now in
    let t2 = c.sample_at-t.result in
    let d2 = c.sample_at-d.result in
    let i2 = c.sample_at-index.result in
    block_is p bs (judged_of c.with_lined.result) f c.if-payload-ne32.false
    (c.with_lined.ensures
    ∙ ap (λ (g : Going). with_line p s quiet g) (c.add_block.ensures
    ∙ ap (λ (n : ℕ). with_block f n c.size_at-c.result t2 d2 i2) c.size_at-n.ensures
    ∙ ap (λ (n : ℕ). with_block f (little_from bs 0 4) n t2 d2 i2) c.size_at-c.ensures
    ∙ ap (λ (x : Float). with_block f (little_from bs 0 4) (little_from bs 4 4) x d2 i2) c.sample_at-t.ensures
    ∙ ap (λ (x : Float). with_block f (little_from bs 0 4) (little_from bs 4 4) (sample_at bs 8) x i2) c.sample_at-d.ensures
    ∙ ap (λ (x : Float). with_block f (little_from bs 0 4) (little_from bs 4 4) (sample_at bs 8) (sample_at bs 16) x) c.sample_at-index.ensures))
