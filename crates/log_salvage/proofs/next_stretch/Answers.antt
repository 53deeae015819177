-- `log_salvage::next_stretch` meets its contract. Assumes nothing.
use mathlib.Core.Path.{sym, ◌∙◌}
use Rattle.log_salvage.proofs.Steps.{is_kept, is_skipped, skipped_within, is_end, none_short}
use Rattle.log_salvage.proofs.next_stretch.Goals as goal

pub returns-in-Some-clause-value : goal.returns-in-Some-clause-value
returns-in-Some-clause-value c = let a = c.args in
    is_kept a.part.now a.at a.last _ (sym c.in-Some.is ∙ c.length_at.ensures.value)

pub returns-then-p-at-clause-value : goal.returns-then-p-at-clause-value
returns-then-p-at-clause-value c = let a = c.args in
    is_skipped a.part.now a.at a.last (sym c.in_default.is ∙ c.length_at.ensures.value) _ c.next_place-p.ensures c.if-p-at.true

pub returns-then-p-at-clause-within : goal.returns-then-p-at-clause-within
returns-then-p-at-clause-within c = let a = c.args in
    skipped_within a.part.now a.at a.last _ c.next_place-p.ensures c.if-p-at.true

pub returns-clause-value : goal.returns-clause-value
returns-clause-value c = let a = c.args in
    is_end a.part.now a.at a.last (sym c.in_default.is ∙ c.length_at.ensures.value) _ c.next_place-p.ensures c.if-p-at.false

pub returns-clause-short : goal.returns-clause-short
returns-clause-short c = let a = c.args in
    λ e f. none_short a.part.now a.at a.last (sym c.in_default.is ∙ c.length_at.ensures.value) _ c.next_place-p.ensures c.if-p-at.false f
