-- `log_records::reading::length_at` meets its contract: each test that fails is one of a record's. Assumes nothing.
use mathlib.Core.Path.{sym, ◌∙◌}
use native.Mathlib.Omega.{arith}
use Rattle.log_records.proofs.Places.{none_short, none_cut, none_head, none_long, none_sum, some_length}
use Rattle.log_records.proofs.reading.length_at.Goals as goal

pub returns-then-at-log-clause-value : goal.returns-then-at-log-clause-value
returns-then-at-log-clause-value c = let a = c.args in
    none_short a.log.now a.at (omega arith)

pub returns-then-log-at-lt7-clause-value : goal.returns-then-log-at-lt7-clause-value
returns-then-log-at-lt7-clause-value c = let a = c.args in
    none_short a.log.now a.at (omega arith)

pub returns-then-not-head_agrees-clause-value : goal.returns-then-not-head_agrees-clause-value
returns-then-not-head_agrees-clause-value c = let a = c.args in
    none_head a.log.now a.at (sym c.head_agrees.ensures ∙ c.if-not-head_agrees.true)

pub returns-then-n-gt64-clause-value : goal.returns-then-n-gt64-clause-value
returns-then-n-gt64-clause-value c = let a = c.args in
    none_long a.log.now a.at _ c.two_at-n.ensures.0 c.if-n-gt64.true

pub returns-then-log-at-clause-value : goal.returns-then-log-at-clause-value
returns-then-log-at-clause-value c = let a = c.args in
    none_cut a.log.now a.at c.two_at-n.result c.two_at-n.ensures.0 (omega arith)

pub returns-then-sum_agrees-clause-value : goal.returns-then-sum_agrees-clause-value
returns-then-sum_agrees-clause-value c = let a = c.args in
    some_length a.log.now a.at c.two_at-n.result (sym c.head_agrees.ensures ∙ c.if-not-head_agrees.false) c.two_at-n.ensures.0 (omega arith) (omega arith)
    (sym c.sum_agrees.ensures ∙ c.if-sum_agrees.true)

pub returns-else-sum_agrees-clause-value : goal.returns-else-sum_agrees-clause-value
returns-else-sum_agrees-clause-value c = let a = c.args in
    none_sum a.log.now a.at (sym c.sum_agrees.ensures ∙ c.if-sum_agrees.false)
