-- `construction::new_kind` meets its contract: a rung of the ladder for each refusal, then the record. Assumes nothing.
use mathlib.Core.Path.{sym, ap, ◌∙◌}
use borrow.Author.Tests.{lt-leb, le-leb}
use Rattle.error.proofs.Ladder.{pass, stop}
use Rattle.construction.specs.Construction.{fresh_state, construct, first_lengths}
use Rattle.construction.proofs.new_kind.Goals as goal

pub returns-then-not-kind_holds : goal.returns-then-not-kind_holds
unfolding construct
returns-then-not-kind_holds c = stop _ _ _ _ (sym c.kind_holds.ensures ∙ c.if-not-kind_holds.true)

pub returns-then-not-above_zero : goal.returns-then-not-above_zero
unfolding construct
returns-then-not-above_zero c = pass _ _ _ _ _ (sym c.kind_holds.ensures ∙ c.if-not-kind_holds.false) (
    stop _ _ _ _ (sym c.above_zero.ensures ∙ c.if-not-above_zero.true))

pub returns-then-not-at_least_one : goal.returns-then-not-at_least_one
unfolding construct
returns-then-not-at_least_one c = pass _ _ _ _ _ (sym c.kind_holds.ensures ∙ c.if-not-kind_holds.false) (
    pass _ _ _ _ _ (sym c.above_zero.ensures ∙ c.if-not-above_zero.false) (
    stop _ _ _ _ (sym c.at_least_one.ensures ∙ c.if-not-at_least_one.true)))

pub returns-then-chunk-lt1 : goal.returns-then-chunk-lt1
unfolding construct
returns-then-chunk-lt1 c = pass _ _ _ _ _ (sym c.kind_holds.ensures ∙ c.if-not-kind_holds.false) (
    pass _ _ _ _ _ (sym c.above_zero.ensures ∙ c.if-not-above_zero.false) (
    pass _ _ _ _ _ (sym c.at_least_one.ensures ∙ c.if-not-at_least_one.false) (
    stop _ _ _ _ (lt-leb _ _ c.if-chunk-lt1.true))))

pub returns-then-not-is_ratio : goal.returns-then-not-is_ratio
unfolding construct
returns-then-not-is_ratio c = pass _ _ _ _ _ (sym c.kind_holds.ensures ∙ c.if-not-kind_holds.false) (
    pass _ _ _ _ _ (sym c.above_zero.ensures ∙ c.if-not-above_zero.false) (
    pass _ _ _ _ _ (sym c.at_least_one.ensures ∙ c.if-not-at_least_one.false) (
    pass _ _ _ _ _ (le-leb _ _ c.if-chunk-lt1.false) (
    stop _ _ _ _ (sym c.is_ratio.ensures ∙ c.if-not-is_ratio.true)))))

pub returns-then-not-is_channels : goal.returns-then-not-is_channels
unfolding construct
returns-then-not-is_channels c = pass _ _ _ _ _ (sym c.kind_holds.ensures ∙ c.if-not-kind_holds.false) (
    pass _ _ _ _ _ (sym c.above_zero.ensures ∙ c.if-not-above_zero.false) (
    pass _ _ _ _ _ (sym c.at_least_one.ensures ∙ c.if-not-at_least_one.false) (
    pass _ _ _ _ _ (le-leb _ _ c.if-chunk-lt1.false) (
    pass _ _ _ _ _ (sym c.is_ratio.ensures ∙ c.if-not-is_ratio.false) (
    stop _ _ _ _ (sym c.is_channels.ensures ∙ c.if-not-is_channels.true))))))

pub of-requires : goal.of-requires
of-requires c = rw c.fresh_state-fresh.ensures (sym c.kind_holds.ensures ∙ c.if-not-kind_holds.false)

pub returns : goal.returns
unfolding construct
returns c = let a = c.args in
    pass _ _ _ _ _ (sym c.kind_holds.ensures ∙ c.if-not-kind_holds.false) (
    pass _ _ _ _ _ (sym c.above_zero.ensures ∙ c.if-not-above_zero.false) (
    pass _ _ _ _ _ (sym c.at_least_one.ensures ∙ c.if-not-at_least_one.false) (
    pass _ _ _ _ _ (le-leb _ _ c.if-chunk-lt1.false) (
    pass _ _ _ _ _ (sym c.is_ratio.ensures ∙ c.if-not-is_ratio.false) (
    pass _ _ _ _ _ (sym c.is_channels.ensures ∙ c.if-not-is_channels.false) (
    c.first_lengths.ensures ∙ ap first_lengths {y = fresh_state a.r a.m a.kind a.chunk a.channels a.fixed} (c.of.ensures ∙ c.fresh_state-fresh.ensures)))))))
