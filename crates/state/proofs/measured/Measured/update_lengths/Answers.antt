-- `Measured::update_lengths` meets its contract: refusal 6 in its three places, then the record put together. Assumes nothing.
use Rattle.std.proofs.Common.{sym, ◌∙◌, ap}
use Rattle.std.proofs.lemmas.Result.{err_from_is_err_and}
use Rattle.sizes.specs.Sizes.{size_at_least}
use Rattle.state.proofs.Ends.{refused_with, no_input, no_output, too_long, end_given}
use Rattle.state.proofs.measured.Measured.update_lengths.Goals as goal

pub returns-in_err-input : goal.returns-in_err-input
returns-in_err-input c =
    let p = err_from_is_err_and c.from_residual.result c.from_residual.ensures.1 in
    let e = c.in_err-input.ensures in
    rw (p.1, p.2, refused_with e.value e.ok_part) (no_input _ (sym c.input_of.ensures ∙ e.ok_part))

pub returns-in_err-output : goal.returns-in_err-output
returns-in_err-output c =
    let p = err_from_is_err_and c.from_residual-in_err-output.result c.from_residual-in_err-output.ensures.1 in
    let e = c.in_err-output.ensures in
    rw (p.1, p.2, refused_with e.value e.ok_part) (no_output _ (sym c.input_of.ensures ∙ c.in_ok-input.ensures.ok_part) (sym c.output.ensures ∙ e.ok_part))

pub returns-then-not-size_holds : goal.returns-then-not-size_holds
returns-then-not-size_holds c =
    too_long _ (sym c.input_of.ensures ∙ c.in_ok-input.ensures.ok_part) (sym c.output.ensures ∙ c.in_ok-output.ensures.ok_part)
    (ap (λ m. size_at_least m c.in_ok-input.input) (sym c.args.self.most_is) ∙ sym c.size_holds.ensures ∙ c.if-not-size_holds.true)

pub returns : goal.returns
returns c =
    end_given _ (sym c.input_of.ensures ∙ c.in_ok-input.ensures.ok_part) (sym c.output.ensures ∙ c.in_ok-output.ensures.ok_part)
    (ap (λ m. size_at_least m c.in_ok-input.input) (sym c.args.self.most_is) ∙ sym c.size_holds.ensures ∙ c.if-not-size_holds.false)
