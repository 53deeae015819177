-- What is said in document 01's words settles the outcome. Assumes nothing.
use Rattle.std.specs.Prelude.{◌≡◌}
use Rattle.std.proofs.Common.{ap, ◌∙◌}
use Rattle.error.proofs.Settled.{result_settled}
use Rattle.asynchro.specs.declared.Outcome.{Outcome}
use Rattle.asynchro.specs.Calls.{Left, result_of}

-- two outcomes allowed by one promise are equal
pub outcome_settled : {A : Type 0} (o p : Outcome A) → result_of o ≡ result_of p → o ≡ p
outcome_settled {A} o p e =
    ap (λ d. record { state = o.state; answer = d }) (result_settled o.answer p.answer (ap (λ (r : Left A). r.said) e))
    ∙ ap (λ s. record { state = s; answer = p.answer }) (ap (λ (r : Left A). r.state) e)
