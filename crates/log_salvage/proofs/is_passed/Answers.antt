-- `log_salvage::is_passed` meets its contract. Assumes nothing.
use Rattle.std.proofs.Common.{true, false, ◌||◌, leb, length, ◌-◌, ◌≡◌, sym, ap, ◌∙◌}
use Rattle.std.specs.Prelude.{is_some}
use Rattle.log_salvage.proofs.Steps.{passed_is}
use Rattle.log_salvage.proofs.is_passed.Goals as goal

pub returns-then-is_some : goal.returns-then-is_some
returns-then-is_some c = let a = c.args in
    passed_is a.part.now a.at a.last false (sym (ap is_some c.length_at.ensures.value) ∙ sym c.is_some.ensures ∙ c.if-is_some.true)

pub returns-then-last : goal.returns-then-last
returns-then-last c = let a = c.args in
    let e : true ≡ (a.last || leb 71 (length a.part.now - a.at)) = rw c.if-last.true in
    e ∙ passed_is a.part.now a.at a.last true (sym (ap is_some c.length_at.ensures.value) ∙ sym c.is_some.ensures ∙ c.if-is_some.false)

pub returns : goal.returns
returns c = let a = c.args in
    let e : leb 71 (length a.part.now - a.at) ≡ (a.last || leb 71 (length a.part.now - a.at)) = rw c.if-last.false in
    e ∙ passed_is a.part.now a.at a.last true (sym (ap is_some c.length_at.ensures.value) ∙ sym c.is_some.ensures ∙ c.if-is_some.false)
