-- The first rungs of every call on a record: which of the two refusals it is, and what a call that went on knows. Assumes nothing.
use mathlib.Core.Bool.{Bool, true, false}
use mathlib.Core.List.{List, []}
use mathlib.Core.Path.{◌≡◌, refl, sym, ◌∙◌}
use native.Mathlib.Omega.{arith}
use Prim.Native.Nat.{ℕ}
use lib.Ieee.{Float}
use Rattle.std.specs.Prelude.{Result, Ok, Err, is_ok}
use Rattle.std.specs.Result.{IsErrAnd}
use Rattle.std.proofs.lemmas.Result.{err_from_is_err_and}
use Rattle.error.specs.Refusals.{Said, given, refused, unless, number_of, values_of, said_result}
use Rattle.error.proofs.Ladder.{pass, accepted, same_given}
use Rattle.error.specs.declared.Refusal.{Refusal}
use Rattle.kinds.specs.Kinds.{kind_holds}
use Rattle.state.specs.declared.State.{State}
use Rattle.state.specs.declared.measured.Tested.{Tested}
use Rattle.state.specs.Record.{is_state, checked}
use Rattle.state.specs.Checks.{said_checked}
use Rattle.state.proofs.Valid.{tests}

-- a record that passes the test is of a kind that passes its own
pub kind_of : (s : State) → is_state s ≡ true → kind_holds s.kind ≡ true
kind_of s h = (tests s h).0.kind

-- a record of another kind passes no test
pub other_kind : (s : State) → kind_holds s.kind ≡ false → false ≡ is_state s
unfolding is_state
other_kind s h = rw h

-- the record passes: the next rung decides
pub check_pass : {A : Type 0} (s : State) (next x : Said A) → is_state s ≡ true → x ≡ next → x ≡ checked s next
check_pass s next x h k = pass _ _ _ _ _ (kind_of s h) (pass _ _ _ _ _ h k)

-- a call that gives passed the test, and went on
pub check_accepted : {A : Type 0} (s : State) (next : Said A) (a : A) → checked s next ≡ given a → (is_state s ≡ true) × (next ≡ given a)
check_accepted s next a e = accepted (is_state s) 10 [] next a (accepted (kind_holds s.kind) 11 [] _ a e).1

-- what `state::check` answers with an `Ok`: the record passed, and is the one given
pub check_ok : (s : State) (t : Tested) → given t.state ≡ checked s (given s) → (is_state s ≡ true) × (t.state ≡ s)
check_ok s t e = let a = check_accepted s (given s) t.state (sym e) in (a.0, sym (same_given s t.state a.1))

-- and with an `Err`: the refusal of every call on the record
pub check_err : {A : Type 0} (s : State) (next : Said A) (r : Refusal) → refused (number_of r) (values_of r) ≡ checked s (given s) → refused (number_of r) (values_of r) ≡ checked s next
unfolding unless
check_err {A} s next r = go (kind_holds s.kind) (is_state s) (number_of r) (values_of r)
  where
    go : (k i : Bool) (n : ℕ) (vs : List Float) → refused n vs ≡ unless k 11 [] (unless i 10 [] (given s)) → refused n vs ≡ unless k 11 [] (unless i 10 [] next)
    go true true n vs e = absurd (let z : ◌≡◌ {A = ℕ} 0 1 = cc in omega arith)
    go true false n vs e = cc
    go false i n vs e = cc

-- the same, at the exit of a `?` on it
pub check_exit : {A : Type 0} (s : State) (next : Said A) (r : Result A Refusal) (e : Refusal) → IsErrAnd r (λ y. y ≡ e) → refused (number_of e) (values_of e) ≡ checked s (given s) → said_result r ≡ checked s next
check_exit s next r e a h = let p = err_from_is_err_and r a in rw (p.1, p.2) (check_err s next e h)

-- so an `Ok` says that the record passes
pub check_says : (s : State) (r : Result Tested Refusal) → said_checked r ≡ checked s (given s) → is_ok r ≡ is_state s
check_says s (Ok t) e = sym (check_ok s t e).0
check_says s (Err r) e = go (is_state s) refl
  where
    go : (b : Bool) → is_state s ≡ b → false ≡ b
    go true h = absurd (let k : refused (number_of r) (values_of r) ≡ given s = e ∙ sym (check_pass s (given s) (given s) h refl) in let z : ◌≡◌ {A = ℕ} 0 1 = cc in omega arith)
    go false h = refl

-- a rung of another number passed
pub rung : {A : Type 0} (b : Bool) (m n : ℕ) (us vs : List Float) (next : Said A) → (m ≡ n → ⊥) → unless b m us next ≡ refused n vs → (b ≡ true) × (next ≡ refused n vs)
unfolding unless
rung true m n us vs next ne e = (refl, e)
rung false m n us vs next ne e = absurd (ne cc)

-- a call refused with another number passed the test, and went on
pub check_else : {A : Type 0} (s : State) (next : Said A) (n : ℕ) (vs : List Float) → (11 ≡ n → ⊥) → (10 ≡ n → ⊥) → checked s next ≡ refused n vs → (is_state s ≡ true) × (next ≡ refused n vs)
check_else s next n vs not-11 not-10 e = rung (is_state s) 10 n [] vs next not-10 (rung (kind_holds s.kind) 11 n [] vs _ not-11 e).1
