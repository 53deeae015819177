-- The one end of every call: refusal 6 in its three places, and the record put together. Assumes nothing.
use Rattle.std.specs.Prelude.{◌≡◌, ℕ, false, true, [], Option, Some, None, Err, ok_or}
use Rattle.error.specs.Refusals.{given, refused, unless}
use Rattle.sizes.specs.Sizes.{size_at_least}
use Rattle.state.specs.declared.State.{State}
use Rattle.state.specs.Record.{max_input_of, input_of, output_of, with_sizes, update_lengths}

-- the refusal that no size is answered with
pub refused_with : {A E : Type 0} {z : Option A} {d e : E} → Err d ≡ ok_or z e → z ≡ None → d ≡ e
refused_with {A} {E} {z} {d} {e} h n = let k : Err d ≡ ok_or {T = A} {E = E} None e = rw n at h in cc

module _ (s : State) where
  pub no_input : input_of s ≡ None → refused 6 [] ≡ update_lengths s
  unfolding update_lengths unless
  no_input i = rw i

  module _ {n : ℕ} (i : input_of s ≡ Some n) where
    pub no_output : output_of s ≡ None → refused 6 [] ≡ update_lengths s
    unfolding update_lengths unless
    no_output o = rw (i, o)

    module _ {k : ℕ} (o : output_of s ≡ Some k) where
      pub too_long : size_at_least (max_input_of s) n ≡ false → refused 6 [] ≡ update_lengths s
      unfolding update_lengths unless
      too_long h = rw (i, o, h)

      pub end_given : size_at_least (max_input_of s) n ≡ true → given (with_sizes s n k) ≡ update_lengths s
      unfolding update_lengths unless
      end_given h = rw (i, o, h)
