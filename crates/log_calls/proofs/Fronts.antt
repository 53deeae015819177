-- A payload put part after part, and the record of a payload. Assumes nothing.
use mathlib.Core.List.{List, [], ◌++◌, append-nil}
use mathlib.Core.Path.{◌≡◌, refl, sym, ap, ◌∙◌, subst}
use Prim.Native.Nat.{ℕ, ◌+◌, ◌≤◌}
use native.Mathlib.Omega.{arith}
use lib.ListN.{length, take, drop, length-append, drop_of_length-le}
use lib.Seq.{paste, take_at, drop-append-add, drop-drop, take_all}
use Rattle.std.specs.Prelude.{Result}
use Rattle.samples.specs.Samples.{bytes_from}
use Rattle.samples.proofs.Bytes.{length_bytes}
use Rattle.log_writer.specs.Writer.{said_put, put_said, put_area}
use Rattle.log_writer.specs.declared.Refused.{Refused}

-- x is d with the n bytes of w at its front
pub record Front (d w x : List ℕ) (n : ℕ) : Type 0 where
  pub long : length w ≡ n
  pub is : x ≡ w ++ drop n d

pub front_none : (d : List ℕ) → Front d [] d 0
front_none d = record { long = refl; is = refl }

-- m bytes of a number behind them
pub front_next : (d w x y : List ℕ) (n v m : ℕ) → Front d w x n → y ≡ paste x n (bytes_from v 0 m) m → Front d (w ++ bytes_from v 0 m) y (n + m)
front_next d w x y n v m f e =
    let t = bytes_from v 0 m in
    let l : length t ≡ m = length_bytes v 0 m in
    record {
      long = length-append w t ∙ ap (λ (i : ℕ). i + length t) f.long ∙ ap (λ (i : ℕ). n + i) l;
      is =
          e ∙ ap (λ (q : List ℕ). take n q ++ take m t ++ drop (n + m) q) f.is
          ∙ ap (λ (q : List ℕ). q ++ take m t ++ drop (n + m) (w ++ drop n d)) (take_at w (drop n d) n f.long)
          ∙ ap (λ (q : List ℕ). w ++ q ++ drop (n + m) (w ++ drop n d)) (take_all m t (omega arith))
          ∙ ap (λ (i : ℕ). w ++ t ++ drop (i + m) (w ++ drop n d)) (sym f.long)
          ∙ ap (λ (q : List ℕ). w ++ t ++ q) (drop-append-add w (drop n d) m ∙ drop-drop m n d);
    }

pub front_done : (d w x : List ℕ) (n : ℕ) → Front d w x n → length d ≤ n → x ≡ w
front_done d w x n f h = f.is ∙ ap (λ (q : List ℕ). w ++ q) (drop_of_length-le d h) ∙ append-nil w

-- a record of these bytes is one of those that they are
pub of_payload : (kind : ℕ) (p payload out : List ℕ) (r : Result ℕ Refused) (z : List ℕ) → p ≡ payload → (said_put r ≡ put_said kind p (length out)) × (z ≡ put_area kind p out)
    → (said_put r ≡ put_said kind payload (length out)) × (z ≡ put_area kind payload out)
of_payload kind p payload out r z e h = subst (λ (q : List ℕ). (said_put r ≡ put_said kind q (length out)) × (z ≡ put_area kind q out)) e h
