-- Where q lies, for a t below 2 ^ 52 in size: what the casts to whole numbers ask, and how far the start can be. Assumes nothing.
use Rattle.std.proofs.Common.{◌≡◌, ℕ, ◌+◌, ◌^◌, ◌≤◌, Bool, true, false, T, ℤ, pos, nat_abs, sym, ap, ◌∙◌, subst, arith, w64, to_z, of_z}
use lib.Ieee.{Float, fin, binary64, low, fits, lt, le, to_signed, to_unsigned}
use mir.ValLaws.{to_z-of_z}
use Rattle.exact.specs.Doubles.{count, ◌*f◌}
use Rattle.exact.specs.Whole.{Whole, ◌⊙◌, Same, AtMost, Below}
use Rattle.exact.specs.Exact.{exact, Number}
use Rattle.exact.specs.Integers.{pair_of}
use Rattle.whole.specs.Rounded.{floor_of, split_of}
use Rattle.whole.specs.declared.Parts.{Parts}
use Rattle.whole.proofs.Casts.{abs_fits}
use Rattle.whole.proofs.Small.{small_number, floor_cast, floor_value}
use Rattle.whole.proofs.Splits.{split_frac}
use Rattle.interpolation.specs.Grid.{in_range}
use Rattle.interpolation.specs.Steps.{inner_of, whole_by, begin_of, Ready}
use Rattle.interpolation.specs.declared.Inner.{Inner}
use Rattle.interpolation.specs.declared.Start.{Start}
use Rattle.interpolation.proofs.Range.{in_range_lem}
use Rattle.interpolation.proofs.Product.{UpTo, WholeUpTo, product_up_to, floor_whole, round_whole_up_to, whole_cast, whole_value}

abbrev inner : ℤ → Float → Inner
inner i p = record { index = i; product = p }

abbrev start : ℤ → ℕ → Start
start i k = record { index = i; parts = k }

up_to_one : (U : ℕ) (v : Whole) → AtMost (0, 0) v → AtMost v (U, 0) → UpTo U 1 v
up_to_one U v h k = record { at_least = h; at_most = omega arith }

module _ (t : Float) (factor : ℕ) (f : T (fits binary64 t)) (h : in_range 1 t factor ≡ true) where
  number : Number binary64 t × Below (2 ^ (52 + low binary64)) (exact binary64 t)
  number = small_number t f (in_range_lem 1 t factor h).0

  pub cast : T (le (fin true 1 (pos 63)) (floor_of t)) × T (lt (floor_of t) (fin false 1 (pos 63))) × (nat_abs (to_signed 63 (floor_of t)) ≤ 4503599627370496)
  cast = floor_cast t f (in_range_lem 1 t factor h).0

  -- nothing is cut: the index is the value of floor(t)
  pub index_value : Same (exact binary64 (split_of t).floor) (2 ^ low binary64 ⊙ pair_of (inner_of t factor).index)
  index_value = floor_value t f (in_range_lem 1 t factor h).0

  -- the inner product lies from 0 to the factor
  pub inner_up_to : Number binary64 (inner_of t factor).product × UpTo (2 ^ low binary64) factor (exact binary64 (inner_of t factor).product)
  inner_up_to =
      let r = split_frac t number.0 in
      product_up_to factor (split_of t).frac (in_range_lem 1 t factor h).2 r.number (up_to_one (2 ^ low binary64) (exact binary64 (split_of t).frac) r.at_least r.at_most)

  -- what the machine has is what the definition says
  index_back : (i : ℤ) → i ≡ (inner_of t factor).index → to_z w64 (of_z w64 i) ≡ (inner_of t factor).index
  index_back i e = ap (λ (z : ℤ). to_z w64 (of_z w64 z)) e ∙ to_z-of_z w64 (inner_of t factor).index (abs_fits (inner_of t factor).index (omega (arith, cast.2)))

  pub inner_is : (s : Parts) (i : ℤ) (n : Float) → s ≡ split_of t → i ≡ to_signed 63 s.floor → n ≡ count factor → inner (to_z w64 (of_z w64 i)) (s.frac *f n) ≡ inner_of t factor
  inner_is s i n p q r =
      ap (λ (z : ℤ). inner z (s.frac *f n)) (index_back i (q ∙ ap (λ (s : Parts). to_signed 63 s.floor) p))
      ∙ ap (λ (s : Parts). inner (inner_of t factor).index (s.frac *f n)) p
      ∙ ap (λ (n : Float). inner (inner_of t factor).index ((split_of t).frac *f n)) r

  -- the inner product made a whole number, either way
  product_whole : (nearest : Bool) → WholeUpTo factor (whole_by nearest (inner_of t factor).product)
  product_whole true = round_whole_up_to factor (inner_of t factor).product (in_range_lem 1 t factor h).2 inner_up_to.0 inner_up_to.1
  product_whole false = floor_whole factor (inner_of t factor).product (in_range_lem 1 t factor h).2 inner_up_to.0 inner_up_to.1

  -- nothing is cut: the parts are the value of what was made
  pub parts_value : (nearest : Bool) → Same (exact binary64 (whole_by nearest (inner_of t factor).product)) (2 ^ low binary64 ⊙ ((begin_of (whole_by nearest) t factor).parts, 0))
  parts_value nearest = whole_value factor (whole_by nearest (inner_of t factor).product) (product_whole nearest)

  -- x is what is made of it
  module _ (nearest : Bool) (i : Inner) (x : Float) (p : i ≡ inner_of t factor) (q : x ≡ whole_by nearest i.product) where
    whole_is : x ≡ whole_by nearest (inner_of t factor).product
    whole_is = q ∙ ap (λ (i : Inner). whole_by nearest i.product) p

    pub start_cast : T (lt (fin true 1 (pos 0)) x) × T (lt x (fin false 1 (pos 64)))
    start_cast =
        let c = whole_cast factor (whole_by nearest (inner_of t factor).product) (product_whole nearest) in
        rw whole_is (c.0, c.1)

    pub start_is : (k : ℕ) → k ≡ to_unsigned 64 x
        → (start (to_z w64 (of_z w64 i.index)) k ≡ begin_of (whole_by nearest) t factor) × Ready factor (start (to_z w64 (of_z w64 i.index)) k)
    start_is k r =
        let c = whole_cast factor (whole_by nearest (inner_of t factor).product) (product_whole nearest) in
        let e = ap (λ (z : ℤ). start z k) (index_back i.index (ap (λ (i : Inner). i.index) p)) ∙ ap (start (inner_of t factor).index) (r ∙ ap (to_unsigned 64) whole_is) in
        (e, subst (Ready factor) (sym e) (cast.2, c.2, (in_range_lem 1 t factor h).1, (in_range_lem 1 t factor h).2))
