-- Pieces of a block, read one behind the other. Assumes nothing.
use mathlib.Core.Bool.{Bool, true, false, cond, ◌&&◌, not, true≢false}
use mathlib.Core.List.{List}
use mathlib.Core.Path.{◌≡◌, refl, sym, ap, ◌∙◌}
use Prim.Native.Nat.{ℕ, ◌+◌, ◌-◌, ◌*◌, ◌/◌, ◌%◌, ◌<◌, ◌≤◌, min}
use native.Mathlib.Omega.{arith}
use borrow.Author.Tests.{ltb-true, ltb-false}
use lib.Dec.{ltb}
use lib.Ieee.{Float}
use lib.ListN.{get_or}
use Rattle.samples.specs.Frames.{spread_to}
use Rattle.samples.proofs.Places.{spread_others}
use Rattle.blocks.specs.Blocks.{OthersStay, PieceRead, PiecesRead}

-- what a piece reads: `count` of the bytes that it wants
pub piece_read : (size channels share most done want count n : ℕ) (bs : List ℕ) (w v : List Float) → want ≡ min (size / 8) (most - done) → done ≤ most → count ≤ 8 * want → n ≡ count / 8
    → v ≡ spread_to channels share done bs w n → PieceRead size channels share most done w v (done + n) (count % 8) (ltb count (8 * want))
piece_read size channels share most done want count n bs w v e d c m s = record {
  low = omega arith;
  high = omega arith;
  broken = omega arith;
  whole = λ o. let all = ltb-false count (8 * want) o in (omega arith, omega arith);
  stays = λ p z apart. ap (λ (x : List Float). get_or x p z) s ∙ spread_others channels share done bs w n p z apart;
}

-- ---- reading on: v is w with `samples` samples
pub record Reads (channels share most done : ℕ) (over : Bool) (w v : List Float) (samples rest : ℕ) (ended : Bool) : Type 0 where
  pub low : done ≤ samples
  pub high : samples ≤ most
  pub broken : rest < 8
  pub left : ended ≡ false → rest ≡ 0
  pub none : over ≡ true → (ended ≡ true) × (samples ≡ done) × (rest ≡ 0)
  pub stays : OthersStay channels share done samples w v

pub reads_none : (channels share most done : ℕ) (over : Bool) (w : List Float) → done ≤ most → Reads channels share most done over w w done 0 over
reads_none channels share most done over w h = record {
  low = omega arith;
  high = h;
  broken = omega arith;
  left = λ o. refl;
  none = λ o. (o, refl, refl);
  stays = λ p z apart. refl;
}

more_of : (a : Bool) (s most : ℕ) → (not a && ltb s most) ≡ true → (a ≡ false) × (s < most)
more_of true s most e = (sym e, absurd (true≢false (sym e)))
more_of false s most e = (refl, ltb-true s most e)

no_more_of : (a : Bool) (s most : ℕ) → (not a && ltb s most) ≡ false → a ≡ false → most ≤ s
no_more_of true s most e f = absurd (true≢false f)
no_more_of false s most e f = ltb-false s most e

module _ (channels share most done : ℕ) (over : Bool) (w v : List Float) (s rest : ℕ) (a : Bool) (r : Reads channels share most done over w v s rest a) where
  module _ (size : ℕ) (v' : List Float) (s' rest' : ℕ) (a' : Bool) (e : (not a && ltb s most) ≡ true) (room : 8 ≤ size) (p : PieceRead size channels share most s v v' s' rest' a') where
    pub reads_next : Reads channels share most done over w v' s' rest' a'
    reads_next =
        let m = more_of a s most e in
        record {
          low = omega (arith, r.low, p.low);
          high = omega (arith, p.high);
          broken = p.broken;
          left = λ o. (p.whole o).1;
          none = λ o. absurd (true≢false (sym (r.none o).0 ∙ m.0));
          stays = λ q z apart. p.stays q z (λ k l h. apart k (omega (arith, r.low)) h) ∙ r.stays q z (λ k l h. apart k l (omega (arith, p.low)));
        }

    -- a turn reads a sample or more, or finds the end
    pub reads_less : most - s' + cond a' 0 1 < most - s + cond a 0 1
    reads_less = let m = more_of a s most e in rw m.0 (go a' refl)
      where
        go : (t : Bool) → a' ≡ t → most - s' + cond t 0 1 < most - s + 1
        go true f = omega (arith, p.low)
        go false f = omega (arith, (p.whole f).0, (more_of a s most e).1)

  pub reads_over : (not a && ltb s most) ≡ false → PiecesRead channels share most done over w v s rest a
  reads_over e = record {
    low = r.low;
    high = r.high;
    broken = r.broken;
    whole = λ o. (omega (arith, no_more_of a s most e o, r.high), r.left o);
    none = r.none;
    stays = r.stays;
  }

-- their number by another name
pub pieces_as : (channels share most most' done : ℕ) (over : Bool) (w v : List Float) (s rest : ℕ) (a : Bool) → most ≡ most' → PiecesRead channels share most done over w v s rest a
    → PiecesRead channels share most' done over w v s rest a
pieces_as channels share most most' done over w v s rest a e p = rw (sym e) p
