-- Document 01, "Grid points", last paragraph: the cutoff of a window at a number of points. Definitions only.
-- A constant is given by its bit pattern, as the code has it; proofs/Rows.antt says which decimal each is.
use Rattle.std.specs.Prelude.{ℕ, ◌&&◌, List, [], ◌∷◌, get_or, from_bits, nat_le, slice_index_or, Float}
use Rattle.std.specs.Float.{binary64, nan}
use Rattle.exact.specs.Doubles.{◌+f◌, ◌*f◌, ◌/f◌, count, one_f}
use Rattle.error.specs.Refusals.{Said, given, unless}
use Rattle.windows.specs.declared.WindowFunction.{WindowFunction}
use Rattle.windows.specs.declared.WindowFunction.TheVariants.{Blackman, Blackman2, BlackmanHarris, BlackmanHarris2, Hann, Hann2}

-- the place of a window's row
abbrev pub row_of : WindowFunction → ℕ
row_of Blackman = 0
row_of Blackman2 = 1
row_of BlackmanHarris = 2
row_of BlackmanHarris2 = 3
row_of Hann = 4
row_of Hann2 = 5

-- "six rows of three constants from src/windows.rs": k1, k2, k3 of each window
abbrev pub cutoff_rows : List (List Float)
cutoff_rows =
    -- Blackman: 6.159598046201173, 18.926415097606878, 653.4247430458968
    (from_bits binary64 0x4018_a36d_ab93_c215 ∷ from_bits binary64 0x4032_ed29_8a32_be00 ∷ from_bits binary64 0x4084_6b65_dfae_9aa4 ∷ []) ∷
    -- Blackman2: 9.506235102129398, 79.13120634953742, 1502.2316160588925
    (from_bits binary64 0x4023_0331_3f4f_774a ∷ from_bits binary64 0x4053_c865_af51_129c ∷ from_bits binary64 0x4097_78ed_2cc2_98b0 ∷ []) ∷
    -- BlackmanHarris: 8.041443677716476, 55.9506779343387, 898.0287985384213
    (from_bits binary64 0x4020_1538_1b10_d622 ∷ from_bits binary64 0x404b_f9af_d086_81bc ∷ from_bits binary64 0x408c_103a_faba_6589 ∷ []) ∷
    -- BlackmanHarris2: 13.745202940783823, 121.73532586374934, 5964.163279612051
    (from_bits binary64 0x402b_7d8b_3d67_195e ∷ from_bits binary64 0x405e_6f0f_9436_2d35 ∷ from_bits binary64 0x40b7_4c29_ccb1_51dd ∷ []) ∷
    -- Hann: 3.3481080887677166, 10.106519434875038, 78.96345249024414
    (from_bits binary64 0x400a_c8ec_e4c5_d7e0 ∷ from_bits binary64 0x4024_3689_b722_5a77 ∷ from_bits binary64 0x4053_bda9_34a2_364b ∷ []) ∷
    -- Hann2: 5.38751148378734, 29.69451915489501, 184.82117462266237
    (from_bits binary64 0x4015_8ccf_cf76_c3a5 ∷ from_bits binary64 0x403d_b1cc_01e0_b839 ∷ from_bits binary64 0x4067_1a47_1000_947b ∷ []) ∷
    []

-- "1/(k1/n + k2/(n*n) + k3/(n*n*n) + 1)", of a row k1, k2, k3 and the number of points n as a double
abbrev pub cutoff_by : List Float → Float → Float
cutoff_by k n = one_f /f (slice_index_or k 0 nan /f n +f get_or k 1 nan /f (n *f n) +f get_or k 2 nan /f (n *f n *f n) +f one_f)

unfoldable pub cutoff_of : ℕ → WindowFunction → Float
cutoff_of n w = cutoff_by (slice_index_or cutoff_rows (row_of w) []) (count n)

-- "Cutoff takes 1 to 65,536 points, else 11"
abbrev pub cutoff_said : ℕ → WindowFunction → Said Float
cutoff_said n w = unless (nat_le 1 n && nat_le n 65536) 11 [] (given (cutoff_of n w))
