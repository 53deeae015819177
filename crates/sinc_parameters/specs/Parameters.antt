-- Document 01, "What is ported": the parameter record, and its "chained setters, each handing back the whole record with one field changed". Definitions only.
use Rattle.std.specs.Prelude.{ℕ, Float}
use Rattle.windows.specs.declared.WindowFunction.{WindowFunction}
use Rattle.windows.specs.declared.WindowFunction.TheVariants.{BlackmanHarris2}
use Rattle.sinc_parameters.specs.declared.Cutoff.TheVariants.{Auto, At}
use Rattle.asynchro_sinc.specs.declared.SincInterpolationType.{SincInterpolationType}
use Rattle.asynchro_sinc.specs.declared.SincInterpolationType.TheVariants.{Cubic}
use Rattle.sinc_parameters.specs.declared.SincInterpolationParameters.{SincInterpolationParameters}

-- the two that shape the filter are given; the cutoff is left automatic, the oversampling factor is 128, the interpolation cubic
abbrev pub new_of : ℕ → WindowFunction → SincInterpolationParameters
new_of n w =
    record {
      sinc_len = n;
      f_cutoff = Auto;
      oversampling_factor = 128;
      interpolation = Cubic;
      window = w;
    }

-- 256 points under the squared Blackman-Harris window
abbrev pub default_of : SincInterpolationParameters
default_of = new_of 256 BlackmanHarris2

abbrev pub with_sinc_len : SincInterpolationParameters → ℕ → SincInterpolationParameters
with_sinc_len p n = record { sinc_len = n; f_cutoff = p.f_cutoff; oversampling_factor = p.oversampling_factor; interpolation = p.interpolation; window = p.window }

abbrev pub with_window : SincInterpolationParameters → WindowFunction → SincInterpolationParameters
with_window p w = record { sinc_len = p.sinc_len; f_cutoff = p.f_cutoff; oversampling_factor = p.oversampling_factor; interpolation = p.interpolation; window = w }

-- a number given takes the place of the automatic choice
abbrev pub with_cutoff : SincInterpolationParameters → Float → SincInterpolationParameters
with_cutoff p x = record { sinc_len = p.sinc_len; f_cutoff = At x; oversampling_factor = p.oversampling_factor; interpolation = p.interpolation; window = p.window }

abbrev pub with_factor : SincInterpolationParameters → ℕ → SincInterpolationParameters
with_factor p n = record { sinc_len = p.sinc_len; f_cutoff = p.f_cutoff; oversampling_factor = n; interpolation = p.interpolation; window = p.window }

abbrev pub with_interpolation : SincInterpolationParameters → SincInterpolationType → SincInterpolationParameters
with_interpolation p k = record { sinc_len = p.sinc_len; f_cutoff = p.f_cutoff; oversampling_factor = p.oversampling_factor; interpolation = k; window = p.window }
