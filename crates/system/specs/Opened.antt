-- Which descriptors are of opened files. Definitions only.
use Rattle.std.specs.Prelude.{Bool, true, false}
use Rattle.system.specs.declared.fd.Fd.{Fd}
use Rattle.system.specs.declared.fd.Fd.TheVariants.{Input, Output, Error, File}

-- no standard stream
abbrev pub is_opened : Fd → Bool
is_opened Input = false
is_opened Output = false
is_opened Error = false
is_opened (File at) = true
