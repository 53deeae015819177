-- The parameter record of the sinc side. Definitions only.
pub mod Parameters
