-- Construction. Definitions only.
pub mod Construction
