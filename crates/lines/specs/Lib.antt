-- The bytes of the lines.
pub mod Text
