-- What the loops of the start have done to a table.
pub mod Start
