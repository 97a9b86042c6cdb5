-- Laws of the runs that cross the boundary, which the code cites, and what the theorems cite.
pub mod StateLaws
pub mod LentLaws
pub mod HeldLaws
pub mod ExportedLaws
