-- Laws of this crate's proofs, and what those of `sync_tree` cite.
mod OrderLaws
pub mod BitLaws
mod WalkLaws
mod DownLaws
