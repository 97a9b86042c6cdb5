-- Laws of this crate's proofs.
mod CommitLaws
pub mod ApprovalLaws
