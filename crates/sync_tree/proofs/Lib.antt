-- Laws of this crate's proofs.
mod RunLaws
mod AloneLaws
mod SourceLaws
mod TreeLaws
mod TableLaws
