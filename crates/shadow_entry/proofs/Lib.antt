-- Laws of this crate's proofs.
mod OrdinaryLaws
mod SwitchLaws
