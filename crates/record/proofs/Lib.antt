-- Laws that the proofs of this crate cite.
mod ArrayLaws
mod WriteLaws
