-- Laws that the proofs of this crate cite.
mod StartLaws
mod RecordLaws
mod WalkLaws
