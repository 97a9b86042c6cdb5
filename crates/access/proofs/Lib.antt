-- Laws that the proofs of this crate cite.
pub mod CommonLaws
pub mod FetchLaws
pub mod WriteLaws
