-- Laws that the proofs of this crate cite, and those of `boundary_sync` and `boundary_start`.
pub mod BoundaryLaws
