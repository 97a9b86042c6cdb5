-- Laws of this crate's proofs. A crate above cites those of kernel entries taken apart.
pub mod ApartLaws
mod MapsLaws
