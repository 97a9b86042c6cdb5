-- Laws of the runs that are written. The exported calls cite them.
pub mod RunLaws
pub mod StateLaws
pub mod SettleLaws
