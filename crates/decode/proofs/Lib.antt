-- Laws of the runs. The exported calls cite them.
pub mod WordLaws
