-- Laws of the policy record that this crate and the start cite.
pub mod RecordLaws
