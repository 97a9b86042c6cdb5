-- What this crate's contracts cite beside the model's definitions.
pub mod Runs
