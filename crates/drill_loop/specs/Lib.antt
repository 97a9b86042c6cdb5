-- The loop over the drill's calls.
pub mod Loop
