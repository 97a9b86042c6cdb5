-- The law of the loop that the drill's program cites.
pub mod LoopLaws
