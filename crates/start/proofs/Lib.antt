-- Laws of the start's loops, of the tables that they leave, and of its answers.
pub mod LoopLaws
pub mod TablesSet
pub mod StartLaws
