-- What the functions of the drill give, as the definitions of `drill_model` have it.
pub mod Turns
