-- What a call on a state is lent.
pub mod Lent
