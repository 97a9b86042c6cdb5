-- What the promises between the functions of this crate say.
pub mod EntryQuestions
