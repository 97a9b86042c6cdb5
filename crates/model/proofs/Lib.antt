-- What the rows need: every definition opened by one name, and that a table holds where its rows compute.
pub mod Computed
pub mod CaseLaws
