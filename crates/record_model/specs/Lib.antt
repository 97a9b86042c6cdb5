-- The definitions of document 02, K2: the record that a call writes, and its rows.
pub mod Record
pub mod RecordCases
