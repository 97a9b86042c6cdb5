-- What the theorems about the record that is written cite, and the laws that the code cites.
pub mod Computed
pub mod RecordLaws
