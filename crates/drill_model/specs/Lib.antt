-- The definitions of document 01, "The drill program", as the requests of document 02 have changed them, and their rows.
pub mod Drill
pub mod Share
pub mod Worked
pub mod DrillCases
