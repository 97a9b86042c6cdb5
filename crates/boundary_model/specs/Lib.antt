-- The runs of words that cross the boundary, what the exported calls promise, and cases of it.
pub mod Words
pub mod Boundary
pub mod ExportCases
pub mod ExportedLists
