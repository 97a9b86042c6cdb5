-- The proof of the claim: what is always true of a page and of the guard, that every call keeps it, and the induction on the list.
pub mod KindLaws
pub mod TermLaws
pub mod PageLaws
pub mod Invariant
pub mod CommuteLaws
pub mod SafeLaws
pub mod StartLaws
pub mod ListLaws
pub mod AlongLaws
pub mod HistoryLaws
mod CommittingLaws
mod ConsequenceLaws
mod TameLaws
mod InstalledLaws
