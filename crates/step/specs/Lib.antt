-- What the promises of this crate and of the synchronisations say of a page.
pub mod Steps
