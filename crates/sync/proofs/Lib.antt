-- Laws that the proofs of this crate cite, and those of `sync_tree`.
pub mod SyncLaws
mod FlatLaws
