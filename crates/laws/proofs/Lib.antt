-- Laws about the definitions, each stated once. Code crates and the claim cite them.
pub mod QuestionLaws
pub mod StateLaws
pub mod BitLaws
pub mod TableLaws
pub mod PolicyLaws
pub mod VectorLaws
pub mod CallLaws
pub mod AskedLaws
pub mod TouchLaws
pub mod AcceptedLaws
pub mod SweepLaws
pub mod SwitchLaws
pub mod TreeLaws
pub mod SyncLaws
mod CacheLaws
pub mod DeviceLaws
