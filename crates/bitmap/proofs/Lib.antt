-- Laws of this crate's proofs.
mod BitmapLaws
mod RangeLaws
