pub mod LensLaws
pub mod ValidLaws
pub mod Sizes
