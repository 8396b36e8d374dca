pub mod Inverted
pub mod Hidden
pub mod Refusals
pub mod Moments
pub mod Laws
pub mod DeviceLaws
