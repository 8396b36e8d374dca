pub mod Inversion
pub mod Hiding
pub mod RootMoments
pub mod NoRoots
mod Examples
