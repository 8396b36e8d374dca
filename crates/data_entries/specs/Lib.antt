pub mod Forms
pub mod Nesting
