pub mod Numbers
pub mod Nesting
pub mod Told
pub mod TreeRules
pub mod Digits
pub mod Forms
