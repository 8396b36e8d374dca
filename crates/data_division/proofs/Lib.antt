pub mod Exact
pub mod Formless
pub mod Examples
