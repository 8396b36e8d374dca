pub mod Exact
pub mod Past
pub mod Numbers
