pub mod Report
pub mod Check
pub mod Layout
