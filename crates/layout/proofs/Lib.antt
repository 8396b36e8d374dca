pub mod Agreement
pub mod Kept
pub mod KeptFiles
pub mod Trees
