pub mod Parts
pub mod Books
