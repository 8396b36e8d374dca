pub mod Bytes
pub mod RowLayouts
pub mod Keys
pub mod Node
pub mod Searches
pub mod Edits
pub mod Laws
