pub mod Sources
pub mod Clauses
pub mod Keys
pub mod Descriptions
pub mod Files
