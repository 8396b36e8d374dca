pub mod FoundDescription
pub mod KeyOrder
pub mod KeptClauses
pub mod NumberedItems
pub mod SameFile
pub mod SourceData
