pub mod SampleTables
pub mod ShapeExamples
pub mod TableExamples
