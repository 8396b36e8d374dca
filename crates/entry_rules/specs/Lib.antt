pub mod Checks
pub mod Described
pub mod Walk
pub mod Own
pub mod Trees
pub mod Ranges
pub mod Areas
pub mod RecordAreas
