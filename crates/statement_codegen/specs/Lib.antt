pub mod StringCode
pub mod InspectCode
pub mod FileCode
pub mod SubjectCode
pub mod Operations
pub mod Filed
