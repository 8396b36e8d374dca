pub mod Bodies
pub mod Environments
pub mod SectionLists
pub mod Programs
pub mod Examples
pub mod FileExamples
