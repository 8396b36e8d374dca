-- What is named
pub mod NamedItems
pub mod OneNamed
pub mod FilingKept
-- Arithmetic and INSPECT
pub mod Operations
pub mod InspectKept
pub mod InspectLists
pub mod InspectMaking
-- The subjects of EVALUATE
pub mod SubjectFaults
pub mod OperandOrder
pub mod SubjectLooks
