-- The bytes of an image: how each part is read and spelled
pub mod Forms
pub mod Images
mod InstructionKinds
mod Shapes
pub mod Soundness
pub mod Completeness
-- The machine's table: what stands where, what is known there, one end of a run, and that there is one
pub mod WellFormed
pub mod Standing
pub mod Paragraphs
pub mod Exclusion
pub mod Determinism
pub mod Termination
-- Code without files tells no status
pub mod Quiet
-- Definitions on small cases
pub mod Examples
