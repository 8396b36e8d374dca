pub mod Faults
pub mod Trees
pub mod Stages
pub mod Images
pub use Rattle.source_tree.specs.Meaning
