pub mod Marking
mod Walking
mod Checking
mod LevelReads
mod Descending
