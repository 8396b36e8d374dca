-- Moments of calls, and what they keep
pub mod Spans
pub mod Calls
-- What a crash leaves
pub mod Crash
pub mod Changes
pub mod Opens
-- Sectors written so that they are durable
pub mod Writes
pub mod TwoPhase
mod Moments
-- A station in memory: its record of calls
pub mod Replay
pub mod Events
pub mod Lines
-- A station in memory: the image that a crash leaves by choice
pub mod Choices
pub mod Images
pub mod Restart
-- Definitions on small cases
pub mod Examples
