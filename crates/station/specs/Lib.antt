-- Devices and stations
pub mod Disk
pub mod State
pub mod History
pub mod Failures
pub mod Calls
-- Words of what stays, and of what a crash leaves
pub mod SectorBytes
pub mod Blocks
pub mod Opening
pub mod Changes
-- A station in memory
pub mod Replay
pub mod Journal
pub mod Memory
pub mod Choice
pub mod Trace
pub mod Plan
-- That a station in memory keeps the laws of `Device`: its ghost members are these proofs, and they cite specs/ alone
pub mod Sectors
pub mod Possible
pub mod Newest
