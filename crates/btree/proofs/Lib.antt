pub mod Order
pub mod Levels
pub mod Ways
pub mod Depth
pub mod One
pub mod Found
pub mod Descents
pub mod Searches
pub mod Answering
pub mod Nearby
pub mod Descending
pub mod Finding
pub mod Firsts
pub mod TreeNodes
pub mod Frames
pub mod Keyed
pub mod Runs
pub mod Shifts
pub mod Splices
pub mod Steps
pub mod Entered
pub mod Propagating
pub mod NewRoots
pub mod Writes
pub mod SplitNodes
pub mod ChangedPages
pub mod ParentUpdates
pub mod Upward
pub mod Settling
pub mod Inserting
pub mod InPlace
pub mod Entering
pub mod Valued
pub mod Revalued
pub mod ValuedInPlace
pub mod Refused
pub mod Lessening
pub mod Sharing
pub mod Rebalancing
pub mod Pairing
pub mod Filling
pub mod Shrinking
pub mod Pairs
pub mod Rebalanced
pub mod Downward
pub mod Collapsing
pub mod Removing
pub mod Clearing
pub mod Stays
pub mod There
pub mod Stepping
pub mod Passing
pub mod Ascending
pub mod Building
pub mod Counting
pub mod NeighbourCalls
pub mod ReadMaps
pub mod ShrinkCalls
pub mod JoinedPairs
pub mod RemovalCalls
pub mod ReplaceCalls
pub mod CountCalls
pub mod DescentCalls
pub mod ParentCalls
pub mod EditedPages
mod Examples
mod Changing
mod Children
mod ClearedLevels
mod NamedTrees
mod PageReads
mod PlacedLeaves
mod PutTwo
mod SmallMaps
mod StepsUp
mod TwoRows
