-- Pieces of code, one after the other
pub mod Fragments
pub mod Works
pub mod Sequences
pub mod Meeting
pub mod WaysMet
mod WayEnds
-- What keeps the rules
pub mod Lists
pub mod Kept
pub mod Integers
pub mod Setting
-- References, and what is put into items
pub mod ItemParts
pub mod PlacedItems
pub mod Subscripts
mod PushedItems
pub mod ReferencePieces
pub mod ConditionItems
pub mod ConditionValues
pub mod ConditionNames
pub mod NewBytes
pub mod PartBytes
-- Expressions and conditions
pub mod ExpressionForms
pub mod ConditionLayers
pub mod Sides
mod RelationPieces
pub mod EvaluateKept
pub mod Questions
pub mod AskedPairs
