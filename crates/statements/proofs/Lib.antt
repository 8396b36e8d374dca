mod Standing
mod Except
mod StatementLists
mod Objects
mod ReceiverLists
mod FilePhrases
mod Verbs
mod Lines
pub mod Depth
