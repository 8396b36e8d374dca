pub mod UntilCode
pub mod Turns
pub mod Layout
pub mod Phrases
pub mod EvaluateCode
pub mod Sent
