-- Classes, verbs and files: how each part is read and spelled
pub mod Verbs
pub mod Keys
pub mod FileForms
mod FileParts
pub mod ClassTests
-- What is so of a file in order
pub mod Sound
-- Definitions on small cases
pub mod Examples
