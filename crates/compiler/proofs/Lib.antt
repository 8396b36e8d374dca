-- What a result holds
pub mod Results
-- From a source text to its tree
pub mod Stages
-- Images and their code
pub mod Images
-- At most one tree, and at most one run
mod Uniqueness
