-- An image is never refused
pub mod Images
-- Moments and ends of a run
pub mod Moments
-- Connectors to the files of code
pub mod Connecting
-- A volume that is opened
pub mod Opening
-- What a call promises of a run, of an image and of a source text
pub mod Runs
