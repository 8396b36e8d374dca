pub mod Positions
pub mod Table
pub mod Items
pub mod Conditions
pub mod Passing
pub mod Files
pub mod Procedures
pub mod Noting
