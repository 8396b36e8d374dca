-- Root sectors, written and read
pub mod Spelled
-- The two roots of a volume
pub mod Next
pub mod Known
pub mod Within
-- Definitions on small cases
pub mod Examples
-- Known families behind references
pub mod Families
-- The root sectors of a device
pub mod RootReads
