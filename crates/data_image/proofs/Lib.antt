-- Parts that are read and spelled, and how two forms follow one another
pub mod Forms
pub mod Numbers
pub mod TableForms
pub mod Items
pub mod Pictures
pub mod Fractions
pub mod Senders
pub mod Inspections
pub mod DataTables
pub mod Tests
pub mod Instructions
-- Reading entries one after the other
pub mod Entries
-- Reading in steps of which each may fail
pub mod Steps
-- Definitions on small cases
pub mod Examples
