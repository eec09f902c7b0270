-- The two sorts of sheet, and how a line of one becomes a line of the other. Assumes nothing.
pub mod Scale
pub mod Amounts
pub mod Other
pub mod Moved
