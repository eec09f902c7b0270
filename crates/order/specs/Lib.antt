-- The order of a sheet's lines, what admits a line after others, and how lines are read. Assumes nothing.
pub mod Order
pub mod Reading
