-- The credits of a sheet off its lines. Assumes nothing.
pub mod Credits
