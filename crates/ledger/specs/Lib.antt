-- The numbers that are taken off a sheet's lines, and the tables that hold the lines. Assumes nothing.
pub mod Numbers
pub mod Tables
pub mod Lines
