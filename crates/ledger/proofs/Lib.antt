-- What holds of the tables that hold a sheet's lines, and of the numbers taken off them. Assumes nothing.
pub mod Numbers
pub mod Bounds
pub mod Tables
