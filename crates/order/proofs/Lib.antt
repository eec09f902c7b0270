-- What holds of a sheet's lines and of their order. Assumes nothing.
pub mod Admission
pub mod Ascent
pub mod Lines
pub mod PrintedSheets
pub mod SmallSheets
