-- What holds of the credits of a sheet, and of its blocks after them. Assumes nothing.
pub mod Acceptance
pub mod Credits
