-- What holds of the entries' keys, of their places and of their marks. Assumes nothing.
pub mod Keys
pub mod Indexes
pub mod Marks
