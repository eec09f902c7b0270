-- A text left in lent room, and what is printed of it.
pub mod Lent
pub mod Printing
