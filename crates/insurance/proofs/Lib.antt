-- The laws behind I: its radicand as the code makes it, and the room that it leaves.
pub mod Radicand
