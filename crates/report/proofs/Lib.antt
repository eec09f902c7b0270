-- Laws of the report's lines: written one after the other, and read back.
pub mod Items
pub mod Tables
pub mod Readback
