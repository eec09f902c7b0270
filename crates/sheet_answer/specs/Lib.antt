-- A call that judges a sheet and writes a text of its lines.
pub mod Judged
