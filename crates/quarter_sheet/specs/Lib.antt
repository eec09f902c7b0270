-- A sheet's buffer, or what turns it away.
pub mod Answer
