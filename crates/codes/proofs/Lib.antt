-- Laws of the codes. Assumes nothing.
pub mod Table
