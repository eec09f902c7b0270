-- What tables are asked for. Assumes nothing.
pub mod Companions
