-- Chapters 8 and 11 in document 01's letters: factors, figures and the buffer.
pub mod Factors
pub mod Block
pub mod Operational
pub mod Buffer
