-- Document 01's dummies, as what is true of their calls; a program of each kind; the sheets at which they are refuted.
pub mod Dummies
pub mod Programs
pub mod Answers
