-- The laws behind a block's figures: the radicand of D and the numerator of K as the code makes them.
pub mod JointRadicand
pub mod Numerator
