-- A sheet's amounts off its lines, its judgement, and the steps of judging. Assumes nothing.
pub mod Sheet
pub mod Judgement
pub mod Steps
