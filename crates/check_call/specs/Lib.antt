-- The check of a sheet: what it answers, what holds of its listing, and the steps that write it. Assumes nothing.
pub mod Call
pub mod Tabled
