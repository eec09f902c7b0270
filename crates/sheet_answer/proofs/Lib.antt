-- Laws of a call that judges a sheet: its answers, their numbers, and what is printed.
pub mod Judgements
