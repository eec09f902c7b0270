-- Laws of a text in lent room: its three answers, computed in small, their numbers, and what is printed.
pub mod Cases
pub mod LentRoom
