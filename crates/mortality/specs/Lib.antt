-- Section 11.1.1: the mortality credit, reported and exact.
pub mod Credit
