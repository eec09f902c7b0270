-- Section 11.1.2 as document 02, #104, has it: the rows, the result, the exact result and the accuracy rule; the call, and what it accepts.
pub mod Rows
pub mod Result
pub mod Exact
pub mod Demand
pub mod Parts
pub mod Call
pub mod Accepted
