-- The definitions that the other crates' definitions are made of: choices, searches and properties of lists.
pub mod Pick
pub mod Least
pub mod First
pub mod Each
pub mod Numbered
pub mod Ascending
pub mod Total
