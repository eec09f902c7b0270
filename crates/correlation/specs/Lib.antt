-- What the sum over the pairs of risks is said by.
pub mod Products
