-- The law behind the sum over the pairs of risks: one product more.
pub mod RunningSum
