-- The summary of the accepted sheets, and the exact total. Assumes nothing.
pub mod Summaries
pub mod Exact
