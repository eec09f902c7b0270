-- The first extreme of some sheets, summaries that grow by a sheet, and the accuracy of the total. Assumes nothing.
pub mod Extremes
pub mod Summaries
pub mod Totals
