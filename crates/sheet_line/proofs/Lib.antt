-- What a line of the sheet guarantees: of a good one, of a refused one, of a printed one; the order of its rules, and lines at the limits of their
-- ranges. Assumes nothing.
pub mod Acceptance
pub mod Refusals
pub mod PrintedLines
pub mod RuleOrder
pub mod Limits
