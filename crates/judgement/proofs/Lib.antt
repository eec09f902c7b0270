-- The rules of a sheet one after the other, and the figures of a sound one. Assumes nothing.
pub mod Acceptance
pub mod AlikeSheets
pub mod TotalParts
pub mod Rules
pub mod Findings
pub mod Lengths
pub mod RuleOrder
pub mod VolumeCharges
