-- What holds of the conversion of a sheet. Assumes nothing.
pub mod Reading
pub mod RoundTrip
pub mod TwoPasses
pub mod Calls
pub mod Letters
pub mod Refusals
