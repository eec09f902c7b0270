-- What a line needs, the listing of the lines whose needs are unmet, and what holds of it. Assumes nothing.
pub mod Needs
pub mod Listing
pub mod Listed
pub mod Needing
