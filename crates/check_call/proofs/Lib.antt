-- Laws of the check: the listing that is gathered of the tables, and the call's answers. Assumes nothing.
pub mod Listing
pub mod Calls
