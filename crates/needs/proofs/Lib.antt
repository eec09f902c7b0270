-- Laws of labels and of the lines of a listing, of the lines that can need another, and of the listing.
pub mod Labels
pub mod LineNumbers
pub mod ListedLines
pub mod ExactListing
