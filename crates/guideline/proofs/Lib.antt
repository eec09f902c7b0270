-- Laws of the guideline's figures: how large they are, and that each is the least of its kind.
pub mod ProductOrder
pub mod Squares
pub mod Table
pub mod Bounds
pub mod Figures
pub mod Charges
pub mod Totals
pub mod FinerRoots
pub mod Numbers
