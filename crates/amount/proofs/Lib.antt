-- Laws of the limit of an amount: over one list, and over two lists one after the other; and of rule 7.
pub mod Amounts
pub mod Rule7
