-- A number divided among ten parts by their margins: the shares, what is true of them, and what the division is handed.
pub mod Shares
pub mod Fair
pub mod Steps
