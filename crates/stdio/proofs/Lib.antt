-- What a program promises, of what is known after its input was answered.
pub mod PrintedText
