-- What holds of bytes that were read, and of an input that was answered; and how a failure is told.
pub mod Read
pub mod Answered
pub mod Sentence
