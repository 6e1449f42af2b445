-- What the program reads, and what it prints.
pub mod Input
pub mod AnswerText
