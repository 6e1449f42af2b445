-- What the contracts cite: records, the book, runs, views, images and their check.
pub mod Records
pub mod Fields
pub mod Faults
pub mod First
pub mod Book
pub mod Known
pub mod Run
pub mod View
pub mod Writing
pub mod Inputs
pub mod Entries
pub mod Values
pub mod Image
pub mod ImageMessage
pub mod Check
pub mod Facts
pub mod RowExamples
-- From here on definitions that contracts of private functions alone cite.
pub mod Encoded
pub mod FieldPlaces
pub mod Walking
-- Lemmas on results, for proofs of this crate and of those above it.
pub mod Results
