-- What the exported functions answer: numbers, with a refusal packed into one word.
pub mod Packed
