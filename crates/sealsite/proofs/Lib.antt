-- What the proofs of the program stand on.
pub mod Filled
pub mod SixteenDigits
pub mod Written
