-- What the contracts cite: definitions and statements.
pub mod Lists
pub mod Word
pub mod Polynomial
pub mod Irreducible
pub mod Laws
pub mod Field
pub mod Family
pub mod KeyFault
pub mod Division
pub mod Toeplitz
pub mod Evaluation
pub mod FamilyExamples
-- From here on lemmas, which need no belief: the proof of a family's law may name only what stands in this folder. The definitions among them
-- are cited by contracts of private functions alone.
-- lists
pub mod Counting
pub mod Pairs
pub mod Bytes
-- polynomials
pub mod Xor
pub mod Horner
pub mod Times
pub mod Degree
pub mod Remainder
pub mod Divisors
pub mod Words
-- additive functions and their tables
pub mod Additive
-- residues modulo a polynomial, and the test of irreducible polynomials
pub mod FieldLemmas
pub mod Roots
pub mod Evaluate
pub mod ValuesBelow
pub mod Frobenius
pub mod Period
pub mod Least
pub mod Factors
pub mod Rabin
pub mod Modulus
pub mod Trial
-- families
pub mod Keys
-- division
pub mod Messages
pub mod DivisionSteps
pub mod DivisionLaw
pub mod DivisionFamily
-- Toeplitz
pub mod Bits
pub mod Act
pub mod Lfsr
pub mod ToeplitzMessage
pub mod ToeplitzSteps
pub mod ToeplitzLaw
pub mod ToeplitzFamily
-- evaluation
pub mod EvaluationMessage
pub mod EvaluationLaw
pub mod EvaluationFamily
