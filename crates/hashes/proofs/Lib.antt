-- polynomials
pub mod PolynomialLaws
pub mod Sums
pub mod Multiples
-- residues modulo a polynomial
pub mod FieldLaws
pub mod FourthPowers
pub mod Linear
-- families
pub mod Absorbed
pub mod EvaluationSteps
pub mod PendingBytes
pub mod KeyTest
pub mod FamilyExamples
