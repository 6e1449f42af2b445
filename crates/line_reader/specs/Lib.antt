-- What the contracts cite: the grammar, the reading as a function, and that the two agree; calls and the promise on them; making an image; the
-- answer to a whole input.
pub mod Numbers
pub mod Grammar
pub mod Reading
pub mod Exact
pub mod Calls
pub mod Handover
pub mod Texts
pub mod Making
pub mod MakeFaults
pub mod SiteInput
pub mod InputFaults
pub mod FamilyCodes
pub mod AsMade
pub mod WorkedSums
pub mod WorkedInputs
-- From here on definitions that contracts of private functions alone cite.
pub mod Sending
