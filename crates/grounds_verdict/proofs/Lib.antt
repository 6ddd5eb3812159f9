-- The root of the laws: references and steps cited, the kinds of step, owners, a step judged, conclusions, an assignment, and the verdict.
pub mod Numbers
pub mod Ways
pub mod Owning
pub mod Derived
pub mod Running
pub mod Concluding
pub mod Assigning
pub mod Judging
pub mod Answers
