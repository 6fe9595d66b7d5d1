pub mod Refusals
pub mod RefusalLaws
pub mod Answers
pub mod Outcomes
