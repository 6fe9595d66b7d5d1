pub mod WholeHistories
pub mod HeldTexts
mod JudgedTexts
mod FirstLines
