-- Calls that run alone, one after another, and what each of them keeps.
pub mod Serial
pub mod Laws
