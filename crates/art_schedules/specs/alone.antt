-- Calls that run alone on the words of a table: what each part of a call does where nobody interferes.
pub mod Alone
pub mod Finding
pub mod Laws
