-- Calls under lock coupling: what each knows on its way, up to its work or its reply.
pub mod Knows
pub mod Goes
pub mod Stays
pub mod Moments
pub mod Good
pub mod Walks
pub mod Scanning
pub mod Laws
