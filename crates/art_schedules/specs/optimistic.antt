-- Calls of the optimistic tree: what each knows on its way, up to its work or its reply.
pub mod Knows
pub mod Goes
pub mod Laws
pub mod Steps
