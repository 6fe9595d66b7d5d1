-- Scans under lock coupling: what each knows on its way, up to its reply.
pub mod Walking
pub mod Laws
