pub mod FrontLemmas
pub mod ConfigurationLemmas
mod Common
mod ValueLemmas
mod DifferenceLemmas
pub mod DigestLemmas
mod KeptLemmas
mod VisitedLemmas
mod WordLemmas
mod BitLemmas
pub mod TakingLemmas
mod PlacesLemmas
