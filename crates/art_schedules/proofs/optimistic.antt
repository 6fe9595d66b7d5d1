pub mod OwnLemmas
pub mod StayLemmas
pub mod InfoLemmas
pub mod OtherLemmas
pub mod OwnStepLemmas
pub mod QuietLemmas
