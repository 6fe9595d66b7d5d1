pub mod ReadText
pub mod Reading
pub mod WholeText
pub mod OverlapLemmas
pub mod HintedText
