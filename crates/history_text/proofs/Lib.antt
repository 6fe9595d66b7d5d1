mod Common
pub mod CompactLemmas
pub mod DataLemmas
pub mod DocumentLemmas
pub mod EventLemmas
mod SpaceContentLemmas
mod SpaceTextLemmas
mod SpaceWordLemmas
pub mod SpelledLemmas
pub mod SplitLemmas
pub mod TextFaultLemmas
pub mod TextLemmas
pub mod ValueFaultLemmas
pub mod WrittenLemmas
