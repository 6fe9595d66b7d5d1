mod TextLemmas
mod MarkupLemmas
mod PartLemmas
mod WidthLemmas
