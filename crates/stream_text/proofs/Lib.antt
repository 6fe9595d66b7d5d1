mod Common
mod CutLemmas
mod FirstLineLemmas
mod LineLemmas
mod ValueLemmas
mod LineBufferLemmas
mod CompactLemmas
