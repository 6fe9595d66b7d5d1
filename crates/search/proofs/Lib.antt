mod Common
pub mod CountLemmas
pub mod FutureLemmas
pub mod LeastOrderLemmas
pub mod EarliestLemmas
pub mod BeforeLemmas
pub mod CursorLemmas
pub mod ExactLemmas
pub mod UndoLemmas
pub mod LinkLemmas
pub mod WalkLemmas
pub mod MemoLemmas
pub mod OpenLemmas
pub mod ExistsLemmas
pub mod LeastLemmas
pub mod LongestLemmas
pub mod OneFrontLemmas
