pub mod DrawnLemmas
