mod Common
mod JoinLemmas
mod LeftLemmas
