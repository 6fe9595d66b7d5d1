mod Common
mod LinearizableLemmas
mod PlayLemmas
mod PlanLemmas
mod RestLemmas
mod TurnLemmas
