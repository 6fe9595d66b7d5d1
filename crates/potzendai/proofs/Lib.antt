mod Common
mod CallLemmas
mod StreamLemmas
mod RoomLemmas
mod FollowLemmas
mod LooseValues
mod HandleValues
