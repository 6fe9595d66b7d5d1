mod Common
mod AnswerLemmas
mod BeginLemmas
mod FindLemmas
mod MoveLemmas
mod RoomLemmas
mod InsertLemmas
mod OverlapLemmas
