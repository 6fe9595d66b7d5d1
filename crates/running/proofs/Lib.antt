mod Common
pub mod NumberedLemmas
pub mod RisingLemmas
pub mod CountLemmas
pub mod GivenLemmas
pub mod ReachedLemmas
pub mod SharedStepLemmas
pub mod OwnLemmas
pub mod EndLemmas
pub mod FitLemmas
pub mod StepLemmas
pub mod GatherLemmas
pub mod CloseLemmas
pub mod ReadMomentLemmas
mod JoinLemmas
mod PartLemmas
mod RoomLemmas
mod RunLemmas
mod ArenaScriptLemmas
mod ScriptLemmas
mod AnswerLemmas
mod DriveLemmas
mod FewStepLemmas
mod ArenaDriveLemmas
