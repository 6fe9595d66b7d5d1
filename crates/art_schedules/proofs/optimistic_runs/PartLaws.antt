-- The laws that the proof is made of.
use Rattle.art_schedules.proofs.Common.{KeptTreesFollow, WorkBegins, OthersKeepWork, OthersKeepEnds, WorkersStep, LeaversStep, WaysBegin}
use Rattle.art_schedules.proofs.Common.{OtherStepsKeepWays, OwnFindingsStay, OwnStepsGoOn, QuietStepsKeepTrees, ScansStoreNothing}
use Rattle.art_schedules.proofs.Common.{AnsweredScansHavePoints}
use Rattle.art_schedules.specs.effects.Laws.{WorkersHoldReached, LeaversHoldReached, EffectsBringTheirs, FreshIsClaimed}

-- each of them, by the name of the function that carries it
pub record LawsOfParts : Type 0 where
  pub kept_trees_follow : KeptTreesFollow
  pub work_begins : WorkBegins
  pub workers_hold_reached : WorkersHoldReached
  pub leavers_hold_reached : LeaversHoldReached
  pub others_keep_work : OthersKeepWork
  pub others_keep_ends : OthersKeepEnds
  pub workers_step : WorkersStep
  pub leavers_step : LeaversStep
  pub effects_bring_theirs : EffectsBringTheirs
  pub fresh_is_claimed : FreshIsClaimed
  pub ways_begin : WaysBegin
  pub other_steps_keep_ways : OtherStepsKeepWays
  pub own_steps_go_on : OwnStepsGoOn
  pub own_findings_stay : OwnFindingsStay
  pub quiet_steps_keep_trees : QuietStepsKeepTrees
  pub scans_store_nothing : ScansStoreNothing
  pub answered_scans_have_points : AnsweredScansHavePoints
