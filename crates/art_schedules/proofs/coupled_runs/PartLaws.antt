-- The laws that the proof is made of.
use Rattle.art_schedules.proofs.Common.{KeptTreesFollow, WorkBegins, WorkersMayHaveNoMark, OthersKeepMarked, WorkersGoOn, ObsoleteRowsHang}
use Rattle.art_schedules.proofs.Common.{WorkersOnlyWork, OthersKeepEnds, EndersGoOn, CallsBegin, CallsGoOn, CallsStay, FoundIsAnswered}
use Rattle.art_schedules.proofs.Common.{OthersLeaveWays, WaysTakeLive, ObsoleteRowsLeave, RestsHaveNone, WaysTakeReached, GoodRowsStay}
use Rattle.art_schedules.proofs.Common.{OthersLeaveGood, SeekersAreNotAnswered, ScansBegin, ScansComeOn, WalkedScansFind, FoundScansStay}
use Rattle.art_schedules.proofs.Common.{FoundScansAnswer, WalkingScansAsk, ScansTakeLive, ScansTakeReached, OthersLeaveScans, OthersLeaveTrees}
use Rattle.art_schedules.proofs.Common.{StartsAreAtRest, StoriesGiveOrders}

-- each of them, by the name of the function that carries it; some functions carry two
pub record LawsOfParts : Type 0 where
  -- laws of trees, and of stories
  pub kept_trees_follow : KeptTreesFollow
  pub starts_are_at_rest : StartsAreAtRest
  pub stories_give_orders : StoriesGiveOrders
  -- laws of a call on its way
  pub calls_begin : CallsBegin
  pub calls_go_on : CallsGoOn
  pub calls_stay : CallsStay
  pub found_is_answered : FoundIsAnswered
  pub seekers_are_not_answered : SeekersAreNotAnswered
  pub others_leave_ways : OthersLeaveWays
  -- laws of the rows that calls hold, and of those that are obsolete
  pub ways_take_live : WaysTakeLive
  pub ways_take_reached : WaysTakeReached
  pub good_rows_stay : GoodRowsStay
  pub others_leave_good : OthersLeaveGood
  pub obsolete_rows_leave : ObsoleteRowsLeave
  pub rests_have_none : RestsHaveNone
  -- laws of the work of a call, and of its end
  pub work_begins : WorkBegins
  pub workers_may_have_no_mark : WorkersMayHaveNoMark
  pub others_keep_marked : OthersKeepMarked
  pub workers_go_on : WorkersGoOn
  pub obsolete_rows_hang : ObsoleteRowsHang
  pub workers_only_work : WorkersOnlyWork
  pub others_keep_ends : OthersKeepEnds
  pub enders_go_on : EndersGoOn
  -- laws of scans
  pub scans_begin : ScansBegin
  pub scans_come_on : ScansComeOn
  pub walked_scans_find : WalkedScansFind
  pub found_scans_stay : FoundScansStay
  pub found_scans_answer : FoundScansAnswer
  pub walking_scans_ask : WalkingScansAsk
  pub scans_take_live : ScansTakeLive
  pub scans_take_reached : ScansTakeReached
  pub others_leave_scans : OthersLeaveScans
  pub others_leave_trees : OthersLeaveTrees
