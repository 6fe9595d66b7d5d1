-- Hints next to the line of a fault of a plan or of a replay: what was expected.
use Rattle.std.specs.Prelude.{ℕ, List, [], ◌++◌, codes}
use Rattle.plans.specs.declared.fault.PlanFault.{PlanFault}
use Rattle.plans.specs.declared.fault.PlanFault.TheVariants as plans
use Rattle.plans.specs.declared.fault.MachineFault.{MachineFault}
use Rattle.plans.specs.declared.fault.MachineFault.TheVariants as machines
use Rattle.replays.specs.declared.fault.ReplayFault.{ReplayFault}
use Rattle.replays.specs.declared.fault.ReplayFault.TheVariants as replays
use Rattle.cli_outcome.specs.Wanted.{length_expected, json_expected}

-- in the place of each fault of a plan
abbrev pub plan_expected : PlanFault → List ℕ
plan_expected plans.BadMix = codes "shares of gets, inserts, removes and scans that are 100 together"
plan_expected plans.BadRange = codes "a least key that is not above the greatest"
plan_expected plans.TooMany =
    codes "1 to 64 scripts, at most 4096 calls in all, and to be done at most 4096 as scripts times the longest of them"
plan_expected plans.Memory = []
plan_expected plans.TooLong = length_expected
plan_expected plans.NotJson = json_expected
plan_expected plans.Shape =
    codes "{\"version\":1,\"scripts\":[[C,..],..]}; C is [\"get\",K], [\"insert\",K,V], [\"remove\",K], [\"scan\",LO,HI] "
    ++ codes "with LO <= HI, or in version 2 [\"replace\",K,OLD,NEW]; keys are from 0 to 4294967295, values from 0 to 1073741823"

-- in the place of each fault of a replay or of its schedule
abbrev pub machine_expected : MachineFault → List ℕ
machine_expected machines.NoProcess = codes "an item whose process has a script, from 0"
machine_expected machines.NothingToDo = codes "a process with an open call, or with a call left in its script"
machine_expected machines.TurnLimit = codes "no more turns than the limit"
machine_expected machines.Memory = []
machine_expected machines.TooLong = length_expected
machine_expected machines.NotJson = json_expected
machine_expected machines.Shape =
    codes "{\"version\":1,\"variant\":NAME,\"rows\":[N,N,N,N],\"limit\":N,\"scripts\":[[C,..],..],\"schedule\":[ITEM,..]}, and in "
    ++ codes "version 2 \"start\":[[K,V],..]; ITEM is [P,\"turns\",N], [P,\"end\"] or [P,\"until\",POINT]; C is as in a plan"
machine_expected machines.StartRefused = codes "rows that have room for the starting pairs"

-- what was expected if the text of a replay gives no history
abbrev pub replay_expected : ReplayFault → List ℕ
replay_expected (replays.Replay fault) = machine_expected fault
replay_expected (replays.Schedule stop) = machine_expected stop.fault
replay_expected replays.Memory = []

-- the hint on a schedule with more items than a replay may have
abbrev pub too_long_expected : List ℕ
too_long_expected = codes "a schedule of at most 100000 items: fewer operations, or a lower --limit"
