use Rattle.running.proofs.Common.{◌≡◌, length, map, sym, ap, subst, ◌∙◌, arith, All, EachIndex, length-map, HasOwnEvents, most_calls, shows}
use Rattle.running.proofs.Common.{opened_for, setup_with, HoldsAll, IsHistoryOf, IsLinearizableIn, IsArenaDriveOf, HasDoneOwn}
use Rattle.running.proofs.JoinLemmas.{AreDone, joined-done}
use Rattle.running.proofs.ArenaDriveLemmas.{drive-of, memory-wanted, passed}
use Rattle.running.proofs.tree.drive_arena.Goals.{In_ok-group}
use Rattle.running.proofs.tree.drive_arena.Goals as goal

-- what the arena was opened for
opened : (g : _) (c : In_ok-group g) → opened_for c.in_ok-arena.arena
    ≡ setup_with c.args.shape c.args.variant (length (map (λ script. script.items) c.scripts-scripts.result.now))
    (most_calls (map (λ script. script.items) c.scripts-scripts.result.now))
opened g c =
    let scripts = c.scripts-scripts.result.now in
    c.in_ok-arena.ensures.setup
    ∙ (ap (λ n. setup_with c.args.shape c.args.variant n c.most_calls.result) (sym (length-map scripts (λ script. script.items)))
    ∙ ap (setup_with c.args.shape c.args.variant (length (map (λ script. script.items) scripts))) c.most_calls.ensures.longest)

-- all processes did their scripts
done : (g : _) (c : In_ok-group g)
    → AreDone (g.G.Gate.was_passed c.args.gate.now) c.in_ok-arena.arena c.args.limit
    (map (λ script. script.items) c.scripts-scripts.result.now) (length c.in_ok-done.done.items)
    (shows c.in_ok-group.group).processes
done g c =
    joined-done (g.G.Gate.was_passed c.args.gate.now) c.in_ok-arena.arena c.args.limit
    (map (λ script. script.items) c.scripts-scripts.result.now) c.in_ok-done.done.items
    (shows c.in_ok-group.group).processes c.in_ok-done.ensures.done c.in_ok-group.ensures.joined

pub do_scripts-requires-clause-room : goal.do_scripts-requires-clause-room
do_scripts-requires-clause-room g c = λ κs fits k d within.
    omega (arith, c.most_calls.ensures.bound k d within, ap (λ s. s.calls_each) c.in_ok-arena.ensures.setup)

pub want_of_memory-requires : goal.want_of_memory-requires
want_of_memory-requires g c =
    let d = (goal.at.want_of_memory-requires g c).In_ok-group in
    let many : HoldsAll (opened_for c.in_ok-arena.arena) (shows c.in_ok-group.group) =
    (done g d).many ∙ (omega (
      arith,
      c.in_ok-done.ensures.many,
      c.in_ok-groups.ensures.many,
      c.in_ok-done.done.ok.0,
      ap (λ s. s.processes)
          c.in_ok-arena.ensures.setup,
    )) in
    memory-wanted c.in_ok-arena.arena c.in_ok-group.group c.in-Err.fault many c.in-Err.ensures.refused

pub returns-in-Ok-clause-drive : goal.returns-in-Ok-clause-drive
returns-in-Ok-clause-drive g c =
    let d = (goal.at.returns-in-Ok-clause-drive g c).In_ok-group in
    let WasPassed = g.G.Gate.was_passed c.args.gate.now in
    let scripts = map (λ script. script.items) c.scripts-scripts.result.now in
    let setup = opened g d in
    let v = shows c.in_ok-group.group in
    let h = c.in-Ok.history in
    subst (λ plan. IsArenaDriveOf c.args.shape c.args.variant c.args.limit plan h) c.scripts-scripts.ensures.same
    (drive-of WasPassed c.args.shape c.args.variant c.args.limit scripts v h
    (subst (λ s. IsHistoryOf s v h) setup c.in-Ok.ensures.history)
    (subst (λ s. HasOwnEvents s v h.events) setup c.in-Ok.ensures.own_events)
    (subst (λ s. All (HasDoneOwn WasPassed s c.args.limit scripts) v.processes) setup (done g d).done) (omega (arith, c.ranges.limit))
    (subst (λ s. IsLinearizableIn s v h) setup c.in-Ok.ensures.linearizable))

pub returns-in-Ok-clause-passed : goal.returns-in-Ok-clause-passed
returns-in-Ok-clause-passed g c =
    let d = (goal.at.returns-in-Ok-clause-passed g c).In_ok-group in
    let WasPassed = g.G.Gate.was_passed c.args.gate.now in
    let scripts = map (λ script. script.items) c.scripts-scripts.result.now in
    let setup = opened g d in
    let v = shows c.in_ok-group.group in
    let h = c.in-Ok.history in
    subst (λ plan. EachIndex plan WasPassed) c.scripts-scripts.ensures.same
    (passed WasPassed c.args.shape c.args.variant c.args.limit scripts v h (subst (λ s. IsHistoryOf s v h) setup c.in-Ok.ensures.history)
    (subst (λ s. HasOwnEvents s v h.events) setup c.in-Ok.ensures.own_events)
    (subst (λ s. All (HasDoneOwn WasPassed s c.args.limit scripts) v.processes) setup (done g d).done) (omega (arith, c.ranges.limit))
    (subst (λ s. IsLinearizableIn s v h) setup c.in-Ok.ensures.linearizable))
