use Rattle.running.proofs.Common.{◌≡◌, length, map, sym, ◌∙◌, arith, subst, length-map, with_no_start, IsDriveOf}
use Rattle.recorder.specs.Recorders.{history_of}
use Rattle.running.proofs.DriveLemmas.{are-own, one-of-each, drive-of}
use Rattle.running.proofs.subject.drive_subject.Goals.{In_ok-passes}
use Rattle.running.proofs.subject.drive_subject.Goals as goal

-- there are as many passes as scripts
passes-many : (g : _) (c : In_ok-passes g) → length c.in_ok-passes.passes.items ≡ length (map (λ script. script.items)
    c.scripts-scripts.result.now)
passes-many g c = c.in_ok-passes.ensures.many ∙ sym (length-map c.scripts-scripts.result.now (λ script. script.items))

pub passes_after-requires-clause-room : goal.passes_after-requires-clause-room
passes_after-requires-clause-room g c = λ κs fits k d within.
    omega (arith, c.most_calls.ensures.bound k d within, c.in_ok-recorder.ensures.recorder.1)

pub close-requires : goal.close-requires
close-requires g c = record {
  own = are-own (g.S.Subject.may_answer c.args.subject.now) c.in_ok-recorder.recorder
      (map (λ script. script.items) c.scripts-scripts.result.now) c.in_ok-passes.passes.items c.in_ok-passes.ensures.after
      (passes-many g c);
}

pub want_of_memory-requires : goal.want_of_memory-requires
want_of_memory-requires g c =
    let d = (goal.at.want_of_memory-requires g c).In_ok-passes in
    c.in-Err.ensures.whole (one-of-each (g.S.Subject.may_answer c.args.subject.now) c.in_ok-recorder.recorder (map (λ script. script.items)
    c.scripts-scripts.result.now) c.in_ok-passes.passes.items
    c.in_ok-passes.ensures.after (passes-many g d) (c.in_ok-recorder.ensures.recorder.0 ∙ sym (length-map c.scripts-scripts.result.now
    (λ script. script.items))))

pub returns-in-Ok : goal.returns-in-Ok
returns-in-Ok g c =
    let d = (goal.at.returns-in-Ok g c).In_ok-passes in
    let scripts = map (λ script. script.items) c.scripts-scripts.result.now in
    let passes = c.in_ok-passes.passes.items in
    let may = g.S.Subject.may_answer c.args.subject.now in
    let all : IsDriveOf may scripts (with_no_start (history_of passes)) =
    drive-of may c.in_ok-recorder.recorder scripts passes c.in_ok-passes.ensures.after (passes-many g d) c.in-Ok.ensures.own_events in
    subst (λ plan. IsDriveOf may plan c.in-Ok.history) c.scripts-scripts.ensures.same
    (subst (IsDriveOf may scripts) (sym c.in-Ok.ensures.history) all)
