use Rattle.running.proofs.Common.{◌≡◌, ◌<◌, length, map, sym, ap, ◌∙◌, arith, All, slice_get, All-at, is_tree_call, process_number}
use Rattle.std.proofs.Common.{Some}
use Rattle.std.specs.Prelude.{IsTrue}
use Rattle.running.proofs.DriveLemmas.{at-mapped, after-script}
use Rattle.running.proofs.subject.do_own_script.Goals as goal

pub do_script-requires-clause-calls : goal.do_script-requires-clause-calls
do_script-requires-clause-calls g c =
    let script = c.index-scripts-from.result in
    let within : c.from.result < length c.args.scripts.now = omega (arith, c.requires.ready.known, c.process.ensures, c.from.ensures) in
    let at = at-mapped (λ script. script.items) c.args.scripts.now c.from.result script within c.index-scripts-from.is in
    rw c.deref.ensures.value
    (All-at (λ calls. All (λ call. IsTrue (is_tree_call call)) calls) (map (λ script. script.items) c.args.scripts.now)
    c.from.result script.items
    c.requires.calls at)

pub returns : goal.returns
returns g c =
    let script = c.index-scripts-from.result in
    let scripts = map (λ script. script.items) c.args.scripts.now in
    let within : c.from.result < length c.args.scripts.now = omega (arith, c.requires.ready.known, c.process.ensures, c.from.ensures) in
    let at = at-mapped (λ script. script.items) c.args.scripts.now c.from.result script within c.index-scripts-from.is in
    let number : c.from.result ≡ process_number c.args.pass = c.from.ensures ∙ c.process.ensures in
    let its : slice_get scripts (process_number c.args.pass) ≡ Some c.deref.result.now =
    ap (slice_get scripts) (sym number) ∙ (at ∙ ap Some (sym c.deref.ensures.value)) in
    after-script (g.S.Subject.may_answer c.args.subject.now) c.args.recorder.now scripts c.deref.result.now (process_number c.args.pass)
    c.do_script.result its c.do_script.ensures.own
    c.do_script.ensures.process c.do_script.ensures.recorded
