use Rattle.follow_monitor.proofs.Common.{event_limit, known_call, ◌≡◌, ◌≤◌, length, None, Some, refl, sym, ◌∙◌, arith}
use Rattle.follow_monitor.proofs.FaultLemmas.{waits, idles, idle_answer, many_answers}
use Rattle.follow_monitor.proofs.monitor.Monitor.answer.Goals as goal

pub returns-in_default : goal.returns-in_default
returns-in_default c = λ start events h.
    let m = c.args.self in
    let process = c.args.process in
    let idle : known_call m.open_calls process ≡ None = sym c.known.ensures ∙ c.in_default.is in
    (idle_answer events process (idles start events m process h idle), refl)

pub returns-then-now-ge-EVENT_LIMIT : goal.returns-then-now-ge-EVENT_LIMIT
returns-then-now-ge-EVENT_LIMIT c = λ start events h.
    let m = c.args.self in
    let process = c.args.process in
    let here : known_call m.open_calls process ≡ Some c.in-Some.known = sym c.known.ensures ∙ c.in-Some.is in
    let events_are : m.parts.now ≡ length events = h.events_are in
    let many : event_limit ≤ length events = omega (arith, events_are, c.now.ensures) in
    (many_answers events process (waits start events m process h c.in-Some.known here) many, refl)
