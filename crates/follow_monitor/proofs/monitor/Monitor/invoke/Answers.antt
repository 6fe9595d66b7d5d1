use Rattle.follow_monitor.proofs.Common.{low_key, high_key, event_limit, known_call, ◌≡◌, ◌≤◌, ◌<◌, length, None, sym, ◌∙◌, arith}
use Rattle.std.proofs.lemmas.Result.{err_from_is_err_and}
use Rattle.follow_monitor.proofs.FaultLemmas.{some_known, none_known, waits, idles, open_fault, many_fault, no_fault}
use Rattle.follow_monitor.proofs.monitor.Monitor.invoke.Goals as goal

pub returns-then-is_some-clause-refused : goal.returns-then-is_some-clause-refused
returns-then-is_some-clause-refused c = λ start events h.
    let m = c.args.self in
    let process = c.args.process in
    let shaped : low_key c.args.call ≤ high_key c.args.call = omega (arith, c.if-high_key-low_key.false, c.high_key.ensures, c.low_key.ensures) in
    let is : c.known.result ≡ known_call m.open_calls process = c.known.ensures in
    let (known, here) = some_known c.known.result (sym c.is_some.ensures ∙ c.if-is_some.true) in
    open_fault events process c.args.call shaped (waits start events m process h known (sym is ∙ here))

pub returns-then-now-ge-EVENT_LIMIT-clause-refused : goal.returns-then-now-ge-EVENT_LIMIT-clause-refused
returns-then-now-ge-EVENT_LIMIT-clause-refused c = λ start events h.
    let m = c.args.self in
    let process = c.args.process in
    let shaped : low_key c.args.call ≤ high_key c.args.call = omega (arith, c.if-high_key-low_key.false, c.high_key.ensures, c.low_key.ensures) in
    let is : c.known.result ≡ known_call m.open_calls process = c.known.ensures in
    let idle : known_call m.open_calls process ≡ None = sym is ∙ none_known c.known.result (sym c.is_some.ensures ∙ c.if-is_some.false) in
    let closed = idles start events m process h idle in
    let events_are : m.parts.now ≡ length events = h.events_are in
    let many : event_limit ≤ length events = omega (arith, events_are, c.now.ensures) in
    many_fault events process c.args.call shaped closed many

pub returns-in_err-next-clause-refused : goal.returns-in_err-next-clause-refused
returns-in_err-next-clause-refused c = λ start events h.
    let p = err_from_is_err_and c.from_residual.result c.from_residual.ensures.1 in
    let m = c.args.self in
    let process = c.args.process in
    let shaped : low_key c.args.call ≤ high_key c.args.call = omega (arith, c.if-high_key-low_key.false, c.high_key.ensures, c.low_key.ensures) in
    let is : c.known.result ≡ known_call m.open_calls process = c.known.ensures in
    let idle : known_call m.open_calls process ≡ None = sym is ∙ none_known c.known.result (sym c.is_some.ensures ∙ c.if-is_some.false) in
    let closed = idles start events m process h idle in
    let events_are : m.parts.now ≡ length events = h.events_are in
    let room : length events < event_limit = omega (arith, events_are, c.now.ensures) in
    rw (p.1, p.2) (no_fault events process c.args.call shaped closed room)

pub returns-clause-accepted : goal.returns-clause-accepted
returns-clause-accepted c = λ start events h.
    let m = c.args.self in
    let process = c.args.process in
    let shaped : low_key c.args.call ≤ high_key c.args.call = omega (arith, c.if-high_key-low_key.false, c.high_key.ensures, c.low_key.ensures) in
    let is : c.known.result ≡ known_call m.open_calls process = c.known.ensures in
    let idle : known_call m.open_calls process ≡ None = sym is ∙ none_known c.known.result (sym c.is_some.ensures ∙ c.if-is_some.false) in
    let closed = idles start events m process h idle in
    let events_are : m.parts.now ≡ length events = h.events_are in
    let room : length events < event_limit = omega (arith, events_are, c.now.ensures) in
    no_fault events process c.args.call shaped closed room

pub begin-requires-clause-idle : goal.begin-requires-clause-idle
begin-requires-clause-idle c =
    let m = c.args.self in
    let process = c.args.process in
    let is : c.known.result ≡ known_call m.open_calls process = c.known.ensures in
    sym is ∙ none_known c.known.result (sym c.is_some.ensures ∙ c.if-is_some.false)
