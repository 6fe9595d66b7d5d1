use Rattle.follow_monitor.proofs.Common.{operations, Event, Invoke, event_limit, IsFollowing, MonitorView, known_call, parts_of, Kept, OpenCall}
use Rattle.follow_monitor.proofs.Common.{PartsView, Contents, ◌≡◌, ℕ, ◌+◌, ◌<◌, ◌==◌, ◌++◌, ◌∷◌, [], List, None, Some, cond, sym, ap, ◌∙◌, subst}
use Rattle.follow_monitor.proofs.Common.{arith, Option, is_some}
use Rattle.follow_monitor.proofs.KeptLemmas.{seen_with, same_with}
use Rattle.follow_monitor.proofs.FollowLemmas.{call_taken, call_more}
use Rattle.follow_monitor.proofs.OpenLemmas.{at_process}
use Rattle.follow_monitor.proofs.PutLemmas.{puts_invoked}
use Rattle.follow_monitor.proofs.monitor.Monitor.begin.Goals.{After-saturating_add-kept}
use Rattle.follow_monitor.proofs.monitor.Monitor.begin.Goals as goal

pub begin-requires-clause-room : goal.begin-requires-clause-room
begin-requires-clause-room c =
    let m : MonitorView = seen_with c.in-Some.parts c.deref_mut-kept.result.now in
    let same : m ≡ c.args.self =
    same_with c.self.inside.kept.value c.deref_mut-kept.result.now c.replace.result c.in-Some.parts c.args.self
    c.deref_mut-kept.ensures.value c.replace.ensures.value c.in-Some.is c.self.view_is in
    let room : c.in-Some.parts.now < event_limit = subst (λ (v : MonitorView). v.parts.now < event_limit) (sym same) c.requires.room in
    omega (arith, room)

-- the monitor goes on
next : (c : After-saturating_add-kept) (start : Contents) (events : List Event) → IsFollowing start events c.args.self
    → IsFollowing start (events ++ Invoke c.args.process c.args.call ∷ []) (record {
      parts = c.in_ok-parts.parts;
      open_calls = c.insert.new.self.entries;
      puts = c.deref_mut-kept.result.now.puts.items;
      calls = c.saturating_add-kept.result;
    })
next c start events h =
    let call = c.args.call in
    let process = c.args.process in
    let m : MonitorView = seen_with c.in-Some.parts c.deref_mut-kept.result.now in
    let same : m ≡ c.args.self =
    same_with c.self.inside.kept.value c.deref_mut-kept.result.now c.replace.result c.in-Some.parts c.args.self
    c.deref_mut-kept.ensures.value c.replace.ensures.value c.in-Some.is c.self.view_is in
    let follows : IsFollowing start events m = subst (IsFollowing start events) (sym same) h in
    let idle : known_call m.open_calls process ≡ None =
    subst (λ (v : MonitorView). known_call v.open_calls process ≡ None) (sym same) c.requires.idle in
    let room : m.parts.now < event_limit = subst (λ (v : MonitorView). v.parts.now < event_limit) (sym same) c.requires.room in
    let known : OpenCall = record { event = m.parts.now; number = m.calls; call = call } in
    let is_known : record { event = c.now.result; number = m.calls; call = call } ≡ known =
    ap (λ (n : ℕ). record { event = n; number = m.calls; call = call }) c.now.ensures in
    let changed : (p : ℕ) → known_call c.insert.new.self.entries p ≡ cond (p == process) (Some known) (known_call m.open_calls p) = λ p.
    c.in_ok-insert.ensures.updates.0 p
    ∙ (ap (λ b. cond b (Some (record { event = c.now.result; number = m.calls; call = call })) (known_call m.open_calls p)) (at_process process p)
    ∙ ap (λ (k : OpenCall). cond (p == process) (Some k) (known_call m.open_calls p)) is_known) in
    let few = call_more start events m follows room in
    let calls : c.saturating_add-kept.result ≡ m.calls + 1 = grind (arith, c.saturating_add-kept.ensures, few) in
    let puts = puts_invoked (operations events) call m.parts.now m.puts follows.puts_are in
    call_taken start events m process call follows idle c.invocations_keep_orders.ensures puts c.in_ok-parts.parts c.insert.new.self.entries
    c.saturating_add-kept.result c.requires.shaped (c.in_ok-parts.ensures.state start (operations events) follows.state) c.in_ok-parts.ensures.counted changed calls

-- what is kept after the event
abbrev after : (c : After-saturating_add-kept) → Option PartsView → MonitorView
after c parts = record {
  parts = parts_of parts;
  open_calls = c.insert.new.self.entries;
  puts = c.deref_mut-kept.result.now.puts.items;
  calls = c.saturating_add-kept.result;
}

pub returns : goal.returns
returns c = λ start events h.
    let at = (goal.at.returns c).After-saturating_add-kept in
    subst (λ p. IsFollowing start (events ++ Invoke c.args.process c.args.call ∷ []) (after at p)) (sym c.replace-none.ensures.after) (next at start events h)

pub invariant_of-result : goal.invariant_of-result
invariant_of-result c =
    let at = (goal.at.invariant_of-result c).After-saturating_add-kept in
    let some = c.self.invariant.0 in (
      record {
        start = some.start;
        events = some.events ++ Invoke c.args.process c.args.call ∷ [];
        follows = subst (λ p. IsFollowing some.start (some.events ++ Invoke c.args.process c.args.call ∷ []) (after at p)) (sym c.replace-none.ensures.after)
            (next at some.start some.events (subst (IsFollowing some.start some.events) c.self.view_is some.follows));
      },
      ap (λ (k : Kept). k.puts.capacity) c.deref_mut-kept.ensures.value ∙ c.self.invariant.1,
      ap is_some c.replace-none.ensures.after,
    )
