-- A monitor goes on after an event.
use Rattle.follow_monitor.proofs.Common.{operations-invoke, IsWellFormed-push, IsWellFormed, has_open_call, low_key, high_key, operations, Call}
use Rattle.follow_monitor.proofs.Common.{Event, Invoke, Answer, Reply, Operation, PartGoesOn, KeptPartsDecide, IsFollowing, MonitorView, known_call}
use Rattle.follow_monitor.proofs.Common.{InvocationsKeepOrders, AreRecentPuts, OpenCall, Put, begun, is_reported, IsCounted, IsStateOf, PartsView}
use Rattle.follow_monitor.proofs.Common.{kept_parts, Contents, ◌≡◌, ◌≢◌, ℕ, ◌+◌, ◌-◌, ◌^◌, ◌<◌, ◌≤◌, ◌==◌, ◌++◌, ◌∷◌, [], List, Some, None, true}
use Rattle.follow_monitor.proofs.Common.{cond, refl, sym, ap, ◌∙◌, subst, arith, false≢true, length_push, All}
use Rattle.follow_monitor.proofs.CallLemmas.{well_formed_on}
use Rattle.follow_monitor.proofs.FaultLemmas.{waits, idles}
use Rattle.follow_monitor.proofs.JudgeLemmas.{AreAround, around, is_call}
use Rattle.follow_monitor.proofs.NextLemmas.{knows_open_on, knows_all_on, shaped_on, one_call_more, few_calls, knows_open_after, knows_all_after}
use Rattle.follow_monitor.proofs.NextLemmas.{shaped_after, as_many_calls}

-- after an invocation
module _ (start : Contents) (events : List Event) (m : MonitorView) (process : ℕ) (call : Call)
    (h : IsFollowing start events m) (idle : known_call m.open_calls process ≡ None) where
  abbrev e : Event
  e = Invoke process call

  pub well_begun : IsWellFormed (events ++ Invoke process call ∷ [])
  well_begun = IsWellFormed-push events (Invoke process call) h.well_formed (idles start events m process h idle)

  abbrev known : OpenCall
  known = record { event = m.parts.now; number = m.calls; call = call }

  calls_begun : operations events ++ begun call m.parts.now ∷ [] ≡ operations (events ++ Invoke process call ∷ [])
  calls_begun = ap (λ (n : ℕ). operations events ++ begun call n ∷ []) h.events_are ∙ sym (operations-invoke events process call)

  pub call_taken : InvocationsKeepOrders → AreRecentPuts (operations events ++ begun call m.parts.now ∷ []) m.puts → (parts : PartsView)
      (open_calls : List (ℕ × OpenCall)) (calls : ℕ) → low_key call ≤ high_key call
      → IsStateOf start (operations events ++ begun call m.parts.now ∷ []) parts → IsCounted m.parts parts
      → ((p : ℕ) → known_call open_calls p ≡ cond (p == process) (Some known) (known_call m.open_calls p))
      → calls ≡ m.calls + 1
      → IsFollowing start (events ++ Invoke process call ∷ []) (record { parts = parts; open_calls = open_calls; puts = m.puts; calls = calls })
  call_taken keep puts parts open_calls calls shaped state counted changed calls_are =
      let apart : (p : ℕ) (d : OpenCall) → known_call m.open_calls p ≡ Some d → p ≢ process = λ p d here same.
      false≢true (sym (idles start events m process h idle) ∙ subst (λ (q : ℕ). has_open_call q events ≡ true) same (waits start events m p h d here)) in
      let longer = length_push events e in
      record {
        state = subst (λ (l : List Operation). IsStateOf start l parts) calls_begun state;
        rising = h.rising;
        well_formed = well_begun;
        calls_open = knows_open_on events process call h.well_formed well_begun m.open_calls open_calls known h.events_are refl h.calls_are changed
            h.calls_open;
        all_open = knows_all_on events process call h.well_formed well_begun m.open_calls open_calls known h.events_are refl h.calls_are changed apart
            h.all_open;
        shaped = shaped_on events process call h.well_formed well_begun shaped h.shaped;
        events_are = omega (arith, longer, h.events_are, counted);
        puts_are = subst (λ (l : List Operation). AreRecentPuts l m.puts) calls_begun puts;
        calls_are = calls_are ∙ (ap (λ n. n + 1) h.calls_are ∙ sym (one_call_more events process call));
        linearizable = keep (record { start = start; events = events }) process call h.linearizable;
      }

-- there is room for one call more
pub call_more : (start : Contents) (events : List Event) (m : MonitorView) → IsFollowing start events m → m.parts.now < 2 ^ 44 - 2 → m.calls < 2 ^ 44
call_more start events m h room = let few = few_calls events in omega (arith, few, h.calls_are, h.events_are, room)

-- after an answer
module _ (start : Contents) (events : List Event) (m : MonitorView) (process : ℕ) (known : OpenCall) (reply : Reply)
    (h : IsFollowing start events m) (here : known_call m.open_calls process ≡ Some known) where
  abbrev then : List Event
  then = events ++ Answer process reply ∷ []

  pub around_it : AreAround events process known reply
  around_it = around events process known reply (is_call start events m process known h here)

  -- the calls around it, at the event that the monitor counts
  pub calls_then : operations then ≡ around_it.front ++ is_reported (begun known.call known.event) reply m.parts.now ∷ around_it.back
  calls_then =
      around_it.after
      ∙ ap (λ (n : ℕ). around_it.front ++ is_reported (begun known.call known.event) reply n ∷ around_it.back) (sym h.events_are)

  pub state_before : IsStateOf start (around_it.front ++ begun known.call known.event ∷ around_it.back) m.parts
  state_before = subst (λ (l : List Operation). IsStateOf start l m.parts) around_it.before h.state

  pub answer_taken : KeptPartsDecide → (parts : PartsView) (open_calls : List (ℕ × OpenCall)) (puts : List Put)
      → IsStateOf start (operations then) parts → IsCounted m.parts parts → All PartGoesOn (kept_parts parts)
      → ((p : ℕ) → known_call open_calls p ≡ cond (p == process) None (known_call m.open_calls p))
      → AreRecentPuts (operations then) puts
      → IsFollowing start then (record { parts = parts; open_calls = open_calls; puts = puts; calls = m.calls })
  answer_taken decide parts open_calls puts state counted going changed recent =
      let own = (is_call start events m process known h here).is_open in
      let longer = length_push events (Answer process reply) in
      record {
        state = state;
        rising = h.rising;
        well_formed = well_formed_on events process known.event known.call reply own;
        calls_open = knows_open_after events process known.event known.call reply own m.open_calls open_calls changed h.calls_open;
        all_open = knows_all_after events process known.event known.call reply own m.open_calls open_calls changed h.all_open;
        shaped = shaped_after events process known.event known.call reply own h.shaped;
        events_are = omega (arith, longer, h.events_are, counted);
        puts_are = recent;
        calls_are = h.calls_are ∙ sym (as_many_calls events process known.event known.call reply own);
        linearizable = (decide start then parts.now (kept_parts parts) h.rising state.kept).1 going;
      }

-- a monitor as it is seen from outside
pub seen_so : (start : Contents) (events : List Event) (process : ℕ) (known : OpenCall) (inside m : MonitorView) → inside ≡ m
    → IsFollowing start events m → known_call m.open_calls process ≡ Some known
    → IsFollowing start events inside × (known_call inside.open_calls process ≡ Some known)
seen_so start events process known inside m same h here = (
  subst (IsFollowing start events) (sym same) h,
  subst (λ (v : MonitorView). known_call v.open_calls process ≡ Some known) (sym same) here,
)
