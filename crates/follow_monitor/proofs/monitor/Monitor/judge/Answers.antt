use Rattle.follow_monitor.proofs.Common.{Event, Answer, AreAnswered, IsPartEndedBy, MayReply, event_limit, IsFollowing, IsLossAt, MonitorView}
use Rattle.follow_monitor.proofs.Common.{known_call, parts_of, Kept, begun, IsEndedBy, response_at, PartsView, Contents, ◌≡◌, ℕ, ◌<◌, ◌==◌, ◌++◌, ◌∷◌}
use Rattle.follow_monitor.proofs.Common.{[], List, None, cond, sym, ap, ◌∙◌, subst, Option, is_some}
use Rattle.follow_monitor.proofs.KeptLemmas.{seen_with, same_with}
use Rattle.follow_monitor.proofs.FollowLemmas.{seen_so, around_it, state_before}
use Rattle.follow_monitor.proofs.JudgeLemmas.{accepted, is_shaped}
use Rattle.follow_monitor.proofs.JudgedLemmas.{calls_before, calls_with, pending, goes_on, recent_then, known_then, is_lost, is_spent}
use Rattle.follow_monitor.proofs.OpenLemmas.{at_process}
use Rattle.follow_monitor.proofs.monitor.Monitor.judge.Goals.{In-Going}
use Rattle.follow_monitor.proofs.monitor.Monitor.judge.Goals as goal

pub answer_parts-requires-clause-shaped : goal.answer_parts-requires-clause-shaped
answer_parts-requires-clause-shaped c =
    let m : MonitorView = seen_with c.in-Some.parts c.deref_mut-kept.result.now in
    let same : m ≡ c.args.self =
    same_with c.self.inside.kept.value c.deref_mut-kept.result.now c.replace.result c.in-Some.parts c.args.self
    c.deref_mut-kept.ensures.value c.replace.ensures.value c.in-Some.is c.self.view_is in
    let some = c.self.invariant.0 in
    let here = (seen_so some.start some.events c.args.process c.args.known m c.args.self same
    (subst (IsFollowing some.start some.events) c.self.view_is some.follows) c.requires.known).1 in
    is_shaped some.start some.events m c.args.process c.args.known (subst (IsFollowing some.start some.events) (sym same) (subst (IsFollowing some.start some.events) c.self.view_is some.follows)) here

pub answer_parts-requires-clause-pending : goal.answer_parts-requires-clause-pending
answer_parts-requires-clause-pending c =
    let m : MonitorView = seen_with c.in-Some.parts c.deref_mut-kept.result.now in
    let same : m ≡ c.args.self =
    same_with c.self.inside.kept.value c.deref_mut-kept.result.now c.replace.result c.in-Some.parts c.args.self
    c.deref_mut-kept.ensures.value c.replace.ensures.value c.in-Some.is c.self.view_is in
    let some = c.self.invariant.0 in
    let here = (seen_so some.start some.events c.args.process c.args.known m c.args.self same
    (subst (IsFollowing some.start some.events) c.self.view_is some.follows) c.requires.known).1 in
    pending some.start some.events m c.args.process c.args.known c.args.reply (subst (IsFollowing some.start some.events) (sym same) (subst (IsFollowing some.start some.events) c.self.view_is some.follows)) here

-- the monitor goes on
next : (c : In-Going) (start : Contents) (events : List Event) → IsFollowing start events c.args.self
    → IsFollowing start (events ++ Answer c.args.process c.args.reply ∷ []) (record {
      parts = c.in-Going.parts;
      open_calls = c.remove.new.self.entries;
      puts = c.note_answer.new.recent.items;
      calls = c.deref_mut-kept.result.now.calls;
    })
next c start events h =
    let process = c.args.process in
    let known = c.args.known in
    let reply = c.args.reply in
    let recent = c.note_answer.new.recent.items in
    let m : MonitorView = seen_with c.in-Some.parts c.deref_mut-kept.result.now in
    let same : m ≡ c.args.self =
    same_with c.self.inside.kept.value c.deref_mut-kept.result.now c.replace.result c.in-Some.parts c.args.self
    c.deref_mut-kept.ensures.value c.replace.ensures.value c.in-Some.is c.self.view_is in
    let (follows, here) = seen_so start events process known m c.args.self same h c.requires.known in
    let around = around_it start events m process known reply follows here in
    let calls = calls_with start events m process known reply follows here in
    let answered = subst (AreAnswered start c.args.budget m.parts calls known.call reply) c.in-Going.is
    (c.in_ok-parts.ensures.answered start around.front around.back (state_before start events m process known reply follows here)) in
    let changed : (p : ℕ) → known_call c.remove.new.self.entries p ≡ cond (p == process) None (known_call m.open_calls p) = λ p.
    c.remove.ensures.updates.0 p ∙ ap (λ b. cond b None (known_call m.open_calls p)) (at_process process p) in
    goes_on start events m process known reply follows here c.kept_parts_decide.ensures c.in-Going.parts c.remove.new.self.entries recent answered changed
    (recent_then start events m process known reply follows here c.deref_mut-kept.result.now.puts.capacity
    (ap (λ (k : Kept). k.puts.capacity) c.deref_mut-kept.ensures.value ∙ c.self.invariant.1) recent c.note_answer.ensures.puts)

-- what is kept after the event
abbrev after : (c : In-Going) → Option PartsView → MonitorView
after c parts = record {
  parts = parts_of parts;
  open_calls = c.remove.new.self.entries;
  puts = c.note_answer.new.recent.items;
  calls = c.deref_mut-kept.result.now.calls;
}

pub returns-in-Going : goal.returns-in-Going
returns-in-Going c = λ start events h.
    let at = (goal.at.returns-in-Going c).In-Going in (
      accepted start events c.args.self c.args.process c.args.known h c.requires.known c.requires.room,
      subst (λ p. IsFollowing start (events ++ Answer c.args.process c.args.reply ∷ []) (after at p)) (sym c.replace-none.ensures.after)
          (next at start events h),
    )

pub invariant_of-result : goal.invariant_of-result
invariant_of-result c =
    let at = (goal.at.invariant_of-result c).In-Going in
    let some = c.self.invariant.0 in (
      record {
        start = some.start;
        events = some.events ++ Answer c.args.process c.args.reply ∷ [];
        follows = subst (λ p. IsFollowing some.start (some.events ++ Answer c.args.process c.args.reply ∷ []) (after at p))
            (sym c.replace-none.ensures.after)
            (next at some.start some.events (subst (IsFollowing some.start some.events) c.self.view_is some.follows));
      },
      c.note_answer.ensures.capacity ∙ (ap (λ (k : Kept). k.puts.capacity) c.deref_mut-kept.ensures.value ∙ c.self.invariant.1),
      ap is_some c.replace-none.ensures.after,
    )

pub returns-in_ok-loss-in-Lost : goal.returns-in_ok-loss-in-Lost
returns-in_ok-loss-in-Lost c = λ start events h.
    let process = c.args.process in
    let known = c.args.known in
    let reply = c.args.reply in
    let part = c.in-Lost.part in
    let recent = c.note_answer.new.recent.items in
    let open_calls = c.remove.new.self.entries in
    let loss = c.in_ok-loss-in-Lost.loss in
    let m : MonitorView = seen_with c.in-Some.parts c.deref_mut-kept.result.now in
    let same : m ≡ c.args.self =
    same_with c.self.inside.kept.value c.deref_mut-kept.result.now c.replace.result c.in-Some.parts c.args.self
    c.deref_mut-kept.ensures.value c.replace.ensures.value c.in-Some.is c.self.view_is in
    let (follows, here) = seen_so start events process known m c.args.self same h c.requires.known in
    let room : m.parts.now < event_limit = subst (λ (v : MonitorView). v.parts.now < event_limit) (sym same) c.requires.room in
    let around = around_it start events m process known reply follows here in
    let calls = calls_with start events m process known reply follows here in
    let answered = subst (AreAnswered start c.args.budget m.parts calls known.call reply) c.in-Lost.is
    (c.in_ok-parts.ensures.answered start around.front around.back (state_before start events m process known reply follows here)) in
    let made : IsLossAt m.parts.now known part recent open_calls loss =
    subst (λ (n : ℕ). IsLossAt n known part recent open_calls loss) c.now-event.ensures c.in_ok-loss-in-Lost.ensures in
    let changed : (p : ℕ) → known_call c.remove.new.self.entries p ≡ cond (p == process) None (known_call m.open_calls p) = λ p.
    c.remove.ensures.updates.0 p ∙ ap (λ b. cond b None (known_call m.open_calls p)) (at_process process p) in
    let puts = known_then start events m process known reply follows here c.deref_mut-kept.result.now.puts.capacity
    (ap (λ (k : Kept). k.puts.capacity) c.deref_mut-kept.ensures.value ∙ c.self.invariant.1) recent c.note_answer.ensures.puts
    open_calls loss.puts.items changed made.puts in
    let before = calls_before start events m process known reply follows here in
    let ended : MayReply known.call reply
    → IsEndedBy start m.parts.now before (begun known.call known.event) (response_at reply m.parts.now) part =
    subst (IsPartEndedBy start m.parts.now before (begun known.call known.event) reply) c.in-Lost.is
    (c.in_ok-parts.ensures.ended start around.front around.back (state_before start events m process known reply follows here)) in
    is_lost start events m process known reply follows here part recent open_calls loss made c.kept_parts_decide.ensures
    c.orders_are_keyed_orders.ensures answered c.kept_pasts_are_reached.ensures c.prefixes_have_orders.ensures room puts ended

pub returns-in_ok-loss-in-Spent : goal.returns-in_ok-loss-in-Spent
returns-in_ok-loss-in-Spent c = λ start events h.
    let process = c.args.process in
    let known = c.args.known in
    let reply = c.args.reply in
    let part = c.in-Spent.part in
    let recent = c.note_answer.new.recent.items in
    let open_calls = c.remove.new.self.entries in
    let loss = c.in_ok-loss-in-Spent.loss in
    let m : MonitorView = seen_with c.in-Some.parts c.deref_mut-kept.result.now in
    let same : m ≡ c.args.self =
    same_with c.self.inside.kept.value c.deref_mut-kept.result.now c.replace.result c.in-Some.parts c.args.self
    c.deref_mut-kept.ensures.value c.replace.ensures.value c.in-Some.is c.self.view_is in
    let (follows, here) = seen_so start events process known m c.args.self same h c.requires.known in
    let room : m.parts.now < event_limit = subst (λ (v : MonitorView). v.parts.now < event_limit) (sym same) c.requires.room in
    let around = around_it start events m process known reply follows here in
    let calls = calls_with start events m process known reply follows here in
    let answered = subst (AreAnswered start c.args.budget m.parts calls known.call reply) c.in-Spent.is
    (c.in_ok-parts.ensures.answered start around.front around.back (state_before start events m process known reply follows here)) in
    let made : IsLossAt m.parts.now known part recent open_calls loss =
    subst (λ (n : ℕ). IsLossAt n known part recent open_calls loss) c.now-event.ensures c.in_ok-loss-in-Spent.ensures in
    let changed : (p : ℕ) → known_call c.remove.new.self.entries p ≡ cond (p == process) None (known_call m.open_calls p) = λ p.
    c.remove.ensures.updates.0 p ∙ ap (λ b. cond b None (known_call m.open_calls p)) (at_process process p) in
    let puts = known_then start events m process known reply follows here c.deref_mut-kept.result.now.puts.capacity
    (ap (λ (k : Kept). k.puts.capacity) c.deref_mut-kept.ensures.value ∙ c.self.invariant.1) recent c.note_answer.ensures.puts
    open_calls loss.puts.items changed made.puts in
    let before = calls_before start events m process known reply follows here in
    let ended : IsEndedBy start m.parts.now before (begun known.call known.event) (response_at reply m.parts.now) part =
    subst (IsPartEndedBy start m.parts.now before (begun known.call known.event) reply) c.in-Spent.is
    (c.in_ok-parts.ensures.ended start around.front around.back (state_before start events m process known reply follows here)) in
    is_spent start events m process known reply follows here part recent open_calls loss made c.args.budget c.kept_pasts_are_reached.ensures room
    answered puts ended
