use Rattle.follow_monitor.proofs.Common.{Buffer, IsFollowing, Kept, Put, sym, ap, subst, ◌∙◌, [], is_some}
use Rattle.follow_monitor.proofs.KeptLemmas.{seen}
use Rattle.follow_monitor.proofs.StartLemmas.{nothing_followed}
use Rattle.follow_monitor.proofs.monitor.Monitor.new.Goals as goal

follows : (c : goal.In_ok-boxed) → IsFollowing c.args.start.now [] (record {
  parts = c.in_ok-parts.parts;
  open_calls = c.new-open_calls.result.entries;
  puts = c.in_ok-puts.puts.items;
  calls = 0;
})
follows c =
    nothing_followed c.args.start.now c.in_ok-parts.parts c.new-open_calls.result.entries c.in_ok-puts.puts.items c.requires c.in_ok-parts.ensures.state
    c.in_ok-parts.ensures.counted c.new-open_calls.ensures.empty (ap (λ (b : Buffer Put). b.items) c.in_ok-puts.ensures)

pub returns : goal.returns
returns c = subst (λ (k : Kept). IsFollowing c.args.start.now [] (seen k)) (sym c.in_ok-boxed.ensures.ok) (follows c)

pub invariant_of-result : goal.invariant_of-result
invariant_of-result c = (
  record {
    start = c.args.start.now;
    events = [];
    follows = subst (λ (k : Kept). IsFollowing c.args.start.now [] (seen k)) (sym c.in_ok-boxed.ensures.ok) (follows c);
  },
  ap (λ (k : Kept). k.puts.capacity) c.in_ok-boxed.ensures.ok ∙ ap (λ (b : Buffer Put). b.capacity) c.in_ok-puts.ensures,
  ap (λ (k : Kept). is_some k.parts) c.in_ok-boxed.ensures.ok,
)
