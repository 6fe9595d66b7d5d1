-- A monitor before any event.
use Rattle.follow_monitor.proofs.Common.{AllPairs-nil, low_key, high_key, precedes, Invoke, Operation, IsFollowing, known_call, put_limit}
use Rattle.follow_monitor.proofs.Common.{AreRecentPuts, OpenCall, Put, IsStateOf, PartsView, Contents, IsRising, IsLinearizable, ◌≡◌, ◌≢◌, ℕ, ◌<◌}
use Rattle.follow_monitor.proofs.Common.{◌≤◌, false, List, [], refl, sym, ap, ◌∙◌, subst, All-nil, none-some}
use Rattle.follow_monitor.proofs.PutLemmas.{no_puts}

none_ordered : (m : Contents) → IsLinearizable m []
none_ordered m = (
  [],
  record {
    legal_order = record {
      known = All-nil (λ (n : ℕ). n < 0);
      distinct = AllPairs-nil (λ (m n : ℕ). m ≢ n);
      precedence = AllPairs-nil (λ (a b : Operation). precedes b a ≡ false);
      legal = tt;
    };
    complete = λ n completed. absurd completed;
  },
)

pub nothing_followed : (start : Contents) (parts : PartsView) (open_calls : List (ℕ × OpenCall)) (puts : List Put) → IsRising start
    → IsStateOf start [] parts → parts.now ≡ 0 → open_calls ≡ [] → puts ≡ []
    → IsFollowing start [] (record { parts = parts; open_calls = open_calls; puts = puts; calls = 0 })
nothing_followed start parts open_calls puts rising state counted none no_recent = record {
  state = state;
  rising = rising;
  well_formed = λ p. refl;
  calls_open = λ process c here. absurd (none-some c (ap (λ (calls : List (ℕ × OpenCall)). known_call calls process) (sym none) ∙ here));
  all_open = λ process event call own. absurd (none-some (Invoke process call) own.invoked);
  shaped = All-nil (λ (a : Operation). low_key a.call ≤ high_key a.call);
  events_are = counted;
  puts_are = subst (AreRecentPuts []) (sym no_recent) (no_puts put_limit);
  calls_are = refl;
  linearizable = none_ordered start;
}
