-- Whether some map answers a call so depends on comparisons of numbers only: it does, unless that is refuted.
use Rattle.events.specs.declared.event.Reply.TheVariants as replies
use Rattle.explain_locate.proofs.Common.{◌≡◌, ℕ, ◌<◌, ◌≤◌, ⊎_elim, List, Some, All, ap, arith, sym, ◌∙◌, cases_lt, none-some, Call, Get, Insert, Remove}
use Rattle.explain_locate.proofs.Common.{Scan, Replace, Event, Reply, Contents, Violation, KeyCore, key_core, part_of, IsKeptWith, IsLost}
use Rattle.follow_laws.specs.Forms.{ArePairsOf, IsScanReply}
use Rattle.follow_pasts.specs.Pasts.{IsDead}
use Rattle.follow_parts.specs.Keeping.{pasts_of}
use Rattle.follow_monitor.specs.Calls.{MayReply}

less : (a b : ℕ) → ((a < b → ⊥) → ⊥) → a < b
less a b is = ⊎_elim (λ h. h) (λ not_less. absurd (is (λ h. omega arith))) (cases_lt a b)

no_more : (a b : ℕ) → ((a ≤ b → ⊥) → ⊥) → a ≤ b
no_more a b is = ⊎_elim (λ more. absurd (is (λ h. omega arith))) (λ h. h) (cases_lt b a)

are_pairs : (low high : ℕ) (pairs : Contents) → ((ArePairsOf low high pairs → ⊥) → ⊥) → ArePairsOf low high pairs
are_pairs low high pairs is = record {
  rising = λ i j d before inside. less _ _ (λ never. is (λ h. never (h.rising i j d before inside)));
  within = λ n d inside. (
    no_more _ _ (λ never. is (λ h. never (h.within n d inside).0)),
    no_more _ _ (λ never. is (λ h. never (h.within n d inside).1)),
  );
}

scan_reply : (low high : ℕ) (reply : Reply) → ((IsScanReply low high reply → ⊥) → ⊥) → IsScanReply low high reply
scan_reply low high replies.None is = absurd (is (λ h. h))
scan_reply low high (replies.Some value) is = absurd (is (λ h. h))
scan_reply low high (replies.Pairs pairs) is = are_pairs low high pairs is
scan_reply low high replies.Refused is = tt
scan_reply low high replies.Done is = tt
scan_reply low high replies.Found is = absurd (is (λ h. h))
scan_reply low high replies.Other is = absurd (is (λ h. h))

may_reply : (call : Call) (reply : Reply) → ((MayReply call reply → ⊥) → ⊥) → MayReply call reply
may_reply (Get key) reply is = tt
may_reply (Insert key value) reply is = tt
may_reply (Remove key) reply is = tt
may_reply (Scan low high) reply is = scan_reply low high reply is
may_reply (Replace key expected value) reply is = tt

-- if something goes wrong on its own, the part of a loss and others represent the calls, and its pasts have no order
pub kept_of_own : (start : Contents) (events : List Event) (process : ℕ) (reply : Reply) (loss : Violation) (part : KeyCore)
    → IsLost start events process reply loss → key_core loss ≡ Some part
    → IsKeptWith start events process reply loss × All IsDead (pasts_of loss.part)
kept_of_own start events process reply loss part is own =
    is.part (may_reply loss.call reply (λ never. none-some part (sym (ap (part_of loss.puts.items) (is.none never)) ∙ own)))
