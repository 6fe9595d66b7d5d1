-- What goes wrong on its own has no order.
use Rattle.cli_follow.proofs.Common.{◌≡◌, ℕ, List, [], ◌∷◌, length, map, All, ap, arith, All-nil, All-cons, All-head, All-tail, IfSome, Event}
use Rattle.cli_follow.proofs.Common.{Reply, Contents, IsLinearizable, IsDead, pasts_of, Violation, KeyCore, part_of, IsLost}
use Rattle.follow_cuts.specs.PartCuts.{kept_of}
use Rattle.follow_cuts.specs.declared.past.Past.{Past}
use Rattle.follow_violations.specs.declared.puts.Put.{Put}
use Rattle.follow_monitor.specs.Calls.{MayReply}

abbrev pub IsRefuted : KeyCore → Type 0
IsRefuted part = IsLinearizable part.start part.calls → ⊥

-- if the only past is dead, its calls have no order
pub own_refuted : (puts : List Put) (pasts : List Past) → All IsDead (map kept_of pasts) → IfSome (part_of puts pasts) IsRefuted
own_refuted puts [] dead = tt
own_refuted puts (past ∷ []) dead = All-head IsDead (kept_of past) [] dead
own_refuted puts (past ∷ other ∷ pasts) dead = tt

some_past : (past : Past) (pasts : List Past) → past ∷ pasts ≡ [] → ⊥
some_past past pasts none = let size = ap (length {A = Past}) none in omega arith

-- pasts are dead if they are so by some fact, and there are none if it is false
dead_by : (Fact : Type 0) (pasts : List Past) → (Fact → All IsDead (map kept_of pasts)) → ((Fact → ⊥) → pasts ≡ [])
    → All IsDead (map kept_of pasts)
dead_by Fact [] dead none = All-nil IsDead
dead_by Fact (past ∷ pasts) dead none =
    All-cons IsDead (kept_of past) (map kept_of pasts)
    (λ order. some_past past pasts (none (λ fact. All-head IsDead (kept_of past) (map kept_of pasts) (dead fact) order)))
    (dead_by Fact pasts (λ fact. All-tail IsDead (kept_of past) (map kept_of pasts) (dead fact))
    (λ wrong. absurd (some_past past pasts (none wrong))))

-- if the events go wrong, no past of the part has an order
pub lost_dead : (start : Contents) (events : List Event) (process : ℕ) (reply : Reply) (loss : Violation) → IsLost start events process reply loss
    → All IsDead (pasts_of loss.part)
lost_dead start events process reply loss lost =
    dead_by (MayReply loss.call reply) loss.part.pasts.items (λ may. (lost.part may).1) lost.none
