-- What is said where a stream goes wrong may be so.
use Rattle.follow_monitor.proofs.Common.{All-from_contains, operations, Call, Get, Insert, Remove, Scan, Replace, Event, Answer, Reply, Operation}
use Rattle.follow_monitor.proofs.Common.{concerns_key, HasKeysIn, IsPutOf, DoubtsAreReached, LossesAreReached, MayBeSo, IsKeptWith, IsOfAnswer}
use Rattle.follow_monitor.proofs.Common.{ArePutsOf, IsAnsweredPut, Violation, Put, begun, pasts_of, covered, Contents, IsRising, ◌≡◌, ℕ, suc, true}
use Rattle.follow_monitor.proofs.Common.{List, [], ◌∷◌, ◌++◌, length, None, Some, sym, subst, eq-eqb, All-append, All-weaker, none-some, same_Some}
use Rattle.follow_monitor.proofs.Common.{All, Any, any_of, any_weaker}
use Rattle.follow_violations.specs.KeyLosses.{AreKeyLosses, key_of}
use Rattle.follow_violations.specs.Laws.{ValuesAreReached}
use Rattle.follow_violations.specs.declared.lost_keys.KeyViolation.{KeyViolation}

-- the only key of a call
only_key : (call : Call) (key : ℕ) → key_of call ≡ Some key → concerns_key call key ≡ true
only_key (Get own) key is = eq-eqb own key (same_Some own key is)
only_key (Insert own value) key is = eq-eqb own key (same_Some own key is)
only_key (Remove own) key is = eq-eqb own key (same_Some own key is)
only_key (Scan low high) key is = absurd (none-some key is)
only_key (Replace own expected value) key is = eq-eqb own key (same_Some own key is)

-- the known puts are those of some of the calls
puts_of_calls : (calls : List Operation) (puts : List Put) → ArePutsOf calls puts → All (λ p. Any (λ o. IsPutOf o p) calls) puts
puts_of_calls calls puts are =
    subst (λ (l : List Put). All IsOfSome l) (sym are.parts)
    (All-append IsOfSome are.recent are.pending
    (All-weaker (λ p. (place : ℕ) × IsAnsweredPut calls p place) IsOfSome
    (λ p (place, is). any_of (λ o. IsPutOf o p) calls is.call is.there is.is) are.recent are.are_recent.each)
    (All-from_contains IsOfSome are.pending (λ p p_in.
    any_weaker (λ o. (o.response ≡ None) × IsPutOf o p) (λ o. IsPutOf o p) calls (λ o both. both.1) ((are.are_pending.each p).0 p_in))))
  where
    IsOfSome : Put → Type 0
    IsOfSome p = Any (λ (o : Operation). IsPutOf o p) calls

-- all that is said of a part which the answer ends, and which is kept with it
module _ (law : ValuesAreReached) (start : Contents) (events : List Event) (process : ℕ) (reply : Reply) (loss : Violation) (losses : List KeyViolation)
    (rising : IsRising start) (are : AreKeyLosses (Some loss.call) (pasts_of loss.part) loss.puts.items losses) where
  abbrev calls : List Operation
  calls = operations (events ++ Answer process reply ∷ [])

  may_be_so : (of_answer : IsOfAnswer events process loss) → IsKeptWith start events process reply loss
      → HasKeysIn (covered loss.part.ranges.items) (begun of_answer.known.call of_answer.known.event) → ArePutsOf calls loss.puts.items
      → MayBeSo start calls loss losses
  may_be_so of_answer kept keys puts =
      law start (suc (length events)) calls loss.part (Some loss.call) loss.puts.items losses rising kept
      (λ key own. keys key (subst (λ (c : Call). concerns_key c key ≡ true) of_answer.call_is (only_key loss.call key own)))
      (puts_of_calls calls loss.puts.items puts) are

pub losses_are_reached : ValuesAreReached → LossesAreReached
losses_are_reached law start events process reply loss losses rising lost replies are =
    may_be_so law start events process reply loss losses rising are lost.of_answer (lost.part replies).0 (lost.before replies).keys lost.puts

pub doubts_are_reached : ValuesAreReached → DoubtsAreReached
doubts_are_reached law start events process reply budget loss losses rising spent are =
    may_be_so law start events process reply loss losses rising are spent.of_answer spent.part.0 spent.before.keys spent.puts
