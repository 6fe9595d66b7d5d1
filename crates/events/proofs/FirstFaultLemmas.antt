-- Pairs and events have one first fault at most, and with one they are no history.
use Rattle.events.specs.declared.fault.HistoryFault.TheVariants as faults
use Rattle.events.proofs.Common.{◌≡◌, ℕ, List, [], ◌∷◌, ◌++◌, Option, Some, None, sym, ap, ◌∙◌, refl, subst, inl, inr, ⊎_elim, ◌⊎◌, same_Some, Event}
use Rattle.events.proofs.Common.{HistoryFault, IsStart, AreHistoryEvents, pair_fault_after, fault_after, IsFirstFaultOf, IsFirstPairFault}
use Rattle.events.proofs.Common.{IsFirstEventFault, IsFirstFault, IsRefusedFor, IsRefusedAfter, IsPairRefusedAfter, HistoryView}
use Rattle.events.specs.Laws.{HasOneFirstFault, FaultyIsNoHistory}
use Rattle.events.proofs.HistoryLemmas.{AreHistoryEvents-next}
use Rattle.events.proofs.StartLemmas.{IsStart-next}

-- a list goes on with an item after some others
record GoesOnWith {X : Type 0} (items before : List X) (x : X) : Type 0 where
  more : List X
  parts : items ≡ before ++ x ∷ more

-- two splits of a list: at one place, or one further on than the other
abbrev SplitsAlike : {X : Type 0} → List X → List X → X → X → Type 0
SplitsAlike before ahead next after = ((before ≡ ahead) × (next ≡ after)) ⊎ (GoesOnWith before ahead after ⊎ GoesOnWith ahead before next)

-- two splits of a list are also two of the list with one item more at its front
splits_on : {X : Type 0} (x : X) (before ahead : List X) (next after : X) → SplitsAlike before ahead next after
    → SplitsAlike (x ∷ before) (x ∷ ahead) next after
splits_on {X = X} x before ahead next after (inl h) = inl (ap (λ (xs : List X). x ∷ xs) h.0, h.1)
splits_on {X = X} x before ahead next after (inr (inl h)) =
    inr (inl (record { more = h.more; parts = ap (λ (xs : List X). x ∷ xs) h.parts }))
splits_on {X = X} x before ahead next after (inr (inr h)) =
    inr (inr (record { more = h.more; parts = ap (λ (xs : List X). x ∷ xs) h.parts }))

two_splits : {X : Type 0} (before ahead : List X) (next after : X) (rest more : List X) → before ++ next ∷ rest ≡ ahead ++ after ∷ more
    → SplitsAlike before ahead next after
two_splits [] [] next after rest more h = inl (refl, (cc))
two_splits [] (a ∷ ahead) next after rest more h = inr (inr (record { more = ahead; parts = (cc) }))
two_splits (b ∷ before) [] next after rest more h = inr (inl (record { more = before; parts = (cc) }))
two_splits {X = X} (b ∷ before) (a ∷ ahead) next after rest more h =
    let same : b ≡ a = cc in
    subst (λ (x : X). SplitsAlike (x ∷ before) (a ∷ ahead) next after) (sym same)
    (splits_on a before ahead next after (two_splits before ahead next after rest more (cc)))

-- no item of a sound list shows a fault after the items before it
module _ {X : Type 0} (IsSound : List X → Type 0) (fault_of_next : List X → X → Option HistoryFault)
    (none_next : (before rest : List X) (x : X) → IsSound (before ++ x ∷ rest) → fault_of_next before x ≡ None) where
  none_within : (items before : List X) (x : X) (fault : HistoryFault) → IsSound items → GoesOnWith items before x
      → fault_of_next before x ≡ Some fault → ⊥
  none_within items before x fault h on shows =
      let none = none_next before on.more x (rw (← on.parts) h) in
      absurd (cc (shows, none))

  pub one_first_fault_of : (items : List X) (fault other : HistoryFault) → IsFirstFaultOf IsSound fault_of_next items fault
      → IsFirstFaultOf IsSound fault_of_next items other → fault ≡ other
  one_first_fault_of items fault other first second =
      ⊎_elim
      (λ alike. same_Some fault other (sym first.shows ∙ (rw (alike.0, alike.1) second.shows)))
      (λ apart. ⊎_elim
      (λ on. absurd (none_within first.before second.before second.next other first.sound on second.shows))
      (λ on. absurd (none_within second.before first.before first.next fault second.sound on first.shows)) apart)
      (two_splits first.before second.before first.next second.next first.rest second.rest (sym first.parts ∙ second.parts))

  pub IsFirstFaultOf-not_sound : (items : List X) (fault : HistoryFault) → IsFirstFaultOf IsSound fault_of_next items fault
      → IsSound items → ⊥
  IsFirstFaultOf-not_sound items fault first h =
      let none = none_next first.before first.rest first.next (rw (← first.parts) h) in
      absurd (cc (first.shows, none))

pub IsFirstPairFault-not_start : (pairs : List (ℕ × ℕ)) (fault : HistoryFault) → IsFirstPairFault pairs fault → IsStart pairs → ⊥
IsFirstPairFault-not_start = IsFirstFaultOf-not_sound IsStart pair_fault_after IsStart-next

pub IsFirstEventFault-not_events : (events : List Event) (fault : HistoryFault) → IsFirstEventFault events fault
    → AreHistoryEvents events → ⊥
IsFirstEventFault-not_events = IsFirstFaultOf-not_sound AreHistoryEvents fault_after AreHistoryEvents-next

pub one_first_fault : HasOneFirstFault
one_first_fault history fault other (inl first) (inl second) =
    one_first_fault_of IsStart pair_fault_after IsStart-next history.start fault other first second
one_first_fault history fault other (inl first) (inr second) = absurd (IsFirstPairFault-not_start history.start fault first second.0)
one_first_fault history fault other (inr first) (inl second) = absurd (IsFirstPairFault-not_start history.start other second first.0)
one_first_fault history fault other (inr first) (inr second) =
    one_first_fault_of AreHistoryEvents fault_after AreHistoryEvents-next history.events fault other first.1 second.1

pub faulty_is_no_history : FaultyIsNoHistory
faulty_is_no_history history fault (inl first) h = IsFirstPairFault-not_start history.start fault first h.start
faulty_is_no_history history fault (inr first) h = IsFirstEventFault-not_events history.events fault first.1 h.events

-- a first fault is why pairs and events are refused, and what is wrong with an event or a pair is why it is
pub IsRefusedFor-from_first : (history : HistoryView) (fault : HistoryFault) → IsFirstFault history fault → IsRefusedFor history fault
IsRefusedFor-from_first history faults.TooLong h = h
IsRefusedFor-from_first history faults.NotJson h = h
IsRefusedFor-from_first history faults.Version h = h
IsRefusedFor-from_first history (faults.Shape event) h = h
IsRefusedFor-from_first history faults.TooMany h = h
IsRefusedFor-from_first history (faults.NotWellFormed event) h = h
IsRefusedFor-from_first history faults.Memory h = tt
IsRefusedFor-from_first history (faults.Start pair) h = h

pub IsRefusedAfter-from_fault : (before : List Event) (e : Event) (fault : HistoryFault) → fault_after before e ≡ Some fault
    → IsRefusedAfter before e fault
IsRefusedAfter-from_fault before e faults.TooLong h = h
IsRefusedAfter-from_fault before e faults.NotJson h = h
IsRefusedAfter-from_fault before e faults.Version h = h
IsRefusedAfter-from_fault before e (faults.Shape event) h = h
IsRefusedAfter-from_fault before e faults.TooMany h = h
IsRefusedAfter-from_fault before e (faults.NotWellFormed event) h = h
IsRefusedAfter-from_fault before e faults.Memory h = tt
IsRefusedAfter-from_fault before e (faults.Start pair) h = h

pub IsPairRefusedAfter-from_fault : (before : List (ℕ × ℕ)) (pair : ℕ × ℕ) (fault : HistoryFault)
    → pair_fault_after before pair ≡ Some fault
    → IsPairRefusedAfter before pair fault
IsPairRefusedAfter-from_fault before pair faults.TooLong h = h
IsPairRefusedAfter-from_fault before pair faults.NotJson h = h
IsPairRefusedAfter-from_fault before pair faults.Version h = h
IsPairRefusedAfter-from_fault before pair (faults.Shape event) h = h
IsPairRefusedAfter-from_fault before pair faults.TooMany h = h
IsPairRefusedAfter-from_fault before pair (faults.NotWellFormed event) h = h
IsPairRefusedAfter-from_fault before pair faults.Memory h = tt
IsPairRefusedAfter-from_fault before pair (faults.Start place) h = h
