-- What is wrong with an event, by the open calls that are known.
use Rattle.follow_monitor.specs.declared.fault.FollowFault.TheVariants as faults
use Rattle.follow_monitor.proofs.Common.{has_open_call, low_key, high_key, Call, Event, event_limit, invocation_fault, answer_fault, IsFollowing}
use Rattle.follow_monitor.proofs.Common.{MonitorView, known_call, OpenCall, Contents, ◌≡◌, ℕ, ◌<◌, ◌≤◌, true, false, List, length, Option, Some, None}
use Rattle.follow_monitor.proofs.Common.{refl, sym, ◌∙◌, is_some, false_from_ne_true, le-leb, le-ltb, lt-leb, none-some}
use Rattle.follow_monitor.proofs.OpenLemmas.{is_open, open_of}

-- a test of what is known
pub some_known : (o : Option OpenCall) → is_some o ≡ true → (c : OpenCall) × (o ≡ Some c)
some_known None h = cc
some_known (Some c) h = (c, refl)

pub none_known : (o : Option OpenCall) → is_some o ≡ false → o ≡ None
none_known None h = refl
none_known (Some c) h = cc

module _ (start : Contents) (events : List Event) (m : MonitorView) (process : ℕ) (h : IsFollowing start events m) where
  pub waits : (c : OpenCall) → known_call m.open_calls process ≡ Some c → has_open_call process events ≡ true
  waits c here = is_open events process c.event c.call (h.calls_open process c here).is_open

  pub idles : known_call m.open_calls process ≡ None → has_open_call process events ≡ false
  idles none = false_from_ne_true (has_open_call process events) (λ own.
      let (place, rest) = open_of events process h.well_formed own in
      let (call, is) = rest in
      let (c, here, same) = h.all_open process place call is in
      none-some c (sym none ∙ here))

-- of an invocation
module _ (events : List Event) (process : ℕ) (call : Call) (shaped : low_key call ≤ high_key call) where
  pub open_fault : has_open_call process events ≡ true → invocation_fault events process call ≡ Some faults.NotWellFormed
  open_fault own = rw (le-ltb (high_key call) (low_key call) shaped, own) refl

  pub many_fault : has_open_call process events ≡ false → event_limit ≤ length events → invocation_fault events process call ≡ Some faults.TooMany
  many_fault closed many = rw (le-ltb (high_key call) (low_key call) shaped, closed, le-leb event_limit (length events) many) refl

  pub no_fault : has_open_call process events ≡ false → length events < event_limit → invocation_fault events process call ≡ None
  no_fault closed room = rw (le-ltb (high_key call) (low_key call) shaped, closed, lt-leb event_limit (length events) room) refl

-- of an answer
module _ (events : List Event) (process : ℕ) where
  pub idle_answer : has_open_call process events ≡ false → answer_fault events process ≡ Some faults.NotWellFormed
  idle_answer closed = rw closed refl

  pub many_answers : has_open_call process events ≡ true → event_limit ≤ length events → answer_fault events process ≡ Some faults.TooMany
  many_answers own many = rw (own, le-leb event_limit (length events) many) refl

  pub fine_answer : has_open_call process events ≡ true → length events < event_limit → answer_fault events process ≡ None
  fine_answer own room = rw (own, lt-leb event_limit (length events) room) refl
