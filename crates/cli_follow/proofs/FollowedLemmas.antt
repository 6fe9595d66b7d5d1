-- What an event makes of a stream.
use Rattle.follow_monitor.specs.declared.fault.FollowFault.TheVariants as turns
use Rattle.cli_follow.proofs.Common.{◌≡◌, ℕ, ◌+◌, ◌-◌, ◌^◌, ◌<◌, min, Bool, true, false, List, [], ◌∷◌, ◌++◌, length, Option, Some, None, cond}
use Rattle.cli_follow.proofs.Common.{refl, sym, ap, subst, ◌∙◌, arith, false≢true, nat_tests, is_some, nat_lt, nat_le, Call, Reply, Event, Invoke}
use Rattle.cli_follow.proofs.Common.{Answer, HistoryView, with_event, SpellsEvent, event_limit, invocation_fault, FollowFault, IsFollowing}
use Rattle.cli_follow.proofs.Common.{Followed, FollowsStream, IsFollowed, SpellStream, TextVersion}
use Rattle.events.specs.HistoryFaults.{has_open_call}
use Rattle.events.specs.Keys.{low_key, high_key}
use Rattle.cli_outcome.proofs.OverlapLemmas.{pending-room, overlap-room, pending-kept, overlap-kept}
use Rattle.follow_monitor.specs.MonitorView.{MonitorView}
use Rattle.cli_follow.proofs.StreamLemmas.{SpellStream-push}

-- if no test fails, the last one does not
none_of : (x y z : Bool) (s n t : FollowFault) → cond x (Some s) (cond y (Some n) (cond z (Some t) None)) ≡ None → z ≡ false
none_of true y z s n t h = absurd (false≢true (sym (ap (λ (o : Option FollowFault). is_some o) h)))
none_of false true z s n t h = absurd (false≢true (sym (ap (λ (o : Option FollowFault). is_some o) h)))
none_of false false true s n t h = absurd (false≢true (sym (ap (λ (o : Option FollowFault). is_some o) h)))
none_of false false false s n t h = refl

-- an event that is taken is below the limit
room : (events : List Event) (process : ℕ) (call : Call) → invocation_fault events process call ≡ None → length events < event_limit
room events process call h =
    let late : nat_le event_limit (length events) ≡ false =
    none_of (nat_lt (high_key call) (low_key call)) (has_open_call process events) (nat_le event_limit (length events))
    turns.Shape turns.NotWellFormed turns.TooMany h in
    grind (arith, nat_tests)

pub invoked : (stream : HistoryView) (f : Followed) (m : MonitorView) (process : ℕ) (call : Call) (pending overlap : ℕ) → FollowsStream stream f
    → IsFollowing stream.start (stream.events ++ Invoke process call ∷ []) m
    → invocation_fault stream.events process call ≡ None → pending ≡ min (f.pending + 1) (2 ^ 64 - 1)
    → overlap ≡ min (f.overlap + f.pending) (2 ^ 64 - 1)
    → FollowsStream (with_event stream (Invoke process call)) (record { monitor = m; version = f.version; pending = pending; overlap = overlap })
invoked stream f m process call pending overlap before follows accepted pending_is overlap_is =
    let events = stream.events in
    let below = room events process call accepted in
    let few : length events < 2 ^ 64 - 1 = omega (arith, below) in
    record {
      follows = follows;
      pending = pending_is ∙ pending-room events process call f.pending few before.pending;
      overlap = overlap_is ∙ overlap-room events process call f.pending f.overlap before.pending before.overlap;
    }

pub answered : (stream : HistoryView) (f : Followed) (m : MonitorView) (process : ℕ) (reply : Reply) (pending : ℕ) → FollowsStream stream f
    → IsFollowing stream.start (stream.events ++ Answer process reply ∷ []) m → pending ≡ f.pending - 1
    → FollowsStream (with_event stream (Answer process reply)) (record { monitor = m; version = f.version; pending = pending; overlap = f.overlap })
answered stream f m process reply pending before follows pending_is =
    let events = stream.events in
    record {
      follows = follows;
      pending = pending_is ∙ pending-kept events process reply f.pending before.pending;
      overlap = overlap-kept events process reply f.overlap before.overlap;
    }

-- ---- lines that spell the events

-- what the lines spell is followed
pub as_stream : (read : List (List ℕ)) (f : Followed) (followed : IsFollowed read f) → FollowsStream followed.stream f
as_stream read f followed = record { follows = followed.follows; pending = followed.pending; overlap = followed.overlap }

-- a line spells an event that is followed
pub line_taken : (read : List (List ℕ)) (line : List ℕ) (f next : Followed) (e : Event) (followed : IsFollowed read f)
    → SpellsEvent f.version line e → next.version ≡ f.version → FollowsStream (with_event followed.stream e) next
    → IsFollowed (read ++ line ∷ []) next
line_taken read line f next e followed spelled same after = record {
  stream = with_event followed.stream e;
  spelled = subst (λ (version : TextVersion). SpellStream version (read ++ line ∷ []) (with_event followed.stream e)) (sym same)
      (SpellStream-push f.version read followed.stream line e followed.spelled spelled);
  follows = after.follows;
  pending = after.pending;
  overlap = after.overlap;
}
