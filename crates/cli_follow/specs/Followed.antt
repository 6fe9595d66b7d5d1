-- The state of a run after some events, or after some lines, of a stream.
use Rattle.std.specs.Prelude.{◌≡◌, ℕ, List}
use Rattle.events.specs.HistoryView.{HistoryView}
use Rattle.follow_monitor.specs.Following.{IsFollowing}
use Rattle.cli_follow.specs.declared.followed.Followed.{Followed}
use Rattle.cli_follow.specs.StreamTexts.{SpellStream}
use Rattle.cli_outcome.specs.Overlaps.{pending_after, overlap_of}

-- the monitor follows this stream
pub record FollowsStream (stream : HistoryView) (f : Followed) : Type 0 where
  pub follows : IsFollowing stream.start stream.events f.monitor
  pub pending : f.pending ≡ pending_after 0 stream.events
  pub overlap : f.overlap ≡ overlap_of stream.events

-- these lines were read and spell a stream, which the monitor follows
pub record IsFollowed (read : List (List ℕ)) (f : Followed) : Type 0 where
  pub stream : HistoryView
  pub spelled : SpellStream f.version read stream
  pub follows : IsFollowing stream.start stream.events f.monitor
  pub pending : f.pending ≡ pending_after 0 stream.events
  pub overlap : f.overlap ≡ overlap_of stream.events
