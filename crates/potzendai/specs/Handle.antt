-- What the handle of a stream owns.
use Rattle.std.specs.Prelude.{◌≡◌, Bool, true, false, Option, None, Some}
use base.Fml.{Fml, ftrue, fsep, fex}
use denote.RawPtr.{Ptr}
use Rattle.std.specs.Global.{Global}
use Rattle.std.specs.Box.Ownership.{box_owns}
use Rattle.std.specs.contracts.impls.GlobalAllocator.TheImpl.{ghosts}
use Rattle.cli_follow.specs.declared.line_follower.LineFollower.{LineFollower}
use Rattle.cli_follow.specs.contracts.line_follower.LineFollower.{the_row}

-- the allocator
abbrev pub heap : Global
heap = record { memory = record { seal = tt } }

-- the follower in the block at a place, with the right to free it
abbrev pub boxed : Ptr → LineFollower → Fml
boxed place follower = box_owns (ghosts.dealloc_token heap) the_row place follower

-- if the handle is open, this is its follower, which it owns; otherwise there is none
abbrev pub held : Bool → Ptr → Option LineFollower → Fml
held true place follows = fex LineFollower (λ follower. fsep (fex (follows ≡ Some follower) (λ _. ftrue)) (boxed place follower))
held false place follows = fex (follows ≡ None) (λ _. ftrue)
