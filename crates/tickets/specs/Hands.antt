-- What a clause can say of tickets and of a hand.
use Rattle.std.specs.Prelude.{◌≡◌, ℕ, ◌+◌, List, length}
use Rattle.atomic_table.specs.Seated.{TableId}
use Rattle.tickets.specs.declared.hand.Hand.{Hand}
use Rattle.tickets.specs.declared.tickets.Tickets.{Tickets}

-- which counter the tickets are
abbrev pub counter : Tickets → TableId
counter t = t.table.shared.table_id

-- how many numbers can be drawn in all
abbrev pub quota_of : Tickets → ℕ
quota_of t = t.quota

-- the counter from which a hand draws
abbrev pub counter_of : Hand → TableId
counter_of h = h.seat.table_id

-- what a hand drew, and what the hands that were joined to it drew
abbrev pub drawn_by : Hand → List ℕ
drawn_by h = h.seat.me.0.drawn

-- how many numbers a hand may still draw
abbrev pub left_of : Hand → ℕ
left_of h = h.seat.me.0.left

-- a hand draws no number below its floor
abbrev pub floor_of : Hand → ℕ
floor_of h = h.seat.me.0.floor

-- how much of the quota a hand has, drawn or left
abbrev pub share_of : Hand → ℕ
share_of h = length (drawn_by h) + left_of h

-- a hand drew these numbers, may draw this many more, and has this floor
pub record Holds (h : Hand) (drawn : List ℕ) (left floor : ℕ) : Type 0 where
  pub drawn_is : drawn_by h ≡ drawn
  pub left_is : left_of h ≡ left
  pub floor_is : floor_of h ≡ floor
