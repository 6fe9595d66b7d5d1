-- The keys that a call names, and whether it may change the map.
use Rattle.std.specs.Prelude.{ℕ, Bool, true, false}
use Rattle.events.specs.declared.event.Call.{Call}
use Rattle.events.specs.declared.event.Call.TheVariants.{Get, Insert, Remove, Scan, Replace}

-- the least and the greatest key that a call names
abbrev pub low_key : Call → ℕ
low_key (Get key) = key
low_key (Insert key value) = key
low_key (Remove key) = key
low_key (Scan low high) = low
low_key (Replace key old new) = key

abbrev pub high_key : Call → ℕ
high_key (Get key) = key
high_key (Insert key value) = key
high_key (Remove key) = key
high_key (Scan low high) = high
high_key (Replace key old new) = key

-- whether a call may change the map
abbrev pub may_change : Call → Bool
may_change (Get key) = false
may_change (Insert key value) = true
may_change (Remove key) = true
may_change (Scan low high) = false
may_change (Replace key old new) = true
