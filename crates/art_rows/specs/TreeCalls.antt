-- Which calls a tree can do.
use Rattle.std.specs.Prelude.{◌^◌, Bool, ◌&&◌, nat_lt, nat_le}
use Rattle.events.specs.declared.event.Call.{Call}
use Rattle.events.specs.declared.event.Call.TheVariants.{Get, Insert, Remove, Scan, Replace}

-- whether keys and values are within the trees' limits, and a scan's first key is not above its last
abbrev pub is_tree_call : Call → Bool
is_tree_call (Get key) = nat_lt key (2 ^ 32)
is_tree_call (Insert key value) = nat_lt key (2 ^ 32) && nat_lt value (2 ^ 30)
is_tree_call (Remove key) = nat_lt key (2 ^ 32)
is_tree_call (Scan low high) = nat_le low high && nat_lt high (2 ^ 32)
is_tree_call (Replace key old new) = nat_lt key (2 ^ 32) && (nat_lt old (2 ^ 30) && nat_lt new (2 ^ 30))
