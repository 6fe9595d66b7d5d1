-- Places of calls after another call was inserted.
use Rattle.std.specs.Prelude.{ℕ, ◌+◌, nat_lt, cond}
use Rattle.follow_fronts.specs.declared.front.Level.{Level}

-- the place of a call after another one was inserted at a place
abbrev pub moved_up : ℕ → ℕ → ℕ
moved_up place n = cond (nat_lt n place) n (n + 1)

-- a call of a front after another one was inserted at a place of the list
abbrev pub moved : ℕ → Level → Level
moved place level = record { place = moved_up place level.place; undo = level.undo }
