-- The limits of the numbers that a command line gives, and the defaults of those that may be left
-- out.
use Rattle.std.specs.Prelude.{ℕ}

-- the greatest budget
abbrev pub budget_limit : ℕ
budget_limit = 1000000

-- the budget if none is given
abbrev pub budget_default : ℕ
budget_default = 100000

-- the most workers
abbrev pub workers_limit : ℕ
workers_limit = 64

-- the number of workers if none is given
abbrev pub workers_default : ℕ
workers_default = 1

-- the greatest number of an event in the middle of a picture; no history has that event, and it is
-- the default
abbrev pub around_limit : ℕ
around_limit = 8192

-- the greatest number of calls for which a picture has room; no history has as many, and it is the
-- default
abbrev pub shown_limit : ℕ
shown_limit = 4097

-- the most rows of each kind, by their children, that the table of a tree has
abbrev pub rows4_limit : ℕ
rows4_limit = 4096

abbrev pub rows16_limit : ℕ
rows16_limit = 1024

abbrev pub rows48_limit : ℕ
rows48_limit = 256

abbrev pub rows256_limit : ℕ
rows256_limit = 64

-- and how many if no number is given
abbrev pub rows4_default : ℕ
rows4_default = 1024

abbrev pub rows16_default : ℕ
rows16_default = 256

abbrev pub rows48_default : ℕ
rows48_default = 64

abbrev pub rows256_default : ℕ
rows256_default = 16

-- the most steps that a call has before it is left pending; it is also the default
abbrev pub steps_limit : ℕ
steps_limit = 1000000

-- the greatest depth, and the depth if none is given
abbrev pub depth_limit : ℕ
depth_limit = 64

abbrev pub depth_default : ℕ
depth_default = 3

-- the most turns of a schedule; it is also the default
abbrev pub turns_limit : ℕ
turns_limit = 1000000

-- the greatest number that a `u64` holds
abbrev pub u64_limit : ℕ
u64_limit = 18446744073709551615

-- the greatest number that a `u32` holds
abbrev pub u32_limit : ℕ
u32_limit = 4294967295
