-- An average over calls, as it is written.
use Rattle.std.specs.Prelude.{ℕ, ◌*◌, ◌/◌, ◌%◌, max, List, ◌++◌, codes, decimal}

-- a sum divided by a number of calls, in hundredths, rounded down; no calls count as one call
abbrev pub hundredths : ℕ → ℕ → ℕ
hundredths calls total = total * 100 / max calls 1

-- a sum divided by a number of calls, with two decimals
abbrev pub average_text : ℕ → ℕ → List ℕ
average_text calls total =
    decimal (total / max calls 1) ++ codes "." ++ decimal (hundredths calls total / 10 % 10)
    ++ decimal (hundredths calls total % 10)
