-- Calls that are drawn from the words of a generator.
use Rattle.std.specs.Prelude.{ℕ, zero, suc, ◌+◌, ◌-◌, ◌%◌, ◌^◌, nat_lt, nat_le, if◌then◌else◌, List, [], ◌∷◌}
use Rattle.rand_pcg.specs.Lcg.{Lcg, started, increment_of}
use Rattle.rand_pcg.specs.Pcg.{multiplier_64, pcg32}
use Rattle.events.specs.declared.event.Call.{Call}
use Rattle.events.specs.declared.event.Call.TheVariants.{Get, Insert, Remove, Scan}
use Rattle.workload.specs.declared.mix.Mix.{Mix}

-- the generator of a process: the stream of its number, started at the seed
abbrev pub generator_of : ℕ → ℕ → Lcg
generator_of seed process = started 64 multiplier_64 seed (increment_of 64 process)

-- the next word of a generator, and the generator after it
unfoldable pub next_word : Lcg → ℕ × Lcg
next_word g = pcg32 g

-- the key for a word: from the least to the greatest
abbrev pub key_by : Mix → ℕ → ℕ
key_by mix word = mix.lo + word % (mix.hi - mix.lo + 1)

-- a scan from the smaller of two keys to the greater
abbrev pub scan_between : ℕ → ℕ → Call
scan_between key other = if nat_le key other then Scan key other else Scan other key

-- the call for a number below a hundred and a key, and the generator after it; an insert takes a word for its value, and a scan one for its
-- other key
abbrev pub call_by : Mix → ℕ → ℕ → Lcg → Call × Lcg
call_by mix share key g =
    if nat_lt share mix.get then (Get key, g)
    else if nat_lt share (mix.get + mix.insert) then (Insert key ((next_word g).0 % 2 ^ 30), (next_word g).1)
    else if nat_lt share (mix.get + mix.insert + mix.remove) then (Remove key, g)
    else (scan_between key (key_by mix (next_word g).0), (next_word g).1)

-- the next call: a word for its kind, a word for its key, and what else it takes
abbrev pub next_call : Mix → Lcg → Call × Lcg
next_call mix g =
    call_by mix ((next_word g).0 % 100) (key_by mix (next_word (next_word g).1).0) (next_word (next_word g).1).1

-- this many calls, one after another
unfoldable pub calls_drawn : Mix → ℕ → Lcg → List Call
calls_drawn mix zero g = []
calls_drawn mix (suc n) g = (next_call mix g).0 ∷ calls_drawn mix n (next_call mix g).1
