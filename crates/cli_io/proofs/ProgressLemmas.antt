-- What several reads and writes, one after the other, do to the bytes that are known.
use Rattle.std.proofs.Common.{ℕ, ◌+◌, ◌≤◌, List, ◌++◌, length, take, drop, Option, arith, sym, subst}
use Rattle.std.proofs.lemmas.List.{length-append}
use Rattle.std.proofs.KnownBytes.{Appends-trans, Consumes-trans}
use Rattle.std.proofs.Math.Seq.{take-add}
use Rattle.std.specs.Io.KnownBytes.{Appends, Consumes}
use Rattle.cli_io.specs.Progress.{ConsumesAtMost}

-- after some bytes, some more were read
pub ConsumesAtMost-more : (a b c : Option (List ℕ)) (bytes : List ℕ) (room all : ℕ) → length bytes + room ≤ all → Consumes a b bytes
    → ConsumesAtMost room b c → ConsumesAtMost all a c
ConsumesAtMost-more a b c bytes room all fits first rest = (
  bytes ++ rest.0,
  omega (arith, length-append bytes rest.0, rest.1),
  Consumes-trans a b c bytes rest.0 first rest.2,
)

-- after the first `done` bytes, the next `count` were written
pub Appends-more : (a b c : Option (List ℕ)) (bytes : List ℕ) (done count : ℕ)
    → Appends a b (take done bytes) → Appends b c (take count (drop done bytes)) → Appends a c (take (done + count) bytes)
Appends-more a b c bytes done count first next =
    subst (Appends a c) (sym (take-add done count bytes)) (Appends-trans a b c _ _ first next)
