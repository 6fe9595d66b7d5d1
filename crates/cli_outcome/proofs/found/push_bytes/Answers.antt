use Rattle.std.proofs.Common.{◌≡◌, ℕ, ◌+◌, ◌<◌, List, [], ◌∷◌, ◌++◌, length, map, get_or, take, sym, ap, ◌∙◌}
use Rattle.std.proofs.lemmas.List.{append_assoc, map_more}
use Rattle.cli_outcome.specs.Found.{shown_byte}
use Rattle.cli_outcome.proofs.found.push_bytes.Goals as goal

-- one more of the bytes of a text
one_more : (xs : List ℕ) (i d : ℕ) (s0 s1 s2 : List ℕ) → i < length xs → s1 ≡ s0 ++ map shown_byte (take i xs)
    → s2 ≡ s1 ++ shown_byte (get_or xs i d) ∷ [] → s2 ≡ s0 ++ map shown_byte (take (i + 1) xs)
one_more xs i d s0 s1 s2 below before step =
    step ∙ ap (λ s. s ++ shown_byte (get_or xs i d) ∷ []) before
    ∙ append_assoc s0 (map shown_byte (take i xs)) (shown_byte (get_or xs i d) ∷ [])
    ∙ ap (λ rest. s0 ++ rest) (sym (map_more shown_byte xs i d below))

pub loop-byte-preserved : goal.loop-byte-preserved
loop-byte-preserved c = one_more c.args.text.now c.loop-byte.byte-index 0 _ _ _ c.loop-byte-test.true
    c.loop-byte.invariant c.in_ok-push_byte.ensures
