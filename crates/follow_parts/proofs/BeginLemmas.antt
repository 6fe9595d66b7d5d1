-- A call that begins in each past of a list.
use Rattle.follow_parts.proofs.Common.{◌≡◌, ℕ, suc, ◌<◌, List, [], ◌∷◌, map, length, get_or, refl, ap, ◌∙◌, arith, Operation, KeptPast, with_begun, kept_of}
use Rattle.follow_parts.proofs.Common.{Past}

-- if a call began in the past at each place, it began in all pasts
pub begun_in_each : (o : Operation) (olds news : List Past) → length news ≡ length olds
    → ((k : ℕ) (d : Past) → k < length olds → kept_of (get_or news k d) ≡ with_begun o (kept_of (get_or olds k d)))
    → map kept_of news ≡ map (with_begun o) (map kept_of olds)
begun_in_each o [] [] long each = refl
begun_in_each o [] (new ∷ news) long each = absurd (omega arith)
begun_in_each o (old ∷ olds) [] long each = absurd (omega arith)
begun_in_each o (old ∷ olds) (new ∷ news) long each =
    let head : kept_of new ≡ with_begun o (kept_of old) = each 0 new (omega arith) in
    let rest : map kept_of news ≡ map (with_begun o) (map kept_of olds) =
    begun_in_each o olds news (omega arith) (λ k d within. each (suc k) d (omega arith)) in
    ap (λ (p : KeptPast). p ∷ map kept_of news) head
    ∙ ap (λ (ps : List KeptPast). with_begun o (kept_of old) ∷ ps) rest
