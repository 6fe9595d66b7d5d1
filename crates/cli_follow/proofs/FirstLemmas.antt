-- What is known of the version of a stream.
use Rattle.cli_follow.proofs.Common.{One, Two, Three, ◌≡◌, ℕ, List, [], ◌∷◌, refl, arith, length, ap, false≢true, HistoryView, TextVersion}
use Rattle.cli_follow.proofs.Common.{SpellsStart, Followed, IsFollowed, SpellFromStart, SpellStream}

-- no lines have a first one
no_first : (version : TextVersion) (stream : HistoryView) → SpellFromStart version [] stream → ⊥
no_first version stream spelled = let size = ap (length {A = List ℕ}) spelled.parts in omega arith

without : (version : TextVersion) (stream : HistoryView) → SpellStream version [] stream → One ≡ version
without One stream spelled = refl
without Two stream spelled = absurd (no_first Two stream spelled)
without Three stream spelled = absurd (no_first Three stream spelled)

-- before any line there are no starting pairs
pub no_start : (f : Followed) → IsFollowed [] f → One ≡ f.version
no_start f followed = without f.version followed.stream followed.spelled

-- a first line of starting pairs spells a stream of no events
pub start_alone : (version : TextVersion) (line : List ℕ) (pairs : List (ℕ × ℕ)) → SpellsStart version line pairs
    → SpellStream version (line ∷ []) (record { start = pairs; events = [] })
start_alone One line pairs spelled = absurd (false≢true spelled.starts)
start_alone Two line pairs spelled = record { first = line; others = []; parts = refl; start = spelled; events = tt }
start_alone Three line pairs spelled = record { first = line; others = []; parts = refl; start = spelled; events = tt }
