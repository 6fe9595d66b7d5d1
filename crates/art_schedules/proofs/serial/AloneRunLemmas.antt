-- Calls that run alone, as far as they have come.
use Rattle.art_schedules.proofs.Common.{◌≡◌, ℕ, List, [], ◌∷◌, ◌++◌, ap, sym, ◌∙◌, append_assoc, append-nil, Option, Reply, Access, Point, Rest}
use Rattle.art_schedules.proofs.Common.{Asks, Answers, got_by, words_after, RunsAlone, ends, goes}
use Rattle.art_schedules.proofs.alone.AloneLemmas.{same-runs}

-- what is left of a call that got these words
abbrev pub left_after : Rest → List ℕ → Rest
left_after rest got = λ later. rest (got ++ later)

-- From the first words the call has come to these, alone, and it got these words.
abbrev pub HasCome : Rest → List ℕ → List ℕ → List ℕ → Type 0
HasCome rest first got words = (last : List ℕ) (reply : Reply) → RunsAlone (left_after rest got) words last reply
    → RunsAlone rest first last reply

pub comes-further : (rest : Rest) (first got words : List ℕ) (a : Access) (p : Option Point) → HasCome rest first got words
    → rest got ≡ Asks a p
    → HasCome rest first (got ++ got_by a words ∷ []) (words_after a words)
comes-further rest first got words a p come asks last reply r =
    come last reply (goes a p (ap rest (append-nil got) ∙ asks)
    (same-runs (λ later. rest (got ++ got_by a words ∷ later)) (λ later. sym (ap rest (append_assoc got (got_by a words ∷ []) later))) r))

pub comes-to-end : (rest : Rest) (first got words : List ℕ) (reply : Reply) → HasCome rest first got words → rest got ≡ Answers reply
    → RunsAlone rest first words reply
comes-to-end rest first got words reply come answers = come words reply (ends (ap rest (append-nil got) ∙ answers))
