-- A call that runs alone: no other process makes an access before it is answered.
use Rattle.std.specs.Prelude.{◌≡◌, ℕ, ◌+◌, List, [], ◌∷◌, Option, slice_set}
use Rattle.events.specs.declared.event.Reply.{Reply}
use Rattle.art_rows.specs.Words.{released_word}
use Rattle.art_rows.specs.declared.access.Access.{Access}
use Rattle.art_rows.specs.declared.access.Point.{Point}
use Rattle.art_rows.specs.Steps.{Rest, Part, Asks, Answers}
use Rattle.art_rows.specs.Rows.{Row}
use Rattle.art_core.specs.Accesses.{got_by, words_after}

-- What is left of a call, run alone on these words, comes to the last words and is answered so.
pub data RunsAlone : Rest → List ℕ → List ℕ → Reply → Type 0 where
  ends : {rest : Rest} {words : List ℕ} {reply : Reply} → rest [] ≡ Answers reply → RunsAlone rest words words reply
  goes : {rest : Rest} {words last : List ℕ} {reply : Reply} → (a : Access) → (p : Option Point) → rest [] ≡ Asks a p
      → RunsAlone (λ got. rest (got_by a words ∷ got)) (words_after a words) last reply → RunsAlone rest words last reply

-- how many accesses it makes until it is answered
abbrev pub accesses : {rest : Rest} {words last : List ℕ} {reply : Reply} → RunsAlone rest words last reply → ℕ
accesses (ends h) = 0
accesses (goes a p h k) = 1 + accesses k

-- A part, run alone on these words, gives a value and leaves these words, by this many accesses,
-- whatever comes after it.
pub record Comes {A : Type 0} (m : Part A) (words : List ℕ) (a : A) (later : List ℕ) : Type 0 where
  pub steps : ℕ
  pub runs : (again : Rest) (after : A → Rest) (last : List ℕ) (reply : Reply) → RunsAlone (after a) later last reply
      → RunsAlone (m again after) words last reply
  pub long : (again : Rest) (after : A → Rest) (last : List ℕ) (reply : Reply) (r : RunsAlone (after a) later last reply)
      → accesses (runs again after last reply r) ≡ steps + accesses r

-- A part, run alone on these words, answers the call and leaves these words, by this many accesses.
pub record Ends {A : Type 0} (m : Part A) (words : List ℕ) (reply : Reply) (later : List ℕ) : Type 0 where
  pub steps : ℕ
  pub runs : (again : Rest) (after : A → Rest) → RunsAlone (m again after) words later reply
  pub long : (again : Rest) (after : A → Rest) → accesses (runs again after) ≡ steps

-- the words with these rows unlocked, the first one first
abbrev pub unlocked_rows : List Row → List ℕ → List ℕ
unlocked_rows [] words = words
unlocked_rows (n ∷ rows) words = unlocked_rows rows (slice_set words n.base (released_word n.kept))
