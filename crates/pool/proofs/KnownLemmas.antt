-- Answers at their segments' places, as they become known.
use Rattle.pool.proofs.Common.{◌≡◌, ℕ, zero, suc, ◌<◌, List, [], ◌∷◌, ◌++◌, length, map, Option, Some, None, slice_set, replicate, fold, All, ap}
use Rattle.pool.proofs.Common.{refl, arith, length-append, length-set, length-map, All-head, All-rest, All-tail, AllZip, HoldsAt, SegmentView}
use Rattle.pool.proofs.Common.{IsExactAnswer, IsSoundAnswer, Found, SegmentAnswer, AnswersOneOf, with_answer, IsExactIfKnown}
use Rattle.std.specs.Option.{IfSome}
use Rattle.search.proofs.ExactLemmas.{sound_from_exact}

-- the answers in rest are still to be put, each at one of the places, and then all are
pub record IsStillToPut (first : List (Option Found)) (all : List SegmentAnswer) (known : List (Option Found))
    (rest : List SegmentAnswer) : Type 0 where
  pub places : All (λ a. a.segment < length known) rest
  pub put : fold with_answer known rest ≡ fold with_answer first all

-- there is a place for the next answer
pub next_has_place : {first known : List (Option Found)} {all rest next : List SegmentAnswer} {answer : SegmentAnswer}
    → IsStillToPut first all known rest → rest ≡ answer ∷ next → answer.segment < length known
next_has_place {first} {known} {all} {rest} {next} {answer} h e =
    All-head (λ a. a.segment < length known) answer next (rw e at h.places)

-- one answer more is put
pub next_is_put : {first known : List (Option Found)} {all rest next : List SegmentAnswer} {answer : SegmentAnswer}
    → IsStillToPut first all known rest → rest ≡ answer ∷ next → IsStillToPut first all (with_answer known answer) next
next_is_put {first} {known} {all} {rest} {next} {answer} h e = record {
  places = rw length-set (All-rest (λ a. a.segment < length known) answer next rest e h.places);
  put = rw e at h.put;
}

-- a known answer after the first ones is one of them
known_next : {A : Type 0} (answers : List A) (rest : List (Option A)) (answer : A)
    → map Some answers ++ (Some answer ∷ rest) ≡ map Some (answers ++ answer ∷ []) ++ rest
known_next [] rest answer = refl
known_next (a ∷ answers) rest answer = ap (λ l. Some a ∷ l) (known_next answers rest answer)

-- an answer that is put after the first ones is one of them
put_next : {A : Type 0} (answers : List A) (known : Option A) (rest : List (Option A)) (answer : A)
    → slice_set (map Some answers ++ (known ∷ rest)) (length answers) (Some answer) ≡ map Some (answers ++ answer ∷ []) ++ rest
put_next [] known rest answer = refl
put_next (a ∷ answers) known rest answer = ap (λ l. Some a ∷ l) (put_next answers known rest answer)

module _ {S A : Type 0} (P : S → A → Type 0) where
  -- P holds of the segment and its answer, where that is known
  abbrev pub HoldsIfKnown : S → Option A → Type 0
  HoldsIfKnown s known = IfSome known (P s)

  -- each known answer is at the place of its segment
  pub length-known : (segments : List S) (known : List (Option A)) → AllZip HoldsIfKnown segments known → length known ≡ length segments
  length-known [] [] h = refl
  length-known [] (k ∷ known) h = absurd h
  length-known (s ∷ segments) [] h = absurd h
  length-known (s ∷ segments) (k ∷ known) h = ap suc (length-known segments known h.1)

  -- if no answer is known, none is wrong
  pub none_wrong : (segments : List S) → AllZip HoldsIfKnown segments (replicate (length segments) None)
  none_wrong [] = tt
  none_wrong (s ∷ segments) = (tt, none_wrong segments)

  -- none is wrong after a right one is put at its place
  pub none_wrong_after : (segments : List S) (known : List (Option A)) (place : ℕ) (answer : A)
      → AllZip HoldsIfKnown segments known → place < length segments → HoldsAt (λ s. P s answer) segments place
      → AllZip HoldsIfKnown segments (slice_set known place (Some answer))
  none_wrong_after [] known place answer h below here = absurd (omega arith)
  none_wrong_after (s ∷ segments) [] place answer h below here = absurd h
  none_wrong_after (s ∷ segments) (k ∷ known) zero answer h below here = (here s, h.1)
  none_wrong_after (s ∷ segments) (k ∷ known) (suc place) answer h below here =
      (h.0, none_wrong_after segments known place answer h.1 (omega arith) here)

  -- these are the answers of the first segments, and rest is what is known of the others
  pub record IsHalfKnown (segments : List S) (answers : List A) (rest : List (Option A)) : Type 0 where
    pub known : AllZip HoldsIfKnown segments (map Some answers ++ rest)

  -- none of them is wrong with the next answer, where it was known
  pub IsHalfKnown-known : {segments : List S} {answers : List A} {rest next : List (Option A)} {known : Option A} {answer : A}
      → IsHalfKnown segments answers rest → rest ≡ known ∷ next → known ≡ Some answer → IsHalfKnown segments (answers ++ answer ∷ []) next
  IsHalfKnown-known {segments} {answers} {rest} {next} {known} {answer} h e is =
      record { known = rw (e, is, known_next answers next answer) at h.known }

  -- there is a next segment
  pub IsHalfKnown-next : {segments : List S} {answers : List A} {rest next : List (Option A)} {known : Option A}
      → IsHalfKnown segments answers rest → rest ≡ known ∷ next → length answers < length segments
  IsHalfKnown-next {segments} {answers} {rest} {next} {known} h e =
      let many = length-known segments (map Some answers ++ rest) h.known in
      omega (arith, many, length-append (map Some answers) rest, length-map answers (λ a. Some a), ap length e)

  -- none of them is wrong with the next answer, where it is found now
  pub IsHalfKnown-found : {segments : List S} {answers : List A} {rest next : List (Option A)} {known : Option A} {answer : A}
      → IsHalfKnown segments answers rest → rest ≡ known ∷ next → HoldsAt (λ s. P s answer) segments (length answers)
      → IsHalfKnown segments (answers ++ answer ∷ []) next
  IsHalfKnown-found {segments} {answers} {rest} {next} {known} {answer} h e found =
      let below : length answers < length segments = IsHalfKnown-next h e in
      let put = none_wrong_after segments (map Some answers ++ rest) (length answers) answer h.known below found in
      record { known = rw (e, put_next answers known next answer) at put }

  all_known : (segments : List S) (answers : List A) → AllZip HoldsIfKnown segments (map Some answers ++ []) → AllZip P segments answers
  all_known [] [] h = tt
  all_known [] (a ∷ answers) h = absurd h
  all_known (s ∷ segments) [] h = absurd h
  all_known (s ∷ segments) (a ∷ answers) h = (h.0, all_known segments answers h.1)

  -- with no rest, all answers are known
  pub IsHalfKnown-all : {segments : List S} {answers : List A} {rest : List (Option A)}
      → IsHalfKnown segments answers rest → rest ≡ [] → AllZip P segments answers
  IsHalfKnown-all {segments} {answers} {rest} h e = all_known segments answers (rw e at h.known)

-- none of the known answers is wrong with those of a worker
pub exact_after : (WasPassed : ℕ → Type 0) {budget : ℕ} {segments : List SegmentView} (known : List (Option Found))
    (answers : List SegmentAnswer)
    → AllZip (IsExactIfKnown budget) segments known → All (AnswersOneOf WasPassed budget segments) answers
    → AllZip (IsExactIfKnown budget) segments (fold with_answer known answers)
exact_after WasPassed {budget} {segments} known [] h exact = h
exact_after WasPassed {budget} {segments} known (a ∷ answers) h exact =
    let P = AnswersOneOf WasPassed budget segments in
    let one : P a = All-head P a answers exact in
    let put = none_wrong_after (IsExactAnswer budget) segments known a.segment a.found h one.one one.exact in
    exact_after WasPassed (with_answer known a) answers put (All-tail P a answers exact)

-- exact answers are sound
pub all_sound : (budget : ℕ) (segments : List SegmentView) (answers : List Found)
    → AllZip (IsExactAnswer budget) segments answers → AllZip (IsSoundAnswer budget) segments answers
all_sound budget [] [] h = tt
all_sound budget [] (a ∷ answers) h = absurd h
all_sound budget (s ∷ segments) [] h = absurd h
all_sound budget (s ∷ segments) (a ∷ answers) h = (sound_from_exact budget s a h.0, all_sound budget segments answers h.1)
