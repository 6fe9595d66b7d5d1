-- Places of segments to which a gate was passed.
use Rattle.pool.proofs.Common.{◌≡◌, ℕ, zero, suc, ◌+◌, List, [], ◌∷◌, ◌++◌, length, Option, Some, None, slice_set, replicate, fold, All, arith, refl}
use Rattle.pool.proofs.Common.{ap, subst, below_more, length-append, All-head, All-tail, EachIndex, AllZip, SegmentView, Found, SegmentAnswer}
use Rattle.pool.proofs.Common.{AnswersOneOf, with_answer, WerePassedIfKnown}

-- there are as many answers as segments
as_many : (P : SegmentView → Found → Type 0) (segments : List SegmentView) (answers : List Found) → AllZip P segments answers
    → length answers ≡ length segments
as_many P [] [] h = refl
as_many P [] (a ∷ answers) h = absurd h
as_many P (s ∷ segments) [] h = absurd h
as_many P (s ∷ segments) (a ∷ answers) h = ap suc (as_many P segments answers h.1)

module _ (WasPassed : ℕ → Type 0) where
  -- if no answer is known, none was passed
  pub none_passed : (place segments : ℕ) → WerePassedIfKnown WasPassed place (replicate segments None)
  none_passed place zero = tt
  none_passed place (suc segments) = (tt, none_passed (suc place) segments)

  -- one answer more is known, of a segment that was passed
  put_passed : (place : ℕ) (known : List (Option Found)) (at : ℕ) (found : Found) → WerePassedIfKnown WasPassed place known
      → WasPassed (place + at) → WerePassedIfKnown WasPassed place (slice_set known at (Some found))
  put_passed place [] zero found h here = tt
  put_passed place [] (suc at) found h here = tt
  put_passed place (k ∷ known) zero found h here =
      let same : place + 0 ≡ place = omega arith in
      (subst WasPassed same here, h.1)
  put_passed place (k ∷ known) (suc at) found h here =
      let same : place + suc at ≡ suc place + at = omega arith in
      (h.0, put_passed (suc place) known at found h.1 (subst WasPassed same here))

  -- all segments that a worker answered were passed
  pub passed_after : {budget : ℕ} {segments : List SegmentView} (known : List (Option Found)) (answers : List SegmentAnswer)
      → WerePassedIfKnown WasPassed 0 known → All (AnswersOneOf WasPassed budget segments) answers
      → WerePassedIfKnown WasPassed 0 (fold with_answer known answers)
  passed_after {budget} {segments} known [] h all = h
  passed_after {budget} {segments} known (a ∷ answers) h all =
      let one : AnswersOneOf WasPassed budget segments a = All-head (AnswersOneOf WasPassed budget segments) a answers all in
      let same : a.segment ≡ 0 + a.segment = omega arith in
      passed_after (with_answer known a) answers (put_passed 0 known a.segment a.found h (subst WasPassed same one.passed))
      (All-tail (AnswersOneOf WasPassed budget segments) a answers all)

  -- the segment at this place was passed, where its answer was known
  pub passed_known : {rest next : List (Option Found)} {known : Option Found} {found : Found} (place : ℕ)
      → WerePassedIfKnown WasPassed place rest → rest ≡ known ∷ next → known ≡ Some found → WasPassed place
  passed_known {rest} {next} {known} {found} place h e is = rw is at (rw e at h).0

  -- the rest of them
  pub passed_rest : {rest next : List (Option Found)} {known : Option Found} (answers : List Found) (found : Found)
      → WerePassedIfKnown WasPassed (length answers) rest → rest ≡ known ∷ next
      → WerePassedIfKnown WasPassed (length (answers ++ found ∷ [])) next
  passed_rest {rest} {next} {known} answers found h e =
      let same : suc (length answers) ≡ length (answers ++ found ∷ []) = omega (arith, length-append answers (found ∷ [])) in
      subst (λ n. WerePassedIfKnown WasPassed n next) same (rw e at h).1

  -- one segment more was passed
  pub passed_more : (answers : List Found) (found : Found) → EachIndex answers WasPassed → WasPassed (length answers)
      → EachIndex (answers ++ found ∷ []) WasPassed
  passed_more answers found h here i below =
      below_more WasPassed (length answers) h here i (omega (arith, below, length-append answers (found ∷ [])))

  -- the segments of all answers are all segments
  pub all_passed : (P : SegmentView → Found → Type 0) (segments : List SegmentView) (answers : List Found)
      → AllZip P segments answers → EachIndex answers WasPassed → EachIndex segments WasPassed
  all_passed P segments answers h passed i below = passed i (rw (as_many P segments answers h) below)
