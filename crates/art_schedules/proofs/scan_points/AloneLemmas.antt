-- A scan of the optimistic tree that is answered alone on some words is answered so on calm too, and runs alone there to the end.
use Rattle.art_schedules.proofs.Common.{◌≡◌, ℕ, zero, suc, ◌+◌, ◌<◌, ◌≤◌, List, [], ◌∷◌, ◌++◌, length, take, refl, ap, sym, subst, ◌∙◌, false}
use Rattle.art_schedules.proofs.alone.AloneLemmas.{same-runs}
use Rattle.art_schedules.proofs.Common.{inl, inr, arith, slice_index, Option, Some, length-append, append-nil, set-get_or, cases_lt, take-length}
use Rattle.art_schedules.proofs.Common.{Call, Scan, Reply, Kind, Four, Sixteen, FortyEight, Full, kind_at, Optimistic, Access, Load, Point, Turn}
use Rattle.art_schedules.proofs.Common.{Asks, Answers, Setting, act, asks-same, answers-asks, answers-same, ScanStep, FirstKeys, SecondKeys}
use Rattle.art_schedules.proofs.Common.{Index, LoadChild, Release, HeldRow, Walk, ScanAt, at, scan_start, scan_turn, keys_turn, call_turn}
use Rattle.art_schedules.proofs.Common.{Plan, RunsAlone, after_all, call_begun, ends, goes, got_by, is_busy}
use Rattle.art_schedules.proofs.moments.AttemptLemmas.{stage}
use Rattle.art_schedules.proofs.moments.ValidLemmas.{turn-is}
use Rattle.art_schedules.proofs.Common.{SameWords}
use Rattle.std.proofs.Common.{append_assoc}
use Rattle.events.specs.declared.event.Reply.TheVariants as replies
use Rattle.art_control_states.specs.declared.stage.ScanStep.TheVariants.{Lock, Exchange, Wait, Info, Keys, Over}
use Rattle.art_core.specs.Moments.{next_word, alone, AnswersAlone, Reads}
use Rattle.art_schedules.proofs.calm.VersionLemmas.{unmarked-free}
use Rattle.art_schedules.proofs.moments.TimeLemmas.{take-more, index-more, index-last}
use Rattle.art_schedules.proofs.moments.StandsLemmas.{IsCurrent}
use Rattle.art_schedules.proofs.moments.ScanLemmas.{all-fold, all-append, at-end, attempted}
use Rattle.art_schedules.proofs.moments.ValidLemmas.{validated}
use Rattle.art_schedules.proofs.moments.AloneLemmas.{answers-alone}
use Rattle.art_schedules.proofs.moments.MomentLemmas.{index-behind, take-behind}

module _ (plan : Plan) (call : Call) (words : List ℕ) where
  abbrev turn-of : List ℕ → Turn
  turn-of got = act plan.shape plan.variant call got

  -- each word that a call gets alone is the word that it loads
  alone-word : (n i word : ℕ) (mark : Option Point) → i < length (alone n plan call words)
      → turn-of (take i (alone n plan call words)) ≡ Asks (Load word) mark
      → slice_index (alone n plan call words) i ≡ slice_index words word
  alone-word zero i word mark less e = absurd (omega (arith, less))
  alone-word (suc n) i word mark less e = go (turn-of (alone n plan call words)) refl (alone-word n i word mark)
    where
      before : List ℕ
      before = alone n plan call words

      Before : Type 0
      Before = i < length before → turn-of (take i before) ≡ Asks (Load word) mark → slice_index before i ≡ slice_index words word

      last : (a : Access) (m : Option Point) → turn-of before ≡ Asks a m → Before → i < length (before ++ got_by a words ∷ [])
          → turn-of (take i (before ++ got_by a words ∷ [])) ≡ Asks (Load word) mark
          → slice_index (before ++ got_by a words ∷ []) i ≡ slice_index words word
      last a m f earlier less e = elim (cases_lt i (length before)) [
        | inl old ↦ index-more i before (got_by a words) old
            ∙ earlier old (ap turn-of (sym (take-more i before (got_by a words) (omega (arith, old)))) ∙ e)
        | inr new ↦
            let is : i ≡ length before = omega (arith, new, less, length-append before (got_by a words ∷ [])) in
            let whole : take i (before ++ got_by a words ∷ []) ≡ before =
            ap (λ k. take k (before ++ got_by a words ∷ [])) is
            ∙ (take-more (length before) before (got_by a words) (omega arith) ∙ take-length before) in
            let same : a ≡ Load word = asks-same (sym f ∙ (ap turn-of (sym whole) ∙ e)) in
            ap (slice_index (before ++ got_by a words ∷ [])) is ∙ (index-last before (got_by a words) ∙ ap (λ x. got_by x words) same)
      ]

      go : (t : Turn) → turn-of before ≡ t → Before → slice_index (alone (suc n) plan call words) i ≡ slice_index words word
      go (Asks a m) f earlier =
          let is : alone (suc n) plan call words ≡ before ++ got_by a words ∷ [] = ap (λ t. before ++ next_word t words) f in
          ap (λ l. slice_index l i) is
          ∙ last a m f earlier (subst (λ l. i < length l) is less) (ap (λ l. turn-of (take i l)) (sym is) ∙ e)
      go (Answers r) f earlier =
          let is : alone (suc n) plan call words ≡ before = ap (λ t. before ++ next_word t words) f ∙ append-nil before in
          ap (λ l. slice_index l i) is ∙ earlier (subst (λ l. i < length l) is less) (ap (λ l. turn-of (take i l)) (sym is) ∙ e)

module _ (plan : Plan) (lo hi : ℕ) (v : plan.variant ≡ Optimistic) (some : 1 ≤ plan.shape.rows256) where
  abbrev scan : Call
  scan = Scan lo hi

  abbrev set : Setting
  set = Rattle.art_schedules.proofs.moments.AttemptLemmas.c plan.shape lo hi

  -- A scan of the optimistic tree loads, or answers pairs, whatever it got.
  data LoadsOrAnswers (got : List ℕ) : Type 0 where
    LoadsWord : (word : ℕ) → (mark : Option Point) → act plan.shape plan.variant scan got ≡ Asks (Load word) mark → LoadsOrAnswers got
    AnswersPairs : (pairs : List (ℕ × ℕ)) → act plan.shape plan.variant scan got ≡ Answers (replies.Pairs pairs) → LoadsOrAnswers got

  loads-or-answers : (got : List ℕ) → LoadsOrAnswers got
  loads-or-answers got = go here.step here.walk stands is
    where
      x : Rattle.art_schedules.proofs.moments.ScanLemmas.Attempted plan.shape some lo hi got
      x = attempted plan.shape some lo hi got

      here : ScanAt
      here = stage plan.shape lo hi x.attempt

      stands : IsCurrent plan.shape some lo hi x.attempt here.step here.walk
      stands = at-end plan.shape some lo hi x.attempt x.stands

      is : act plan.shape plan.variant scan got ≡ scan_turn set here
      is = turn-is plan lo hi v some got ∙ (sym (ap (call_turn set) (all-fold plan.shape some lo hi (scan_start set) got))
          ∙ ap (call_turn set) (ap (after_all set (call_begun set)) x.all ∙ (all-append plan.shape some lo hi (call_begun set)
          x.earlier x.attempt
          ∙ (ap (λ y. after_all set y x.attempt) x.begins ∙ all-fold plan.shape some lo hi (scan_start set) x.attempt))))

      keys : (kind : Kind) (n : HeldRow) → act plan.shape plan.variant scan got ≡ keys_turn kind n → LoadsOrAnswers got
      keys Four n e = LoadsWord _ _ e
      keys Sixteen n e = LoadsWord _ _ e
      keys FortyEight n e = LoadsWord _ _ e
      keys Full n e = LoadsWord _ _ e

      go : (step : ScanStep) (w : Walk) → IsCurrent plan.shape some lo hi x.attempt step w
          → act plan.shape plan.variant scan got ≡ scan_turn set (at step w)
          → LoadsOrAnswers got
      go (Lock entry first) w h e = absurd h
      go (Exchange entry u) w h e = absurd h
      go (Wait entry) w h e = LoadsWord _ _ e
      go (Info base kind kept) w h e = LoadsWord _ _ e
      go (Keys n) w h e = keys n.kind n e
      go (FirstKeys n count) w h e = LoadsWord _ _ e
      go (SecondKeys n count first) w h e = LoadsWord _ _ e
      go (Index n j m) w h e = LoadsWord _ _ e
      go (LoadChild f slot) w h e = LoadsWord _ _ e
      go (Release n) w h e = LoadsWord _ _ e
      go Over w h e = AnswersPairs _ e

  -- If other words have each row that is not busy, the scan has the same answer alone on them.
  pub moves : (words calm : List ℕ)
      → ((base : ℕ) (kind : Kind) → kind_at plan.shape base ≡ Some kind → is_busy (slice_index words base) ≡ false
      → SameWords words calm base kind)
      → (reply : Reply) → AnswersAlone plan scan words reply → AnswersAlone plan scan calm reply
  moves words calm free reply (n, e) =
      answers-alone plan lo hi v some x.attempt calm val.stands holds reply
      (sym (x.begins x.attempt) ∙ (ap (act plan.shape plan.variant scan) (sym x.all) ∙ e))
    where
      val : Rattle.art_schedules.proofs.moments.ValidLemmas.Validation plan lo hi v some (alone n plan scan words)
      val = validated plan lo hi v some (alone n plan scan words) reply e

      x : Rattle.art_schedules.specs.moments.Attempts.IsValidated plan scan (alone n plan scan words)
      x = val.is

      was : (i word : ℕ) → Reads plan scan x.attempt i word → slice_index x.attempt i ≡ slice_index words word
      was i word r =
          let part : take (length x.earlier + i) (alone n plan scan words) ≡ x.earlier ++ take i x.attempt =
          ap (take (length x.earlier + i)) x.all ∙ take-behind x.earlier x.attempt i in
          let long = ap (λ l. length l) x.all ∙ length-append x.earlier x.attempt in
          sym (ap (λ l. slice_index l (length x.earlier + i)) x.all ∙ index-behind x.earlier x.attempt i)
          ∙ alone-word plan scan words n (length x.earlier + i) word r.mark (omega (arith, long, r.made))
          (ap (act plan.shape plan.variant scan) part ∙ (x.begins (take i x.attempt) ∙ r.load))

      holds : (i word : ℕ) → Reads plan scan x.attempt i word → slice_index calm word ≡ slice_index x.attempt i
      holds i word r =
          let row = x.reads i word r in
          free row.base row.kind row.enters.row
          (ap is_busy (sym (was row.entry row.base row.enters.reads)) ∙ unmarked-free (slice_index x.attempt row.entry) row.free) word
          row.from row.below
          ∙ sym (was i word r)

  -- It runs alone, and changes no word.
  pub runs : (calm : List ℕ) (reply : Reply) → AnswersAlone plan scan calm reply
      → RunsAlone (act plan.shape plan.variant scan) calm calm reply
  runs calm reply (n, e) = from n 0 (omega arith)
    where
      from : (d i : ℕ) → d + i ≡ n → RunsAlone (λ got. act plan.shape plan.variant scan (alone i plan scan calm ++ got)) calm calm reply
      from zero i is =
          ends (ap (act plan.shape plan.variant scan) (append-nil (alone i plan scan calm) ∙ ap (λ k. alone k plan scan calm) i-is-n) ∙ e)
        where
          i-is-n : i ≡ n
          i-is-n = omega (arith, is)
      from (suc d) i is = go (loads-or-answers (alone i plan scan calm)) (from d (suc i) (omega (arith, is)))
        where
          before : List ℕ
          before = alone i plan scan calm

          go : LoadsOrAnswers before → RunsAlone (λ got. act plan.shape plan.variant scan
              (alone (suc i) plan scan calm ++ got)) calm calm reply
              → RunsAlone (λ got. act plan.shape plan.variant scan (before ++ got)) calm calm reply
          go (LoadsWord word mark f) rest =
              let one : alone (suc i) plan scan calm ≡ before ++ slice_index calm word ∷ [] = ap (λ t. before ++ next_word t calm) f in
              goes (Load word) mark (ap (act plan.shape plan.variant scan) (append-nil before) ∙ f)
              (subst (λ (w : List ℕ). RunsAlone
              (λ got. act plan.shape plan.variant scan (before ++ (slice_index calm word ∷ got))) w calm reply)
              (sym (set-get_or calm word 0))
              (same-runs (λ got. act plan.shape plan.variant scan (before ++ (slice_index calm word ∷ got)))
              (λ got. ap (act plan.shape plan.variant scan)
              (sym (append_assoc before (slice_index calm word ∷ []) got) ∙ ap (λ l. l ++ got) (sym one))) rest))
          go (AnswersPairs pairs f) rest =
              let none : alone (suc i) plan scan calm ≡ before = ap (λ t. before ++ next_word t calm) f ∙ append-nil before in
              same-runs (λ got. act plan.shape plan.variant scan (before ++ got))
              (λ got. ap (λ l. act plan.shape plan.variant scan (l ++ got)) (sym none)) rest

  -- an answer is no refusal
  pub unrefused : (got : List ℕ) (reply : Reply) → act plan.shape plan.variant scan got ≡ Answers reply → reply ≡ replies.Refused → ⊥
  unrefused got reply e f = go (loads-or-answers got)
    where
      go : LoadsOrAnswers got → ⊥
      go (LoadsWord word mark g) = answers-asks (sym e ∙ g)
      go (AnswersPairs pairs g) = other (sym (answers-same (sym e ∙ g)) ∙ f)
        where
          other : replies.Pairs pairs ≡ replies.Refused → ⊥
          other e = cc
