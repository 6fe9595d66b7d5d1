-- Orders of a cache's calls: those of the lossy map are orders of the recorded calls, and back.
use Rattle.certificate.proofs.Common.{◌≡◌, ℕ, ◌<◌, nat_lt, Bool, true, false, cond, List, [], ◌∷◌, length, Option, Some, None, IsTrue, ◌==◌, is_some}
use Rattle.certificate.proofs.Common.{inl, inr, refl, sym, ap, ◌∙◌, subst, ⊎_elim, arith, ◌⊎◌, ◌≢◌, All, AllPairs, Contains, slice_get}
use Rattle.certificate.proofs.Common.{range_with_len, false≢true, eqb-true, none-some, same_Some, slice_get_within, All-nil, All-cons, All-head}
use Rattle.certificate.proofs.Common.{All-tail, All-contains, All-weaker, AllPairs-cons, AllPairs-filter, Operation, Response, operations}
use Rattle.certificate.proofs.Common.{is_completed, precedes, Contents, IsRising, value_at, IsOrder, IsCompletedAt, AllPairs-nil, AllPairs-head}
use Rattle.certificate.proofs.Common.{AllPairs-tail, Contains-nil, Contains-first, Contains-later, Contains-cases, All-from_contains, All-at}
use Rattle.certificate.proofs.Common.{slice_get-below, some_at, IsStrictlyIncreasing-range, AreRelatedAs, AllPairs-filter_map}
use Rattle.certificate.proofs.Common.{AllPairs-from_filter_map, AllPairs-weaker, IsLossyOrder, AreRecordedAs, IsRecordOf, NoneFoundWhereOther}
use Rattle.certificate.proofs.Common.{All-append, Contains-append_left, Contains-append_right, AllPairs-from_increasing, NonePrecedesItself}
use Rattle.certificate.proofs.Common.{AllPairs-append, AreAllKeys, AreBelow, EvictedKeysAreNoLostWrites, LostWritesAreRefuted}
use Rattle.certificate.proofs.Common.{RecordedCachesAreLossyMaps}
use Rattle.events.proofs.TimeLemmas.{NonePrecedesItself-operations}
use Rattle.certificate.proofs.CacheValueLemmas.{AtMost, shown}
use Rattle.certificate.proofs.CacheMapLemmas.{value_below}
use Rattle.certificate.proofs.CacheRunLemmas.{helpers_of, is_helper_of, helper_of, among_helpers, expand, collapse, run_go, run_come}

-- a call is completed where what is recorded of it is
completed_as : (bound : ℕ) (a t : Operation) → AreRecordedAs bound a.call a.response t.call t.response → is_completed t ≡ is_completed a
completed_as bound a t h = by_responses a.response t.response h
  where
    by_responses : (r s : Option Response) → AreRecordedAs bound a.call r t.call s → is_some s ≡ is_some r
    by_responses None None is = refl
    by_responses None (Some s) is = absurd is
    by_responses (Some r) None is = absurd is
    by_responses (Some r) (Some s) is = refl

-- what holds of each key of pairs holds of each key that has a value there
key_holds : (P : ℕ → Type 0) (m : Contents) → All (λ pair. P pair.0) m → (key v : ℕ) → value_at m key ≡ Some v → P key
key_holds P [] h key v is = absurd (none-some v is)
key_holds P ((k, w) ∷ m) h key v is = by_test (k == key) refl is (key_holds P m (All-tail (λ (pair : ℕ × ℕ). P pair.0) (k, w) m h) key v)
  where
    by_test : (b : Bool) → (k == key) ≡ b → cond b (Some w) (value_at m key) ≡ Some v → (value_at m key ≡ Some v → P key) → P key
    by_test true e g rest = subst P (eqb-true k key e) (All-head (λ (pair : ℕ × ℕ). P pair.0) (k, w) m h)
    by_test false e g rest = rest g

shown_most : (bound : ℕ) (x : Option ℕ) → AtMost (shown bound x) x
shown_most bound None = inl refl
shown_most bound (Some v) = either (nat_lt v bound)
  where
    either : (b : Bool) → AtMost (cond b (Some v) None) (Some v)
    either true = inr refl
    either false = inl refl

-- no call precedes the other, by their numbers
abbrev Follows : List Operation → ℕ → ℕ → Type 0
Follows calls = AreRelatedAs (λ (a b : Operation). precedes b a ≡ false) (slice_get calls)

module _ (bound : ℕ) (keys : List ℕ) (calls recorded : List Operation) (is : IsRecordOf bound keys calls recorded) where
  -- each recorded call has the one that it is of
  source_at : (j : ℕ) (t : Operation) → slice_get recorded j ≡ Some t → (a : Operation) × (slice_get calls (is.source j) ≡ Some a)
  source_at j t there = by_test (is.helps j) refl
    where
      by_test : (b : Bool) → is.helps j ≡ b → (a : Operation) × (slice_get calls (is.source j) ≡ Some a)
      by_test true e = let (a, here, helper) = is.helpers j t there e in (a, here)
      by_test false e = slice_get-below calls (is.source j) (is.once j (slice_get_within recorded j t there) e).0

  number_within : (k : ℕ) → k < length calls → is.number k < length recorded
  number_within k h =
      let (a, here) = slice_get-below calls k h in
      let (t, there, responses, source, helps) = is.itself k a here in
      slice_get_within recorded (is.number k) t there

  number_source : (k : ℕ) → k < length calls → is.source (is.number k) ≡ k
  number_source k h =
      let (a, here) = slice_get-below calls k h in
      let (t, there, responses, source, helps) = is.itself k a here in
      source

  number_helps : (k : ℕ) → k < length calls → is.helps (is.number k) ≡ false
  number_helps k h =
      let (a, here) = slice_get-below calls k h in
      let (t, there, responses, source, helps) = is.itself k a here in
      helps

  -- ---- from the lossy map

  abbrev these : ℕ → List ℕ
  these k = helpers_of bound keys calls recorded is k

  abbrev expanded : List ℕ → List ℕ
  expanded order = expand bound keys calls recorded is order

  abbrev IsOf : List ℕ → ℕ → Type 0
  IsOf order j = (j < length recorded) × Contains order (is.source j)

  of_order : (order : List ℕ) → All (λ k. k < length calls) order → All (IsOf order) (expanded order)
  of_order [] known = All-nil (IsOf [])
  of_order (k ∷ order) known =
      let k_known = All-head (λ k. k < length calls) k order known in
      All-append (IsOf (k ∷ order)) (these k) (is.number k ∷ expanded order)
      (All-from_contains (IsOf (k ∷ order)) (these k) (λ j among.
      let (inside, helps, source) = helper_of bound keys calls recorded is k j among in
      (inside, subst (Contains (k ∷ order)) (sym source) (Contains-first k order))))
      (All-cons (IsOf (k ∷ order)) (is.number k) (expanded order)
      (number_within k k_known, subst (Contains (k ∷ order)) (sym (number_source k k_known)) (Contains-first k order))
      (All-weaker (IsOf order) (IsOf (k ∷ order)) (λ j of. (of.0, Contains-later k order (is.source j) of.1)) (expanded order)
      (of_order order (All-tail (λ k. k < length calls) k order known))))

  these_distinct : (k : ℕ) → AllPairs (λ i j. i ≢ j) (these k)
  these_distinct k =
      AllPairs-filter (λ i j. i ≢ j) (is_helper_of bound keys calls recorded is k) (range_with_len 0 (length recorded))
      (AllPairs-weaker (λ i j. i < j) (λ i j. i ≢ j) (range_with_len 0 (length recorded)) (λ i j i_is j_is less same. omega arith)
      (AllPairs-from_increasing (range_with_len 0 (length recorded)) (IsStrictlyIncreasing-range (length recorded))))

  module _ (T U : ℕ → ℕ → Type 0)
      (alike : (i j : ℕ) → i < length recorded → j < length recorded → is.source i ≡ is.source j → i ≢ j → T i j)
      (across : (i j : ℕ) → i < length recorded → j < length recorded → U (is.source i) (is.source j) → T i j) where
    pairs_expanded : (order : List ℕ) → All (λ k. k < length calls) order → AllPairs U order → AllPairs T (expanded order)
    pairs_expanded [] known pairs = AllPairs-nil T
    pairs_expanded (k ∷ order) known pairs =
        let k_known = All-head (λ k. k < length calls) k order known in
        let known_rest = All-tail (λ k. k < length calls) k order known in
        let later = AllPairs-head U k order pairs in
        let of_rest = of_order order known_rest in
        let after : (i : ℕ) → i < length recorded → is.source i ≡ k → All (T i) (expanded order) = λ i inside source.
        All-from_contains (T i) (expanded order) (λ j among.
        let (j_inside, j_of) = All-contains (IsOf order) (expanded order) j of_rest among in
        across i j inside j_inside (subst (λ x. U x (is.source j)) (sym source) (All-contains (U k) order (is.source j) later j_of))) in
        AllPairs-append T (these k) (is.number k ∷ expanded order)
        (AllPairs-weaker (λ i j. i ≢ j) T (these k) (λ i j i_is j_is differ.
        let (i_inside, i_helps, i_source) = helper_of bound keys calls recorded is k i i_is in
        let (j_inside, j_helps, j_source) = helper_of bound keys calls recorded is k j j_is in
        alike i j i_inside j_inside (i_source ∙ sym j_source) differ) (these_distinct k))
        (AllPairs-cons T (is.number k) (expanded order) (after (is.number k) (number_within k k_known) (number_source k k_known))
        (pairs_expanded order known_rest (AllPairs-tail U k order pairs)))
        (All-from_contains (λ i. All (T i) (is.number k ∷ expanded order)) (these k) (λ i i_is.
        let (inside, helps, source) = helper_of bound keys calls recorded is k i i_is in
        All-cons (T i) (is.number k) (expanded order)
        (alike i (is.number k) inside (number_within k k_known) (source ∙ sym (number_source k k_known))
        (λ same. false≢true (sym (number_helps k k_known) ∙ (ap is.helps (sym same) ∙ helps))))
        (after i inside source)))

  in_expanded : (order : List ℕ) (k j : ℕ) → Contains order k → Contains (these k) j ⊎ (is.number k ≡ j) → Contains (expanded order) j
  in_expanded [] k j among part = absurd (Contains-nil k among)
  in_expanded (l ∷ order) k j among part = ⊎_elim
      (λ same. ⊎_elim
      (λ helper. Contains-append_left (these l) (is.number l ∷ expanded order) j (subst (λ x. Contains (these x) j) (sym same) helper))
      (λ number. Contains-append_right (these l) (is.number l ∷ expanded order) j
      (subst (Contains (is.number l ∷ expanded order)) (ap is.number same ∙ number) (Contains-first (is.number l) (expanded order)))) part)
      (λ later. Contains-append_right (these l) (is.number l ∷ expanded order) j
      (Contains-later (is.number l) (expanded order) j (in_expanded order k j later part)))
      (Contains-cases l order k among)

  complete_expanded : (order : List ℕ) → ((k : ℕ) → IsCompletedAt calls k → Contains order k) → (j : ℕ) → IsCompletedAt recorded j
      → Contains (expanded order) j
  complete_expanded order complete j h =
      let (t, there, completed) = some_at (slice_get recorded j) (λ a. IsTrue (is_completed a)) h in
      by_test t there completed (is.helps j) refl
    where
      by_test : (t : Operation) → slice_get recorded j ≡ Some t → is_completed t ≡ true → (b : Bool) → is.helps j ≡ b → Contains (expanded order) j
      by_test t there completed true e =
          let (a, here, helper) = is.helpers j t there e in
          let done : IsTrue (is_completed a) = rw helper.misses.answered.1 refl in
          in_expanded order (is.source j) j (complete (is.source j) (rw here done))
          (inl (among_helpers bound keys calls recorded is (is.source j) j (slice_get_within recorded j t there) e refl))
      by_test t there completed false e =
          let (below, same) = is.once j (slice_get_within recorded j t there) e in
          let (a, here) = slice_get-below calls (is.source j) below in
          let (s, s_there, responses, source, helps) = is.itself (is.source j) a here in
          let one : s ≡ t = same_Some s t (sym s_there ∙ (ap (slice_get recorded) same ∙ there)) in
          let done : IsTrue (is_completed a) = sym (completed_as bound a s responses) ∙ (ap (λ (o : Operation). is_completed o) one ∙ completed) in
          in_expanded order (is.source j) j (complete (is.source j) (rw here done)) (inr same)

  module _ (start : Contents) (rising : IsRising start) where
    order_goes : (order : List ℕ) → NonePrecedesItself calls → AreAllKeys keys start calls → IsLossyOrder start calls order
        → IsOrder start recorded (expanded order)
    order_goes order apart all h = record {
      legal_order = record {
        known = All-weaker (IsOf order) (λ j. j < length recorded) (λ j of. of.0) (expanded order) (of_order order h.known);
        distinct = pairs_expanded (λ i j. i ≢ j) (λ k l. k ≢ l) (λ i j i_in j_in same differ. differ)
            (λ i j i_in j_in differ same. differ (ap is.source same)) order h.known h.distinct;
        precedence = AllPairs-filter_map (λ (a b : Operation). precedes b a ≡ false) (slice_get recorded) (expanded order)
            (pairs_expanded (Follows recorded) (Follows calls) alike across order h.known
            (AllPairs-from_filter_map (λ (a b : Operation). precedes b a ≡ false) (slice_get calls) order h.precedence));
        legal = run_go bound keys calls recorded is all.of_calls start start order h.known rising rising (λ key. inr refl)
            (key_holds (Contains keys) start all.at_start) h.legal;
      };
      complete = complete_expanded order h.complete;
    }
      where
        across : (i j : ℕ) → i < length recorded → j < length recorded → Follows calls (is.source i) (is.source j) → Follows recorded i j
        across i j i_in j_in follows s t s_there t_there =
            let (a, a_here) = source_at i s s_there in
            let (b, b_here) = source_at j t t_there in
            is.precedence j i t s b a t_there s_there b_here a_here ∙ follows a b a_here b_here

        alike : (i j : ℕ) → i < length recorded → j < length recorded → is.source i ≡ is.source j → i ≢ j → Follows recorded i j
        alike i j i_in j_in same differ s t s_there t_there =
            let (a, a_here) = source_at i s s_there in
            is.precedence j i t s a a t_there s_there (ap (slice_get calls) (sym same) ∙ a_here) a_here
            ∙ All-at (λ a. precedes a a ≡ false) calls (is.source i) a apart a_here

  -- ---- and back

  abbrev collapsed : List ℕ → List ℕ
  collapsed order = collapse bound keys calls recorded is order

  abbrev Comes : List ℕ → ℕ → Type 0
  Comes order k = (j : ℕ) × Contains order j × (is.helps j ≡ false) × (is.source j ≡ k)

  comes_from : (order : List ℕ) → All (Comes order) (collapsed order)
  comes_from [] = All-nil (Comes [])
  comes_from (j ∷ order) = by_test (is.helps j) refl
      (All-weaker (Comes order) (Comes (j ∷ order)) (λ k from. (from.0, Contains-later j order from.0 from.1, from.2, from.3)) (collapsed order)
      (comes_from order))
    where
      by_test : (b : Bool) → is.helps j ≡ b → All (Comes (j ∷ order)) (collapsed order)
          → All (Comes (j ∷ order)) (cond b (collapsed order) (is.source j ∷ collapsed order))
      by_test true e rest = rest
      by_test false e rest = All-cons (Comes (j ∷ order)) (is.source j) (collapsed order) (j, Contains-first j order, e, refl) rest

  module _ (T U : ℕ → ℕ → Type 0)
      (pair : (i j : ℕ) → i < length recorded → j < length recorded → is.helps i ≡ false → is.helps j ≡ false → T i j
      → U (is.source i) (is.source j)) where
    pairs_collapsed : (order : List ℕ) → All (λ j. j < length recorded) order → AllPairs T order → AllPairs U (collapsed order)
    pairs_collapsed [] known pairs = AllPairs-nil U
    pairs_collapsed (i ∷ order) known pairs =
        by_test (is.helps i) refl (pairs_collapsed order known_rest (AllPairs-tail T i order pairs))
      where
        known_rest : All (λ j. j < length recorded) order
        known_rest = All-tail (λ j. j < length recorded) i order known

        by_test : (b : Bool) → is.helps i ≡ b → AllPairs U (collapsed order)
            → AllPairs U (cond b (collapsed order) (is.source i ∷ collapsed order))
        by_test true e rest = rest
        by_test false e rest =
            AllPairs-cons U (is.source i) (collapsed order)
            (All-from_contains (U (is.source i)) (collapsed order) (λ k among.
            let (j, j_among, helps, source) = All-contains (Comes order) (collapsed order) k (comes_from order) among in
            subst (U (is.source i)) source
            (pair i j (All-head (λ j. j < length recorded) i order known) (All-contains (λ j. j < length recorded) order j known_rest j_among) e helps
            (All-contains (T i) order j (AllPairs-head T i order pairs) j_among)))) rest

  in_collapsed : (order : List ℕ) (j : ℕ) → Contains order j → is.helps j ≡ false → Contains (collapsed order) (is.source j)
  in_collapsed [] j among helps = absurd (Contains-nil j among)
  in_collapsed (i ∷ order) j among helps = by_test (is.helps i) refl (in_collapsed order j)
    where
      by_test : (b : Bool) → is.helps i ≡ b → (Contains order j → is.helps j ≡ false → Contains (collapsed order) (is.source j))
          → Contains (cond b (collapsed order) (is.source i ∷ collapsed order)) (is.source j)
      by_test true e rest = ⊎_elim (λ same. absurd (false≢true (sym helps ∙ (ap is.helps (sym same) ∙ e)))) (λ later. rest later helps)
          (Contains-cases i order j among)
      by_test false e rest = ⊎_elim
          (λ same. subst (Contains (is.source i ∷ collapsed order)) (ap is.source same) (Contains-first (is.source i) (collapsed order)))
          (λ later. Contains-later (is.source i) (collapsed order) (is.source j) (rest later helps)) (Contains-cases i order j among)

  module _ (start : Contents) (rising : IsRising start) where
    order_comes : (order : List ℕ) → AreBelow bound start calls → NoneFoundWhereOther calls → IsOrder start recorded order
        → IsLossyOrder start calls (collapsed order)
    order_comes order low apart h =
        let known = h.legal_order.known in
        record {
          known = All-from_contains (λ k. k < length calls) (collapsed order) (λ k among.
              let (j, j_among, helps, source) = All-contains (Comes order) (collapsed order) k (comes_from order) among in
              subst (λ x. x < length calls) source (is.once j (All-contains (λ j. j < length recorded) order j known j_among) helps).0);
          distinct = pairs_collapsed (λ i j. i ≢ j) (λ k l. k ≢ l) (λ i j i_in j_in i_helps j_helps differ same.
              differ (sym (is.once i i_in i_helps).1 ∙ (ap is.number same ∙ (is.once j j_in j_helps).1))) order known h.legal_order.distinct;
          precedence = AllPairs-filter_map (λ (a b : Operation). precedes b a ≡ false) (slice_get calls) (collapsed order)
              (pairs_collapsed (Follows recorded) (Follows calls) across order known
              (AllPairs-from_filter_map (λ (a b : Operation). precedes b a ≡ false) (slice_get recorded) order h.legal_order.precedence));
          legal = run_come bound keys calls recorded is low.of_calls apart start start order known rising rising
              (λ key. shown_most bound (value_at start key))
              (λ key v at high. let less = value_below bound start key v low.at_start at in absurd (omega arith)) h.legal_order.legal;
          complete = λ k completed. all k completed;
        }
      where
        across : (i j : ℕ) → i < length recorded → j < length recorded → is.helps i ≡ false → is.helps j ≡ false → Follows recorded i j
            → Follows calls (is.source i) (is.source j)
        across i j i_in j_in i_helps j_helps follows a b a_here b_here =
            let (s, s_there) = slice_get-below recorded i i_in in
            let (t, t_there) = slice_get-below recorded j j_in in
            sym (is.precedence j i t s b a t_there s_there b_here a_here) ∙ follows s t s_there t_there

        all : (k : ℕ) → IsCompletedAt calls k → Contains (collapsed order) k
        all k completed =
            let (a, here, done) = some_at (slice_get calls k) (λ a. IsTrue (is_completed a)) completed in
            let (t, there, responses, source, helps) = is.itself k a here in
            let t_done : IsTrue (is_completed t) = completed_as bound a t responses ∙ done in
            subst (Contains (collapsed order)) source (in_collapsed order (is.number k) (h.complete (is.number k) (rw there t_done)) helps)

-- ---- the laws

pub no_lost_writes : EvictedKeysAreNoLostWrites
no_lost_writes bound keys start calls recorded rising apart all is (order, h) =
    (expand bound keys calls recorded is order, order_goes bound keys calls recorded is start rising order apart all h)

pub refuted : LostWritesAreRefuted
refuted bound keys start calls recorded rising low apart is (order, h) =
    (collapse bound keys calls recorded is order, order_comes bound keys calls recorded is start rising order low apart h)

pub lossy_maps : RecordedCachesAreLossyMaps
lossy_maps bound keys history recording history_is same is all low apart =
    let calls = operations history.events in
    let recorded = operations recording.events in
    let rising = history_is.start.rising in (
      λ h. rw same (no_lost_writes bound keys history.start calls recorded rising (NonePrecedesItself-operations history.events) all is h),
      λ h. refuted bound keys history.start calls recorded rising low apart is (rw same at h),
    )
