-- A history has one list of segments: classes of calls that are together, by rising key.
use Rattle.cutter.proofs.Common.{◌≡◌, ℕ, ◌<◌, ◌≤◌, List, [], ◌∷◌, length, refl, sym, ap, ◌∙◌, subst, ⊎_elim, arith, All, AllPairs, Contains, All-head}
use Rattle.cutter.proofs.Common.{All-tail, All-contains, All-weaker, Operation, low_key, high_key, operations, Contents, SegmentView, segment_of}
use Rattle.cutter.proofs.Common.{IsSegment, AreSegments, AllPairs-head, AllPairs-tail, Contains-first, Contains-later, Contains-cases, Contains-nil}
use Rattle.cutter.proofs.Common.{Contains-at, slice_get-below, keys_in_order-operations}
use Rattle.events.specs.HistoryView.{HistoryView}
use Rattle.events.specs.Histories.{IsHistory}
use Rattle.events.proofs.RisingLemmas.{rising_unique}
use Rattle.orders.proofs.SegmentLemmas.{known-IsSegment, IsInside-segment}

-- no scan has its ends the wrong way round
abbrev pub KeysInOrder : List Operation → Type 0
KeysInOrder calls = All (λ a. low_key a.call ≤ high_key a.call) calls

-- a list that is not empty has an element
some_number : (numbers : List ℕ) → (numbers ≡ [] → ⊥) → (n : ℕ) × Contains numbers n
some_number [] h = absurd (h refl)
some_number (n ∷ numbers) h = (n, Contains-first n numbers)

-- a segment has a call, so its least key is not above its greatest
keys_in_order-segment : (start : Contents) (calls : List Operation) (segment : SegmentView) → KeysInOrder calls
    → IsSegment start calls segment
    → segment.lo ≤ segment.hi
keys_in_order-segment start calls segment in_order h =
    let (n, is) = some_number segment.numbers h.not_empty in
    let (a, here) = slice_get-below calls n (All-contains (λ n. n < length calls) segment.numbers n
    (known-IsSegment start calls segment h) is) in
    let inside = IsInside-segment start calls segment n a h is here in
    let low = inside.low_inside in
    let high = inside.high_inside in
    let keys = All-contains (λ a. low_key a.call ≤ high_key a.call) calls a in_order (Contains-at calls n a here) in
    omega arith

-- two segments with a call in common are one
same_segment : (start : Contents) (calls : List Operation) (s t : SegmentView) (n : ℕ) → IsSegment start calls s → IsSegment start calls t
    → Contains s.numbers n → Contains t.numbers n
    → s ≡ t
same_segment start calls s t n s_is t_is in_s in_t =
    let numbers = rising_unique s.numbers t.numbers s_is.rising t_is.rising
    (λ k. (
      λ is. (t_is.members n k in_t).1 ((s_is.members n k in_s).0 is),
      λ is. (s_is.members n k in_s).1
          ((t_is.members n k in_t).0 is),
    )) in
    s_is.view ∙ (ap (segment_of start calls) numbers ∙ sym t_is.view)

-- each segment of one list is in the other
in_other : (start : Contents) (calls : List Operation) (a b : List SegmentView) (s : SegmentView) → AreSegments start calls a
    → AreSegments start calls b
    → Contains a s → Contains b s
in_other start calls a b s a_are b_are is =
    let s_is = All-contains (IsSegment start calls) a s a_are.each is in
    let (n, in_s) = some_number s.numbers s_is.not_empty in
    let (k, t, within, t_at, in_t) = b_are.all n ((s_is.members n n in_s).0 in_s).0 in
    let t_in : Contains b t = (k, within, t_at) in
    subst (Contains b) (same_segment start calls t s n (All-contains (IsSegment start calls) b t b_are.each t_in) s_is in_t in_s) t_in

-- what is in a list and lies beyond its first element is in the rest
later : (s : SegmentView) (b : List SegmentView) (u : SegmentView) → s.lo ≤ s.hi → s.hi < u.lo → Contains (s ∷ b) u → Contains b u
later s b u keys beyond is = ⊎_elim (λ same. let low = ap (λ v. v.lo) same in absurd (omega arith)) (λ rest. rest) (Contains-cases s b u is)

-- lists with the same elements, each of which ends below the later ones, are one
same_ranges : (a b : List SegmentView) → All (λ s. s.lo ≤ s.hi) a → All (λ s. s.lo ≤ s.hi) b → AllPairs (λ s t. s.hi < t.lo) a
    → AllPairs (λ s t. s.hi < t.lo) b
    → ((s : SegmentView) → Contains a s → Contains b s) → ((s : SegmentView) → Contains b s → Contains a s) → a ≡ b
same_ranges [] [] keys_a keys_b up_a up_b to from = refl
same_ranges [] (t ∷ b) keys_a keys_b up_a up_b to from = absurd (Contains-nil t (from t (Contains-first t b)))
same_ranges (s ∷ a) [] keys_a keys_b up_a up_b to from = absurd (Contains-nil s (to s (Contains-first s a)))
same_ranges (s ∷ a) (t ∷ b) keys_a keys_b up_a up_b to from =
    ap (λ u. u ∷ a) one ∙ ap (λ us. t ∷ us) (same_ranges a b (All-tail (λ s. s.lo ≤ s.hi) s a keys_a)
    (All-tail (λ s. s.lo ≤ s.hi) t b keys_b)
    (AllPairs-tail (λ s t. s.hi < t.lo) s a up_a) (AllPairs-tail (λ s t. s.hi < t.lo) t b up_b)
    (λ u is. later s b u keys_s (beyond_s u is) (subst (λ first. Contains (first ∷ b) u) (sym one) (to u (Contains-later s a u is))))
    (λ u is. later t a u keys_t (beyond_t u is) (subst (λ first. Contains (first ∷ a) u) one (from u (Contains-later t b u is)))))
  where
    keys_s : s.lo ≤ s.hi
    keys_s = All-head (λ s. s.lo ≤ s.hi) s a keys_a

    keys_t : t.lo ≤ t.hi
    keys_t = All-head (λ s. s.lo ≤ s.hi) t b keys_b

    beyond_s : (u : SegmentView) → Contains a u → s.hi < u.lo
    beyond_s u is = All-contains (λ u. s.hi < u.lo) a u (AllPairs-head (λ s t. s.hi < t.lo) s a up_a) is

    beyond_t : (u : SegmentView) → Contains b u → t.hi < u.lo
    beyond_t u is = All-contains (λ u. t.hi < u.lo) b u (AllPairs-head (λ s t. s.hi < t.lo) t b up_b) is

    one : s ≡ t
    one = ⊎_elim (λ same. sym same) (λ s_later. ⊎_elim (λ same. same)
        (λ t_later. let above = beyond_t s s_later in let below = beyond_s t t_later in absurd (omega (arith, keys_s, keys_t)))
        (Contains-cases s a t (from t (Contains-first t b)))) (Contains-cases t b s (to s (Contains-first s a)))

-- there is one list of segments, where no scan has its ends the wrong way round
pub AreSegments-unique : (start : Contents) (calls : List Operation) (a b : List SegmentView) → KeysInOrder calls
    → AreSegments start calls a
    → AreSegments start calls b → a ≡ b
AreSegments-unique start calls a b in_order a_are b_are =
    same_ranges a b (keys a a_are) (keys b b_are) a_are.by_key b_are.by_key (λ s is. in_other start calls a b s a_are b_are is)
    (λ s is. in_other start calls b a s b_are a_are is)
  where
    keys : (segments : List SegmentView) → AreSegments start calls segments → All (λ s. s.lo ≤ s.hi) segments
    keys segments are = All-weaker (IsSegment start calls) (λ s. s.lo ≤ s.hi) (λ s is. keys_in_order-segment start calls s in_order
        is) segments are.each

-- a history has one list of segments
pub AreSegments-unique_of_history : (history : HistoryView) (a b : List SegmentView) → IsHistory history
    → AreSegments history.start (operations history.events) a → AreSegments history.start (operations history.events) b → a ≡ b
AreSegments-unique_of_history history a b h a_are b_are =
    AreSegments-unique history.start (operations history.events) a b (keys_in_order-operations history.events h.events) a_are b_are
