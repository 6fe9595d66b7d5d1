-- An exact verdict shows what its word says, and there is one only.
use Rattle.judge.proofs.Common.{◌≡◌, ℕ, List, [], ◌∷◌, ◌++◌, ap, sym, subst, inl, inr, refl, ⊎_elim, ◌∙◌, All, AllZip, All-append, All-cons}
use Rattle.judge.proofs.Common.{All-contains, All-head, All-tail, All-weaker, Contains-append_right, Operation, operations, Contains-first, Contents}
use Rattle.judge.proofs.Common.{IsOrder, IsLinearizable, SegmentView, IsOrderOf, numbers_at, Verdict, Yes, No, Undecided, HasOrder, IsBeyond}
use Rattle.judge.proofs.Common.{IsUnrefuted, ShowsYes, ShowsNo, ShowsUndecided, IsOrderedBy, IsOrdered, IsRefuted, IsSpent, IsOrderedOrSpent}
use Rattle.judge.proofs.Common.{IsExactYes, IsExactNo, IsExactUndecided, IsExactVerdict, AreSameVerdict, verdict_data, compact_text}
use Rattle.events.specs.HistoryView.{HistoryView}
use Rattle.events.specs.Histories.{IsHistory}
use Rattle.search.proofs.CountLemmas.{CountIsAbove-not_within, ReachesMoreThan-from_count}
use Rattle.search.proofs.LeastOrderLemmas.{IsLeastOrder-unique}
use Rattle.cutter.specs.Laws.{HasOneListOfSegments}
use Rattle.merge_orders.specs.Laws.{HasOneMergedOrder}
use Rattle.merge_orders.specs.Merge.{IsMergedOrder}
use Rattle.judge.specs.Laws.{OneExactVerdict, OneReport}
use Rattle.judge.proofs.AnswerLemmas.{AllZip-weaker, IsOrdered-all}
use Rattle.history_text.specs.TextLaws.{SpellsOneHistory}

-- what holds of all holds of the one in the middle
pub All-here : (P : SegmentView → Type 0) (below : List SegmentView) (s : SegmentView) (above : List SegmentView)
    → All P (below ++ s ∷ above) → P s
All-here P below s above h = All-contains P (below ++ s ∷ above) s h (Contains-append_right below (s ∷ above) s (Contains-first s above))

-- what holds of all holds of each above the one in the middle
pub All-above : (P : SegmentView → Type 0) (below : List SegmentView) (s : SegmentView) (above : List SegmentView)
    → All P (below ++ s ∷ above) → All P above
All-above P [] s above h = All-tail P s above h
All-above P (x ∷ below) s above h = All-above P below s above (All-tail P x (below ++ s ∷ above) h)

-- the first of which P holds is only one, if all below it have Q, and P and Q exclude each other
first_unique : (P Q : SegmentView → Type 0) → ((s : SegmentView) → P s → Q s → ⊥) → (below : List SegmentView) (s : SegmentView)
    (above others : List SegmentView) (t : SegmentView) (beyond : List SegmentView) → below ++ s ∷ above ≡ others ++ t ∷ beyond → P s
    → P t → All Q below
    → All Q others → s ≡ t
first_unique P Q apart [] s above [] t beyond e p q b o = cc
first_unique P Q apart [] s above (x ∷ others) t beyond e p q b o =
    let same : s ≡ x = cc in absurd (apart x (subst P same p) (All-head Q x others o))
first_unique P Q apart (x ∷ below) s above [] t beyond e p q b o =
    let same : t ≡ x = cc in absurd (apart x (subst P same q) (All-head Q x below b))
first_unique P Q apart (x ∷ below) s above (y ∷ others) t beyond e p q b o =
    first_unique P Q apart below s above others t beyond (cc) p q (All-tail Q x below b) (All-tail Q y others o)

module _ (budget : ℕ) where
  order_of : (segment : SegmentView) (order : List ℕ) → IsOrderedBy budget segment order → IsOrderOf segment order
  order_of segment order (least, within) = (least.0, least.1, least.2.is_order)

  has_order : (segment : SegmentView) → IsOrdered budget segment → HasOrder segment
  has_order segment (order, (least, within)) = (least.0, least.2.is_order)

  is_beyond : (segment : SegmentView) → IsSpent budget segment → IsBeyond budget segment
  is_beyond segment spent = ReachesMoreThan-from_count segment.start segment.calls budget spent

  is_unrefuted : (segment : SegmentView) → IsOrderedOrSpent budget segment → IsUnrefuted budget segment
  is_unrefuted segment either = ⊎_elim (λ ordered. inl (has_order segment ordered)) (λ spent. inr (is_beyond segment spent)) either

  pub found_orders : (segments : List SegmentView) (orders : List (List ℕ)) → AllZip (IsOrderedBy budget) segments orders
      → AllZip IsOrderOf segments orders
  found_orders segments orders h = AllZip-weaker (IsOrderedBy budget) IsOrderOf order_of segments orders h

  -- ---- what an exact verdict shows

  pub shows_yes : (start : Contents) (calls : List Operation) (order : List ℕ) → IsExactYes start budget calls order
      → IsOrder start calls order
      → ShowsYes start calls order
  shows_yes start calls order h is_order = record {
    segments = h.segments;
    orders = h.orders;
    is_order = is_order;
    are_segments = h.are_segments;
    found = found_orders h.segments h.orders h.ordered;
    merged = h.merged;
  }

  pub shows_no : (start : Contents) (calls : List Operation) (segment : SegmentView) → IsExactNo start budget calls segment
      → (IsLinearizable start calls → ⊥)
      → ShowsNo start budget calls segment
  shows_no start calls segment h no_order = record {
    below = h.below;
    above = h.above;
    no_order = no_order;
    segment_has_none = h.refuted.0;
    are_segments = h.are_segments;
    lowest = All-weaker (IsOrderedOrSpent budget) (IsUnrefuted budget) is_unrefuted h.below h.lowest;
  }

  pub shows_undecided : (start : Contents) (calls : List Operation) (segment : SegmentView) → IsExactUndecided start budget calls segment
      → ShowsUndecided start budget calls segment
  shows_undecided start calls segment h = record {
    below = h.below;
    above = h.above;
    reaches = is_beyond segment h.spent;
    are_segments = h.are_segments;
    lowest = All-weaker (IsOrdered budget) HasOrder has_order h.below h.lowest;
    unrefuted = All-weaker (IsOrderedOrSpent budget) (IsUnrefuted budget) is_unrefuted h.above h.unrefuted;
  }

  -- ---- one answer on each segment

  least_unique : (segment : SegmentView) (a b : List ℕ) → IsOrderedBy budget segment a → IsOrderedBy budget segment b → a ≡ b
  least_unique segment a b (h, h_within) (k, k_within) =
      h.1 ∙ ap (numbers_at segment) (IsLeastOrder-unique segment.start segment.calls h.0 k.0 h.2 k.2) ∙ sym k.1

  ordered_is_not_spent : (segment : SegmentView) → IsSpent budget segment → IsOrdered budget segment → ⊥
  ordered_is_not_spent segment spent (order, (least, within)) = CountIsAbove-not_within segment.start segment.calls budget spent within

  refuted_is_not_else : (segment : SegmentView) → IsRefuted budget segment → IsOrderedOrSpent budget segment → ⊥
  refuted_is_not_else segment (none, within) either =
      ⊎_elim (λ ordered. none (has_order segment ordered))
      (λ spent. CountIsAbove-not_within segment.start segment.calls budget spent within) either

  -- ---- one list of orders, and one lowest segment

  orders_unique : (segments : List SegmentView) (a b : List (List ℕ)) → AllZip (IsOrderedBy budget) segments a
      → AllZip (IsOrderedBy budget) segments b → a ≡ b
  orders_unique [] [] [] h k = refl
  orders_unique [] [] (y ∷ b) h k = absurd k
  orders_unique [] (x ∷ a) b h k = absurd h
  orders_unique (s ∷ segments) [] b h k = absurd h
  orders_unique (s ∷ segments) (x ∷ a) [] h k = absurd k
  orders_unique (s ∷ segments) (x ∷ a) (y ∷ b) h k =
      ap (λ o. o ∷ a) (least_unique s x y h.0 k.0) ∙ ap (λ l. y ∷ l) (orders_unique segments a b h.1 k.1)

  none_refuted : (start : Contents) (calls : List Operation) (segment : SegmentView) → (h : IsExactUndecided start budget calls segment)
      → All (IsOrderedOrSpent budget) (h.below ++ segment ∷ h.above)
  none_refuted start calls segment h =
      All-append (IsOrderedOrSpent budget) h.below (segment ∷ h.above)
      (All-weaker (IsOrdered budget) (IsOrderedOrSpent budget) (λ s is. inl is) h.below h.lowest)
      (All-cons (IsOrderedOrSpent budget) segment h.above (inr h.spent) h.unrefuted)

  -- ---- one verdict

  pub one_verdict : (history : HistoryView) (a b : Verdict) → HasOneListOfSegments → HasOneMergedOrder → IsHistory history
      → IsExactVerdict history.start budget (operations history.events) a
      → IsExactVerdict history.start budget (operations history.events) b
      → AreSameVerdict a b
  one_verdict history (Yes a) (Yes b) one_list one_merged is h k =
      let segments = one_list history h.segments k.segments is h.are_segments k.are_segments in
      let other = subst (λ s. AllZip (IsOrderedBy budget) s k.orders) (sym segments) k.ordered in
      let orders = orders_unique h.segments h.orders k.orders h.ordered other in
      let found = found_orders h.segments h.orders h.ordered in
      one_merged history h.orders a.items b.items is (h.segments, h.are_segments, found) h.merged
      (subst (λ o. IsMergedOrder (operations history.events) o b.items) (sym orders) k.merged)
  one_verdict history (Yes a) (No b) one_list one_merged is h k =
      let segments = one_list history h.segments (k.below ++ b ∷ k.above) is h.are_segments k.are_segments in
      let ordered = subst (All (IsOrdered budget)) segments (IsOrdered-all budget h.segments h.orders h.ordered) in
      refuted_is_not_else b k.refuted (inl (All-here (IsOrdered budget) k.below b k.above ordered))
  one_verdict history (Yes a) (Undecided b) one_list one_merged is h k =
      let segments = one_list history h.segments (k.below ++ b ∷ k.above) is h.are_segments k.are_segments in
      let ordered = subst (All (IsOrdered budget)) segments (IsOrdered-all budget h.segments h.orders h.ordered) in
      ordered_is_not_spent b k.spent (All-here (IsOrdered budget) k.below b k.above ordered)
  one_verdict history (No a) (Yes b) one_list one_merged is h k =
      let segments = one_list history k.segments (h.below ++ a ∷ h.above) is k.are_segments h.are_segments in
      let ordered = subst (All (IsOrdered budget)) segments (IsOrdered-all budget k.segments k.orders k.ordered) in
      refuted_is_not_else a h.refuted (inl (All-here (IsOrdered budget) h.below a h.above ordered))
  one_verdict history (No a) (No b) one_list one_merged is h k =
      let segments = one_list history (h.below ++ a ∷ h.above) (k.below ++ b ∷ k.above) is h.are_segments k.are_segments in
      first_unique (IsRefuted budget) (IsOrderedOrSpent budget) refuted_is_not_else h.below a h.above k.below b k.above segments
      h.refuted k.refuted
      h.lowest k.lowest
  one_verdict history (No a) (Undecided b) one_list one_merged is h k =
      let segments = one_list history (k.below ++ b ∷ k.above) (h.below ++ a ∷ h.above) is k.are_segments h.are_segments in
      refuted_is_not_else a h.refuted
      (All-here (IsOrderedOrSpent budget) h.below a h.above (subst (All (IsOrderedOrSpent budget)) segments
      (none_refuted history.start (operations history.events) b k)))
  one_verdict history (Undecided a) (Yes b) one_list one_merged is h k =
      let segments = one_list history k.segments (h.below ++ a ∷ h.above) is k.are_segments h.are_segments in
      let ordered = subst (All (IsOrdered budget)) segments (IsOrdered-all budget k.segments k.orders k.ordered) in
      ordered_is_not_spent a h.spent (All-here (IsOrdered budget) h.below a h.above ordered)
  one_verdict history (Undecided a) (No b) one_list one_merged is h k =
      let segments = one_list history (h.below ++ a ∷ h.above) (k.below ++ b ∷ k.above) is h.are_segments k.are_segments in
      refuted_is_not_else b k.refuted
      (All-here (IsOrderedOrSpent budget) k.below b k.above (subst (All (IsOrderedOrSpent budget)) segments
      (none_refuted history.start (operations history.events) a h)))
  one_verdict history (Undecided a) (Undecided b) one_list one_merged is h k =
      let segments = one_list history (h.below ++ a ∷ h.above) (k.below ++ b ∷ k.above) is h.are_segments k.are_segments in
      first_unique (IsSpent budget) (IsOrdered budget) ordered_is_not_spent h.below a h.above k.below b k.above segments h.spent k.spent
      h.lowest k.lowest

-- verdicts that say the same have the same report
same_data : (a b : Verdict) → AreSameVerdict a b → verdict_data a ≡ verdict_data b
same_data (Yes a) (Yes b) same = cc
same_data (Yes a) (No b) same = absurd same
same_data (Yes a) (Undecided b) same = absurd same
same_data (No a) (Yes b) same = absurd same
same_data (No a) (No b) same = cc
same_data (No a) (Undecided b) same = absurd same
same_data (Undecided a) (Yes b) same = absurd same
same_data (Undecided a) (No b) same = absurd same
same_data (Undecided a) (Undecided b) same = cc

pub one_report : SpellsOneHistory → OneExactVerdict → OneReport
one_report spelled one budget text a b report other first second =
    let history = spelled text first.history second.history first.spelled second.spelled in
    let exact = subst (λ h. IsExactVerdict h.start budget (operations h.events) b) (sym history) second.exact in
    let same = same_data a b (one budget first.history a b first.is_history first.exact exact) in
    first.reported ∙ ap compact_text same ∙ sym second.reported
