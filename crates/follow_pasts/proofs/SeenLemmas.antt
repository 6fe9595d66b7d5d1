-- The first pending read of some keys, list by list.
use Rattle.std.proofs.Common.{◌≡◌, ℕ, suc, ◌+◌, ◌<◌, ◌≤◌, Bool, true, false, List, length, get_or, Option, None, Some, inl, inr, refl, sym, ap, ◌∙◌, subst, ⊎_elim, arith}
use Rattle.std.specs.Global.{Global}
use Rattle.std.specs.Prelude.{Vec, Contains, IfSome, if◌then◌else◌, ◌%◌}
use Rattle.std.proofs.lemmas.Bool.{cases_eq, ne_eqb}
use Rattle.follow_pasts.proofs.Common.{All-contains, get_or_default, covered, Range}
use Rattle.follow_pasts.proofs.ListLemmas.{in_a_list}
use Rattle.follow_pasts.proofs.MomentLemmas.{IsFirst, begun_earlier, begun_of_none}
use Rattle.follow_pasts.proofs.OpenReadLemmas.{IsFirstSeen, IsSeen, place_of_read}
use Rattle.follow_pasts.specs.Lists.{AreListed, list_place, things_of}
use Rattle.follow_pasts.specs.Moments.{AreBegunAfter, HaveNoRead, IsEarlier}
use Rattle.follow_pasts.specs.declared.moments.OpenRead.{OpenRead}

module _ (ranges : List Range) (lists : List (Vec OpenRead Global)) (from : ℕ) where
  abbrev AfterAt : ℕ → Vec OpenRead Global → Type 0
  AfterAt moment list = AreBegunAfter ranges list.items moment

  -- any property of the list at a place
  at_place : (P : Vec OpenRead Global → Type 0) (place : ℕ) (list : Vec OpenRead Global) → place < length lists → list ≡ get_or lists place list
      → P list → (k : ℕ) → k ≡ place → (d : Vec OpenRead Global) → P (get_or lists k d)
  at_place P place list within here is k same d =
      subst P (here ∙ (get_or_default lists place list d within ∙ ap (λ (n : ℕ). get_or lists n d) (sym same))) is

  only_first : (k : ℕ) → IsSeen from from k → k ≡ 0
  only_first k (inl same) = same
  only_first k (inr (least, less)) = omega (arith, least, less)

  pub seen_first : (list : Vec OpenRead Global) → 0 < length lists → list ≡ get_or lists 0 list → (first : Option ℕ)
      → IsFirst ranges list.items first → IsFirstSeen ranges lists from from first
  seen_first list within here None is = λ k seen d. at_place (λ (l : Vec OpenRead Global). HaveNoRead ranges l.items) 0 list within here is k (only_first k seen) d
  seen_first list within here (Some moment) is = λ k seen d. at_place (AfterAt moment) 0 list within here is k (only_first k seen) d

  seen_before : (place k : ℕ) → IsSeen from (place + 1) k → (k ≡ place → ⊥) → IsSeen from place k
  seen_before place k (inl same) other = inl same
  seen_before place k (inr (least, less)) other = inr (least, omega (arith, less, other))

  module _ (place : ℕ) (list : Vec OpenRead Global) (within : place < length lists) (here : list ≡ get_or lists place list) where
    after_more : (moment : ℕ) → AreBegunAfter ranges list.items moment
        → ((k : ℕ) → IsSeen from place k → (d : Vec OpenRead Global) → AfterAt moment (get_or lists k d))
        → (k : ℕ) → IsSeen from (place + 1) k → (d : Vec OpenRead Global) → AfterAt moment (get_or lists k d)
    after_more moment own had k seen d = ⊎_elim
        (λ same. at_place (AfterAt moment) place list within here own k same d)
        (λ other. had k (seen_before place k seen other) d)
        (cases_eq k place)

    pub seen_more : (first next : Option ℕ) → IsFirstSeen ranges lists from place first → IsEarlier ranges list.items first next
        → IsFirstSeen ranges lists from (place + 1) next
    seen_more None None had (none, own) = λ k seen d. ⊎_elim
        (λ same. at_place (λ (l : Vec OpenRead Global). HaveNoRead ranges l.items) place list within here own k same d)
        (λ other. had k (seen_before place k seen other) d)
        (cases_eq k place)
    seen_more (Some was) None had (none, own) = cc
    seen_more None (Some moment) had (own, less) =
        after_more moment own (λ k seen d. begun_of_none ranges (get_or lists k d).items moment (had k seen d))
    seen_more (Some was) (Some moment) had (own, less) =
        after_more moment own (λ k seen d. begun_earlier ranges (get_or lists k d).items was moment (had k seen d) less)

  module _ (listed : AreListed place_of_read lists) (end place : ℕ) (done : end ≤ place)
      (least : (key : ℕ) → covered ranges key ≡ true → from ≤ list_place key key)
      (less : (key : ℕ) → covered ranges key ≡ true → list_place key key < end) where
    is_seen : (read : OpenRead) (k : ℕ) → place_of_read read ≡ k → (key : ℕ) → read.low ≤ key → key ≤ read.high → covered ranges key ≡ true
        → IsSeen from place k
    is_seen read k is key above below has = ⊎_elim
        (λ (same : read.low ≡ read.high).
        let low_is : read.low ≡ key = omega (arith, same, above, below) in
        let high_is : read.high ≡ key = omega (arith, same, above, below) in
        let k_is : list_place key key ≡ k =
        subst (λ (n : ℕ). list_place n key ≡ k) low_is (subst (λ (n : ℕ). list_place read.low n ≡ k) high_is is) in
        inr (subst (λ (n : ℕ). from ≤ n) k_is (least key has), omega (arith, subst (λ (n : ℕ). n < end) k_is (less key has), done)))
        (λ other. inl (sym is ∙ ap (λ (b : Bool). if b then suc (read.low % 1021) else 0) (ne_eqb read.low read.high other)))
        (cases_eq read.low read.high)

    of_list : (read : OpenRead) (k : ℕ) (d : Vec OpenRead Global) → k < length lists → Contains (get_or lists k d).items read → place_of_read read ≡ k
    of_list read k d within there =
        All-contains (λ (one : OpenRead). place_of_read one ≡ k) (get_or lists k d).items read (listed.own k within d) there

    by_test : (key : ℕ) (b : Bool) → covered ranges key ≡ b → (covered ranges key ≡ true → covered ranges key ≡ false) → covered ranges key ≡ false
    by_test key true has leads = leads has
    by_test key false has leads = has

    pub seen_all : (d : Vec OpenRead Global) (first : Option ℕ) → IsFirstSeen ranges lists from place first → IsFirst ranges (things_of lists) first
    seen_all d None had = λ read there key above below.
        let (k, within, at) = in_a_list lists read there in
        by_test key (covered ranges key) refl (λ has.
        had k (is_seen read k (of_list read k d within (at d)) key above below has) d read (at d) key above below)
    seen_all d (Some moment) had = λ read there before key above below.
        let (k, within, at) = in_a_list lists read there in
        by_test key (covered ranges key) refl (λ has.
        had k (is_seen read k (of_list read k d within (at d)) key above below has) d read (at d) before key above below)

-- ---- the earlier one of a moment and of when the first read began

pub none_earlier : (ranges : List Range) (reads : List OpenRead) (first : Option ℕ) → HaveNoRead ranges reads → IsEarlier ranges reads first first
none_earlier ranges reads None none = (refl, none)
none_earlier ranges reads (Some moment) none = (begun_of_none ranges reads moment none, omega arith)

pub is_earlier : (ranges : List Range) (reads : List OpenRead) (first : Option ℕ) (moment other : ℕ) → first ≡ Some moment → moment < other
    → AreBegunAfter ranges reads other → IsEarlier ranges reads first (Some moment)
is_earlier ranges reads first moment other is less after = (
  begun_earlier ranges reads other moment after (omega (arith, less)),
  subst (λ (o : Option ℕ). IfSome o (λ was. moment ≤ was)) (sym is) (omega arith),
)
