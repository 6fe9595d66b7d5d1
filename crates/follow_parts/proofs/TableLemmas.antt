-- The parts of a state, list by list: a part that has a key is taken out (`taken_at`, `taken_from`, `none_with`), and all that meet a range
-- (`taking_begins`, `taking_goes_on`, `taking_ends`).
use Rattle.follow_parts.proofs.Common.{◌≡◌, ℕ, suc, ◌<◌, ◌≤◌, ◌+◌, ◌&&◌, ◌||◌, Bool, true, false, List, [], ◌∷◌, ◌++◌, length, get_or, set, take, drop}
use Rattle.follow_parts.proofs.Common.{inl, inr, refl, sym, ap, ◌∙◌, subst, ⊎_elim, ◌⊎◌, append-nil, arith, Option, None, Some, Vec}
use Rattle.follow_parts.proofs.Common.{Global, All, IsSomeAnd, slice_get, nat_le, if◌then◌else◌, and_parts, leb-true, All-contains}
use Rattle.follow_parts.proofs.Common.{All-from_contains, IsSomeAnd-within, some_at, get_or_from_slice_get, get_or_default, parts_at, take_more}
use Rattle.follow_parts.proofs.Common.{get_or-set_other, get_or-set_same, length-set, covered, Part, Range, AreListed, AreMet, AreParted}
use Rattle.follow_parts.proofs.Common.{IsTakenWith, part_place, things_of}
use Rattle.std.proofs.lemmas.Bool.{cases_eq, ne_eqb}
use Rattle.std.proofs.lemmas.List.{ext_get_or, get_or-drop, take-append-drop, length-drop}
use Rattle.std.proofs.lemmas.List.{take_more_set}
use Rattle.std.proofs.lemmas.List.Concat.{flat_map-append}
use Rattle.std.proofs.Common.{◌-◌}
use Rattle.std.specs.Prelude.{◌%◌}
use Rattle.std.proofs.Common.{zero}
use Rattle.std.specs.List.{HoldsAt}
use Rattle.follow_pasts.proofs.ListLemmas.{in_a_list, listed_then, of_old, then_around, things_around, things_before, things_out, was_around}
use Rattle.follow_pasts.proofs.OpenReadLemmas.{IsSeen}
use Rattle.follow_pasts.specs.Lists.{list_place}
use Rattle.follow_parts.specs.Table.{ranges_place}
use Rattle.follow_parts.proofs.PutLemmas.{others_of}
use Rattle.follow_parts.proofs.ReadingLemmas.{HasNone}
use Rattle.follow_parts.proofs.MetLemmas.{all_left}

-- ---- the list of a part

or_nothing : (b : Bool) → (b || false) ≡ true → b ≡ true
or_nothing true is = refl
or_nothing false is = is

-- a part that has a key is in the first list, or in that of the key
place_of_ranges : (ranges : List Range) (key : ℕ) → covered ranges key ≡ true → (ranges_place ranges ≡ 0) ⊎ (ranges_place ranges ≡ list_place key key)
place_of_ranges [] key has = inl refl
place_of_ranges (range ∷ other ∷ ranges) key has = inl refl
place_of_ranges (range ∷ []) key has =
    let both = and_parts (nat_le range.low key) (nat_le key range.high) (or_nothing (nat_le range.low key && nat_le key range.high) has) in
    let above : range.low ≤ key = leb-true range.low key both.0 in
    let below : key ≤ range.high = leb-true key range.high both.1 in
    ⊎_elim
    (λ (same : range.low ≡ range.high).
    let low_is : range.low ≡ key = omega (arith, same, above, below) in
    let high_is : range.high ≡ key = omega (arith, same, above, below) in
    inr (ap (λ (n : ℕ). list_place n range.high) low_is ∙ ap (λ (n : ℕ). list_place key n) high_is))
    (λ other. inl (ap (λ (b : Bool). if b then suc (range.low % 1021) else 0) (ne_eqb range.low range.high other)))
    (cases_eq range.low range.high)

by_test : (b : Bool) → (b ≡ true → b ≡ false) → b ≡ false
by_test true leads = leads refl
by_test false leads = refl

abbrev pub Lacks : ℕ → Part → Type 0
Lacks key part = covered part.ranges.items key ≡ false

-- ---- a part of a list that has a key

pub taken_at : (key place : ℕ) (parts news : List Part) (part : Part) → IsSomeAnd (slice_get parts place) (λ p. covered p.ranges.items key ≡ true)
    → part ≡ get_or parts place part → news ≡ take place parts ++ drop (place + 1) parts → IsTakenWith key parts news (Some part)
taken_at key place parts news part there here out =
    let (x, is, has) = some_at (slice_get parts place) (λ (p : Part). covered p.ranges.items key ≡ true) there in
    let same : part ≡ x = here ∙ get_or_from_slice_get parts place x part is in (
      record {
        front = take place parts;
        back = drop (place + 1) parts;
        before = out;
        after = parts_at parts place part (IsSomeAnd-within parts place (λ (p : Part). covered p.ranges.items key ≡ true) there) here;
      },
      subst (λ (p : Part). covered p.ranges.items key ≡ true) (sym same) has,
    )

-- ---- one of the lists

module _ (lists : List (Vec Part Global)) (listed : AreListed part_place lists) (place : ℕ) (old new : Vec Part Global)
    (within : place < length lists) (here : old ≡ get_or lists place old) where
  abbrev front : List (Vec Part Global)
  front = take place lists

  abbrev back : List (Vec Part Global)
  back = drop (suc place) lists

  was : lists ≡ front ++ old ∷ back
  was = was_around part_place lists listed place old new within here

  becomes : set lists place new ≡ front ++ new ∷ back
  becomes = then_around part_place lists listed place old new within here

  abbrev IsOwn : Part → Type 0
  IsOwn part = part_place part ≡ place

  own : All IsOwn old.items
  own = of_old part_place lists listed place old new within here

  pub taken_listed : (key : ℕ) (taken : Option Part) → IsTakenWith key old.items new.items taken → AreListed part_place (set lists place new)
  taken_listed key None is = listed_then part_place lists listed place old new within here (subst (λ (l : List Part). All IsOwn l) (sym is.0) own)
  taken_listed key (Some part) is =
      listed_then part_place lists listed place old new within here (others_of part new.items old.items is.0 IsOwn own)

  pub taken_from : (key : ℕ) (part : Part) → IsTakenWith key old.items new.items (Some part)
      → IsTakenWith key (things_of lists) (things_of (set lists place new)) (Some part)
  taken_from key part is = (
    record {
      front = things_of front ++ is.0.front;
      back = is.0.back ++ things_of back;
      before = ap (λ (l : List (Vec Part Global)). things_of l) becomes ∙ things_out front old new back is.0.front is.0.back part is.0.before;
      after = ap (λ (l : List (Vec Part Global)). things_of l) was ∙ things_before front old new back is.0.front is.0.back part is.0.after;
    },
    is.1,
  )

  pub same_things : new.items ≡ old.items → things_of (set lists place new) ≡ things_of lists
  same_things same =
      ap (λ (l : List (Vec Part Global)). things_of l) becomes
      ∙ (things_around front old new back new
      ∙ (ap (λ (l : List Part). things_of front ++ (l ++ things_of back)) same
      ∙ (sym (things_around front old new back old) ∙ ap (λ (l : List (Vec Part Global)). things_of l) (sym was))))

-- ---- the first list and that of the key

-- no part has a key, if none of these lists has it
none_with : (key : ℕ) (lists : List (Vec Part Global)) (d : Vec Part Global) → AreListed part_place lists
    → HoldsAt (λ list. All (Lacks key) list.items) lists 0 → HoldsAt (λ list. All (Lacks key) list.items) lists (list_place key key)
    → All (Lacks key) (things_of lists)
none_with key lists d listed first second = All-from_contains (Lacks key) (things_of lists) (λ part part_in.
    let (k, within, at) = in_a_list lists part part_in in
    by_test (covered part.ranges.items key) (λ has.
    let place : part_place part ≡ k = All-contains (λ (p : Part). part_place p ≡ k) (get_or lists k d).items part (listed.own k within d) (at d) in
    ⊎_elim
    (λ none. All-contains (Lacks key) (get_or lists k d).items part
    (subst (λ (n : ℕ). All (Lacks key) (get_or lists n d).items) (sym none ∙ place) (first d)) (at d))
    (λ own. All-contains (Lacks key) (get_or lists k d).items part
    (subst (λ (n : ℕ). All (Lacks key) (get_or lists n d).items) (sym own ∙ place) (second d)) (at d))
    (place_of_ranges part.ranges.items key has)))

module _ (key : ℕ) (lists : List (Vec Part Global)) (listed : AreListed part_place lists) (old new : Vec Part Global) (some : 0 < length lists)
    (here : old ≡ get_or lists 0 old) (first : IsTakenWith key old.items new.items None) (place : ℕ) (own : place ≡ list_place key key)
    (within : place < length lists) (old_then new_then : Vec Part Global) (here_then : old_then ≡ get_or (set lists 0 new) place old_then)
    (taken : Option Part) (is : IsTakenWith key old_then.items new_then.items taken) where
  abbrev mids : List (Vec Part Global)
  mids = set lists 0 new

  mids_listed : AreListed part_place mids
  mids_listed = taken_listed lists listed 0 old new some here key None first

  within_mids : place < length mids
  within_mids = subst (λ (n : ℕ). place < n) (sym (length-set lists 0 new)) within

  same_mids : things_of mids ≡ things_of lists
  same_mids = same_things lists listed 0 old new some here first.0

  pub second_listed : AreListed part_place (set mids place new_then)
  second_listed = taken_listed mids mids_listed place old_then new_then within_mids here_then key taken is

  second_so : (also : Option Part) → IsTakenWith key old_then.items new_then.items also
      → IsTakenWith key (things_of lists) (things_of (set mids place new_then)) also
  second_so None none = (
    same_things mids mids_listed place old_then new_then within_mids here_then none.0 ∙ same_mids,
    subst (λ (l : List Part). All (Lacks key) l) same_mids (none_with key mids old mids_listed
        (λ d. subst (λ (l : Vec Part Global). All (Lacks key) l.items) (sym (get_or-set_same lists 0 new d some))
        (subst (λ (l : List Part). All (Lacks key) l) (sym first.0) first.1))
        (λ d. subst (λ (n : ℕ). All (Lacks key) (get_or mids n d).items) own
        (subst (λ (l : Vec Part Global). All (Lacks key) l.items) (here_then ∙ get_or_default mids place old_then d within_mids) none.1))),
  )
  second_so (Some part) also =
      subst (λ (l : List Part). IsTakenWith key l (things_of (set mids place new_then)) (Some part)) same_mids
      (taken_from mids mids_listed place old_then new_then within_mids here_then key part also)

  pub second_taken : IsTakenWith key (things_of lists) (things_of (set mids place new_then)) taken
  second_taken = second_so taken is

-- ---- parts that a range meets, list by list

parted_self : (parts : List Part) → AreParted parts parts []
parted_self [] = (refl, refl)
parted_self (part ∷ parts) = inl (parts, refl, parted_self parts)

parted_append : (olds left out olds_then left_then out_then : List Part) → AreParted olds left out → AreParted olds_then left_then out_then
    → AreParted (olds ++ olds_then) (left ++ left_then) (out ++ out_then)
parted_append [] left out olds_then left_then out_then is also =
    subst (λ (l : List Part). AreParted olds_then (l ++ left_then) (out ++ out_then)) (sym is.0)
    (subst (λ (l : List Part). AreParted olds_then left_then (l ++ out_then)) (sym is.1) also)
parted_append (part ∷ olds) left out olds_then left_then out_then (inl (more, same, is)) also =
    inl (more ++ left_then, ap (λ (l : List Part). l ++ left_then) same, parted_append olds more out olds_then left_then out_then is also)
parted_append (part ∷ olds) left out olds_then left_then out_then (inr (more, same, is)) also =
    inr (more ++ out_then, ap (λ (l : List Part). l ++ out_then) same, parted_append olds left more olds_then left_then out_then is also)

parted_more : (olds left out more : List Part) → AreParted olds left out → AreParted (olds ++ more) (left ++ more) out
parted_more olds left out more is =
    subst (λ (l : List Part). AreParted (olds ++ more) (left ++ more) l) (append-nil out)
    (parted_append olds left out more more [] is (parted_self more))

things_last : (lists : List (Vec Part Global)) (list : Vec Part Global) → things_of (lists ++ list ∷ []) ≡ things_of lists ++ list.items
things_last lists list =
    flat_map-append (λ (l : Vec Part Global). l.items) lists (list ∷ []) ∙ ap (λ (l : List Part). things_of lists ++ l) (append-nil list.items)

same_drop : (d : Vec Part Global) (lists olds : List (Vec Part Global)) (place : ℕ) → length lists ≡ length olds
    → ((k : ℕ) → place ≤ k → (d : Vec Part Global) → get_or lists k d ≡ get_or olds k d) → drop place lists ≡ drop place olds
same_drop d lists olds place long same = ext_get_or d (drop place lists) (drop place olds)
    (length-drop place lists ∙ (ap (λ (n : ℕ). n - place) long ∙ sym (length-drop place olds)))
    (λ i less. get_or-drop place lists i d ∙ (same (place + i) (omega arith) d ∙ sym (get_or-drop place olds i d)))

module _ (low high : ℕ) (olds : List (Vec Part Global)) (from : ℕ) where
  -- the parts that the range met in the lists so far were taken out: the first one, and those from one place to before another
  pub record AreTaken (lists : List (Vec Part Global)) (met : List Part) (place : ℕ) : Type 0 where
    pub listed : AreListed part_place lists
    pub long : length lists ≡ length olds
    pub seen : (k : ℕ) → IsSeen from place k → HoldsAt (λ list. All (HasNone low high) list.items) lists k
    pub parted : AreParted (things_of (take place olds)) (things_of (take place lists)) met
    pub later : (k : ℕ) → place ≤ k → (d : Vec Part Global) → get_or lists k d ≡ get_or olds k d

  -- what is left of the list at a place
  module _ (lists : List (Vec Part Global)) (listed : AreListed part_place lists) (place : ℕ) (within : place < length lists)
      (old new : Vec Part Global) (here : old ≡ get_or lists place old) (out : List Part) (is : AreMet low high old.items new.items out) where
    left_listed : AreListed part_place (set lists place new)
    left_listed = listed_then part_place lists listed place old new within here
        (all_left (λ (part : Part). part_place part ≡ place) old.items new.items out is.parted
        (of_old part_place lists listed place old new within here))

    none_left : (k : ℕ) → k ≡ place → HoldsAt (λ list. All (HasNone low high) list.items) (set lists place new) k
    none_left k same d = subst (λ (l : Vec Part Global). All (HasNone low high) l.items)
        (sym (get_or-set_same lists place new d within) ∙ ap (λ (n : ℕ). get_or (set lists place new) n d) (sym same)) is.others

  pub taking_begins : (listed : AreListed part_place olds) (old new : Vec Part Global) → 0 < length olds → old ≡ get_or olds 0 old → 0 < from
      → (met : List Part) → AreMet low high old.items new.items met → AreTaken (set olds 0 new) met from
  taking_begins listed old new some here start met is = record {
    listed = left_listed olds listed 0 some old new here met is;
    long = length-set olds 0 new;
    seen = λ k seen. none_left olds listed 0 some old new here met is k (only_first k seen);
    parted = begun olds from some here start;
    later = λ k after d. get_or-set_other olds 0 k new d (λ same. omega (arith, after, start, same));
  }
    where
      only_first : (k : ℕ) → IsSeen from from k → k ≡ 0
      only_first k (inl same) = same
      only_first k (inr (least, less)) = omega (arith, least, less)

      begun : (lists : List (Vec Part Global)) (n : ℕ) → 0 < length lists → old ≡ get_or lists 0 old → 0 < n
          → AreParted (things_of (take n lists)) (things_of (take n (set lists 0 new))) met
      begun [] n within at more = absurd (omega (arith, within))
      begun (list ∷ lists) zero within at more = absurd (omega (arith, more))
      begun (list ∷ lists) (suc n) within at more =
          subst (λ (l : Vec Part Global). AreParted (l.items ++ things_of (take n lists)) (new.items ++ things_of (take n lists)) met) at
          (parted_more old.items new.items met (things_of (take n lists)) is.parted)

  pub taking_goes_on : (lists : List (Vec Part Global)) (met : List Part) (place : ℕ) → AreTaken lists met place → place < length lists
      → (old new : Vec Part Global) → old ≡ get_or lists place old → (out : List Part) → AreMet low high old.items new.items out
      → (more : List Part) → more ≡ met ++ out → AreTaken (set lists place new) more (place + 1)
  taking_goes_on lists met place so within old new here out is more pushed = record {
    listed = left_listed lists so.listed place within old new here out is;
    long = length-set lists place new ∙ so.long;
    seen = λ k seen. ⊎_elim
        (λ same. none_left lists so.listed place within old new here out is k same)
        (λ other d. subst (λ (l : Vec Part Global). All (HasNone low high) l.items) (sym (get_or-set_other lists place k new d other))
        (so.seen k (seen_before k seen other) d))
        (cases_eq k place);
    parted = subst (λ (l : List (Vec Part Global)). AreParted (things_of l) (things_of (take (place + 1) (set lists place new))) more) (sym olds_then)
        (subst (λ (l : List (Vec Part Global)). AreParted (things_of (take place olds ++ old ∷ [])) (things_of l) more)
        (sym (take_more_set lists place new within))
        (subst (λ (l : List Part). AreParted l (things_of (take place lists ++ new ∷ [])) more) (sym (things_last (take place olds) old))
        (subst (λ (l : List Part). AreParted (things_of (take place olds) ++ old.items) l more) (sym (things_last (take place lists) new))
        (subst (λ (l : List Part). AreParted (things_of (take place olds) ++ old.items) (things_of (take place lists) ++ new.items) l) (sym pushed)
        (parted_append (things_of (take place olds)) (things_of (take place lists)) met old.items new.items out so.parted is.parted)))));
    later = λ k after d. get_or-set_other lists place k new d (λ same. omega (arith, after, same)) ∙ so.later k (omega (arith, after)) d;
  }
    where
      seen_before : (k : ℕ) → IsSeen from (place + 1) k → (k ≡ place → ⊥) → IsSeen from place k
      seen_before k (inl same) other = inl same
      seen_before k (inr (least, less)) other = inr (least, omega (arith, less, other))

      olds_then : take (place + 1) olds ≡ take place olds ++ old ∷ []
      olds_then = take_more olds place old (omega (arith, within, so.long))
          ∙ ap (λ (l : Vec Part Global). take place olds ++ l ∷ []) (sym (here ∙ so.later place (omega arith) old))

  pub taking_ends : (d : Vec Part Global) (lists : List (Vec Part Global)) (met : List Part) (place end : ℕ) → AreTaken lists met place → end ≤ place
      → ((key : ℕ) → low ≤ key → key ≤ high → from ≤ list_place key key) → ((key : ℕ) → low ≤ key → key ≤ high → list_place key key < end)
      → AreMet low high (things_of olds) (things_of lists) met
  taking_ends d lists met place end so done least less = record {
    parted = subst (λ (l : List (Vec Part Global)). AreParted (things_of l) (things_of lists) met) (take-append-drop place olds)
        (subst (λ (l : List (Vec Part Global)). AreParted (things_of (take place olds ++ drop place olds)) (things_of l) met) (take-append-drop place lists)
        (subst (λ (l : List (Vec Part Global)). AreParted (things_of (take place olds ++ drop place olds)) (things_of (take place lists ++ l)) met)
        (sym (same_drop d lists olds place so.long so.later))
        (subst (λ (l : List Part). AreParted l (things_of (take place lists ++ drop place olds)) met) (sym (things_both (take place olds)))
        (subst (λ (l : List Part). AreParted (things_of (take place olds) ++ things_of (drop place olds)) l met) (sym (things_both (take place lists)))
        (parted_more (things_of (take place olds)) (things_of (take place lists)) met (things_of (drop place olds)) so.parted)))));
    others = All-from_contains (HasNone low high) (things_of lists) (λ part part_in key above below.
        let (k, within, at) = in_a_list lists part part_in in
        by_test (covered part.ranges.items key) (λ has.
        let own : part_place part ≡ k =
        All-contains (λ (p : Part). part_place p ≡ k) (get_or lists k d).items part (so.listed.own k within d) (at d) in
        let seen : IsSeen from place k = ⊎_elim
        (λ none. inl (sym own ∙ none))
        (λ its.
        let is : list_place key key ≡ k = sym its ∙ own in
        inr (
          subst (λ (n : ℕ). from ≤ n) is (least key above below),
          omega (arith, subst (λ (n : ℕ). n < end) is (less key above below), done),
        ))
        (place_of_ranges part.ranges.items key has) in
        All-contains (HasNone low high) (get_or lists k d).items part (so.seen k seen d) (at d) key above below));
  }
    where
      things_both : (lists : List (Vec Part Global)) → things_of (lists ++ drop place olds) ≡ things_of lists ++ things_of (drop place olds)
      things_both lists = flat_map-append (λ (l : Vec Part Global). l.items) lists (drop place olds)
