-- A part moves on, and some of its keys are then at rest: the state after it (`stay_state`, `gone_state`, `left_state`) and its shape
-- (`stay_shape`, `gone_shape`, `left_shape`). What is left of the part is at the end of the list.
use Rattle.follow_parts.proofs.Common.{◌≡◌, ℕ, Bool, true, false, not, ◌&&◌, ◌||◌, List, [], ◌∷◌, ◌++◌, map, get_or, ◌<◌, ◌+◌}
use Rattle.follow_parts.proofs.Common.{Option, None, Some, append-nil, refl, sym, ap, ◌∙◌, subst, ⊎_elim, ◌⊎◌, ◌≢◌, All, AllPairs, Contains, IfSome}
use Rattle.follow_parts.proofs.Common.{if◌then◌else◌, list_any, false≢true, map-append, list_any-append, list_any_none, All-nil, All-cons, All-head}
use Rattle.follow_parts.proofs.Common.{All-tail, All-append, All-weaker, All-contains, AllPairs-cons, Contains-map, All-from_contains, All-front}
use Rattle.follow_parts.proofs.Common.{All-back, AllPairs-nil, AllPairs-head, AllPairs-tail, AllPairs-append, AllPairs-front, AllPairs-back, AllPairs-across}
use Rattle.follow_parts.proofs.Common.{Contains-nil, Operation, Contents, IsRising, value_at, Keys, AreApart, KeptPast, both_keys, IsTogether, KeptPart}
use Rattle.follow_parts.proofs.Common.{AreKept, at_rest, IsWithinKeys, kept_pasts_are_within, any_to, parts_move, kept_parts_unite, covered, or_else}
use Rattle.follow_parts.proofs.Common.{kept_part, AreBesidePasts, AreBesideEachOther, resting, outside, Part, OpenRead, IsKeptOrder, kept_apart, same_keys}
use Rattle.follow_parts.proofs.Common.{PartsView, is_at_rest, kept_rest, IsStateOf, IsPartBefore, IsPastBefore, IsBesideReads, IsShaped, IsKeptSo}
use Rattle.follow_parts.proofs.Common.{IsWithPairs, IsOfLeft, MovesOn, kept_moved, Moved}

-- ---- keys at rest

abbrev pub has_key : ℕ → Part → Bool
has_key key part = covered part.ranges.items key

or_swap : (a b c : Bool) → (a || (b || c)) ≡ (b || (a || c))
or_swap true true c = refl
or_swap true false c = refl
or_swap false b c = refl

or_nothing : (b : Bool) → (b || false) ≡ b
or_nothing true = refl
or_nothing false = refl

or_turned : (a b : Bool) → (a || b) ≡ (b || a)
or_turned true true = refl
or_turned true false = refl
or_turned false true = refl
or_turned false false = refl

pub any_split : (f : Part → Bool) (front : List Part) (part : Part) (back : List Part)
    → list_any f (front ++ part ∷ back) ≡ (f part || list_any f (front ++ back))
any_split f [] part back = refl
any_split f (x ∷ front) part back =
    ap (λ (b : Bool). f x || b) (any_split f front part back) ∙ or_swap (f x) (f part) (list_any f (front ++ back))

pub any_last : (f : Part → Bool) (others : List Part) (part : Part) → list_any f (others ++ part ∷ []) ≡ (f part || list_any f others)
any_last f others part = list_any-append f others (part ∷ [])
    ∙ (ap (λ (b : Bool). list_any f others || b) (or_nothing (f part)) ∙ or_turned (list_any f others) (f part))

-- the keys at rest with those that are new at rest
came_gone : (p a : Bool) → (p ≡ true → a ≡ false) → not a ≡ (p || not (p || a))
came_gone true a none = ap not (none refl)
came_gone false a none = refl

came_left : (p l a : Bool) → (l ≡ true → p ≡ true) → (p ≡ true → a ≡ false) → not (l || a) ≡ ((p && not l) || not (p || a))
came_left true true a own none = refl
came_left true false a own none = ap not (none refl)
came_left false true a own none = absurd (false≢true (own refl))
came_left false false a own none = refl

-- ---- pairs of keys that are new at rest are united with those at rest

else_same : (b : Bool) (x y : Option ℕ) → (b ≡ true → y ≡ None) → (b ≡ false → x ≡ None) → or_else x y ≡ (if b then x else y)
else_same true None y none other = none refl
else_same true (Some v) y none other = refl
else_same false None y none other = refl
else_same false (Some v) y none other = ap (λ (x : Option ℕ). or_else x y) (other refl)

module _ (start : Contents) (now : ℕ) (calls : List Operation) (own rests : Keys) (pairs rest rest_new : Contents) (tail : List KeptPart)
    (came : IsWithPairs pairs rest rest_new)
    (are : AreKept start now calls (resting own pairs ∷ resting rests rest ∷ tail)) where
  first_within : IsWithinKeys own (at_rest pairs)
  first_within = All-head (IsWithinKeys own) (at_rest pairs) []
      (kept_pasts_are_within start now calls (resting own pairs) (resting rests rest ∷ tail) are)

  second_within : IsWithinKeys rests (at_rest rest)
  second_within = All-head (IsWithinKeys rests) (at_rest rest) []
      (kept_pasts_are_within start now calls (resting rests rest) (resting own pairs ∷ tail)
      ((parts_move start now calls (resting rests rest) (resting own pairs ∷ []) tail).0 are))

  rests_apart : AreApart own rests
  rests_apart = All-head (λ (other : KeptPart). AreApart own other.keys) (resting rests rest) tail
      (kept_apart start now calls (resting own pairs) (resting rests rest ∷ tail) are)

  rests_together : IsTogether own (at_rest pairs) (at_rest rest) (at_rest rest_new)
  rests_together = record {
    together = record {
      rises = came.rises second_within.rising;
      values = λ key. came.values first_within.rising key ∙ else_same (own key) (value_at pairs key) (value_at rest key)
          (λ here. second_within.nothing key (rests_apart key here)) (first_within.nothing key);
      rising = AllPairs-nil (λ (o p : Operation). o.inv < p.inv);
      from = λ o o_in. absurd (Contains-nil o o_in);
      first = λ o o_in. o_in;
      second = λ o o_in. o_in;
    };
    found = λ f. (λ f_in. absurd (Contains-nil f f_in), λ which. ⊎_elim (λ here. here) (λ there. there) which);
  }

  pub rests_unite : AreKept start now calls (resting (both_keys own rests) rest_new ∷ tail)
  rests_unite = kept_parts_unite start now calls (resting own pairs) (resting rests rest) (at_rest rest_new ∷ []) tail
      (at_rest rest_new ∷ [], [], refl, (rests_together, tt), refl) are

-- ---- what is kept

module _ (start : Contents) (now : ℕ) (calls : List Operation) (rest : Contents) (front : List Part) (part : Part) (back : List Part)
    (kept : AreKept start now calls (kept_rest rest (front ++ part ∷ back) ∷ map kept_part (front ++ part ∷ back))) where
  abbrev others : List Part
  others = front ++ back

  abbrev first : KeptPart
  first = kept_rest rest (front ++ part ∷ back)

  -- the part at the head
  pub ahead : AreKept start now calls (kept_part part ∷ first ∷ map kept_part others)
  ahead = subst (λ (ps : List KeptPart). AreKept start now calls (kept_part part ∷ first ∷ ps)) (sym (map-append kept_part front back))
      ((parts_move start now calls (kept_part part) (first ∷ map kept_part front) (map kept_part back)).0
      (subst (λ (ps : List KeptPart). AreKept start now calls (first ∷ ps)) (map-append kept_part front (part ∷ back)) kept))

  -- none of its keys is another part's
  none_of_others : (key : ℕ) → covered part.ranges.items key ≡ true → list_any (has_key key) others ≡ false
  none_of_others key here = list_any_none (has_key key) others (All-from_contains (λ (p : Part). has_key key p ≡ false) others (λ p p_in.
      All-contains (λ (other : KeptPart). AreApart (covered part.ranges.items) other.keys) (map kept_part others) (kept_part p)
      (All-tail (λ (other : KeptPart). AreApart (covered part.ranges.items) other.keys) first (map kept_part others)
      (kept_apart start now calls (kept_part part) (first ∷ map kept_part others) ahead))
      (Contains-map kept_part others p p_in) key here))

  abbrev is_in : ℕ → Bool
  is_in key = covered part.ranges.items key

  -- a part that came last
  to_the_end : (last : Part) (rest_then : Contents) (keys : Keys) → ((key : ℕ) → is_at_rest (others ++ last ∷ []) key ≡ keys key)
      → AreKept start now calls (kept_part last ∷ resting keys rest_then ∷ map kept_part others)
      → AreKept start now calls (kept_rest rest_then (others ++ last ∷ []) ∷ map kept_part (others ++ last ∷ []))
  to_the_end last rest_then keys same are =
      same_keys start now calls keys (is_at_rest (others ++ last ∷ [])) (at_rest rest_then ∷ []) (map kept_part (others ++ last ∷ [])) same
      (subst (λ (ps : List KeptPart). AreKept start now calls (resting keys rest_then ∷ ps)) (sym (map-append kept_part others (last ∷ [])))
      ((parts_move start now calls (kept_part last) (resting keys rest_then ∷ map kept_part others) []).1
      (subst (λ (ps : List KeptPart). AreKept start now calls (kept_part last ∷ ps))
      (sym (append-nil (resting keys rest_then ∷ map kept_part others))) are)))

  -- a part that stays as it is
  pub stay_kept : (again : Part) → IsKeptSo part again
      → AreKept start now calls (kept_rest rest (others ++ again ∷ []) ∷ map kept_part (others ++ again ∷ []))
  stay_kept again same = to_the_end again rest (is_at_rest (front ++ part ∷ back))
      (λ key. ap not (any_last (has_key key) others again
      ∙ (ap (λ (k : KeptPart). k.keys key || list_any (has_key key) others) same.kept ∙ sym (any_split (has_key key) front part back))))
      (subst (λ (k : KeptPart). AreKept start now calls (k ∷ first ∷ map kept_part others)) (sym same.kept) ahead)

  -- all its keys are at rest now
  pub gone_kept : (pairs rest_new : Contents) → IsWithPairs pairs rest rest_new
      → AreKept start now calls (resting (covered part.ranges.items) pairs ∷ first ∷ map kept_part others)
      → AreKept start now calls (kept_rest rest_new others ∷ map kept_part others)
  gone_kept pairs rest_new came are =
      same_keys start now calls (both_keys (covered part.ranges.items) (is_at_rest (front ++ part ∷ back))) (is_at_rest others)
      (at_rest rest_new ∷ []) (map kept_part others)
      (λ key. came_gone (is_in key) (list_any (has_key key) others) (none_of_others key)
      ∙ ap (λ (b : Bool). is_in key || not b) (sym (any_split (has_key key) front part back)))
      (rests_unite start now calls (covered part.ranges.items) (is_at_rest (front ++ part ∷ back)) pairs rest rest_new (map kept_part others) came
      are)

  -- some of them, and others are left
  pub left_kept : (pairs rest_new : Contents) (left : Part) → IsWithPairs pairs rest rest_new
      → ((key : ℕ) → covered left.ranges.items key ≡ true → covered part.ranges.items key ≡ true)
      → AreKept start now calls (resting (outside (covered part.ranges.items) (covered left.ranges.items)) pairs ∷ kept_part left ∷ first
      ∷ map kept_part others)
      → AreKept start now calls (kept_rest rest_new (others ++ left ∷ []) ∷ map kept_part (others ++ left ∷ []))
  left_kept pairs rest_new left came own are =
      let ours : Keys = outside (covered part.ranges.items) (covered left.ranges.items) in
      let both : AreKept start now calls (resting ours pairs ∷ first ∷ map kept_part others ++ kept_part left ∷ []) =
      (parts_move start now calls (kept_part left) (resting ours pairs ∷ first ∷ map kept_part others) []).1
      (subst (λ (ps : List KeptPart). AreKept start now calls (kept_part left ∷ ps))
      (sym (append-nil (resting ours pairs ∷ first ∷ map kept_part others)))
      ((parts_move start now calls (kept_part left) (resting ours pairs ∷ []) (first ∷ map kept_part others)).0 are)) in
      let one : AreKept start now calls (resting (both_keys ours (is_at_rest (front ++ part ∷ back))) rest_new
      ∷ map kept_part others ++ kept_part left ∷ []) =
      rests_unite start now calls ours (is_at_rest (front ++ part ∷ back)) pairs rest rest_new (map kept_part others ++ kept_part left ∷ []) came
      both in
      same_keys start now calls (both_keys ours (is_at_rest (front ++ part ∷ back))) (is_at_rest (others ++ left ∷ [])) (at_rest rest_new ∷ [])
      (map kept_part (others ++ left ∷ []))
      (λ key. ap not (any_last (has_key key) others left)
      ∙ (came_left (is_in key) (covered left.ranges.items key) (list_any (has_key key) others) (own key) (none_of_others key)
      ∙ ap (λ (b : Bool). (is_in key && not (covered left.ranges.items key)) || not b) (sym (any_split (has_key key) front part back))))
      (subst (λ (ps : List KeptPart). AreKept start now calls (resting (both_keys ours (is_at_rest (front ++ part ∷ back))) rest_new ∷ ps))
      (sym (map-append kept_part others (left ∷ []))) one)

-- ---- the state

abbrev pub view_of : Contents → List Part → List OpenRead → ℕ → PartsView
view_of rest parts reads now = record { rest = rest; parts = parts; reads = reads; now = now }

module _ (rest : Contents) (front : List Part) (part : Part) (back : List Part) (reads : List OpenRead) (now : ℕ) where
  abbrev old : PartsView
  old = view_of rest (front ++ part ∷ back) reads now

  pub stay_state : (again : Part) → IsKeptSo part again → (start : Contents) (calls : List Operation) → IsStateOf start calls old
      → IsStateOf start calls (view_of rest ((front ++ back) ++ again ∷ []) reads now)
  stay_state again same start calls is = record {
    kept = stay_kept start now calls rest front part back is.kept again same;
    reads = is.reads;
  }

  module _ (moved : Moved) (moves : MovesOn now reads part moved) (rest_new : Contents) (came : IsWithPairs moved.pairs.items rest rest_new) where
    pub gone_state : moved.left ≡ None → (start : Contents) (calls : List Operation) → IsStateOf start calls old
        → IsStateOf start calls (view_of rest_new (front ++ back) reads now)
    gone_state none start calls is =
        let first : KeptPart = kept_rest rest (front ++ part ∷ back) in
        let more : List KeptPart = first ∷ map kept_part (front ++ back) in
        let came_to = subst (λ (o : Option Part). AreKept start now calls (kept_moved (covered part.ranges.items) moved.pairs.items o ++ more))
        none (moves.leads start calls more is.reads (ahead start now calls rest front part back is.kept)).0 in
        record { kept = gone_kept start now calls rest front part back is.kept moved.pairs.items rest_new came came_to; reads = is.reads }

    pub left_state : (left : Part) → moved.left ≡ Some left → (start : Contents) (calls : List Operation) → IsStateOf start calls old
        → IsStateOf start calls (view_of rest_new ((front ++ back) ++ left ∷ []) reads now)
    left_state left some start calls is =
        let first : KeptPart = kept_rest rest (front ++ part ∷ back) in
        let more : List KeptPart = first ∷ map kept_part (front ++ back) in
        let came_to = subst (λ (o : Option Part). AreKept start now calls (kept_moved (covered part.ranges.items) moved.pairs.items o ++ more)
        × IfSome o (λ (l : Part). (key : ℕ) → covered l.ranges.items key ≡ true → covered part.ranges.items key ≡ true))
        some (moves.leads start calls more is.reads (ahead start now calls rest front part back is.kept)) in
        record {
          kept = left_kept start now calls rest front part back is.kept moved.pairs.items rest_new left came came_to.1 came_to.0;
          reads = is.reads;
        }

-- ---- the shape

pub beside_turned : (a b : Part) → AreBesideEachOther a b → AreBesideEachOther b a
beside_turned a b beside k d within i e there m f of_first n g of_second same = beside i e there k d within n g of_second m f of_first (sym same)

-- a part whose calls were left of another part is apart from what that part was apart from
beside_left : (x part left : Part) → AreBesideEachOther x part → IsOfLeft part left → AreBesideEachOther x left
beside_left x part left beside own k d within i e there m f here n g at =
    let o : Operation = get_or (get_or (kept_part x).pasts k d).left m f in
    let p : Operation = get_or (get_or (kept_part left).pasts i e).left n g in
    let (past, past_in, p_in) = any_to (λ (other : KeptPast). Contains other.left p) (kept_part part).pasts (own i e there n g at) in
    let all : All (λ (other : KeptPast). All (λ (a : Operation). All (λ (b : Operation). a.inv ≢ b.inv) other.left)
    (get_or (kept_part x).pasts k d).left) (kept_part part).pasts = beside k d within in
    All-contains (λ (b : Operation). o.inv ≢ b.inv) past.left p
    ((All-contains (λ (other : KeptPast). All (λ (a : Operation). All (λ (b : Operation). a.inv ≢ b.inv) other.left)
    (get_or (kept_part x).pasts k d).left) (kept_part part).pasts past all past_in) m f here) p_in

module _ (rest : Contents) (front : List Part) (part : Part) (back : List Part) (reads : List OpenRead) (now : ℕ)
    (shaped : IsShaped (record { rest = rest; parts = front ++ part ∷ back; reads = reads; now = now })) where
  in_back : All (IsPartBefore now reads) (part ∷ back)
  in_back = All-back (IsPartBefore now reads) front (part ∷ back) shaped.parts

  back_apart : AllPairs AreBesideEachOther (part ∷ back)
  back_apart = AllPairs-back AreBesideEachOther front (part ∷ back) shaped.apart

  across : All (λ x. All (AreBesideEachOther x) (part ∷ back)) front
  across = AllPairs-across AreBesideEachOther front (part ∷ back) shaped.apart

  pub part_before : IsPartBefore now reads part
  part_before = All-head (IsPartBefore now reads) part back in_back

  others_before : All (IsPartBefore now reads) (front ++ back)
  others_before = All-append (IsPartBefore now reads) front back
      (All-front (IsPartBefore now reads) front (part ∷ back) shaped.parts) (All-tail (IsPartBefore now reads) part back in_back)

  others_beside : AllPairs AreBesideEachOther (front ++ back)
  others_beside = AllPairs-append AreBesideEachOther front back (AllPairs-front AreBesideEachOther front (part ∷ back) shaped.apart)
      (AllPairs-tail AreBesideEachOther part back back_apart)
      (All-weaker (λ x. All (AreBesideEachOther x) (part ∷ back)) (λ x. All (AreBesideEachOther x) back)
      (λ x all. All-tail (AreBesideEachOther x) part back all) front across)

  beside_part : All (λ x. AreBesideEachOther x part) (front ++ back)
  beside_part = All-append (λ x. AreBesideEachOther x part) front back
      (All-weaker (λ x. All (AreBesideEachOther x) (part ∷ back)) (λ x. AreBesideEachOther x part)
      (λ x all. All-head (AreBesideEachOther x) part back all) front across)
      (All-weaker (AreBesideEachOther part) (λ x. AreBesideEachOther x part) (λ x beside. beside_turned part x beside) back
      (AllPairs-head AreBesideEachOther part back back_apart))

  with_last : (rest_new : Contents) (last : Part) → IsRising rest_new → IsPartBefore now reads last
      → All (λ x. AreBesideEachOther x last) (front ++ back)
      → IsShaped (record { rest = rest_new; parts = (front ++ back) ++ last ∷ []; reads = reads; now = now })
  with_last rest_new last rising before beside = record {
    rest = rising;
    parts = All-append (IsPartBefore now reads) (front ++ back) (last ∷ []) others_before
        (All-cons (IsPartBefore now reads) last [] before (All-nil (IsPartBefore now reads)));
    apart = AllPairs-append AreBesideEachOther (front ++ back) (last ∷ []) others_beside
        (AllPairs-cons AreBesideEachOther last [] (All-nil (AreBesideEachOther last)) (AllPairs-nil AreBesideEachOther))
        (All-weaker (λ x. AreBesideEachOther x last) (λ x. All (AreBesideEachOther x) (last ∷ []))
        (λ x is. All-cons (AreBesideEachOther x) last [] is (All-nil (AreBesideEachOther x))) (front ++ back) beside);
    reads = shaped.reads;
    distinct = shaped.distinct;
  }

  pub stay_shape : (again : Part) → IsKeptSo part again
      → IsShaped (record { rest = rest; parts = (front ++ back) ++ again ∷ []; reads = reads; now = now })
  stay_shape again same = with_last rest again shaped.rest (record {
    first = subst IsKeptOrder (sym same.first) part_before.first;
    pasts = subst (λ (k : KeptPart). All (IsPastBefore now) k.pasts) (sym same.kept) part_before.pasts;
    beside = subst (λ (k : KeptPart). All (IsBesideReads reads) k.pasts) (sym same.kept) part_before.beside;
  })
      (All-weaker (λ x. AreBesideEachOther x part) (λ x. AreBesideEachOther x again)
      (λ x beside. subst (λ (k : KeptPart). AreBesidePasts x k.pasts) (sym same.kept) beside) (front ++ back) beside_part)

  module _ (moved : Moved) (moves : MovesOn now reads part moved) (rest_new : Contents) (came : IsWithPairs moved.pairs.items rest rest_new) where
    pub gone_shape : IsShaped (record { rest = rest_new; parts = front ++ back; reads = reads; now = now })
    gone_shape = record {
      rest = came.rises shaped.rest;
      parts = others_before;
      apart = others_beside;
      reads = shaped.reads;
      distinct = shaped.distinct;
    }

    pub left_shape : (left : Part) → moved.left ≡ Some left
        → IsShaped (record { rest = rest_new; parts = (front ++ back) ++ left ∷ []; reads = reads; now = now })
    left_shape left some =
        let is = subst (λ (o : Option Part). IfSome o (λ (l : Part). IsPartBefore now reads l × IsOfLeft part l)) some moves.shaped in
        with_last rest_new left (came.rises shaped.rest) is.0
        (All-weaker (λ x. AreBesideEachOther x part) (λ x. AreBesideEachOther x left)
        (λ x beside. beside_left x part left beside is.1) (front ++ back) beside_part)
