-- A call begins: what the state has of the calls then (`change_begins`, `read_begins`), also if a key that was at rest becomes a part
-- (`key_is_taken`).
use Rattle.follow_parts.proofs.Common.{◌≡◌, ℕ, suc, ◌==◌, Bool, true, false, not, ◌||◌, cond, List, [], ◌∷◌, ◌++◌, map, Option, None, Some, append-nil, refl}
use Rattle.follow_parts.proofs.Common.{sym, ap, ◌∙◌, subst, ⊎_elim, eqb-true, arith, ◌⊎◌, if◌then◌else◌, All, Contains, list_any, All-nil, All-head}
use Rattle.follow_parts.proofs.Common.{Contains-append_left, Contains-push, list_any-append, list_any_none, AllPairs-cons, AllPairs-filter, AllPairs-nil}
use Rattle.follow_parts.proofs.Common.{Contains-nil, Operation, low_key, high_key, may_change, Contents, IsRising, value_at, same_pairs, Keys, AreApart}
use Rattle.follow_parts.proofs.Common.{HasKeysIn, pairs_at, KeptPast, FoundAt, both_keys, FallsApart, KeptPart, AreKept, at_rest, with_begun, IsWithinKeys}
use Rattle.follow_parts.proofs.Common.{last_or_old, changes_begin, kept_pasts_are_within, parts_move, kept_parts_fall_apart, found_at, kept_of, Found, Past}
use Rattle.follow_parts.proofs.Common.{entry_if, covered, kept_part, past_of, Part, OpenRead, is_at_rest, kept_rest, AreReadsOf, IsBegunIn, IsPartOf}
use Rattle.follow_parts.proofs.Common.{IsTakenOut}
use Rattle.std.specs.Prelude.{◌<◌}
use mathlib.Core.List.{map-append}
use mathlib.Core.Path.{fun_ext}

-- ---- pending reads

-- the pending reads of the calls stay if a call that may change the map begins
pub reads_stay : (calls : List Operation) (o : Operation) (reads : List OpenRead) → may_change o.call ≡ true → AreReadsOf calls reads
    → AreReadsOf (calls ++ o ∷ []) reads
reads_stay calls o reads changes are inv low high = (
  (λ read_in.
      let (p, p_in, at, pending, keeps, from, to) = (are inv low high).0 read_in in
      (p, Contains-append_left calls (o ∷ []) p p_in, at, pending, keeps, from, to)),
  (λ (p, p_in, at, pending, keeps, from, to). ⊎_elim
      (λ old. (are inv low high).1 (p, old, at, pending, keeps, from, to))
      (λ (same : o ≡ p). let no : true ≡ false = sym changes ∙ (ap (λ (q : Operation). may_change q.call) same ∙ keeps) in absurd (cc))
      (last_or_old calls o p p_in)),
)

abbrev pub read_of : Operation → OpenRead
read_of o = record { inv = o.inv; low = low_key o.call; high = high_key o.call }

-- a read that begins becomes one of them
pub reads_more : (calls : List Operation) (o : Operation) (reads : List OpenRead) → o.response ≡ None → may_change o.call ≡ false
    → AreReadsOf calls reads → AreReadsOf (calls ++ o ∷ []) (reads ++ read_of o ∷ [])
reads_more calls o reads pending keeps are inv low high = (
  (λ read_in. ⊎_elim
      (λ old.
      let (p, p_in, at, none, no_change, from, to) = (are inv low high).0 old in
      (p, Contains-append_left calls (o ∷ []) p p_in, at, none, no_change, from, to))
      (λ (same : read_of o ≡ record { inv = inv; low = low; high = high }). (
        o,
        Contains-push calls o,
        ap (λ (r : OpenRead). r.inv) same,
        pending,
        keeps,
        ap (λ (r : OpenRead). r.low) same,
        ap (λ (r : OpenRead). r.high) same,
      ))
      (last_or_old reads (read_of o) (record { inv = inv; low = low; high = high }) read_in)),
  (λ (p, p_in, at, none, no_change, from, to). ⊎_elim
      (λ old.
      Contains-append_left reads (read_of o ∷ []) (record { inv = inv; low = low; high = high })
      ((are inv low high).1 (p, old, at, none, no_change, from, to)))
      (λ (same : o ≡ p).
      let is : read_of o ≡ record { inv = inv; low = low; high = high } = is_read p inv low high at from to same in
      subst (λ (r : OpenRead). Contains (reads ++ read_of o ∷ []) r) is (Contains-push reads (read_of o)))
      (last_or_old calls o p p_in)),
)
  where
    is_read : (p : Operation) (inv low high : ℕ) → p.inv ≡ inv → low_key p.call ≡ low → high_key p.call ≡ high → o ≡ p
        → read_of o ≡ record { inv = inv; low = low; high = high }
    is_read p inv low high at from to same =
        let here : read_of o ≡ read_of p = ap (λ q. read_of q) same in
        here ∙ (ap (λ (n : ℕ). record { inv = n; low = low_key p.call; high = high_key p.call }) at
        ∙ (ap (λ (n : ℕ). record { inv = inv; low = n; high = high_key p.call }) from
        ∙ ap (λ (n : ℕ). record { inv = inv; low = low; high = n }) to))

-- ---- a call that may change the map

-- a part is known by the keys that it has
pub same_keys_are_kept : (start : Contents) (place : ℕ) (calls : List Operation) (keys others : Keys) (pasts : List KeptPast)
    (rest : List KeptPart) → ((key : ℕ) → others key ≡ keys key)
    → AreKept start place calls (record { keys = keys; pasts = pasts } ∷ rest)
    → AreKept start place calls (record { keys = others; pasts = pasts } ∷ rest)
same_keys_are_kept start place calls keys others pasts rest same kept =
    let is : keys ≡ others = fun_ext (λ (key : ℕ). sym (same key)) in
    subst (λ (k : Keys). AreKept start place calls (record { keys = k; pasts = pasts } ∷ rest)) is kept

-- whether a part has a key does not change with its pasts
abbrev has_key : ℕ → Part → Bool
has_key key part = covered part.ranges.items key

any_around : (f : Part → Bool) (front : List Part) (old new : Part) (back : List Part) → f new ≡ f old
    → list_any f (front ++ new ∷ back) ≡ list_any f (front ++ old ∷ back)
any_around f [] old new back same = ap (λ (b : Bool). b || list_any f back) same
any_around f (x ∷ front) old new back same = ap (λ (b : Bool). f x || b) (any_around f front old new back same)

pub change_begins : (start : Contents) (now : ℕ) (calls : List Operation) (rest : Contents) (front : List Part) (old new : Part)
    (back : List Part) (o : Operation) → o.inv ≡ now → o.response ≡ None → may_change o.call ≡ true
    → covered old.ranges.items (low_key o.call) ≡ true → IsBegunIn o old new
    → AreKept start now calls (kept_rest rest (front ++ old ∷ back) ∷ map kept_part (front ++ old ∷ back))
    → AreKept start (suc now) (calls ++ o ∷ []) (kept_rest rest (front ++ new ∷ back) ∷ map kept_part (front ++ new ∷ back))
change_begins start now calls rest front old new back o at pending changes here begun kept =
    let first : KeptPart = kept_rest rest (front ++ old ∷ back) in
    let first_new : KeptPart = kept_rest rest (front ++ new ∷ back) in
    let others : List KeptPart = first ∷ map kept_part front ++ map kept_part back in
    let apart : AreKept start now calls ((first ∷ map kept_part front) ++ kept_part old ∷ map kept_part back) =
    subst (λ (ps : List KeptPart). AreKept start now calls (first ∷ ps)) (map-append kept_part front (old ∷ back)) kept in
    let ahead : AreKept start now calls (kept_part old ∷ others) =
    (parts_move start now calls (kept_part old) (first ∷ map kept_part front) (map kept_part back)).0 apart in
    let after : AreKept start (suc now) (calls ++ o ∷ [])
    (record { keys = covered old.ranges.items; pasts = map (with_begun o) (kept_part old).pasts } ∷ others) =
    changes_begin start now calls (kept_part old) others o at pending changes here ahead in
    let with_pasts : AreKept start (suc now) (calls ++ o ∷ [])
    (record { keys = covered old.ranges.items; pasts = (kept_part new).pasts } ∷ others) =
    subst (λ (ps : List KeptPast). AreKept start (suc now) (calls ++ o ∷ []) (record { keys = covered old.ranges.items; pasts = ps } ∷ others))
    (sym begun.pasts) after in
    let is_new : AreKept start (suc now) (calls ++ o ∷ []) (kept_part new ∷ others) =
    same_keys_are_kept start (suc now) (calls ++ o ∷ []) (covered old.ranges.items) (covered new.ranges.items) (kept_part new).pasts others
    (λ key. same_key key) with_pasts in
    let in_place : AreKept start (suc now) (calls ++ o ∷ []) ((first ∷ map kept_part front) ++ kept_part new ∷ map kept_part back) =
    (parts_move start (suc now) (calls ++ o ∷ []) (kept_part new) (first ∷ map kept_part front) (map kept_part back)).1 is_new in
    let together : AreKept start (suc now) (calls ++ o ∷ []) (first ∷ map kept_part (front ++ new ∷ back)) =
    subst (λ (ps : List KeptPart). AreKept start (suc now) (calls ++ o ∷ []) (first ∷ ps)) (sym (map-append kept_part front (new ∷ back)))
    in_place in
    same_keys_are_kept start (suc now) (calls ++ o ∷ []) (is_at_rest (front ++ old ∷ back)) (is_at_rest (front ++ new ∷ back))
    (at_rest rest ∷ []) (map kept_part (front ++ new ∷ back))
    (λ key. ap (λ (b : Bool). not b) (any_around (has_key key) front old new back (same_key key))) together
  where
    same_key : (key : ℕ) → covered new.ranges.items key ≡ covered old.ranges.items key
    same_key key = ap (λ ranges. covered ranges.items key) begun.ranges

-- ---- a key at rest becomes a part

either : (b : Bool) (x : Option ℕ) → x ≡ cond b x x
either true x = refl
either false x = refl

-- the pair of a key, if it has a value
pub entry_rises : (key : ℕ) (value : Option ℕ) → IsRising (entry_if key value)
entry_rises key None = AllPairs-nil (λ (a b : ℕ × ℕ). a.0 < b.0)
entry_rises key (Some v) = AllPairs-cons (λ (a b : ℕ × ℕ). a.0 < b.0) (key, v) [] (All-nil (λ (b : ℕ × ℕ). key < b.0))
    (AllPairs-nil (λ (a b : ℕ × ℕ). a.0 < b.0))

pub entry_holds : (key : ℕ) (value : Option ℕ) (other : ℕ) → value_at (entry_if key value) other ≡ (if other == key then value else None)
entry_holds key None other = either (other == key) None
entry_holds key (Some v) other = ap (λ (b : Bool). cond b (Some v) None) (grind arith)

both_none : (b : Bool) (x y : Option ℕ) → b ≡ false → cond b x None ≡ cond b y None
both_none true x y is = cc
both_none false x y is = refl

-- the pairs at some keys have the values there, and elsewhere none
pub value_at_some : (keys : Keys) (pairs : Contents) (key : ℕ) → value_at (pairs_at keys pairs) key ≡ cond (keys key) (value_at pairs key) None
value_at_some keys [] key = either (keys key) None
value_at_some keys ((k, v) ∷ m) key = by_test (keys k) (k == key) refl refl (value_at_some keys m key)
  where
    there : (b : Bool) → keys k ≡ b → (k == key) ≡ true → keys key ≡ b
    there b is named = subst (λ (n : ℕ). keys n ≡ b) (eqb-true k key named) is

    by_test : (b t : Bool) → keys k ≡ b → (k == key) ≡ t → value_at (pairs_at keys m) key ≡ cond (keys key) (value_at m key) None
        → value_at (cond b ((k, v) ∷ pairs_at keys m) (pairs_at keys m)) key ≡ cond (keys key) (cond (k == key) (Some v) (value_at m key)) None
    by_test true true is named rest = rw named (rw (there true is named) refl)
    by_test true false is named rest = rw named rest
    by_test false true is named rest =
        rest ∙ both_none (keys key) (value_at m key) (cond (k == key) (Some v) (value_at m key)) (there false is named)
    by_test false false is named rest = rw named rest

module _ (start : Contents) (now : ℕ) (calls : List Operation) (rest rest_new : Contents) (parts : List Part) (part : Part) (key : ℕ)
    (others_have : All (λ p. covered p.ranges.items key ≡ false) parts) (rising : IsRising rest) (out : IsTakenOut key rest rest_new)
    (of_key : IsPartOf key (value_at rest key) part)
    (kept : AreKept start now calls (kept_rest rest parts ∷ map kept_part parts)) where
  abbrev own : Keys
  own = covered part.ranges.items

  abbrev others : Keys
  others = is_at_rest (parts ++ part ∷ [])

  -- whether a key is in the other parts
  abbrev among : ℕ → Bool
  among k = list_any (has_key k) parts

  among_all : (k : ℕ) → list_any (has_key k) (parts ++ part ∷ []) ≡ (among k || own k)
  among_all k = list_any-append (has_key k) parts (part ∷ []) ∙ ap (λ (b : Bool). among k || b) (or_none (own k))
    where
      or_none : (b : Bool) → (b || false) ≡ b
      or_none true = refl
      or_none false = refl

  none_among : among key ≡ false
  none_among = list_any_none (has_key key) parts others_have

  is_key : (k : ℕ) → own k ≡ true → k ≡ key
  is_key k is = eqb-true k key (sym (of_key.keys k) ∙ is)

  both_same : (k : ℕ) → both_keys own others k ≡ is_at_rest parts k
  both_same k = by_key (own k) (among k) refl refl
    where
      by_key : (b a : Bool) → own k ≡ b → among k ≡ a → both_keys own others k ≡ not (among k)
      by_key true a is is_among =
          let here : among k ≡ false = subst (λ (n : ℕ). among n ≡ false) (sym (is_key k is)) none_among in rw is (rw here refl)
      by_key false a is is_among = rw is (rw (among_all k) (rw is (rw is_among (no_more a))))
        where
          no_more : (a : Bool) → not (a || false) ≡ not a
          no_more true = refl
          no_more false = refl

  apart : AreApart own others
  apart k is = rw (among_all k) (rw is (or_last (among k)))
    where
      or_last : (a : Bool) → not (a || true) ≡ false
      or_last true = refl
      or_last false = refl

  within : IsWithinKeys (is_at_rest parts) (at_rest rest)
  within = All-head (IsWithinKeys (is_at_rest parts)) (at_rest rest) []
      (kept_pasts_are_within start now calls (kept_rest rest parts) (map kept_part parts) kept)

  own_pairs : part.first.start ≡ pairs_at own rest
  own_pairs = same_pairs part.first.start (pairs_at own rest) of_key.rising
      (AllPairs-filter (λ (a b : ℕ × ℕ). a.0 < b.0) (λ (pair : ℕ × ℕ). own pair.0) rest rising)
      (λ k. of_key.holds k ∙ (by_key k (k == key) refl ∙ sym (value_at_some own rest k)))
    where
      by_key : (k : ℕ) (b : Bool) → (k == key) ≡ b → cond (k == key) (value_at rest key) None ≡ cond (own k) (value_at rest k) None
      by_key k true is =
          rw (of_key.keys k) (rw is (ap (λ (n : ℕ). value_at rest n) (sym (eqb-true k key is))))
      by_key k false is = rw (of_key.keys k) (rw is refl)

  other_pairs : rest_new ≡ pairs_at others rest
  other_pairs = same_pairs rest_new (pairs_at others rest) (out.rises rising)
      (AllPairs-filter (λ (a b : ℕ × ℕ). a.0 < b.0) (λ (pair : ℕ × ℕ). others pair.0) rest rising)
      (λ k. out.values k ∙ (by_key k (own k) (among k) refl refl ∙ sym (value_at_some others rest k)))
    where
      by_key : (k : ℕ) (b a : Bool) → own k ≡ b → among k ≡ a
          → cond (k == key) None (value_at rest k) ≡ cond (others k) (value_at rest k) None
      by_key k true a is is_among = rw (sym (of_key.keys k) ∙ is) (rw (apart k is) refl)
      by_key k false true is is_among =
          rw (sym (of_key.keys k) ∙ is) (rw (among_all k) (rw is_among (within.nothing k (ap (λ (b : Bool). not b) is_among))))
      by_key k false false is is_among = rw (sym (of_key.keys k) ∙ is) (rw (among_all k) (rw is_among (rw is refl)))

  falls : FallsApart own others (at_rest rest) (at_rest part.first.start) (at_rest rest_new)
  falls = record {
    pairs = own_pairs;
    other_pairs = other_pairs;
    rising = AllPairs-nil (λ (o p : Operation). o.inv < p.inv);
    other_rising = AllPairs-nil (λ (o p : Operation). o.inv < p.inv);
    each = All-nil (λ o. HasKeysIn own o ⊎ HasKeysIn others o);
    left = λ o. ((λ o_in. absurd (Contains-nil o o_in)), (λ both. both.0));
    other_left = λ o. ((λ o_in. absurd (Contains-nil o o_in)), (λ both. both.0));
    found = λ f. ((λ f_in. absurd (Contains-nil f f_in)), (λ both. both.0));
    other_found = λ f. ((λ f_in. absurd (Contains-nil f f_in)), (λ both. both.0));
  }

  is_kept : record { keys = own; pasts = at_rest part.first.start ∷ [] } ≡ kept_part part
  is_kept =
      let left : [] ≡ part.first.calls = sym of_key.no_calls in
      let found : [] ≡ map found_at part.found.items = ap (λ (fs : List Found). map found_at fs) (sym of_key.no_found) in
      let alone : [] ≡ map kept_of part.others.items = ap (λ (ps : List Past). map kept_of ps) (sym of_key.alone) in
      let first : at_rest part.first.start ≡ past_of part.first part.found.items =
      ap (λ (os : List Operation). record { pairs = part.first.start; left = os; found = [] }) left
      ∙ ap (λ (fs : List FoundAt). record { pairs = part.first.start; left = part.first.calls; found = fs }) found in
      ap (λ (past : KeptPast). record { keys = own; pasts = past ∷ [] }) first
      ∙ ap (λ (ps : List KeptPast). record { keys = own; pasts = past_of part.first part.found.items ∷ ps }) alone

  abbrev rests : KeptPart
  rests = kept_rest rest_new (parts ++ part ∷ [])

  pub key_is_taken : AreKept start now calls (rests ∷ map kept_part (parts ++ part ∷ []))
  key_is_taken =
      let both : AreKept start now calls (record { keys = both_keys own others; pasts = at_rest rest ∷ [] } ∷ map kept_part parts) =
      same_keys_are_kept start now calls (is_at_rest parts) (both_keys own others) (at_rest rest ∷ []) (map kept_part parts) both_same kept in
      let two : AreKept start now calls (record { keys = own; pasts = at_rest part.first.start ∷ [] } ∷ rests ∷ map kept_part parts) =
      kept_parts_fall_apart start now calls own others (at_rest part.first.start) (at_rest rest ∷ []) (at_rest rest_new ∷ [])
      (map kept_part parts) apart (λ none. cc) (falls, tt) both in
      let ahead : AreKept start now calls (kept_part part ∷ (rests ∷ map kept_part parts) ++ []) =
      subst (λ (ps : List KeptPart). AreKept start now calls (kept_part part ∷ ps)) (sym (append-nil (rests ∷ map kept_part parts)))
      (subst (λ (p : KeptPart). AreKept start now calls (p ∷ rests ∷ map kept_part parts)) is_kept two) in
      let last : AreKept start now calls ((rests ∷ map kept_part parts) ++ kept_part part ∷ []) =
      (parts_move start now calls (kept_part part) (rests ∷ map kept_part parts) []).1 ahead in
      subst (λ (ps : List KeptPart). AreKept start now calls (rests ∷ ps)) (sym (map-append kept_part parts (part ∷ []))) last
