-- Walks: what becomes of their pasts.
use Rattle.follow_cuts.proofs.Common.{◌≡◌, ℕ, ◌+◌, ◌<◌, ◌≤◌, Bool, true, false, List, [], ◌∷◌, ◌++◌, length, map, get_or, Option, Some, None, inl, inr}
use Rattle.follow_cuts.proofs.Common.{refl, sym, ap, ◌∙◌, subst, ⊎_elim, arith, append_assoc, append-nil, All, AllPairs, Contains, slice_get, IsSomeAnd}
use Rattle.follow_cuts.proofs.Common.{map-append, map_push, length-set, cases_lt, same_Some, slice_get_within, All-nil, All-tail, All-push}
use Rattle.follow_cuts.proofs.Common.{Contains-append_left, Contains-push, Contains-push_cases, Contains-map, Contains-from_map, Contains-nil}
use Rattle.follow_cuts.proofs.Common.{Operation, is_before, Contents, IsRead, KeptPast, IsPastAfter, AreKeptAlike, HasInvocation, found_at, kept_of}
use Rattle.follow_cuts.proofs.Common.{Becomes, AreEnough, IsCutAt, left_of, kept_at, calls_of, kept_in, IsFrom, IsWalkFrom, IsCopy, IsAfterTaking}
use Rattle.follow_cuts.proofs.Common.{ArePositionsAlike, AreTaken, IsAdded, IsFirstEnded, IsFirstEndedIn, IsBranching, IsBranchAt, IsNextAt, MayComeAt, IsReadAt}
use Rattle.follow_cuts.proofs.Common.{AreNexts, BecomesAfter, AreAdded, AreEnded, HaveGoneOn, Found, Past, Position, Branching}
use Rattle.follow_cuts.proofs.LeftLemmas.{left_there, left_in, past_after, made_after}
use Rattle.follow_cuts.proofs.LeadLemmas.{enough_all, enough_through, enough_both, enough_without, enough_turned, enough_become, becomes_itself}
use Rattle.follow_cuts.proofs.LeadLemmas.{becomes_then, becomes_both}
use Rattle.follow_cuts.proofs.StepLemmas.{branch_becomes, read_becomes}
use Rattle.follow_cuts.proofs.EndLemmas.{last_or_before, ends_first, none_left_there}

-- ---- the position of a walk

pub kept_here : (pasts : List Past) (past : Past) (position : Position) → slice_get pasts position.base ≡ Some past
    → kept_in pasts position ≡ kept_at past.calls.items position
kept_here pasts past position here = ap (λ (p : Option Past). kept_at (calls_of p) position) here

abbrev pub kept_from : List Operation → Contents → List Bool → List Found → KeptPast
kept_from calls pairs taken found = record { pairs = pairs; left = left_of calls taken; found = map found_at found }

same_kept : (calls : List Operation) (m n : Contents) (t u : List Bool) (f g : List Found) → m ≡ n → t ≡ u → f ≡ g
    → kept_from calls m t f ≡ kept_from calls n u g
same_kept calls m n t u f g first second third =
    ap (λ (z : Contents). kept_from calls z t f) first ∙ ap (λ (z : List Bool). kept_from calls n z f) second
    ∙ ap (λ (z : List Found). kept_from calls n u z) third

pub walk_here : (pasts : List Past) (past : Past) (position : Position) → slice_get pasts position.base ≡ Some past → IsFrom pasts position
    → IsWalkFrom past position
walk_here pasts past position here is = subst (λ (p : Option Past). IsSomeAnd p (λ past. IsWalkFrom past position)) here is

pub marks_here : (pasts : List Past) (past : Past) (position : Position) → slice_get pasts position.base ≡ Some past → IsFrom pasts position
    → length position.taken.items ≡ length past.calls.items
marks_here pasts past position here is = let walk = walk_here pasts past position here is in walk.marks

pub from_here : (pasts : List Past) (past : Past) (position : Position) → slice_get pasts position.base ≡ Some past → IsWalkFrom past position
    → IsFrom pasts position
from_here pasts past position here walk = subst (λ (p : Option Past). IsSomeAnd p (λ past. IsWalkFrom past position)) (sym here) walk

pub past_there : (pasts : List Past) (position : Position) → IsFrom pasts position → position.base < length pasts
past_there pasts position is = by_past (slice_get pasts position.base) refl is
  where
    by_past : (p : Option Past) → slice_get pasts position.base ≡ p
        → IsSomeAnd p (λ past. IsWalkFrom past position) → position.base < length pasts
    by_past None e is = absurd is
    by_past (Some past) e is = slice_get_within pasts position.base past e

-- ---- positions that are added

alike_kept : (pasts : List Past) (one other : Position) → ArePositionsAlike one other → AreKeptAlike (kept_in pasts other) (kept_in pasts one)
alike_kept pasts one other alike = record {
  pairs = alike.pairs;
  left = λ inv. (
    λ h. subst (λ (l : List Operation). HasInvocation l inv) (sym same) h,
    λ h. subst (λ (l : List Operation). HasInvocation l inv) same h,
  );
  found = λ f. (
    λ h. let (g, g_in, is) = Contains-from_map found_at other.found.items f h in
        subst (Contains (map found_at one.found.items)) is (Contains-map found_at one.found.items g ((alike.found g).1 g_in)),
    λ h. let (g, g_in, is) = Contains-from_map found_at one.found.items f h in
        subst (Contains (map found_at other.found.items)) is (Contains-map found_at other.found.items g ((alike.found g).0 g_in)),
  );
}
  where
    same : left_of (calls_of (slice_get pasts one.base)) one.taken.items ≡ left_of (calls_of (slice_get pasts other.base)) other.taken.items
    same =
        ap (λ (n : ℕ). left_of (calls_of (slice_get pasts n)) one.taken.items) alike.base
        ∙ ap (left_of (calls_of (slice_get pasts other.base))) alike.taken

pub added_enough : (pasts : List Past) (old new : List Position) (position : Position) → IsAdded old position new
    → AreEnough (map (kept_in pasts) old ++ kept_in pasts position ∷ []) (map (kept_in pasts) new)
added_enough pasts old new position (inl is) =
    subst (AreEnough (map (kept_in pasts) old ++ kept_in pasts position ∷ []))
    (sym (ap (map (kept_in pasts)) is ∙ map_push (kept_in pasts) old position))
    (enough_all (map (kept_in pasts) old ++ kept_in pasts position ∷ []))
added_enough pasts old new position (inr (is, (other, other_in, alike))) =
    subst (λ (l : List Position). AreEnough (map (kept_in pasts) old ++ kept_in pasts position ∷ []) (map (kept_in pasts) l)) (sym is)
    (enough_without (map (kept_in pasts) old) (kept_in pasts position) (kept_in pasts other) (Contains-map (kept_in pasts) old other other_in)
    (alike_kept pasts other position alike))

pub added_all : (P : Position → Type 0) (old new : List Position) (position : Position) → IsAdded old position new → All P old → P position → All P new
added_all P old new position (inl is) all one = subst (All P) (sym is) (All-push P old position all one)
added_all P old new position (inr (is, some)) all one = subst (All P) (sym is) all

-- ---- the pasts after each call that may come next, place by place

pub record AreNextsBelow (b : Branching) (calls : List Operation) (position : Position) (size : ℕ) (nexts : List KeptPast) : Type 0 where
  pub forth : (n : ℕ) → n < size → (is : IsBranchAt b calls position n)
      → (next : KeptPast) × Contains nexts next × IsPastAfter (kept_at calls position) is.may.call next
  pub back : (next : KeptPast) → Contains nexts next
      → (o : Operation) × IsNextAt b.answered (kept_at calls position) o × IsPastAfter (kept_at calls position) o next

pub record IsBranchedBelow (pasts : List Past) (b : Branching) (calls : List Operation) (position : Position) (size : ℕ) (old new : List Position)
    : Type 0 where
  pub nexts : List KeptPast
  pub are : AreNextsBelow b calls position size nexts
  pub added : AreAdded pasts nexts old new

pub branched_none : (pasts : List Past) (b : Branching) (calls : List Operation) (position : Position) (old : List Position)
    → All (IsFrom pasts) old → IsBranchedBelow pasts b calls position 0 old old
branched_none pasts b calls position old from_past = record {
  nexts = [];
  are = record {
    forth = λ n (less : n < 0) may. absurd (omega (arith, less));
    back = λ next none. absurd (Contains-nil next none);
  };
  added = record {
    from_past = from_past;
    enough = subst (λ (l : List KeptPast). AreEnough l (map (kept_in pasts) old)) (sym (append-nil (map (kept_in pasts) old)))
        (enough_all (map (kept_in pasts) old));
  };
}

pub branched_skip : (pasts : List Past) (b : Branching) (calls : List Operation) (position : Position) (size : ℕ) (old new : List Position)
    → (IsBranchAt b calls position size → ⊥) → IsBranchedBelow pasts b calls position size old new
    → IsBranchedBelow pasts b calls position (size + 1) old new
branched_skip pasts b calls position size old new none so_far = record {
  nexts = so_far.nexts;
  are = record {
    forth = λ n less may. ⊎_elim
        (λ lt. so_far.are.forth n lt may)
        (λ same. absurd (none (subst (IsBranchAt b calls position) same may)))
        (last_or_before n size less);
    back = so_far.are.back;
  };
  added = so_far.added;
}

pub branched_taken : (pasts : List Past) (b : Branching) (calls : List Operation) (position : Position) (size to : ℕ) (old new : List Position)
    → AreTaken position.taken.items size to → IsBranchedBelow pasts b calls position size old new
    → IsBranchedBelow pasts b calls position to old new
branched_taken pasts b calls position size to old new are_taken so_far = record {
  nexts = so_far.nexts;
  are = record {
    forth = λ n less may. ⊎_elim
        (λ lt. so_far.are.forth n lt may)
        (λ ge. absurd (none_left_there calls position.taken.items size to n may.may.call are_taken ge less may.may.is_left))
        (cases_lt n size);
    back = so_far.are.back;
  };
  added = so_far.added;
}

pub next_at : (answered : ℕ) (calls : List Operation) (position : Position) (n : ℕ) (may : MayComeAt answered calls position n)
    → IsNextAt answered (kept_at calls position) may.call
next_at answered calls position n may = record {
  is_left = left_in calls position.taken.items n may.call may.is_left.here may.is_left.free;
  early = may.early;
  legal = may.legal;
}

pub branched_take : (pasts : List Past) (past : Past) (b : Branching) (position copy after : Position) (o : Operation) (size : ℕ)
    (old new newer : List Position) → slice_get pasts position.base ≡ Some past → AllPairs (λ a b. a.inv < b.inv) past.calls.items
    → IsWalkFrom past position → slice_get past.calls.items size ≡ Some o
    → IsBranchAt b past.calls.items position size → IsCopy position copy
    → IsAfterTaking size o copy after → IsAdded new after newer
    → IsBranchedBelow pasts b past.calls.items position size old new
    → IsBranchedBelow pasts b past.calls.items position (size + 1) old newer
branched_take pasts past b position copy after o size old new newer here rising walk at branched is_copy is_after added so_far = record {
  nexts = so_far.nexts ++ kept_in pasts after ∷ [];
  are = record {
    forth = λ n less other. ⊎_elim
        (λ lt.
        let (next, next_in, is) = so_far.are.forth n lt other in
        (next, Contains-append_left so_far.nexts (kept_in pasts after ∷ []) next next_in, is))
        (λ same. (
          kept_in pasts after,
          Contains-push so_far.nexts (kept_in pasts after),
          subst (λ (p : Operation). IsPastAfter (kept_at past.calls.items position) p (kept_in pasts after))
              (same_Some o other.may.call (sym at ∙ (ap (slice_get past.calls.items) (sym same) ∙ other.may.is_left.here))) comes,
        ))
        (last_or_before n size less);
    back = λ next next_in. ⊎_elim
        (λ l. so_far.are.back next l)
        (λ same. (o, o_next, subst (IsPastAfter (kept_at past.calls.items position) o) same comes))
        (Contains-push_cases so_far.nexts (kept_in pasts after) next next_in);
  };
  added = record {
    from_past = added_all (IsFrom pasts) new newer after added so_far.added.from_past (from_here pasts past after there after_walk);
    enough = subst (λ (l : List KeptPast). AreEnough l (map (kept_in pasts) newer))
        (append_assoc (map (kept_in pasts) old) so_far.nexts (kept_in pasts after ∷ []))
        (enough_through ((map (kept_in pasts) old ++ so_far.nexts) ++ kept_in pasts after ∷ []) (map (kept_in pasts) new ++ kept_in pasts after ∷ [])
        (map (kept_in pasts) newer)
        (enough_both (map (kept_in pasts) old ++ so_far.nexts) (map (kept_in pasts) new) (kept_in pasts after ∷ []) (kept_in pasts after ∷ [])
        so_far.added.enough (enough_all (kept_in pasts after ∷ [])))
        (added_enough pasts new newer after added));
  };
}
  where
    may : MayComeAt b.answered past.calls.items position size
    may = branched.may

    one : branched.may.call ≡ o
    one = same_Some may.call o (sym may.is_left.here ∙ at)

    o_next : IsNextAt b.answered (kept_at past.calls.items position) o
    o_next = subst (IsNextAt b.answered (kept_at past.calls.items position)) one (next_at b.answered past.calls.items position size branched.may)

    there : slice_get pasts after.base ≡ Some past
    there = ap (slice_get pasts) (is_after.base ∙ is_copy.base) ∙ here

    within : size < length copy.taken.items
    within = let less : size < length past.calls.items = slice_get_within past.calls.items size o at in
        omega (arith, less, walk.marks, ap length is_copy.taken)

    comes_here : IsPastAfter (kept_at past.calls.items position) o (kept_at past.calls.items after)
    comes_here =
        subst (λ (k : KeptPast). IsPastAfter k o (kept_at past.calls.items after))
        (same_kept past.calls.items copy.map position.map copy.taken.items position.taken.items copy.found.items position.found.items is_copy.pairs
        is_copy.taken is_copy.found)
        (past_after past.calls.items size o copy after rising within at
        (ap (λ (l : List Bool). get_or l size false) is_copy.taken ∙ may.is_left.free) is_after)

    comes : IsPastAfter (kept_at past.calls.items position) o (kept_in pasts after)
    comes = subst (IsPastAfter (kept_at past.calls.items position) o) (sym (kept_here pasts past after there)) comes_here

    after_walk : IsWalkFrom past after
    after_walk = record {
      marks = ap length is_after.taken ∙ (length-set copy.taken.items size true ∙ (ap length is_copy.taken ∙ walk.marks));
      made_of = made_after (kept_of past) (kept_at past.calls.items position) (kept_at past.calls.items after) o rising walk.made_of o_next.is_left comes_here;
    }

-- the pasts after one more call, by the calls of the past as they are read
pub branched_more : (pasts : List Past) (past : Past) (calls : List Operation) (b : Branching) (position copy after : Position) (o : Operation)
    (size : ℕ) (old new newer : List Position) → calls ≡ past.calls.items → slice_get pasts position.base ≡ Some past
    → AllPairs (λ a b. a.inv < b.inv) past.calls.items → IsFrom pasts position → slice_get calls size ≡ Some o
    → IsBranchAt b calls position size → IsCopy position copy → IsAfterTaking size o copy after → IsAdded new after newer
    → IsBranchedBelow pasts b calls position size old new → IsBranchedBelow pasts b calls position (size + 1) old newer
branched_more pasts past calls b position copy after o size old new newer same here rising from_past at may is_copy is_after added so_far =
    subst (λ (l : List Operation). IsBranchedBelow pasts b l position (size + 1) old newer) (sym same)
    (branched_take pasts past b position copy after o size old new newer here rising (walk_here pasts past position here from_past)
    (subst (λ (l : List Operation). slice_get l size ≡ Some o) same at)
    (subst (λ (l : List Operation). IsBranchAt b l position size) same may) is_copy is_after added
    (subst (λ (l : List Operation). IsBranchedBelow pasts b l position size old new) same so_far))

pub branched_all : (pasts : List Past) (past : Past) (b : Branching) (position : Position) (size : ℕ) (old new : List Position)
    → slice_get pasts position.base ≡ Some past → ((n : ℕ) → size ≤ n → IsBranchAt b past.calls.items position n → ⊥)
    → IsBranchedBelow pasts b past.calls.items position size old new
    → (nexts : List KeptPast) × AreNexts b (kept_in pasts position) nexts × AreAdded pasts nexts old new
branched_all pasts past b position size old new here none so_far = (
  so_far.nexts,
  subst (λ (k : KeptPast). AreNexts b k so_far.nexts) (sym (kept_here pasts past position here)) (record {
    forth = λ o o_next of_key.
        let (n, is_left) = left_there past.calls.items position.taken.items o o_next.is_left in
        let branched : IsBranchAt b past.calls.items position n = record {
          may = record { call = o; is_left = is_left; early = o_next.early; legal = o_next.legal };
          of_key = of_key;
        } in
        ⊎_elim (λ lt. so_far.are.forth n lt branched) (λ ge. absurd (none n ge branched)) (cases_lt n size);
    back = so_far.are.back;
  }),
  so_far.added,
)

-- ---- a walk goes on by reads

pub record IsOnTheWay (pasts : List Past) (moment : ℕ) (start now : Position) : Type 0 where
  pub base : now.base ≡ start.base
  pub from_past : IsFrom pasts now
  pub becomes : Becomes moment (kept_in pasts start ∷ []) (kept_in pasts now ∷ [])

pub way_read : (pasts : List Past) (past : Past) (moment first answered : ℕ) (start now new : Position) (place : ℕ) (o : Operation)
    → slice_get pasts start.base ≡ Some past → AllPairs (λ a b. a.inv < b.inv) past.calls.items
    → IsFirstEnded past.calls.items now.taken.items first answered → answered < moment → IsReadAt answered past.calls.items now place
    → slice_get past.calls.items place ≡ Some o → IsAfterTaking place o now new → IsOnTheWay pasts moment start now
    → IsOnTheWay pasts moment start new
way_read pasts past moment first answered start now new place o there rising is_first less is_read at is_after way = record {
  base = is_after.base ∙ way.base;
  from_past = from_here pasts past new new_here (record {
    marks = ap length is_after.taken ∙ (length-set now.taken.items place true ∙ walk.marks);
    made_of = made_after (kept_of past) (kept_at past.calls.items now) (kept_at past.calls.items new) o rising walk.made_of o_next.is_left comes;
  });
  becomes = becomes_then moment (kept_in pasts start ∷ []) (kept_in pasts now ∷ []) (kept_in pasts new ∷ []) way.becomes
      (subst (λ (k : KeptPast). Becomes moment (k ∷ []) (kept_in pasts new ∷ [])) (sym (kept_here pasts past now here))
      (subst (λ (k : KeptPast). Becomes moment (kept_at past.calls.items now ∷ []) (k ∷ [])) (sym (kept_here pasts past new new_here))
      (read_becomes answered (kept_at past.calls.items now) (kept_at past.calls.items new) o is_first.call
      (ends_first past.calls.items now.taken.items first answered is_first) o_next (subst IsRead one is_read.quiet) comes moment less)));
}
  where
    here : slice_get pasts now.base ≡ Some past
    here = ap (slice_get pasts) way.base ∙ there

    new_here : slice_get pasts new.base ≡ Some past
    new_here = ap (slice_get pasts) is_after.base ∙ (ap (slice_get pasts) way.base ∙ there)

    one : is_read.may.call ≡ o
    one = same_Some is_read.may.call o (sym is_read.may.is_left.here ∙ at)

    walk : IsWalkFrom past now
    walk = walk_here pasts past now (ap (slice_get pasts) way.base ∙ there) way.from_past

    within : place < length now.taken.items
    within = let less : place < length past.calls.items = slice_get_within past.calls.items place o at in omega (arith, less, walk.marks)

    o_next : IsNextAt answered (kept_at past.calls.items now) o
    o_next = subst (IsNextAt answered (kept_at past.calls.items now)) one (next_at answered past.calls.items now place is_read.may)

    comes : IsPastAfter (kept_at past.calls.items now) o (kept_at past.calls.items new)
    comes = past_after past.calls.items place o now new rising within at is_read.may.is_left.free is_after

-- a walk goes on by reads, by the calls and marks as they are read
pub way_marks : (pasts : List Past) (past : Past) (moment : ℕ) (calls : List Operation) (start now : Position) → calls ≡ past.calls.items
    → slice_get pasts start.base ≡ Some past → IsOnTheWay pasts moment start now → length now.taken.items ≡ length calls
way_marks pasts past moment calls start now same there way =
    marks_here pasts past now (ap (slice_get pasts) way.base ∙ there) way.from_past ∙ ap length (sym same)

pub way_on : (pasts : List Past) (past : Past) (moment : ℕ) (calls : List Operation) (taken : List Bool) (first answered : ℕ)
    (start now new : Position) (place : ℕ) (o : Operation) → calls ≡ past.calls.items → taken ≡ now.taken.items
    → slice_get pasts start.base ≡ Some past → AllPairs (λ a b. a.inv < b.inv) past.calls.items
    → IsFirstEnded calls taken first answered × (answered < moment) → IsReadAt answered calls now place → slice_get calls place ≡ Some o
    → IsAfterTaking place o now new → IsOnTheWay pasts moment start now → IsOnTheWay pasts moment start new
way_on pasts past moment calls taken first answered start now new place o same marks there rising is_first is_read at is_after way =
    way_read pasts past moment first answered start now new place o there rising
    (subst (λ (l : List Operation). IsFirstEnded l now.taken.items first answered) same
    (subst (λ (t : List Bool). IsFirstEnded calls t first answered) marks is_first.0))
    is_first.1 (subst (λ (l : List Operation). IsReadAt answered l now place) same is_read)
    (subst (λ (l : List Operation). slice_get l place ≡ Some o) same at) is_after way

-- ---- and to the others

together : (pasts : List Past) (start : Position) (next ended : List Position)
    → map (kept_in pasts) (start ∷ next ++ ended) ≡ kept_in pasts start ∷ (map (kept_in pasts) next ++ map (kept_in pasts) ended)
together pasts start next ended = ap (λ (l : List KeptPast). kept_in pasts start ∷ l) (map-append (kept_in pasts) next ended)

module _ (pasts : List Past) (moment : ℕ) (start : Position) (next ended : List Position) where
  abbrev N : List KeptPast
  N = map (kept_in pasts) next

  abbrev E : List KeptPast
  E = map (kept_in pasts) ended

  -- what a walk becomes is added to the others
  beside : (some nexts : List KeptPast) → Becomes moment (kept_in pasts start ∷ []) some → Becomes moment (some ++ (N ++ E)) nexts
      → Becomes moment (map (kept_in pasts) (start ∷ next ++ ended)) nexts
  beside some nexts first second =
      subst (λ (l : List KeptPast). Becomes moment l nexts) (sym (together pasts start next ended))
      (becomes_then moment (kept_in pasts start ∷ (N ++ E)) (some ++ (N ++ E)) nexts
      (becomes_both moment (kept_in pasts start ∷ []) some (N ++ E) (N ++ E) first (becomes_itself moment (N ++ E))) second)

  -- among those of the next level
  to_next : (some news : List KeptPast) → AreEnough (N ++ some) news → AreEnough (some ++ (N ++ E)) (news ++ E)
  to_next some news enough =
      subst (λ (l : List KeptPast). AreEnough l (news ++ E)) (append_assoc some N E)
      (enough_both (some ++ N) news E E (enough_through (some ++ N) (N ++ some) news (enough_turned some N) enough) (enough_all E))

  -- among those that have ended
  to_ended : (some news : List KeptPast) → AreEnough (E ++ some) news → AreEnough (some ++ (N ++ E)) (N ++ news)
  to_ended some news enough =
      enough_through (some ++ (N ++ E)) (N ++ (E ++ some)) (N ++ news)
      (subst (AreEnough (some ++ (N ++ E))) (append_assoc N E some) (enough_turned some (N ++ E)))
      (enough_both N N (E ++ some) news (enough_all N) enough)

pub gone_to_end : (pasts : List Past) (past : Past) (moment : ℕ) (start now : Position) (next ended newly : List Position)
    → slice_get pasts start.base ≡ Some past → IsOnTheWay pasts moment start now
    → All (λ o. is_before o.response moment ≡ false) (left_of past.calls.items now.taken.items) → IsAdded ended now newly
    → All (IsFrom pasts) next → AreEnded pasts moment ended
    → HaveGoneOn pasts moment (map (kept_in pasts) (start ∷ next ++ ended)) next newly
gone_to_end pasts past moment start now next ended newly there way cut added next_from are_ended = record {
  from_past = next_from;
  are_ended = record {
    from_past = added_all (IsFrom pasts) ended newly now added are_ended.from_past way.from_past;
    cut = added_all (λ (p : Position). IsCutAt moment (kept_in pasts p)) ended newly now added are_ended.cut
        (subst (IsCutAt moment) (sym (kept_here pasts past now (ap (slice_get pasts) way.base ∙ there))) cut);
  };
  becomes = beside pasts moment start next ended (kept_in pasts now ∷ []) (map (kept_in pasts) next ++ map (kept_in pasts) newly) way.becomes
      (enough_become moment (kept_in pasts now ∷ (map (kept_in pasts) next ++ map (kept_in pasts) ended))
      (map (kept_in pasts) next ++ map (kept_in pasts) newly)
      (to_ended pasts moment start next ended (kept_in pasts now ∷ []) (map (kept_in pasts) newly) (added_enough pasts ended newly now added)));
}

pub gone_to_next : (pasts : List Past) (moment : ℕ) (start now : Position) (next more ended : List Position)
    → IsOnTheWay pasts moment start now → IsAdded next now more → All (IsFrom pasts) next → AreEnded pasts moment ended
    → HaveGoneOn pasts moment (map (kept_in pasts) (start ∷ next ++ ended)) more ended
gone_to_next pasts moment start now next more ended way added next_from are_ended = record {
  from_past = added_all (IsFrom pasts) next more now added next_from way.from_past;
  are_ended = are_ended;
  becomes = beside pasts moment start next ended (kept_in pasts now ∷ []) (map (kept_in pasts) more ++ map (kept_in pasts) ended) way.becomes
      (enough_become moment (kept_in pasts now ∷ (map (kept_in pasts) next ++ map (kept_in pasts) ended))
      (map (kept_in pasts) more ++ map (kept_in pasts) ended)
      (to_next pasts moment start next ended (kept_in pasts now ∷ []) (map (kept_in pasts) more) (added_enough pasts next more now added)));
}

pub gone_by_branches : (pasts : List Past) (moment answered : ℕ) (start now : Position) (next more ended : List Position)
    → IsOnTheWay pasts moment start now → answered < moment
    → (nexts : List KeptPast) × BecomesAfter answered (kept_in pasts now) nexts × AreAdded pasts nexts next more → AreEnded pasts moment ended
    → HaveGoneOn pasts moment (map (kept_in pasts) (start ∷ next ++ ended)) more ended
gone_by_branches pasts moment answered start now next more ended way less (nexts, becomes, added) are_ended = record {
  from_past = added.from_past;
  are_ended = are_ended;
  becomes = beside pasts moment start next ended nexts (map (kept_in pasts) more ++ map (kept_in pasts) ended)
      (becomes_then moment (kept_in pasts start ∷ []) (kept_in pasts now ∷ []) nexts way.becomes (becomes moment less))
      (enough_become moment (nexts ++ (map (kept_in pasts) next ++ map (kept_in pasts) ended))
      (map (kept_in pasts) more ++ map (kept_in pasts) ended)
      (to_next pasts moment start next ended nexts (map (kept_in pasts) more) added.enough));
}

-- the call that ended first, among those of the past that the walk began at
pub first_in : (pasts : List Past) (past : Past) (moment : ℕ) (calls : List Operation) (taken : List Bool) (first answered : ℕ)
    (start now : Position) → calls ≡ past.calls.items → taken ≡ now.taken.items → slice_get pasts start.base ≡ Some past
    → IsOnTheWay pasts moment start now → IsFirstEnded calls taken first answered → IsFirstEndedIn pasts now first answered
first_in pasts past moment calls taken first answered start now same marks there way is_first =
    subst (λ (p : Option Past). IsFirstEnded (calls_of p) now.taken.items first answered) (sym (ap (slice_get pasts) way.base ∙ there))
    (subst (λ (l : List Operation). IsFirstEnded l now.taken.items first answered) same
    (subst (λ (t : List Bool). IsFirstEnded calls t first answered) marks is_first))

pub branches_become : (pasts : List Past) (past : Past) (answered : ℕ) (b : Branching) (now : Position) (old new : List Position)
    → slice_get pasts now.base ≡ Some past → b.answered ≡ answered → IsBranching (kept_at past.calls.items now) b
    → (nexts : List KeptPast) × AreNexts b (kept_in pasts now) nexts × AreAdded pasts nexts old new
    → (nexts : List KeptPast) × BecomesAfter answered (kept_in pasts now) nexts × AreAdded pasts nexts old new
branches_become pasts past answered b now old new here same branching (nexts, are, added) = (
  nexts,
  subst (λ (n : ℕ). BecomesAfter n (kept_in pasts now) nexts) same
      (branch_becomes b (kept_in pasts now) nexts (subst (λ (k : KeptPast). IsBranching k b) (sym (kept_here pasts past now here)) branching) are),
  added,
)

-- ---- all positions of a level

pub record IsLevelAt (pasts : List Past) (moment : ℕ) (before : List KeptPast) (rest next ended : List Position) : Type 0 where
  pub rest_from : All (IsFrom pasts) rest
  pub from_past : All (IsFrom pasts) next
  pub are_ended : AreEnded pasts moment ended
  pub becomes : Becomes moment before (map (kept_in pasts) rest ++ (map (kept_in pasts) next ++ map (kept_in pasts) ended))

pub level_more : (pasts : List Past) (moment : ℕ) (before : List KeptPast) (position : Position) (all rest next ended more newly : List Position)
    → all ≡ position ∷ rest → IsLevelAt pasts moment before all next ended
    → HaveGoneOn pasts moment (map (kept_in pasts) (position ∷ next ++ ended)) more newly → IsLevelAt pasts moment before rest more newly
level_more pasts moment before position all rest next ended more newly is level gone =
    let R : List KeptPast = map (kept_in pasts) rest in
    let NE : List KeptPast = map (kept_in pasts) next ++ map (kept_in pasts) ended in record {
      rest_from = All-tail (IsFrom pasts) position rest (subst (All (IsFrom pasts)) is level.rest_from);
      from_past = gone.from_past;
      are_ended = gone.are_ended;
      becomes = becomes_then moment before (kept_in pasts position ∷ (R ++ NE)) (R ++ (map (kept_in pasts) more ++ map (kept_in pasts) newly))
          (subst (λ (l : List Position). Becomes moment before (map (kept_in pasts) l ++ NE)) is level.becomes)
          (becomes_then moment (kept_in pasts position ∷ (R ++ NE)) (R ++ (kept_in pasts position ∷ NE))
          (R ++ (map (kept_in pasts) more ++ map (kept_in pasts) newly))
          (enough_become moment (kept_in pasts position ∷ (R ++ NE)) (R ++ (kept_in pasts position ∷ NE)) turned)
          (becomes_both moment R R (kept_in pasts position ∷ NE) (map (kept_in pasts) more ++ map (kept_in pasts) newly) (becomes_itself moment R)
          (subst (λ (l : List KeptPast). Becomes moment l (map (kept_in pasts) more ++ map (kept_in pasts) newly)) (together pasts position next ended)
          gone.becomes)));
    }
  where
    turned : AreEnough (kept_in pasts position ∷ (map (kept_in pasts) rest ++ (map (kept_in pasts) next ++ map (kept_in pasts) ended)))
        (map (kept_in pasts) rest ++ (kept_in pasts position ∷ (map (kept_in pasts) next ++ map (kept_in pasts) ended)))
    turned =
        subst (AreEnough (kept_in pasts position ∷ (map (kept_in pasts) rest ++ (map (kept_in pasts) next ++ map (kept_in pasts) ended))))
        (append_assoc (map (kept_in pasts) rest) (kept_in pasts position ∷ []) (map (kept_in pasts) next ++ map (kept_in pasts) ended))
        (enough_both (kept_in pasts position ∷ map (kept_in pasts) rest) (map (kept_in pasts) rest ++ kept_in pasts position ∷ [])
        (map (kept_in pasts) next ++ map (kept_in pasts) ended) (map (kept_in pasts) next ++ map (kept_in pasts) ended)
        (enough_turned (kept_in pasts position ∷ []) (map (kept_in pasts) rest))
        (enough_all (map (kept_in pasts) next ++ map (kept_in pasts) ended)))

pub level_all : (pasts : List Past) (moment : ℕ) (before : List KeptPast) (rest next ended : List Position) → rest ≡ []
    → IsLevelAt pasts moment before rest next ended → HaveGoneOn pasts moment before next ended
level_all pasts moment before rest next ended none level = record {
  from_past = level.from_past;
  are_ended = level.are_ended;
  becomes = subst
      (λ (l : List Position). Becomes moment before (map (kept_in pasts) l ++ (map (kept_in pasts) next ++ map (kept_in pasts) ended))) none level.becomes;
}

-- ---- before any step

pub level_begins : (pasts : List Past) (moment : ℕ) (level rest next ended : List Position) → rest ≡ level → next ≡ []
    → All (IsFrom pasts) level → AreEnded pasts moment ended
    → IsLevelAt pasts moment (map (kept_in pasts) (level ++ ended)) rest next ended
level_begins pasts moment level rest next ended same none from are_ended = record {
  rest_from = subst (All (IsFrom pasts)) (sym same) from;
  from_past = subst (All (IsFrom pasts)) (sym none) (All-nil (IsFrom pasts));
  are_ended = are_ended;
  becomes = subst (Becomes moment before) is (becomes_itself moment before);
}
  where
    before : List KeptPast
    before = map (kept_in pasts) (level ++ ended)

    is : before ≡ map (kept_in pasts) rest ++ (map (kept_in pasts) next ++ map (kept_in pasts) ended)
    is = map-append (kept_in pasts) level ended
        ∙ (ap (λ (l : List Position). map (kept_in pasts) l ++ map (kept_in pasts) ended) (sym same)
        ∙ ap (λ (l : List Position). map (kept_in pasts) rest ++ (map (kept_in pasts) l ++ map (kept_in pasts) ended)) (sym none))

pub walks_begin : (pasts : List Past) (moment : ℕ) (next ended : List Position) → map (kept_in pasts) next ≡ map kept_of pasts
    → ended ≡ [] → All (IsFrom pasts) next → HaveGoneOn pasts moment (map kept_of pasts) next ended
walks_begin pasts moment next ended same none from = record {
  from_past = from;
  are_ended = subst (AreEnded pasts moment) (sym none) (record {
    from_past = All-nil (IsFrom pasts);
    cut = All-nil (λ (position : Position). IsCutAt moment (kept_in pasts position));
  });
  becomes = subst (Becomes moment (map kept_of pasts)) is (becomes_itself moment (map kept_of pasts));
}
  where
    is : map kept_of pasts ≡ map (kept_in pasts) next ++ map (kept_in pasts) ended
    is = sym same ∙ (sym (append-nil (map (kept_in pasts) next))
        ∙ ap (λ (l : List Position). map (kept_in pasts) next ++ map (kept_in pasts) l) (sym none))
