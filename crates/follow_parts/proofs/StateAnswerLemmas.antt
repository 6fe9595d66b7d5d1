-- A call that may change the map is answered in the part that has its key (`answer_change`).
use Rattle.follow_parts.proofs.Common.{◌≡◌, ◌∙◌, ℕ, suc, ◌+◌, ◌<◌, Bool, true, false, not, ◌&&◌, ◌||◌, List, [], ◌∷◌, ◌++◌, map}
use Rattle.follow_parts.proofs.Common.{None, Some, inl, refl, sym, ap, subst, ⊎_elim, eqb-true, arith, All}
use Rattle.follow_parts.proofs.Common.{Contains, Result, IfOk, list_any, All-append, All-cons, All-contains, All-head}
use Rattle.follow_parts.proofs.Common.{All-weaker, Contains-append_cases, Contains-append_left, Contains-append_right, list_any-append}
use Rattle.follow_parts.proofs.Common.{list_any_none, same_Some, All-from_contains}
use Rattle.follow_parts.proofs.Common.{Contains-cases, Contains-first, Contains-later, Contains-nil, Call, Get}
use Rattle.follow_parts.proofs.Common.{Insert, Remove, Scan, Replace, Operation, Response, low_key, may_change, Contents, concerns_key, Keys, answered}
use Rattle.follow_parts.proofs.Common.{KeptPast, KeptPart, AreKept, at_rest, AreAfterAnswer, HasPasts, IsKnownIn, changes_are_answered}
use Rattle.follow_parts.proofs.Common.{open_changes_are_kept, any_to, parts_move, AreLeftAfter, IsAnswerOf, covered, AreBesideEachOther, outside, resting}
use Rattle.follow_parts.proofs.Common.{kept_part, Part, OpenRead, IsLeftOfOne, AreEnded, HasOwnPlace, MayBeLeft, MayStand, kept_with, AreReadsOf, HasEndedBy}
use Rattle.follow_parts.proofs.Common.{IsBesideReads, IsPartBefore, IsPastBefore, IsShaped, IsReportedAt, PartsView, is_at_rest, kept_parts, kept_rest}
use Rattle.follow_parts.proofs.Common.{Answered, IsPut}
use Rattle.std.proofs.Common.{◌≢◌}
use mathlib.Core.List.{map-append}
use mathlib.Core.Path.{fun_ext}
use Rattle.follow_parts.proofs.BegunLemmas.{part_later, same_view}
use Rattle.follow_parts.proofs.ChangedLemmas.{IsLeftBefore, left_before}
use Rattle.follow_parts.proofs.EndedLemmas.{has_ended}
use Rattle.follow_parts.proofs.GoingLemmas.{all_have_pasts}
use Rattle.follow_parts.proofs.PutLemmas.{one_of, others_of, pairs_one, pairs_others}
use Rattle.follow_parts.proofs.SettledLemmas.{beside_turned}

-- ---- keys at rest

-- a call whose key is at rest is not pending
pub none_waits_at_rest : (s : PartsView) (start : Contents) (front back : List Operation) (o : Operation) → o.response ≡ None
    → may_change o.call ≡ true → All (λ part. covered part.ranges.items (low_key o.call) ≡ false) s.parts
    → AreKept start s.now (front ++ o ∷ back) (kept_parts s) → ⊥
none_waits_at_rest s start front back o pending changes none kept =
    let here : is_at_rest s.parts (low_key o.call) ≡ true =
    ap (λ (b : Bool). not b) (list_any_none (λ (part : Part). covered part.ranges.items (low_key o.call)) s.parts none) in
    let known = open_changes_are_kept start s.now (front ++ o ∷ back) (kept_rest s.rest s.parts) (map kept_part s.parts) o
    (Contains-append_right front (o ∷ back) o (Contains-first o back)) pending changes here kept in
    ⊎_elim (λ (left : Contains [] o). Contains-nil o left) (λ found. Contains-nil found.0 found.1)
    (All-head (IsKnownIn o) (at_rest s.rest) [] known)

rest_cases : (a p b : Bool) → not (a || (p || b)) ≡ (not (a || b) && not p)
rest_cases true true b = refl
rest_cases true false b = refl
rest_cases false true true = refl
rest_cases false true false = refl
rest_cases false false true = refl
rest_cases false false false = refl

-- the keys at rest are not a part's own
rest_without : (front back : List Part) (part : Part)
    → is_at_rest (front ++ part ∷ back) ≡ outside (is_at_rest (front ++ back)) (covered part.ranges.items)
rest_without front back part = fun_ext (λ (key : ℕ).
    let has = λ (p : Part). covered p.ranges.items key in
    ap (λ (b : Bool). not b) (list_any-append has front (part ∷ back))
    ∙ (rest_cases (list_any has front) (has part) (list_any has back)
    ∙ ap (λ (b : Bool). not b && not (has part)) (sym (list_any-append has front back))))

-- ---- the part that has the key, and the rest of the state

-- the state after the answer, with the other parts
abbrev pub without : PartsView → List Part → PartsView
without s others = record { rest = s.rest; parts = others; reads = s.reads; now = suc s.now }

pub view_is : (s : PartsView) (rest : Contents) (others : List Part) (reads : List OpenRead) (now : ℕ) → rest ≡ s.rest → reads ≡ s.reads
    → now ≡ s.now → without s others ≡ record { rest = rest; parts = others; reads = reads; now = now + 1 }
view_is s rest others reads now rest_is reads_are now_is =
    same_view s.rest rest others others s.reads reads (suc s.now) (now + 1) (sym rest_is) refl (sym reads_are) (omega (arith, now_is))

-- a call with its answer may change the map as the call
pub changes_too : (o operation : Operation) (response : Response) → IsAnswerOf o response operation → may_change operation.call ≡ true
    → may_change o.call ≡ true
changes_too o operation response answer changes = sym (ap (λ (x : Operation). may_change x.call) answer.is) ∙ changes

pub key_of : (o operation : Operation) (response : Response) → IsAnswerOf o response operation → low_key operation.call ≡ low_key o.call
key_of o operation response answer = ap (λ (x : Operation). low_key x.call) answer.is

pub told_at : (operation : Operation) (now : ℕ) (response : Response) → IsReportedAt now operation → operation.response ≡ Some response
    → response.res ≡ now
told_at operation now response reported is =
    let same : reported.response ≡ response = same_Some reported.response response (sym reported.is ∙ is) in
    ap (λ (r : Response). r.res) (sym same) ∙ reported.res

pub response_is : (o operation : Operation) (response : Response) → IsAnswerOf o response operation → operation.response ≡ Some response
response_is o operation response answer = ap (λ (x : Operation). x.response) answer.is

-- the only key of a call that may change the map
only_key : (call : Call) (key : ℕ) → may_change call ≡ true → concerns_key call key ≡ true → low_key call ≡ key
only_key (Get own) key changes here = cc
only_key (Insert own value) key changes here = eqb-true own key here
only_key (Remove own) key changes here = eqb-true own key here
only_key (Scan low high) key changes here = cc
only_key (Replace own expected value) key changes here = eqb-true own key here

module _ (s : PartsView) (others : List Part) (part : Part) (put : IsPut part others s.parts) where
  abbrev fronts : List Part
  fronts = put.front

  abbrev backs : List Part
  backs = put.back

  -- its shape
  pub part_is_shaped : IsShaped s → IsPartBefore s.now s.reads part
  part_is_shaped shaped = one_of part others s.parts put (IsPartBefore s.now s.reads) shaped.parts

  pub without_is_shaped : IsShaped s → IsShaped (without s others)
  without_is_shaped shaped = record {
    rest = shaped.rest;
    parts = All-weaker (IsPartBefore s.now s.reads) (IsPartBefore (suc s.now) s.reads) (part_later s.now s.reads) others
        (others_of part others s.parts put (IsPartBefore s.now s.reads) shaped.parts);
    apart = pairs_others part others s.parts put AreBesideEachOther beside_turned shaped.apart;
    reads = All-weaker (λ (read : OpenRead). read.inv < s.now) (λ (read : OpenRead). read.inv < suc s.now)
        (λ read less. omega (arith, less)) s.reads shaped.reads;
    distinct = shaped.distinct;
  }

  -- ---- what may be left there

  differ : (one other : Part) → AreBesideEachOther one other → (past : KeptPast) → Contains (kept_part one).pasts past
      → (past_there : KeptPast) → Contains (kept_part other).pasts past_there → (a : Operation) → Contains past.left a
      → (p : Operation) → Contains past_there.left p → a.inv ≢ p.inv
  differ one other beside past past_in past_there there_in a a_in p p_in =
      let first = All-contains
      (λ (q : KeptPast). All (λ (r : KeptPast). All (λ (x : Operation). All (λ (y : Operation). x.inv ≢ y.inv) r.left) q.left) (kept_part other).pasts)
      (kept_part one).pasts past beside past_in in
      let second = All-contains (λ (r : KeptPast). All (λ (x : Operation). All (λ (y : Operation). x.inv ≢ y.inv) r.left) past.left)
      (kept_part other).pasts past_there first there_in in
      let third = All-contains (λ (x : Operation). All (λ (y : Operation). x.inv ≢ y.inv) past_there.left) past.left a second a_in in
      All-contains (λ (y : Operation). a.inv ≢ y.inv) past_there.left p third p_in

  own_place : IsShaped s → (past : KeptPast) → Contains (kept_part part).pasts past → (a : Operation) → Contains past.left a
      → (o : Operation) → a.inv ≡ o.inv → HasOwnPlace (without s others) o
  own_place shaped past past_in a a_in o same = record {
    reads = All-from_contains (λ (read : OpenRead). read.inv ≢ o.inv) s.reads (λ read read_in is.
        All-contains (λ (p : Operation). p.inv ≢ read.inv) past.left a
        (All-contains (IsBesideReads s.reads) (kept_part part).pasts past (part_is_shaped shaped).beside past_in read read_in)
        a_in (same ∙ sym is));
    parts = All-from_contains IsOther others (λ other other_in. from_other other (λ there there_in p p_in is.
        differ part other (All-contains (AreBesideEachOther part) others other beside other_in) past past_in there there_in a a_in p p_in
        (same ∙ sym is)));
  }
    where
      IsOther : Part → Type 0
      IsOther other = All (λ (q : KeptPast). All (λ (p : Operation). p.inv ≢ o.inv) q.left) (kept_part other).pasts

      from_other : (other : Part) → ((there : KeptPast) → Contains (kept_part other).pasts there → (p : Operation) → Contains there.left p
          → p.inv ≢ o.inv) → IsOther other
      from_other other each = All-from_contains (λ (q : KeptPast). All (λ (p : Operation). p.inv ≢ o.inv) q.left) (kept_part other).pasts
          (λ there there_in. All-from_contains (λ (p : Operation). p.inv ≢ o.inv) there.left (λ p p_in. each there there_in p p_in))

      beside : All (AreBesideEachOther part) others
      beside = pairs_one part others s.parts put AreBesideEachOther beside_turned shaped.apart

  pub may_be_left : (operation : Operation) (response : Response) → operation.response ≡ Some response → response.res ≡ s.now → IsShaped s
      → (left : List Operation) → IsLeftOfOne operation (kept_part part).pasts left → MayBeLeft (without s others) left
  may_be_left operation response reported res shaped left of_one =
      let (past, past_in, after) = any_to (λ (past : KeptPast). AreLeftAfter operation past.left left) (kept_part part).pasts of_one in
      let before : IsPastBefore response.res past = subst (λ (n : ℕ). IsPastBefore n past) (sym res)
      (All-contains (IsPastBefore s.now) (kept_part part).pasts past (part_is_shaped shaped).pasts past_in) in
      let each : All (IsLeftBefore s.now) left =
      subst (λ (n : ℕ). All (IsLeftBefore n) left) res (left_before operation response reported past left before after) in record {
        rising = after.rising;
        each = All-from_contains (MayStand (without s others)) left (λ o o_in.
            let at = All-contains (IsLeftBefore s.now) left o each o_in in record {
              apart = at.apart;
              before = at.before;
              own = ⊎_elim (λ (old : Contains past.left o). own_place shaped past past_in o old o refl)
                  (λ own. own_place shaped past past_in own.1.0 own.1.1 o own.1.2) (after.each o o_in);
            });
      }

  -- ---- what is kept

  module _ (start : Contents) (before after : List Operation) (o : Operation) (response : Response) (pending : o.response ≡ None)
      (changes : may_change o.call ≡ true) (has_key : covered part.ranges.items (low_key o.call) ≡ true)
      (kept : AreKept start s.now (before ++ o ∷ after) (kept_parts s)) where
    abbrev pub beside : List KeptPart
    beside = kept_rest s.rest (fronts ++ part ∷ backs) ∷ map kept_part fronts ++ map kept_part backs

    ahead : AreKept start s.now (before ++ o ∷ after) (kept_part part ∷ beside)
    ahead =
        let at : AreKept start s.now (before ++ o ∷ after) (kept_rest s.rest (fronts ++ part ∷ backs) ∷ map kept_part (fronts ++ part ∷ backs)) =
        subst (λ (ps : List Part). AreKept start s.now (before ++ o ∷ after) (kept_rest s.rest ps ∷ map kept_part ps)) put.after kept in
        (parts_move start s.now (before ++ o ∷ after) (kept_part part) (kept_rest s.rest (fronts ++ part ∷ backs) ∷ map kept_part fronts)
        (map kept_part backs)).0
        (subst (λ (ps : List KeptPart). AreKept start s.now (before ++ o ∷ after) (kept_rest s.rest (fronts ++ part ∷ backs) ∷ ps))
        (map-append kept_part fronts (part ∷ backs)) at)

    all_have : All HasPasts (kept_part part ∷ beside)
    all_have =
        let around : All HasPasts (map kept_part fronts ++ map kept_part backs) =
        All-append HasPasts (map kept_part fronts) (map kept_part backs) (all_have_pasts fronts) (all_have_pasts backs) in
        All-cons HasPasts (kept_part part) beside (λ none. cc)
        (All-cons HasPasts (kept_rest s.rest (fronts ++ part ∷ backs)) (map kept_part fronts ++ map kept_part backs) (λ none. cc) around)

    pub known_there : All (IsKnownIn o) (kept_part part).pasts
    known_there = open_changes_are_kept start s.now (before ++ o ∷ after) (kept_part part) beside o
        (Contains-append_right before (o ∷ after) o (Contains-first o after)) pending changes has_key ahead

    pub answered_there : response.res ≡ s.now → (nexts : List KeptPast) → AreAfterAnswer o response (kept_part part).pasts nexts
        → AreKept start (suc s.now) (before ++ answered response o ∷ after) (kept_with (without s others) (covered part.ranges.items) nexts)
    answered_there res nexts done =
        let first : KeptPart = record { keys = covered part.ranges.items; pasts = nexts } in
        let there : AreKept start (suc s.now) (before ++ answered response o ∷ after) (first ∷ beside) =
        changes_are_answered start s.now before after (kept_part part) beside o response nexts pending changes res has_key done ahead in
        let rest_is : kept_rest s.rest (fronts ++ part ∷ backs)
        ≡ resting (outside (is_at_rest (fronts ++ backs)) (covered part.ranges.items)) s.rest =
        ap (λ (keys : Keys). resting keys s.rest) (rest_without fronts backs part) in
        let together : AreKept start (suc s.now) (before ++ answered response o ∷ after)
        (first ∷ resting (outside (is_at_rest (fronts ++ backs)) (covered part.ranges.items)) s.rest ∷ map kept_part (fronts ++ backs)) =
        subst (λ (ps : List KeptPart). AreKept start (suc s.now) (before ++ answered response o ∷ after)
        (first ∷ resting (outside (is_at_rest (fronts ++ backs)) (covered part.ranges.items)) s.rest ∷ ps))
        (sym (map-append kept_part fronts backs))
        (subst (λ (p : KeptPart). AreKept start (suc s.now) (before ++ answered response o ∷ after)
        (first ∷ p ∷ map kept_part fronts ++ map kept_part backs)) rest_is there) in
        subst (λ (ps : List Part). AreKept start (suc s.now) (before ++ answered response o ∷ after)
        (first ∷ resting (outside (is_at_rest ps) (covered part.ranges.items)) s.rest ∷ map kept_part ps)) (sym put.before)
        together

    -- the part as it was, if the answer ends it
    pub ended_there : (nexts : List KeptPast) → AreAfterAnswer o response (kept_part part).pasts nexts → {E : Type 0} (result : Result Answered E)
        → IfOk result (AreEnded part.ranges.items nexts) → IfOk result (HasEndedBy start s.now (before ++ o ∷ after) o response)
    ended_there nexts done result is =
        has_ended start s.now (before ++ o ∷ after) o response part.ranges.items (kept_part part).pasts nexts beside
        (λ key here. subst (λ (k : ℕ). covered part.ranges.items k ≡ true) (only_key o.call key changes here) has_key) ahead all_have
        (inl (changes, done)) result is

-- ---- pending reads

-- the pending reads stay if a call that may change the map is answered
pub reads_stay_answered : (front back : List Operation) (o : Operation) (response : Response) (reads : List OpenRead) → may_change o.call ≡ true
    → AreReadsOf (front ++ o ∷ back) reads → AreReadsOf (front ++ answered response o ∷ back) reads
reads_stay_answered front back o response reads changes are inv low high = (
  (λ read_in.
      let (p, p_in, at, none, keeps, from, to) = (are inv low high).0 read_in in
      (p, elsewhere p o (answered response o) p_in (λ same. no_read p (ap (λ (q : Operation). may_change q.call) same) keeps), at, none, keeps, from, to)),
  (λ (p, p_in, at, none, keeps, from, to). (are inv low high).1
      (p, elsewhere p (answered response o) o p_in (λ same. no_read p (ap (λ (q : Operation). may_change q.call) same) keeps), at, none, keeps, from, to)),
)
  where
    no_read : (p : Operation) → may_change o.call ≡ may_change p.call → may_change p.call ≡ false → ⊥
    no_read p same keeps = let no : true ≡ false = sym changes ∙ (same ∙ keeps) in absurd (cc)

    elsewhere : (p a b : Operation) → Contains (front ++ a ∷ back) p → (a ≡ p → ⊥) → Contains (front ++ b ∷ back) p
    elsewhere p a b p_in other = ⊎_elim
        (λ early. Contains-append_left front (b ∷ back) p early)
        (λ late. Contains-append_right front (b ∷ back) p (⊎_elim (λ (same : a ≡ p). absurd (other same)) (λ after. Contains-later b back p after)
        (Contains-cases a back p late)))
        (Contains-append_cases front (a ∷ back) p p_in)
