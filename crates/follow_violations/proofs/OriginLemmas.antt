-- Who put a value that a key has in a past: the last put in a fold is the one after which none is.
use Rattle.follow_violations.proofs.Common.{Contains-from_map, Contains-map, Operation, KeptPast, is_put_before, last_put, origin_in, put_in}
use Rattle.follow_violations.proofs.Common.{IsLastPut, IsOriginIn, IsPutBefore, IsPutBy, Origin, Put, value_at, ◌≡◌, ℕ, Bool, true, false, ◌==◌, not}
use Rattle.follow_violations.proofs.Common.{cond, List, [], ◌∷◌, ◌++◌, map, Option, Some, None, refl, ap, sym, ◌∙◌, subst, inl, inr, ⊎_elim, ◌&&◌}
use Rattle.follow_violations.proofs.Common.{and_from, and_parts, cases_Bool, eq-eqb, not-true, All-head, All-cons, All-nil, All-tail, list_any, ◌⊎◌}
use Rattle.follow_violations.proofs.Common.{◌↔◌, if◌then◌else◌, All, Any, Contains}
use Rattle.std.proofs.lemmas.List.Folds.{Any-from_list_any, list_any-from_Any}
use Rattle.std.proofs.Common.{eqb-true}
use Rattle.follow_violations.proofs.AnyLemmas.{any_in, any_of, any_weaker}

abbrev invoked_by : Put → Operation → Bool
invoked_by p o = o.inv == p.event

-- ---- one put

is_before : (past : KeptPast) (key value : ℕ) (p : Put) → is_put_before past key value p ≡ true → IsPutBefore past.left key value p
is_before past key value p is =
    let here = and_parts (p.key == key) (p.value == value && not (list_any (invoked_by p) past.left)) is in
    let more = and_parts (p.value == value) (not (list_any (invoked_by p) past.left)) here.1 in
    let none : list_any (invoked_by p) past.left ≡ false = not-true (list_any (invoked_by p) past.left) more.1 in record {
      key_is = eqb-true p.key key here.0;
      value_is = eqb-true p.value value more.0;
      not_left = λ left.
          let yes : list_any (invoked_by p) past.left ≡ true =
          list_any-from_Any (invoked_by p) past.left
          (any_weaker (λ (o : Operation). o.inv ≡ p.event) (λ (o : Operation). invoked_by p o ≡ true) past.left (λ o at. eq-eqb o.inv p.event at) left) in
          let no : true ≡ false = sym yes ∙ none in cc;
    }

tests_so : (past : KeptPast) (key value : ℕ) (p : Put) → IsPutBefore past.left key value p → is_put_before past key value p ≡ true
tests_so past key value p is =
    and_from (p.key == key) (p.value == value && not (list_any (invoked_by p) past.left)) (eq-eqb p.key key is.key_is)
    (and_from (p.value == value) (not (list_any (invoked_by p) past.left)) (eq-eqb p.value value is.value_is)
    (⊎_elim
    (λ (some : list_any (invoked_by p) past.left ≡ true). absurd (is.not_left
    (any_weaker (λ (o : Operation). invoked_by p o ≡ true) (λ (o : Operation). o.inv ≡ p.event) past.left (λ o at. eqb-true o.inv p.event at)
    (Any-from_list_any (invoked_by p) past.left some))))
    (λ (none : list_any (invoked_by p) past.left ≡ false). ap not none)
    (cases_Bool (list_any (invoked_by p) past.left))))

-- ---- the last of some puts

-- none of these puts is of the value
abbrev NoneBefore : KeptPast → ℕ → ℕ → List Put → Type 0
NoneBefore past key value puts = All (λ p. IsPutBefore past.left key value p → ⊥) puts

-- what the fold gives: the last put of the value, or what it began with
abbrev IsLastOr : KeptPast → ℕ → ℕ → Option ℕ → List Put → Option ℕ → Type 0
IsLastOr past key value last puts put =
    ((event : ℕ) × IsLastPut past.left puts key value event × (put ≡ Some event)) ⊎ (NoneBefore past key value puts × (put ≡ last))

-- one put more before them
later : (past : KeptPast) (key value event : ℕ) (p : Put) (puts : List Put) → IsLastPut past.left puts key value event
    → IsLastPut past.left (p ∷ puts) key value event
later past key value event p puts is = record {
  before = p ∷ is.before;
  put = is.put;
  after = is.after;
  parts = ap (λ (ps : List Put). p ∷ ps) is.parts;
  is = is.is;
  none_after = is.none_after;
  event_is = is.event_is;
}

last_or : (past : KeptPast) (key value : ℕ) (last : Option ℕ) (puts : List Put) → IsLastOr past key value last puts (last_put past key value last puts)
last_or past key value last [] = inr (All-nil (λ (p : Put). IsPutBefore past.left key value p → ⊥), refl)
last_or past key value last (p ∷ puts) = ⊎_elim
    (λ (own : is_put_before past key value p ≡ true).
    subst (λ (t : Bool). IsLastOr past key value last (p ∷ puts) (last_put past key value (cond t (Some p.event) last) puts)) (sym own)
    (⊎_elim
    (λ (event, is, at). inl (event, later past key value event p puts is, at))
    (λ (none, at). inl (
      p.event,
      record {
        before = [];
        put = p;
        after = puts;
        parts = refl;
        is = is_before past key value p own;
        none_after = none;
        event_is = refl;
      },
      at,
    ))
    (last_or past key value (Some p.event) puts)))
    (λ (other : is_put_before past key value p ≡ false).
    subst (λ (t : Bool). IsLastOr past key value last (p ∷ puts) (last_put past key value (cond t (Some p.event) last) puts)) (sym other)
    (⊎_elim
    (λ (event, is, at). inl (event, later past key value event p puts is, at))
    (λ (none, at). inr (
      All-cons (λ (q : Put). IsPutBefore past.left key value q → ⊥) p puts
          (λ is. let no : true ≡ false = sym (tests_so past key value p is) ∙ other in cc) none,
      at,
    ))
    (last_or past key value last puts)))
    (cases_Bool (is_put_before past key value p))

last_none : (past : KeptPast) (key value : ℕ) (last : Option ℕ) (puts : List Put) → NoneBefore past key value puts
    → last_put past key value last puts ≡ last
last_none past key value last [] none = refl
last_none past key value last (p ∷ puts) none = ⊎_elim
    (λ (own : is_put_before past key value p ≡ true).
    absurd (All-head (λ (q : Put). IsPutBefore past.left key value q → ⊥) p puts none (is_before past key value p own)))
    (λ (other : is_put_before past key value p ≡ false).
    ap (λ (t : Bool). last_put past key value (cond t (Some p.event) last) puts) other
    ∙ last_none past key value last puts (All-tail (λ (q : Put). IsPutBefore past.left key value q → ⊥) p puts none))
    (cases_Bool (is_put_before past key value p))

last_at : (past : KeptPast) (key value : ℕ) (last : Option ℕ) (before : List Put) (p : Put) (after : List Put) → IsPutBefore past.left key value p
    → NoneBefore past key value after → last_put past key value last (before ++ p ∷ after) ≡ Some p.event
last_at past key value last [] p after is none =
    ap (λ (t : Bool). last_put past key value (cond t (Some p.event) last) after) (tests_so past key value p is)
    ∙ last_none past key value (Some p.event) after none
last_at past key value last (q ∷ before) p after is none =
    last_at past key value (if is_put_before past key value q then Some q.event else last) before p after is none

-- ---- who put a value

put_by_fold : (past : KeptPast) (puts : List Put) (key : ℕ) (value : Option ℕ) → IsPutBy past.left puts key value (put_in puts past key value)
put_by_fold past puts key None = refl
put_by_fold past puts key (Some value) = ⊎_elim
    (λ (event, is, at). subst (IsPutBy past.left puts key (Some value)) (sym at) is)
    (λ (none, at). subst (IsPutBy past.left puts key (Some value)) (sym at) none)
    (last_or past key value None puts)

fold_is : (past : KeptPast) (puts : List Put) (key : ℕ) (value put : Option ℕ) → IsPutBy past.left puts key value put
    → put_in puts past key value ≡ put
fold_is past puts key None put is = sym is
fold_is past puts key (Some value) None is = last_none past key value None puts is
fold_is past puts key (Some value) (Some event) is =
    ap (last_put past key value None) is.parts
    ∙ (last_at past key value None is.before is.put is.after is.is is.none_after ∙ ap Some is.event_is)

-- ---- origins

origin_is : (puts : List Put) (key : ℕ) (past : KeptPast) (origin : Origin) → origin_in puts key past ≡ origin → IsOriginIn puts key past origin
origin_is puts key past origin is =
    subst (IsOriginIn puts key past) is (record { value_is = refl; put_is = put_by_fold past puts key (value_at past.pairs key) })

is_origin : (puts : List Put) (key : ℕ) (past : KeptPast) (origin : Origin) → IsOriginIn puts key past origin → origin_in puts key past ≡ origin
is_origin puts key past origin is =
    ap (λ (value : Option ℕ). record { value = value; put = put_in puts past key value }) is.value_is
    ∙ ap (λ (put : Option ℕ). record { value = origin.value; put = put }) (fold_is past puts key origin.value origin.put is.put_is)

-- those of pasts
pub origins_are : (puts : List Put) (key : ℕ) (pasts : List KeptPast) (from : List Origin)
    → ((origin : Origin) → Contains from origin ↔ Contains (map (origin_in puts key) pasts) origin)
    → (origin : Origin) → Contains from origin ↔ Any (λ past. IsOriginIn puts key past origin) pasts
origins_are puts key pasts from same origin = (
  λ origin_there. let (past, past_in, is) = Contains-from_map (origin_in puts key) pasts origin ((same origin).0 origin_there) in
      any_of (λ (p : KeptPast). IsOriginIn puts key p origin) pasts past past_in (origin_is puts key past origin is),
  λ any. let (past, past_in, is) = any_in (λ (p : KeptPast). IsOriginIn puts key p origin) pasts any in
      (same origin).1 (subst (Contains (map (origin_in puts key) pasts)) (is_origin puts key past origin is)
      (Contains-map (origin_in puts key) pasts past past_in)),
)
