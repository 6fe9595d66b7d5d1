-- The parts decide: each has a past that goes on at its keys exactly if the calls have an order.
use Rattle.follow_laws.proofs.Common.{◌≡◌, ℕ, ◌<◌, Bool, true, false, not, ◌&&◌, cond, List, [], ◌∷◌, map, Option, inl, inr, refl, sym, ap, ◌∙◌}
use Rattle.follow_laws.proofs.Common.{subst, ⊎_elim, ◌⊎◌, ◌↔◌, All, AllPairs, Contains, filter, All-nil, All-cons, All-head, All-tail, All-contains}
use Rattle.follow_laws.proofs.Common.{All-map, AllPairs-filter, AllPairs-map, Contains-map, Contains-from_map, AllPairs-head, AllPairs-tail}
use Rattle.follow_laws.proofs.Common.{All-from_contains, Contains-nil, Contains-cases, Contains-from_filter, KeyedCall, Effect, IsNoEffect, IsFormed}
use Rattle.follow_laws.proofs.Common.{no_effect, AreKeyedCalls, HasKeyedOrder, HaveGrown, Choice, at_first, rest_of, Agrees, Keys, IsWithin, only}
use Rattle.follow_laws.proofs.Common.{AreApart, AreParts, Parts, PartsDecide, Part, IsAt, IsOneOf, choices_of, ShareKeys, left_at, AgreesAt, GoesOnAt}
use Rattle.follow_laws.proofs.Common.{SomePastGoesOn, IsOfOnePart, AreOfOnePart}
use Rattle.follow_laws.proofs.DeadLemmas.{bool_cases}
use Rattle.follow_laws.proofs.EffectRestLemmas.{none_none, none_or, refused_none}
use Rattle.follow_laws.proofs.EffectPartLemmas.{none_at, parts_judge}
use Rattle.follow_laws.proofs.PartLemmas.{all_keys, at_back, at_next, goes_on_there, instead, instead_here, instead_there, same_goes_on_there}
use Rattle.follow_laws.proofs.PartLemmas.{stand_below}
use Rattle.follow_laws.proofs.SomeLemmas.{keyed_left, keyed_some, some_decide}

-- ---- one choice of a past for each part

-- a part has a past that a choice is at its keys, and that goes on there
abbrev IsPicked : List KeyedCall → Choice → Part → Type 0
IsPicked calls w part = (past : Choice) × Contains part.pasts past × IsAt part.keys past w × GoesOnAt part.keys past calls

pick : (calls : List KeyedCall) (base : Choice) (parts : List Part) → AllPairs (λ part other. AreApart part.keys other.keys) parts
    → All (SomePastGoesOn calls) parts → (w : Choice) × All (IsPicked calls w) parts
pick calls base [] apart some = (base, All-nil (IsPicked calls base))
pick calls base (part ∷ parts) apart some =
    let (w, picked) = pick calls base parts (AllPairs-tail (λ one other. AreApart one.keys other.keys) part parts apart)
    (All-tail (SomePastGoesOn calls) part parts some) in
    let (past, past_in, goes_on) = All-head (SomePastGoesOn calls) part parts some in (
      instead part.keys past w,
      All-cons (IsPicked calls (instead part.keys past w)) part parts (past, past_in, instead_here part.keys past w, goes_on)
          (All-from_contains (IsPicked calls (instead part.keys past w)) parts (λ other other_in.
          let (old, old_in, same, goes) = All-contains (IsPicked calls w) parts other picked other_in in
          let out : AreApart part.keys other.keys = All-contains (λ one. AreApart part.keys one.keys) parts other
          (AllPairs-head (λ one two. AreApart one.keys two.keys) part parts apart) other_in in
          (old, old_in, at_next other.keys old w (instead part.keys past w) same (instead_there part.keys other.keys past w out), goes))),
    )

-- ---- refused calls do not matter

abbrev is_accepted : KeyedCall → Bool
is_accepted a = not a.refused

-- what is left of the others
abbrev accepted_left : Keys → Choice → List KeyedCall → List KeyedCall
accepted_left keys w calls = filter is_accepted (map (left_at keys w) calls)

abbrev accepted_rest : Choice → List KeyedCall → List KeyedCall
accepted_rest w calls = filter is_accepted (map (rest_of w) calls)

not_refused : (b : Bool) → not b ≡ true → b ≡ false
not_refused true h = cc
not_refused false h = refl

from_accepted : (w : Choice) (calls : List KeyedCall) (x : KeyedCall) → Contains (accepted_rest w calls) x
    → (a : KeyedCall) × Contains calls a × (a.refused ≡ false) × (rest_of w a ≡ x)
from_accepted w calls x x_in =
    let (whole, accepted) = Contains-from_filter is_accepted (map (rest_of w) calls) x x_in in
    let (a, a_in, a_is) = Contains-from_map (rest_of w) calls x whole in
    (a, a_in, subst (λ (z : KeyedCall). z.refused ≡ false) (sym a_is) (not_refused x.refused accepted), a_is)

accepted_at : (keys : Keys) (w : Choice) (calls : List KeyedCall) → map (only keys) (accepted_rest w calls) ≡ accepted_left keys w calls
accepted_at keys w [] = refl
accepted_at keys w (a ∷ calls) = by_refusal a.refused (accepted_at keys w calls)
  where
    by_refusal : (b : Bool) → map (only keys) (accepted_rest w calls) ≡ accepted_left keys w calls
        → map (only keys) (cond (not b) (rest_of w a ∷ accepted_rest w calls) (accepted_rest w calls))
        ≡ cond (not b) (left_at keys w a ∷ accepted_left keys w calls) (accepted_left keys w calls)
    by_refusal true further = further
    by_refusal false further = ap (λ (xs : List KeyedCall). left_at keys w a ∷ xs) further

accepted_decide : (held : ℕ → Option ℕ) (keys : Keys) (w : Choice) (calls : List KeyedCall) → AreKeyedCalls calls
    → AllPairs (λ a b. a.inv < b.inv) calls → All IsFormed calls
    → HasKeyedOrder held (map (left_at keys w) calls) ↔ HasKeyedOrder held (accepted_left keys w calls)
accepted_decide held keys w calls apart rising formed =
    some_decide held is_accepted (map (left_at keys w) calls) (keyed_left keys w calls apart)
    (AllPairs-map (λ a b. a.inv < b.inv) (left_at keys w) calls rising) each
  where
    each : (x : KeyedCall) → Contains (map (left_at keys w) calls) x → ((key : ℕ) → IsNoEffect (x.effect key)) ⊎ (is_accepted x ≡ true)
    each x x_in = let (a, a_in, a_is) = Contains-from_map (left_at keys w) calls x x_in in by_refusal a a_in a_is (bool_cases a.refused)
      where
        by_refusal : (a : KeyedCall) → Contains calls a → left_at keys w a ≡ x → (a.refused ≡ true) ⊎ (a.refused ≡ false)
            → ((key : ℕ) → IsNoEffect (x.effect key)) ⊎ (is_accepted x ≡ true)
        by_refusal a a_in a_is (inl refused) =
            inl (λ key. subst (λ (z : KeyedCall). IsNoEffect (z.effect key)) a_is
            (none_at (keys key) ((rest_of w a).effect key) (refused_none w a (All-contains IsFormed calls a formed a_in) refused key)))
        by_refusal a a_in a_is (inr accepted) =
            inr (subst (λ (z : KeyedCall). is_accepted z ≡ true) a_is (ap (λ (b : Bool). not b) accepted))

-- ---- the parts are parts of the calls

-- two members of a list are one, or are in the relation, this way or the other
pair_cases : (parts : List Part) (one other : Part) → AllPairs (λ a b. AreApart a.keys b.keys) parts → Contains parts one → Contains parts other
    → (one ≡ other) ⊎ (AreApart one.keys other.keys ⊎ AreApart other.keys one.keys)
pair_cases [] one other apart one_in other_in = absurd (Contains-nil one one_in)
pair_cases (part ∷ parts) one other apart one_in other_in =
    ⊎_elim
    (λ first. ⊎_elim
    (λ second. inl (sym first ∙ second))
    (λ later. inr (inl (subst (λ (z : Part). AreApart z.keys other.keys) first
    (All-contains (λ b. AreApart part.keys b.keys) parts other (AllPairs-head (λ a b. AreApart a.keys b.keys) part parts apart) later))))
    (Contains-cases part parts other other_in))
    (λ later. ⊎_elim
    (λ second. inr (inr (subst (λ (z : Part). AreApart z.keys one.keys) second
    (All-contains (λ b. AreApart part.keys b.keys) parts one (AllPairs-head (λ a b. AreApart a.keys b.keys) part parts apart) later))))
    (λ further. pair_cases parts one other (AllPairs-tail (λ a b. AreApart a.keys b.keys) part parts apart) later further)
    (Contains-cases part parts other other_in))
    (Contains-cases part parts one one_in)

quiet_rest : (t : Bool) (e : Effect) → ((value : Option ℕ) → e.fits value ≡ true → e.leaves value ≡ value)
    → (value : Option ℕ) → (cond t no_effect e).fits value ≡ true → (cond t no_effect e).leaves value ≡ value
quiet_rest true e quiet value fits = refl
quiet_rest false e quiet value fits = quiet value fits

pub formed_rest : (w : Choice) (a : KeyedCall) → IsFormed a → IsFormed (rest_of w a)
formed_rest w a formed = record {
  elsewhere = λ key out. by_taken key out (bool_cases (w.taken a.inv key));
  refusal = λ refused key. none_or (w.taken a.inv key) (a.effect key) (formed.refusal refused key);
}
  where
    by_taken : (key : ℕ) → (not (w.taken a.inv key) && a.concerns key) ≡ false → (w.taken a.inv key ≡ true) ⊎ (w.taken a.inv key ≡ false)
        → IsNoEffect (cond (w.taken a.inv key) no_effect (a.effect key))
    by_taken key out (inl taken) = rw taken none_none
    by_taken key out (inr untaken) = none_or (w.taken a.inv key) (a.effect key) (formed.elsewhere key (rw untaken at out))

module _ (parts : List Part) (w : Choice) (calls : List KeyedCall) (shared : ShareKeys parts) (is : choices_of parts w)
    (one : AreOfOnePart parts calls) where
  parted : (part : Part) → Contains parts part → (whole : List KeyedCall) (a : KeyedCall) → a.refused ≡ false → IsOfOnePart parts w a
      → Parts part.keys whole (rest_of w a)
  parted part part_in whole a accepted (inl refused) = cc
  parted part part_in whole a accepted (inr (inl (pending, read))) =
      inr (inr (λ key. quiet_rest (w.taken a.inv key) (a.effect key) (read key), inl pending))
  parted part part_in whole a accepted (inr (inr (own, own_in, within))) =
      ⊎_elim
      (λ same. inl (subst (λ (z : Part). IsWithin z.keys (rest_of w a)) same within))
      (λ differ. inr (inl (λ key here. within key (out key here differ))))
      (pair_cases parts own part shared.apart own_in part_in)
    where
      out : (key : ℕ) → part.keys key ≡ true → AreApart own.keys part.keys ⊎ AreApart part.keys own.keys → own.keys key ≡ false
      out key here (inr after) = after key here
      out key here (inl before) = by_key (bool_cases (own.keys key))
        where
          by_key : (own.keys key ≡ true) ⊎ (own.keys key ≡ false) → own.keys key ≡ false
          by_key (inr not_so) = not_so
          by_key (inl both) = let never : part.keys key ≡ false = before key both in cc

  are_parts : AreParts (map (λ part. part.keys) parts) (accepted_rest w calls)
  are_parts = record {
    apart = AllPairs-map AreApart (λ (part : Part). part.keys) parts shared.apart;
    parted = All-map (λ keys. All (Parts keys (accepted_rest w calls)) (accepted_rest w calls)) (λ (part : Part). part.keys) parts
        (All-from_contains (λ part. All (Parts part.keys (accepted_rest w calls)) (accepted_rest w calls)) parts (λ part part_in.
        All-from_contains (Parts part.keys (accepted_rest w calls)) (accepted_rest w calls) (λ x x_in.
        let (a, a_in, accepted, a_is) = from_accepted w calls x x_in in
        subst (λ (z : KeyedCall). Parts part.keys (accepted_rest w calls) z) a_is
        (parted part part_in (accepted_rest w calls) a accepted (one w a is a_in)))));
    elsewhere = λ a key a_in out.
        let (part, part_in, here) = shared.every key in
        let never : part.keys key ≡ false = All-contains (λ (keys : Keys). keys key ≡ false) (map (λ part. part.keys) parts) part.keys out
        (Contains-map (λ (part : Part). part.keys) parts part part_in) in cc;
  }

agrees_all : (parts : List Part) (calls : List KeyedCall) (w : Choice) → ShareKeys parts → All (IsPicked calls w) parts → (a : KeyedCall)
    → Contains calls a → Agrees w a
agrees_all parts calls w shared picked a a_in = record {
  accepted = λ key taken.
      let (part, part_in, here) = shared.every key in
      let (past, past_in, same, goes_on) = All-contains (IsPicked calls w) parts part picked part_in in
      let agrees : AgreesAt part.keys past a = All-contains (AgreesAt part.keys past) calls a goes_on.0 a_in in
      agrees.accepted key here (sym (same.taken a.inv key here) ∙ taken);
  fits = λ key taken.
      let (part, part_in, here) = shared.every key in
      let (past, past_in, same, goes_on) = All-contains (IsPicked calls w) parts part picked part_in in
      let agrees : AgreesAt part.keys past a = All-contains (AgreesAt part.keys past) calls a goes_on.0 a_in in
      let before : past.taken a.inv key ≡ true = sym (same.taken a.inv key here) ∙ taken in
      subst (λ (u : Option ℕ). (a.effect key).fits u ≡ true) (sym (same.found a.inv key here before)) (agrees.fits key here before);
}

order_all : (place : ℕ) (parts : List Part) (calls : List KeyedCall) (w : Choice) → HaveGrown place calls calls
    → AllPairs (λ a b. a.inv < b.inv) calls → AreOfOnePart parts calls → ShareKeys parts → choices_of parts w → All (IsPicked calls w) parts
    → HasKeyedOrder w.holds (map (rest_of w) calls)
order_all place parts calls w grown rising one shared is picked =
    (accepted_decide w.holds all_keys w calls grown.apart rising grown.formed).1
    ((parts_judge w.holds (map (λ part. part.keys) parts) (accepted_rest w calls)
    (keyed_some is_accepted (map (rest_of w) calls) (keyed_left all_keys w calls grown.apart))
    (AllPairs-filter (λ a b. a.inv < b.inv) is_accepted (map (rest_of w) calls) (AllPairs-map (λ a b. a.inv < b.inv) (rest_of w) calls rising))
    (All-from_contains IsFormed (accepted_rest w calls) (λ x x_in.
    let (a, a_in, accepted, a_is) = from_accepted w calls x x_in in
    subst (λ (z : KeyedCall). IsFormed z) a_is (formed_rest w a (All-contains IsFormed calls a grown.formed a_in))))
    (are_parts parts w calls shared is one)).1
    (All-map (λ keys. HasKeyedOrder w.holds (map (only keys) (accepted_rest w calls))) (λ (part : Part). part.keys) parts
    (All-from_contains (λ part. HasKeyedOrder w.holds (map (only part.keys) (accepted_rest w calls))) parts (λ part part_in.
    let (past, past_in, same, goes_on) = All-contains (IsPicked calls w) parts part picked part_in in
    let here : GoesOnAt part.keys w calls = same_goes_on_there part.keys w past calls (at_back part.keys past w same) goes_on in
    subst (λ (xs : List KeyedCall). HasKeyedOrder w.holds xs) (sym (accepted_at part.keys w calls))
    ((accepted_decide w.holds part.keys w calls grown.apart rising grown.formed).0 here.1)))))

pub parts_decide : PartsDecide
parts_decide held place calls parts grown rising one stand = (
  λ order.
      let (w, is, goes_on) = stand.above calls grown order in
      All-from_contains (SomePastGoesOn calls) parts (λ part part_in.
      let (past, past_in, same) = All-contains (λ other. IsOneOf other.keys other.pasts w) parts part is part_in in
      (past, past_in, goes_on_there part.keys past w calls same goes_on)),
  λ some.
      let (w, picked) = pick calls (at_first held) parts stand.shared.apart some in
      let is : choices_of parts w = All-from_contains (λ part. IsOneOf part.keys part.pasts w) parts (λ part part_in.
      let (past, past_in, same, goes_on) = All-contains (IsPicked calls w) parts part picked part_in in (past, past_in, same)) in
      stand_below held place calls parts stand calls grown (
        w,
        is,
        (
          All-from_contains (Agrees w) calls (λ a a_in. agrees_all parts calls w stand.shared picked a a_in),
          order_all place parts calls w grown rising one stand.shared is picked,
        ),
      ),
)
