-- Pasts that are reached. Of each part one past is picked. The calls that were taken are those that are left in none of these, and were
-- answered or found something.
use Rattle.follow_laws.proofs.Common.{◌≡◌, ℕ, ◌<◌, Bool, true, false, not, ◌&&◌, ◌||◌, ◌==◌, cond, List, [], ◌∷◌, ◌++◌, map, Option, Some, None, inl}
use Rattle.follow_laws.proofs.Common.{inr, refl, sym, ap, ◌∙◌, subst, ⊎_elim, arith, ◌≢◌, ◌⊎◌, All, AllPairs, Contains, filter, IsTrue, AllZip}
use Rattle.follow_laws.proofs.Common.{list_any, and_parts, and_from, or_left, or_right, not-true, not_from_false, false_from_ne_true, eqb-true}
use Rattle.follow_laws.proofs.Common.{eq-eqb, map-append, All-nil, All-cons, All-head, All-tail, All-contains, AllPairs-cons, AllPairs-filter}
use Rattle.follow_laws.proofs.Common.{AllPairs-map, AllPairs-from_map, AllPairs-weaker, Contains-map, Contains-from_map, AllPairs-nil, AllPairs-head}
use Rattle.follow_laws.proofs.Common.{AllPairs-tail, All-from_contains, Contains-nil, Contains-first, Contains-later, Contains-cases, Contains-split}
use Rattle.follow_laws.proofs.Common.{Contains-filter, Contains-from_filter, Operation, Response, may_change, Contents, IsRising, value_at}
use Rattle.follow_laws.proofs.Common.{after_call, after_calls, rising_kept, KeyedCall, IsNoEffect, no_effect, concerns_key, is_completed, is_refused}
use Rattle.follow_laws.proofs.Common.{place_of, precedes, effect_at, keyed, left_by, AreDistinct, FitInTurn, HasForm, Choice, Agrees, at_first}
use Rattle.follow_laws.proofs.Common.{rest_of, Keys, AreApart, Part, IsAt, IsOneOf, choices_of, AgreesAt, HasSomeKeyIn, FoundAt, KeptPast, IsPast}
use Rattle.follow_laws.proofs.Common.{KeptPart, AreCallsBefore, IsOwn, IsKeptAs, Lead, IsOpen, AreAllTaken}
use Rattle.follow_laws.proofs.BridgeLemmas.{same_precedes}
use Rattle.follow_laws.proofs.DeadLemmas.{bool_cases}
use Rattle.follow_laws.proofs.EffectLemmas.{step_of, fits_legal}
use Rattle.follow_laws.proofs.EffectRestLemmas.{none_none}
use Rattle.follow_laws.proofs.GrowLemmas.{formed, open_fits}
use Rattle.follow_laws.proofs.OrderLemmas.{same_call}
use Rattle.std.proofs.Common.{is_some}
use Rattle.follow_laws.proofs.PartLemmas.{at_next, instead, instead_here, instead_there, or_cases}
use Rattle.follow_laws.proofs.ReachLemmas.{choices_are_reached}
use Rattle.follow_laws.proofs.KeptNextLemmas.{zip_there}
use Rattle.follow_laws.specs.KeptReached.{IsFoundIn, IsReached, HasPasts, KeptPastsAreReached}
use Rattle.follow_laws.proofs.KeptCallLemmas.{own_key_of}
use Rattle.follow_laws.proofs.KeptPartLemmas.{IsKeptFirst, first_of}
use Rattle.events.specs.Precedence as events

-- ---- some item of a list

any_from : {X : Type 0} (test : X → Bool) (xs : List X) (x : X) → Contains xs x → test x ≡ true → list_any test xs ≡ true
any_from test [] x x_in is = absurd (Contains-nil x x_in)
any_from test (y ∷ xs) x x_in is = ⊎_elim
    (λ same. or_left (test y) (list_any test xs) (ap test same ∙ is))
    (λ later. or_right (test y) (list_any test xs) (any_from test xs x later is))
    (Contains-cases y xs x x_in)

any_of : {X : Type 0} (test : X → Bool) (xs : List X) → list_any test xs ≡ true → (x : X) × Contains xs x × (test x ≡ true)
any_of test [] is = cc
any_of test (y ∷ xs) is = ⊎_elim
    (λ here. (y, Contains-first y xs, here))
    (λ rest. let (x, x_in, x_is) = any_of test xs rest in (x, Contains-later y xs x x_in, x_is))
    (or_cases (test y) (list_any test xs) is)

-- ---- one past of each part

record Pick (calls : List Operation) : Type 0 where
  keys : Keys
  kept : KeptPast
  past : Choice
  is : IsPast keys (map keyed calls) kept past
  own : IsOwn keys calls kept

abbrev IsPickOf : (calls : List Operation) → Part → Pick calls → Type 0
IsPickOf calls part pick = (part.keys ≡ pick.keys) × Contains part.pasts pick.past

-- the choice of all of them
abbrev choice_of : (calls : List Operation) → List (Pick calls) → Choice
choice_of calls [] = at_first (λ key. None)
choice_of calls (pick ∷ picks) = instead pick.keys pick.past (choice_of calls picks)

-- a past of a part as it is kept
pick_of : (calls : List Operation) (kept : KeptPart) (part : Part) (k : KeptPast) → IsKeptAs calls kept part → Contains kept.pasts k
    → (pick : Pick calls) × IsPickOf calls part pick × (pick.keys ≡ kept.keys) × (pick.kept ≡ k)
pick_of calls kept part k kept_as k_in =
    let (past, past_in, is) = zip_there (IsPast kept.keys (map keyed calls)) kept.pasts part.pasts k kept_as.pasts k_in in (
      record { keys = kept.keys; kept = k; past = past; is = is; own = All-contains (IsOwn kept.keys calls) kept.pasts k kept_as.own k_in },
      (kept_as.keys, past_in),
      refl,
      refl,
    )

some_past : (pasts : List KeptPast) → pasts ≢ [] → (k : KeptPast) × Contains pasts k
some_past [] some = absurd (some refl)
some_past (k ∷ pasts) some = (k, Contains-first k pasts)

picks_of : (calls : List Operation) (kept : List KeptPart) (parts : List Part) → AllZip (IsKeptAs calls) kept parts → All HasPasts kept
    → (picks : List (Pick calls)) × AllZip (IsPickOf calls) parts picks
picks_of calls [] [] zip some = ([], tt)
picks_of calls [] (part ∷ parts) zip some = absurd zip
picks_of calls (k ∷ kept) [] zip some = absurd zip
picks_of calls (k ∷ kept) (part ∷ parts) zip some =
    let (past, past_in) = some_past k.pasts (All-head HasPasts k kept some) in
    let (pick, is, keys_are, kept_is) = pick_of calls k part past zip.0 past_in in
    let (picks, are) = picks_of calls kept parts zip.1 (All-tail HasPasts k kept some) in
    (pick ∷ picks, (is, are))

module _ (calls : List Operation) where
  abbrev AreApartPicks : Pick calls → Pick calls → Type 0
  AreApartPicks p q = AreApart p.keys q.keys

  apart_picks : (parts : List Part) (picks : List (Pick calls)) → AllZip (IsPickOf calls) parts picks
      → AllPairs (λ part other. AreApart part.keys other.keys) parts → AllPairs AreApartPicks picks
  apart_picks [] [] zip apart = AllPairs-nil AreApartPicks
  apart_picks [] (p ∷ picks) zip apart = absurd zip
  apart_picks (part ∷ parts) [] zip apart = absurd zip
  apart_picks (part ∷ parts) (p ∷ picks) zip apart =
      AllPairs-cons AreApartPicks p picks
      (All-from_contains (AreApartPicks p) picks (λ q q_in.
      let (other, other_in, is) = back parts picks zip.1 q q_in in
      subst (λ (keys : Keys). AreApart keys q.keys) zip.0.0 (subst (λ (keys : Keys). AreApart part.keys keys) is.0
      (All-contains (λ other. AreApart part.keys other.keys) parts other
      (AllPairs-head (λ part other. AreApart part.keys other.keys) part parts apart) other_in))))
      (apart_picks parts picks zip.1 (AllPairs-tail (λ part other. AreApart part.keys other.keys) part parts apart))
    where
      back : (xs : List Part) (ys : List (Pick calls)) → AllZip (IsPickOf calls) xs ys → (q : Pick calls) → Contains ys q
          → (x : Part) × Contains xs x × IsPickOf calls x q
      back [] [] each q q_in = absurd (Contains-nil q q_in)
      back [] (y ∷ ys) each q q_in = absurd each
      back (x ∷ xs) [] each q q_in = absurd each
      back (x ∷ xs) (y ∷ ys) each q q_in = ⊎_elim
          (λ same. (x, Contains-first x xs, subst (IsPickOf calls x) same each.0))
          (λ later. let (z, z_in, is) = back xs ys each.1 q later in (z, Contains-later x xs z z_in, is))
          (Contains-cases y ys q q_in)

  -- the choice is each of them at its keys
  picks_at : (picks : List (Pick calls)) → AllPairs AreApartPicks picks → (p : Pick calls) → Contains picks p
      → IsAt p.keys p.past (choice_of calls picks)
  picks_at [] apart p p_in = absurd (Contains-nil p p_in)
  picks_at (q ∷ picks) apart p p_in = ⊎_elim
      (λ same. subst (λ (z : Pick calls). IsAt z.keys z.past (choice_of calls (q ∷ picks))) same (instead_here q.keys q.past (choice_of calls picks)))
      (λ later. at_next p.keys p.past (choice_of calls picks) (choice_of calls (q ∷ picks))
      (picks_at picks (AllPairs-tail AreApartPicks q picks apart) p later)
      (instead_there q.keys p.keys q.past (choice_of calls picks)
      (All-contains (AreApartPicks q) picks p (AllPairs-head AreApartPicks q picks apart) later)))
      (Contains-cases q picks p p_in)

  chosen_all : (parts : List Part) (picks : List (Pick calls)) (w : Choice) → AllZip (IsPickOf calls) parts picks
      → ((p : Pick calls) → Contains picks p → IsAt p.keys p.past w) → choices_of parts w
  chosen_all [] [] w zip at = All-nil (λ part. IsOneOf part.keys part.pasts w)
  chosen_all [] (p ∷ picks) w zip at = absurd zip
  chosen_all (part ∷ parts) [] w zip at = absurd zip
  chosen_all (part ∷ parts) (p ∷ picks) w zip at =
      All-cons (λ part. IsOneOf part.keys part.pasts w) part parts
      (p.past, zip.0.1, subst (λ (keys : Keys). IsAt keys p.past w) (sym zip.0.0) (at p (Contains-first p picks)))
      (chosen_all parts picks w zip.1 (λ q q_in. at q (Contains-later p picks q q_in)))

-- ---- the calls that were taken

-- all that is known of the picks: the choice of them, and that each key is one's
record ArePicks (place : ℕ) (calls : List Operation) (picks : List (Pick calls)) (w : Choice) : Type 0 where
  are : AreCallsBefore place calls
  apart : AllPairs (AreApartPicks calls) picks
  at : (p : Pick calls) → Contains picks p → IsAt p.keys p.past w
  every : (key : ℕ) → (p : Pick calls) × Contains picks p × (p.keys key ≡ true)

module _ (place : ℕ) (calls : List Operation) (picks : List (Pick calls)) (w : Choice) (picked : ArePicks place calls picks w) where
  abbrev is_left : ℕ → Bool
  is_left inv = list_any (λ p. list_any (λ o. o.inv == inv) p.kept.left) picks

  abbrev has_found : ℕ → Bool
  has_found inv = list_any (λ p. list_any (λ f. f.inv == inv) p.kept.found) picks

  abbrev is_taken : Operation → Bool
  is_taken o = not (is_left o.inv) && (events.is_completed o || has_found o.inv)

  abbrev few : List Operation
  few = filter is_taken calls

  rising : AllPairs (λ a b. a.inv < b.inv) calls
  rising = picked.are.rising

  keyed_distinct : AreDistinct (map keyed calls)
  keyed_distinct = picked.are.grown.alone

  same_operation : (a b : Operation) → Contains calls a → Contains calls b → a.inv ≡ b.inv → a ≡ b
  same_operation a b a_in b_in same =
      one calls rising a_in b_in
    where
      one : (xs : List Operation) → AllPairs (λ a b. a.inv < b.inv) xs → Contains xs a → Contains xs b → a ≡ b
      one [] rise in_a in_b = absurd (Contains-nil a in_a)
      one (x ∷ xs) rise in_a in_b = ⊎_elim
          (λ a_is. ⊎_elim
          (λ b_is. sym a_is ∙ b_is)
          (λ b_later.
          let less : x.inv < b.inv = All-contains (λ y. x.inv < y.inv) xs b (AllPairs-head (λ a b. a.inv < b.inv) x xs rise) b_later in
          let here : x.inv ≡ a.inv = ap (λ (z : Operation). z.inv) a_is in
          absurd (omega (arith, less, here, same)))
          (Contains-cases x xs b in_b))
          (λ a_later. ⊎_elim
          (λ b_is.
          let less : x.inv < a.inv = All-contains (λ y. x.inv < y.inv) xs a (AllPairs-head (λ a b. a.inv < b.inv) x xs rise) a_later in
          let here : x.inv ≡ b.inv = ap (λ (z : Operation). z.inv) b_is in
          absurd (omega (arith, less, here, same)))
          (λ b_later. one xs (AllPairs-tail (λ a b. a.inv < b.inv) x xs rise) a_later b_later)
          (Contains-cases x xs b in_b))
          (Contains-cases x xs a in_a)

  of_few : (o : Operation) → Contains few o → Contains calls o × (is_left o.inv ≡ false) × ((events.is_completed o || has_found o.inv) ≡ true)
  of_few o o_in =
      let (old, taken) = Contains-from_filter is_taken calls o o_in in
      let both = and_parts (not (is_left o.inv)) (events.is_completed o || has_found o.inv) taken in (old, not-true (is_left o.inv) both.0, both.1)

  -- a call of them is left in no pick
  none_left : (o : Operation) → Contains few o → (p : Pick calls) → Contains picks p → (q : Operation) → Contains p.kept.left q → q.inv ≡ o.inv → ⊥
  none_left o o_in p p_in q q_in same =
      let never : is_left o.inv ≡ false = (of_few o o_in).1 in
      let some : is_left o.inv ≡ true =
      any_from (λ p. list_any (λ o2. o2.inv == o.inv) p.kept.left) picks p p_in
      (any_from (λ o2. o2.inv == o.inv) p.kept.left q q_in (eq-eqb q.inv o.inv same)) in cc

  -- a call that is left in no pick is among them if it was answered, or something that it found is
  -- kept
  in_few : (o : Operation) → Contains calls o
      → ((p : Pick calls) → Contains picks p → (q : Operation) → Contains p.kept.left q → q.inv ≡ o.inv → ⊥)
      → (events.is_completed o || has_found o.inv) ≡ true → Contains few o
  in_few o o_in none some =
      Contains-filter is_taken calls o o_in
      (and_from (not (is_left o.inv)) (events.is_completed o || has_found o.inv)
      (not_from_false (is_left o.inv) (false_from_ne_true (is_left o.inv) (λ left.
      let (p, p_in, in_p) = any_of (λ p. list_any (λ o2. o2.inv == o.inv) p.kept.left) picks left in
      let (q, q_in, q_is) = any_of (λ o2. o2.inv == o.inv) p.kept.left in_p in none p p_in q q_in (eqb-true q.inv o.inv q_is)))) some)

  found_from : (inv : ℕ) (p : Pick calls) (f : FoundAt) → Contains picks p → Contains p.kept.found f → f.inv ≡ inv → has_found inv ≡ true
  found_from inv p f p_in f_in is =
      any_from (λ p. list_any (λ g. g.inv == inv) p.kept.found) picks p p_in
      (any_from (λ g. g.inv == inv) p.kept.found f f_in (eq-eqb f.inv inv is))

  -- a pending call of them took effect at its key, and what it found there is kept in a pick
  record IsFoundBy (o : Operation) : Type 0 where
    pick : Pick calls
    pick_in : Contains picks pick
    f : FoundAt
    f_in : Contains pick.kept.found f
    own : f.inv ≡ o.inv
    changes : may_change o.call ≡ true
    here : pick.keys f.key ≡ true
    taken : w.taken o.inv f.key ≡ true
    only : (key : ℕ) → concerns_key o.call key ≡ true → key ≡ f.key

  found_in_pick : (o : Operation) → Contains calls o → has_found o.inv ≡ true → IsFoundBy o
  found_in_pick o o_in found =
      let (p, p_in, in_p) = any_of (λ p. list_any (λ g. g.inv == o.inv) p.kept.found) picks found in
      let (f, f_in, f_eq) = any_of (λ g. g.inv == o.inv) p.kept.found in_p in
      let f_is : f.inv ≡ o.inv = eqb-true f.inv o.inv f_eq in
      let (a, a_in, a_is, open_call, changes) = p.own.of_calls.found f f_in in
      let one : a ≡ o = same_operation a o a_in o_in (a_is ∙ f_is) in
      let o_changes : may_change o.call ≡ true = subst (λ (z : Operation). may_change z.call ≡ true) one changes in
      let right = p.is.found.right f f_in in
      let (b, b_in, b_is, concerned) = p.is.known f.inv f.key right.0 right.1 in
      let same : b ≡ keyed o = same_call (map keyed calls) b (keyed o) keyed_distinct b_in (Contains-map keyed calls o o_in) (b_is ∙ f_is) in
      let o_concerned : concerns_key o.call f.key ≡ true = subst (λ (z : KeyedCall). z.concerns f.key ≡ true) same concerned in
      record {
        pick = p;
        pick_in = p_in;
        f = f;
        f_in = f_in;
        own = f_is;
        changes = o_changes;
        here = right.0;
        taken = (picked.at p p_in).taken o.inv f.key right.0 ∙ subst (λ (n : ℕ). p.past.taken n f.key ≡ true) f_is right.1;
        only = λ key is. sym (own_key_of o.call key o_changes is) ∙ own_key_of o.call f.key o_changes o_concerned;
      }

  known : (inv key : ℕ) → w.taken inv key ≡ true → (a : KeyedCall) × Contains (map keyed calls) a × (a.inv ≡ inv) × (a.concerns key ≡ true)
  known inv key taken =
      let (p, p_in, here) = picked.every key in
      p.is.known inv key here (sym ((picked.at p p_in).taken inv key here) ∙ taken)

  open_few : (o : Operation) → Contains few o → events.is_completed o ≡ false → IsFoundBy o
  open_few o o_in open_call =
      let parts = of_few o o_in in
      let found : has_found o.inv ≡ true =
      ⊎_elim (λ done. let never : events.is_completed o ≡ false = open_call in cc) (λ is. is)
      (or_cases (events.is_completed o) (has_found o.inv) parts.2) in
      found_in_pick o parts.0 found

  same_done : (o : Operation) → is_completed (keyed o) ≡ events.is_completed o
  same_done o = by_response o.response
    where
      by_response : (response : Option Response) → is_some (place_of response) ≡ is_some response
      by_response None = refl
      by_response (Some response) = refl

  taken_few : (a : KeyedCall) (key : ℕ) → Contains (map keyed calls) a → w.taken a.inv key ≡ true → Contains (map keyed few) a
  taken_few a key a_in taken =
      let (o, o_in, o_is) = Contains-from_map keyed calls a a_in in
      let o_taken : w.taken o.inv key ≡ true = subst (λ (z : KeyedCall). w.taken z.inv key ≡ true) (sym o_is) taken in
      subst (Contains (map keyed few)) o_is (Contains-map keyed few o (in_few o o_in (none o o_in o_taken) (some o o_in o_taken)))
    where
      none : (o : Operation) → Contains calls o → w.taken o.inv key ≡ true → (p : Pick calls) → Contains picks p → (q : Operation)
          → Contains p.kept.left q → q.inv ≡ o.inv → ⊥
      none o o_in o_taken p p_in q q_in same =
          let q_old : Contains calls q = All-contains (Contains calls) p.kept.left q p.own.of_calls.left q_in in
          let one : q ≡ o = same_operation q o q_old o_in same in
          let (b, b_in, b_is, concerned) = known o.inv key o_taken in
          let is_o : b ≡ keyed o = same_call (map keyed calls) b (keyed o) keyed_distinct b_in (Contains-map keyed calls o o_in) b_is in
          let o_concerned : concerns_key o.call key ≡ true = subst (λ (z : KeyedCall). z.concerns key ≡ true) is_o concerned in
          let here : p.keys key ≡ true = All-contains (λ z. (k : ℕ) → concerns_key z.call k ≡ true → p.keys k ≡ true) p.kept.left q p.is.within q_in key
          (subst (λ (z : Operation). concerns_key z.call key ≡ true) (sym one) o_concerned) in
          let untaken : p.past.taken o.inv key ≡ false = subst (λ (n : ℕ). p.past.taken n key ≡ false) same (p.is.untaken q key q_in here) in
          let also : w.taken o.inv key ≡ false = (picked.at p p_in).taken o.inv key here ∙ untaken in cc

      some : (o : Operation) → Contains calls o → w.taken o.inv key ≡ true → (events.is_completed o || has_found o.inv) ≡ true
      some o o_in o_taken = by_end (bool_cases (events.is_completed o))
        where
          by_end : (events.is_completed o ≡ true) ⊎ (events.is_completed o ≡ false) → (events.is_completed o || has_found o.inv) ≡ true
          by_end (inl done) = or_left (events.is_completed o) (has_found o.inv) done
          by_end (inr open_call) =
              let (p, p_in, here) = picked.every key in
              let (f, f_in, f_is, f_key) = p.is.found.whole (keyed o) key (Contains-map keyed calls o o_in) (same_done o ∙ open_call) here
              (sym ((picked.at p p_in).taken o.inv key here) ∙ o_taken) in
              or_right (events.is_completed o) (has_found o.inv) (found_from o.inv p f p_in f_in f_is)

  -- nothing is left of them
  nothing : (o : Operation) → Contains few o → (key : ℕ) → IsNoEffect ((rest_of w (keyed o)).effect key)
  nothing o o_in key = by_taken (bool_cases (w.taken o.inv key))
    where
      plain : w.taken o.inv key ≡ false → (concerns_key o.call key ≡ true) ⊎ (concerns_key o.call key ≡ false)
          → (is_refused o.response ≡ true) ⊎ (is_refused o.response ≡ false) → (events.is_completed o ≡ true) ⊎ (events.is_completed o ≡ false)
          → IsNoEffect (effect_at o.call o.response key)
      plain untaken (inr out) refused end = (formed o).elsewhere key out
      plain untaken (inl concerned) (inl refused) end = (formed o).refusal refused key
      plain untaken (inl concerned) (inr accepted) (inr open_call) =
          let by = open_few o o_in open_call in
          let taken : w.taken o.inv key ≡ true = subst (λ (k : ℕ). w.taken o.inv k ≡ true) (sym (by.only key concerned)) by.taken in cc
      plain untaken (inl concerned) (inr accepted) (inl done) =
          let (p, p_in, here) = picked.every key in
          let past_untaken : p.past.taken o.inv key ≡ false = sym ((picked.at p p_in).taken o.inv key here) ∙ untaken in
          let left : (not (p.past.taken o.inv key) && concerns_key o.call key) ≡ true = rw (past_untaken, concerned) refl in
          ⊎_elim
          (λ kept. absurd (none_left o o_in p p_in kept.0 kept.1 kept.2.inv))
          (λ never.
          let pending : is_completed (keyed o) ≡ false = never.0 in
          let completed : is_completed (keyed o) ≡ true = same_done o ∙ done in cc)
          (p.is.whole (keyed o) (Contains-map keyed calls o (of_few o o_in).0) accepted (key, here, left))

      by_taken : (w.taken o.inv key ≡ true) ⊎ (w.taken o.inv key ≡ false)
          → IsNoEffect (cond (w.taken o.inv key) no_effect (effect_at o.call o.response key))
      by_taken (inl taken) = rw taken none_none
      by_taken (inr untaken) =
          let rest = plain untaken (bool_cases (concerns_key o.call key)) (bool_cases (is_refused o.response)) (bool_cases (events.is_completed o)) in
          rw untaken rest

  agrees : (o : Operation) → Contains calls o → Agrees w (keyed o)
  agrees o o_in = record {
    accepted = λ key taken.
        let (p, p_in, here) = picked.every key in
        (own p).accepted key here (sym ((picked.at p p_in).taken o.inv key here) ∙ taken);
    fits = λ key taken.
        let (p, p_in, here) = picked.every key in
        let past_taken : p.past.taken o.inv key ≡ true = sym ((picked.at p p_in).taken o.inv key here) ∙ taken in
        subst (λ (v : Option ℕ). (effect_at o.call o.response key).fits v ≡ true) (sym ((picked.at p p_in).found o.inv key here past_taken))
        ((own p).fits key here past_taken);
  }
    where
      own : (p : Pick calls) → AgreesAt p.keys p.past (keyed o)
      own p = All-contains (AgreesAt p.keys p.past) (map keyed calls) (keyed o) p.is.agrees (Contains-map keyed calls o o_in)

  all_taken : AreAllTaken (map keyed calls) (map keyed few) w
  all_taken = record {
    are_some = record {
      from = λ a a_in.
          let (o, o_in, o_is) = Contains-from_map keyed few a a_in in
          subst (Contains (map keyed calls)) o_is (Contains-map keyed calls o (of_few o o_in).0);
      taken = taken_few;
      distinct = AllPairs-map (λ (x y : KeyedCall). x.inv ≢ y.inv) keyed few
          (AllPairs-weaker (λ (a b : Operation). a.inv < b.inv) (λ (a b : Operation). a.inv ≢ b.inv) few
          (λ a b a_in b_in less same. omega (arith, less, same)) few_rising);
    };
    rising = AllPairs-map (λ (x y : KeyedCall). x.inv < y.inv) keyed few few_rising;
    agree = All-from_contains (Agrees w) (map keyed few) (λ a a_in.
        let (o, o_in, o_is) = Contains-from_map keyed few a a_in in subst (Agrees w) o_is (agrees o (of_few o o_in).0));
    none = λ a key a_in.
        let (o, o_in, o_is) = Contains-from_map keyed few a a_in in
        subst (λ (z : KeyedCall). IsNoEffect ((rest_of w z).effect key)) o_is (nothing o o_in key);
    known = known;
  }
    where
      few_rising : AllPairs (λ a b. a.inv < b.inv) few
      few_rising = AllPairs-filter (λ (a b : Operation). a.inv < b.inv) is_taken calls rising

  pending : (a : KeyedCall) → Contains (map keyed calls) a → is_completed a ≡ false → IsOpen a
  pending a a_in open_call =
      let (o, o_in, o_is) = Contains-from_map keyed calls a a_in in
      subst IsOpen o_is (by_response o (sym (same_done o) ∙ subst (λ (z : KeyedCall). is_completed z ≡ false) (sym o_is) open_call))
    where
      is_none : (response : Option Response) → is_some response ≡ false → response ≡ None
      is_none None none = refl
      is_none (Some response) none = cc

      by_response : (o : Operation) → events.is_completed o ≡ false → IsOpen (keyed o)
      by_response o none =
          let r_is : o.response ≡ None = is_none o.response none in
          subst (λ (r : Option Response). IsOpen (keyed (record { call = o.call; inv = o.inv; response = r }))) (sym r_is)
          (record { accepted = refl; fits = λ key value. open_fits o.call key value })

-- ---- from an order that the keys see to one of the calls

after_left : (start : Contents) (os : List Operation) → IsRising start → (key : ℕ)
    → value_at (after_calls start os) key ≡ left_by key (value_at start key) (map keyed os)
after_left start [] rises key = refl
after_left start (o ∷ os) rises key =
    after_left (after_call start o.call o.response) os (rising_kept start o rises) key
    ∙ ap (λ (v : Option ℕ). left_by key v (map keyed os)) ((step_of start o rises).leaves key)

unkeyed : (some : List Operation) (xs : List KeyedCall) → ((a : KeyedCall) → Contains xs a → Contains (map keyed some) a)
    → (os : List Operation) × (map keyed os ≡ xs) × ((o : Operation) → Contains os o → Contains some o)
unkeyed some [] known = ([], refl, λ o o_in. absurd (Contains-nil o o_in))
unkeyed some (x ∷ xs) known =
    let (o, o_in, o_is) = Contains-from_map keyed some x (known x (Contains-first x xs)) in
    let (os, os_are, among) = unkeyed some xs (λ a a_in. known a (Contains-later x xs a a_in)) in (
      o ∷ os,
      ap (λ (z : KeyedCall). z ∷ map keyed os) o_is ∙ ap (λ (zs : List KeyedCall). x ∷ zs) os_are,
      λ p p_in. ⊎_elim (λ same. subst (Contains some) same o_in) (λ later. among p later) (Contains-cases o os p p_in),
    )

module _ (start : Contents) (rising_start : IsRising start) (place : ℕ) (calls : List Operation) (head : Pick calls) (picks : List (Pick calls))
    (w : Choice) (picked : ArePicks place calls (head ∷ picks) w)
    (lead : Lead (value_at start) (map keyed (few place calls (head ∷ picks) w picked)) w) where
  abbrev taken_calls : List Operation
  taken_calls = few place calls (head ∷ picks) w picked

  reached_by : (os : List Operation) → map keyed os ≡ lead.order → ((o : Operation) → Contains os o → Contains taken_calls o)
      → IsReached start calls head.keys head.kept
  reached_by os os_are among = record {
    order = os;
    known = λ o o_in. (of_few place calls (head ∷ picks) w picked o (among o o_in)).0;
    distinct = AllPairs-from_map (λ (x y : KeyedCall). x.inv ≢ y.inv) keyed os
        (subst (λ (xs : List KeyedCall). AllPairs (λ (x y : KeyedCall). x.inv ≢ y.inv) xs) (sym os_are) lead.is_order.distinct);
    precedence = AllPairs-weaker (λ (a b : Operation). precedes (keyed b) (keyed a) ≡ false) (λ (a b : Operation). events.precedes b a ≡ false) os
        (λ a b a_in b_in none. sym (same_precedes b a) ∙ none)
        (AllPairs-from_map (λ (x y : KeyedCall). precedes y x ≡ false) keyed os
        (subst (λ (xs : List KeyedCall). AllPairs (λ (x y : KeyedCall). precedes y x ≡ false) xs) (sym os_are) lead.is_order.precedence));
    legal = fits_legal os start rising_start
        (All-from_contains (λ o. HasForm o.call o.response) os (λ o o_in.
        All-contains (λ o. HasForm o.call o.response) calls o picked.are.forms (of_few place calls (head ∷ picks) w picked o (among o o_in)).0))
        (λ key. subst (λ (xs : List KeyedCall). FitInTurn key (value_at start key) xs) (sym os_are) (lead.is_order.fit key));
    leaves = λ key here.
        after_left start os rising_start key
        ∙ ap (λ (xs : List KeyedCall). left_by key (value_at start key) xs) os_are
        ∙ (lead.leaves key ∙ ((picked.at head (Contains-first head picks)).holds key here ∙ sym (head.is.alike.same key here)));
    taken = λ o o_in left.
        none_left place calls (head ∷ picks) w picked o (among o o_in) head (Contains-first head picks) o left refl;
    whole = λ o o_in done concerned. by_left o o_in done concerned (bool_cases (is_left place calls (head ∷ picks) w picked o.inv));
    found = found;
    pending = λ o o_in open_call concerned.
        let (key, here, is) = concerned in
        let by = open_few place calls (head ∷ picks) w picked o (among o o_in) (ap is_some open_call) in
        ⊎_elim
        (λ same. (by.f, subst (λ (p : Pick calls). Contains p.kept.found by.f) (sym same) by.f_in, by.own))
        (λ later.
        let apart : AreApart head.keys by.pick.keys = All-contains (AreApartPicks calls head) picks by.pick
        (AllPairs-head (AreApartPicks calls) head picks picked.apart) later in
        let there : by.pick.keys key ≡ true = subst (λ (k : ℕ). by.pick.keys k ≡ true) (sym (by.only key is)) by.here in
        let never : by.pick.keys key ≡ false = apart key here in cc)
        (Contains-cases head picks by.pick by.pick_in);
  }
    where
      has_all : (o : Operation) → Contains taken_calls o → Contains os o
      has_all o o_in =
          let in_order : Contains (map keyed os) (keyed o) = subst (λ (xs : List KeyedCall). Contains xs (keyed o)) (sym os_are)
          (lead.all (keyed o) (Contains-map keyed taken_calls o o_in)) in
          let (p, p_in, p_is) = Contains-from_map keyed os (keyed o) in_order in
          let one : p ≡ o = same_operation place calls (head ∷ picks) w picked p o
          (of_few place calls (head ∷ picks) w picked p (among p p_in)).0 (of_few place calls (head ∷ picks) w picked o o_in).0
          (ap (λ (z : KeyedCall). z.inv) p_is) in
          subst (Contains os) one p_in

      by_left : (o : Operation) → Contains calls o → IsTrue (events.is_completed o) → HasSomeKeyIn head.keys o
          → (is_left place calls (head ∷ picks) w picked o.inv ≡ true) ⊎ (is_left place calls (head ∷ picks) w picked o.inv ≡ false)
          → Contains head.kept.left o ⊎ Contains os o
      by_left o o_in done concerned (inr none) =
          inr (has_all o (Contains-filter (is_taken place calls (head ∷ picks) w picked) calls o o_in
          (and_from (not (is_left place calls (head ∷ picks) w picked o.inv))
          (events.is_completed o || has_found place calls (head ∷ picks) w picked o.inv)
          (not_from_false (is_left place calls (head ∷ picks) w picked o.inv) none)
          (or_left (events.is_completed o) (has_found place calls (head ∷ picks) w picked o.inv) done))))
      by_left o o_in done concerned (inl left) =
          let (p, p_in, in_p) = any_of (λ p. list_any (λ o2. o2.inv == o.inv) p.kept.left) (head ∷ picks) left in
          let (q, q_in, q_is) = any_of (λ o2. o2.inv == o.inv) p.kept.left in_p in
          let q_old : Contains calls q = All-contains (Contains calls) p.kept.left q p.own.of_calls.left q_in in
          let one : q ≡ o = same_operation place calls (head ∷ picks) w picked q o q_old o_in (eqb-true q.inv o.inv q_is) in
          let o_left : Contains p.kept.left o = subst (Contains p.kept.left) one q_in in
          let (key, here, is) = concerned in
          ⊎_elim
          (λ same. inl (subst (λ (z : Pick calls). Contains z.kept.left o) (sym same) o_left))
          (λ later.
          let apart : AreApart head.keys p.keys = All-contains (AreApartPicks calls head) picks p
          (AllPairs-head (AreApartPicks calls) head picks picked.apart) later in
          let there : p.keys key ≡ true =
          All-contains (λ z. (k : ℕ) → concerns_key z.call k ≡ true → p.keys k ≡ true) p.kept.left o p.is.within o_left key is in
          let never : p.keys key ≡ false = apart key here in cc)
          (Contains-cases head picks p p_in)

      found : (f : FoundAt) → Contains head.kept.found f → IsFoundIn start os f
      found f f_in =
          let right = head.is.found.right f f_in in
          let at = picked.at head (Contains-first head picks) in
          let (a, a_in, a_is, open_call, changes) = head.own.of_calls.found f f_in in
          let a_taken : w.taken a.inv f.key ≡ true =
          at.taken a.inv f.key right.0 ∙ subst (λ (n : ℕ). head.past.taken n f.key ≡ true) (sym a_is) right.1 in
          let in_keyed : Contains (map keyed taken_calls) (keyed a) =
          taken_few place calls (head ∷ picks) w picked (keyed a) f.key (Contains-map keyed calls a a_in) a_taken in
          let (b, b_in, b_is) = Contains-from_map keyed taken_calls (keyed a) in_keyed in
          let one : b ≡ a = same_operation place calls (head ∷ picks) w picked b a (of_few place calls (head ∷ picks) w picked b b_in).0 a_in
          (ap (λ (z : KeyedCall). z.inv) b_is) in
          let (front, back, parts) = Contains-split os a (has_all a (subst (Contains taken_calls) one b_in)) in
          let order_parts : lead.order ≡ map keyed front ++ keyed a ∷ map keyed back =
          sym os_are ∙ (ap (λ (xs : List Operation). map keyed xs) parts ∙ map-append keyed front (a ∷ back)) in
          let w_found : left_by f.key (value_at start f.key) (map keyed front) ≡ w.found a.inv f.key =
          lead.found (map keyed front) (map keyed back) (keyed a) f.key order_parts (ap (λ (r : Option Response). is_some (place_of r)) open_call) a_taken in
          record {
            front = front;
            call = a;
            back = back;
            parts = parts;
            own = a_is;
            pending = open_call;
            value = after_left start front rising_start f.key ∙ (w_found
                ∙ (at.found a.inv f.key right.0 (subst (λ (n : ℕ). head.past.taken n f.key ≡ true) (sym a_is) right.1)
                ∙ (ap (λ (n : ℕ). head.past.found n f.key) a_is ∙ right.2)));
          }

-- ---- the law

every_key : (calls : List Operation) (parts : List Part) (picks : List (Pick calls)) → AllZip (IsPickOf calls) parts picks → (part : Part)
    → Contains parts part → (key : ℕ) → part.keys key ≡ true → (p : Pick calls) × Contains picks p × (p.keys key ≡ true)
every_key calls parts picks zip part part_in key here =
    let (p, p_in, is) = zip_there (IsPickOf calls) parts picks part zip part_in in
    (p, p_in, subst (λ (keys : Keys). keys key ≡ true) is.0 here)

pub kept_pasts_are_reached : KeptPastsAreReached
kept_pasts_are_reached start place calls part rest rising are some =
    All-from_contains (IsReached start calls part.keys) part.pasts (λ k k_in. reached k k_in)
  where
    first : IsKeptFirst start place calls part rest
    first = first_of start place calls part rest are

    own_part : Part
    own_part = record { keys = part.keys; pasts = first.pasts }

    reached : (k : KeptPast) → Contains part.pasts k → IsReached start calls part.keys k
    reached k k_in =
        let (pick, is, keys_are, kept_is) = pick_of calls part own_part k
        (record { keys = refl; pasts = first.are_pasts; own = first.own }) k_in in
        let (picks, zip) = picks_of calls rest first.others first.are_others some in
        subst (λ (keys : Keys). IsReached start calls keys k) keys_are
        (subst (λ (past : KeptPast). IsReached start calls pick.keys past) kept_is (by_picks pick picks (is, zip)))
      where
        by_picks : (pick : Pick calls) (picks : List (Pick calls)) → AllZip (IsPickOf calls) (own_part ∷ first.others) (pick ∷ picks)
            → IsReached start calls pick.keys pick.kept
        by_picks pick picks zip =
            let apart : AllPairs (AreApartPicks calls) (pick ∷ picks) =
            apart_picks calls (own_part ∷ first.others) (pick ∷ picks) zip first.stand.shared.apart in
            let w = choice_of calls (pick ∷ picks) in
            let at : (p : Pick calls) → Contains (pick ∷ picks) p → IsAt p.keys p.past w = picks_at calls (pick ∷ picks) apart in
            let picked : ArePicks place calls (pick ∷ picks) w = record {
              are = first.are_calls;
              apart = apart;
              at = at;
              every = λ key.
                  let (one, one_in, here) = first.stand.shared.every key in
                  every_key calls (own_part ∷ first.others) (pick ∷ picks) zip one one_in key here;
            } in
            let lead : Lead (value_at start) (map keyed (few place calls (pick ∷ picks) w picked)) w =
            choices_are_reached (value_at start) place (map keyed calls) (map keyed (few place calls (pick ∷ picks) w picked))
            (own_part ∷ first.others) w first.are_calls.grown (pending place calls (pick ∷ picks) w picked) first.stand
            (chosen_all calls (own_part ∷ first.others) (pick ∷ picks) w zip at) (all_taken place calls (pick ∷ picks) w picked) in
            let (os, os_are, among) = unkeyed (few place calls (pick ∷ picks) w picked) lead.order lead.is_order.known in
            reached_by start rising place calls pick picks w picked lead os os_are among
