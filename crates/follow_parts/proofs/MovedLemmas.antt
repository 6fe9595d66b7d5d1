-- The pasts of a part at a moment. Those that are alive may replace all (`alive_stand`), also in two parts (`two_parts`). Dead ones may be
-- dropped (`front_goes`). If no key is busy, all keys are at rest (`all_rest`).
use Rattle.follow_parts.proofs.Common.{◌≡◌, ℕ, ◌<◌, ◌≤◌, ◌==◌, Bool, true, false, cond, not, ◌&&◌, ◌||◌, List, [], ◌∷◌, ◌++◌, map, Option, None, inl, inr}
use Rattle.follow_parts.proofs.Common.{append_assoc, refl, sym, ap, ◌∙◌, subst, ⊎_elim, arith, ◌⊎◌, nat_le, All, AllPairs, Any, Contains, AllZip, false≢true}
use Rattle.follow_parts.proofs.Common.{and_parts, leb-true, cases_lt, none-some, All-head, All-tail, All-contains, Contains-map, Contains-from_map}
use Rattle.follow_parts.proofs.Common.{All-from_contains, AllPairs-nil, Contains-nil, Contains-first, Contains-later, Contains-cases, filter_all, Call, Get}
use Rattle.follow_parts.proofs.Common.{Insert, Remove, Scan, Replace, Operation, low_key, high_key, NonePrecedesItself, Contents, value_at, same_pairs}
use Rattle.follow_parts.proofs.Common.{concerns_key, keyed, Keys, HasKeysIn, pairs_at, KeptPast, FoundAt, IsPast, both_keys, FallsApart, KeptPart, AreKept}
use Rattle.follow_parts.proofs.Common.{at_rest, IsWithinKeys, ReadsBeganAfter, zip_forth, kept_pasts_are_within, pasts_in_any_order_are_kept, any_to}
use Rattle.follow_parts.proofs.Common.{dead_pasts_are_lost, kept_parts_fall_apart, AreShaped, found_at, kept_of, Found, Past, covered, IsPastShaped, IsDead}
use Rattle.follow_parts.proofs.Common.{IsBusyFor, IsOfKey, IsOnly, resting, outside, AreBegunAfter, Range, OpenRead, pairs_rise, same_keys, values_at_some}
use Rattle.follow_parts.proofs.Common.{AreReadsOf, AreThoseAlive}
use Rattle.std.proofs.lemmas.Bool.{eqb-true}
use Rattle.follow_laws.specs.Operations.{HasSomeKeyIn}
use Rattle.follow_laws.proofs.KeptPartLemmas.{IsKeptFirst, first_of}

true_or_false : (b : Bool) → (b ≡ true) ⊎ (b ≡ false)
true_or_false true = inl refl
true_or_false false = inr refl

-- ---- when reads began

between_keys : (low high key : ℕ) → (nat_le low key && nat_le key high) ≡ true → (low ≤ key) × (key ≤ high)
between_keys low high key is =
    let both = and_parts (nat_le low key) (nat_le key high) is in (leb-true low key both.0, leb-true key high both.1)

own_key : (own key : ℕ) → (own == key) ≡ true → (own ≤ key) × (key ≤ own)
own_key own key is = let same : own ≡ key = eqb-true own key is in (omega arith, omega arith)

concerned_between : (call : Call) (key : ℕ) → concerns_key call key ≡ true → (low_key call ≤ key) × (key ≤ high_key call)
concerned_between (Get own) key is = own_key own key is
concerned_between (Insert own value) key is = own_key own key is
concerned_between (Remove own) key is = own_key own key is
concerned_between (Scan low high) key is = between_keys low high key is
concerned_between (Replace own expected value) key is = own_key own key is

pub reads_began : (ranges : List Range) (reads : List OpenRead) (moment : ℕ) (calls : List Operation) → AreBegunAfter ranges reads moment
    → AreReadsOf calls reads → ReadsBeganAfter (covered ranges) moment calls
reads_began ranges reads moment calls after are o key o_in pending keeps here concerned = ⊎_elim
    (λ early.
    let ends = concerned_between o.call key concerned in
    let none = after (record { inv = o.inv; low = low_key o.call; high = high_key o.call })
    ((are o.inv (low_key o.call) (high_key o.call)).1 (o, o_in, refl, pending, keeps, refl, refl)) early key ends.0 ends.1 in
    absurd (false≢true (sym none ∙ here)))
    (λ late. late)
    (cases_lt o.inv moment)

-- ---- pasts that are dead go

module _ (start : Contents) (now : ℕ) (calls : List Operation) (keys : Keys) (more : List KeptPart) where
  abbrev Stand : List KeptPast → Type 0
  Stand pasts = AreKept start now calls (record { keys = keys; pasts = pasts } ∷ more)

  pub alive_stand : (front made alive : List KeptPast) → AreThoseAlive made alive → Stand (front ++ made) → Stand (front ++ alive)
  alive_stand front [] alive none are = subst (λ (ps : List KeptPast). Stand (front ++ ps)) (sym none) are
  alive_stand front (past ∷ made) alive (inl (rest, is, further)) are =
      subst (λ (ps : List KeptPast). Stand (front ++ ps)) (sym is)
      (subst Stand (append_assoc front (past ∷ []) rest)
      (alive_stand (front ++ past ∷ []) made rest further (subst Stand (sym (append_assoc front (past ∷ []) made)) are)))
  alive_stand front (past ∷ made) alive (inr (dead, further)) are =
      alive_stand front made alive further (dead_pasts_are_lost start now calls keys past front made more dead are)

  pub front_goes : (front left : List KeptPast) → All IsDead front → Stand (front ++ left) → Stand left
  front_goes [] left dead are = are
  front_goes (past ∷ front) left dead are =
      front_goes front left (All-tail IsDead past front dead)
      (dead_pasts_are_lost start now calls keys past [] (front ++ left) more (All-head IsDead past front dead) are)

pub alive_in : (made alive : List KeptPast) → AreThoseAlive made alive → (x : KeptPast) → Contains alive x → Contains made x
alive_in [] alive none x x_in = subst (λ (ps : List KeptPast). Contains ps x) none x_in
alive_in (past ∷ made) alive (inl (rest, is, further)) x x_in = ⊎_elim
    (λ same. subst (Contains (past ∷ made)) same (Contains-first past made))
    (λ later. Contains-later past made x (alive_in made rest further x later))
    (Contains-cases past rest x (subst (λ (ps : List KeptPast). Contains ps x) is x_in))
alive_in (past ∷ made) alive (inr (dead, further)) x x_in = Contains-later past made x (alive_in made alive further x x_in)

-- ---- the shape of pasts

abbrev IsShapedPast : Past → Type 0
IsShapedPast past = AllPairs (λ (a b : Operation). a.inv < b.inv) past.calls.items × NonePrecedesItself past.calls.items

pub shape_of : (pasts : List Past) → AreShaped pasts → All IsPastShaped (map kept_of pasts)
shape_of pasts shaped = All-from_contains IsPastShaped (map kept_of pasts) (λ past past_in.
    let (p, p_in, same) = Contains-from_map kept_of pasts past past_in in
    let is : IsShapedPast p = All-contains IsShapedPast pasts p shaped p_in in
    subst IsPastShaped same (record { rising = is.0; apart = is.1 }))

pub from_shape : (pasts : List Past) → All IsPastShaped (map kept_of pasts) → AreShaped pasts
from_shape pasts shaped = All-from_contains IsShapedPast pasts (λ past past_in.
    let is = All-contains IsPastShaped (map kept_of pasts) (kept_of past) shaped (Contains-map kept_of pasts past past_in) in (is.rising, is.apart))

-- ---- each call that is left has some key

pub calls_have_keys : (start : Contents) (now : ℕ) (calls : List Operation) (part : KeptPart) (rest : List KeptPart)
    → AreKept start now calls (part ∷ rest) → All (λ past. All (HasSomeKeyIn part.keys) past.left) part.pasts
calls_have_keys start now calls part rest are =
    All-from_contains (λ (past : KeptPast). All (HasSomeKeyIn part.keys) past.left) part.pasts (λ past past_in.
    let (choice, choice_in, is) = zip_forth (IsPast part.keys (map keyed calls)) part.pasts first.pasts first.are_pasts past past_in in
    All-from_contains (HasSomeKeyIn part.keys) past.left (λ o o_in.
    let (a, a_in, accepted, some, alike) = is.owned o o_in in
    let concerned : a.concerns some.0 ≡ true = (and_parts (not (choice.taken a.inv some.0)) (a.concerns some.0) some.2).1 in
    (some.0, some.1, is.own o a o_in a_in (sym alike.inv) some.0 concerned)))
  where
    first : IsKeptFirst start now calls part rest
    first = first_of start now calls part rest are

-- ---- busy keys

-- all that is known of one of the pasts
record IsKnown (keys busy : Keys) (first past : Past) : Type 0 where
  busy_for : IsBusyFor first past busy
  within : IsWithinKeys keys (kept_of past)
  some : All (HasSomeKeyIn keys) past.calls.items
  shape : IsPastShaped (kept_of past)

abbrev resting_of : Keys → Past → Contents
resting_of busy first = pairs_at (λ key. not (busy key)) first.map

not_both : (k b : Bool) → (k && not b) ≡ true → b ≡ false
not_both true true is = absurd (false≢true is)
not_both true false is = refl
not_both false b is = absurd (false≢true is)

other_key : (k b : Bool) → b ≡ true → (k && not b) ≡ true → ⊥
other_key true true here is = false≢true is
other_key true false here is = false≢true here
other_key false b here is = false≢true is

split_keys : (k b : Bool) → (b ≡ true → k ≡ true) → ((k && not b) || b) ≡ k
split_keys true true own = refl
split_keys true false own = refl
split_keys false true own = sym (own refl)
split_keys false false own = refl

module _ (keys busy : Keys) (first past only : Past) (known : IsKnown keys busy first past) (first_within : IsWithinKeys keys (kept_of first))
    (is : IsOnly busy past only) where
  abbrev quiet : Keys
  quiet = outside keys busy

  same_at : (k b : Bool) (x y : Option ℕ) → (b ≡ false → y ≡ x) → (k ≡ false → x ≡ None) → cond (not b) x None ≡ cond (k && not b) y None
  same_at true true x y same none = refl
  same_at true false x y same none = sym (same refl)
  same_at false true x y same none = refl
  same_at false false x y same none = none refl

  quiet_pairs : resting_of busy first ≡ pairs_at quiet past.map
  quiet_pairs = same_pairs (resting_of busy first) (pairs_at quiet past.map) (pairs_rise (λ key. not (busy key)) first.map first_within.rising)
      (pairs_rise quiet past.map known.within.rising) (λ key.
      values_at_some (λ k. not (busy k)) first.map key
      ∙ (same_at (keys key) (busy key) (value_at first.map key) (value_at past.map key) (known.busy_for.same key) (first_within.nothing key)
      ∙ sym (values_at_some quiet past.map key)))

  left_busy : (o : Operation) → Contains past.calls.items o → HasKeysIn busy o
  left_busy o o_in = All-contains (λ (p : Operation). (key : ℕ) → concerns_key p.call key ≡ true → busy key ≡ true) past.calls.items o
      known.busy_for.calls o_in

  none_quiet : (o : Operation) → Contains past.calls.items o → HasKeysIn quiet o → ⊥
  none_quiet o o_in has =
      let (key, here, concerned) = All-contains (HasSomeKeyIn keys) past.calls.items o known.some o_in in
      other_key (keys key) (busy key) (left_busy o o_in key concerned) (has key concerned)

  found_busy : (f : FoundAt) → Contains (map found_at past.found.items) f → busy f.key ≡ true
  found_busy f f_in =
      let (g, g_in, same) = Contains-from_map found_at past.found.items f f_in in
      subst (λ (h : FoundAt). busy h.key ≡ true) same
      (All-contains (λ (h : Found). busy h.key ≡ true) past.found.items g known.busy_for.found g_in)

  only_falls : FallsApart quiet busy (kept_of past) (at_rest (resting_of busy first)) (kept_of only)
  only_falls = record {
    pairs = quiet_pairs;
    other_pairs = is.pairs;
    rising = AllPairs-nil (λ (o p : Operation). o.inv < p.inv);
    other_rising = subst (λ (os : List Operation). AllPairs (λ (o p : Operation). o.inv < p.inv) os) (sym is.calls) known.shape.rising;
    each = All-from_contains (λ (o : Operation). HasKeysIn quiet o ⊎ HasKeysIn busy o) past.calls.items (λ o o_in. inr (left_busy o o_in));
    left = λ o. (λ o_in. absurd (Contains-nil o o_in), λ both. absurd (none_quiet o both.0 both.1));
    other_left = λ o. (
      λ o_in. let there : Contains past.calls.items o = subst (λ (os : List Operation). Contains os o) is.calls o_in in (there, left_busy o there),
      λ both. subst (λ (os : List Operation). Contains os o) (sym is.calls) both.0,
    );
    found = λ f. (λ f_in. absurd (Contains-nil f f_in), λ both. absurd (other_key (keys f.key) (busy f.key) (found_busy f both.0) both.1));
    other_found = λ f. (
      λ f_in.
          let there : Contains (map found_at past.found.items) f =
          subst (λ (fs : List Found). Contains (map found_at fs) f) is.found f_in in (there, found_busy f there),
      λ both. subst (λ (fs : List Found). Contains (map found_at fs) f) (sym is.found) both.0,
    );
  }

zip_map_both : {A B C D : Type 0} (Q : A → Type 0) (R : A → B → Type 0) (S : C → D → Type 0) (f : A → C) (g : B → D) (xs : List A) (ys : List B)
    → ((x : A) (y : B) → Q x → R x y → S (f x) (g y)) → All Q xs → AllZip R xs ys → AllZip S (map f xs) (map g ys)
zip_map_both Q R S f g [] [] step all zip = tt
zip_map_both Q R S f g [] (y ∷ ys) step all zip = absurd zip
zip_map_both Q R S f g (x ∷ xs) [] step all zip = absurd zip
zip_map_both Q R S f g (x ∷ xs) (y ∷ ys) step all zip =
    (step x y (All-head Q x xs all) zip.0, zip_map_both Q R S f g xs ys step (All-tail Q x xs all) zip.1)

module _ (start : Contents) (now : ℕ) (calls : List Operation) (keys busy : Keys) (more : List KeptPart) (first : Past) (others : List Past)
    (shaped : AreShaped (first ∷ others)) (all : All (λ past. IsBusyFor first past busy) (first ∷ others))
    (are : AreKept start now calls (record { keys = keys; pasts = map kept_of (first ∷ others) } ∷ more)) where
  abbrev pasts : List Past
  pasts = first ∷ others

  abbrev whole : KeptPart
  whole = record { keys = keys; pasts = map kept_of pasts }

  all_within : All (IsWithinKeys keys) (map kept_of pasts)
  all_within = kept_pasts_are_within start now calls whole more are

  all_known : All (IsKnown keys busy first) pasts
  all_known = All-from_contains (IsKnown keys busy first) pasts (λ past past_in.
      let there : Contains (map kept_of pasts) (kept_of past) = Contains-map kept_of pasts past past_in in record {
        busy_for = All-contains (λ (p : Past). IsBusyFor first p busy) pasts past all past_in;
        within = All-contains (IsWithinKeys keys) (map kept_of pasts) (kept_of past) all_within there;
        some = All-contains (λ (p : KeptPast). All (HasSomeKeyIn keys) p.left) (map kept_of pasts) (kept_of past)
            (calls_have_keys start now calls whole more are) there;
        shape = All-contains IsPastShaped (map kept_of pasts) (kept_of past) (shape_of pasts shaped) there;
      })

  within_first : IsWithinKeys keys (kept_of first)
  within_first = All-head (IsWithinKeys keys) (kept_of first) (map kept_of others) all_within

  -- a past says something only of keys of the part
  of_key_in : (key : ℕ) → Any (IsOfKey key) pasts → keys key ≡ true
  of_key_in key any =
      let (past, past_in, of_key) = any_to (IsOfKey key) pasts any in
      let known = All-contains (IsKnown keys busy first) pasts past all_known past_in in
      of_one past known of_key
    where
      of_one : (past : Past) → IsKnown keys busy first past → IsOfKey key past → keys key ≡ true
      of_one past known (inl some) =
          let (o, o_in, concerned) = any_to (λ (p : Operation). concerns_key p.call key ≡ true) past.calls.items some in
          All-contains (HasKeysIn keys) past.calls.items o known.within.left o_in key concerned
      of_one past known (inr (inl some)) =
          let (f, f_in, at) = any_to (λ (g : Found). g.key ≡ key) past.found.items some in
          subst (λ (k : ℕ). keys k ≡ true) at (known.within.found (found_at f) (Contains-map found_at past.found.items f f_in))
      of_one past known (inr (inr (value, at))) = ⊎_elim
          (λ here. here)
          (λ out. absurd (none-some value (sym (known.within.nothing key out) ∙ at)))
          (true_or_false (keys key))

  pub two_parts : (left : List Past) → ((key : ℕ) → busy key ≡ true → keys key ≡ true) → AllZip (IsOnly busy) pasts left
      → AreKept start now calls (resting (outside keys busy) (resting_of busy first) ∷ record { keys = busy; pasts = map kept_of left } ∷ more)
  two_parts left own zip =
      kept_parts_fall_apart start now calls (outside keys busy) busy (at_rest (resting_of busy first)) (map kept_of pasts) (map kept_of left) more
      (λ key here. not_both (keys key) (busy key) here)
      (λ none. Contains-nil (kept_of first) (subst (λ (l : List KeptPast). Contains l (kept_of first)) none
      (Contains-first (kept_of first) (map kept_of others))))
      (zip_map_both (IsKnown keys busy first) (IsOnly busy)
      (λ (c : KeptPast) (b : KeptPast). FallsApart (outside keys busy) busy c (at_rest (resting_of busy first)) b) kept_of kept_of pasts left
      (λ past only known is. only_falls keys busy first past only known within_first is) all_known zip)
      (same_keys start now calls keys (both_keys (outside keys busy) busy) (map kept_of pasts) more
      (λ key. split_keys (keys key) (busy key) (own key)) are)

  pub busy_own : ((key : ℕ) → busy key ≡ true → Any (IsOfKey key) pasts) → (key : ℕ) → busy key ≡ true → keys key ≡ true
  busy_own only key here = of_key_in key (only key here)

  -- no key is busy
  module _ (none : (key : ℕ) → busy key ≡ false) where
    no_calls : (os : List Operation) → All (λ o. (key : ℕ) → concerns_key o.call key ≡ true → busy key ≡ true) os → All (HasSomeKeyIn keys) os
        → os ≡ []
    no_calls [] busy_all some = refl
    no_calls (o ∷ os) busy_all some =
        let (key, here, concerned) = All-head (HasSomeKeyIn keys) o os some in
        absurd (false≢true (sym (none key)
        ∙ All-head (λ (p : Operation). (k : ℕ) → concerns_key p.call k ≡ true → busy k ≡ true) o os busy_all key concerned))

    no_found : (fs : List Found) → All (λ f. busy f.key ≡ true) fs → fs ≡ []
    no_found [] busy_all = refl
    no_found (f ∷ fs) busy_all =
        absurd (false≢true (sym (none f.key) ∙ All-head (λ (g : Found). busy g.key ≡ true) f fs busy_all))

    own_pairs : resting_of busy first ≡ first.map
    own_pairs = filter_all (λ (pair : ℕ × ℕ). not (busy pair.0)) first.map
        (All-from_contains (λ (pair : ℕ × ℕ). not (busy pair.0) ≡ true) first.map (λ pair pair_in. ap not (none pair.0)))

    is_rest : (past : Past) → IsKnown keys busy first past → kept_of past ≡ at_rest (resting_of busy first)
    is_rest past known =
        let map_same : past.map ≡ resting_of busy first =
        same_pairs past.map first.map known.within.rising within_first.rising (λ key. known.busy_for.same key (none key)) ∙ sym own_pairs in
        let calls_none : past.calls.items ≡ [] = no_calls past.calls.items known.busy_for.calls known.some in
        let found_none : map found_at past.found.items ≡ [] =
        ap (λ (fs : List Found). map found_at fs) (no_found past.found.items known.busy_for.found) in
        ap (λ (m : Contents). record { pairs = m; left = past.calls.items; found = map found_at past.found.items }) map_same
        ∙ (ap (λ (os : List Operation). record { pairs = resting_of busy first; left = os; found = map found_at past.found.items }) calls_none
        ∙ ap (λ (fs : List FoundAt). record { pairs = resting_of busy first; left = []; found = fs }) found_none)

    pub all_rest : AreKept start now calls (resting keys (resting_of busy first) ∷ more)
    all_rest =
        let rest : KeptPast = at_rest (resting_of busy first) in
        pasts_in_any_order_are_kept start now calls keys (map kept_of pasts) (rest ∷ []) more
        (λ past past_in.
        let (p, p_in, same) = Contains-from_map kept_of pasts past past_in in
        let is : rest ≡ past = sym (is_rest p (All-contains (IsKnown keys busy first) pasts p all_known p_in)) ∙ same in
        subst (Contains (rest ∷ [])) is (Contains-first rest []))
        (λ past past_in. ⊎_elim
        (λ same.
        let is : kept_of first ≡ past =
        is_rest first (All-contains (IsKnown keys busy first) pasts first all_known (Contains-first first others)) ∙ same in
        subst (Contains (map kept_of pasts)) is (Contains-first (kept_of first) (map kept_of others)))
        (λ later. absurd (Contains-nil past later))
        (Contains-cases rest [] past past_in))
        are
