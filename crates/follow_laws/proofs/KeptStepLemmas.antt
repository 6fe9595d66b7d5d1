-- Parts in another order (`parts_move`); pasts of a part that are dropped (`dead_pasts_are_lost`), or become others (`pasts_move_on`).
use Rattle.follow_laws.proofs.Common.{◌≡◌, ℕ, ◌<◌, ◌≤◌, Bool, true, false, List, [], ◌∷◌, ◌++◌, map, Option, None, Some, inl, inr, refl, sym, ◌∙◌}
use Rattle.follow_laws.proofs.Common.{subst, ⊎_elim, false≢true, ◌⊎◌, is_some, AllPairs, Any, Contains, AllZip, All-nil, All-contains, AllPairs-map}
use Rattle.follow_laws.proofs.Common.{Contains-from_map, All-from_contains, Operation, Response, low_key, may_change, value_at, IsLinearizable}
use Rattle.follow_laws.proofs.Common.{KeyedCall, concerns_key, is_completed, keyed, place_of, Choice, Keys, Part, Represent, KeptPast, IsNameKept}
use Rattle.follow_laws.proofs.Common.{OpenReadsBeganAfter, AreCallsBefore, IsOfCalls, IsOwn, IsKeptAs, AreKept, PartsMove, DeadPastsAreLost}
use Rattle.follow_laws.proofs.Common.{ReadsBeganAfter, PastsMoveOn}
use Rattle.follow_laws.proofs.DropLemmas.{pasts_without_order_go}
use Rattle.follow_laws.specs.Leads.{Setting, IsMadeOf}
use Rattle.follow_laws.proofs.KeptCallLemmas.{own_key_of}
use Rattle.follow_laws.proofs.KeptPartLemmas.{IsKeptFirst, first_of, from_first, IsKeptPast, AreKeptPasts}
use Rattle.follow_laws.proofs.KeptAnswerLemmas.{Becomes, EachBecomes, one_becomes, all_become, zip_append}
use Rattle.follow_laws.proofs.KeptRestLemmas.{stand_middle, stand_front}

-- ---- parts in another order

-- a place of the first of two lists whose items belong together
pub record IsZipAt {A B : Type 0} (R : A → B → Type 0) (xs ys : List A) (zs : List B) : Type 0 where
  pub us : List B
  pub vs : List B
  pub same : zs ≡ us ++ vs
  pub first : AllZip R xs us
  pub second : AllZip R ys vs

zip_at : {A B : Type 0} (R : A → B → Type 0) (xs ys : List A) (zs : List B) → AllZip R (xs ++ ys) zs → IsZipAt R xs ys zs
zip_at R [] ys zs zip = record { us = []; vs = zs; same = refl; first = tt; second = zip }
zip_at R (x ∷ xs) ys [] zip = absurd zip
zip_at {A} {B} R (x ∷ xs) ys (z ∷ zs) zip =
    let rest = zip_at R xs ys zs zip.1 in record {
      us = z ∷ rest.us;
      vs = rest.vs;
      same = subst (λ (ws : List B). z ∷ zs ≡ z ∷ ws) rest.same refl;
      first = (zip.0, rest.first);
      second = rest.second;
    }

pub parts_move : PartsMove
parts_move start place calls part front back = (to_front, to_middle)
  where
    to_front : AreKept start place calls (front ++ part ∷ back) → AreKept start place calls (part ∷ front ++ back)
    to_front are =
        let cut = zip_at (IsKeptAs calls) front (part ∷ back) are.parts are.are_parts in
        by_rest cut.us cut.vs cut.first cut.second
        (subst (λ (parts : List Part). Represent (value_at start) place (map keyed calls) parts) cut.same are.stand)
      where
        by_rest : (us vs : List Part) → AllZip (IsKeptAs calls) front us → AllZip (IsKeptAs calls) (part ∷ back) vs
            → Represent (value_at start) place (map keyed calls) (us ++ vs) → AreKept start place calls (part ∷ front ++ back)
        by_rest us [] first second stand = absurd second
        by_rest us (one ∷ vs) first second stand = record {
          are_calls = are.are_calls;
          parts = one ∷ us ++ vs;
          are_parts = (second.0, zip_append (IsKeptAs calls) front back us vs first second.1);
          stand = stand_front us one vs (value_at start) place (map keyed calls) stand;
        }

    to_middle : AreKept start place calls (part ∷ front ++ back) → AreKept start place calls (front ++ part ∷ back)
    to_middle are =
        let first = first_of start place calls part (front ++ back) are in
        let one : Part = record { keys = part.keys; pasts = first.pasts } in
        let cut = zip_at (IsKeptAs calls) front back first.others first.are_others in record {
          are_calls = are.are_calls;
          parts = cut.us ++ one ∷ cut.vs;
          are_parts = zip_append (IsKeptAs calls) front (part ∷ back) cut.us (one ∷ cut.vs) cut.first
              (record { keys = refl; pasts = first.are_pasts; own = first.own }, cut.second);
          stand = stand_middle cut.us one cut.vs (value_at start) place (map keyed calls)
              (subst (λ (parts : List Part). Represent (value_at start) place (map keyed calls) (one ∷ parts)) cut.same first.stand);
        }

-- ---- a past that goes

pub rising_calls : (place : ℕ) (calls : List Operation) → AreCallsBefore place calls → AllPairs (λ a b. a.inv < b.inv) (map keyed calls)
rising_calls place calls are = AllPairs-map (λ a b. a.inv < b.inv) keyed calls are.rising

-- a past stays, or it is dropped if what is left of it has no order
abbrev StaysOrGoes : KeptPast → List KeptPast → Type 0
StaysOrGoes past nexts = (nexts ≡ past ∷ []) ⊎ ((IsLinearizable past.pairs past.left → ⊥) × (nexts ≡ []))

all_stay : (pasts : List KeptPast) → EachBecomes StaysOrGoes pasts pasts
all_stay [] = refl
all_stay (past ∷ pasts) = (past ∷ [], pasts, refl, inl refl, all_stay pasts)

one_goes : (past : KeptPast) (front back : List KeptPast) → (IsLinearizable past.pairs past.left → ⊥)
    → EachBecomes StaysOrGoes (front ++ past ∷ back) (front ++ back)
one_goes past [] back dead = ([], back, refl, inr (dead, refl), all_stay back)
one_goes past (other ∷ front) back dead = (other ∷ [], front ++ back, refl, inl refl, one_goes past front back dead)

pub dead_pasts_are_lost : DeadPastsAreLost
dead_pasts_are_lost start place calls keys past front back rest dead are =
    let (news, news_are, stand) =
    all_become (value_at start) place calls calls keys first.others StaysOrGoes step (front ++ past ∷ back) first.pasts (front ++ back)
    (one_goes past front back dead) (first.are_pasts, first.own) first.stand in
    from_first start place calls (record { keys = keys; pasts = front ++ back }) rest (record {
      are_calls = first.are_calls;
      pasts = news;
      others = first.others;
      are_pasts = news_are.0;
      own = news_are.1;
      are_others = first.are_others;
      stand = stand;
    })
  where
    first : IsKeptFirst start place calls (record { keys = keys; pasts = front ++ past ∷ back }) rest
    first = first_of start place calls (record { keys = keys; pasts = front ++ past ∷ back }) rest are

    step : (kept : KeptPast) (choice : Choice) (nexts : List KeptPast) → StaysOrGoes kept nexts → IsKeptPast keys calls kept choice
        → Becomes (value_at start) place calls keys first.others choice nexts
    step kept choice nexts (inl same) known = one_becomes (value_at start) place calls keys first.others kept choice nexts known same
    step kept choice nexts (inr (none, gone)) known = λ others stand. (
      [],
      subst (λ (z : List KeptPast). AreKeptPasts keys calls z []) (sym gone) (tt, All-nil (IsOwn keys calls)),
      pasts_without_order_go (value_at start) place (map keyed calls) keys kept choice others first.others first.are_calls.grown.apart
          (rising_calls place calls first.are_calls) none known.is stand,
    )

-- ---- pasts that become others

pub any_to : {X : Type 0} (P : X → Type 0) (xs : List X) → Any P xs → (x : X) × Contains xs x × P x
any_to P xs h = (h.1, (h.0, h.2, h.3), h.4)

of_calls_made : (calls : List Operation) (past next : KeptPast) → IsMadeOf past next → IsOfCalls calls past → IsOfCalls calls next
of_calls_made calls past next made own = record {
  left = All-from_contains (Contains calls) next.left (λ o o_in. All-contains (Contains calls) past.left o own.left (made.left o o_in));
  changes = All-from_contains (λ o. o.response ≡ None → may_change o.call ≡ true) next.left (λ o o_in.
      All-contains (λ p. p.response ≡ None → may_change p.call ≡ true) past.left o own.changes (made.left o o_in));
  found = λ f f_in. ⊎_elim
      (λ old. own.found f old)
      (λ new. let (o, o_in, same, pending) = new in (
        o,
        All-contains (Contains calls) past.left o own.left o_in,
        same,
        pending,
        All-contains (λ p. p.response ≡ None → may_change p.call ≡ true) past.left o own.changes o_in pending,
      ))
      (All-contains (λ g. Contains past.found g ⊎ ((o : Operation) × Contains past.left o × (o.inv ≡ g.inv) × (o.response ≡ None))) next.found f
      made.found f_in);
}

own_made : (keys : Keys) (calls : List Operation) (past next : KeptPast) → IsMadeOf past next → IsOwn keys calls past → IsOwn keys calls next
own_made keys calls past next made own = record {
  of_calls = of_calls_made calls past next made own.of_calls;
  whole = λ o o_in pending changes here. ⊎_elim
      (λ left. made.whole o left pending)
      (λ some. let (f, f_in, named, at) = some in inr (f, made.stay f f_in, named, at))
      (own.whole o o_in pending changes here);
}

pending_of : (r : Option Response) → is_some (place_of r) ≡ false → r ≡ None
pending_of None is = refl
pending_of (Some response) is = absurd (false≢true (sym is))

-- a pending call that may change the map is left, or what it found is kept, even if it leaves the map as it is
reads_began : (keys : Keys) (moment : ℕ) (calls : List Operation) (past : KeptPast) → ReadsBeganAfter keys moment calls → IsOwn keys calls past
    → OpenReadsBeganAfter keys moment (map keyed calls) past
reads_began keys moment calls past late own a key a_in pending here concerned =
    let (o, o_in, same) = Contains-from_map keyed calls a a_in in
    subst (λ (z : KeyedCall). (moment ≤ z.inv) ⊎ IsNameKept past z) same
    (by_call o o_in (pending_of o.response (subst (λ (z : KeyedCall). is_completed z ≡ false) (sym same) pending.0))
    (subst (λ (z : KeyedCall). z.concerns key ≡ true) (sym same) concerned) (may_change o.call) refl)
  where
    by_call : (o : Operation) → Contains calls o → o.response ≡ None → concerns_key o.call key ≡ true → (b : Bool) → may_change o.call ≡ b
        → (moment ≤ o.inv) ⊎ IsNameKept past (keyed o)
    by_call o o_in none o_concerned false keeps = inl (late o key o_in none keeps here o_concerned)
    by_call o o_in none o_concerned true changes =
        let own_key : low_key o.call ≡ key = own_key_of o.call key changes o_concerned in
        inr (⊎_elim
        (λ left. inl (o, left, refl))
        (λ (f, f_in, named, at). inr (f, f_in, named, λ k k_concerned. at ∙ own_key_of o.call k changes k_concerned))
        (own.whole o o_in none changes (subst (λ (k : ℕ). keys k ≡ true) (sym own_key) here)))

pub pasts_move_on : PastsMoveOn
pasts_move_on start place moment calls keys pasts nexts rest late leads made are =
    let (choices, choices_are, stand, reads) =
    leads setting first.are_calls.grown (
      first.pasts,
      first.are_pasts,
      first.stand,
      All-from_contains (OpenReadsBeganAfter keys moment (map keyed calls)) pasts (λ past past_in.
          reads_began keys moment calls past late (All-contains (IsOwn keys calls) pasts past first.own past_in)),
    ) in
    from_first start place calls (record { keys = keys; pasts = nexts }) rest (record {
      are_calls = first.are_calls;
      pasts = choices;
      others = first.others;
      are_pasts = choices_are;
      own = All-from_contains (IsOwn keys calls) nexts (λ next next_in.
          let (past, past_in, is) =
          any_to (λ past. IsMadeOf past next) pasts
          (All-contains (λ z. Any (λ past. IsMadeOf past z) pasts) nexts next made next_in) in
          own_made keys calls past next is (All-contains (IsOwn keys calls) pasts past first.own past_in));
      are_others = first.are_others;
      stand = stand;
    })
  where
    first : IsKeptFirst start place calls (record { keys = keys; pasts = pasts }) rest
    first = first_of start place calls (record { keys = keys; pasts = pasts }) rest are

    setting : Setting
    setting = record { held = value_at start; place = place; calls = map keyed calls; keys = keys; rest = first.others }
