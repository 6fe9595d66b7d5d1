-- Laws of parts that look at no order.
use Rattle.follow_laws.proofs.Common.{◌≡◌, ℕ, Bool, true, false, ◌||◌, List, [], ◌∷◌, refl, sym, ◌∙◌, subst, ⊎_elim, ◌⊎◌, AllPairs, Contains, All-nil}
use Rattle.follow_laws.proofs.Common.{All-cons, All-head, All-tail, All-contains, AllPairs-cons, AllPairs-nil, AllPairs-head, AllPairs-tail}
use Rattle.follow_laws.proofs.Common.{All-from_contains, Contains-nil, Contains-first, Contains-later, Contains-cases, Choice, at_first, GoesOn, Keys}
use Rattle.follow_laws.proofs.Common.{AreApart, Part, IsAt, IsOneOf, choices_of, ShareKeys, AreJoined, PartsBegin, PartsStay, PartsInAnyOrder}
use Rattle.follow_laws.proofs.Common.{PartsUnite, DeadPastsGo}
use Rattle.follow_laws.proofs.DeadLemmas.{dead_stay_dead}
use Rattle.follow_laws.proofs.ChoiceLemmas.{begin}
use Rattle.follow_laws.proofs.GrowthLemmas.{growth_on}
use Rattle.follow_laws.proofs.PartLemmas.{all_keys, at_self, at_back, at_next, at_fewer, at_both, or_cases, same_goes_on, goes_on_there, few_grown}
use Rattle.follow_laws.proofs.PartLemmas.{part_steps}

pub parts_begin : PartsBegin
parts_begin held = record {
  shared = record {
    apart = AllPairs-cons (λ part other. AreApart part.keys other.keys) first [] (All-nil (λ other. AreApart first.keys other.keys))
        (AllPairs-nil (λ part other. AreApart part.keys other.keys));
    every = λ key. (first, Contains-first first [], refl);
  };
  above = λ more grown order.
      let (w, same, goes_on) = (begin held).0 more grown order in (
        at_first held,
        All-cons (λ part. IsOneOf part.keys part.pasts (at_first held)) first []
            (at_first held, Contains-first (at_first held) [], at_self all_keys (at_first held))
            (All-nil (λ part. IsOneOf part.keys part.pasts (at_first held))),
        subst (λ (v : Choice). GoesOn v more) same goes_on,
      );
  reached = λ more some w grown w_is are goes_on.
      let (past, past_in, same) = All-head (λ part. IsOneOf part.keys part.pasts w) first [] w_is in
      ⊎_elim
      (λ is. (begin held).1 some (few_grown 0 [] more some w grown are)
      (at_first held, refl, same_goes_on (at_first held) w some (subst (λ (v : Choice). IsAt all_keys v w) (sym is) same) goes_on))
      (λ later. absurd (Contains-nil past later))
      (Contains-cases (at_first held) [] past past_in);
}
  where
    first : Part
    first = record { keys = all_keys; pasts = at_first held ∷ [] }

pub parts_stay : PartsStay
parts_stay held place next calls more parts less grown stand = record {
  shared = stand.shared;
  above = λ most grows order. stand.above most (growth_on place next calls more most less grown grows) order;
  reached = λ most some w grows w_is are goes_on.
      stand.reached most some w (growth_on place next calls more most less grown grows) w_is are goes_on;
}

pub parts_in_any_order : PartsInAnyOrder
parts_in_any_order held place calls parts others shared forth back stand = record {
  shared = shared;
  above = λ more grown order.
      let (w, w_is, goes_on) = stand.above more grown order in (
        w,
        All-from_contains (λ part. IsOneOf part.keys part.pasts w) others (λ part part_in.
            All-contains (λ other. IsOneOf other.keys other.pasts w) parts part w_is (back part part_in)),
        goes_on,
      );
  reached = λ more some w grown w_is are goes_on.
      stand.reached more some w grown
      (All-from_contains (λ part. IsOneOf part.keys part.pasts w) parts (λ part part_in.
      All-contains (λ other. IsOneOf other.keys other.pasts w) others part w_is (forth part part_in)))
      are goes_on;
}

-- ---- pasts that go

-- parts whose first has another list of pasts, with the same choice
first_part : (keys : Keys) (pasts nexts : List Choice) (rest : List Part) (w : Choice) → IsOneOf keys nexts w
    → choices_of (record { keys = keys; pasts = pasts } ∷ rest) w → choices_of (record { keys = keys; pasts = nexts } ∷ rest) w
first_part keys pasts nexts rest w is all =
    All-cons (λ part. IsOneOf part.keys part.pasts w) (record { keys = keys; pasts = nexts }) rest is
    (All-tail (λ part. IsOneOf part.keys part.pasts w) (record { keys = keys; pasts = pasts }) rest all)

one_of_next : (keys : Keys) (pasts : List Choice) (u w : Choice) → IsOneOf keys pasts u → IsAt keys u w → IsOneOf keys pasts w
one_of_next keys pasts u w (past, past_in, first) second = (past, past_in, at_next keys past u w first second)

pub dead_pasts_go : DeadPastsGo
dead_pasts_go held place calls keys pasts left rest kept back stand =
    part_steps held place calls keys pasts left rest
    (λ w more w_is grown goes_on.
    let (past, past_in, same) = All-head (λ part. IsOneOf part.keys part.pasts w) (record { keys = keys; pasts = pasts }) rest w_is in
    ⊎_elim
    (λ stays. (w, first_part keys pasts left rest w (one_of_next keys left past w stays same) w_is, goes_on))
    (λ dead. absurd (dead (goes_on_there keys past w calls same (dead_stay_dead place calls more w grown goes_on))))
    (kept past past_in))
    (λ w few more w_is alone are grown goes_on.
    let (past, past_in, same) = All-head (λ part. IsOneOf part.keys part.pasts w) (record { keys = keys; pasts = left }) rest w_is in
    (w, (first_part keys left pasts rest w (one_of_next keys pasts past w (back past past_in) same) w_is, λ inv key taken. taken), goes_on))
    stand

-- ---- two parts that become one

module _ (part other both : Part) (rest : List Part) (joined : AreJoined part other both) where
  inside_part : (key : ℕ) → part.keys key ≡ true → both.keys key ≡ true
  inside_part key is = joined.keys key ∙ or_first (part.keys key) (other.keys key) is
    where
      or_first : (b c : Bool) → b ≡ true → (b || c) ≡ true
      or_first true c is = refl
      or_first false c is = cc

  inside_other : (key : ℕ) → other.keys key ≡ true → both.keys key ≡ true
  inside_other key is = joined.keys key ∙ or_second (part.keys key) (other.keys key) is
    where
      or_second : (b c : Bool) → c ≡ true → (b || c) ≡ true
      or_second true c is = refl
      or_second false c is = is

  side : (key : ℕ) → both.keys key ≡ true → (part.keys key ≡ true) ⊎ (other.keys key ≡ true)
  side key is = or_cases (part.keys key) (other.keys key) (sym (joined.keys key) ∙ is)

  united : (w : Choice) → choices_of (part ∷ other ∷ rest) w → choices_of (both ∷ rest) w
  united w is =
      let later = All-tail (λ some. IsOneOf some.keys some.pasts w) part (other ∷ rest) is in
      let (a, a_in, a_same) = All-head (λ some. IsOneOf some.keys some.pasts w) part (other ∷ rest) is in
      let (b, b_in, b_same) = All-head (λ some. IsOneOf some.keys some.pasts w) other rest later in
      let (c, c_in, c_part, c_other) = joined.pairs a b a_in b_in in
      All-cons (λ some. IsOneOf some.keys some.pasts w) both rest (
        c,
        c_in,
        at_both part.keys other.keys both.keys c w joined.keys (at_next part.keys c a w (at_back part.keys a c c_part) a_same)
            (at_next other.keys c b w (at_back other.keys b c c_other) b_same),
      ) (All-tail (λ some. IsOneOf some.keys some.pasts w) other rest later)

  parted : (w : Choice) → choices_of (both ∷ rest) w → choices_of (part ∷ other ∷ rest) w
  parted w is =
      let (c, c_in, c_same) = All-head (λ some. IsOneOf some.keys some.pasts w) both rest is in
      let (a, b, a_in, b_in, a_same, b_same) = joined.each c c_in in
      All-cons (λ some. IsOneOf some.keys some.pasts w) part (other ∷ rest)
      (a, a_in, at_next part.keys a c w a_same (at_fewer both.keys part.keys c w inside_part c_same))
      (All-cons (λ some. IsOneOf some.keys some.pasts w) other rest
      (b, b_in, at_next other.keys b c w b_same (at_fewer both.keys other.keys c w inside_other c_same))
      (All-tail (λ some. IsOneOf some.keys some.pasts w) both rest is))

  shared_united : ShareKeys (part ∷ other ∷ rest) → ShareKeys (both ∷ rest)
  shared_united shared = record {
    apart = AllPairs-cons (λ one two. AreApart one.keys two.keys) both rest
        (All-from_contains (λ two. AreApart both.keys two.keys) rest (λ two two_in key is.
        ⊎_elim
        (λ first. All-contains (λ some. AreApart part.keys some.keys) (other ∷ rest) two
        (AllPairs-head (λ one some. AreApart one.keys some.keys) part (other ∷ rest) shared.apart)
        (Contains-later other rest two two_in) key first)
        (λ second. All-contains (λ some. AreApart other.keys some.keys) rest two
        (AllPairs-head (λ one some. AreApart one.keys some.keys) other rest later) two_in key second)
        (side key is)))
        (AllPairs-tail (λ one two. AreApart one.keys two.keys) other rest later);
    every = λ key.
        let (some, some_in, is) = shared.every key in
        ⊎_elim
        (λ first. (both, Contains-first both rest, inside_part key (subst (λ (z : Part). z.keys key ≡ true) (sym first) is)))
        (λ others. ⊎_elim
        (λ second. (both, Contains-first both rest, inside_other key (subst (λ (z : Part). z.keys key ≡ true) (sym second) is)))
        (λ further. (some, Contains-later both rest some further, is))
        (Contains-cases other rest some others))
        (Contains-cases part (other ∷ rest) some some_in);
  }
    where
      later : AllPairs (λ one two. AreApart one.keys two.keys) (other ∷ rest)
      later = AllPairs-tail (λ one two. AreApart one.keys two.keys) part (other ∷ rest) shared.apart

  shared_parted : AreApart part.keys other.keys → ShareKeys (both ∷ rest) → ShareKeys (part ∷ other ∷ rest)
  shared_parted apart shared = record {
    apart = AllPairs-cons (λ one two. AreApart one.keys two.keys) part (other ∷ rest)
        (All-cons (λ two. AreApart part.keys two.keys) other rest apart
        (All-from_contains (λ two. AreApart part.keys two.keys) rest (λ two two_in key is. from_both two two_in key (inside_part key is))))
        (AllPairs-cons (λ one two. AreApart one.keys two.keys) other rest
        (All-from_contains (λ two. AreApart other.keys two.keys) rest (λ two two_in key is. from_both two two_in key (inside_other key is)))
        (AllPairs-tail (λ one two. AreApart one.keys two.keys) both rest shared.apart));
    every = λ key.
        let (some, some_in, is) = shared.every key in
        ⊎_elim
        (λ first. ⊎_elim (λ here. (part, Contains-first part (other ∷ rest), here))
        (λ there. (other, Contains-later part (other ∷ rest) other (Contains-first other rest), there))
        (side key (subst (λ (z : Part). z.keys key ≡ true) (sym first) is)))
        (λ further. (some, Contains-later part (other ∷ rest) some (Contains-later other rest some further), is))
        (Contains-cases both rest some some_in);
  }
    where
      from_both : (two : Part) → Contains rest two → (key : ℕ) → both.keys key ≡ true → two.keys key ≡ false
      from_both two two_in key is = All-contains (λ some. AreApart both.keys some.keys) rest two
          (AllPairs-head (λ one some. AreApart one.keys some.keys) both rest shared.apart) two_in key is

pub parts_unite : PartsUnite
parts_unite held place calls part other both rest apart joined = (
  λ stand. record {
    shared = shared_united part other both rest joined stand.shared;
    above = λ more grown order. let (w, w_is, goes_on) = stand.above more grown order in (w, united part other both rest joined w w_is, goes_on);
    reached = λ more some w grown w_is are goes_on. stand.reached more some w grown (parted part other both rest joined w w_is) are goes_on;
  },
  λ stand. record {
    shared = shared_parted part other both rest joined apart stand.shared;
    above = λ more grown order. let (w, w_is, goes_on) = stand.above more grown order in (w, parted part other both rest joined w w_is, goes_on);
    reached = λ more some w grown w_is are goes_on. stand.reached more some w grown (united part other both rest joined w w_is) are goes_on;
  },
)
