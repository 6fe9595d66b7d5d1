-- Small calls that refute what goes further than the laws.
use Rattle.follow_laws.proofs.Common.{◌≡◌, ℕ, ◌<◌, true, false, List, [], ◌∷◌, Option, Some, None, inl, inr, refl, sym, subst, ⊎_elim, arith, ◌≢◌}
use Rattle.follow_laws.proofs.Common.{All, Contains, All-nil, All-cons, none-some, same_Some, AllPairs-nil, All-from_contains, Contains-nil}
use Rattle.follow_laws.proofs.Common.{Contains-first, Contains-cases, AllPairs-cons, KeyedCall, IsFormed, precedes, is_same_value, FitInTurn}
use Rattle.follow_laws.proofs.Common.{AreDistinct, AreKeyedCalls, HasKeyedOrder, HaveGrown, Choice, among, at_first, Agrees, GoesOn, LoseNoOrder}
use Rattle.follow_laws.proofs.Common.{AliveMayDie, AboveIsNoYes, BelowIsNoNo}
use Rattle.follow_laws.proofs.ChoiceLemmas.{map_same}
use Rattle.follow_laws.proofs.DeadLemmas.{dead_stay_dead}
use Rattle.follow_laws.proofs.EffectLemmas.{same_values}

-- a get of key 0 that returned 5, while the keys hold nothing
abbrev told_five : KeyedCall
told_five = record {
  inv = 0;
  res = Some 1;
  refused = false;
  concerns = λ key. true;
  effect = λ key. record { fits = is_same_value (Some 5); leaves = λ value. value };
}

abbrev nothing : ℕ → Option ℕ
nothing key = None

-- this get has no order
never : HasKeyedOrder nothing (told_five ∷ []) → ⊥
never (order, is) = by_order order (is.complete told_five (Contains-first told_five []) refl) (is.fit 0) is.known
  where
    by_order : (xs : List KeyedCall) → Contains xs told_five → FitInTurn 0 None xs
        → ((a : KeyedCall) → Contains xs a → Contains (told_five ∷ []) a) → ⊥
    by_order [] x_in fit known = Contains-nil told_five x_in
    by_order (x ∷ xs) x_in fit known =
        ⊎_elim
        (λ same. let here : (x.effect 0).fits None ≡ true = fit.0 in
        let there : (told_five.effect 0).fits None ≡ true = subst (λ (y : KeyedCall). (y.effect 0).fits None ≡ true) (sym same) here in cc)
        (λ later. Contains-nil x later)
        (Contains-cases told_five [] x (known x (Contains-first x xs)))

formed : All IsFormed (told_five ∷ [])
formed = All-cons IsFormed told_five [] (record { elsewhere = λ key never. cc; refusal = λ never. cc }) (All-nil IsFormed)

alone : AreDistinct (told_five ∷ [])
alone = AllPairs-cons (λ x y. x.inv ≢ y.inv) told_five [] (All-nil (λ y. told_five.inv ≢ y.inv)) (AllPairs-nil (λ x y. x.inv ≢ y.inv))

apart : AreKeyedCalls (told_five ∷ [])
apart = record {
  distinct = alone;
  last = All-cons (λ a. precedes a a ≡ false) told_five [] refl (All-nil (λ a. precedes a a ≡ false));
}

-- this get may come after no events
comes : HaveGrown 0 [] (told_five ∷ [])
comes = record {
  begun = All-nil (λ a. a.inv < 0);
  ended = λ a res a_in is. absurd (Contains-nil a a_in);
  stay = λ a a_in. absurd (Contains-nil a a_in);
  come = λ b b_in. inr (omega arith);
  alone = AllPairs-nil (λ x y. x.inv ≢ y.inv);
  formed = formed;
  apart = apart;
}

-- the call may stay as it is after further events
stays : HaveGrown 2 (told_five ∷ []) (told_five ∷ [])
stays = record {
  begun = All-cons (λ a. a.inv < 2) told_five [] (omega arith) (All-nil (λ a. a.inv < 2));
  ended = λ a res a_in is. ⊎_elim
      (λ same. let here : Some 1 ≡ Some res = subst (λ (y : KeyedCall). y.res ≡ Some res) (sym same) is in
      let one : 1 ≡ res = same_Some 1 res here in omega arith)
      (λ later. absurd (Contains-nil a later)) (Contains-cases told_five [] a a_in);
  stay = λ a a_in. (a, a_in, record { inv = refl; concerns = λ key. refl; response = inl refl });
  come = λ b b_in. inl (b, b_in, record { inv = refl; concerns = λ key. refl; response = inl refl });
  alone = alone;
  formed = formed;
  apart = apart;
}

pub may_die : AliveMayDie
may_die rule =
    let alive : GoesOn (at_first nothing) [] = (
      All-nil (Agrees (at_first nothing)),
      (
        [],
        record {
          known = λ a a_in. absurd (Contains-nil a a_in);
          distinct = AllPairs-nil (λ x y. x.inv ≢ y.inv);
          precedence = AllPairs-nil (λ x y. precedes y x ≡ false);
          complete = λ a a_in completed. absurd (Contains-nil a a_in);
          fit = λ key. tt;
        },
      ),
    ) in
    never (rule 0 [] (told_five ∷ []) (at_first nothing) comes alive).1

-- the order of the call, if the keys hold 5
fives : ℕ → Option ℕ
fives key = Some 5

order_of_five : (held : ℕ → Option ℕ) → ((key : ℕ) → held key ≡ Some 5) → HasKeyedOrder held (told_five ∷ [])
order_of_five held five = (
  told_five ∷ [],
  record {
    known = λ a a_in. a_in;
    distinct = alone;
    precedence = AllPairs-cons (λ x y. precedes y x ≡ false) told_five [] (All-nil (λ y. precedes y told_five ≡ false))
        (AllPairs-nil (λ x y. precedes y x ≡ false));
    complete = λ a a_in completed. a_in;
    fit = λ key. ((same_values (Some 5) (held key)).1 (sym (five key)), tt);
  },
)

pub no_yes : AboveIsNoYes
unfolding fives
no_yes rule =
    let choices : ℕ → Option Choice = λ n. Some (at_first fives) in
    let above : LoseNoOrder nothing 2 (told_five ∷ []) (among choices) = λ more grown order.
    let goes_on : GoesOn (at_first nothing) more = (
      All-from_contains (Agrees (at_first nothing)) more (λ a a_in.
          record { accepted = λ key taken. cc; fits = λ key taken. cc }),
      subst (λ (calls : List KeyedCall). HasKeyedOrder nothing calls) (sym (map_same more nothing)) order,
    ) in
    absurd (never (dead_stay_dead 2 (told_five ∷ []) more (at_first nothing) grown goes_on).1) in
    never (rule nothing 2 (told_five ∷ []) choices stays above (
      at_first fives,
      (0, refl),
      (
        All-from_contains (Agrees (at_first fives)) (told_five ∷ []) (λ a a_in. record { accepted = λ key taken. cc; fits = λ key taken. cc }),
        order_of_five fives (λ key. refl),
      ),
    ))

pub no_no : BelowIsNoNo
unfolding fives
no_no rule =
    let choices : ℕ → Option Choice = λ n. None in
    rule fives 2 (told_five ∷ []) choices stays
    (λ more grown some. absurd (none-some some.0 some.1.1))
    (λ some. absurd (none-some some.0 some.1.1))
    (order_of_five fives (λ key. refl))
