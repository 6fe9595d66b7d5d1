-- Many sets of keys, judged one after another.
use Rattle.follow_laws.proofs.Common.{◌≡◌, ℕ, ◌<◌, Bool, true, false, not, ◌&&◌, cond, List, [], ◌∷◌, map, Option, inl, inr, refl, sym, ap, ◌∙◌}
use Rattle.follow_laws.proofs.Common.{subst, ⊎_elim, ◌≢◌, ◌⊎◌, All, AllPairs, Contains, and_parts, All-nil, All-cons, All-head, All-tail}
use Rattle.follow_laws.proofs.Common.{All-contains, All-map, Contains-from_map, AllPairs-map, AllPairs-nil, AllPairs-head, AllPairs-tail}
use Rattle.follow_laws.proofs.Common.{All-from_contains, Contains-nil, KeyedCall, Effect, IsNoEffect, IsFormed, no_effect, precedes, HasKeyedOrder}
use Rattle.follow_laws.proofs.Common.{AreKeyedCalls, Keys, only, other_keys, IsQuiet, IsUndisturbed, Parts, AreApart, AreParts, PartsJudge}
use mathlib.Core.Path.{fun_ext}
use Rattle.follow_laws.proofs.ApartLemmas.{some_refute, sets_judge}
use Rattle.follow_laws.proofs.DeadLemmas.{bool_cases}
use Rattle.follow_laws.proofs.NoneLemmas.{effects_decide}
use Rattle.follow_laws.proofs.EffectRestLemmas.{none_none}

-- what a call has at some keys, it has at fewer of them
and_false : (t : Bool) (c : Bool) → c ≡ false → (t && c) ≡ false
and_false true c is = is
and_false false c is = refl

pub none_at : (t : Bool) (e : Effect) → IsNoEffect e → IsNoEffect (cond t e no_effect)
none_at true e none = none
none_at false e none = none_none

none_out : (t : Bool) (e : Effect) → t ≡ false → IsNoEffect (cond t e no_effect)
none_out t e is = rw is none_none

formed_only : (keys : Keys) (a : KeyedCall) → IsFormed a → IsFormed (only keys a)
formed_only keys a formed = record {
  elsewhere = λ key is. by_key key is (bool_cases (keys key));
  refusal = λ refused key. none_at (keys key) (a.effect key) (formed.refusal refused key);
}
  where
    by_key : (key : ℕ) → (keys key && a.concerns key) ≡ false → (keys key ≡ true) ⊎ (keys key ≡ false)
        → IsNoEffect (cond (keys key) (a.effect key) no_effect)
    by_key key is (inr out) = none_out (keys key) (a.effect key) out
    by_key key is (inl there) = none_at (keys key) (a.effect key) (formed.elsewhere key (rw there at is))

quiet_only : (keys : Keys) (a : KeyedCall) (key : ℕ) → IsQuiet a key → IsQuiet (only keys a) key
quiet_only keys a key quiet = by_key (bool_cases (keys key))
  where
    by_key : (keys key ≡ true) ⊎ (keys key ≡ false) → IsQuiet (only keys a) key
    by_key (inl is) value fits = rw is (quiet value (rw is at fits))
    by_key (inr is) value fits = rw is refl

module _ (out : Keys) (calls : List KeyedCall) where
  undisturbed_only : (keys : Keys) (s : KeyedCall) → IsUndisturbed keys calls s → IsUndisturbed keys (map (only out) calls) (only out s)
  undisturbed_only keys s still b key b_in is there =
      let (a, a_in, a_is) = Contains-from_map (only out) calls b b_in in
      let concerns : s.concerns key ≡ true = (and_parts (out key) (s.concerns key) there).1 in
      ⊎_elim (λ quiet. inl (subst (λ (z : KeyedCall). IsQuiet z key) a_is (quiet_only out a key quiet)))
      (λ some. inr (⊎_elim (λ first. inl (subst (λ (z : KeyedCall). precedes z s ≡ true) a_is first))
      (λ last. inr (subst (λ (z : KeyedCall). precedes s z ≡ true) a_is last)) some))
      (still a key a_in is concerns)

  parts_only : (keys : Keys) (s : KeyedCall) → Parts keys calls s → Parts keys (map (only out) calls) (only out s)
  parts_only keys s (inl within) = inl (λ key is. and_false (out key) (s.concerns key) (within key is))
  parts_only keys s (inr (inl outside)) = inr (inl (λ key is. and_false (out key) (s.concerns key) (outside key is)))
  parts_only keys s (inr (inr (read, some))) =
      inr (inr (
        λ key. quiet_only out s key (read key),
        ⊎_elim (λ pending. inl pending)
            (λ more. inr (⊎_elim (λ here. inl (undisturbed_only keys s here)) (λ there. inr (undisturbed_only (other_keys keys) s there)) more)) some,
      ))

-- at keys of one set, leaving out the keys of another set that is apart from it changes nothing
concerns_less : (l k c : Bool) → (l ≡ true → k ≡ false) → (l && (not k && c)) ≡ (l && c)
concerns_less true k c apart = rw (apart refl) refl
concerns_less false k c apart = refl

effect_less : (l k : Bool) (e : Effect) → (l ≡ true → k ≡ false) → cond l (cond (not k) e no_effect) no_effect ≡ cond l e no_effect
effect_less true k e apart = rw (apart refl) refl
effect_less false k e apart = refl

only_less : (keys others : Keys) (a : KeyedCall) → AreApart keys others → only others (only (other_keys keys) a) ≡ only others a
only_less keys others a apart =
    ap (λ (c : ℕ → Bool). made c (λ (key : ℕ). cond (others key) (cond (not (keys key)) (a.effect key) no_effect) no_effect))
    (fun_ext (λ (key : ℕ). concerns_less (others key) (keys key) (a.concerns key) (back key)))
    ∙ ap (λ (e : ℕ → Effect). made (λ (key : ℕ). others key && a.concerns key) e)
    (fun_ext (λ (key : ℕ). effect_less (others key) (keys key) (a.effect key) (back key)))
  where
    made : (ℕ → Bool) → (ℕ → Effect) → KeyedCall
    made c e = record { inv = a.inv; res = a.res; refused = a.refused; concerns = c; effect = e }

    back : (key : ℕ) → others key ≡ true → keys key ≡ false
    back key is = by_key (bool_cases (keys key))
      where
        by_key : (keys key ≡ true) ⊎ (keys key ≡ false) → keys key ≡ false
        by_key (inr not_so) = not_so
        by_key (inl both) = let never : others key ≡ false = apart key both in cc

map_less : (keys others : Keys) (calls : List KeyedCall) → AreApart keys others
    → map (only others) (map (only (other_keys keys)) calls) ≡ map (only others) calls
map_less keys others [] apart = refl
map_less keys others (a ∷ calls) apart =
    ap (λ (z : KeyedCall). z ∷ map (only others) (map (only (other_keys keys)) calls)) (only_less keys others a apart)
    ∙ ap (λ (zs : List KeyedCall). only others a ∷ zs) (map_less keys others calls apart)

orders_less : (held : ℕ → Option ℕ) (keys : Keys) (parts : List Keys) (calls : List KeyedCall) → All (AreApart keys) parts
    → All (λ others. HasKeyedOrder held (map (only others) calls)) parts
    → All (λ others. HasKeyedOrder held (map (only others) (map (only (other_keys keys)) calls))) parts
orders_less held keys parts calls apart orders =
    All-from_contains (λ others. HasKeyedOrder held (map (only others) (map (only (other_keys keys)) calls))) parts (λ others is.
    subst (λ (xs : List KeyedCall). HasKeyedOrder held xs) (sym (map_less keys others calls (All-contains (AreApart keys) parts others apart is)))
    (All-contains (λ some. HasKeyedOrder held (map (only some) calls)) parts others orders is))

keyed_only : (keys : Keys) (calls : List KeyedCall) → AreKeyedCalls calls → AreKeyedCalls (map (only keys) calls)
keyed_only keys calls keyed = record {
  distinct = AllPairs-map (λ a b. a.inv ≢ b.inv) (only keys) calls keyed.distinct;
  last = All-map (λ a. precedes a a ≡ false) (only keys) calls keyed.last;
}

are_parts_only : (keys : Keys) (parts : List Keys) (calls : List KeyedCall) → AreParts (keys ∷ parts) calls
    → AreParts parts (map (only (other_keys keys)) calls)
are_parts_only keys parts calls are = record {
  apart = AllPairs-tail AreApart keys parts are.apart;
  parted = All-from_contains (λ some. All (Parts some (map (only (other_keys keys)) calls)) (map (only (other_keys keys)) calls)) parts (λ others is.
      All-from_contains (Parts others (map (only (other_keys keys)) calls)) (map (only (other_keys keys)) calls) (λ b b_in.
      let (a, a_in, a_is) = Contains-from_map (only (other_keys keys)) calls b b_in in
      subst (λ (z : KeyedCall). Parts others (map (only (other_keys keys)) calls) z) a_is
      (parts_only (other_keys keys) calls others a
      (All-contains (Parts others calls) calls a
      (All-contains (λ some. All (Parts some calls) calls) parts others (All-tail (λ some. All (Parts some calls) calls) keys parts are.parted) is)
      a_in))));
  elsewhere = λ b key b_in out.
      let (a, a_in, a_is) = Contains-from_map (only (other_keys keys)) calls b b_in in
      subst (λ (z : KeyedCall). IsNoEffect (z.effect key)) a_is (by_key key a a_in out (bool_cases (keys key)));
}
  where
    by_key : (key : ℕ) (a : KeyedCall) → Contains calls a → All (λ some. some key ≡ false) parts → (keys key ≡ true) ⊎ (keys key ≡ false)
        → IsNoEffect (cond (not (keys key)) (a.effect key) no_effect)
    by_key key a a_in out (inl is) = rw is none_none
    by_key key a a_in out (inr is) =
        rw is (are.elsewhere a key a_in (All-cons (λ some. some key ≡ false) keys parts is out))

whole_judged : (held : ℕ → Option ℕ) (parts : List Keys) (calls : List KeyedCall) → AreKeyedCalls calls
    → AllPairs (λ a b. a.inv < b.inv) calls → All IsFormed calls → AreParts parts calls
    → All (λ keys. HasKeyedOrder held (map (only keys) calls)) parts → HasKeyedOrder held calls
whole_judged held [] calls keyed rising formed are orders =
    effects_decide held [] calls keyed rising (λ a a_in. absurd (Contains-nil a a_in))
    (λ a a_in. inl (λ key. are.elsewhere a key a_in (All-nil (λ keys. keys key ≡ false)))) (
      [],
      record {
        known = λ a is. is;
        distinct = AllPairs-nil (λ a b. a.inv ≢ b.inv);
        precedence = AllPairs-nil (λ a b. precedes b a ≡ false);
        complete = λ a is completed. is;
        fit = λ key. tt;
      },
    )
whole_judged held (keys ∷ parts) calls keyed rising formed are orders =
    (sets_judge held keys calls keyed formed (All-head (λ some. All (Parts some calls) calls) keys parts are.parted)).1 (
      All-head (λ some. HasKeyedOrder held (map (only some) calls)) keys parts orders,
      whole_judged held parts (map (only (other_keys keys)) calls) (keyed_only (other_keys keys) calls keyed)
          (AllPairs-map (λ a b. a.inv < b.inv) (only (other_keys keys)) calls rising)
          (All-map IsFormed (only (other_keys keys)) calls
          (All-from_contains (λ a. IsFormed (only (other_keys keys) a)) calls (λ a a_in.
          formed_only (other_keys keys) a (All-contains IsFormed calls a formed a_in))))
          (are_parts_only keys parts calls are)
          (orders_less held keys parts calls (AllPairs-head AreApart keys parts are.apart)
          (All-tail (λ some. HasKeyedOrder held (map (only some) calls)) keys parts orders)),
    )

pub parts_judge : PartsJudge
parts_judge held parts calls keyed rising formed are = (
  λ order. All-from_contains (λ keys. HasKeyedOrder held (map (only keys) calls)) parts (λ keys is. some_refute held keys calls order),
  λ orders. whole_judged held parts calls keyed rising formed are orders,
)
