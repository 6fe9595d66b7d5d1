-- Calls that are alike at some keys.
use Rattle.follow_laws.proofs.Common.{◌≡◌, ℕ, true, false, List, [], ◌∷◌, Option, None, inl, inr, sym, ◌∙◌, subst, ⊎_elim, ◌≢◌, ◌⊎◌, Contains}
use Rattle.follow_laws.proofs.Common.{All-contains, AllPairs-cons, AllPairs-nil, AllPairs-head, AllPairs-tail, All-from_contains, Contains-nil}
use Rattle.follow_laws.proofs.Common.{Contains-first, Contains-later, Contains-cases, KeyedCall, ends_before, precedes, is_completed, FitInTurn}
use Rattle.follow_laws.proofs.Common.{AreDistinct, KeepPrecedence, IsKeyedOrder, HasKeyedOrder, Keys, IsAlikeAt, AlikeCallsDecide, AllZip}
use Rattle.std.proofs.Common.{is_some}
use Rattle.follow_laws.proofs.DeadLemmas.{bool_cases}
use Rattle.follow_laws.proofs.OrderLemmas.{same_call}

-- a list of calls, and of such as are alike, one for each
record AreInStead (R : KeyedCall → KeyedCall → Type 0) (old new : List KeyedCall) : Type 0 where
  zip : AllZip R old new
  from : (b : KeyedCall) → Contains new b → (a : KeyedCall) × Contains old a × R a b
  to : (a : KeyedCall) → Contains old a → (b : KeyedCall) × Contains new b × R a b
  distinct : AreDistinct new
  precedence : KeepPrecedence new

-- calls with the same places
record HaveSamePlaces (a b : KeyedCall) : Type 0 where
  inv : b.inv ≡ a.inv
  res : b.res ≡ a.res

same_precedes : (a b x y : KeyedCall) → HaveSamePlaces a x → HaveSamePlaces b y → precedes b a ≡ false → precedes y x ≡ false
same_precedes a b x y xa yb h =
    subst (λ (r : Option ℕ). ends_before r x.inv ≡ false) (sym yb.res) (subst (λ (n : ℕ). ends_before b.res n ≡ false) (sym xa.inv) h)

in_stead : (R : KeyedCall → KeyedCall → Type 0) (calls : List KeyedCall) (order : List KeyedCall)
    → ((a b : KeyedCall) → R a b → HaveSamePlaces a b) → ((a : KeyedCall) → Contains order a → (b : KeyedCall) × Contains calls b × R a b)
    → AreDistinct order → KeepPrecedence order
    → (new : List KeyedCall) × AreInStead R order new × ((b : KeyedCall) → Contains new b → Contains calls b)
in_stead R calls [] places each distinct keep = (
  [],
  record {
    zip = tt;
    from = λ b b_in. absurd (Contains-nil b b_in);
    to = λ a a_in. absurd (Contains-nil a a_in);
    distinct = AllPairs-nil (λ x y. x.inv ≢ y.inv);
    precedence = AllPairs-nil (λ x y. precedes y x ≡ false);
  },
  λ b b_in. absurd (Contains-nil b b_in),
)
in_stead R calls (a ∷ order) places each distinct keep =
    let (b, b_in, b_is) = each a (Contains-first a order) in
    let (new, rest, inside) = in_stead R calls order places (λ x x_in. each x (Contains-later a order x x_in))
    (AllPairs-tail (λ x y. x.inv ≢ y.inv) a order distinct) (AllPairs-tail (λ x y. precedes y x ≡ false) a order keep) in (
      b ∷ new,
      record {
        zip = (b_is, rest.zip);
        from = λ y y_in. ⊎_elim (λ same. (a, Contains-first a order, subst (λ (z : KeyedCall). R a z) same b_is))
            (λ later. let (x, x_in, x_is) = rest.from y later in (x, Contains-later a order x x_in, x_is)) (Contains-cases b new y y_in);
        to = λ x x_in. ⊎_elim (λ same. (b, Contains-first b new, subst (λ (z : KeyedCall). R z b) same b_is))
            (λ later. let (y, y_in, y_is) = rest.to x later in (y, Contains-later b new y y_in, y_is)) (Contains-cases a order x x_in);
        distinct = AllPairs-cons (λ x y. x.inv ≢ y.inv) b new
            (All-from_contains (λ y. b.inv ≢ y.inv) new (λ y y_in same.
            let (x, x_in, x_is) = rest.from y y_in in
            All-contains (λ z. a.inv ≢ z.inv) order x (AllPairs-head (λ z w. z.inv ≢ w.inv) a order distinct) x_in
            (sym (places a b b_is).inv ∙ same ∙ (places x y x_is).inv)))
            rest.distinct;
        precedence = AllPairs-cons (λ x y. precedes y x ≡ false) b new
            (All-from_contains (λ y. precedes y b ≡ false) new (λ y y_in.
            let (x, x_in, x_is) = rest.from y y_in in
            same_precedes a x b y (places a b b_is) (places x y x_is)
            (All-contains (λ z. precedes z a ≡ false) order x (AllPairs-head (λ z w. precedes w z ≡ false) a order keep) x_in)))
            rest.precedence;
      },
      λ y y_in. ⊎_elim (λ same. subst (λ (z : KeyedCall). Contains calls z) same b_in) (λ later. inside y later) (Contains-cases b new y y_in),
    )

-- at keys of the set both fit alike
fit_there : (keys : Keys) (key : ℕ) → keys key ≡ true → (old new : List KeyedCall) (value : Option ℕ)
    → AllZip (λ a b. IsAlikeAt keys a b) old new → FitInTurn key value old → FitInTurn key value new
fit_there keys key is [] [] value zip fit = tt
fit_there keys key is [] (b ∷ new) value zip fit = absurd zip
fit_there keys key is (a ∷ old) [] value zip fit = absurd zip
fit_there keys key is (a ∷ old) (b ∷ new) value zip fit = (
  zip.0.fits key value is ∙ fit.0,
  subst (λ (v : Option ℕ). FitInTurn key v new) (sym (zip.0.leaves key value is)) (fit_there keys key is old new ((a.effect key).leaves value) zip.1 fit.1),
)

fit_back : (keys : Keys) (key : ℕ) → keys key ≡ true → (old new : List KeyedCall) (value : Option ℕ)
    → AllZip (λ b a. IsAlikeAt keys a b) old new → FitInTurn key value old → FitInTurn key value new
fit_back keys key is [] [] value zip fit = tt
fit_back keys key is [] (b ∷ new) value zip fit = absurd zip
fit_back keys key is (a ∷ old) [] value zip fit = absurd zip
fit_back keys key is (a ∷ old) (b ∷ new) value zip fit = (
  sym (zip.0.fits key value is) ∙ fit.0,
  subst (λ (v : Option ℕ). FitInTurn key v new) (zip.0.leaves key value is) (fit_back keys key is old new ((a.effect key).leaves value) zip.1 fit.1),
)

-- at keys outside of the set all calls fit nothing
fit_none : (keys : Keys) (key : ℕ) → keys key ≡ false → (new : List KeyedCall)
    → ((b : KeyedCall) → Contains new b → (a : KeyedCall) × IsAlikeAt keys a b) → FitInTurn key None new
fit_none keys key is [] each = tt
fit_none keys key is (b ∷ new) each =
    let (a, alike) = each b (Contains-first b new) in (
      alike.fits_none key is,
      subst (λ (v : Option ℕ). FitInTurn key v new) (sym (alike.leaves_none key is))
          (fit_none keys key is new (λ c c_in. each c (Contains-later b new c c_in))),
    )

fit_nothing : (keys : Keys) (key : ℕ) → keys key ≡ false → (new : List KeyedCall) (value : Option ℕ)
    → ((a : KeyedCall) → Contains new a → (b : KeyedCall) × IsAlikeAt keys a b) → FitInTurn key value new
fit_nothing keys key is [] value each = tt
fit_nothing keys key is (a ∷ new) value each =
    let (b, alike) = each a (Contains-first a new) in
    ((alike.none key is).fits value, fit_nothing keys key is new ((a.effect key).leaves value) (λ c c_in. each c (Contains-later a new c c_in)))

same_end : (a b : KeyedCall) → b.res ≡ a.res → is_completed b ≡ true → is_completed a ≡ true
same_end a b same completed = subst (λ (r : Option ℕ). is_some r ≡ true) same completed

pub alike_decide : AlikeCallsDecide
alike_decide keys held other calls alike are =
    (λ some. forth some.0 some.1, λ some. back some.0 some.1)
  where
    forth : (order : List KeyedCall) → IsKeyedOrder held calls order → HasKeyedOrder other alike
    forth order is =
        let (new, stead, inside) = in_stead (λ a b. IsAlikeAt keys a b) alike order (λ a b r. record { inv = r.inv; res = r.res })
        (λ a a_in. are.there a (is.known a a_in)) is.distinct is.precedence in (
          new,
          record {
            known = inside;
            distinct = stead.distinct;
            precedence = stead.precedence;
            complete = λ b b_in completed.
                let (a, a_in, a_is) = are.back b b_in in
                let (c, c_in, c_is) = stead.to a (is.complete a a_in (same_end a b a_is.res completed)) in
                let same : c ≡ b = same_call alike c b are.other_one (inside c c_in) b_in (c_is.inv ∙ sym a_is.inv) in
                subst (λ (z : KeyedCall). Contains new z) same c_in;
            fit = λ key. by_key key (bool_cases (keys key)) new stead;
          },
        )
      where
        by_key : (key : ℕ) → (keys key ≡ true) ⊎ (keys key ≡ false) → (new : List KeyedCall)
            → AreInStead (λ a b. IsAlikeAt keys a b) order new → FitInTurn key (other key) new
        by_key key (inl here) new stead = subst (λ (v : Option ℕ). FitInTurn key v new) (sym (are.same key here))
            (fit_there keys key here order new (held key) stead.zip (is.fit key))
        by_key key (inr out) new stead = subst (λ (v : Option ℕ). FitInTurn key v new) (sym (are.nothing key out))
            (fit_none keys key out new (λ b b_in. let (a, a_in, a_is) = stead.from b b_in in (a, a_is)))

    back : (order : List KeyedCall) → IsKeyedOrder other alike order → HasKeyedOrder held calls
    back order is =
        let (new, stead, inside) = in_stead (λ b a. IsAlikeAt keys a b) calls order (λ b a r. record { inv = sym r.inv; res = sym r.res })
        (λ b b_in. are.back b (is.known b b_in)) is.distinct is.precedence in (
          new,
          record {
            known = inside;
            distinct = stead.distinct;
            precedence = stead.precedence;
            complete = λ a a_in completed.
                let (b, b_in, b_is) = are.there a a_in in
                let (c, c_in, c_is) = stead.to b (is.complete b b_in (same_end b a (sym b_is.res) completed)) in
                let same : c ≡ a = same_call calls c a are.one (inside c c_in) a_in (sym c_is.inv ∙ b_is.inv) in
                subst (λ (z : KeyedCall). Contains new z) same c_in;
            fit = λ key. by_key key (bool_cases (keys key)) new stead;
          },
        )
      where
        by_key : (key : ℕ) → (keys key ≡ true) ⊎ (keys key ≡ false) → (new : List KeyedCall)
            → AreInStead (λ b a. IsAlikeAt keys a b) order new → FitInTurn key (held key) new
        by_key key (inl here) new stead =
            fit_back keys key here order new (held key) stead.zip (subst (λ (v : Option ℕ). FitInTurn key v order) (are.same key here) (is.fit key))
        by_key key (inr out) new stead =
            fit_nothing keys key out new (held key) (λ a a_in. let (b, b_in, b_is) = stead.from a a_in in (b, b_is))
