-- Two parts become one of all pairs of their pasts: `both_past`. And one falls apart: `first_past`, `second_past`.
use Rattle.follow_laws.proofs.Common.{◌≡◌, ℕ, Bool, true, false, not, ◌&&◌, ◌||◌, cond, List, [], ◌∷◌, ◌++◌, map, Option, append-nil, inl, inr, refl}
use Rattle.follow_laws.proofs.Common.{sym, ◌∙◌, subst, ⊎_elim, ◌⊎◌, Contains, AllZip, and_parts, or_from, or_left, or_right, or_cases}
use Rattle.follow_laws.proofs.Common.{false_from_ne_true, All-contains, Contains-append_left, Contains-append_right, Contains-append_cases}
use Rattle.follow_laws.proofs.Common.{All-from_contains, Contains-nil, Contains-first, Contains-later, Contains-cases, Contains-around, Operation}
use Rattle.follow_laws.proofs.Common.{Contents, value_at, KeyedCall, keyed, AreDistinct, Choice, Keys, AreApart, IsAlikeAt, Part, IsAt, Represent}
use Rattle.follow_laws.proofs.Common.{left_at, AreJoined, AreOfLeftCalls, IsLeft, HasKeysIn, KeptPast, AreFound, AreAllKept, IsPast, ArePasts}
use Rattle.follow_laws.proofs.Common.{AreKeptAlike, Contains-map, Contains-from_map, both_keys, IsTogether, ArePairs, PastsUnite, FallsApart}
use Rattle.follow_laws.proofs.Common.{PastsFallApart}
use Rattle.follow_laws.proofs.DeadLemmas.{bool_cases}
use Rattle.follow_laws.proofs.EventLemmas.{not_both, middle, beside}
use Rattle.follow_laws.proofs.OrderLemmas.{same_call}
use Rattle.follow_laws.proofs.PartLemmas.{instead, instead_here, instead_there}
use Rattle.follow_laws.proofs.StepLemmas.{parts_unite}
use mathlib.Core.Path.{fun_ext}
use Rattle.follow_laws.proofs.UniteLemmas.{left_calls_unite, left_calls_part}
use Rattle.follow_laws.proofs.KeptAlikeLemmas.{alike_pasts_stand}
use Rattle.follow_laws.proofs.DropLemmas.{pasts_in_any_order}
use Rattle.follow_laws.proofs.OnePastLemmas.{IsFit, AreKnown, fit_of, left_of, past_from}

-- an operation that is left is alike to the call of its name
shown_by_name : (keys : Keys) (past : Choice) (calls : List KeyedCall) (left : List Operation) → AreDistinct calls
    → AreOfLeftCalls keys past calls left → (a : KeyedCall) (o : Operation) → Contains calls a → Contains left o → o.inv ≡ a.inv
    → IsAlikeAt keys (left_at keys past a) (keyed o)
shown_by_name keys past calls left distinct owned a o a_in o_in same =
    let (c, c_in, accepted, some, alike) = owned o o_in in
    subst (λ (z : KeyedCall). IsAlikeAt keys (left_at keys past z) (keyed o)) (same_call calls c a distinct c_in a_in (sym alike.inv ∙ same)) alike

-- ---- two pasts together

apart_back : (keys others : Keys) → AreApart keys others → AreApart others keys
apart_back keys others apart key there = false_from_ne_true (keys key) (λ here. not_both (others key) there (apart key here))

-- an operation of one set of keys is known at both: calls of its name concern no other keys
joined_fit : (keys others both : Keys) (calls : List KeyedCall) (past other w : Choice) (o : Operation)
    → ((key : ℕ) → both key ≡ true → (keys key ≡ true) ⊎ (others key ≡ true)) → ((key : ℕ) → keys key ≡ true → both key ≡ true)
    → AreApart keys others → IsAt keys past w → IsAt others other w → AreKnown others other calls → IsFit keys calls past o → IsFit both calls w o
joined_fit keys others both calls past other w o side in_both apart here there known fit = record {
  own = fit.own;
  within = λ key concerned. in_both key (fit.within key concerned);
  point = fit.point;
  untaken = λ key is. ⊎_elim
      (λ first. here.taken o.inv key first ∙ fit.untaken key first)
      (λ second. false_from_ne_true (w.taken o.inv key) (λ taken.
      let (a, a_in, same, concerned) = known o.inv key second (sym (there.taken o.inv key second) ∙ taken) in
      not_both (others key) second (apart key (fit.within key (fit.own a a_in same key concerned)))))
      (side key is);
}

module _ (keys others : Keys) (calls : List KeyedCall) (a b c : KeptPast) (past other w : Choice) (distinct : AreDistinct calls)
    (apart : AreApart keys others) (together : IsTogether keys a b c) (here : IsAt keys past w) (there : IsAt others other w)
    (first : IsPast keys calls a past) (second : IsPast others calls b other) where
  side : (key : ℕ) → both_keys keys others key ≡ true → (keys key ≡ true) ⊎ (others key ≡ true)
  side key is = or_cases (keys key) (others key) is

  both_left : IsLeft (both_keys keys others) w 0 calls c.pairs c.left
  both_left =
      left_calls_unite keys others past other w 0 calls a.pairs b.pairs c.pairs a.left b.left c.left here there first.within second.within
      together.together (left_of keys calls a past first) (left_of others calls b other second)

  both_fit : (o : Operation) → Contains c.left o → IsFit (both_keys keys others) calls w o
  both_fit o o_in = ⊎_elim
      (λ l. joined_fit keys others (both_keys keys others) calls past other w o side (λ key is. or_left (keys key) (others key) is) apart here there
      second.known (fit_of keys calls a past first o l))
      (λ r. joined_fit others keys (both_keys keys others) calls other past w o (λ key is. ⊎_elim (λ e. inr e) (λ e. inl e) (side key is))
      (λ key is. or_right (keys key) (others key) is) (apart_back keys others apart) there here first.known (fit_of others calls b other second o r))
      (together.together.from o o_in)

  both_whole : AreAllKept (both_keys keys others) w calls c.left
  both_whole x x_in accepted (key, is, some) = ⊎_elim
      (λ e. ⊎_elim
      (λ shown. let (o, o_in, alike) = shown in inl (
        o,
        together.together.first o o_in,
        shown_by_name (both_keys keys others) w calls c.left distinct both_left.owned x o x_in (together.together.first o o_in) alike.inv,
      ))
      (λ read. inr read)
      (first.whole x x_in accepted (key, e, subst (λ (t : Bool). (not t && x.concerns key) ≡ true) (here.taken x.inv key e) some)))
      (λ e. ⊎_elim
      (λ shown. let (o, o_in, alike) = shown in inl (
        o,
        together.together.second o o_in,
        shown_by_name (both_keys keys others) w calls c.left distinct both_left.owned x o x_in (together.together.second o o_in) alike.inv,
      ))
      (λ read. inr read)
      (second.whole x x_in accepted (key, e, subst (λ (t : Bool). (not t && x.concerns key) ≡ true) (there.taken x.inv key e) some)))
      (side key is)

  both_known : AreKnown (both_keys keys others) w calls
  both_known inv key is taken = ⊎_elim
      (λ e. first.known inv key e (sym (here.taken inv key e) ∙ taken))
      (λ e. second.known inv key e (sym (there.taken inv key e) ∙ taken))
      (side key is)

  both_found : AreFound (both_keys keys others) w calls c.found
  both_found = record {
    right = λ f f_in. ⊎_elim
        (λ l.
        let (e, taken, value) = first.found.right f l in (
          or_left (keys f.key) (others f.key) e,
          here.taken f.inv f.key e ∙ taken,
          here.found f.inv f.key e taken ∙ value,
        ))
        (λ r.
        let (e, taken, value) = second.found.right f r in (
          or_right (keys f.key) (others f.key) e,
          there.taken f.inv f.key e ∙ taken,
          there.found f.inv f.key e taken ∙ value,
        ))
        ((together.found f).0 f_in);
    whole = λ x key x_in pending is taken. ⊎_elim
        (λ e.
        let (f, f_in, named, at) = first.found.whole x key x_in pending e (sym (here.taken x.inv key e) ∙ taken) in
        (f, (together.found f).1 (inl f_in), named, at))
        (λ e.
        let (f, f_in, named, at) = second.found.whole x key x_in pending e (sym (there.taken x.inv key e) ∙ taken) in
        (f, (together.found f).1 (inr f_in), named, at))
        (side key is);
  }

  both_past : IsPast (both_keys keys others) calls c w
  both_past = past_from (both_keys keys others) calls c w both_left both_whole both_fit both_known both_found

-- ---- all pairs of pasts

abbrev pairs_of : Keys → List Choice → List Choice → List Choice
pairs_of keys [] others = []
pairs_of keys (w ∷ pasts) others = map (instead keys w) others ++ pairs_of keys pasts others

in_pairs : (keys : Keys) (pasts others : List Choice) (a b : Choice) → Contains pasts a → Contains others b
    → Contains (pairs_of keys pasts others) (instead keys a b)
in_pairs keys [] others a b a_in b_in = absurd (Contains-nil a a_in)
in_pairs keys (w ∷ pasts) others a b a_in b_in = ⊎_elim
    (λ same. Contains-append_left (map (instead keys w) others) (pairs_of keys pasts others) (instead keys a b)
    (subst (λ (v : Choice). Contains (map (instead keys w) others) (instead keys v b)) same (Contains-map (instead keys w) others b b_in)))
    (λ later. Contains-append_right (map (instead keys w) others) (pairs_of keys pasts others) (instead keys a b)
    (in_pairs keys pasts others a b later b_in))
    (Contains-cases w pasts a a_in)

from_pairs : (keys : Keys) (pasts others : List Choice) (c : Choice) → Contains (pairs_of keys pasts others) c
    → (a : Choice) × (b : Choice) × Contains pasts a × Contains others b × (instead keys a b ≡ c)
from_pairs keys [] others c c_in = absurd (Contains-nil c c_in)
from_pairs keys (w ∷ pasts) others c c_in = ⊎_elim
    (λ first. let (b, b_in, same) = Contains-from_map (instead keys w) others c first in (w, b, Contains-first w pasts, b_in, same))
    (λ second. let (a, b, a_in, b_in, same) = from_pairs keys pasts others c second in (a, b, Contains-later w pasts a a_in, b_in, same))
    (Contains-append_cases (map (instead keys w) others) (pairs_of keys pasts others) c c_in)

joined : (keys others : Keys) (pasts other_pasts : List Choice) → AreApart keys others
    → AreJoined (record { keys = keys; pasts = pasts }) (record { keys = others; pasts = other_pasts })
    (record { keys = both_keys keys others; pasts = pairs_of keys pasts other_pasts })
joined keys others pasts other_pasts apart = record {
  keys = λ key. refl;
  pairs = λ a b a_in b_in.
      (instead keys a b, in_pairs keys pasts other_pasts a b a_in b_in, instead_here keys a b, instead_there keys others a b apart);
  each = λ c c_in.
      let (a, b, a_in, b_in, same) = from_pairs keys pasts other_pasts c c_in in (
        a,
        b,
        a_in,
        b_in,
        subst (λ (w : Choice). IsAt keys a w) same (instead_here keys a b),
        subst (λ (w : Choice). IsAt others b w) same (instead_there keys others a b apart),
      );
}

zip_append : {X Y : Type 0} (R : X → Y → Type 0) (xs more : List X) (ys others : List Y) → AllZip R xs ys → AllZip R more others
    → AllZip R (xs ++ more) (ys ++ others)
zip_append R [] more [] others first second = second
zip_append R [] more (y ∷ ys) others first second = absurd first
zip_append R (x ∷ xs) more [] others first second = absurd first
zip_append R (x ∷ xs) more (y ∷ ys) others first second = (first.0, zip_append R xs more ys others first.1 second)

module _ (keys others : Keys) (calls : List KeyedCall) (distinct : AreDistinct calls) (apart : AreApart keys others) where
  -- one past with each of some
  row_past : (a : KeptPast) (past : Choice) → IsPast keys calls a past → (kept all : List KeptPast) (pasts : List Choice)
      → AllZip (λ b c. IsTogether keys a b c) kept all → ArePasts others calls kept pasts
      → ArePasts (both_keys keys others) calls all (map (instead keys past) pasts)
  row_past a past is [] [] [] zip are = tt
  row_past a past is [] [] (v ∷ pasts) zip are = absurd are
  row_past a past is [] (c ∷ all) pasts zip are = absurd zip
  row_past a past is (b ∷ kept) [] pasts zip are = absurd zip
  row_past a past is (b ∷ kept) (c ∷ all) [] zip are = absurd are
  row_past a past is (b ∷ kept) (c ∷ all) (v ∷ pasts) zip are = (
    both_past keys others calls a b c past v (instead keys past v) distinct apart zip.0 (instead_here keys past v)
        (instead_there keys others past v apart) is are.0,
    row_past a past is kept all pasts zip.1 are.1,
  )

  pairs_past : (kept other_kept all : List KeptPast) (pasts other_pasts : List Choice) → ArePairs keys kept other_kept all
      → ArePasts keys calls kept pasts → ArePasts others calls other_kept other_pasts
      → ArePasts (both_keys keys others) calls all (pairs_of keys pasts other_pasts)
  pairs_past [] other_kept all [] other_pasts pairs first second =
      subst (λ (xs : List KeptPast). ArePasts (both_keys keys others) calls xs []) (sym pairs) tt
  pairs_past [] other_kept all (w ∷ pasts) other_pasts pairs first second = absurd first
  pairs_past (a ∷ kept) other_kept all [] other_pasts pairs first second = absurd first
  pairs_past (a ∷ kept) other_kept all (w ∷ pasts) other_pasts pairs first second =
      let (front, back, parts, row, rest) = pairs in
      subst (λ (xs : List KeptPast). ArePasts (both_keys keys others) calls xs (map (instead keys w) other_pasts ++ pairs_of keys pasts other_pasts))
      (sym parts)
      (zip_append (IsPast (both_keys keys others) calls) front back (map (instead keys w) other_pasts) (pairs_of keys pasts other_pasts)
      (row_past a w first.0 other_kept front other_pasts row second) (pairs_past kept other_kept back pasts other_pasts rest first.1 second))

pub pasts_unite : PastsUnite
pasts_unite held place calls keys others kept other_kept all pasts other_pasts rest grown apart pairs first second stand = (
  pairs_of keys pasts other_pasts,
  pairs_past keys others calls grown.alone apart kept other_kept all pasts other_pasts pairs first second,
  (parts_unite held place calls (record { keys = keys; pasts = pasts }) (record { keys = others; pasts = other_pasts })
      (record { keys = both_keys keys others; pasts = pairs_of keys pasts other_pasts }) rest apart
      (joined keys others pasts other_pasts apart)).0 stand,
)

-- ---- a past falls apart

or_swap : (s t : Bool) → (s || t) ≡ (t || s)
or_swap true true = refl
or_swap true false = refl
or_swap false true = refl
or_swap false false = refl

falls_back : (keys others : Keys) (c a b : KeptPast) → FallsApart keys others c a b → FallsApart others keys c b a
falls_back keys others c a b falls = record {
  pairs = falls.other_pairs;
  other_pairs = falls.pairs;
  rising = falls.other_rising;
  other_rising = falls.rising;
  each = All-from_contains (λ o. HasKeysIn others o ⊎ HasKeysIn keys o) c.left (λ o o_in. ⊎_elim (λ e. inr e) (λ e. inl e)
      (All-contains (λ p. HasKeysIn keys p ⊎ HasKeysIn others p) c.left o falls.each o_in));
  left = falls.other_left;
  other_left = falls.left;
  found = falls.other_found;
  other_found = falls.found;
}

module _ (keys others : Keys) (calls : List KeyedCall) (a b c : KeptPast) (w : Choice) (distinct : AreDistinct calls)
    (apart : AreApart keys others) (falls : FallsApart keys others c a b) (is : IsPast (both_keys keys others) calls c w) where
  on_one_side : (o : Operation) → Contains c.left o → HasKeysIn keys o ⊎ HasKeysIn others o
  on_one_side o o_in = All-contains (λ p. HasKeysIn keys p ⊎ HasKeysIn others p) c.left o falls.each o_in

  first_left : IsLeft keys w 0 calls a.pairs a.left
  first_left =
      subst (λ (m : Contents). IsLeft keys w 0 calls m a.left) (sym falls.pairs)
      (left_calls_part keys others w 0 calls c.pairs c.left a.left apart falls.rising is.own
      (λ o o_in. ⊎_elim (λ e. inl (e, (falls.left o).1 (o_in, e))) (λ e. inr e) (on_one_side o o_in))
      (λ o o_in. (((falls.left o).0 o_in).1, ((falls.left o).0 o_in).0))
      (left_of (both_keys keys others) calls c w is))

  first_whole : AreAllKept keys w calls a.left
  first_whole x x_in accepted (key, here, some) = ⊎_elim
      (λ shown.
      let (o, o_in, alike) = shown in
      ⊎_elim
      (λ inside. inl (
        o,
        (falls.left o).1 (o_in, inside),
        shown_by_name keys w calls a.left distinct first_left.owned x o x_in ((falls.left o).1 (o_in, inside)) alike.inv,
      ))
      (λ outside. absurd (not_both (others key)
      (outside key (is.own o x o_in x_in (sym alike.inv) key (and_parts (not (w.taken x.inv key)) (x.concerns key) some).1)) (apart key here)))
      (on_one_side o o_in))
      (λ read. inr read)
      (is.whole x x_in accepted (key, or_left (keys key) (others key) here, some))

  first_past : IsPast keys calls a w
  first_past = past_from keys calls a w first_left first_whole
      (λ o o_in.
      let (old, inside) = (falls.left o).0 o_in in
      let fit = fit_of (both_keys keys others) calls c w is o old in record {
        own = fit.own;
        within = inside;
        point = fit.point;
        untaken = λ key here. fit.untaken key (or_left (keys key) (others key) here);
      })
      (λ inv key here taken. is.known inv key (or_left (keys key) (others key) here) taken)
      (record {
        right = λ f f_in.
            let (old, here) = (falls.found f).0 f_in in
            let (wide, taken, value) = is.found.right f old in
            (here, taken, value);
        whole = λ x key x_in pending here taken.
            let (f, f_in, named, at) = is.found.whole x key x_in pending (or_left (keys key) (others key) here) taken in
            (f, (falls.found f).1 (f_in, subst (λ (k : ℕ). keys k ≡ true) (sym at) here), named, at);
      })

second_past : (keys others : Keys) (calls : List KeyedCall) (a b c : KeptPast) (w : Choice) → AreDistinct calls → AreApart keys others
    → FallsApart keys others c a b → IsPast (both_keys keys others) calls c w → IsPast others calls b w
second_past keys others calls a b c w distinct apart falls is =
    first_past others keys calls b a c w distinct (apart_back keys others apart) (falls_back keys others c a b falls)
    (subst (λ (k : Keys). IsPast k calls c w) (fun_ext (λ (key : ℕ). or_swap (keys key) (others key))) is)

-- both sides together are the whole again
falls_together : (keys others : Keys) (calls : List KeyedCall) (a b c : KeptPast) (w : Choice) → FallsApart keys others c a b
    → IsPast (both_keys keys others) calls c w → IsPast keys calls a w → IsPast others calls b w → IsTogether keys a b c
falls_together keys others calls a b c w falls is first second = record {
  together = record {
    rises = is.alike.rises;
    values = λ key. value key (bool_cases (keys key)) (bool_cases (others key));
    rising = is.alike.rising;
    from = λ o o_in. ⊎_elim (λ e. inl ((falls.left o).1 (o_in, e))) (λ e. inr ((falls.other_left o).1 (o_in, e)))
        (All-contains (λ p. HasKeysIn keys p ⊎ HasKeysIn others p) c.left o falls.each o_in);
    first = λ o o_in. ((falls.left o).0 o_in).0;
    second = λ o o_in. ((falls.other_left o).0 o_in).0;
  };
  found = λ f. (
    λ f_in. ⊎_elim (λ e. inl ((falls.found f).1 (f_in, e))) (λ e. inr ((falls.other_found f).1 (f_in, e)))
        (or_cases (keys f.key) (others f.key) (is.found.right f f_in).0),
    λ some. ⊎_elim (λ l. ((falls.found f).0 l).0) (λ r. ((falls.other_found f).0 r).0) some,
  );
}
  where
    value : (key : ℕ) → (keys key ≡ true) ⊎ (keys key ≡ false) → (others key ≡ true) ⊎ (others key ≡ false)
        → value_at c.pairs key ≡ cond (keys key) (value_at a.pairs key) (value_at b.pairs key)
    value key (inl here) other = rw here (is.alike.same key (or_left (keys key) (others key) here) ∙ sym (first.alike.same key here))
    value key (inr out) (inl there) =
        rw out (is.alike.same key (or_right (keys key) (others key) there) ∙ sym (second.alike.same key there))
    value key (inr out) (inr none) =
        rw out (is.alike.nothing key (or_from (keys key) (others key) out none) ∙ sym (second.alike.nothing key none))

-- ---- a part falls apart

-- one past after another is replaced
all_stand : (held : ℕ → Option ℕ) (place : ℕ) (calls : List KeyedCall) (keys : Keys) (rest : List Part) (kept : List KeptPast)
    (pasts twins done : List Choice) → ArePasts keys calls kept pasts → ArePasts keys calls kept twins
    → Represent held place calls (record { keys = keys; pasts = pasts ++ done } ∷ rest)
    → Represent held place calls (record { keys = keys; pasts = twins ++ done } ∷ rest)
all_stand held place calls keys rest [] [] [] done first second stand = stand
all_stand held place calls keys rest [] [] (t ∷ twins) done first second stand = absurd second
all_stand held place calls keys rest [] (p ∷ pasts) twins done first second stand = absurd first
all_stand held place calls keys rest (k ∷ kept) [] twins done first second stand = absurd first
all_stand held place calls keys rest (k ∷ kept) (p ∷ pasts) [] done first second stand = absurd second
all_stand held place calls keys rest (k ∷ kept) (p ∷ pasts) (t ∷ twins) done first second stand =
    pasts_in_any_order held place calls keys (twins ++ t ∷ done) (t ∷ twins ++ done) rest (from_middle twins) (to_middle twins)
    (all_stand held place calls keys rest kept pasts twins (t ∷ done) first.1 second.1
    (pasts_in_any_order held place calls keys (t ∷ pasts ++ done) (pasts ++ t ∷ done) rest (to_middle pasts) (from_middle pasts)
    (alike_pasts_stand held place calls keys k k p t (pasts ++ done) rest itself first.0 second.0 stand)))
  where
    itself : AreKeptAlike k k
    itself = record { pairs = refl; left = λ inv. (λ h. h, λ h. h); found = λ f. (λ h. h, λ h. h) }

    to_middle : (ps : List Choice) (q : Choice) → Contains (t ∷ ps ++ done) q → Contains (ps ++ t ∷ done) q
    to_middle ps q q_in = ⊎_elim
        (λ same. subst (λ (v : Choice). Contains (ps ++ t ∷ done) v) same (middle ps t done))
        (λ others. beside ps t done q others)
        (Contains-cases t (ps ++ done) q q_in)

    from_middle : (ps : List Choice) (q : Choice) → Contains (ps ++ t ∷ done) q → Contains (t ∷ ps ++ done) q
    from_middle ps q q_in = ⊎_elim
        (λ same. subst (λ (v : Choice). Contains (t ∷ ps ++ done) v) same (Contains-first t (ps ++ done)))
        (λ others. Contains-later t (ps ++ done) q others)
        (Contains-around ps t done q q_in)

module _ (keys others : Keys) (calls : List KeyedCall) (a : KeptPast) (w : Choice) (distinct : AreDistinct calls) (apart : AreApart keys others)
    (first : IsPast keys calls a w) where
  seconds_past : (all kept : List KeptPast) (both : List Choice) → AllZip (λ c b. FallsApart keys others c a b) all kept
      → ArePasts (both_keys keys others) calls all both → ArePasts others calls kept both
  seconds_past [] [] [] falls are = tt
  seconds_past [] [] (v ∷ both) falls are = absurd are
  seconds_past [] (b ∷ kept) both falls are = absurd falls
  seconds_past (c ∷ all) [] both falls are = absurd falls
  seconds_past (c ∷ all) (b ∷ kept) [] falls are = absurd are
  seconds_past (c ∷ all) (b ∷ kept) (v ∷ both) falls are = (
    second_past keys others calls a b c v distinct apart falls.0 are.0,
    seconds_past all kept both falls.1 are.1,
  )

  -- each may have the first one's past at the first keys
  twins_past : (all kept : List KeptPast) (both : List Choice) → AllZip (λ c b. FallsApart keys others c a b) all kept
      → ArePasts (both_keys keys others) calls all both → ArePasts (both_keys keys others) calls all (map (instead keys w) both)
  twins_past [] [] [] falls are = tt
  twins_past [] [] (v ∷ both) falls are = absurd are
  twins_past [] (b ∷ kept) both falls are = absurd falls
  twins_past (c ∷ all) [] both falls are = absurd falls
  twins_past (c ∷ all) (b ∷ kept) [] falls are = absurd are
  twins_past (c ∷ all) (b ∷ kept) (v ∷ both) falls are =
      let here = first_past keys others calls a b c v distinct apart falls.0 are.0 in
      let there = second_past keys others calls a b c v distinct apart falls.0 are.0 in (
        both_past keys others calls a b c w v (instead keys w v) distinct apart (falls_together keys others calls a b c v falls.0 are.0 here there)
            (instead_here keys w v) (instead_there keys others w v apart) first there,
        twins_past all kept both falls.1 are.1,
      )

pub pasts_fall_apart : PastsFallApart
pasts_fall_apart held place calls keys others a [] kept both rest grown apart some falls are stand = absurd (some refl)
pasts_fall_apart held place calls keys others a (c ∷ all) [] both rest grown apart some falls are stand = absurd falls
pasts_fall_apart held place calls keys others a (c ∷ all) (b ∷ kept) [] rest grown apart some falls are stand = absurd are
pasts_fall_apart held place calls keys others a (c ∷ all) (b ∷ kept) (w ∷ both) rest grown apart some falls are stand = (
  w,
  w ∷ both,
  first,
  seconds_past keys others calls a w grown.alone apart first (c ∷ all) (b ∷ kept) (w ∷ both) falls are,
  (parts_unite held place calls (record { keys = keys; pasts = w ∷ [] }) (record { keys = others; pasts = w ∷ both })
      (record { keys = both_keys keys others; pasts = pairs_of keys (w ∷ []) (w ∷ both) }) rest apart
      (joined keys others (w ∷ []) (w ∷ both) apart)).1
      (all_stand held place calls (both_keys keys others) rest (c ∷ all) (w ∷ both) (map (instead keys w) (w ∷ both)) [] are
      (twins_past keys others calls a w grown.alone apart first (c ∷ all) (b ∷ kept) (w ∷ both) falls are)
      (subst (λ (ps : List Choice). Represent held place calls (record { keys = both_keys keys others; pasts = ps } ∷ rest))
      (sym (append-nil (w ∷ both))) stand)),
)
  where
    first : IsPast keys calls a w
    first = first_past keys others calls a b c w grown.alone apart falls.0 are.0
