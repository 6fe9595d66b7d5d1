-- A part takes a step: one more call is taken at its keys.
use Rattle.follow_laws.proofs.Common.{◌≡◌, ℕ, ◌<◌, true, false, not, ◌&&◌, ◌==◌, List, [], ◌∷◌, ◌++◌, map, Option, inl, refl, sym, ap, ◌∙◌, subst}
use Rattle.follow_laws.proofs.Common.{⊎_elim, ◌≢◌, Contains, and_parts, false_from_ne_true, eqb-true, All-head, All-contains, Contains-append_left}
use Rattle.follow_laws.proofs.Common.{Contains-append_right, Contains-append_cases, AllPairs-head, AllPairs-back, Contains-first, Contains-later}
use Rattle.follow_laws.proofs.Common.{Contains-cases, KeyedCall, IsNoEffect, ends_before, precedes, FitInTurn, AreDistinct, IsLater, HaveGrown}
use Rattle.follow_laws.proofs.Common.{Choice, rest_of, GoesOn, SomeGoesOn, Keys, Part, IsAt, IsOneOf, ShareKeys, choices_of, IsLeftAt, MayComeNext}
use Rattle.follow_laws.proofs.Common.{IsAfterCall, ArePartedBefore, CallsComeNext, ReadsComeNext}
use Rattle.follow_laws.proofs.AfterLemmas.{none_left}
use Rattle.follow_laws.proofs.TurnLemmas.{fit-back}
use Rattle.follow_laws.proofs.FewerLemmas.{AreAmong, AtSome, after_fewer, is_alone, steps_forth, steps_back, taken_then, takes_less, at_few}
use Rattle.follow_laws.proofs.FewerLemmas.{goes_on_before}
use Rattle.follow_laws.proofs.FirstLemmas.{begun_before, completed_stays, AtEnded, IsNotLeft, not_left_none, first_left, may_come}
use Rattle.follow_laws.proofs.MaskLemmas.{masked_by, first_masked}
use Rattle.follow_laws.proofs.NextLemmas.{taken_by, IsTaken, rest_leaves, taken_none, goes_on_next}
use Rattle.follow_laws.proofs.ReadLemmas.{read_goes_on}
use Rattle.follow_laws.proofs.PartLemmas.{at_fewer, instead, keys_shared, with_other, TakesNoMore, part_steps}

-- ---- above

-- the first call of an order that is left at some keys is taken there
module _ (keys : Keys) (place limit : ℕ) (calls more : List KeyedCall) (past w : Choice) (ended : KeyedCall) (goes_on : GoesOn w more)
    (at : AtEnded keys place limit calls more goes_on.1.0 past w ended) (front back : List KeyedCall) (a d : KeyedCall)
    (parts : goes_on.1.0 ≡ front ++ rest_of w d ∷ back) (d_in : Contains more d) (later : IsLater place a d) (accepted : d.refused ≡ false)
    (passed : (y : KeyedCall) → Contains front y → IsNotLeft keys more past w y) where
  whole : (key : ℕ) → FitInTurn key (w.holds key) (front ++ rest_of w d ∷ back)
  whole key = subst (λ (xs : List KeyedCall). FitInTurn key (w.holds key) xs) parts (goes_on.1.1.fit key)

  front_none : (key : ℕ) → keys key ≡ true → (y : KeyedCall) → Contains front y → IsNoEffect (y.effect key)
  front_none key is y y_in = not_left_none keys place limit calls more goes_on.1.0 past w ended at y (passed y y_in) key is

  pub first_fits : (key : ℕ) → keys key ≡ true → ((rest_of w d).effect key).fits (w.holds key) ≡ true
  first_fits key is =
      subst (λ (v : Option ℕ). ((rest_of w d).effect key).fits v ≡ true) (none_left key front (w.holds key) (front_none key is))
      (fit-back key (w.holds key) front (rest_of w d ∷ back) (whole key)).0

  back_other : (key : ℕ) (y : KeyedCall) → Contains back y → taken_by keys a y.inv key ≡ false
  back_other key y y_in =
      false_from_ne_true (taken_by keys a y.inv key) (λ taken.
      let (is, others) = and_parts (keys key) ((y.inv == a.inv) && a.concerns key) taken in
      let (named, there) = and_parts (y.inv == a.inv) (a.concerns key) others in
      All-contains (λ z. d.inv ≢ z.inv) back y
      (AllPairs-head (λ x z. x.inv ≢ z.inv) (rest_of w d) back
      (AllPairs-back (λ x z. x.inv ≢ z.inv) front (rest_of w d ∷ back)
      (subst (λ (xs : List KeyedCall). AreDistinct xs) parts goes_on.1.1.distinct))) y_in (later.inv ∙ sym (eqb-true y.inv a.inv named)))

  pub first_goes_on : (next : Choice) → IsAfterCall keys past a next → GoesOn (instead keys next w) more
  first_goes_on next after =
      goes_on_next keys place calls more past next w a d taken goes_on first_fits (λ key is.
      subst (λ (xs : List KeyedCall). FitInTurn key (next.holds key) (map (masked_by (taken_by keys a)) xs)) (sym parts)
      (subst (λ (v : Option ℕ). FitInTurn key v (map (masked_by (taken_by keys a)) (front ++ rest_of w d ∷ back)))
      (sym (rest_leaves keys place calls more past next w a d taken key is (first_fits key is)))
      (first_masked (taken_by keys a) key front (rest_of w d) back (w.holds key) (front_none key is)
      (taken_none keys place calls more past next w a d taken key is) (back_other key) (whole key)).1))
    where
      taken : IsTaken keys place calls more past next w a d
      taken = record { same = at.same; after = after; grown = at.grown; in_more = d_in; later = later; accepted = accepted }

-- a call that may come next began before any place before which one ended that is left
pub begun_first : (keys : Keys) (limit : ℕ) (calls : List KeyedCall) (past : Choice) (ended a : KeyedCall) → Contains calls ended
    → ends_before ended.res limit ≡ true → ended.refused ≡ false → IsLeftAt keys past ended → MayComeNext keys past calls a → a.inv < limit
begun_first keys limit calls past ended a ended_in ended_before accepted is_left may =
    begun_before ended.res a.inv limit ended_before (false_from_ne_true (precedes ended a) (λ before.
    ⊎_elim
    (λ refused. let never : ended.refused ≡ false = accepted in cc)
    (λ none.
    let never : (not (past.taken ended.inv is_left.0) && ended.concerns is_left.0) ≡ false = none is_left.0 is_left.1 in
    let left : (not (past.taken ended.inv is_left.0) && ended.concerns is_left.0) ≡ true = is_left.2 in cc)
    (may.first ended ended_in before)))

-- a choice that goes on after a call goes on before it, and takes nothing more
pub goes_before : (keys some : Keys) (place limit : ℕ) (calls more : List KeyedCall) (past next : Choice) (rest : List Part) (a d : KeyedCall)
    → AtSome keys some place limit calls more past next rest a d → (pasts nexts : List Choice) (v : Choice)
    → ShareKeys (record { keys = keys; pasts = pasts } ∷ rest) → choices_of (record { keys = keys; pasts = pasts } ∷ rest) v → IsAt keys next v
    → Contains nexts past → GoesOn v more → SomeGoesOn (λ w. choices_of (record { keys = keys; pasts = nexts } ∷ rest) w × TakesNoMore v w) more
goes_before keys some place limit calls more past next rest a d at pasts nexts v shared v_is same past_in goes_on = (
  instead some past v,
  (
    steps_back keys some place limit calls more past next rest a d at pasts v shared v_is same nexts
        (taken_then keys some place limit calls more past next rest a d at pasts v shared v_is same goes_on) past_in,
    takes_less keys some past a next v at.inside at.after same,
  ),
  goes_on_before keys some place limit calls more past next rest a d at pasts v shared v_is same goes_on,
)

-- a choice that goes on does so by some call that may come next
some_comes : (keys some : Keys) (place limit : ℕ) (calls more : List KeyedCall) (past w : Choice) (nexts : List Choice) (rest : List Part)
    (ended : KeyedCall) → AreAmong some keys → ArePartedBefore some limit (record { keys = keys; pasts = past ∷ [] } ∷ rest) calls
    → ((a : KeyedCall) → Contains calls a → MayComeNext some past calls a → (next : Choice) × Contains nexts next × IsAfterCall keys past a next)
    → (goes_on : GoesOn w more) → AtEnded some place limit calls more goes_on.1.0 past w ended
    → (next : Choice) × Contains nexts next × GoesOn (instead some next w) more
    × (a : KeyedCall) × (d : KeyedCall) × (d.refused ≡ false) × AtSome keys some place limit calls more past next rest a d
some_comes keys some place limit calls more past w nexts rest ended inside parted come goes_on at =
    let (front, x, back, parts, left, passed) = first_left some place limit calls more goes_on.1.0 past w ended at in
    let (a, d, a_in, d_in, later, x_is, accepted, is_left) = left in
    let whole : goes_on.1.0 ≡ front ++ rest_of w d ∷ back = parts ∙ ap (λ (z : KeyedCall). front ++ z ∷ back) x_is in
    let fits : (key : ℕ) → some key ≡ true → ((rest_of w d).effect key).fits (w.holds key) ≡ true =
    first_fits some place limit calls more past w ended goes_on at front back a d whole d_in later accepted passed in
    let may : MayComeNext some past calls a =
    may_come some place limit calls more goes_on.1.0 past w ended at front back a d whole a_in d_in later accepted is_left passed fits in
    let (next, next_in, after) = come a a_in may in (
      next,
      next_in,
      first_goes_on some place limit calls more past w ended goes_on at front back a d whole d_in later accepted passed next
          (after_fewer keys some past a next inside after),
      a,
      d,
      accepted,
      record {
        inside = inside;
        parted = parted;
        after = after;
        may = may;
        begun = begun_first some limit calls past ended a at.ended_in at.ended_before at.accepted at.is_left may;
        a_in = a_in;
        grown = at.grown;
        d_in = d_in;
        later = later;
      },
    )

-- ---- the laws

pub calls_come_next : CallsComeNext
calls_come_next
    held place limit calls keys some past others nexts rest ended inside ended_in ended_before accepted is_left known parted come reached stand =
    part_steps held place calls keys (past ∷ others) (nexts ++ others) rest
    (λ w more w_is grown goes_on.
    let (p, p_in, at_p) = All-head (λ part. IsOneOf part.keys part.pasts w) (record { keys = keys; pasts = past ∷ others }) rest w_is in
    ⊎_elim
    (λ first.
    let same : IsAt keys past w = subst (λ (q : Choice). IsAt keys q w) (sym first) at_p in
    let (next, next_in, goes, a, d, answered, step) =
    some_comes keys some place limit calls more past w nexts rest ended inside parted come goes_on (record {
      ended_in = ended_in;
      ended_before = ended_before;
      accepted = accepted;
      is_left = is_left;
      known = known;
      same = at_fewer keys some past w inside same;
      grown = grown;
      is = goes_on.1.1;
    }) in (
      instead some next w,
      steps_forth keys some place past next a d (is_alone keys some place limit calls more past next rest a d step w
          (with_other keys (past ∷ others) (past ∷ []) rest w past w_is (Contains-first past []) same) same answered) (past ∷ others)
          (nexts ++ others) rest w stand.shared w_is same (Contains-append_left nexts others next next_in),
      goes,
    ))
    (λ other. (w, with_other keys (past ∷ others) (nexts ++ others) rest w p w_is (Contains-append_right nexts others p other) at_p, goes_on))
    (Contains-cases past others p p_in))
    (λ v few more v_is alone are grown goes_on.
    let (p, p_in, at_p) = All-head (λ part. IsOneOf part.keys part.pasts v) (record { keys = keys; pasts = nexts ++ others }) rest v_is in
    ⊎_elim
    (λ first.
    let (a, a_in, may, after) = reached p first in
    let (d, at) = at_few keys some place limit calls few more past p v rest a inside parted after may
    (begun_first some limit calls past ended a ended_in ended_before accepted is_left may) a_in at_p are grown in
    goes_before keys some place limit few more past p rest a d at (nexts ++ others) (past ∷ others) v shared v_is at_p
    (Contains-first past others) goes_on)
    (λ other. (
      v,
      (with_other keys (nexts ++ others) (past ∷ others) rest v p v_is (Contains-later past others p other) at_p, λ inv key taken. taken),
      goes_on,
    ))
    (Contains-append_cases nexts others p p_in))
    stand
  where
    shared : ShareKeys (record { keys = keys; pasts = nexts ++ others } ∷ rest)
    shared = keys_shared keys (past ∷ others) (nexts ++ others) rest stand.shared

pub reads_come_next : ReadsComeNext
reads_come_next held place limit calls keys some past next others rest b inside b_in completed begun may read after parted stand =
    part_steps held place calls keys (past ∷ others) (next ∷ others) rest
    (λ w more w_is grown goes_on.
    let (p, p_in, at_p) = All-head (λ part. IsOneOf part.keys part.pasts w) (record { keys = keys; pasts = past ∷ others }) rest w_is in
    ⊎_elim
    (λ first.
    let same : IsAt keys past w = subst (λ (q : Choice). IsAt keys q w) (sym first) at_p in
    let in_more : Contains more b = completed_stays place calls more b grown b_in completed in (
      instead some next w,
      steps_forth keys some place past next b b (is_alone keys some place limit calls more past next rest b b (step more grown b in_more itself) w
          (with_other keys (past ∷ others) (past ∷ []) rest w past w_is (Contains-first past []) same) same may.accepted) (past ∷ others)
          (next ∷ others) rest w stand.shared w_is same (Contains-first next others),
      read_goes_on some place calls more past next w b (at_fewer keys some past w inside same) grown in_more may.accepted read may.fits
          (after_fewer keys some past b next inside after) goes_on,
    ))
    (λ other. (w, with_other keys (past ∷ others) (next ∷ others) rest w p w_is (Contains-later next others p other) at_p, goes_on))
    (Contains-cases past others p p_in))
    (λ v few more v_is alone are grown goes_on.
    let (p, p_in, at_p) = All-head (λ part. IsOneOf part.keys part.pasts v) (record { keys = keys; pasts = next ∷ others }) rest v_is in
    ⊎_elim
    (λ first.
    let same : IsAt keys next v = subst (λ (q : Choice). IsAt keys q v) (sym first) at_p in
    let (d, at) = at_few keys some place limit calls few more past next v rest b inside parted after may begun b_in same are grown in
    goes_before keys some place limit few more past next rest b d at (next ∷ others) (past ∷ others) v shared v_is same
    (Contains-first past others) goes_on)
    (λ other. (
      v,
      (with_other keys (next ∷ others) (past ∷ others) rest v p v_is (Contains-later past others p other) at_p, λ inv key taken. taken),
      goes_on,
    ))
    (Contains-cases next others p p_in))
    stand
  where
    shared : ShareKeys (record { keys = keys; pasts = next ∷ others } ∷ rest)
    shared = keys_shared keys (past ∷ others) (next ∷ others) rest stand.shared

    itself : IsLater place b b
    itself = record { inv = refl; concerns = λ key. refl; response = inl refl }

    step : (more : List KeyedCall) → HaveGrown place calls more → (d : KeyedCall) → Contains more d → IsLater place b d
        → AtSome keys some place limit calls more past next rest b d
    step more grown d d_in later = record {
      inside = inside;
      parted = parted;
      after = after;
      may = may;
      begun = begun;
      a_in = b_in;
      grown = grown;
      d_in = d_in;
      later = later;
    }
