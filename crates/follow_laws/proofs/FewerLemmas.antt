-- Steps at some of a part's keys: at its others nothing is left of the call, and they stay what they are.
use Rattle.follow_laws.proofs.Common.{◌≡◌, ℕ, ◌<◌, Bool, true, false, not, ◌||◌, ◌&&◌, ◌==◌, cond, List, [], ◌∷◌, inl, inr, refl, sym, ◌∙◌, subst}
use Rattle.follow_laws.proofs.Common.{⊎_elim, ◌⊎◌, Contains, and_parts, and_from, or_left, or_right, not-true, eqb-true, eq-eqb, All-contains}
use Rattle.follow_laws.proofs.Common.{Contains-first, KeyedCall, IsFormed, IsNoEffect, IsLater, HaveGrown, Choice, rest_of, GoesOn, Agrees, Keys}
use Rattle.follow_laws.proofs.Common.{IsWithin, IsOutside, other_keys, Part, IsAt, ShareKeys, AreSomeOf, choices_of, NoneIsLeftAt, MayComeNext}
use Rattle.follow_laws.proofs.Common.{IsAfterCall, ArePartedBefore}
use Rattle.follow_laws.proofs.CutLemmas.{outside_none}
use Rattle.follow_laws.proofs.DeadLemmas.{bool_cases}
use Rattle.follow_laws.proofs.EffectRestLemmas.{later_stands}
use Rattle.follow_laws.proofs.FirstLemmas.{left_later}
use Rattle.follow_laws.proofs.InsertLemmas.{goes_back}
use Rattle.follow_laws.proofs.PartLemmas.{at_back, at_next, at_fewer, at_both, instead, instead_here, instead_there, with_past, with_instead}
use Rattle.follow_laws.proofs.PartLemmas.{TakesNoMore}

abbrev pub AreAmong : Keys → Keys → Type 0
AreAmong some keys = (key : ℕ) → some key ≡ true → keys key ≡ true

-- the keys without some
abbrev pub but_for : Keys → Keys → Keys
but_for some keys key = keys key && not (some key)

but_apart : (k s : Bool) → s ≡ true → (k && not s) ≡ false
but_apart true s is = rw is refl
but_apart false s is = refl

both_ways : (k s : Bool) → (s ≡ true → k ≡ true) → k ≡ (s || (k && not s))
both_ways true true inside = refl
both_ways true false inside = refl
both_ways false true inside = inside refl
both_ways false false inside = refl

taken_still : (t s c : Bool) → (s ≡ true → (not t && c) ≡ false) → (t || (s && c)) ≡ t
taken_still true s c none = refl
taken_still false true c none = none refl
taken_still false false c none = refl

-- what was taken at some keys
pub after_fewer : (keys some : Keys) (past : Choice) (a : KeyedCall) (next : Choice) → AreAmong some keys → IsAfterCall keys past a next
    → IsAfterCall some past a next
after_fewer keys some past a next inside after = record {
  taken = λ inv key is. after.taken inv key (inside key is);
  holds = λ key is. after.holds key (inside key is);
  found_before = λ inv key is taken. after.found_before inv key (inside key is) taken;
  found = λ key is untaken there. after.found key (inside key is) untaken there;
}

-- if nothing of a call is left, a past after the call is the past before it
pub after_none : (keys : Keys) (place : ℕ) (past : Choice) (a d : KeyedCall) (next : Choice) → IsFormed d → IsLater place a d → d.refused ≡ false
    → NoneIsLeftAt keys past a → IsAfterCall keys past a next → IsAt keys past next
after_none keys place past a d next formed later accepted none after = record {
  taken = λ inv key is.
      after.taken inv key is ∙ taken_still (past.taken inv key) (inv == a.inv) (a.concerns key) (λ named.
      subst (λ (n : ℕ). (not (past.taken n key) && a.concerns key) ≡ false) (sym (eqb-true inv a.inv named)) (none key is));
  found = λ inv key is taken. after.found_before inv key is taken;
  holds = λ key is.
      let nothing : IsNoEffect ((rest_of past d).effect key) = outside_none keys past d formed (left_later keys place past a d later none) key is in
      let stands = later_stands place past a d later accepted in
      after.holds key is ∙ stands.leaves key (past.holds key) (nothing.fits (past.holds key)) ∙ nothing.leaves (past.holds key);
}

-- a choice that is another past at some keys is that past at all keys, if the two are the same at the others
pub at_step : (keys some : Keys) (past next w : Choice) → AreAmong some keys → IsAt keys past w → IsAt (but_for some keys) past next
    → IsAt keys next (instead some next w)
at_step keys some past next w inside same still =
    at_both some (but_for some keys) keys next (instead some next w) (λ key. both_ways (keys key) (some key) (inside key))
    (instead_here some next w)
    (at_next (but_for some keys) next past (instead some next w) (at_back (but_for some keys) past next still)
    (at_next (but_for some keys) past w (instead some next w)
    (at_fewer keys (but_for some keys) past w (λ key is. (and_parts (keys key) (not (some key)) is).0) same)
    (instead_there some (but_for some keys) next w (λ key is. but_apart (keys key) (some key) is))))

-- elsewhere a choice that took a step at some keys is what it was
elsewhere : (keys some : Keys) (p w : Choice) → AreAmong some keys → IsAt (other_keys keys) w (instead some p w)
elsewhere keys some p w inside = instead_there some (other_keys keys) p w (λ key is. let here : keys key ≡ true = inside key is in rw here refl)

-- All that is known of a call that is left at some of a part's keys, and not at its others, now and later.
pub record IsAlone (keys some : Keys) (place : ℕ) (past next : Choice) (a d : KeyedCall) : Type 0 where
  pub inside : AreAmong some keys
  pub none : NoneIsLeftAt (but_for some keys) past a
  pub after : IsAfterCall keys past a next
  pub formed : IsFormed d
  pub later : IsLater place a d
  pub accepted : d.refused ≡ false

module _ (keys some : Keys) (place : ℕ) (past next : Choice) (a d : KeyedCall) (alone : IsAlone keys some place past next a d) where
  -- at the others the past and the next are the same
  still : IsAt (but_for some keys) past next
  still =
      after_none (but_for some keys) place past a d next alone.formed alone.later alone.accepted alone.none
      (after_fewer keys (but_for some keys) past a next (λ key is. (and_parts (keys key) (not (some key)) is).0) alone.after)

  -- a choice that takes the step at some keys
  pub steps_forth : (pasts nexts : List Choice) (rest : List Part) (w : Choice) → ShareKeys (record { keys = keys; pasts = pasts } ∷ rest)
      → choices_of (record { keys = keys; pasts = pasts } ∷ rest) w → IsAt keys past w → Contains nexts next
      → choices_of (record { keys = keys; pasts = nexts } ∷ rest) (instead some next w)
  steps_forth pasts nexts rest w shared w_is same next_in =
      with_past keys pasts nexts rest next w (instead some next w) shared next_in w_is (at_step keys some past next w alone.inside same still)
      (elsewhere keys some next w alone.inside)

-- All that is known of a call, now and later, that leads from a past to the next at some of a part's keys.
pub record AtSome (keys some : Keys) (place limit : ℕ) (calls more : List KeyedCall) (past next : Choice) (rest : List Part) (a d : KeyedCall)
    : Type 0 where
  pub inside : AreAmong some keys
  pub parted : ArePartedBefore some limit (record { keys = keys; pasts = past ∷ [] } ∷ rest) calls
  pub after : IsAfterCall keys past a next
  pub may : MayComeNext some past calls a
  pub begun : a.inv < limit
  pub a_in : Contains calls a
  pub grown : HaveGrown place calls more
  pub d_in : Contains more d
  pub later : IsLater place a d

module _ (keys some : Keys) (place limit : ℕ) (calls more : List KeyedCall) (past next : Choice) (rest : List Part) (a d : KeyedCall)
    (at : AtSome keys some place limit calls more past next rest a d) where
  -- the call is left only at these keys
  pub within_some : (w : Choice) → choices_of (record { keys = keys; pasts = past ∷ [] } ∷ rest) w → IsAt keys past w
      → IsWithin some (rest_of w a)
  within_some w w_is same =
      ⊎_elim (λ within. within) (λ outside. absurd (never outside)) (at.parted w a w_is at.a_in at.begun at.may.accepted)
    where
      never : IsOutside some (rest_of w a) → ⊥
      never outside =
          let (key, is, left) = at.may.is_left in
          let out : (not (past.taken a.inv key) && a.concerns key) ≡ false =
          subst (λ (t : Bool). (not t && a.concerns key) ≡ false) (same.taken a.inv key (at.inside key is)) (outside key is) in
          let here : (not (past.taken a.inv key) && a.concerns key) ≡ true = left in cc

  -- nothing of the call is left at the others
  pub is_alone : (w : Choice) → choices_of (record { keys = keys; pasts = past ∷ [] } ∷ rest) w → IsAt keys past w → d.refused ≡ false
      → IsAlone keys some place past next a d
  is_alone w w_is same accepted = record {
    inside = at.inside;
    none = λ key is.
        let (there, out) = and_parts (keys key) (not (some key)) is in
        subst (λ (t : Bool). (not t && a.concerns key) ≡ false) (same.taken a.inv key there)
        (within_some w w_is same key (not-true (some key) out));
    after = at.after;
    formed = All-contains IsFormed more d at.grown.formed at.d_in;
    later = at.later;
    accepted = accepted;
  }

  -- a choice that goes on after the call goes on before it
  module _ (pasts : List Choice) (v : Choice) (shared : ShareKeys (record { keys = keys; pasts = pasts } ∷ rest))
      (v_is : choices_of (record { keys = keys; pasts = pasts } ∷ rest) v) (same : IsAt keys next v) where
    back_at : d.refused ≡ false → IsAt keys past (instead some past v)
    back_at accepted =
        at_step keys some next past v at.inside same (at_back (but_for some keys) past next
        (still keys some place past next a d
        (is_alone (instead keys past v) (with_instead keys pasts (past ∷ []) rest past v shared (Contains-first past []) v_is)
        (instead_here keys past v) accepted)))

    pub steps_back : (nexts : List Choice) → d.refused ≡ false → Contains nexts past
        → choices_of (record { keys = keys; pasts = nexts } ∷ rest) (instead some past v)
    steps_back nexts accepted past_in =
        with_past keys pasts nexts rest past v (instead some past v) shared past_in v_is (back_at accepted)
        (elsewhere keys some past v at.inside)

    pub taken_then : GoesOn v more → d.refused ≡ false
    taken_then goes_on =
        let (key, is, left) = at.may.is_left in
        let (untaken, there) = and_parts (not (past.taken a.inv key)) (a.concerns key) left in
        (All-contains (Agrees v) more d goes_on.0 at.d_in).accepted key
        (same.taken d.inv key (at.inside key is) ∙ at.after.taken d.inv key (at.inside key is)
        ∙ or_right (past.taken d.inv key) ((d.inv == a.inv) && a.concerns key)
        (and_from (d.inv == a.inv) (a.concerns key) (eq-eqb d.inv a.inv at.later.inv) there))

    pub goes_on_before : GoesOn v more → GoesOn (instead some past v) more
    goes_on_before goes_on =
        let accepted = taken_then goes_on in
        let w_is = steps_back (past ∷ []) accepted (Contains-first past []) in
        goes_back some place limit calls more past next (instead some past v) v a d (record {
          same = at_fewer keys some next v at.inside same;
          here = instead_here some past v;
          there = instead_there some (other_keys some) past v (λ key is. rw is refl);
          after = after_fewer keys some past a next at.inside at.after;
          may = at.may;
          less = All-contains (λ z. z.inv < place) calls a at.grown.begun at.a_in;
          begun = at.begun;
          within = within_some (instead some past v) w_is (back_at accepted);
          parted = λ b. at.parted (instead some past v) b w_is;
          grown = at.grown;
          in_more = at.d_in;
          later = at.later;
          agrees = goes_on.0;
        }) goes_on

-- ---- some of the calls, with all that a choice took which took the step

-- a choice after a call has taken the call at the keys at which it was left
pub taken_after : (keys : Keys) (past : Choice) (a : KeyedCall) (next v : Choice) → IsAfterCall keys past a next → IsAt keys next v → (key : ℕ)
    → keys key ≡ true → (rest_of past a).concerns key ≡ true → v.taken a.inv key ≡ true
taken_after keys past a next v after same key is left =
    let (untaken, there) = and_parts (not (past.taken a.inv key)) (a.concerns key) left in
    same.taken a.inv key is ∙ after.taken a.inv key is
    ∙ or_right (past.taken a.inv key) ((a.inv == a.inv) && a.concerns key)
    (and_from (a.inv == a.inv) (a.concerns key) (eq-eqb a.inv a.inv refl) there)

-- a choice after a call took all that it would have taken with the past before the call
pub takes_less : (keys some : Keys) (past : Choice) (a : KeyedCall) (next v : Choice) → AreAmong some keys → IsAfterCall keys past a next
    → IsAt keys next v → TakesNoMore v (instead some past v)
takes_less keys some past a next v inside after same inv key = by_key (bool_cases (some key))
  where
    by_key : (some key ≡ true) ⊎ (some key ≡ false) → cond (some key) (past.taken inv key) (v.taken inv key) ≡ true → v.taken inv key ≡ true
    by_key (inl is) taken =
        let before : past.taken inv key ≡ true = rw is at taken in
        same.taken inv key (inside key is) ∙ after.taken inv key (inside key is)
        ∙ or_left (past.taken inv key) ((inv == a.inv) && a.concerns key) before
    by_key (inr is) taken = let there : v.taken inv key ≡ true = rw is at taken in there

pub at_few : (keys some : Keys) (place limit : ℕ) (calls few more : List KeyedCall) (past next v : Choice) (rest : List Part) (a : KeyedCall)
    → AreAmong some keys → ArePartedBefore some limit (record { keys = keys; pasts = past ∷ [] } ∷ rest) calls → IsAfterCall keys past a next
    → MayComeNext some past calls a → a.inv < limit → Contains calls a → IsAt keys next v → AreSomeOf v calls few → HaveGrown place few more
    → (d : KeyedCall) × AtSome keys some place limit few more past next rest a d
at_few keys some place limit calls few more past next v rest a inside parted after may begun a_in same are grown =
    let (key, is, left) = may.is_left in
    let in_few : Contains few a = are.taken a key a_in (taken_after keys past a next v after same key (inside key is) left) in
    let (d, d_in, later) = grown.stay a in_few in (
      d,
      record {
        inside = inside;
        parted = λ w b w_is b_in. parted w b w_is (are.from b b_in);
        after = after;
        may = record {
          is_left = may.is_left;
          accepted = may.accepted;
          fits = may.fits;
          first = λ b b_in before. may.first b (are.from b b_in) before;
        };
        begun = begun;
        a_in = in_few;
        grown = grown;
        d_in = d_in;
        later = later;
      },
    )
