-- What is kept of a past as calls are answered that were taken, or are taken at once.
use Rattle.follow_laws.proofs.Common.{◌≡◌, ℕ, ◌==◌, Bool, true, false, not, ◌&&◌, ◌||◌, cond, List, ◌∷◌, ◌++◌, Option, Some, inl, inr, refl, sym, ap}
use Rattle.follow_laws.proofs.Common.{◌∙◌, subst, ⊎_elim, arith, ◌≢◌, ◌⊎◌, Contains, eqb-true, eq-eqb, ne_eqb, not-true, and_parts, or_cases}
use Rattle.follow_laws.proofs.Common.{All-contains, All-from_contains, Contains-later, Contains-cases, Contains-around, Operation, Response}
use Rattle.follow_laws.proofs.Common.{KeyedCall, IsNoEffect, no_effect, concerns_key, effect_at, is_refusal, keyed, AreKeyedCalls, Choice, rest_of}
use Rattle.follow_laws.proofs.Common.{Keys, only, IsAlikeAt, AgreesAt, GoesOnAt, left_at, IsLeftAt, IsAfterCall, IsLeft, IsNotTakenAt, IsTakenAt}
use Rattle.follow_laws.proofs.Common.{answered, TakenCallsAgree, TakenCallsDisagree, UntoldReadsAreTaken, KeptPast, AreFound, AreAllKept, IsOpenRead}
use Rattle.follow_laws.proofs.Common.{IsPast}
use Rattle.follow_laws.proofs.DeadLemmas.{bool_cases}
use Rattle.follow_laws.proofs.EventLemmas.{IsShown, not_both, beside, middle, differ, taken_calls_are_answered}
use Rattle.follow_laws.proofs.PartLemmas.{at_self, none_left_out}
use Rattle.follow_laws.proofs.StepLemmas.{dead_pasts_go}
use mathlib.Core.Path.{fun_ext}
use Rattle.follow_laws.proofs.EffectRestLemmas.{none_or}
use Rattle.follow_laws.proofs.RestLemmas.{calls_without_effect}
use Rattle.follow_laws.proofs.OnePastLemmas.{one_key, AreKnown, fit_of, left_of, past_from, found_is_free, taken_concerns, fit_on, known_on}
use Rattle.follow_laws.proofs.OnePastLemmas.{pending_before, whole_on}

-- ---- a call that was taken

pub taken_calls_agree : TakenCallsAgree
taken_calls_agree keys front back pairs left found others past o response f apart one accepted f_in named fits others_are is =
    past_from keys (front ++ keyed (answered response o) ∷ back) (record { pairs = pairs; left = left; found = others }) past
    (taken_calls_are_answered keys past 0 front back pairs left o response taken agrees (left_of keys (front ++ keyed o ∷ back) kept past is))
    (whole_on keys front back past o response left left (λ c p c_in p_in alike. p_in) (λ told some. absurd (none_left some)) is.whole)
    (λ p p_in. fit_on keys front back past o response p (fit_of keys (front ++ keyed o ∷ back) kept past is p p_in))
    (known_on keys front back past o response is.known)
    (record {
      right = λ g g_in. is.found.right g ((others_are g).0 g_in).0;
      whole = λ a key a_in is_pending here is_taken.
          let rest = pending_before keys front back past o response a a_in is_pending in
          let (g, g_in, name, at) = is.found.whole a key (beside front (keyed o) back a rest) is_pending here is_taken in (
            g,
            (others_are g).1 (g_in, λ same. differ (λ (c : KeyedCall). c.inv) front (keyed o) back apart.distinct a rest (sym name ∙ same)),
            name,
            at,
          );
    })
  where
    kept : KeptPast
    kept = record { pairs = pairs; left = left; found = found }

    concerned : (key : ℕ) → keys key ≡ true → past.taken o.inv key ≡ true → concerns_key o.call key ≡ true
    concerned = taken_concerns keys (front ++ keyed o ∷ back) past o apart is.known (middle front (keyed o) back)

    taken_there : past.taken o.inv f.key ≡ true
    taken_there = subst (λ (n : ℕ). past.taken n f.key ≡ true) named (is.found.right f f_in).1

    found_there : past.found o.inv f.key ≡ f.value
    found_there = subst (λ (n : ℕ). past.found n f.key ≡ f.value) named (is.found.right f f_in).2

    -- the call that was taken has no other key
    only_key : (key : ℕ) → concerns_key o.call key ≡ true → f.key ≡ key
    only_key key there =
        sym (one_key o.call f.key one (concerned f.key (is.found.right f f_in).0 taken_there)) ∙ one_key o.call key one there

    taken : IsTakenAt keys past o
    taken key here there = subst (λ (k : ℕ). past.taken o.inv k ≡ true) (only_key key there) taken_there

    agrees : AgreesAt keys past (keyed (answered response o))
    agrees = record {
      accepted = λ key here is_taken. accepted;
      fits = λ key here is_taken.
          subst (λ (k : ℕ). (effect_at o.call (Some response) k).fits (past.found o.inv k) ≡ true) (only_key key (concerned key here is_taken))
          (subst (λ (v : Option ℕ). (effect_at o.call (Some response) f.key).fits v ≡ true) (sym found_there) fits);
    }

    none_left : IsLeftAt keys past (keyed (answered response o)) → ⊥
    none_left (key, here, some) =
        let parts = and_parts (not (past.taken o.inv key)) (concerns_key o.call key) some in
        not_both (past.taken o.inv key) (taken key here parts.1) (not-true (past.taken o.inv key) parts.0)

pub taken_calls_disagree : TakenCallsDisagree
taken_calls_disagree held place keys front back kept past others rest o response f f_in named wrong is stand =
    dead_pasts_go held place (front ++ keyed (answered response o) ∷ back) keys (past ∷ others) others rest
    (λ p p_in. ⊎_elim
    (λ same. inr (subst (λ (q : Choice). GoesOnAt keys q (front ++ keyed (answered response o) ∷ back) → ⊥) same dead))
    (λ other. inl (p, other, at_self keys p))
    (Contains-cases past others p p_in))
    (λ p p_in. (p, Contains-later past others p p_in, at_self keys p))
    stand
  where
    dead : GoesOnAt keys past (front ++ keyed (answered response o) ∷ back) → ⊥
    dead (agree, order) =
        let at = is.found.right f f_in in
        let taken : past.taken o.inv f.key ≡ true = subst (λ (n : ℕ). past.taken n f.key ≡ true) named at.1 in
        let found : past.found o.inv f.key ≡ f.value = subst (λ (n : ℕ). past.found n f.key ≡ f.value) named at.2 in
        let agrees : AgreesAt keys past (keyed (answered response o)) =
        All-contains (AgreesAt keys past) (front ++ keyed (answered response o) ∷ back) (keyed (answered response o)) agree
        (middle front (keyed (answered response o)) back) in
        ⊎_elim
        (λ refused. not_both (is_refusal response.reply) refused (agrees.accepted f.key at.0 taken))
        (λ unfit. not_both ((effect_at o.call (Some response) f.key).fits f.value)
        (subst (λ (v : Option ℕ). (effect_at o.call (Some response) f.key).fits v ≡ true) found (agrees.fits f.key at.0 taken)) unfit)
        wrong

-- ---- a call that is taken at once

or_as_before : (t e k : Bool) → e ≡ false → (t || (e && k)) ≡ t
or_as_before true e k is = refl
or_as_before false e k is = rw is refl

or_still : (t s : Bool) → t ≡ true → (t || s) ≡ true
or_still t s is = rw is refl

or_taken : (t e k : Bool) → e ≡ true → (not (t || (e && k)) && k) ≡ true → ⊥
or_taken true e k same left = let never : false ≡ true = left in cc
or_taken false true true same left = let never : false ≡ true = left in cc
or_taken false true false same left = let never : false ≡ true = left in cc
or_taken false false k same left = let never : false ≡ true = same in cc

-- what is left of a call that is taken at some keys
abbrev rest_by : (ℕ → Bool) → KeyedCall → KeyedCall
rest_by taken c = record {
  inv = c.inv;
  res = c.res;
  refused = c.refused;
  concerns = λ key. not (taken key) && c.concerns key;
  effect = λ key. cond (taken key) no_effect (c.effect key);
}

-- a past with a call that is taken at its keys, and leaves them as they are
abbrev with_taken : Choice → Operation → Choice
with_taken past o = record {
  taken = λ inv key. past.taken inv key || ((inv == o.inv) && concerns_key o.call key);
  found = λ inv key. cond (past.taken inv key) (past.found inv key) (past.holds key);
  holds = past.holds;
}

-- as much of another call is left as before
other_rest : (past : Choice) (o : Operation) (c : KeyedCall) → (c.inv ≡ o.inv → ⊥) → rest_of past c ≡ rest_of (with_taken past o) c
other_rest past o c other =
    ap (λ (t : ℕ → Bool). rest_by t c)
    (fun_ext (λ (key : ℕ). sym (or_as_before (past.taken c.inv key) (c.inv == o.inv) (concerns_key o.call key) (ne_eqb c.inv o.inv other))))

module _ (keys : Keys) (front back : List KeyedCall) (kept : KeptPast) (past : Choice) (o : Operation) (response : Response)
    (apart : AreKeyedCalls (front ++ keyed o ∷ back)) (accepted : is_refusal response.reply ≡ false)
    (untold : (key : ℕ) → IsNoEffect (effect_at o.call (Some response) key)) (none : (p : Operation) → Contains kept.left p → p.inv ≢ o.inv)
    (free : IsNotTakenAt keys past o.inv) (is : IsPast keys (front ++ keyed o ∷ back) kept past) where
  other_name : (c : KeyedCall) → Contains (front ++ back) c → c.inv ≡ o.inv → ⊥
  other_name c c_in same = differ (λ (a : KeyedCall). a.inv) front (keyed o) back apart.distinct c c_in same

  -- the call of an operation that is left is another
  call_of_left : (c : KeyedCall) (p : Operation) → Contains (front ++ keyed o ∷ back) c → Contains kept.left p
      → IsAlikeAt keys (left_at keys past c) (keyed p) → Contains (front ++ back) c
  call_of_left c p c_in p_in alike =
      ⊎_elim
      (λ same. absurd (none p p_in (alike.inv ∙ ap (λ (z : KeyedCall). z.inv) (sym same))))
      (λ rest. rest)
      (Contains-around front (keyed o) back c c_in)

  then_alike : (c : KeyedCall) (p : Operation) → Contains (front ++ back) c → IsAlikeAt keys (left_at keys past c) (keyed p)
      → IsAlikeAt keys (left_at keys (with_taken past o) c) (keyed p)
  then_alike c p c_in alike =
      subst (λ (x : KeyedCall). IsAlikeAt keys (only keys x) (keyed p)) (other_rest past o c (other_name c c_in)) alike

  now_none : (key : ℕ) → IsNoEffect ((left_at keys (with_taken past o) (keyed (answered response o))).effect key)
  now_none key = by_key (bool_cases (keys key))
    where
      by_key : (keys key ≡ true) ⊎ (keys key ≡ false)
          → IsNoEffect ((left_at keys (with_taken past o) (keyed (answered response o))).effect key)
      by_key (inl here) = rw here (none_or ((with_taken past o).taken o.inv key) (effect_at o.call (Some response) key) (untold key))
      by_key (inr out) = none_left_out keys (with_taken past o) (keyed (answered response o)) key out

  now_taken : IsLeftAt keys (with_taken past o) (keyed (answered response o)) → ⊥
  now_taken (key, here, some) = or_taken (past.taken o.inv key) (o.inv == o.inv) (concerns_key o.call key) (eq-eqb o.inv o.inv refl) some

  then_agrees : (c : KeyedCall) → Contains (front ++ back) c → AgreesAt keys (with_taken past o) c
  then_agrees c c_in =
      let before : AgreesAt keys past c =
      All-contains (AgreesAt keys past) (front ++ keyed o ∷ back) c is.agrees (beside front (keyed o) back c c_in) in record {
        accepted = λ key here taken. before.accepted key here (taken_before key taken);
        fits = λ key here taken. rw (taken_before key taken) (before.fits key here (taken_before key taken));
      }
    where
      taken_before : (key : ℕ) → (with_taken past o).taken c.inv key ≡ true → past.taken c.inv key ≡ true
      taken_before key taken =
          sym (or_as_before (past.taken c.inv key) (c.inv == o.inv) (concerns_key o.call key) (ne_eqb c.inv o.inv (other_name c c_in))) ∙ taken

  left_then : IsLeft keys (with_taken past o) 0 (front ++ keyed (answered response o) ∷ back) kept.pairs kept.left
  left_then = record {
    alike = record {
      rises = is.alike.rises;
      same = is.alike.same;
      nothing = is.alike.nothing;
      rising = is.alike.rising;
      forms = is.alike.forms;
      there = λ c c_in. ⊎_elim
          (λ same. inl (subst (λ (z : KeyedCall). (key : ℕ) → IsNoEffect ((left_at keys (with_taken past o) z).effect key)) same now_none))
          (λ rest. ⊎_elim
          (λ idle. inl (subst (λ (x : KeyedCall). (key : ℕ) → IsNoEffect ((only keys x).effect key))
          (other_rest past o c (other_name c rest)) idle))
          (λ shown. let (p, p_in, alike) = shown in inr (p, p_in, then_alike c p rest alike))
          (is.alike.there c (beside front (keyed o) back c rest)))
          (Contains-around front (keyed (answered response o)) back c c_in);
      back = λ p p_in.
          let (c, c_in, alike) = is.alike.back p p_in in
          let rest = call_of_left c p c_in p_in alike in
          (c, beside front (keyed (answered response o)) back c rest, then_alike c p rest alike);
    };
    owned = λ p p_in.
        let (c, c_in, told, some, alike) = is.owned p p_in in
        let rest = call_of_left c p c_in p_in alike in (
          c,
          beside front (keyed (answered response o)) back c rest,
          told,
          (some.0, some.1, subst (λ (x : KeyedCall). x.concerns some.0 ≡ true) (other_rest past o c (other_name c rest)) some.2),
          then_alike c p rest alike,
        );
    whole = λ c c_in early. absurd (omega arith);
    agrees = All-from_contains (AgreesAt keys (with_taken past o)) (front ++ keyed (answered response o) ∷ back) (λ c c_in. ⊎_elim
        (λ same. subst (λ (z : KeyedCall). AgreesAt keys (with_taken past o) z) same (record {
          accepted = λ key here taken. accepted;
          fits = λ key here taken. (untold key).fits ((with_taken past o).found o.inv key);
        }))
        (λ rest. then_agrees c rest)
        (Contains-around front (keyed (answered response o)) back c c_in));
  }

  whole_then : AreAllKept keys (with_taken past o) (front ++ keyed (answered response o) ∷ back) kept.left
  whole_then c c_in = ⊎_elim
      (λ same. subst (λ (z : KeyedCall). z.refused ≡ false → IsLeftAt keys (with_taken past o) z
      → IsShown keys (with_taken past o) kept.left z ⊎ IsOpenRead z) same (λ told some. absurd (now_taken some)))
      (λ rest told some. ⊎_elim
      (λ shown. let (p, p_in, alike) = shown in inl (p, p_in, then_alike c p rest alike))
      (λ read. inr read)
      (is.whole c (beside front (keyed o) back c rest) told
      (some.0, some.1, subst (λ (x : KeyedCall). x.concerns some.0 ≡ true) (sym (other_rest past o c (other_name c rest))) some.2)))
      (Contains-around front (keyed (answered response o)) back c c_in)

  known_then : AreKnown keys (with_taken past o) (front ++ keyed (answered response o) ∷ back)
  known_then inv key here taken = ⊎_elim
      (λ old. known_on keys front back past o response is.known inv key here old)
      (λ new.
      let parts = and_parts (inv == o.inv) (concerns_key o.call key) new in (
        keyed (answered response o),
        middle front (keyed (answered response o)) back,
        sym (eqb-true inv o.inv parts.0),
        parts.1,
      ))
      (or_cases (past.taken inv key) ((inv == o.inv) && concerns_key o.call key) taken)

  found_then : AreFound keys (with_taken past o) (front ++ keyed (answered response o) ∷ back) kept.found
  found_then = record {
    right = λ f f_in.
        let (here, taken, value) = is.found.right f f_in in
        (here, or_still (past.taken f.inv f.key) ((f.inv == o.inv) && concerns_key o.call f.key) taken, rw taken value);
    whole = λ a key a_in pending here taken.
        let rest = pending_before keys front back past o response a a_in pending in
        is.found.whole a key (beside front (keyed o) back a rest) pending here
        (sym (or_as_before (past.taken a.inv key) (a.inv == o.inv) (concerns_key o.call key) (ne_eqb a.inv o.inv (other_name a rest))) ∙ taken);
  }

  past_then : IsPast keys (front ++ keyed (answered response o) ∷ back) kept (with_taken past o)
  past_then =
      past_from keys (front ++ keyed (answered response o) ∷ back) kept (with_taken past o) left_then whole_then
      (λ p p_in.
      let fit = fit_on keys front back past o response p (fit_of keys (front ++ keyed o ∷ back) kept past is p p_in) in record {
        own = fit.own;
        within = fit.within;
        point = fit.point;
        untaken = λ key here.
            or_as_before (past.taken p.inv key) (p.inv == o.inv) (concerns_key o.call key) (ne_eqb p.inv o.inv (none p p_in))
            ∙ fit.untaken key here;
      })
      known_then found_then

  after_now : IsAfterCall keys past (keyed (answered response o)) (with_taken past o)
  after_now = record {
    taken = λ inv key here. refl;
    holds = λ key here. sym ((none_or (past.taken o.inv key) (effect_at o.call (Some response) key) (untold key)).leaves (past.holds key));
    found_before = λ inv key here taken. rw taken refl;
    found = λ key here fresh concerned. rw fresh refl;
  }

pub silent_reads_are_taken : UntoldReadsAreTaken
silent_reads_are_taken held place keys front back kept past others rest o response apart pending accepted untold none none_found is stand = (
  with_taken past o,
  past_then keys front back kept past o response apart accepted untold none free is,
  calls_without_effect held place (front ++ keyed (answered response o) ∷ back) keys past (with_taken past o) others rest
      (keyed (answered response o)) (middle front (keyed (answered response o)) back) refl accepted
      (λ key here. none_or (past.taken o.inv key) (effect_at o.call (Some response) key) (untold key))
      (after_now keys front back kept past o response apart accepted untold none free is) stand,
)
  where
    free : IsNotTakenAt keys past o.inv
    free = found_is_free keys (front ++ keyed o ∷ back) past kept.found o is.found (middle front (keyed o) back) pending none_found
