-- Reads that are taken as they are answered: such as report nothing (`reads_without_report`), and such as report what keys at rest hold
-- (`reads_at_rest`).
use Rattle.follow_laws.proofs.Common.{◌≡◌, ℕ, suc, ◌<◌, Bool, true, false, not, cond, List, [], ◌∷◌, ◌++◌, map, Option, None, Some, append-nil, inl}
use Rattle.follow_laws.proofs.Common.{inr, refl, sym, ap, ◌∙◌, subst, ⊎_elim, ◌⊎◌, All, AllPairs, Contains, AllZip, eq-eqb, and_from}
use Rattle.follow_laws.proofs.Common.{false_from_ne_true, All-nil, All-cons, All-head, All-append, All-contains, AllPairs-cons, Contains-map}
use Rattle.follow_laws.proofs.Common.{Contains-from_map, AllPairs-head, AllPairs-tail, AllPairs-append, AllPairs-front, AllPairs-back}
use Rattle.follow_laws.proofs.Common.{AllPairs-across, All-back, All-front, All-from_contains, Contains-nil, Contains-first, Contains-later}
use Rattle.follow_laws.proofs.Common.{Contains-cases, Contains-around, Operation, Response, low_key, may_change, Contents, value_at, IsLegalCall}
use Rattle.follow_laws.proofs.Common.{KeyedCall, Effect, IsFormed, IsNoEffect, no_effect, concerns_key, effect_at, is_refusal, keyed, precedes}
use Rattle.follow_laws.proofs.Common.{HasForm, Choice, rest_of, Keys, AreApart, IsQuiet, Part, Represent, IsLeftAt, NoneIsLeftAt, MayComeNext}
use Rattle.follow_laws.proofs.Common.{IsReadAt, IsAtRest, HasSomeKeyIn, HasKeysIn, IsNotTakenAt, answered, KeptPast, IsOpenRead, IsPast, KeptPart}
use Rattle.follow_laws.proofs.Common.{AreCallsBefore, IsOwn, IsKeptAs, AreKept, at_rest, ReadsAtRestAreTaken, ReadsWithoutReportAreTaken}
use Rattle.follow_laws.proofs.DeadLemmas.{bool_cases}
use Rattle.follow_laws.proofs.DecideLemmas.{formed_rest}
use Rattle.follow_laws.proofs.EffectLemmas.{step_of}
use Rattle.follow_laws.proofs.EffectRestLemmas.{pending_never}
use Rattle.follow_laws.proofs.EventLemmas.{not_both, beside, middle, own_alike}
use Rattle.follow_laws.proofs.GrowLemmas.{formed}
use Rattle.follow_laws.proofs.StepLemmas.{parts_in_any_order}
use Rattle.follow_laws.proofs.OnePastLemmas.{left_of}
use Rattle.follow_laws.proofs.PastEventLemmas.{refused_reads_are_not_kept}
use Rattle.follow_laws.proofs.TakenLemmas.{silent_reads_are_taken}
use Rattle.follow_laws.proofs.ComeLemmas.{operations_come_next}
use Rattle.follow_laws.proofs.RestLemmas.{reads_at_rest as reads_of_parts_at_rest}
use Rattle.follow_laws.proofs.KeptAfterLemmas.{is_past_after}
use Rattle.follow_laws.proofs.KeptCallLemmas.{concerns_low_key, reads_keep, reads_leave, AreCallsAfter, calls_answered, keyed_around}
use Rattle.follow_laws.proofs.KeptPartLemmas.{own_at_rest, IsKeptFirst, first_of, from_first, stand_after, IsKeptPast}
use Rattle.follow_laws.proofs.KeptAnswerLemmas.{Becomes, EachBecomes, one_becomes, all_become, IsFree, around, from_around, apart_around, own_still}
use Rattle.follow_laws.proofs.KeptAnswerLemmas.{whole_still, read_free, read_then, others_then}

-- ---- a part that is not the first

abbrev AreApartParts : Part → Part → Type 0
AreApartParts part other = AreApart part.keys other.keys

apart_back : (part other : Part) → AreApartParts part other → AreApartParts other part
apart_back part other apart key there = false_from_ne_true (part.keys key) (λ here. not_both (other.keys key) there (apart key here))

module _ {X : Type 0} (xs : List X) (x : X) (ys : List X) where
  to_middle : (z : X) → Contains (x ∷ xs ++ ys) z → Contains (xs ++ x ∷ ys) z
  to_middle z z_in = ⊎_elim
      (λ same. subst (λ (y : X). Contains (xs ++ x ∷ ys) y) same (middle xs x ys))
      (λ rest. beside xs x ys z rest)
      (Contains-cases x (xs ++ ys) z z_in)

  to_front : (z : X) → Contains (xs ++ x ∷ ys) z → Contains (x ∷ xs ++ ys) z
  to_front z z_in = ⊎_elim
      (λ same. subst (λ (y : X). Contains (x ∷ xs ++ ys) y) same (Contains-first x (xs ++ ys)))
      (λ rest. Contains-later x (xs ++ ys) z rest)
      (Contains-around xs x ys z z_in)

module _ (xs : List Part) (x : Part) (ys : List Part) where
  apart_middle : AllPairs AreApartParts (x ∷ xs ++ ys) → AllPairs AreApartParts (xs ++ x ∷ ys)
  apart_middle apart =
      AllPairs-append AreApartParts xs (x ∷ ys) (AllPairs-front AreApartParts xs ys rest)
      (AllPairs-cons AreApartParts x ys (All-back (AreApartParts x) xs ys first) (AllPairs-back AreApartParts xs ys rest))
      (All-from_contains (λ a. All (AreApartParts a) (x ∷ ys)) xs (λ a a_in.
      All-cons (AreApartParts a) x ys
      (apart_back x a (All-contains (AreApartParts x) xs a (All-front (AreApartParts x) xs ys first) a_in))
      (All-contains (λ b. All (AreApartParts b) ys) xs a (AllPairs-across AreApartParts xs ys rest) a_in)))
    where
      first : All (AreApartParts x) (xs ++ ys)
      first = AllPairs-head AreApartParts x (xs ++ ys) apart

      rest : AllPairs AreApartParts (xs ++ ys)
      rest = AllPairs-tail AreApartParts x (xs ++ ys) apart

  apart_front : AllPairs AreApartParts (xs ++ x ∷ ys) → AllPairs AreApartParts (x ∷ xs ++ ys)
  apart_front apart =
      AllPairs-cons AreApartParts x (xs ++ ys)
      (All-append (AreApartParts x) xs ys
      (All-from_contains (AreApartParts x) xs (λ a a_in.
      apart_back a x (All-head (AreApartParts a) x ys (All-contains (λ b. All (AreApartParts b) (x ∷ ys)) xs a across a_in))))
      (AllPairs-head AreApartParts x ys later))
      (AllPairs-append AreApartParts xs ys (AllPairs-front AreApartParts xs (x ∷ ys) apart) (AllPairs-tail AreApartParts x ys later)
      (All-from_contains (λ a. All (AreApartParts a) ys) xs (λ a a_in.
      All-back (AreApartParts a) (x ∷ []) ys (All-contains (λ b. All (AreApartParts b) (x ∷ ys)) xs a across a_in))))
    where
      later : AllPairs AreApartParts (x ∷ ys)
      later = AllPairs-back AreApartParts xs (x ∷ ys) apart

      across : All (λ a. All (AreApartParts a) (x ∷ ys)) xs
      across = AllPairs-across AreApartParts xs (x ∷ ys) apart

  -- parts represent the calls if the first is moved into the middle, and back
  pub stand_middle : (held : ℕ → Option ℕ) (place : ℕ) (calls : List KeyedCall) → Represent held place calls (x ∷ xs ++ ys)
      → Represent held place calls (xs ++ x ∷ ys)
  stand_middle held place calls stand =
      parts_in_any_order held place calls (x ∷ xs ++ ys) (xs ++ x ∷ ys)
      (record {
        apart = apart_middle stand.shared.apart;
        every = λ key. let (part, part_in, is) = stand.shared.every key in (part, to_middle xs x ys part part_in, is);
      })
      (to_middle xs x ys) (to_front xs x ys) stand

  pub stand_front : (held : ℕ → Option ℕ) (place : ℕ) (calls : List KeyedCall) → Represent held place calls (xs ++ x ∷ ys)
      → Represent held place calls (x ∷ xs ++ ys)
  stand_front held place calls stand =
      parts_in_any_order held place calls (xs ++ x ∷ ys) (x ∷ xs ++ ys)
      (record {
        apart = apart_front stand.shared.apart;
        every = λ key. let (part, part_in, is) = stand.shared.every key in (part, to_front xs x ys part part_in, is);
      })
      (to_front xs x ys) (to_middle xs x ys) stand

-- ---- a read that reports nothing

abbrev IsSame : KeptPast → List KeptPast → Type 0
IsSame past nexts = nexts ≡ past ∷ []

each_same : (kept : List KeptPast) → EachBecomes IsSame kept kept
each_same [] = refl
each_same (past ∷ kept) = (past ∷ [], kept, refl, refl, each_same kept)

module _ (held : ℕ → Option ℕ) (place : ℕ) (front back : List Operation) (o : Operation) (response : Response) (pending : o.response ≡ None)
    (are : AreCallsBefore place (front ++ o ∷ back)) (read : may_change o.call ≡ false)
    (none : (key : ℕ) → IsNoEffect (effect_at o.call (Some response) key)) where
  -- a past is kept as before, if it is the first
  past_becomes : (keys : Keys) (rest : List Part) (kept : KeptPast) (past : Choice) (nexts : List KeptPast) → IsSame kept nexts
      → IsKeptPast keys (front ++ o ∷ back) kept past → Becomes held (suc place) (front ++ answered response o ∷ back) keys rest past nexts
  past_becomes keys rest kept past nexts same known = by_reply (bool_cases (is_refusal response.reply))
    where
      free : IsFree o kept
      free = read_free place front back o response pending are kept read known.own.of_calls

      own : IsOwn keys (front ++ answered response o ∷ back) kept
      own = record {
        of_calls = own_still place front back o response pending are kept free known.own.of_calls;
        whole = whole_still place front back o response pending are keys kept kept (λ p other h. h) known.own;
      }

      is : IsPast keys (map keyed front ++ keyed o ∷ map keyed back) kept past
      is = around place front back o response pending are keys kept past known.is

      by_reply : (is_refusal response.reply ≡ true) ⊎ (is_refusal response.reply ≡ false)
          → Becomes held (suc place) (front ++ answered response o ∷ back) keys rest past nexts
      by_reply (inl refused) =
          one_becomes held (suc place) (front ++ answered response o ∷ back) keys rest kept past nexts
          (record {
            is = from_around place front back o response pending are keys kept past
                (refused_reads_are_not_kept keys (map keyed front) (map keyed back) kept past o response pending refused free.left free.found is);
            own = own;
          })
          same
      by_reply (inr accepted) = λ others stand.
          let (next, next_is, next_stand) =
          silent_reads_are_taken held (suc place) keys (map keyed front) (map keyed back) kept past others rest o response
          (apart_around place front back o response pending are) pending accepted none free.left free.found is
          (subst (λ (calls : List KeyedCall). Represent held (suc place) calls (record { keys = keys; pasts = past ∷ others } ∷ rest))
          (keyed_around front back (answered response o)) stand) in
          one_becomes held (suc place) (front ++ answered response o ∷ back) keys rest kept next nexts
          (record { is = from_around place front back o response pending are keys kept next next_is; own = own }) same others
          (subst (λ (calls : List KeyedCall). Represent held (suc place) calls (record { keys = keys; pasts = next ∷ others } ∷ rest))
          (sym (keyed_around front back (answered response o))) next_stand)

  -- each part is kept as before
  parts_become : (kept : List KeptPart) (parts done : List Part) → AllZip (IsKeptAs (front ++ o ∷ back)) kept parts
      → Represent held (suc place) (map keyed (front ++ answered response o ∷ back)) (parts ++ done)
      → (news : List Part) × AllZip (IsKeptAs (front ++ answered response o ∷ back)) kept news
      × Represent held (suc place) (map keyed (front ++ answered response o ∷ back)) (news ++ done)
  parts_become [] [] done each stand = ([], tt, stand)
  parts_become [] (part ∷ parts) done each stand = absurd each
  parts_become (one ∷ kept) [] done each stand = absurd each
  parts_become (one ∷ kept) (part ∷ parts) done each stand =
      let (pasts, pasts_are, now) =
      all_become held (suc place) (front ++ o ∷ back) (front ++ answered response o ∷ back) one.keys (parts ++ done) IsSame
      (past_becomes one.keys (parts ++ done)) one.pasts part.pasts one.pasts (each_same one.pasts) (each.0.pasts, each.0.own)
      (subst (λ (keys : Keys). Represent held (suc place) (map keyed (front ++ answered response o ∷ back))
      (record { keys = keys; pasts = part.pasts } ∷ parts ++ done)) each.0.keys stand) in
      let (news, news_are, then) =
      parts_become kept parts (record { keys = one.keys; pasts = pasts } ∷ done) each.1
      (stand_middle parts (record { keys = one.keys; pasts = pasts }) done held (suc place) (map keyed (front ++ answered response o ∷ back)) now) in (
        record { keys = one.keys; pasts = pasts } ∷ news,
        (record { keys = refl; pasts = pasts_are.0; own = pasts_are.1 }, news_are),
        stand_front news (record { keys = one.keys; pasts = pasts }) done held (suc place) (map keyed (front ++ answered response o ∷ back)) then,
      )

pub reads_without_report_are_taken : ReadsWithoutReportAreTaken
reads_without_report_are_taken start place front back parts o response pending read at form none are =
    let after = calls_answered place front back o response pending at form are.are_calls in
    let (news, news_are, stand) =
    parts_become (value_at start) place front back o response pending are.are_calls read none parts are.parts [] are.are_parts
    (subst (λ (all : List Part). Represent (value_at start) (suc place) (map keyed (front ++ answered response o ∷ back)) all)
    (sym (append-nil are.parts))
    (stand_after start place (front ++ o ∷ back) (front ++ answered response o ∷ back) are.parts after are.stand)) in record {
      are_calls = after.are_calls;
      parts = news;
      are_parts = news_are;
      stand = subst (λ (all : List Part). Represent (value_at start) (suc place) (map keyed (front ++ answered response o ∷ back)) all)
          (append-nil news) stand;
    }

-- ---- a read of keys at rest

quiet_rest : (t : Bool) (e : Effect) → ((value : Option ℕ) → e.fits value ≡ true → e.leaves value ≡ value) → (value : Option ℕ)
    → (cond t no_effect e).fits value ≡ true → (cond t no_effect e).leaves value ≡ value
quiet_rest true e quiet value fits = refl
quiet_rest false e quiet value fits = quiet value fits

fits_rest : (t : Bool) (e : Effect) (value : Option ℕ) → e.fits value ≡ true → (cond t no_effect e).fits value ≡ true
fits_rest true e value fits = refl
fits_rest false e value fits = fits

-- All that is known of a read that is answered, of a past at rest, and of the calls after the answer.
record IsReadOfRest (place : ℕ) (front back : List Operation) (o : Operation) (response : Response) (keys : Keys) (pairs : Contents) (past : Choice)
    : Type 0 where
  pending : o.response ≡ None
  read : may_change o.call ≡ false
  accepted : is_refusal response.reply ≡ false
  form : HasForm o.call (Some response)
  some : HasSomeKeyIn keys o
  inside : HasKeysIn keys o
  legal : IsLegalCall pairs o.call (Some response)
  before : AreCallsBefore place (front ++ o ∷ back)
  then : AreCallsBefore (suc place) (front ++ answered response o ∷ back)
  known : IsKeptPast keys (front ++ o ∷ back) (at_rest pairs) past

module _ (place : ℕ) (front back : List Operation) (o : Operation) (response : Response) (keys : Keys) (pairs : Contents) (past : Choice)
    (all : IsReadOfRest place front back o response keys pairs past) where
  -- the read is left, and nothing else
  left_now : IsPast keys (map keyed (front ++ answered response o ∷ back))
      (record { pairs = pairs; left = answered response o ∷ []; found = [] }) past
  left_now =
      (read_then place front back o response all.pending all.before keys (at_rest pairs)
      (record { pairs = pairs; left = answered response o ∷ []; found = [] }) past all.read all.accepted all.form all.some all.inside
      ([], [], refl, All-nil (λ p. p.inv < o.inv), All-nil (λ p. o.inv < p.inv), refl) all.known).is

  free : IsNotTakenAt keys past o.inv
  free key here = left_now.untaken (answered response o) key (Contains-first (answered response o) []) here

  read_in : Contains (map keyed (front ++ answered response o ∷ back)) (keyed (answered response o))
  read_in = Contains-map keyed (front ++ answered response o ∷ back) (answered response o) (middle front (answered response o) back)

  fits_now : (key : ℕ) → keys key ≡ true → ((rest_of past (keyed (answered response o))).effect key).fits (past.holds key) ≡ true
  fits_now key here =
      fits_rest (past.taken o.inv key) (effect_at o.call (Some response) key) (past.holds key)
      (subst (λ (v : Option ℕ). (effect_at o.call (Some response) key).fits v ≡ true) (all.known.is.alike.same key here)
      (((step_of pairs (answered response o) all.known.is.alike.rises).fits.0 all.legal).1 key))

  quiet_now : IsReadAt keys past (keyed (answered response o))
  quiet_now key here =
      quiet_rest (past.taken o.inv key) (effect_at o.call (Some response) key) (reads_leave (answered response o) all.read key)

  -- each other call was there before the answer
  read_or_old : (a : KeyedCall) → Contains (map keyed (front ++ answered response o ∷ back)) a
      → (keyed (answered response o) ≡ a) ⊎ Contains (map keyed (front ++ o ∷ back)) a
  read_or_old a a_in =
      let (p, p_in, same) = Contains-from_map keyed (front ++ answered response o ∷ back) a a_in in
      ⊎_elim
      (λ one. inl (ap keyed one ∙ same))
      (λ rest. inr (subst (λ (z : KeyedCall). Contains (map keyed (front ++ o ∷ back)) z) same
      (Contains-map keyed (front ++ o ∷ back) p (beside front o back p rest))))
      (Contains-around front (answered response o) back p p_in)

  -- if something is left of another call, it is a pending read
  open_if_left : (a : KeyedCall) → Contains (map keyed (front ++ o ∷ back)) a → a.refused ≡ false → IsLeftAt keys past a → IsOpenRead a
  open_if_left a a_in accepted is_left =
      ⊎_elim
      (λ shown. absurd (Contains-nil shown.0 shown.1))
      (λ open_read. open_read)
      (all.known.is.whole a a_in accepted is_left)

  rest_formed : (a : KeyedCall) → Contains (map keyed (front ++ o ∷ back)) a → IsFormed (rest_of past a)
  rest_formed a a_in = formed_rest past a (All-contains IsFormed (map keyed (front ++ o ∷ back)) a all.before.grown.formed a_in)

  old_quiet : (a : KeyedCall) (key : ℕ) → Contains (map keyed (front ++ o ∷ back)) a → keys key ≡ true → IsQuiet (rest_of past a) key
  old_quiet a key a_in here = by_tests (bool_cases a.refused) (bool_cases ((rest_of past a).concerns key))
    where
      by_tests : (a.refused ≡ true) ⊎ (a.refused ≡ false) → ((rest_of past a).concerns key ≡ true) ⊎ ((rest_of past a).concerns key ≡ false)
          → IsQuiet (rest_of past a) key
      by_tests (inl refused) concerned = λ value fits. ((rest_formed a a_in).refusal refused key).leaves value
      by_tests (inr accepted) (inl concerned) =
          quiet_rest (past.taken a.inv key) (a.effect key) ((open_if_left a a_in accepted (key, here, concerned)).1 key)
      by_tests (inr accepted) (inr out) = λ value fits. ((rest_formed a a_in).elsewhere key out).leaves value

  rests : IsAtRest keys past (map keyed (front ++ answered response o ∷ back)) (keyed (answered response o))
  rests a key a_in here concerned = inl (⊎_elim
      (λ same. subst (λ (z : KeyedCall). IsQuiet (rest_of past z) key) same (quiet_now key here))
      (λ old. old_quiet a key old here)
      (read_or_old a a_in))

  -- the call that is answered may come next
  first_now : (a : KeyedCall) → Contains (map keyed (front ++ answered response o ∷ back)) a → precedes a (keyed (answered response o)) ≡ true
      → (a.refused ≡ true) ⊎ NoneIsLeftAt keys past a
  first_now a a_in earlier = ⊎_elim
      (λ same. absurd (not_both (precedes (keyed (answered response o)) (keyed (answered response o)))
      (subst (λ (z : KeyedCall). precedes z (keyed (answered response o)) ≡ true) (sym same) earlier)
      (All-contains (λ x. precedes x x ≡ false) (map keyed (front ++ answered response o ∷ back)) (keyed (answered response o))
      all.then.grown.apart.last read_in)))
      (λ old. ⊎_elim
      (λ refused. inl refused)
      (λ accepted. inr (λ key here. false_from_ne_true ((rest_of past a).concerns key) (λ concerned.
      pending_never a.res o.inv (open_if_left a old accepted (key, here, concerned)).0 earlier)))
      (bool_cases a.refused))
      (read_or_old a a_in)

  may_come : MayComeNext keys past (map keyed (front ++ answered response o ∷ back)) (keyed (answered response o))
  may_come = record {
    is_left = (
      all.some.0,
      all.some.1,
      and_from (not (past.taken o.inv all.some.0)) (concerns_key o.call all.some.0) (ap not (free all.some.0 all.some.1)) all.some.2,
    );
    accepted = all.accepted;
    fits = fits_now;
    first = first_now;
  }

  taken_now : (held : ℕ → Option ℕ) (others : List Choice) (rest : List Part)
      → Represent held (suc place) (map keyed (front ++ answered response o ∷ back)) (record { keys = keys; pasts = past ∷ others } ∷ rest)
      → (next : Choice) × IsKeptPast keys (front ++ answered response o ∷ back) (at_rest pairs) next
      × Represent held (suc place) (map keyed (front ++ answered response o ∷ back)) (record { keys = keys; pasts = next ∷ others } ∷ rest)
  taken_now held others rest stand =
      let left = left_of keys (map keyed (front ++ answered response o ∷ back))
      (record { pairs = pairs; left = answered response o ∷ []; found = [] }) past left_now in
      let alike = own_alike keys past (answered response o) all.inside free in
      let (next, taken, then_left, then_owned, then_all, then_agree) =
      operations_come_next keys keys past 0 (map keyed (front ++ answered response o ∷ back)) pairs (answered response o ∷ [])
      (keyed (answered response o)) (answered response o) all.then.grown.apart all.then.grown.formed left.alike left.owned left.whole left.agrees
      read_in alike (λ key out. rw out refl) may_come in (
        next,
        record {
          is = is_past_after keys (map keyed (front ++ answered response o ∷ back))
              (record { pairs = pairs; left = answered response o ∷ []; found = [] }) past next (keyed (answered response o)) (answered response o)
              (record {
                is = left_now;
                apart = all.then.grown.apart;
                a_in = read_in;
                o_in = Contains-first (answered response o) [];
                alike = alike;
                taken = taken;
                left = then_left;
                owned = then_owned;
                agrees = then_agree;
              })
              (at_rest pairs)
              (record {
                pairs = sym (reads_keep pairs o.call (Some response) all.read);
                left = rw (eq-eqb o.inv o.inv refl) refl;
                found = λ f. (λ h. inl h, λ h. ⊎_elim (λ x. x) (λ x. x) h);
              });
          own = record {
            of_calls = own_at_rest (front ++ answered response o ∷ back) pairs;
            whole = whole_still place front back o response all.pending all.before keys (at_rest pairs) (at_rest pairs) (λ p other h. h)
                all.known.own;
          };
        },
        reads_of_parts_at_rest held (suc place) (map keyed (front ++ answered response o ∷ back)) keys past next others rest
            (keyed (answered response o)) read_in refl all.accepted quiet_now fits_now rests taken stand,
      )

-- the past of a part at rest, and what becomes of it
abbrev IsRest : Contents → KeptPast → List KeptPast → Type 0
IsRest pairs kept nexts = (at_rest pairs ≡ kept) × (nexts ≡ at_rest pairs ∷ [])

pub reads_at_rest_are_taken : ReadsAtRestAreTaken
reads_at_rest_are_taken start place front back keys pairs rest o response pending read accepted at form here inside legal are =
    by_key (bool_cases (concerns_key o.call (low_key o.call)))
  where
    first : IsKeptFirst start place (front ++ o ∷ back) (record { keys = keys; pasts = at_rest pairs ∷ [] }) rest
    first = first_of start place (front ++ o ∷ back) (record { keys = keys; pasts = at_rest pairs ∷ [] }) rest are

    after : AreCallsAfter place (front ++ o ∷ back) (front ++ answered response o ∷ back)
    after = calls_answered place front back o response pending at form are.are_calls

    step : concerns_key o.call (low_key o.call) ≡ true → (kept : KeptPast) (past : Choice) (nexts : List KeptPast) → IsRest pairs kept nexts
        → IsKeptPast keys (front ++ o ∷ back) kept past
        → Becomes (value_at start) (suc place) (front ++ answered response o ∷ back) keys first.others past nexts
    step concerned kept past nexts rests known others stand =
        let (next, next_known, next_stand) =
        taken_now place front back o response keys pairs past (record {
          pending = pending;
          read = read;
          accepted = accepted;
          form = form;
          some = (low_key o.call, here, concerned);
          inside = inside;
          legal = legal;
          before = are.are_calls;
          then = after.are_calls;
          known = subst (λ (z : KeptPast). IsKeptPast keys (front ++ o ∷ back) z past) (sym rests.0) known;
        }) (value_at start) others first.others stand in
        one_becomes (value_at start) (suc place) (front ++ answered response o ∷ back) keys first.others (at_rest pairs) next nexts next_known
        rests.1 others next_stand

    by_key : (concerns_key o.call (low_key o.call) ≡ true) ⊎ (concerns_key o.call (low_key o.call) ≡ false)
        → AreKept start (suc place) (front ++ answered response o ∷ back) (record { keys = keys; pasts = at_rest pairs ∷ [] } ∷ rest)
    by_key (inl concerned) =
        let (news, news_are, stand) =
        all_become (value_at start) (suc place) (front ++ o ∷ back) (front ++ answered response o ∷ back) keys first.others (IsRest pairs)
        (step concerned) (at_rest pairs ∷ []) first.pasts (at_rest pairs ∷ []) (at_rest pairs ∷ [], [], refl, (refl, refl), refl)
        (first.are_pasts, first.own)
        (stand_after start place (front ++ o ∷ back) (front ++ answered response o ∷ back)
        (record { keys = keys; pasts = first.pasts } ∷ first.others) after first.stand) in
        from_first start (suc place) (front ++ answered response o ∷ back) (record { keys = keys; pasts = at_rest pairs ∷ [] }) rest (record {
          are_calls = after.are_calls;
          pasts = news;
          others = first.others;
          are_pasts = news_are.0;
          own = news_are.1;
          are_others = others_then start place front back (record { keys = keys; pasts = at_rest pairs ∷ [] }) rest o response pending inside first;
          stand = stand;
        })
    by_key (inr none) =
        reads_without_report_are_taken start place front back (record { keys = keys; pasts = at_rest pairs ∷ [] } ∷ rest) o response pending read at
        form
        (λ key. (formed (answered response o)).elsewhere key (false_from_ne_true (concerns_key o.call key) (λ concerned.
        not_both (concerns_key o.call (low_key o.call)) (concerns_low_key o.call key concerned) none)))
        are
