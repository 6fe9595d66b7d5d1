-- A read that reports something is answered: with its keys at rest (`taken_at_rest`), or in a part that is made of those that it met
-- (`report_is_kept`, `report_is_left`).
use Rattle.follow_parts.proofs.Common.{◌≡◌, ℕ, suc, ◌<◌, ◌≤◌, true, false, List, [], ◌∷◌, ◌++◌, map, Option, None, Some, refl, sym, ap, ◌∙◌, subst, eqb-true}
use Rattle.follow_parts.proofs.Common.{arith, get_or, ◌≢◌, nat_le, nat_lt, All, AllPairs, Any, Contains, AllZip, and_from, le-leb, nat_tests, All-nil}
use Rattle.follow_parts.proofs.Common.{All-cons, All-head, All-tail, All-append, All-contains, All-weaker, AllPairs-cons, All-from_contains, All-front}
use Rattle.follow_parts.proofs.Common.{All-back, AllPairs-append, AllPairs-front, AllPairs-back, AllPairs-across, Call, Get, Insert, Remove, Scan, Replace}
use Rattle.follow_parts.proofs.Common.{Operation, Response, low_key, high_key, may_change, is_before, precedes, Contents, IsRising, IsLegalCall}
use Rattle.follow_parts.proofs.Common.{concerns_key, is_refused, HasForm, HasKeysIn, answered, pairs_at, KeptPast, KeptPart, AreKept, at_rest, IsWithRead}
use Rattle.follow_parts.proofs.Common.{reads_are_answered, reads_at_rest_are_taken, any_to, parts_move, IsAnswerOf, covered, from_to, AreBesideEachOther}
use Rattle.follow_parts.proofs.Common.{IsPartShaped, IsPastShaped, Become, outside, resting, kept_part, Part, Range, OpenRead, same_keys, HasOwnPlace}
use Rattle.follow_parts.proofs.Common.{MayBeLeft, MayStand, kept_with, IsCallBefore, IsPartBefore, IsPastBefore, IsShaped, MayComeTo, AreMet, AreParted}
use Rattle.follow_parts.proofs.Common.{IsReportedAt, PartsView, is_at_rest, kept_parts, kept_rest}
use Rattle.orders.proofs.RangeLemmas.{IsLegalCall-within}
use Rattle.follow_parts.proofs.BegunLemmas.{part_later}
use Rattle.follow_parts.proofs.MetLemmas.{all_left, all_out, pairs_left, pairs_out, pairs_across, parted_kept, parted_out, met_cover, met_rest, none_met}
use Rattle.follow_parts.proofs.MetLemmas.{none_out}

-- ---- keys

one : (own key : ℕ) → own ≡ key → from_to own own key ≡ true
one own key same =
    and_from (nat_le own key) (nat_le key own) (le-leb own key (omega (arith, same))) (le-leb key own (omega (arith, same)))

-- the keys of a call are from its least to its greatest
concerned_within : (call : Call) (key : ℕ) → concerns_key call key ≡ true → from_to (low_key call) (high_key call) key ≡ true
concerned_within (Get own) key here = one own key (eqb-true own key here)
concerned_within (Insert own value) key here = one own key (eqb-true own key here)
concerned_within (Remove own) key here = one own key (eqb-true own key here)
concerned_within (Scan low high) key here = here
concerned_within (Replace own expected value) key here = one own key (eqb-true own key here)

low_within : (low high : ℕ) → low ≤ high → from_to low high low ≡ true
low_within low high some = and_from (nat_le low low) (nat_le low high) (le-leb low low (omega arith)) (le-leb low high some)

-- ---- the answer

pub record IsReport (now : ℕ) (o : Operation) : Type 0 where
  pub reported : IsReportedAt now o
  pub reads : may_change o.call ≡ false
  pub shaped : low_key o.call ≤ high_key o.call
  pub form : HasForm o.call o.response
  pub something : is_refused o.response ≡ false

-- its response comes after its invocation
pub told_after : (now : ℕ) (o : Operation) → IsReportedAt now o → o.inv < now → precedes o o ≡ false
told_after now o reported begun =
    ap (λ (r : Option Response). is_before r o.inv) reported.is ∙ not_less reported.response.res o.inv (omega (arith, begun, reported.res))
  where
    not_less : (res inv : ℕ) → inv ≤ res → nat_lt res inv ≡ false
    not_less res inv late = grind (arith, nat_tests)

pub told_at : (now : ℕ) (o : Operation) (response : Response) → IsReportedAt now o → o.response ≡ Some response → response.res ≡ now
told_at now o response reported is =
    let same : Some reported.response ≡ Some response = sym reported.is ∙ is in
    let equal : reported.response ≡ response = cc in
    subst (λ (r : Response). r.res ≡ now) equal reported.res

-- ---- parts that are apart

pub beside_turned : (part other : Part) → AreBesideEachOther part other → AreBesideEachOther other part
beside_turned part other beside k d within i e there j f here m g at same = beside i e there k d within m g at j f here (sym same)

-- ---- the shape

call_later : (now : ℕ) (o : Operation) → IsCallBefore now o → IsCallBefore (suc now) o
call_later now o before = record {
  begun = omega (arith, before.begun);
  ended = λ (response : Response) is. let h = before.ended response is in omega (arith, h);
}

All-between : {X : Type 0} (P : X → Type 0) (front : List X) (x : X) (back : List X) → All P (front ++ back) → P x → All P (front ++ x ∷ back)
All-between P front x back all here =
    All-append P front (x ∷ back) (All-front P front back all) (All-cons P x back here (All-back P front back all))

module _ (s : PartsView) (shaped : IsShaped s) (left met : List Part) (parted : AreParted s.parts left met) (rest : Contents) where
  abbrev next : PartsView
  next = record { rest = rest; parts = left; reads = s.reads; now = suc s.now }

  pub next_is_shaped : IsRising rest → IsShaped next
  next_is_shaped rises = record {
    rest = rises;
    parts = All-weaker (IsPartBefore s.now s.reads) (IsPartBefore (suc s.now) s.reads) (part_later s.now s.reads) left
        (all_left (IsPartBefore s.now s.reads) s.parts left met parted shaped.parts);
    apart = pairs_left AreBesideEachOther s.parts left met parted shaped.apart;
    reads = All-weaker (λ (read : OpenRead). read.inv < s.now) (λ (read : OpenRead). read.inv < suc s.now)
        (λ read less. omega (arith, less)) s.reads shaped.reads;
    distinct = shaped.distinct;
  }

  met_before : All (IsPartBefore s.now s.reads) met
  met_before = all_out (IsPartBefore s.now s.reads) s.parts left met parted shaped.parts

  pub met_shaped : All IsPartShaped met
  met_shaped = All-weaker (IsPartBefore s.now s.reads) IsPartShaped (λ part before. record {
    first = before.first;
    pasts = All-weaker (IsPastBefore s.now) IsPastShaped (λ past is. record { rising = is.rising; apart = is.apart }) (kept_part part).pasts
        before.pasts;
  }) met met_before

  pub met_apart : AllPairs AreBesideEachOther met
  met_apart = pairs_out AreBesideEachOther s.parts left met parted shaped.apart

  -- a call that is left of a part that was taken out may be left in one more part
  met_stands : (part : Part) → Contains met part → (past : KeptPast) → Contains (kept_part part).pasts past → (a : Operation)
      → Contains past.left a → MayStand next a
  met_stands part part_in past past_in a a_in = record {
    apart = All-contains (λ (x : Operation). precedes x x ≡ false) past.left a own.apart a_in;
    before = call_later s.now a (All-contains (IsCallBefore s.now) past.left a own.before a_in);
    own = record {
      reads = All-from_contains (λ (read : OpenRead). read.inv ≢ a.inv) s.reads (λ read read_in same.
          All-contains (λ (x : Operation). x.inv ≢ read.inv) past.left a (beside read read_in) a_in (sym same));
      parts = λ k d within i e there j f here same.
          let other : Part = get_or left k d in
          let across : AreBesideEachOther other part =
          All-contains (AreBesideEachOther other) met part
          (pairs_across AreBesideEachOther beside_turned s.parts left met parted shaped.apart k d within) part_in in
          All-contains (λ (x : Operation). (get_or (get_or (kept_part other).pasts i e).left j f).inv ≢ x.inv) past.left a
          (All-contains (λ (p : KeptPast). All (λ (o : Operation). All (λ (x : Operation). o.inv ≢ x.inv) p.left) (get_or (kept_part other).pasts i e).left)
          (kept_part part).pasts past (across i e there) past_in j f here) a_in same;
    };
  }
    where
      of_part : IsPartBefore s.now s.reads part
      of_part = All-contains (IsPartBefore s.now s.reads) met part met_before part_in

      own : IsPastBefore s.now past
      own = All-contains (IsPastBefore s.now) (kept_part part).pasts past of_part.pasts past_in

      beside : (read : OpenRead) → Contains s.reads read → All (λ (x : Operation). x.inv ≢ read.inv) past.left
      beside = All-contains (λ (p : KeptPast). (read : OpenRead) → Contains s.reads read → All (λ (x : Operation). x.inv ≢ read.inv) p.left)
          (kept_part part).pasts past of_part.beside past_in

  -- calls that are left of such parts
  abbrev IsOfMet : Operation → Type 0
  IsOfMet o = Any (λ (part : Part). Any (λ (other : KeptPast). Contains other.left o) (kept_part part).pasts) met

  of_met_stands : (o : Operation) → IsOfMet o → MayStand next o
  of_met_stands o there =
      let (part, part_in, here) = any_to (λ (p : Part). Any (λ (other : KeptPast). Contains other.left o) (kept_part p).pasts) met there in
      let (past, past_in, o_in) = any_to (λ (other : KeptPast). Contains other.left o) (kept_part part).pasts here in
      met_stands part part_in past past_in o o_in

  module _ (o : Operation) (reported : IsReportedAt s.now o) (begun : o.inv < s.now) (own : HasOwnPlace s o) where
    -- the read may be added to each part
    pub met_comes : All (MayComeTo o) met
    met_comes = All-from_contains (MayComeTo o) met (λ part part_in. record {
      other = All-contains (λ (p : Part). All (λ (past : KeptPast). All (λ (x : Operation). x.inv ≢ o.inv) past.left) (kept_part p).pasts)
          s.parts part own.parts (parted_out s.parts left met parted part part_in);
      before = λ response is.
          subst (λ (n : ℕ). All (λ (past : KeptPast). All (IsCallBefore n) past.left) (kept_part part).pasts)
          (sym (told_at s.now o response reported is))
          (All-weaker (IsPastBefore s.now) (λ (past : KeptPast). All (IsCallBefore s.now) past.left) (λ past is. is.before) (kept_part part).pasts
          (All-contains (IsPartBefore s.now s.reads) met part met_before part_in).pasts);
    })

    read_stands : MayStand next o
    read_stands = record {
      apart = told_after s.now o reported begun;
      before = record {
        begun = omega (arith, begun);
        ended = λ response is. let at = told_at s.now o response reported is in omega (arith, at);
      };
      own = record {
        reads = own.reads;
        parts = all_left (λ (p : Part). All (λ (past : KeptPast). All (λ (x : Operation). x.inv ≢ o.inv) past.left) (kept_part p).pasts) s.parts left met
            parted own.parts;
      };
    }

    past_with : (past after : KeptPast) → IsWithRead o past after → AllPairs (λ (a b : Operation). a.inv < b.inv) past.left
        → All IsOfMet past.left → MayBeLeft next after.left
    past_with past after (before, behind, parts, less, more, is) rising of_met =
        subst (λ (k : KeptPast). MayBeLeft next k.left) (sym is) (record {
          rising = AllPairs-append Less before (o ∷ behind) (AllPairs-front Less before behind both)
              (AllPairs-cons Less o behind more (AllPairs-back Less before behind both))
              (λ k d within. All-cons (Less (get_or before k d)) o behind (less k d within) (AllPairs-across Less before behind both k d within));
          each = All-between (MayStand next) before o behind
              (subst (λ (l : List Operation). All (MayStand next) l) parts (All-weaker IsOfMet (MayStand next) of_met_stands past.left of_met))
              read_stands;
        })
      where
        Less : Operation → Operation → Type 0
        Less a b = a.inv < b.inv

        both : AllPairs Less (before ++ behind)
        both = subst (λ (l : List Operation). AllPairs Less l) parts rising

    pub report_is_left : (pasts nexts : List KeptPast) → AllZip (IsWithRead o) pasts nexts
        → All (λ (past : KeptPast). AllPairs (λ (a b : Operation). a.inv < b.inv) past.left) pasts
        → All (λ (past : KeptPast). All IsOfMet past.left) pasts → All (λ (past : KeptPast). MayBeLeft next past.left) nexts
    report_is_left [] [] zip rising of_met = All-nil (λ (past : KeptPast). MayBeLeft next past.left)
    report_is_left [] (after ∷ nexts) zip rising of_met = absurd zip
    report_is_left (past ∷ pasts) [] zip rising of_met = absurd zip
    report_is_left (past ∷ pasts) (after ∷ nexts) zip rising of_met = All-cons (λ (p : KeptPast). MayBeLeft next p.left) after nexts
        (past_with past after zip.0
        (All-head (λ (p : KeptPast). AllPairs (λ (a b : Operation). a.inv < b.inv) p.left) past pasts rising)
        (All-head (λ (p : KeptPast). All IsOfMet p.left) past pasts of_met))
        (report_is_left pasts nexts zip.1
        (All-tail (λ (p : KeptPast). AllPairs (λ (a b : Operation). a.inv < b.inv) p.left) past pasts rising)
        (All-tail (λ (p : KeptPast). All IsOfMet p.left) past pasts of_met))

-- ---- what is kept

module _ (s : PartsView) (left met : List Part) (start : Contents) (front back : List Operation) where
  -- the part that the read is left in, before it is
  united_so : (o : Operation) → AreMet (low_key o.call) (high_key o.call) s.parts left met → (rest : Contents)
      → (ranges : List Range) (pasts : List KeptPast) → Become (low_key o.call) (high_key o.call) s.rest rest met ranges pasts
      → AreKept start s.now (front ++ o ∷ back) (kept_parts s)
      → AreKept start s.now (front ++ o ∷ back)
      (kept_with (record { rest = rest; parts = left; reads = s.reads; now = suc s.now }) (covered ranges) pasts)
  united_so o is rest ranges pasts become kept =
      (parts_move start s.now calls part (beside ∷ []) (map kept_part left)).0
      (same_keys start s.now calls (outside (is_at_rest s.parts) (covered ranges)) (outside (is_at_rest left) (covered ranges)) (at_rest rest ∷ [])
      (part ∷ map kept_part left) (met_rest low high s.parts left met is ranges become.of_parts)
      (become.leads start s.now calls (is_at_rest s.parts) (map kept_part left) (met_cover low high s.parts left met is)
      (parted_kept start s.now calls (kept_rest s.rest s.parts ∷ []) s.parts left met is.parted kept)))
    where
      low : ℕ
      low = low_key o.call

      high : ℕ
      high = high_key o.call

      calls : List Operation
      calls = front ++ o ∷ back

      part : KeptPart
      part = record { keys = covered ranges; pasts = pasts }

      beside : KeptPart
      beside = resting (outside (is_at_rest left) (covered ranges)) rest

  pub report_comes_to : (o : Operation) (response : Response) (operation : Operation) → IsAnswerOf o response operation
      → AreMet (low_key operation.call) (high_key operation.call) s.parts left met → (rest : Contents) (ranges : List Range)
      (pasts : List KeptPast) → Become (low_key operation.call) (high_key operation.call) s.rest rest met ranges pasts
      → AreKept start s.now (front ++ o ∷ back) (kept_parts s)
      → AreKept start s.now (front ++ o ∷ back)
      (kept_with (record { rest = rest; parts = left; reads = s.reads; now = suc s.now }) (covered ranges) pasts)
  report_comes_to o response operation answer is rest ranges pasts become kept =
      united_so o (subst (λ (x : Operation). AreMet (low_key x.call) (high_key x.call) s.parts left met) answer.is is) rest ranges pasts
      (subst (λ (x : Operation). Become (low_key x.call) (high_key x.call) s.rest rest met ranges pasts) answer.is become) kept

  -- it has all keys of the read
  pub report_keys : (o : Operation) (response : Response) (operation : Operation) → IsAnswerOf o response operation → (rest : Contents)
      → (ranges : List Range) (pasts : List KeptPast) → Become (low_key operation.call) (high_key operation.call) s.rest rest met ranges pasts
      → HasKeysIn (covered ranges) o
  report_keys o response operation answer rest ranges pasts become key here =
      become.spans key (concerned_within operation.call key (subst (λ (x : Operation). concerns_key x.call key ≡ true) (sym answer.is) here))

  -- the state with the read left in it
  kept_so : (o : Operation) (response : Response) → AreMet (low_key o.call) (high_key o.call) s.parts left met → (rest : Contents)
      → (ranges : List Range) (pasts nexts : List KeptPast) → Become (low_key o.call) (high_key o.call) s.rest rest met ranges pasts
      → AllZip (IsWithRead (answered response o)) pasts nexts → o.response ≡ None → IsReport s.now (answered response o)
      → AreKept start s.now (front ++ o ∷ back) (kept_parts s)
      → AreKept start (suc s.now) (front ++ answered response o ∷ back)
      (kept_with (record { rest = rest; parts = left; reads = s.reads; now = suc s.now }) (covered ranges) nexts)
  kept_so o response is rest ranges pasts nexts become zip pending report kept =
      reads_are_answered start s.now front back part (beside ∷ map kept_part left) o response nexts pending report.reads report.something
      (told_at s.now (answered response o) response report.reported refl) report.form report.shaped
      (become.spans low (low_within low high report.shaped))
      (λ key here. become.spans key (concerned_within o.call key here)) zip
      (united_so o is rest ranges pasts become kept)
    where
      low : ℕ
      low = low_key o.call

      high : ℕ
      high = high_key o.call

      part : KeptPart
      part = record { keys = covered ranges; pasts = pasts }

      beside : KeptPart
      beside = resting (outside (is_at_rest left) (covered ranges)) rest

  pub report_is_kept : (o : Operation) (response : Response) (operation : Operation) → IsAnswerOf o response operation
      → AreMet (low_key operation.call) (high_key operation.call) s.parts left met → (rest : Contents) (ranges : List Range)
      (pasts nexts : List KeptPast) → Become (low_key operation.call) (high_key operation.call) s.rest rest met ranges pasts
      → AllZip (IsWithRead operation) pasts nexts → IsReport s.now operation
      → AreKept start s.now (front ++ o ∷ back) (kept_parts s)
      → AreKept start (suc s.now) (front ++ operation ∷ back)
      (kept_with (record { rest = rest; parts = left; reads = s.reads; now = suc s.now }) (covered ranges) nexts)
  report_is_kept o response operation answer is rest ranges pasts nexts become zip report kept =
      let there : AllZip (IsWithRead (answered response o)) pasts nexts =
      subst (λ (x : Operation). AllZip (IsWithRead x) pasts nexts) answer.is zip in
      let met_is : AreMet (low_key o.call) (high_key o.call) s.parts left met =
      subst (λ (x : Operation). AreMet (low_key x.call) (high_key x.call) s.parts left met) answer.is is in
      let become_is : Become (low_key o.call) (high_key o.call) s.rest rest met ranges pasts =
      subst (λ (x : Operation). Become (low_key x.call) (high_key x.call) s.rest rest met ranges pasts) answer.is become in
      subst (λ (x : Operation). AreKept start (suc s.now) (front ++ x ∷ back)
      (kept_with (record { rest = rest; parts = left; reads = s.reads; now = suc s.now }) (covered ranges) nexts)) (sym answer.is)
      (kept_so o response met_is rest ranges pasts nexts become_is there answer.pending
      (subst (λ (x : Operation). IsReport s.now x) answer.is report) kept)

  -- the state if the read's keys are at rest
  rest_so : (o : Operation) (response : Response) → AreMet (low_key o.call) (high_key o.call) s.parts left met → met ≡ []
      → o.response ≡ None → IsReport s.now (answered response o) → IsLegalCall s.rest o.call (Some response)
      → AreKept start s.now (front ++ o ∷ back) (kept_parts s)
      → AreKept start (suc s.now) (front ++ answered response o ∷ back) (kept_rest s.rest left ∷ map kept_part left)
  rest_so o response is none pending report legal kept =
      reads_at_rest_are_taken start s.now front back (is_at_rest left) s.rest (map kept_part left) o response pending report.reads
      report.something (told_at s.now (answered response o) response report.reported refl) report.form
      (at low (low_within low high report.shaped)) (λ key here. at key (concerned_within o.call key here)) legal
      (subst (λ (l : List Part). AreKept start s.now (front ++ o ∷ back) (kept_rest s.rest l ∷ map kept_part l)) (sym same) kept)
    where
      low : ℕ
      low = low_key o.call

      high : ℕ
      high = high_key o.call

      at : (key : ℕ) → from_to low high key ≡ true → is_at_rest left key ≡ true
      at key here = none_met low high s.parts left met is none key here

      same : left ≡ s.parts
      same = none_out s.parts left met is.parted none

  pub taken_at_rest : (o : Operation) (response : Response) (operation : Operation) → IsAnswerOf o response operation
      → AreMet (low_key operation.call) (high_key operation.call) s.parts left met → met ≡ [] → IsReport s.now operation
      → IsLegalCall s.rest operation.call operation.response → AreKept start s.now (front ++ o ∷ back) (kept_parts s)
      → AreKept start (suc s.now) (front ++ operation ∷ back) (kept_rest s.rest left ∷ map kept_part left)
  taken_at_rest o response operation answer is none report legal kept =
      let met_is : AreMet (low_key o.call) (high_key o.call) s.parts left met =
      subst (λ (x : Operation). AreMet (low_key x.call) (high_key x.call) s.parts left met) answer.is is in
      let legal_is : IsLegalCall s.rest o.call (Some response) =
      subst (λ (x : Operation). IsLegalCall s.rest x.call x.response) answer.is legal in
      subst (λ (x : Operation). AreKept start (suc s.now) (front ++ x ∷ back) (kept_rest s.rest left ∷ map kept_part left)) (sym answer.is)
      (rest_so o response met_is none answer.pending (subst (λ (x : Operation). IsReport s.now x) answer.is report) legal_is kept)

-- what is legal at the pairs of its keys is legal at all pairs
pub legal_at_all : (rest pairs : Contents) (o : Operation) → pairs ≡ pairs_at (from_to (low_key o.call) (high_key o.call)) rest → IsLegalCall pairs o.call o.response
    → IsLegalCall rest o.call o.response
legal_at_all rest pairs o is legal =
    (IsLegalCall-within (low_key o.call) (high_key o.call) rest o.call o.response
    (record { low_inside = omega arith; high_inside = omega arith })).1
    (subst (λ (m : Contents). IsLegalCall m o.call o.response) is legal)
