-- Pasts at a past moment: those that come next, as they are kept.
use Rattle.follow_laws.proofs.Common.{◌≡◌, ℕ, ◌+◌, ◌<◌, true, false, List, [], ◌∷◌, refl, sym, ap, ◌∙◌, subst, ⊎_elim, arith, All, Contains, is_some}
use Rattle.follow_laws.proofs.Common.{AllZip, false_from_ne_true, cases_eq, All-contains, Contains-first, Contains-later, Contains-at}
use Rattle.follow_laws.proofs.Common.{place_of-Contains, Operation, KeyedCall, Effect, IsFormed, ends_before, precedes, place_of, keyed, Choice}
use Rattle.follow_laws.proofs.Common.{rest_of, Keys, IsAlikeAt, IsRead, left_at, MayComeNext, IsAfterCall, IsReadAt, OperationMayCome, KeptPast}
use Rattle.follow_laws.proofs.Common.{IsPast, IsPastAfter, PastsComeNext, ReadsOfPastsComeNext}
use Rattle.follow_laws.proofs.BridgeLemmas.{same_precedes}
use Rattle.follow_laws.proofs.CallLemmas.{calls_come_next, reads_come_next}
use Rattle.follow_laws.proofs.ComeLemmas.{operations_may_come, operations_come_next}
use Rattle.follow_laws.proofs.EventLemmas.{not_both}
use Rattle.follow_laws.proofs.FirstLemmas.{begun_before}
use Rattle.follow_laws.proofs.OrderLemmas.{same_call, ends_at}
use Rattle.events.proofs.ZipLemmas.{zip_left, zip_right}
use Rattle.follow_laws.proofs.KeptAfterLemmas.{from_others, other_operation, is_past_after}
use Rattle.follow_laws.proofs.LimitLemmas.{IsPastBefore, all_left, left_there, known_at, parted_before}

-- ---- lists, item by item

-- each item of a list has one that it goes with
pub each_one : {A B : Type 0} (R : A → B → Type 0) (xs : List A) → ((x : A) → Contains xs x → (y : B) × R x y) → (ys : List B) × AllZip R xs ys
each_one R [] pick = ([], tt)
each_one R (x ∷ xs) pick =
    let (y, here) = pick x (Contains-first x xs) in
    let (ys, further) = each_one R xs (λ z z_in. pick z (Contains-later x xs z z_in)) in
    (y ∷ ys, (here, further))

pub zip_weaker : {A B : Type 0} (R S : A → B → Type 0) (xs : List A) (ys : List B) → ((x : A) (y : B) → R x y → S x y) → AllZip R xs ys → AllZip S xs ys
zip_weaker R S [] [] weaker each = tt
zip_weaker R S [] (y ∷ ys) weaker each = absurd each
zip_weaker R S (x ∷ xs) [] weaker each = absurd each
zip_weaker R S (x ∷ xs) (y ∷ ys) weaker each = (weaker x y each.0, zip_weaker R S xs ys weaker each.1)

pub zip_there : {A B : Type 0} (R : A → B → Type 0) (xs : List A) (ys : List B) (x : A) → AllZip R xs ys → Contains xs x → (y : B) × Contains ys y × R x y
zip_there R xs ys x each x_in =
    let (i, at) = place_of-Contains xs x x_in in
    let (y, y_at, is) = zip_left R xs ys i x each at in
    (y, Contains-at ys i y y_at, is)

pub zip_back : {A B : Type 0} (R : A → B → Type 0) (xs : List A) (ys : List B) (y : B) → AllZip R xs ys → Contains ys y → (x : A) × Contains xs x × R x y
zip_back R xs ys y each y_in =
    let (i, at) = place_of-Contains ys y y_in in
    let (x, x_at, is) = zip_right R xs ys i y each at in
    (x, Contains-at xs i x x_at, is)

-- ---- a step by an operation

-- A past and the past after the call of an operation, as they are kept.
pub record IsNext (keys some : Keys) (calls : List KeyedCall) (kept : KeptPast) (past : Choice) (o : Operation) (next : KeptPast) (after : Choice)
    : Type 0 where
  pub call : KeyedCall
  pub is : IsPast keys calls next after
  pub call_in : Contains calls call
  pub alike : IsAlikeAt keys (left_at keys past call) (keyed o)
  pub may : MayComeNext some past calls call
  pub taken : IsAfterCall keys past call after
  pub next_is : IsPastAfter kept o next

-- a past becomes another by the call of some operation
abbrev pub ComesNext : Keys → Keys → List KeyedCall → KeptPast → Choice → KeptPast → Choice → Type 0
ComesNext keys some calls kept past next after = (o : Operation) × IsNext keys some calls kept past o next after

-- what is left of the call of a read is a read
read_there : (keys : Keys) (past : Choice) (a : KeyedCall) (o : Operation) → IsAlikeAt keys (left_at keys past a) (keyed o) → IsRead (keyed o)
    → IsReadAt keys past a
read_there keys past a o alike read key here value fits =
    let same : (left_at keys past a).effect key ≡ (rest_of past a).effect key = rw here refl in
    sym (alike.leaves key value here ∙ ap (λ (e : Effect). e.leaves value) same)
    ∙ read key value (alike.fits key value here ∙ ap (λ (e : Effect). e.fits value) same ∙ fits)

module _ (keys some : Keys) (limit : ℕ) (calls : List KeyedCall) (kept : KeptPast) (past : Choice) (formed : All IsFormed calls)
    (at : IsPastBefore keys some limit calls kept past) where
  pub next_by : (o : Operation) (next : KeptPast) → Contains kept.left o → o.inv < limit → OperationMayCome some kept.pairs kept.left o
      → IsPastAfter kept o next → (after : Choice) × IsNext keys some calls kept past o next after
  next_by o next o_in early may_come next_is =
      let (a, a_in, alike, within, may) =
      (operations_may_come keys some past limit calls kept.pairs kept.left at.among at.apart at.is.alike at.is.owned
      (all_left keys some limit calls kept past at) at.is.own at.together).1 o o_in early may_come in
      let (after, taken, left, owned, all, agrees) =
      operations_come_next keys some past limit calls kept.pairs kept.left a o at.apart formed at.is.alike at.is.owned
      (all_left keys some limit calls kept past at) at.is.agrees a_in alike within may in (
        after,
        record {
          call = a;
          is = is_past_after keys calls kept past after a o (record {
            is = at.is;
            apart = at.apart;
            a_in = a_in;
            o_in = o_in;
            alike = alike;
            taken = taken;
            left = left;
            owned = owned;
            agrees = agrees;
          }) next next_is;
          call_in = a_in;
          alike = alike;
          may = may;
          taken = taken;
          next_is = next_is;
        },
      )

  -- if the same is kept after two operations, their calls are one
  pub one_call : (a : KeyedCall) (o p : Operation) (next : KeptPast) (after : Choice) → Contains calls a → Contains kept.left o
      → IsAlikeAt keys (left_at keys past a) (keyed o) → IsPastAfter kept o next → (is : IsNext keys some calls kept past p next after)
      → is.call ≡ a
  one_call a o p next after a_in o_in alike next_is is =
      ⊎_elim
      (λ same. same_call calls is.call a at.apart.distinct is.call_in a_in (sym is.alike.inv ∙ sym same ∙ alike.inv))
      (λ differ.
      let there : Contains next.left o =
      subst (λ (left : List Operation). Contains left o) (sym is.next_is.left) (other_operation p.inv kept.left o o_in differ) in
      absurd ((from_others o.inv kept.left o (subst (λ (left : List Operation). Contains left o) next_is.left there)).1 refl))
      (cases_eq o.inv p.inv)

  -- a call that may come next is that of an operation by which a past comes next
  call_comes : (nexts : List KeptPast) (pasts : List Choice)
      → ((o : Operation) → Contains kept.left o → OperationMayCome some kept.pairs kept.left o
      → (next : KeptPast) × Contains nexts next × IsPastAfter kept o next)
      → AllZip (ComesNext keys some calls kept past) nexts pasts → (a : KeyedCall) → Contains calls a → a.inv < limit
      → MayComeNext some past calls a → (after : Choice) × Contains pasts after × IsAfterCall keys past a after
  call_comes nexts pasts come zip a a_in early may =
      let (o, o_in, alike, within, may_come) =
      (operations_may_come keys some past limit calls kept.pairs kept.left at.among at.apart at.is.alike at.is.owned
      (all_left keys some limit calls kept past at) at.is.own at.together).0 a a_in early may in
      let (next, next_in, next_is) = come o o_in may_come in
      let (after, after_in, each) = zip_there (ComesNext keys some calls kept past) nexts pasts next zip next_in in
      let one : each.1.call ≡ a = one_call a o each.0 next after a_in o_in alike next_is each.1 in
      (after, after_in, subst (λ (z : KeyedCall). IsAfterCall keys past z after) one each.1.taken)

-- ---- the laws

pub pasts_come_next : PastsComeNext
pasts_come_next
    held place res calls keys some kept past others rest nexts ended apart formed among ended_in ended_at concerned together late is come reached
    stand =
    let (pasts, zip) = each_one (ComesNext keys some calls kept past) nexts (λ next next_in.
    let (o, o_in, may_come, next_is) = reached next next_in in
    let (after, each) = next_by keys some (res + 1) calls kept past formed at o next o_in (early o may_come) may_come next_is in
    (after, (o, each))) in
    let (e, e_in, accepted, is_left, alike) = left_there keys some (res + 1) calls kept past at ended ended_in ended_early concerned in
    let e_before : ends_before e.res (res + 1) ≡ true = ends_at e.res res (res + 1) (sym alike.res ∙ ended_at) (omega arith) in (
      pasts,
      zip_weaker (ComesNext keys some calls kept past) (IsPast keys calls) nexts pasts (λ next after each. each.1.is) zip,
      calls_come_next held place (res + 1) calls keys some past others pasts rest e among e_in e_before accepted is_left
          (known_at keys some (res + 1) calls kept past at) (parted_before keys some (res + 1) calls kept past at rest)
          (λ a a_in may. call_comes keys some (res + 1) calls kept past formed at nexts pasts come zip a a_in
          (begun_before e.res a.inv (res + 1) e_before (false_from_ne_true (precedes e a) (λ before.
          ⊎_elim
          (λ refused. not_both e.refused refused accepted)
          (λ none. not_both ((rest_of past e).concerns is_left.0) is_left.2 (none is_left.0 is_left.1))
          (may.first e e_in before)))) may)
          (λ after after_in.
          let (next, next_in, each) = zip_back (ComesNext keys some calls kept past) nexts pasts after zip after_in in
          (each.1.call, each.1.call_in, each.1.may, each.1.taken))
          stand,
    )
  where
    at : IsPastBefore keys some (res + 1) calls kept past
    at = record { is = is; apart = apart; among = among; together = together; late = late }

    -- the operation that was answered began before its answer
    ended_early : ended.inv < res + 1
    ended_early =
        let (e, e_in, accepted, is_left, alike) = is.owned ended ended_in in
        let same : ended.inv ≡ e.inv = alike.inv in
        let first : e.inv < res + 1 = begun_before e.res e.inv (res + 1) (ends_at e.res res (res + 1) (sym alike.res ∙ ended_at) (omega arith))
        (All-contains (λ a. precedes a a ≡ false) calls e apart.last e_in) in
        omega arith

    -- each operation that may come next began before that answer
    early : (o : Operation) → OperationMayCome some kept.pairs kept.left o → o.inv < res + 1
    early o may_come =
        begun_before (place_of ended.response) o.inv (res + 1) (ends_at (place_of ended.response) res (res + 1) ended_at (omega arith))
        (same_precedes ended o ∙ may_come.first ended ended_in concerned)

pub reads_of_pasts_come_next : ReadsOfPastsComeNext
reads_of_pasts_come_next
    held place calls keys some kept next past others rest b apart formed among b_in completed read may_come together late is next_is stand =
    let (after, each) = next_by keys some (b.inv + 1) calls kept past formed at b next b_in (omega arith) may_come next_is in
    let same : b.inv ≡ each.call.inv = each.alike.inv in (
      after,
      each.is,
      reads_come_next held place (b.inv + 1) calls keys some past after others rest each.call among each.call_in
          (sym (ap is_some each.alike.res) ∙ completed) (omega arith) each.may
          (λ key here. read_there keys past each.call b each.alike read key (among key here)) each.taken
          (parted_before keys some (b.inv + 1) calls kept past at rest) stand,
    )
  where
    at : IsPastBefore keys some (b.inv + 1) calls kept past
    at = record { is = is; apart = apart; among = among; together = together; late = late }
