-- Steps of a walk: a past becomes those after each call that may come next, or the one after a read.
use Rattle.follow_cuts.proofs.Common.{◌≡◌, ℕ, ◌+◌, ◌<◌, ◌≤◌, Bool, true, false, not, ◌&&◌, ◌||◌, ◌==◌, List, [], ◌∷◌, ◌++◌, Option, Some, None, Vec}
use Rattle.follow_cuts.proofs.Common.{Global, inl, inr, refl, sym, subst, ⊎_elim, arith, eq-eqb, eqb-true, ap, ◌∙◌, Contains, IfSome, is_some, nat_le}
use Rattle.follow_cuts.proofs.Common.{All, and_parts, and_from, or_left, or_right, or_cases, false≢true, ltb-false, le-ltb, leb-true, same_Some}
use Rattle.follow_cuts.proofs.Common.{none-some, All-contains, All-append, All-cons, All-head, All-tail, All-from_contains, Contains-nil}
use Rattle.follow_cuts.proofs.Common.{Contains-first, Contains-later, Contains-cases, Contains-filter, Operation, Response, is_before, IsRead, place_of}
use Rattle.follow_cuts.proofs.Common.{KeyedCall, concerns_key, is_completed, Choice, Represent, HasSomeKeyIn, OperationMayCome, KeptPast, IsPast}
use Rattle.follow_cuts.proofs.Common.{IsPastAfter, OpenReadsBeganAfter, FoundAt, IsNameKept, found_by, Setting, Stand, EndsFirst, HasSomeOf}
use Rattle.follow_cuts.proofs.Common.{AreBranchKeys, IsBranching, IsNextAt, AreNexts, BecomesAfter, Branching, Call, Get, Insert, Remove, Scan, Replace}
use Rattle.follow_cuts.proofs.Common.{low_key, high_key, value_at}
use Rattle.std.specs.List.{AllZip}
use Rattle.call_effects.proofs.ReplyLemmas.{read_completed}
use Rattle.follow_laws.specs.Cuts.{Keys}
use Rattle.follow_laws.specs.Left.{HasKeysIn}
use Rattle.follow_laws.specs.KeptCuts.{AreOwnOrBarredBy}
use Rattle.follow_laws.proofs.KeptBarredLemmas.{unbarred_pasts_come_next}
use Rattle.follow_laws.proofs.KeptNextLemmas.{reads_of_pasts_come_next}
use Rattle.follow_cuts.proofs.ReadLemmas.{quiet_read}
use Rattle.follow_laws.specs.KeyedOrders.{AreKeyedCalls}
use Rattle.follow_laws.proofs.OrderLemmas.{same_call}

-- ---- answers before a place

pub before_some : (r : Option Response) (answered place : ℕ) → place_of r ≡ Some answered → is_before r place ≡ false → place ≤ answered
before_some None answered place is late = absurd (none-some answered is)
before_some (Some response) answered place is late =
    let same : response.res ≡ answered = same_Some response.res answered is in
    let reached : place ≤ response.res = ltb-false response.res place late in omega (arith, same, reached)

pub before_less : (r : Option Response) (n m : ℕ) → m ≤ n → is_before r n ≡ false → is_before r m ≡ false
before_less None n m less late = refl
before_less (Some response) n m less late =
    let reached : n ≤ response.res = ltb-false response.res n late in
    le-ltb response.res m (omega (arith, less, reached))

answer_read : (r : Option Response) → is_some r ≡ true → is_some (place_of r) ≡ true
answer_read None is = is
answer_read (Some response) is = refl

-- ---- the keys at which a walk branches, or all of the part

abbrev named : List ℕ → ℕ → Bool
named [] key = false
named (k ∷ keys) key = (k == key) || named keys key

named_in : (keys : List ℕ) (key : ℕ) → Contains keys key → named keys key ≡ true
named_in [] key key_in = absurd (Contains-nil key key_in)
named_in (k ∷ keys) key key_in = ⊎_elim
    (λ same. or_left (k == key) (named keys key) (eq-eqb k key same))
    (λ later. or_right (k == key) (named keys key) (named_in keys key later))
    (Contains-cases k keys key key_in)

from_named : (keys : List ℕ) (key : ℕ) → named keys key ≡ true → Contains keys key
from_named [] key is = absurd (false≢true is)
from_named (k ∷ keys) key is = ⊎_elim
    (λ same. subst (Contains (k ∷ keys)) (eqb-true k key same) (Contains-first k keys))
    (λ later. Contains-later k keys key (from_named keys key later))
    (or_cases (k == key) (named keys key) is)

abbrev branch_keys : Keys → Option (Vec ℕ Global) → Keys
branch_keys keys None = keys
branch_keys keys (Some some) = λ key. keys key && named some.items key

branch_within : (keys : Keys) (some : Option (Vec ℕ Global)) (key : ℕ) → branch_keys keys some key ≡ true → keys key ≡ true
branch_within keys None key here = here
branch_within keys (Some some) key here = (and_parts (keys key) (named some.items key) here).0

branch_key_of : (keys : Keys) (some : Option (Vec ℕ Global)) (o : Operation) → HasSomeKeyIn (branch_keys keys some) o
    → IfSome some (λ v. HasSomeOf v.items o)
branch_key_of keys None o has = tt
branch_key_of keys (Some some) o (key, here, concerned) =
    (key, from_named some.items key (and_parts (keys key) (named some.items key) here).1, concerned)

-- ---- a step

module _ (answered : ℕ) (s : Setting) (kept : KeptPast) (past : Choice) (is : IsPast s.keys s.calls kept past) (ended : Operation)
    (first : EndsFirst answered kept.left ended) where
  -- a call that is left has a key of the part, and no others
  some_key : (o : Operation) → Contains kept.left o → HasSomeKeyIn s.keys o
  some_key o o_in =
      let (a, a_in, accepted, some, alike) = is.owned o o_in in
      let concerned : a.concerns some.0 ≡ true = (and_parts (not (past.taken a.inv some.0)) (a.concerns some.0) some.2).1 in
      (some.0, some.1, is.own o a o_in a_in (sym alike.inv) some.0 concerned)

  keys_in : (o : Operation) → Contains kept.left o → HasKeysIn s.keys o
  keys_in o o_in = All-contains (HasKeysIn s.keys) kept.left o is.within o_in

  branch_concerned : (keys : Option (Vec ℕ Global)) → IfSome keys (λ v. AreBranchKeys answered kept ended v.items)
      → HasSomeKeyIn (branch_keys s.keys keys) ended
  branch_concerned None are = some_key ended first.is_left
  branch_concerned (Some some) are =
      let (key, key_in, concerned) = are.concerned in (
        key,
        and_from (s.keys key) (named some.items key) (keys_in ended first.is_left key concerned) (named_in some.items key key_in),
        concerned,
      )

  branch_own : (keys : Option (Vec ℕ Global)) → IfSome keys (λ v. AreBranchKeys answered kept ended v.items)
      → AreOwnOrBarredBy (branch_keys s.keys keys) (answered + 1) kept.pairs kept.left
  branch_own None are o o_in early has = inl (keys_in o o_in)
  branch_own (Some some) are o o_in early (key, here, concerned) = ⊎_elim
      (λ only. inl (λ other is_of. in_both other (keys_in o o_in other is_of) (only other is_of)))
      (λ missed. let (other, other_in, is_missed) = missed in inr (other, in_both other (keys_in o o_in other is_missed.0) other_in, is_missed.1))
      (are.untied o o_in (omega (arith, early))
      (key, from_named some.items key (and_parts (s.keys key) (named some.items key) here).1, concerned))
    where
      in_both : (other : ℕ) → s.keys other ≡ true → Contains some.items other → (s.keys other && named some.items other) ≡ true
      in_both other in_part other_in = and_from (s.keys other) (named some.items other) in_part (named_in some.items other other_in)

  reads_after : (moment : ℕ) → answered < moment → (limit : ℕ) → limit ≤ answered + 1 → OpenReadsBeganAfter s.keys moment s.calls kept
      → OpenReadsBeganAfter s.keys limit s.calls kept
  reads_after moment early limit less reads a key a_in pending here concerned = ⊎_elim
      (λ late. inl (omega (arith, late, less, early)))
      (λ there. inr there)
      (reads a key a_in pending here concerned)

  may_come : (o : Operation) → IsNextAt answered kept o → OperationMayCome s.keys kept.pairs kept.left o
  may_come o next = record {
    concerned = some_key o next.is_left;
    legal = next.legal;
    first = λ q q_in q_some. before_less q.response answered o.inv next.early (first.first q q_in);
  }

  comes_next : (o : Operation) → Contains kept.left o → OperationMayCome s.keys kept.pairs kept.left o → IsNextAt answered kept o
  comes_next o o_in may = record {
    is_left = o_in;
    early = before_some ended.response answered o.inv first.answer (may.first ended first.is_left (some_key ended first.is_left));
    legal = may.legal;
  }

-- ---- a pending call that is taken

pending_of : (r : Option Response) → is_some (place_of r) ≡ false → r ≡ None
pending_of None is = refl
pending_of (Some response) is = absurd (false≢true (sym is))

own_key : (own key : ℕ) → (own == key) ≡ true → own ≡ key
own_key own key is = eqb-true own key is

-- a call of one key concerns no other
one_key : (call : Call) (key : ℕ) → low_key call ≡ high_key call → concerns_key call key ≡ true → low_key call ≡ key
one_key (Get own) key one is = own_key own key is
one_key (Insert own value) key one is = own_key own key is
one_key (Remove own) key one is = own_key own key is
one_key (Scan low high) key one is =
    let both = and_parts (nat_le low key) (nat_le key high) is in
    let least : low ≤ key = leb-true low key both.0 in
    let most : key ≤ high = leb-true key high both.1 in omega arith
one_key (Replace own expected value) key one is = own_key own key is

-- what is kept of pending reads is kept after another call
module _ (moment : ℕ) (keys : Keys) (calls : List KeyedCall) (kept next : KeptPast) (past : Choice) (o : Operation)
    (apart : AreKeyedCalls calls) (is : IsPast keys calls kept past) (o_in : Contains kept.left o) (after : IsPastAfter kept o next) where
  name_stays : (a : KeyedCall) → Contains calls a → is_completed a ≡ false → IsNameKept kept a → IsNameKept next a
  name_stays a a_in pending (inr (f, f_in, named, here)) = inr (f, (after.found f).1 (inl f_in), named, here)
  name_stays a a_in pending (inl (p, p_in, named)) = by_name (p.inv == o.inv) refl
    where
      by_name : (b : Bool) → (p.inv == o.inv) ≡ b → IsNameKept next a
      by_name false other =
          inl (
            p,
            subst (λ (os : List Operation). Contains os p) (sym after.left)
                (Contains-filter (λ (q : Operation). not (q.inv == o.inv)) kept.left p p_in (ap not other)),
            named,
          )
      by_name true same =
          let (b, b_in, accepted, some, alike) = is.owned o o_in in
          let own : o.inv ≡ a.inv = sym (eqb-true p.inv o.inv same) ∙ named in
          let one : b ≡ a = same_call calls b a apart.distinct b_in a_in (sym alike.inv ∙ own) in
          let none : o.response ≡ None =
          pending_of o.response (ap is_some (alike.res ∙ ap (λ (z : KeyedCall). z.res) one) ∙ pending) in
          let f : FoundAt = record { inv = o.inv; key = low_key o.call; value = value_at kept.pairs (low_key o.call) } in
          let there : Contains (found_by kept.pairs o o.response) f =
          subst (λ (r : Option Response). Contains (found_by kept.pairs o r) f) (sym none) (Contains-first f []) in
          inr (
            f,
            (after.found f).1 (inr there),
            own,
            λ key concerned.
                one_key o.call key (All-contains (λ (p : Operation). (p.response ≡ None) → low_key p.call ≡ high_key p.call) kept.left o is.points o_in none)
                (is.own o a o_in a_in (sym own) key concerned),
          )

  reads_stay : OpenReadsBeganAfter keys moment calls kept → OpenReadsBeganAfter keys moment calls next
  reads_stay late a key a_in pending here concerned = ⊎_elim
      (λ began. inl began)
      (λ there. inr (name_stays a a_in pending.0 there))
      (late a key a_in pending here concerned)

zip_append : {A B : Type 0} (R : A → B → Type 0) (xs others : List A) (ys more : List B) → AllZip R xs ys → AllZip R others more
    → AllZip R (xs ++ others) (ys ++ more)
zip_append R [] others [] more first second = second
zip_append R [] others (y ∷ ys) more first second = absurd first
zip_append R (x ∷ xs) others [] more first second = absurd first
zip_append R (x ∷ xs) others (y ∷ ys) more first second = (first.0, zip_append R xs others ys more first.1 second)

pub branch_becomes : (b : Branching) (kept : KeptPast) (nexts : List KeptPast) → IsBranching kept b → AreNexts b kept nexts
    → BecomesAfter b.answered kept nexts
branch_becomes b kept nexts branching are moment less others s setting (pasts, pasts_are, stand, reads) = by_pasts pasts pasts_are stand
  where
    own_reads : OpenReadsBeganAfter s.keys moment s.calls kept
    own_reads = All-head (OpenReadsBeganAfter s.keys moment s.calls) kept others reads

    other_reads : All (OpenReadsBeganAfter s.keys moment s.calls) others
    other_reads = All-tail (OpenReadsBeganAfter s.keys moment s.calls) kept others reads

    by_pasts : (pasts : List Choice) → AllZip (IsPast s.keys s.calls) (kept ∷ others) pasts
        → Represent s.held s.place s.calls (record { keys = s.keys; pasts = pasts } ∷ s.rest) → Stand moment s (nexts ++ others)
    by_pasts [] each stand = absurd each
    by_pasts (past ∷ more) each stand =
        let ended = branching.ended in
        let some = branch_keys s.keys b.keys in
        let (news, news_are, after) =
        unbarred_pasts_come_next s.held s.place b.answered s.calls s.keys some kept past more s.rest nexts ended setting.apart
        setting.formed (branch_within s.keys b.keys) branching.first.is_left branching.first.answer
        (branch_concerned b.answered s kept past each.0 ended branching.first b.keys branching.at_keys)
        (All-from_contains (λ o. is_before o.response b.answered ≡ false) kept.left branching.first.first)
        (branch_own b.answered s kept past each.0 ended branching.first b.keys branching.at_keys)
        (reads_after b.answered s kept past each.0 ended branching.first moment less (b.answered + 1) (omega arith) own_reads)
        each.0
        (λ o o_in has may. are.forth o (comes_next b.answered s kept past each.0 ended branching.first o o_in may)
        (branch_key_of s.keys b.keys o has))
        (λ next next_in.
        let (o, o_next, after) = are.back next next_in in
        (o, o_next.is_left, may_come b.answered s kept past each.0 ended branching.first o o_next, after))
        stand in (
          news ++ more,
          zip_append (IsPast s.keys s.calls) nexts others news more news_are each.1,
          after,
          All-append (OpenReadsBeganAfter s.keys moment s.calls) nexts others
              (All-from_contains (OpenReadsBeganAfter s.keys moment s.calls) nexts (λ next next_in.
              let (o, o_next, next_after) = are.back next next_in in
              reads_stay moment s.keys s.calls kept next past o setting.apart each.0 o_next.is_left next_after own_reads))
              other_reads,
        )

pub read_becomes : (answered : ℕ) (kept next : KeptPast) (o ended : Operation) → EndsFirst answered kept.left ended → IsNextAt answered kept o
    → IsRead o → IsPastAfter kept o next → BecomesAfter answered kept (next ∷ [])
read_becomes answered kept next o ended first o_next quiet after moment less others s setting (pasts, pasts_are, stand, reads) =
    by_pasts pasts pasts_are stand
  where
    own_reads : OpenReadsBeganAfter s.keys moment s.calls kept
    own_reads = All-head (OpenReadsBeganAfter s.keys moment s.calls) kept others reads

    other_reads : All (OpenReadsBeganAfter s.keys moment s.calls) others
    other_reads = All-tail (OpenReadsBeganAfter s.keys moment s.calls) kept others reads

    by_pasts : (pasts : List Choice) → AllZip (IsPast s.keys s.calls) (kept ∷ others) pasts
        → Represent s.held s.place s.calls (record { keys = s.keys; pasts = pasts } ∷ s.rest) → Stand moment s (next ∷ others)
    by_pasts [] each stand = absurd each
    by_pasts (past ∷ more) each stand =
        let (new, new_is, after_new) =
        reads_of_pasts_come_next s.held s.place s.calls s.keys s.keys kept next past more s.rest o setting.apart setting.formed
        (λ key here. here) o_next.is_left (answer_read o.response (read_completed o.call o.response quiet)) (quiet_read o quiet)
        (may_come answered s kept past each.0 ended first o o_next)
        (λ q q_in early some. keys_in answered s kept past each.0 ended first q q_in)
        (reads_after answered s kept past each.0 ended first moment less (o.inv + 1) (omega (arith, o_next.early)) own_reads)
        each.0 after stand in (
          new ∷ more,
          (new_is, each.1),
          after_new,
          All-cons (OpenReadsBeganAfter s.keys moment s.calls) next others
              (reads_stay moment s.keys s.calls kept next past o setting.apart each.0 o_next.is_left after own_reads) other_reads,
        )
