-- A call is answered in all pasts of a part (`answer_in`): the shape of what is left, and what becomes of it.
use Rattle.follow_parts.proofs.Common.{◌≡◌, ◌∙◌, ℕ, suc, ◌<◌, false, List, [], ◌∷◌, ◌++◌, map, Option, None, Some, refl, sym, ap, ⊎_elim, arith, All, Any}
use Rattle.follow_parts.proofs.Common.{Contains, IsSome, le-ltb, same_Some, All-nil, All-cons, All-head, All-tail, All-append, All-contains, All-weaker}
use Rattle.follow_parts.proofs.Common.{All-from_contains, Any-first, Any-later, Operation, Response, is_before, precedes, Contents, IsAnswer, Mended, KeptPast}
use Rattle.follow_parts.proofs.Common.{FoundAt, IsAfterAnswer, AreAfterAnswer, any_to, AreShaped, kept_of, Found, Past, AreGoneOn, AreLeftAfter, IsLeftKept}
use Rattle.follow_parts.proofs.Common.{lefts, lefts_of_kept, GoneOn, AreLeftOf, HaveGoneOnWith, IsLeftOfOne, IsFirst, IsCallBefore, IsPastBefore}
use Rattle.follow_orders.specs.declared.kept.Mended.TheVariants.{Order, NoOrder, Spent}
use Rattle.follow_pasts.proofs.AnsweringLemmas.{IsPastOk, searched}
use Rattle.follow_parts.specs.declared.answering.First.TheVariants.{Known}

pub the_response : (r : Option Response) → IsSome r → (response : Response) × (r ≡ Some response)
the_response None is = absurd (cc)
the_response (Some response) is = (response, refl)

-- ---- the shape of what is left

-- a call does not precede itself, and its events are before the place after the answer's
pub record IsLeftBefore (now : ℕ) (o : Operation) : Type 0 where
  pub apart : precedes o o ≡ false
  pub before : IsCallBefore (suc now) o

module _ (operation : Operation) (response : Response) (reported : operation.response ≡ Some response) where
  was_left : (o : Operation) → precedes o o ≡ false → IsCallBefore response.res o → IsLeftBefore response.res o
  was_left o apart before = record {
    apart = apart;
    before = record {
      begun = omega (arith, before.begun);
      ended = λ (r : Response) is. let h = before.ended r is in omega (arith, h);
    };
  }

  is_answered : (o a : Operation) → o.response ≡ operation.response → a.inv ≡ o.inv → IsCallBefore response.res a → IsLeftBefore response.res o
  is_answered o a same own before =
      let is : o.response ≡ Some response = same ∙ reported in
      let begun : o.inv < response.res = omega (arith, before.begun, own) in record {
        apart = ap (λ (r : Option Response). is_before r o.inv) is ∙ le-ltb response.res o.inv (omega (arith, begun));
        before = record {
          begun = omega (arith, begun);
          ended = λ (r : Response) at.
              let one : response ≡ r = same_Some response r (sym is ∙ at) in
              let res : response.res ≡ r.res = ap (λ (x : Response). x.res) one in omega (arith, res);
        };
      }

  pub left_before : (past : KeptPast) (left : List Operation) → IsPastBefore response.res past → AreLeftAfter operation past.left left
      → All (IsLeftBefore response.res) left
  left_before past left before after = All-from_contains (IsLeftBefore response.res) left (λ o has. ⊎_elim
      (λ (old : Contains past.left o). was_left o (All-contains (λ (a : Operation). precedes a a ≡ false) past.left o before.apart old)
      (All-contains (IsCallBefore response.res) past.left o before.before old))
      (λ own. is_answered o own.1.0 own.0 own.1.2 (All-contains (IsCallBefore response.res) past.left own.1.0 before.before own.1.1))
      (after.each o has))

  pub nexts_shaped : (pasts : List KeptPast) (nexts : List Past) → All (IsPastBefore response.res) pasts
      → AreLeftOf operation pasts (map kept_of nexts) → AreShaped nexts
  nexts_shaped pasts [] before left = All-nil IsPastOk
  nexts_shaped pasts (next ∷ nexts) before left =
      let (past, has, after) = any_to (λ (past : KeptPast). AreLeftAfter operation past.left next.calls.items) pasts
      (All-head (λ (x : KeptPast). Any (λ (past : KeptPast). AreLeftAfter operation past.left x.left) pasts) (kept_of next) (map kept_of nexts) left) in
      let each = left_before past next.calls.items (All-contains (IsPastBefore response.res) pasts past before has) after in
      All-cons IsPastOk next nexts
      (after.rising, All-weaker (IsLeftBefore response.res) (λ (o : Operation). precedes o o ≡ false) (λ o h. h.apart) next.calls.items each)
      (nexts_shaped pasts nexts before
      (All-tail (λ (x : KeptPast). Any (λ (past : KeptPast). AreLeftAfter operation past.left x.left) pasts) (kept_of next) (map kept_of nexts) left))

-- ---- the past that calls are left of

of_pasts : (operation : Operation) (pasts : List KeptPast) (nexts : List Past) → AreLeftOf operation pasts (map kept_of nexts)
    → All (IsLeftOfOne operation pasts) (lefts nexts)
of_pasts operation pasts [] left = All-nil (IsLeftOfOne operation pasts)
of_pasts operation pasts (next ∷ nexts) left =
    All-cons (IsLeftOfOne operation pasts) next.calls.items (lefts nexts)
    (All-head (λ (x : KeptPast). IsLeftOfOne operation pasts x.left) (kept_of next) (map kept_of nexts) left)
    (of_pasts operation pasts nexts (All-tail (λ (x : KeptPast). IsLeftOfOne operation pasts x.left) (kept_of next) (map kept_of nexts) left))

of_first : (operation : Operation) (first : KeptPast) (pasts : List KeptPast) (kept : Mended) → IsLeftKept operation first.left kept
    → All (IsLeftOfOne operation (first ∷ pasts)) (lefts_of_kept kept)
of_first operation first pasts (Order next) left =
    All-cons (IsLeftOfOne operation (first ∷ pasts)) next.calls []
    (Any-first (λ (past : KeptPast). AreLeftAfter operation past.left next.calls) first pasts left)
    (All-nil (IsLeftOfOne operation (first ∷ pasts)))
of_first operation first pasts (NoOrder start calls) left = All-nil (IsLeftOfOne operation (first ∷ pasts))
of_first operation first pasts (Spent start calls) left = All-nil (IsLeftOfOne operation (first ∷ pasts))

later : (operation : Operation) (first : KeptPast) (pasts : List KeptPast) (lefts : List (List Operation))
    → All (IsLeftOfOne operation pasts) lefts → All (IsLeftOfOne operation (first ∷ pasts)) lefts
later operation first pasts lefts = All-weaker (IsLeftOfOne operation pasts) (IsLeftOfOne operation (first ∷ pasts))
    (λ left h. Any-later (λ (past : KeptPast). AreLeftAfter operation past.left left) first pasts h) lefts

among : (operation : Operation) (pasts : List KeptPast) (all lefts : List (List Operation)) → All (IsLeftOfOne operation pasts) all
    → All (Contains all) lefts → All (IsLeftOfOne operation pasts) lefts
among operation pasts all lefts are = All-weaker (Contains all) (IsLeftOfOne operation pasts)
    (λ left has. All-contains (IsLeftOfOne operation pasts) all left are has) lefts

pub left_of_first : (operation : Operation) (first : KeptPast) (pasts : List KeptPast) (kept : Mended) (nexts : List Past)
    (left : List (List Operation)) → IsLeftKept operation first.left kept → AreLeftOf operation pasts (map kept_of nexts)
    → All (Contains (lefts_of_kept kept ++ lefts nexts)) left → All (IsLeftOfOne operation (first ∷ pasts)) left
left_of_first operation first pasts kept nexts left own others within =
    among operation (first ∷ pasts) (lefts_of_kept kept ++ lefts nexts) left
    (All-append (IsLeftOfOne operation (first ∷ pasts)) (lefts_of_kept kept) (lefts nexts) (of_first operation first pasts kept own)
    (later operation first pasts (lefts nexts) (of_pasts operation pasts nexts others)))
    within

pub left_of_others : (operation : Operation) (first : KeptPast) (pasts : List KeptPast) (nexts : List Past)
    (left : List (List Operation)) → AreLeftOf operation pasts (map kept_of nexts) → All (Contains (lefts nexts)) left
    → All (IsLeftOfOne operation (first ∷ pasts)) left
left_of_others operation first pasts nexts left others within =
    among operation (first ∷ pasts) (lefts nexts) left
    (later operation first pasts (lefts nexts) (of_pasts operation pasts nexts others))
    within

-- ---- what becomes of the pasts

pub gone_with_first : (budget : ℕ) (o : Operation) (response : Response) (first : KeptPast) (pasts : List KeptPast) (kept : Mended)
    (found : List Found) (nexts : List Past) (gone : GoneOn) → IsFirst budget o response first found (Known kept)
    → AreAfterAnswer o response pasts (map kept_of nexts)
    → ((pairs : Contents) (calls : List Operation) → IsAnswer pairs calls budget kept
    → AreGoneOn budget (searched pairs calls found ∷ map kept_of nexts) gone)
    → HaveGoneOnWith budget o response (first ∷ pasts) gone
gone_with_first budget o response first pasts kept found nexts gone (next, after_first, answer, found_is) after goes = record {
  nexts = searched next.pairs next.left found ∷ map kept_of nexts;
  after = (
    next ∷ [],
    map kept_of nexts,
    ap (λ (f : List FoundAt). record { pairs = next.pairs; left = next.left; found = f } ∷ map kept_of nexts) (sym found_is),
    after_first,
    after,
  );
  gone = goes next.pairs next.left answer;
}

pub gone_with_others : (budget : ℕ) (o : Operation) (response : Response) (first : KeptPast) (pasts : List KeptPast) (nexts : List Past)
    (gone : GoneOn) → IsAfterAnswer o response first [] → AreAfterAnswer o response pasts (map kept_of nexts)
    → AreGoneOn budget (map kept_of nexts) gone → HaveGoneOnWith budget o response (first ∷ pasts) gone
gone_with_others budget o response first pasts nexts gone lost after goes =
    record { nexts = map kept_of nexts; after = ([], map kept_of nexts, refl, lost, after); gone = goes }

-- ---- the pasts of a part, with the first one taken out

was_shaped : (now : ℕ) (others : List Past) → All (IsPastBefore now) (map kept_of others) → AreShaped others
was_shaped now [] before = All-nil IsPastOk
was_shaped now (past ∷ others) before =
    let here = All-head (IsPastBefore now) (kept_of past) (map kept_of others) before in
    All-cons IsPastOk past others (here.rising, here.apart)
    (was_shaped now others (All-tail (IsPastBefore now) (kept_of past) (map kept_of others) before))

abbrev pub AreBeforeAnswer : Operation → List KeptPast → Type 0
AreBeforeAnswer operation pasts = (response : Response) → operation.response ≡ Some response → All (IsPastBefore response.res) pasts

pub others_shaped : (operation : Operation) (first : KeptPast) (others : List Past) → IsSome operation.response
    → AreBeforeAnswer operation (first ∷ map kept_of others) → AreShaped others
others_shaped operation first others reported before =
    let (response, is) = the_response operation.response reported in
    was_shaped response.res others (All-tail (IsPastBefore response.res) first (map kept_of others) (before response is))

pub others_stay_shaped : (operation : Operation) (first : KeptPast) (others nexts : List Past) → IsSome operation.response
    → AreBeforeAnswer operation (first ∷ map kept_of others) → AreLeftOf operation (map kept_of others) (map kept_of nexts) → AreShaped nexts
others_stay_shaped operation first others nexts reported before left =
    let (response, is) = the_response operation.response reported in
    nexts_shaped operation response is (map kept_of others) nexts
    (All-tail (IsPastBefore response.res) first (map kept_of others) (before response is)) left
