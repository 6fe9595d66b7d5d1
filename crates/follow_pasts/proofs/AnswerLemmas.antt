-- What an answer makes of a past.
use Rattle.follow_pasts.proofs.Common.{◌≡◌, ℕ, ◌+◌, ◌<◌, ◌==◌, Bool, true, false, not, append-nil, List, [], ◌∷◌, ◌++◌, map, length, take, drop}
use Rattle.follow_pasts.proofs.Common.{add-one, Some, inl, inr, refl, sym, ap, ◌∙◌, subst, ⊎_elim, arith, ◌≢◌, ◌⊎◌, slice_get, slice_set, filter, All}
use Rattle.follow_pasts.proofs.Common.{AllPairs, Contains, remove, ne_eqb, append_assoc, take-append-drop, take-set, drop-set, All-contains, All-tail}
use Rattle.follow_pasts.proofs.Common.{All-weaker, get_or_from_slice_get, slice_get_within, same_Some, slice_get-below, All-at, AllPairs-append}
use Rattle.follow_pasts.proofs.Common.{AllPairs-front, AllPairs-back, AllPairs-tail, AllPairs-across, AllPairs-at, Contains-filter}
use Rattle.follow_pasts.proofs.Common.{Contains-from_filter, place_of-Contains, Contains-map, Contains-from_map, Operation, Response, low_key}
use Rattle.follow_pasts.proofs.Common.{may_change, Contents, is_refused, effect_at, KeptPast, FoundAt, IsAfterAnswer, AreAfterAnswer, IsKnownIn}
use Rattle.follow_pasts.proofs.Common.{found_at, Found, IsAnswerOf}
use Rattle.std.proofs.Common.{eq-eqb}
use Rattle.events.proofs.Places.{parts_at}

-- a past, as a past of the laws
abbrev kept : Contents → List Operation → List Found → KeptPast
kept pairs calls found = record { pairs = pairs; left = calls; found = map found_at found }

-- the call of an invocation, which is known in a past, is the one that is there
pub is_the_call : (pairs : Contents) (calls : List Operation) (found : List Found) (place : ℕ) (a o : Operation)
    → AllPairs (λ x y. x.inv < y.inv) calls → slice_get calls place ≡ Some a → a.inv ≡ o.inv → IsKnownIn o (kept pairs calls found) → a ≡ o
is_the_call pairs calls found place a o rising at same known =
    ⊎_elim
    (λ (has : Contains calls o). let there = place_of-Contains calls o has in by_order there.0 there.1 (cases there.0))
    (λ taken. absurd (All-at (λ (p : Operation). p.inv ≢ o.inv) calls place a taken.4 at same))
    known
  where
    cases : (i : ℕ) → (i < place) ⊎ ((i ≡ place) ⊎ (place < i))
    cases i = grind arith

    less : (i j : ℕ) (x y : Operation) → i < j → slice_get calls i ≡ Some x → slice_get calls j ≡ Some y → x.inv < y.inv
    less i j x y before first second = AllPairs-at (λ (x : Operation) (y : Operation). x.inv < y.inv) calls i j x y rising before first second

    by_order : (i : ℕ) → slice_get calls i ≡ Some o → (i < place) ⊎ ((i ≡ place) ⊎ (place < i)) → a ≡ o
    by_order i here h = ⊎_elim
        (λ before. let lt = less i place o a before here at in absurd (omega (arith, lt, same)))
        (λ rest. ⊎_elim
        (λ is. same_Some a o (sym at ∙ (ap (slice_get calls) (sym is) ∙ here)))
        (λ after. let lt = less place i a o after at here in absurd (omega (arith, lt, same))) rest) h

-- what comes after the answer of a past comes after that of an equal past
pub same_after : (o : Operation) (response : Response) (past : KeptPast) (pairs others : Contents) (calls others_left : List Operation)
    (found others_found : List Found) → others ≡ pairs → others_left ≡ calls → others_found ≡ found
    → IsAfterAnswer o response past (kept pairs calls found ∷ []) → IsAfterAnswer o response past (kept others others_left others_found ∷ [])
same_after o response past pairs others calls others_left found others_found a b d after =
    subst (λ (x : Contents). IsAfterAnswer o response past (kept x others_left others_found ∷ [])) (sym a)
    (subst (λ (x : List Operation). IsAfterAnswer o response past (kept pairs x others_found ∷ [])) (sym b)
    (subst (λ (x : List Found). IsAfterAnswer o response past (kept pairs calls x ∷ [])) (sym d) after))

pub set_parts : (calls : List Operation) (place : ℕ) (o : Operation) → place < length calls
    → slice_set calls place o ≡ take place calls ++ o ∷ drop (place + 1) calls
set_parts calls place o within =
    sym (take-append-drop place (slice_set calls place o))
    ∙ (ap (λ l. l ++ drop place (slice_set calls place o)) (take-set calls place o)
    ∙ ap (λ l. take place calls ++ l) (drop-set calls place o within))

pub remove_parts : (calls : List Operation) (place : ℕ) → remove calls place ≡ take place calls ++ drop (place + 1) calls
remove_parts calls place = rw add-one refl

-- a call that may change the map does so with its answer
pub changes_answered : (o operation : Operation) (response : Response) → IsAnswerOf o response operation → may_change o.call ≡ true
    → may_change operation.call ≡ true
changes_answered o operation response answer changes = ap (λ (x : Operation). may_change x.call) answer.is ∙ changes

pub not_refused : (refused agreed : Bool) → (refused ≡ true → agreed ≡ false) → agreed ≡ true → refused ≡ false
not_refused true agreed says agrees = let no = says refl in cc
not_refused false agreed says agrees = refl

pub refused_or_not : (refused : Bool) → (refused ≡ true) ⊎ (refused ≡ false)
refused_or_not true = inl refl
refused_or_not false = inr refl

pub parts_here : (calls : List Operation) (place : ℕ) (a : Operation) → slice_get calls place ≡ Some a
    → calls ≡ take place calls ++ a ∷ drop (place + 1) calls
parts_here calls place a at =
    parts_at calls place a (slice_get_within calls place a at) (sym (get_or_from_slice_get calls place a a at))

-- a call that is left is left with its answer
pub left_with_answer : (pairs : Contents) (calls more : List Operation) (found : List Found) (place : ℕ) (a o operation : Operation)
    (response : Response) → AllPairs (λ x y. x.inv < y.inv) calls → slice_get calls place ≡ Some a → a.inv ≡ operation.inv
    → is_refused operation.response ≡ false → more ≡ take place calls ++ operation ∷ drop (place + 1) calls
    → IsAnswerOf o response operation → IsKnownIn o (kept pairs calls found)
    → IsAfterAnswer o response (kept pairs calls found) (kept pairs more found ∷ [])
left_with_answer pairs calls more found place a o operation response rising at same refused is answer known =
    let own : operation.inv ≡ o.inv = ap (λ (x : Operation). x.inv) answer.is in
    let the : a ≡ o = is_the_call pairs calls found place a o rising at (same ∙ own) known in
    inl (
      take place calls,
      drop (place + 1) calls,
      subst (λ (x : Operation). calls ≡ take place calls ++ x ∷ drop (place + 1) calls) the (parts_here calls place a at),
      subst (λ (x : Operation). is_refused x.response ≡ false) answer.is refused,
      ap (λ (l : List Operation). kept pairs l found ∷ [])
          (subst (λ (x : Operation). more ≡ take place calls ++ x ∷ drop (place + 1) calls) answer.is is),
    )

-- one that was refused is left no more
pub left_no_more : (pairs : Contents) (calls less : List Operation) (found : List Found) (place : ℕ) (a o operation : Operation)
    (response : Response) → AllPairs (λ x y. x.inv < y.inv) calls → slice_get calls place ≡ Some a → a.inv ≡ operation.inv
    → is_refused operation.response ≡ true → less ≡ take place calls ++ drop (place + 1) calls
    → IsAnswerOf o response operation → IsKnownIn o (kept pairs calls found)
    → IsAfterAnswer o response (kept pairs calls found) (kept pairs less found ∷ [])
left_no_more pairs calls less found place a o operation response rising at same refused is answer known =
    let own : operation.inv ≡ o.inv = ap (λ (x : Operation). x.inv) answer.is in
    let the : a ≡ o = is_the_call pairs calls found place a o rising at (same ∙ own) known in
    inr (inl (
      take place calls,
      drop (place + 1) calls,
      subst (λ (x : Operation). calls ≡ take place calls ++ x ∷ drop (place + 1) calls) the (parts_here calls place a at),
      subst (λ (x : Operation). is_refused x.response ≡ true) answer.is refused,
      ap (λ (l : List Operation). kept pairs l found ∷ []) is,
    ))

-- a call that is not left has found something at its key
pub has_found : (pairs : Contents) (calls : List Operation) (found : List Found) (o operation : Operation) (response : Response)
    → All (λ a. a.inv ≢ operation.inv) calls → IsAnswerOf o response operation → IsKnownIn o (kept pairs calls found)
    → (f : Found) × Contains found f × (f.inv ≡ operation.inv) × (f.key ≡ low_key operation.call)
has_found pairs calls found o operation response none answer known =
    ⊎_elim
    (λ (has : Contains calls o). absurd (All-contains (λ (a : Operation). a.inv ≢ operation.inv) calls o none has
    (sym (ap (λ (x : Operation). x.inv) answer.is))))
    (λ taken. let own = Contains-from_map found_at found taken.0 taken.1 in (
      own.0,
      own.1,
      ap (λ (f : FoundAt). f.inv) own.2 ∙ (taken.2 ∙ sym (ap (λ (x : Operation). x.inv) answer.is)),
      ap (λ (f : FoundAt). f.key) own.2 ∙ (taken.3 ∙ sym (ap (λ (x : Operation). low_key x.call) answer.is)),
    ))
    known

-- if the answer fits what the call found, that is dropped
pub found_as_answered : (pairs : Contents) (calls : List Operation) (found others : List Found) (o operation : Operation) (response : Response)
    (f : Found) → Contains found f → f.inv ≡ operation.inv → f.key ≡ low_key operation.call
    → is_refused operation.response ≡ false → (effect_at operation.call operation.response (low_key operation.call)).fits f.value ≡ true
    → others ≡ filter (λ g. not (g.inv == operation.inv)) found → IsAnswerOf o response operation
    → IsAfterAnswer o response (kept pairs calls found) (kept pairs calls others ∷ [])
found_as_answered pairs calls found others o operation response f has inv key refused fits is answer = inr (inr (inl (record {
  f = found_at f;
  is_found = Contains-map found_at found f has;
  own = inv ∙ own;
  accepted = subst (λ (x : Operation). is_refused x.response ≡ false) answer.is refused;
  fits = subst (λ (n : ℕ). (effect_at o.call (Some response) n).fits f.value ≡ true) (sym key ∙ refl)
      (subst (λ (x : Operation). (effect_at x.call x.response (low_key operation.call)).fits f.value ≡ true) answer.is fits);
  others = map found_at others;
  each = λ g. (λ there. forth g there, λ there. back g there.0 there.1);
  next = refl;
})))
  where
    own : operation.inv ≡ o.inv
    own = ap (λ (x : Operation). x.inv) answer.is

    test : Found → Bool
    test g = not (g.inv == operation.inv)

    passes : (g : Found) → g.inv ≢ o.inv → test g ≡ true
    passes g differ = ap not (ne_eqb g.inv operation.inv (λ same. differ (same ∙ own)))

    differs : (g : Found) → test g ≡ true → g.inv ≢ o.inv
    differs g passed same =
        let is_own : not (g.inv == operation.inv) ≡ false = ap not (eq-eqb g.inv operation.inv (same ∙ sym own)) in cc

    forth : (g : FoundAt) → Contains (map found_at others) g → Contains (map found_at found) g × (g.inv ≢ o.inv)
    forth g there =
        let at = Contains-from_map found_at others g there in
        let from = Contains-from_filter test found at.0 (subst (λ (l : List Found). Contains l at.0) is at.1) in (
          subst (Contains (map found_at found)) at.2 (Contains-map found_at found at.0 from.0),
          subst (λ (z : FoundAt). z.inv ≢ o.inv) at.2 (differs at.0 from.1),
        )

    back : (g : FoundAt) → Contains (map found_at found) g → g.inv ≢ o.inv → Contains (map found_at others) g
    back g there differ =
        let at = Contains-from_map found_at found g there in
        subst (Contains (map found_at others)) at.2
        (Contains-map found_at others at.0
        (subst (λ (l : List Found). Contains l at.0) (sym is)
        (Contains-filter test found at.0 at.1 (passes at.0 (subst (λ (z : FoundAt). z.inv ≢ o.inv) (sym at.2) differ)))))

-- else the past is lost
pub found_otherwise : (pairs : Contents) (calls : List Operation) (found : List Found) (o operation : Operation) (response : Response)
    (f : Found) → Contains found f → f.inv ≡ operation.inv → f.key ≡ low_key operation.call
    → (is_refused operation.response ≡ true) ⊎ ((effect_at operation.call operation.response (low_key operation.call)).fits f.value ≡ false)
    → IsAnswerOf o response operation → IsAfterAnswer o response (kept pairs calls found) []
found_otherwise pairs calls found o operation response f has inv key wrong answer = inr (inr (inr (record {
  f = found_at f;
  is_found = Contains-map found_at found f has;
  own = inv ∙ ap (λ (x : Operation). x.inv) answer.is;
  wrong = ⊎_elim
      (λ refused. inl (subst (λ (x : Operation). is_refused x.response ≡ true) answer.is refused))
      (λ misfits. inr (subst (λ (n : ℕ). (effect_at o.call (Some response) n).fits f.value ≡ false) (sym key)
      (subst (λ (x : Operation). (effect_at x.call x.response (low_key operation.call)).fits f.value ≡ false) answer.is misfits))) wrong;
  none = refl;
})))

-- the pasts so far, and one more
pub AreAfterAnswer-more : (o : Operation) (response : Response) (pasts nexts : List KeptPast) (past : KeptPast) (first : List KeptPast)
    → AreAfterAnswer o response pasts nexts → IsAfterAnswer o response past first
    → AreAfterAnswer o response (pasts ++ past ∷ []) (nexts ++ first)
AreAfterAnswer-more o response [] nexts past first done one = rw done (first, [], sym (append-nil first), one, refl)
AreAfterAnswer-more o response (x ∷ pasts) nexts past first done one = (
  done.0,
  done.1 ++ first,
  ap (λ l. l ++ first) done.2 ∙ append_assoc done.0 done.1 first,
  done.3,
  AreAfterAnswer-more o response pasts done.1 past first done.4 one,
)

-- calls without one are still sorted by invocation
pub rising_without : (calls : List Operation) (place : ℕ) → place < length calls → AllPairs (λ x y. x.inv < y.inv) calls
    → AllPairs (λ x y. x.inv < y.inv) (remove calls place)
rising_without calls place within rising =
    let here = slice_get-below calls place within in
    let split : calls ≡ take place calls ++ here.0 ∷ drop (place + 1) calls = parts_here calls place here.0 here.1 in
    let all : AllPairs Rises (take place calls ++ here.0 ∷ drop (place + 1) calls) = subst (AllPairs Rises) split rising in
    subst (AllPairs Rises) (sym (remove_parts calls place))
    (AllPairs-append Rises (take place calls) (drop (place + 1) calls)
    (AllPairs-front Rises (take place calls) (here.0 ∷ drop (place + 1) calls) all)
    (AllPairs-tail Rises here.0 (drop (place + 1) calls) (AllPairs-back Rises (take place calls) (here.0 ∷ drop (place + 1) calls) all))
    (All-weaker (λ (x : Operation). All (Rises x) (here.0 ∷ drop (place + 1) calls)) (λ (x : Operation). All (Rises x) (drop (place + 1) calls))
    (λ x h. All-tail (Rises x) here.0 (drop (place + 1) calls) h) (take place calls)
    (AllPairs-across Rises (take place calls) (here.0 ∷ drop (place + 1) calls) all)))
  where
    Rises : Operation → Operation → Type 0
    Rises x y = x.inv < y.inv
