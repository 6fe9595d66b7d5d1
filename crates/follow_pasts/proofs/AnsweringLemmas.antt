-- Pasts are answered one after another, and searched one after another.
use Rattle.follow_pasts.proofs.Common.{◌≡◌, ℕ, ◌<◌, true, List, [], ◌∷◌, ◌++◌, length, get_or, map, append-nil, arith, refl, sym, ap, ◌∙◌, subst, All}
use Rattle.follow_pasts.proofs.Common.{AllPairs, Any, Contains, remove, append_assoc, All-nil, All-cons, All-head, All-tail, All-append, All-front}
use Rattle.follow_pasts.proofs.Common.{All-back, Operation, Response, may_change, NonePrecedesItself, Contents, IsAnswer, Mended, Order, NoOrder, Spent}
use Rattle.follow_pasts.proofs.Common.{KeptPast, IsAfterAnswer, AreAfterAnswer, IsKnownIn, AreShaped, found_at, kept_of, Found, Past, AreAlive}
use Rattle.follow_pasts.proofs.Common.{AreDoubtful, AreLeftAfter, IsAnswerOf, IsDead, kept_if, lefts, lefts_of_kept, past_of}
use Rattle.std.specs.Prelude.{Option, None, Some}
use Rattle.follow_orders.specs.Views.{StoredOrderView}
use Rattle.follow_pasts.proofs.AnswerLemmas.{AreAfterAnswer-more}
use Rattle.follow_pasts.proofs.LeftLemmas.{AreLeftOf, left_more}

-- ---- answers

-- some pasts were answered, and the rest was not
pub record AreAnswering (operation : Operation) (pasts left rest : List Past) : Type 0 where
  pub front : List Past
  pub parts : pasts ≡ front ++ rest
  pub after : (o : Operation) (response : Response) → IsAnswerOf o response operation → may_change o.call ≡ true
      → All (IsKnownIn o) (map kept_of front) → AreAfterAnswer o response (map kept_of front) (map kept_of left)
  pub from : AreLeftOf operation (map kept_of front) (map kept_of left)

pub answering_begins : (operation : Operation) (pasts : List Past) → AreAnswering operation pasts [] pasts
answering_begins operation pasts = record {
  front = [];
  parts = refl;
  after = λ o response answer changes known. refl;
  from = All-nil (λ next. Any (λ past. AreLeftAfter operation past.left next.left) []);
}

map_more : (front : List Past) (more : List Past) → map kept_of (front ++ more) ≡ map kept_of front ++ map kept_of more
map_more [] more = refl
map_more (x ∷ front) more = ap (λ l. kept_of x ∷ l) (map_more front more)

pub answering_goes_on : (operation : Operation) (pasts left new rest : List Past) (past : Past) (next : Option Past)
    → map kept_of new ≡ map kept_of left ++ kept_if next
    → ((o : Operation) (response : Response) → IsAnswerOf o response operation → may_change o.call ≡ true → IsKnownIn o (kept_of past)
    → IsAfterAnswer o response (kept_of past) (kept_if next))
    → All (λ p. AreLeftAfter operation past.calls.items p.left) (kept_if next)
    → AreAnswering operation pasts left (past ∷ rest) → AreAnswering operation pasts new rest
answering_goes_on operation pasts left new rest past next is one own_left so_far = record {
  front = so_far.front ++ past ∷ [];
  parts = so_far.parts ∙ sym (append_assoc so_far.front (past ∷ []) rest);
  after = λ o response answer changes known.
      let both : All (IsKnownIn o) (map kept_of so_far.front ++ kept_of past ∷ []) =
      subst (All (IsKnownIn o)) (map_more so_far.front (past ∷ [])) known in
      let done = so_far.after o response answer changes (All-front (IsKnownIn o) (map kept_of so_far.front) (kept_of past ∷ []) both) in
      let own = one o response answer changes
      (All-head (IsKnownIn o) (kept_of past) [] (All-back (IsKnownIn o) (map kept_of so_far.front) (kept_of past ∷ []) both)) in
      subst (λ (l : List KeptPast). AreAfterAnswer o response (map kept_of (so_far.front ++ past ∷ [])) l) (sym is)
      (subst (λ (l : List KeptPast). AreAfterAnswer o response l (map kept_of left ++ kept_if next)) (sym (map_more so_far.front (past ∷ [])))
      (AreAfterAnswer-more o response (map kept_of so_far.front) (map kept_of left) (kept_of past) (kept_if next) done own));
  from = subst (λ (l : List KeptPast). AreLeftOf operation (map kept_of (so_far.front ++ past ∷ [])) l) (sym is)
      (subst (λ (l : List KeptPast). AreLeftOf operation l (map kept_of left ++ kept_if next)) (sym (map_more so_far.front (past ∷ [])))
      (left_more operation (map kept_of so_far.front) (map kept_of left) (kept_if next) (kept_of past) so_far.from own_left));
}

pub map_push : (left : List Past) (past : Past) → map kept_of (left ++ past ∷ []) ≡ map kept_of left ++ kept_if (Some past)
map_push left past = map_more left (past ∷ [])

pub map_same : (left : List Past) → map kept_of left ≡ map kept_of left ++ kept_if None
map_same left = sym (append-nil (map kept_of left))

pub answering_ends : (operation : Operation) (pasts left : List Past) → AreAnswering operation pasts left []
    → (o : Operation) (response : Response) → IsAnswerOf o response operation → may_change o.call ≡ true
    → All (IsKnownIn o) (map kept_of pasts) → AreAfterAnswer o response (map kept_of pasts) (map kept_of left)
answering_ends operation pasts left so_far o response answer changes known =
    let whole : pasts ≡ so_far.front = so_far.parts ∙ append-nil so_far.front in
    subst (λ (l : List Past). AreAfterAnswer o response (map kept_of l) (map kept_of left)) (sym whole)
    (so_far.after o response answer changes (subst (λ (l : List Past). All (IsKnownIn o) (map kept_of l)) whole known))

pub left_ends : (operation : Operation) (pasts left : List Past) → AreAnswering operation pasts left []
    → AreLeftOf operation (map kept_of pasts) (map kept_of left)
left_ends operation pasts left so_far =
    subst (λ (l : List Past). AreLeftOf operation (map kept_of l) (map kept_of left)) (sym (so_far.parts ∙ append-nil so_far.front)) so_far.from

-- the shape of a past
abbrev pub IsPastOk : Past → Type 0
IsPastOk p = AllPairs (λ a b. a.inv < b.inv) p.calls.items × NonePrecedesItself p.calls.items

-- the calls of the next past are sorted by invocation
pub next_rises : (operation : Operation) (pasts left rest : List Past) (past : Past) → AreShaped pasts
    → AreAnswering operation pasts left (past ∷ rest) → AllPairs (λ a b. a.inv < b.inv) past.calls.items
next_rises operation pasts left rest past shaped so_far =
    let all : AreShaped (so_far.front ++ past ∷ rest) = subst AreShaped so_far.parts shaped in
    (All-head IsPastOk past rest (All-back IsPastOk so_far.front (past ∷ rest) all)).0

-- ---- searches

-- a past that is searched
abbrev pub searched : Contents → List Operation → List Found → KeptPast
searched pairs calls found = record { pairs = pairs; left = calls; found = map found_at found }

same_searched : (pairs pairs_back : Contents) (calls calls_back : List Operation) (found : List Found) → pairs_back ≡ pairs
    → calls_back ≡ calls → searched pairs_back calls_back found ≡ searched pairs calls found
same_searched pairs pairs_back calls calls_back found a b =
    ap (λ (x : Contents). searched x calls_back found) a ∙ ap (λ (x : List Operation). searched pairs x found) b

-- pasts were tried, and are dead; these others were not
pub record HaveTried (pasts : List KeptPast) (tried others : List Past) : Type 0 where
  pub dead : All IsDead (map kept_of tried)
  pub parts : pasts ≡ map kept_of tried ++ map kept_of others

-- pasts were tried, and are dead, and it is known of the next one whether it has an order
pub record SearchesOn (budget : ℕ) (pasts : List KeptPast) (tried : List Past) (kept : Mended) (found : List Found) (others : List Past)
    : Type 0 where
  pub dead : All IsDead (map kept_of tried)
  pub pairs : Contents
  pub calls : List Operation
  pub parts : pasts ≡ map kept_of tried ++ searched pairs calls found ∷ map kept_of others
  pub answer : IsAnswer pairs calls budget kept

pub search_begins : (budget : ℕ) (pairs : Contents) (calls : List Operation) (kept : Mended) (found : List Found) (others : List Past)
    → IsAnswer pairs calls budget kept → SearchesOn budget (searched pairs calls found ∷ map kept_of others) [] kept found others
search_begins budget pairs calls kept found others h =
    record { dead = All-nil IsDead; pairs = pairs; calls = calls; parts = refl; answer = h }

pub found_alive : (budget : ℕ) (pasts : List KeptPast) (tried : List Past) (first : StoredOrderView) (found : List Found) (others : List Past)
    → SearchesOn budget pasts tried (Order first) found others → AreAlive pasts (past_of first found ∷ map kept_of others)
found_alive budget pasts tried first found others so_far = record {
  front = map kept_of tried;
  dead = so_far.dead;
  parts = so_far.parts ∙ ap (λ (p : KeptPast). map kept_of tried ++ p ∷ map kept_of others)
      (sym (same_searched so_far.pairs first.start so_far.calls first.calls found so_far.answer.same_start so_far.answer.same_calls));
}

-- the past that was searched beyond the budget is between the others again
pub found_doubtful : (budget : ℕ) (pasts : List KeptPast) (tried : List Past) (past : Past) (others again : List Past)
    → SearchesOn budget pasts tried (Spent past.map past.calls) past.found.items others → again ≡ (tried ++ past ∷ []) ++ others
    → (map kept_of again ≡ pasts) × AreDoubtful budget pasts
found_doubtful budget pasts tried past others again so_far is = (
  ap (map kept_of) (is ∙ append_assoc tried (past ∷ []) others) ∙ (map_more tried (past ∷ others)
      ∙ (ap (λ (p : KeptPast). map kept_of tried ++ p ∷ map kept_of others) same ∙ sym so_far.parts)),
  record {
    front = map kept_of tried;
    past = searched so_far.pairs so_far.calls past.found.items;
    back = map kept_of others;
    dead = so_far.dead;
    parts = so_far.parts;
    reaches = so_far.answer.reaches;
    overlap = so_far.answer.overlap;
  },
)
  where
    same : kept_of past ≡ searched so_far.pairs so_far.calls past.found.items
    same = same_searched so_far.pairs past.map so_far.calls past.calls.items past.found.items so_far.answer.same_start so_far.answer.same_calls

-- a past without an order was tried
pub tried_more : (budget : ℕ) (pasts : List KeptPast) (tried : List Past) (past : Past) (others new : List Past)
    → SearchesOn budget pasts tried (NoOrder past.map past.calls) past.found.items others → new ≡ tried ++ past ∷ []
    → HaveTried pasts new others
tried_more budget pasts tried past others new so_far is = subst (λ (l : List Past). HaveTried pasts l others) (sym is) (record {
  dead = subst (All IsDead) (sym (map_more tried (past ∷ [])))
      (All-append IsDead (map kept_of tried) (kept_of past ∷ []) so_far.dead
      (All-cons IsDead (kept_of past) [] (subst IsDead (sym same) so_far.answer.none) (All-nil IsDead)));
  parts = so_far.parts ∙ (ap (λ (p : KeptPast). map kept_of tried ++ p ∷ map kept_of others) (sym same)
      ∙ (sym (append_assoc (map kept_of tried) (kept_of past ∷ []) (map kept_of others))
      ∙ ap (λ (l : List KeptPast). l ++ map kept_of others) (sym (map_more tried (past ∷ [])))));
})
  where
    same : kept_of past ≡ searched so_far.pairs so_far.calls past.found.items
    same = same_searched so_far.pairs past.map so_far.calls past.calls.items past.found.items so_far.answer.same_start so_far.answer.same_calls

-- all were tried
pub found_dead : (pasts : List KeptPast) (tried others : List Past) → others ≡ [] → HaveTried pasts tried others
    → (map kept_of tried ≡ pasts) × All IsDead pasts
found_dead pasts tried others none so_far =
    let all : pasts ≡ map kept_of tried =
    so_far.parts ∙ (ap (λ (l : List Past). map kept_of tried ++ map kept_of l) none ∙ append-nil (map kept_of tried)) in
    (sym all, subst (All IsDead) (sym all) so_far.dead)

-- the next one is searched
pub search_goes_on : (budget : ℕ) (pasts : List KeptPast) (tried others rest : List Past) (past : Past) (kept : Mended)
    → others ≡ past ∷ rest → IsAnswer past.map past.calls.items budget kept → HaveTried pasts tried others
    → SearchesOn budget pasts tried kept past.found.items rest
search_goes_on budget pasts tried others rest past kept is answer so_far = record {
  dead = so_far.dead;
  pairs = past.map;
  calls = past.calls.items;
  parts = so_far.parts ∙ ap (λ (l : List Past). map kept_of tried ++ map kept_of l) is;
  answer = answer;
}

-- the first past is taken out
pub split_first : (others rest : List Past) (past : Past) → 0 < length others → past ≡ get_or others 0 past → rest ≡ remove others 0
    → others ≡ past ∷ rest
split_first [] rest past within is gone = absurd (omega arith)
split_first (x ∷ xs) rest past within is gone = ap (λ p. p ∷ xs) (sym is) ∙ ap (λ l. past ∷ l) (sym gone)

pub first_shaped : (others rest : List Past) (past : Past) → others ≡ past ∷ rest → AreShaped others → IsPastOk past
first_shaped others rest past is shaped = All-head IsPastOk past rest (subst AreShaped is shaped)

pub rest_shaped : (others rest : List Past) (past : Past) → others ≡ past ∷ rest → AreShaped others → AreShaped rest
rest_shaped others rest past is shaped = All-tail IsPastOk past rest (subst AreShaped is shaped)

-- what is left of the next past was left of one
pub lefts_next : (all : List (List Operation)) (pairs : Contents) (budget : ℕ) (others rest : List Past) (past : Past) (kept : Mended)
    → others ≡ past ∷ rest → IsAnswer pairs past.calls.items budget kept → All (Contains all) (lefts others)
    → All (Contains all) (lefts_of_kept kept ++ lefts rest)
lefts_next all pairs budget others rest past kept is answer within =
    by_kept kept answer (subst (λ (l : List Past). All (Contains all) (lefts l)) is within)
  where
    by_kept : (k : Mended) → IsAnswer pairs past.calls.items budget k → All (Contains all) (past.calls.items ∷ lefts rest)
        → All (Contains all) (lefts_of_kept k ++ lefts rest)
    by_kept (Order first) h here = subst (λ (l : List Operation). All (Contains all) (l ∷ lefts rest)) (sym h.same_calls) here
    by_kept (NoOrder start_back calls_back) h here = All-tail (Contains all) past.calls.items (lefts rest) here
    by_kept (Spent start_back calls_back) h here = All-tail (Contains all) past.calls.items (lefts rest) here
