-- A read is added to the calls of pasts.
use Rattle.follow_parts.proofs.Common.{◌≡◌, ℕ, suc, ◌<◌, ◌≤◌, ◌+◌, false, List, [], ◌∷◌, ◌++◌, map, length, get_or, set, take, drop, append-nil, Option}
use Rattle.follow_parts.proofs.Common.{None, Some, refl, sym, ap, ◌∙◌, subst, below_more, get_or-set_other, get_or-set_same, arith, ◌≢◌, All, AllPairs}
use Rattle.follow_parts.proofs.Common.{AllZip, false≢true, length-set, get_or_default, take_all, drop_all, All-cons, All-head, All-tail, All-append}
use Rattle.follow_parts.proofs.Common.{All-weaker, All-contains, AllPairs-cons, Contains-map, All-from_contains, All-front, All-back, AllPairs-append}
use Rattle.follow_parts.proofs.Common.{AllPairs-front, AllPairs-back, AllPairs-across, Operation, Response, precedes, NonePrecedesItself, Contents}
use Rattle.follow_parts.proofs.Common.{StoredOrderView, HasCome, MayCome, IsAnswer, IsAnswerWith, Mended, KeptPast, IsWithRead, AreShaped, found_at, kept_of}
use Rattle.follow_parts.proofs.Common.{Found, Past, kept_part, past_of, IsPastShaped, IsPartShaped, AreGoneOn, Part, IsShapedPast, IsCallBefore, MayComeTo}
use Rattle.follow_parts.proofs.Common.{HasGoneIn, Read}
use Rattle.std.specs.Option.{IsSome}

-- ---- in each past

pub record AreAdding (o : Operation) (olds pasts : List Past) (place : ℕ) : Type 0 where
  pub so_far : (k : ℕ) (d : Past) → k < place → IsWithRead o (kept_of (get_or olds k d)) (kept_of (get_or pasts k d))
  pub others : (k : ℕ) (d : Past) → place ≤ k → get_or pasts k d ≡ get_or olds k d
  pub long : length pasts ≡ length olds

pub adding_goes_on : (o : Operation) (olds pasts : List Past) (place : ℕ) (at next : Past) → AreAdding o olds pasts place
    → place < length pasts → IsWithRead o (kept_of (get_or pasts place at)) (kept_of next)
    → AreAdding o olds (set pasts place next) (place + 1)
adding_goes_on o olds pasts place at next so within is = record {
  so_far = λ k d less. below_more (λ (k : ℕ). (d : Past) → IsWithRead o (kept_of (get_or olds k d)) (kept_of (get_or (set pasts place next) k d))) place
      (λ k less d.
      let other : k ≢ place = omega (arith, less) in
      subst (λ (p : Past). IsWithRead o (kept_of (get_or olds k d)) (kept_of p)) (sym (get_or-set_other pasts place k next d other)) (so.so_far k d less))
      (λ d.
      subst (λ (p : Past). IsWithRead o (kept_of (get_or olds place d)) (kept_of p)) (sym (get_or-set_same pasts place next d within))
      (subst (λ (p : Past). IsWithRead o (kept_of p) (kept_of next)) (get_or_default pasts place at d within ∙ so.others place d (omega arith)) is))
      k less d;
  others = λ k d later.
      let other : k ≢ place = omega (arith, later) in
      get_or-set_other pasts place k next d other ∙ so.others k d (omega (arith, later));
  long = length-set pasts place next ∙ so.long;
}

with_each : (o : Operation) (olds pasts : List Past) → length pasts ≡ length olds
    → ((k : ℕ) (d : Past) → k < length olds → IsWithRead o (kept_of (get_or olds k d)) (kept_of (get_or pasts k d)))
    → AllZip (IsWithRead o) (map kept_of olds) (map kept_of pasts)
with_each o [] [] long each = tt
with_each o [] (next ∷ pasts) long each = absurd (omega (arith, long))
with_each o (old ∷ olds) [] long each = absurd (omega (arith, long))
with_each o (old ∷ olds) (next ∷ pasts) long each = (
  each 0 old (omega arith),
  with_each o olds pasts (omega (arith, long)) (λ k d within. each (suc k) d (omega (arith, within))),
)

pub adding_ends : (o : Operation) (olds pasts : List Past) (place : ℕ) → AreAdding o olds pasts place → length pasts ≤ place
    → AllZip (IsWithRead o) (map kept_of olds) (map kept_of pasts)
adding_ends o olds pasts place so past =
    with_each o olds pasts so.long (λ k d within. so.so_far k d (omega (arith, within, past, so.long)))

-- what `add_to_past` asks of a past
pub past_may : (P : Past → Type 0) (o : Operation) (olds pasts : List Past) (place : ℕ) (d : Past) → All P olds
    → AreAdding o olds pasts place → place < length pasts → P (get_or pasts place d)
past_may P o olds pasts place d all so within = subst P (sym (so.others place d (omega arith))) (all place d (omega (arith, within, so.long)))

-- ---- the shape of pasts with a read

module _ (o : Operation) (last : precedes o o ≡ false) where
  one_shaped : (old next : Past) → IsWithRead o (kept_of old) (kept_of next) → IsShapedPast old → IsShapedPast next
  one_shaped old next (before, after, same, less, greater, is) shaped = subst
      (λ (l : List Operation). AllPairs (λ a b. a.inv < b.inv) l × NonePrecedesItself l) (sym (ap (λ (k : KeptPast). k.left) is)) (
        AllPairs-append (λ (a b : Operation). a.inv < b.inv) before (o ∷ after)
            (AllPairs-front (λ (a b : Operation). a.inv < b.inv) before after rising)
            (AllPairs-cons (λ (a b : Operation). a.inv < b.inv) o after greater
            (AllPairs-back (λ (a b : Operation). a.inv < b.inv) before after rising))
            (λ k d within. All-cons (λ (b : Operation). (get_or before k d).inv < b.inv) o after (less k d within)
            (AllPairs-across (λ (a b : Operation). a.inv < b.inv) before after rising k d within)),
        All-append (λ (a : Operation). precedes a a ≡ false) before (o ∷ after)
            (All-front (λ (a : Operation). precedes a a ≡ false) before after apart)
            (All-cons (λ (a : Operation). precedes a a ≡ false) o after last
            (All-back (λ (a : Operation). precedes a a ≡ false) before after apart)),
      )
    where
      rising : AllPairs (λ a b. a.inv < b.inv) (before ++ after)
      rising = subst (AllPairs (λ (a b : Operation). a.inv < b.inv)) same shaped.0

      apart : NonePrecedesItself (before ++ after)
      apart = subst NonePrecedesItself same shaped.1

  pub reads_shaped : (olds pasts : List Past) → AllZip (IsWithRead o) (map kept_of olds) (map kept_of pasts) → AreShaped olds
      → AreShaped pasts
  reads_shaped [] [] zip shaped = shaped
  reads_shaped [] (next ∷ pasts) zip shaped = absurd zip
  reads_shaped (old ∷ olds) [] zip shaped = absurd zip
  reads_shaped (old ∷ olds) (next ∷ pasts) zip shaped = All-cons IsShapedPast next pasts
      (one_shaped old next zip.0 (All-head IsShapedPast old olds shaped))
      (reads_shaped olds pasts zip.1 (All-tail IsShapedPast old olds shaped))

-- ---- a read that is added to a part

abbrev first_past : Part → KeptPast
first_past part = past_of part.first part.found.items

abbrev others_of : Part → List KeptPast
others_of part = map kept_of part.others.items

pub others_shaped : (part : Part) → IsPartShaped part → AreShaped part.others.items
others_shaped part shaped = All-from_contains IsShapedPast part.others.items (λ past past_in.
    let is : IsPastShaped (kept_of past) = All-contains IsPastShaped (others_of part) (kept_of past)
    (All-tail IsPastShaped (first_past part) (others_of part) shaped.pasts) (Contains-map kept_of part.others.items past past_in) in
    (is.rising, is.apart))

pub others_differ : (o : Operation) (part : Part) → MayComeTo o part
    → All (λ past. All (λ p. p.inv ≢ o.inv) past.calls.items) part.others.items
others_differ o part comes = All-from_contains (λ (past : Past). All (λ (p : Operation). p.inv ≢ o.inv) past.calls.items) part.others.items
    (λ past past_in. All-contains (λ (k : KeptPast). All (λ (p : Operation). p.inv ≢ o.inv) k.left) (others_of part) (kept_of past)
    (All-tail (λ (k : KeptPast). All (λ (p : Operation). p.inv ≢ o.inv) k.left) (first_past part) (others_of part) comes.other)
    (Contains-map kept_of part.others.items past past_in))

some_response : (r : Option Response) → IsSome r → (response : Response) × (r ≡ Some response)
some_response None some = absurd (false≢true some)
some_response (Some response) some = (response, refl)

pub may_come : (o : Operation) (part : Part) → IsSome o.response → precedes o o ≡ false → MayComeTo o part → MayCome part.first.calls o
may_come o part reported last comes =
    let (response, is) = some_response o.response reported in
    record {
      response = response;
      completed = is;
      other = All-head (λ (k : KeptPast). All (λ (p : Operation). p.inv ≢ o.inv) k.left) (first_past part) (others_of part) comes.other;
      after_invocations = All-weaker (IsCallBefore response.res) (λ (a : Operation). a.inv < response.res) (λ a before. before.begun)
          part.first.calls
          (All-head (λ (k : KeptPast). All (IsCallBefore response.res) k.left) (first_past part) (others_of part) (comes.before response is));
      apart = last;
    }

first_with : (o : Operation) (first : StoredOrderView) (found : List Found) (more : List Operation) → HasCome o first.calls more
    → IsWithRead o (past_of first found) (record { pairs = first.start; left = more; found = map found_at found })
first_with o first found more came = (
  came.front,
  came.back,
  came.before,
  came.less,
  came.greater,
  ap (λ (l : List Operation). record { pairs = first.start; left = l; found = map found_at found }) came.after,
)

-- ---- a list of pasts after a call changed them in place

module _ (o : Operation) (len : ℕ) (own olds given news : List Past) (is_own : olds ≡ own) (same : given ≡ olds) (fits : len ≡ length olds)
    (zip : AllZip (IsWithRead o) (map kept_of given) (map kept_of news)) where
  with_read_after : AllZip (IsWithRead o) (map kept_of own) (map kept_of news)
  with_read_after = subst (λ (l : List Past). AllZip (IsWithRead o) (map kept_of l) (map kept_of news)) (same ∙ is_own) zip

  long_after : length news ≡ length olds
  long_after = zip_long olds news (subst (λ (l : List Past). AllZip (IsWithRead o) (map kept_of l) (map kept_of news)) same zip)
    where
      zip_long : (xs ys : List Past) → AllZip (IsWithRead o) (map kept_of xs) (map kept_of ys) → length ys ≡ length xs
      zip_long [] [] each = refl
      zip_long [] (y ∷ ys) each = absurd each
      zip_long (x ∷ xs) [] each = absurd each
      zip_long (x ∷ xs) (y ∷ ys) each = let h = zip_long xs ys each.1 in omega (arith, h)

  pub items_after : take len (news ++ drop (length news) olds) ≡ news
  items_after = ap (λ (l : List Past). take len (news ++ l)) (drop_all (length news) olds (omega (arith, long_after)))
      ∙ (ap (take len) (append-nil news) ∙ take_all len news (omega (arith, long_after, fits)))

  pub shaped_after : precedes o o ≡ false → AreShaped own → AreShaped (take len (news ++ drop (length news) olds))
  shaped_after last shaped = subst AreShaped (sym items_after) (reads_shaped o last own news with_read_after shaped)

  pub some_after : 0 < length own → 0 < length (take len (news ++ drop (length news) olds))
  some_after some = subst (λ (l : List Past). 0 < length l) (sym items_after) (omega (arith, some, long_after, ap length is_own))

pub first_rises : (pasts : List Past) (first : Past) (calls : List Operation) → AreShaped pasts → 0 < length pasts
    → first ≡ get_or pasts 0 first → calls ≡ first.calls.items → AllPairs (λ a b. a.inv < b.inv) calls
first_rises pasts first calls shaped some at is = subst (AllPairs (λ (a b : Operation). a.inv < b.inv)) (sym is)
    (subst IsShapedPast (sym at) (shaped 0 first some)).0

-- ---- what becomes of the pasts of a part

pub gone_in_part : (budget : ℕ) (o : Operation) (part : Part) (first : StoredOrderView) (found : List Found) (len : ℕ)
    (olds given news : List Past) (kept : Mended) (read : Read) → first ≡ part.first → found ≡ part.found.items → olds ≡ part.others.items
    → given ≡ olds → len ≡ length olds → IsAnswerWith o first.start first.calls budget kept
    → AllZip (IsWithRead o) (map kept_of given) (map kept_of news)
    → ((pairs : Contents) (calls : List Operation) → IsAnswer pairs calls budget kept
    → AreGoneOn budget (record { pairs = pairs; left = calls; found = map found_at found }
    ∷ map kept_of (take len (news ++ drop (length news) olds))) read.gone)
    → HasGoneIn budget o (kept_part part).pasts read
gone_in_part budget o part first found len olds given news kept read is_first is_found is_own same fits answer zip gone = record {
  nexts = record { pairs = part.first.start; left = came.more; found = map found_at part.found.items } ∷ map kept_of news;
  with_read = (
    first_with o part.first part.found.items came.more came.came,
    with_read_after o len part.others.items olds given news is_own same fits zip,
  );
  gone = subst (λ (l : List Past). AreGoneOn budget (record { pairs = part.first.start; left = came.more; found = map found_at part.found.items }
      ∷ map kept_of l) read.gone) (items_after o len part.others.items olds given news is_own same fits zip)
      (subst (λ (f : List Found). AreGoneOn budget (record { pairs = part.first.start; left = came.more; found = map found_at f }
      ∷ map kept_of (take len (news ++ drop (length news) olds))) read.gone) is_found
      (gone part.first.start came.more came.answer));
}
  where
    came : IsAnswerWith o part.first.start part.first.calls budget kept
    came = subst (λ (f : StoredOrderView). IsAnswerWith o f.start f.calls budget kept) is_first answer
