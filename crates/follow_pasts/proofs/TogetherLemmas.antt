-- Pasts of different keys as one, and what is known of parts that became one.
use Rattle.follow_pasts.proofs.Common.{◌≡◌, ℕ, ◌<◌, ◌≤◌, ◌+◌, Bool, true, false, ◌||◌, List, [], ◌∷◌, ◌++◌, length, get_or, take, map, refl, sym, ap}
use Rattle.follow_pasts.proofs.Common.{◌∙◌, subst, ⊎_elim, append-nil, arith, ◌≢◌, nat_le, All, AllPairs, Contains, AllZip, take_more, take_all}
use Rattle.follow_pasts.proofs.Common.{list_any-append, All-nil, All-head, All-tail, All-contains, Contains-map, Contains-from_map, All-from_contains}
use Rattle.follow_pasts.proofs.Common.{Contains-first, Contains-nil, Contains-cases, AllPairs-nil, AllPairs-head, AllPairs-tail, Operation, precedes}
use Rattle.follow_pasts.proofs.Common.{NonePrecedesItself, Contents, KeptPast, AreShaped, found_at, kept_of, Found, Past, covered, from_to, kept_part}
use Rattle.follow_pasts.proofs.Common.{past_of, IsPastShaped, IsPartShaped, AreBesidePasts, AreBesideEachOther, AreOne, HasRow, AreAllPairs, ArePairsOf}
use Rattle.follow_pasts.proofs.Common.{IsTakenFrom, IsTogetherWith, at_rest, Part, Range, United}
use Rattle.std.proofs.Common.{◌&&◌, append_assoc}
use Rattle.follow_pasts.proofs.UnionLemmas.{UniteAll, pair_of}

-- ---- shapes

abbrev pub IsShapedPast : Past → Type 0
IsShapedPast past = AllPairs (λ a b. a.inv < b.inv) past.calls.items × NonePrecedesItself past.calls.items

pub own_shaped : (part : Part) (own : List Past) → map kept_of own ≡ (kept_part part).pasts → IsPartShaped part → AreShaped own
own_shaped part own same shaped = All-from_contains IsShapedPast own (λ past past_in.
    let is : IsPastShaped (kept_of past) = All-contains IsPastShaped (kept_part part).pasts (kept_of past) shaped.pasts
    (subst (λ (l : List KeptPast). Contains l (kept_of past)) same (Contains-map kept_of own past past_in)) in
    (is.rising, is.apart))

one_shaped : (a b one : Past) → AreOne a b one → IsShapedPast a → IsShapedPast b → IsShapedPast one
one_shaped a b one is first second = (
  is.rising,
  All-from_contains (λ (o : Operation). precedes o o ≡ false) one.calls.items (λ o o_in. ⊎_elim
      (λ here. All-contains (λ (p : Operation). precedes p p ≡ false) a.calls.items o first.1 here)
      (λ there. All-contains (λ (p : Operation). precedes p p ≡ false) b.calls.items o second.1 there)
      ((is.left o).0 o_in)),
)

pub next_shaped : (united : United) (part : Part) (next : United) → AreShaped united.pasts.items → IsPartShaped part
    → IsTogetherWith united part next → AreShaped next.pasts.items
next_shaped united part next first second is = All-from_contains IsShapedPast next.pasts.items (λ one one_in.
    let (a, b, a_in, b_in, both) = pair_of united.pasts.items is.own next.pasts.items is.pairs one one_in in
    one_shaped a b one both (All-contains IsShapedPast united.pasts.items a first a_in)
    (All-contains IsShapedPast is.own b (own_shaped part is.own is.own_is second) b_in))

-- no call of one is a call of the other, call by call
beside_at : (part : Part) (pasts : List KeptPast) → AreBesidePasts part pasts → (past other : KeptPast) (o p : Operation)
    → Contains (kept_part part).pasts past → Contains pasts other → Contains past.left o → Contains other.left p → o.inv ≢ p.inv
beside_at part pasts beside past other o p past_in other_in o_in p_in =
    All-contains (λ (q : Operation). o.inv ≢ q.inv) other.left p
    (All-contains (λ (a : Operation). All (λ (q : Operation). a.inv ≢ q.inv) other.left) past.left o
    (All-contains (λ (k : KeptPast). All (λ (a : Operation). All (λ (q : Operation). a.inv ≢ q.inv) k.left) past.left) pasts other
    (All-contains (λ (j : KeptPast). All (λ (k : KeptPast). All (λ (a : Operation). All (λ (q : Operation). a.inv ≢ q.inv) k.left) j.left) pasts)
    (kept_part part).pasts past beside past_in) other_in) o_in) p_in

beside_from : (part : Part) (pasts : List KeptPast)
    → ((past other : KeptPast) (o p : Operation) → Contains (kept_part part).pasts past → Contains pasts other → Contains past.left o
    → Contains other.left p → o.inv ≢ p.inv) → AreBesidePasts part pasts
beside_from part pasts each =
    All-from_contains (λ (j : KeptPast). All (λ (k : KeptPast). All (λ (a : Operation). All (λ (q : Operation). a.inv ≢ q.inv) k.left) j.left) pasts)
    (kept_part part).pasts (λ past past_in.
    All-from_contains (λ (k : KeptPast). All (λ (a : Operation). All (λ (q : Operation). a.inv ≢ q.inv) k.left) past.left) pasts (λ other other_in.
    All-from_contains (λ (a : Operation). All (λ (q : Operation). a.inv ≢ q.inv) other.left) past.left (λ o o_in.
    All-from_contains (λ (q : Operation). o.inv ≢ q.inv) other.left (λ p p_in. each past other o p past_in other_in o_in p_in))))

next_beside : (united : United) (part : Part) (next : United) (q : Part) → AreBesidePasts q (map kept_of united.pasts.items)
    → AreBesideEachOther part q → IsTogetherWith united part next → AreBesidePasts q (map kept_of next.pasts.items)
next_beside united part next q first second is = beside_from q (map kept_of next.pasts.items) (λ past other o p past_in other_in o_in p_in.
    let (one, one_in, same) = Contains-from_map kept_of next.pasts.items other other_in in
    let (a, b, a_in, b_in, both) = pair_of united.pasts.items is.own next.pasts.items is.pairs one one_in in
    ⊎_elim
    (λ here. beside_at q (map kept_of united.pasts.items) first past (kept_of a) o p past_in
    (Contains-map kept_of united.pasts.items a a_in) o_in here)
    (λ there. λ e. beside_at part (kept_part q).pasts second (kept_of b) past p o
    (subst (λ (l : List KeptPast). Contains l (kept_of b)) is.own_is (Contains-map kept_of is.own b b_in)) past_in there o_in (sym e))
    ((both.left p).0 (subst (λ (k : KeptPast). Contains k.left p) (sym same) p_in)))

-- what `all_pairs` asks of the pasts of parts
pub pasts_apart : (united : United) (part : Part) (own : List Past) → map kept_of own ≡ (kept_part part).pasts
    → AreBesidePasts part (map kept_of united.pasts.items)
    → All (λ past. All (λ other. All (λ o. All (λ p. o.inv ≢ p.inv) other.calls.items) past.calls.items) own) united.pasts.items
pasts_apart united part own same beside =
    All-from_contains (λ (past : Past). All (λ (other : Past). All (λ (o : Operation). All (λ (p : Operation). o.inv ≢ p.inv) other.calls.items) past.calls.items) own)
    united.pasts.items (λ past past_in.
    All-from_contains (λ (other : Past). All (λ (o : Operation). All (λ (p : Operation). o.inv ≢ p.inv) other.calls.items) past.calls.items) own (λ other other_in.
    All-from_contains (λ (o : Operation). All (λ (p : Operation). o.inv ≢ p.inv) other.calls.items) past.calls.items (λ o o_in.
    All-from_contains (λ (p : Operation). o.inv ≢ p.inv) other.calls.items (λ p p_in. λ e.
    beside_at part (map kept_of united.pasts.items) beside (kept_of other) (kept_of past) p o
    (subst (λ (l : List KeptPast). Contains l (kept_of other)) same (Contains-map kept_of own other other_in))
    (Contains-map kept_of united.pasts.items past past_in) p_in o_in (sym e)))))

-- ---- the loop over the parts

-- the first parts were united with the keys at rest; those that are left may be
pub record AreUniting (met : List Part) (united : United) (left : List Part) (first : United) : Type 0 where
  pub all : (last : United) → UniteAll united left last → UniteAll first met last
  pub shaped : AreShaped united.pasts.items
  pub some : 0 < length united.pasts.items
  pub parts : All IsPartShaped left
  pub apart : AllPairs AreBesideEachOther left
  pub beside : All (λ part. AreBesidePasts part (map kept_of united.pasts.items)) left

pub uniting_more : (met : List Part) (united : United) (part : Part) (left : List Part) (first next : United)
    → AreUniting met united (part ∷ left) first → IsTogetherWith united part next → 0 < length next.pasts.items
    → AreUniting met next left first
uniting_more met united part left first next so is some = record {
  all = λ last all. so.all last (next, is, all);
  shaped = next_shaped united part next so.shaped (All-head IsPartShaped part left so.parts) is;
  some = some;
  parts = All-tail IsPartShaped part left so.parts;
  apart = AllPairs-tail AreBesideEachOther part left so.apart;
  beside = All-from_contains (λ (q : Part). AreBesidePasts q (map kept_of next.pasts.items)) left (λ q q_in.
      next_beside united part next q
      (All-contains (λ (p : Part). AreBesidePasts p (map kept_of united.pasts.items)) left q
      (All-tail (λ (p : Part). AreBesidePasts p (map kept_of united.pasts.items)) part left so.beside) q_in)
      (All-contains (AreBesideEachOther part) left q (AllPairs-head AreBesideEachOther part left so.apart) q_in) is);
}

-- nothing is left of the calls of keys at rest
rest_calls : (pasts : List Past) (pairs : Contents) → map kept_of pasts ≡ at_rest pairs ∷ [] → (past : Past) → Contains pasts past
    → past.calls.items ≡ []
rest_calls pasts pairs is past past_in = ⊎_elim (λ same. sym (ap (λ (k : KeptPast). k.left) same)) (λ none. absurd (Contains-nil (kept_of past) none))
    (Contains-cases (at_rest pairs) [] (kept_of past)
    (subst (λ (l : List KeptPast). Contains l (kept_of past)) is (Contains-map kept_of pasts past past_in)))

some_at_first : {X Y : Type 0} (f : X → Y) (xs : List X) (y : Y) (ys : List Y) → map f xs ≡ y ∷ ys → 0 < length xs
some_at_first {X} {Y} f [] y ys is = absurd (Contains-nil y (subst (λ (l : List Y). Contains l y) (sym is) (Contains-first y ys)))
some_at_first f (x ∷ xs) y ys is = omega arith

some_pairs : (pasts own all : List Past) → AreAllPairs pasts own all → 0 < length pasts → 0 < length own → 0 < length all
some_pairs [] own all pairs first second = absurd (omega (arith, first))
some_pairs (past ∷ pasts) [] all pairs first second = absurd (omega (arith, second))
some_pairs (past ∷ pasts) (b ∷ own) all ([], back, same, row, more) first second = absurd row
some_pairs (past ∷ pasts) (b ∷ own) all (one ∷ front, back, same, row, more) first second =
    subst (λ (l : List Past). 0 < length l) (sym same) (omega arith)

pub next_some : (united : United) (part : Part) (next : United) → 0 < length united.pasts.items → IsTogetherWith united part next
    → 0 < length next.pasts.items
next_some united part next some is = some_pairs united.pasts.items is.own next.pasts.items is.pairs some
    (some_at_first kept_of is.own (past_of part.first part.found.items) (map kept_of part.others.items) is.own_is)

pub uniting_start : (low high : ℕ) (old new : Contents) (met : List Part) (first : United) → IsTakenFrom low high old new first
    → All IsPartShaped met → AllPairs AreBesideEachOther met → AreUniting met first met first
uniting_start low high old new met first taken parts apart = record {
  all = λ last all. all;
  shaped = All-from_contains IsShapedPast first.pasts.items (λ past past_in.
      let none : past.calls.items ≡ [] = rest_calls first.pasts.items taken.pairs taken.pasts past past_in in (
        subst (AllPairs (λ (a : Operation) (b : Operation). a.inv < b.inv)) (sym none) (AllPairs-nil (λ (a : Operation) (b : Operation). a.inv < b.inv)),
        subst NonePrecedesItself (sym none) (All-nil (λ (a : Operation). precedes a a ≡ false)),
      ));
  some = some_at_first kept_of first.pasts.items (at_rest taken.pairs) [] taken.pasts;
  parts = parts;
  apart = apart;
  beside = All-from_contains (λ (q : Part). AreBesidePasts q (map kept_of first.pasts.items)) met (λ q q_in.
      beside_from q (map kept_of first.pasts.items) (λ past other o p past_in other_in o_in p_in.
      let (one, one_in, same) = Contains-from_map kept_of first.pasts.items other other_in in
      absurd (Contains-nil p (subst (λ (l : List Operation). Contains l p) (rest_calls first.pasts.items taken.pairs taken.pasts one one_in)
      (subst (λ (k : KeptPast). Contains k.left p) (sym same) p_in)))));
}

-- ---- all pairs, row by row

zip_push : {X Y : Type 0} (R : X → Y → Type 0) (xs : List X) (ys : List Y) (x : X) (y : Y) → AllZip R xs ys → R x y
    → AllZip R (xs ++ x ∷ []) (ys ++ y ∷ [])
zip_push R [] [] x y zip is = (is, tt)
zip_push R [] (z ∷ ys) x y zip is = absurd zip
zip_push R (z ∷ xs) [] x y zip is = absurd zip
zip_push R (w ∷ xs) (z ∷ ys) x y zip is = (zip.0, zip_push R xs ys x y zip.1 is)

pub row_more : (past : Past) (others old new next : List Past) (i : ℕ) (other one : Past) → i < length others
    → other ≡ get_or others i other → AreOne past other one → next ≡ new ++ one ∷ [] → HasRow past (take i others) old new
    → HasRow past (take (i + 1) others) old next
row_more past others old new next i other one within here is same so = record {
  row = so.row ++ one ∷ [];
  is = same ∙ (ap (λ (l : List Past). l ++ one ∷ []) so.is ∙ append_assoc old so.row (one ∷ []));
  each = subst (λ (l : List Past). AllZip (AreOne past) l (so.row ++ one ∷ []))
      (sym (take_more others i other within ∙ ap (λ (x : Past). take i others ++ x ∷ []) (sym here)))
      (zip_push (AreOne past) (take i others) so.row other one so.each is);
}

rows_push : (pasts others all row : List Past) (past : Past) → AreAllPairs pasts others all → AllZip (AreOne past) others row
    → AreAllPairs (pasts ++ past ∷ []) others (all ++ row)
rows_push [] others all row past none each =
    (row, [], ap (λ (l : List Past). l ++ row) none ∙ sym (append-nil row), each, refl)
rows_push (first ∷ pasts) others all row past (front, back, same, zip, more) each = (
  front,
  back ++ row,
  ap (λ (l : List Past). l ++ row) same ∙ append_assoc front back row,
  zip,
  rows_push pasts others back row past more each,
)

pub rows_more : (pasts others all next : List Past) (i : ℕ) (past : Past) → i < length pasts → past ≡ get_or pasts i past
    → HasRow past others all next → AreAllPairs (take i pasts) others all → AreAllPairs (take (i + 1) pasts) others next
rows_more pasts others all next i past within here row so =
    subst (λ (l : List Past). AreAllPairs l others next)
    (sym (take_more pasts i past within ∙ ap (λ (x : Past). take i pasts ++ x ∷ []) (sym here)))
    (subst (λ (l : List Past). AreAllPairs (take i pasts ++ past ∷ []) others l) (sym row.is)
    (rows_push (take i pasts) others all row.row past so row.each))

-- ---- a part that is united with others

pub pasts_apart_at : (united : United) (part : Part) (own pasts others : List Past) → pasts ≡ united.pasts.items → others ≡ own
    → map kept_of own ≡ (kept_part part).pasts → AreBesidePasts part (map kept_of united.pasts.items)
    → All (λ past. All (λ other. All (λ o. All (λ p. o.inv ≢ p.inv) other.calls.items) past.calls.items) others) pasts
pasts_apart_at united part own pasts others same same_own own_is beside =
    subst (λ (l : List Past). All (λ (past : Past). All (λ (other : Past). All (λ (o : Operation). All (λ (p : Operation). o.inv ≢ p.inv) other.calls.items) past.calls.items) others) l)
    (sym same)
    (subst (λ (l : List Past). All (λ (past : Past). All (λ (other : Past). All (λ (o : Operation). All (λ (p : Operation). o.inv ≢ p.inv) other.calls.items) past.calls.items) l) united.pasts.items)
    (sym same_own) (pasts_apart united part own own_is beside))

pub own_shaped_at : (part : Part) (own others : List Past) → others ≡ own → map kept_of own ≡ (kept_part part).pasts → IsPartShaped part
    → AreShaped others
own_shaped_at part own others same own_is shaped = subst AreShaped (sym same) (own_shaped part own own_is shaped)

pub together_with : (united : United) (part : Part) (next : United) (own pasts others : List Past) (i : ℕ)
    → next.ranges.items ≡ united.ranges.items ++ take i part.ranges.items → length part.ranges.items ≤ i
    → map kept_of own ≡ (kept_part part).pasts → pasts ≡ united.pasts.items → others ≡ own → AreAllPairs pasts others next.pasts.items
    → IsTogetherWith united part next
together_with united part next own pasts others i ranges past_end own_is same same_own pairs = record {
  keys = λ key.
      ap (λ (l : List Range). covered l key) (ranges ∙ ap (λ (l : List Range). united.ranges.items ++ l) (take_all i part.ranges.items past_end))
      ∙ list_any-append (λ (range : Range). nat_le range.low key && nat_le key range.high) united.ranges.items part.ranges.items;
  own = own;
  own_is = own_is;
  pairs = subst (λ (l : List Past). AreAllPairs l own next.pasts.items) same
      (subst (λ (l : List Past). AreAllPairs pasts l next.pasts.items) same_own pairs);
}

-- ---- the keys at rest, as a part

rest_keys : (low high key : ℕ) → covered (record { low = low; high = high } ∷ []) key ≡ from_to low high key
rest_keys low high key = or_false (nat_le low key && nat_le key high)
  where
    or_false : (b : Bool) → (b || false) ≡ b
    or_false true = refl
    or_false false = refl

abbrev kept_with : Contents → List Operation → List Found → KeptPast
kept_with pairs left found = record { pairs = pairs; left = left; found = map found_at found }

pub taken_from : (low high : ℕ) (old new : Contents) (united : United) (past : Past) → ArePairsOf low high old new past.map
    → past.calls.items ≡ [] → past.found.items ≡ [] → united.ranges.items ≡ record { low = low; high = high } ∷ []
    → united.pasts.items ≡ past ∷ [] → IsTakenFrom low high old new united
taken_from low high old new united past taken no_calls no_found ranges pasts = record {
  pairs = past.map;
  taken = taken;
  keys = λ key. ap (λ (l : List Range). covered l key) ranges ∙ rest_keys low high key;
  pasts = ap (map kept_of) pasts
      ∙ (ap (λ (l : List Operation). kept_with past.map l past.found.items ∷ []) no_calls
      ∙ ap (λ (l : List Found). kept_with past.map [] l ∷ []) no_found);
}
