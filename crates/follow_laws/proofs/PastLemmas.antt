-- The pasts of a part, each with its choice: in another order (`pasts_in_any_order_are_kept`), of
-- the part's keys (`kept_pasts_are_within`), and what they keep of a pending call
-- (`open_changes_are_kept`). `zip_forth`, `zip_back`: the partner of an item.
use Rattle.follow_laws.proofs.Common.{◌≡◌, ℕ, true, List, [], ◌∷◌, ◌++◌, map, Option, inl, inr, refl, sym, ◌∙◌, subst, ⊎_elim, ◌≢◌, Contains, AllZip}
use Rattle.follow_laws.proofs.Common.{All-contains, Contains-append_left, Contains-append_right, Contains-append_cases, All-from_contains}
use Rattle.follow_laws.proofs.Common.{Contains-nil, Contains-first, Contains-later, Contains-cases, Operation, value_at, KeyedCall, keyed, Choice}
use Rattle.follow_laws.proofs.Common.{Keys, Part, Represent, KeptPast, IsPast, ArePasts, AreKeptAlike, IsLeftOrFound, IsOwn, PastsInAnyOrderAreKept}
use Rattle.follow_laws.proofs.Common.{IsWithinKeys, KeptPastsAreWithin, IsKnownIn, OpenChangesAreKept}
use Rattle.follow_laws.proofs.EventLemmas.{not_both}
use Rattle.follow_laws.proofs.DropLemmas.{pasts_in_any_order}
use Rattle.follow_laws.proofs.KeptAlikeLemmas.{alike_pasts_go}
use Rattle.follow_laws.proofs.KeptPartLemmas.{IsKeptFirst, first_of, from_first}

-- ---- what goes with an item

pub zip_forth : {X Y : Type 0} (R : X → Y → Type 0) (xs : List X) (ys : List Y) → AllZip R xs ys → (x : X) → Contains xs x
    → (y : Y) × Contains ys y × R x y
zip_forth R [] ys zip x x_in = absurd (Contains-nil x x_in)
zip_forth R (z ∷ xs) [] zip x x_in = absurd zip
zip_forth {X} {Y} R (z ∷ xs) (y ∷ ys) zip x x_in = ⊎_elim
    (λ same. (y, Contains-first y ys, subst (λ (v : X). R v y) same zip.0))
    (λ later. let (other, other_in, is) = zip_forth R xs ys zip.1 x later in (other, Contains-later y ys other other_in, is))
    (Contains-cases z xs x x_in)

pub zip_back : {X Y : Type 0} (R : X → Y → Type 0) (xs : List X) (ys : List Y) → AllZip R xs ys → (y : Y) → Contains ys y
    → (x : X) × Contains xs x × R x y
zip_back R [] [] zip y y_in = absurd (Contains-nil y y_in)
zip_back R [] (z ∷ ys) zip y y_in = absurd zip
zip_back R (x ∷ xs) [] zip y y_in = absurd zip
zip_back {X} {Y} R (x ∷ xs) (z ∷ ys) zip y y_in = ⊎_elim
    (λ same. (x, Contains-first x xs, subst (λ (v : Y). R x v) same zip.0))
    (λ later. let (other, other_in, is) = zip_back R xs ys zip.1 y later in (other, Contains-later x xs other other_in, is))
    (Contains-cases z ys y y_in)

-- what goes with each of some items
record AreChosen {X Y : Type 0} (R : X → Y → Type 0) (ys : List Y) (some : List X) : Type 0 where
  chosen : List Y
  each : AllZip R some chosen
  within : (y : Y) → Contains chosen y → Contains ys y

choose : {X Y : Type 0} (R : X → Y → Type 0) (xs : List X) (ys : List Y) → AllZip R xs ys → (some : List X)
    → ((x : X) → Contains some x → Contains xs x) → AreChosen R ys some
choose R xs ys zip [] known = record { chosen = []; each = tt; within = λ y y_in. absurd (Contains-nil y y_in) }
choose R xs ys zip (x ∷ some) known =
    let (y, y_in, is) = zip_forth R xs ys zip x (known x (Contains-first x some)) in
    let rest = choose R xs ys zip some (λ z z_in. known z (Contains-later x some z z_in)) in record {
      chosen = y ∷ rest.chosen;
      each = (is, rest.each);
      within = λ z z_in. ⊎_elim (λ same. subst (Contains ys) same y_in) (λ later. rest.within z later) (Contains-cases y rest.chosen z z_in);
    }

-- ---- pasts in another order

alike_itself : (past : KeptPast) → AreKeptAlike past past
alike_itself past = record { pairs = refl; left = λ inv. (λ h. h, λ h. h); found = λ f. (λ h. h, λ h. h) }

module _ (held : ℕ → Option ℕ) (place : ℕ) (calls : List KeyedCall) (keys : Keys) (rest : List Part) (others : List KeptPast) (news : List Choice)
    (news_are : ArePasts keys calls others news) where
  -- choices may be dropped if for each of them there is one like it
  old_go : (kept : List KeptPast) (pasts : List Choice) → ArePasts keys calls kept pasts
      → ((past : KeptPast) → Contains kept past → Contains others past)
      → Represent held place calls (record { keys = keys; pasts = pasts ++ news } ∷ rest)
      → Represent held place calls (record { keys = keys; pasts = news } ∷ rest)
  old_go [] [] are known stand = stand
  old_go [] (w ∷ pasts) are known stand = absurd are
  old_go (one ∷ kept) [] are known stand = absurd are
  old_go (one ∷ kept) (w ∷ pasts) are known stand =
      let (v, v_in, v_is) = zip_forth (IsPast keys calls) others news news_are one (known one (Contains-first one kept)) in
      let there = Contains-append_right pasts news v v_in in
      old_go kept pasts are.1 (λ past past_in. known past (Contains-later one kept past past_in))
      (pasts_in_any_order held place calls keys (v ∷ pasts ++ news) (pasts ++ news) rest
      (λ x x_in. ⊎_elim
      (λ same. subst (Contains (pasts ++ news)) same there)
      (λ later. later)
      (Contains-cases v (pasts ++ news) x x_in))
      (λ x x_in. Contains-later v (pasts ++ news) x x_in)
      (alike_pasts_go held place calls keys one one w v (pasts ++ news) rest (alike_itself one) are.0 v_is
      (pasts_in_any_order held place calls keys (w ∷ pasts ++ news) (w ∷ v ∷ pasts ++ news) rest
      (λ x x_in. ⊎_elim
      (λ same. subst (Contains (w ∷ v ∷ pasts ++ news)) same (Contains-first w (v ∷ pasts ++ news)))
      (λ later. Contains-later w (v ∷ pasts ++ news) x (Contains-later v (pasts ++ news) x later))
      (Contains-cases w (pasts ++ news) x x_in))
      (λ x x_in. ⊎_elim
      (λ same. subst (Contains (w ∷ pasts ++ news)) same (Contains-first w (pasts ++ news)))
      (λ further. ⊎_elim
      (λ same. Contains-later w (pasts ++ news) x (subst (Contains (pasts ++ news)) same there))
      (λ later. Contains-later w (pasts ++ news) x later)
      (Contains-cases v (pasts ++ news) x further))
      (Contains-cases w (v ∷ pasts ++ news) x x_in))
      stand)))

pub pasts_in_any_order_are_kept : PastsInAnyOrderAreKept
pasts_in_any_order_are_kept start place calls keys pasts others rest forth back are =
    from_first start place calls (record { keys = keys; pasts = others }) rest (record {
      are_calls = first.are_calls;
      pasts = news.chosen;
      others = first.others;
      are_pasts = news.each;
      own = All-from_contains (IsOwn keys calls) others (λ past past_in.
          All-contains (IsOwn keys calls) pasts past first.own (back past past_in));
      are_others = first.are_others;
      stand = old_go (value_at start) place (map keyed calls) keys first.others others news.chosen news.each pasts first.pasts first.are_pasts forth
          (pasts_in_any_order (value_at start) place (map keyed calls) keys first.pasts (first.pasts ++ news.chosen) first.others
          (λ x x_in. Contains-append_left first.pasts news.chosen x x_in)
          (λ x x_in. ⊎_elim (λ old. old) (λ new. news.within x new) (Contains-append_cases first.pasts news.chosen x x_in)) first.stand);
    })
  where
    first : IsKeptFirst start place calls (record { keys = keys; pasts = pasts }) rest
    first = first_of start place calls (record { keys = keys; pasts = pasts }) rest are

    news : AreChosen (IsPast keys (map keyed calls)) first.pasts others
    news = choose (IsPast keys (map keyed calls)) pasts first.pasts first.are_pasts others back

-- ---- what is kept of a past

pub kept_pasts_are_within : KeptPastsAreWithin
kept_pasts_are_within start place calls part rest are =
    let first = first_of start place calls part rest are in
    All-from_contains (IsWithinKeys part.keys) part.pasts (λ past past_in.
    let (choice, choice_in, is) = zip_forth (IsPast part.keys (map keyed calls)) part.pasts first.pasts first.are_pasts past past_in in record {
      rising = is.alike.rises;
      nothing = is.alike.nothing;
      left = is.within;
      found = λ f f_in. (is.found.right f f_in).0;
    })

-- if a call is not left, the past has what it found
known_in : (keys : Keys) (calls : List Operation) (past : KeptPast) (choice : Choice) (o : Operation) → IsPast keys (map keyed calls) past choice
    → IsLeftOrFound past o → IsKnownIn o past
known_in keys calls past choice o is (inl left) = inl left
known_in keys calls past choice o is (inr (f, f_in, named, at)) =
    let found = is.found.right f f_in in
    inr (
      f,
      f_in,
      named,
      at,
      All-from_contains (λ p. p.inv ≢ o.inv) past.left (λ p p_in same.
          not_both (choice.taken p.inv f.key) (subst (λ (n : ℕ). choice.taken n f.key ≡ true) (named ∙ sym same) found.1)
          (is.untaken p f.key p_in found.0)),
    )

pub open_changes_are_kept : OpenChangesAreKept
open_changes_are_kept start place calls part rest o o_in pending changes here are =
    let first = first_of start place calls part rest are in
    All-from_contains (IsKnownIn o) part.pasts (λ past past_in.
    let (choice, choice_in, is) = zip_forth (IsPast part.keys (map keyed calls)) part.pasts first.pasts first.are_pasts past past_in in
    known_in part.keys calls past choice o is ((All-contains (IsOwn part.keys calls) part.pasts past first.own past_in).whole o o_in pending changes here))
