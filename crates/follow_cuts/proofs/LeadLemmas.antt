-- Lists of pasts that replace others.
use Rattle.follow_cuts.proofs.Common.{ℕ, List, [], ◌∷◌, ◌++◌, refl, sym, ◌∙◌, subst, ⊎_elim, append_assoc, append-nil, Contains, All-contains}
use Rattle.follow_cuts.proofs.Common.{Contains-append_left, Contains-append_right, Contains-append_cases, All-from_contains, Contains-first}
use Rattle.follow_cuts.proofs.Common.{Contains-later, Contains-nil, Contains-cases, Contains-at, place_of-Contains, Choice, Represent, KeptPast, IsPast}
use Rattle.follow_cuts.proofs.Common.{ArePasts, AreKeptAlike, OpenReadsBeganAfter, Setting, Stand, Leads, Becomes, AreEnough}
use Rattle.events.proofs.ZipLemmas.{zip_left, zip_right}
use Rattle.follow_laws.proofs.KeptAlikeLemmas.{alike_pasts_go}
use Rattle.follow_laws.proofs.DropLemmas.{pasts_in_any_order}

-- ---- kept alike

pub alike_itself : (a : KeptPast) → AreKeptAlike a a
alike_itself a = record { pairs = refl; left = λ inv. (λ h. h, λ h. h); found = λ f. (λ h. h, λ h. h) }

pub alike_through : (a b c : KeptPast) → AreKeptAlike a b → AreKeptAlike b c → AreKeptAlike a c
alike_through a b c first second = record {
  pairs = second.pairs ∙ first.pairs;
  left = λ inv. (λ h. (second.left inv).0 ((first.left inv).0 h), λ h. (first.left inv).1 ((second.left inv).1 h));
  found = λ f. (λ h. (second.found f).0 ((first.found f).0 h), λ h. (first.found f).1 ((second.found f).1 h));
}

-- ---- enough of them

pub enough_of_same : (kept some : List KeptPast) → ((a : KeptPast) → Contains kept a → Contains some a)
    → ((a : KeptPast) → Contains some a → Contains kept a) → AreEnough kept some
enough_of_same kept some forth back = record { there = λ a a_in. (a, forth a a_in, alike_itself a); back = back }

pub enough_all : (kept : List KeptPast) → AreEnough kept kept
enough_all kept = enough_of_same kept kept (λ a h. h) (λ a h. h)

pub enough_through : (kept some fewer : List KeptPast) → AreEnough kept some → AreEnough some fewer → AreEnough kept fewer
enough_through kept some fewer first second = record {
  there = λ a a_in.
      let (b, b_in, one) = first.there a a_in in
      let (c, c_in, two) = second.there b b_in in
      (c, c_in, alike_through a b c one two);
  back = λ c c_in. first.back c (second.back c c_in);
}

pub enough_both : (kept some others few : List KeptPast) → AreEnough kept some → AreEnough others few → AreEnough (kept ++ others) (some ++ few)
enough_both kept some others few first second = record {
  there = λ a a_in. ⊎_elim
      (λ l. let (b, b_in, alike) = first.there a l in (b, Contains-append_left some few b b_in, alike))
      (λ r. let (b, b_in, alike) = second.there a r in (b, Contains-append_right some few b b_in, alike))
      (Contains-append_cases kept others a a_in);
  back = λ b b_in. ⊎_elim
      (λ l. Contains-append_left kept others b (first.back b l))
      (λ r. Contains-append_right kept others b (second.back b r))
      (Contains-append_cases some few b b_in);
}

-- one more that is kept alike to one of them
pub enough_without : (kept : List KeptPast) (a b : KeptPast) → Contains kept b → AreKeptAlike a b → AreEnough (kept ++ a ∷ []) kept
enough_without kept a b b_in alike = record {
  there = λ c c_in. ⊎_elim
      (λ l. (c, l, alike_itself c))
      (λ r. ⊎_elim
      (λ same. (b, b_in, subst (λ (z : KeptPast). AreKeptAlike z b) same alike))
      (λ none. absurd (Contains-nil c none))
      (Contains-cases a [] c r))
      (Contains-append_cases kept (a ∷ []) c c_in);
  back = λ c c_in. Contains-append_left kept (a ∷ []) c c_in;
}

-- the order of two lists does not matter
pub enough_turned : (kept others : List KeptPast) → AreEnough (kept ++ others) (others ++ kept)
enough_turned kept others = enough_of_same (kept ++ others) (others ++ kept) (turned kept others) (turned others kept)
  where
    turned : (kept others : List KeptPast) (a : KeptPast) → Contains (kept ++ others) a → Contains (others ++ kept) a
    turned kept others a a_in = ⊎_elim
        (λ l. Contains-append_right others kept a l)
        (λ r. Contains-append_left others kept a r)
        (Contains-append_cases kept others a a_in)

-- ---- some that are enough represent the calls

module _ (moment : ℕ) (s : Setting) where
  abbrev StandFrom : List Choice → Type 0
  StandFrom pasts = Represent s.held s.place s.calls (record { keys = s.keys; pasts = pasts } ∷ s.rest)

  turn : (pasts others : List Choice) → ((p : Choice) → Contains pasts p → Contains others p) → ((p : Choice) → Contains others p → Contains pasts p)
      → StandFrom pasts → StandFrom others
  turn pasts others forth back stand = pasts_in_any_order s.held s.place s.calls s.keys pasts others s.rest forth back stand

  -- for each of some kept pasts one that is kept so
  record ArePicked (some : List KeptPast) (pasts picked : List Choice) : Type 0 where
    are : ArePasts s.keys s.calls some picked
    within : (p : Choice) → Contains picked p → Contains pasts p

  pick : (kept : List KeptPast) (pasts : List Choice) (some : List KeptPast) → ArePasts s.keys s.calls kept pasts
      → ((b : KeptPast) → Contains some b → Contains kept b) → (picked : List Choice) × ArePicked some pasts picked
  pick kept pasts [] are back = ([], record { are = tt; within = λ p h. absurd (Contains-nil p h) })
  pick kept pasts (b ∷ some) are back =
      let (i, at) = place_of-Contains kept b (back b (Contains-first b some)) in
      let (p, p_at, is) = zip_left (IsPast s.keys s.calls) kept pasts i b are at in
      let (picked, further) = pick kept pasts some are (λ c c_in. back c (Contains-later b some c c_in)) in (
        p ∷ picked,
        record {
          are = (is, further.are);
          within = λ q q_in. ⊎_elim
              (λ same. subst (Contains pasts) same (Contains-at pasts i p p_at))
              (λ later. further.within q later)
              (Contains-cases p picked q q_in);
        },
      )

  -- a past has a twin among some
  record HasTwin (picked : List Choice) (q : Choice) : Type 0 where
    kept : KeptPast
    other : KeptPast
    twin : Choice
    alike : AreKeptAlike kept other
    is : IsPast s.keys s.calls kept q
    twin_is : IsPast s.keys s.calls other twin
    twin_in : Contains picked twin

  drop_twins : (front picked : List Choice) → ((q : Choice) → Contains front q → HasTwin picked q) → StandFrom (front ++ picked) → StandFrom picked
  drop_twins [] picked twins stand = stand
  drop_twins (q ∷ front) picked twins stand =
      let t = twins q (Contains-first q front) in
      let here : Contains (front ++ picked) t.twin = Contains-append_right front picked t.twin t.twin_in in
      let first : StandFrom (q ∷ t.twin ∷ (front ++ picked)) =
      turn (q ∷ (front ++ picked)) (q ∷ t.twin ∷ (front ++ picked))
      (λ p p_in. ⊎_elim
      (λ same. subst (Contains (q ∷ t.twin ∷ (front ++ picked))) same (Contains-first q (t.twin ∷ (front ++ picked))))
      (λ later. Contains-later q (t.twin ∷ (front ++ picked)) p (Contains-later t.twin (front ++ picked) p later))
      (Contains-cases q (front ++ picked) p p_in))
      (λ p p_in. ⊎_elim
      (λ same. subst (Contains (q ∷ (front ++ picked))) same (Contains-first q (front ++ picked)))
      (λ later. Contains-later q (front ++ picked) p (without_twin t.twin (front ++ picked) here p later))
      (Contains-cases q (t.twin ∷ (front ++ picked)) p p_in))
      stand in
      let second : StandFrom (t.twin ∷ (front ++ picked)) =
      alike_pasts_go s.held s.place s.calls s.keys t.kept t.other q t.twin (front ++ picked) s.rest t.alike t.is t.twin_is first in
      drop_twins front picked (λ p p_in. twins p (Contains-later q front p p_in))
      (turn (t.twin ∷ (front ++ picked)) (front ++ picked) (λ p p_in. without_twin t.twin (front ++ picked) here p p_in)
      (λ p p_in. Contains-later t.twin (front ++ picked) p p_in) second)
    where
      without_twin : (twin : Choice) (all : List Choice) → Contains all twin → (p : Choice) → Contains (twin ∷ all) p → Contains all p
      without_twin twin all here p p_in = ⊎_elim (λ same. subst (Contains all) same here) (λ later. later) (Contains-cases twin all p p_in)

  enough_stand : (kept some : List KeptPast) → AreEnough kept some → Stand moment s kept → Stand moment s some
  enough_stand kept some enough (pasts, are, stand, late) =
      let (picked, p) = pick kept pasts some are enough.back in
      let all : StandFrom (pasts ++ picked) =
      turn pasts (pasts ++ picked) (λ q q_in. Contains-append_left pasts picked q q_in)
      (λ q q_in. ⊎_elim (λ l. l) (λ r. p.within q r) (Contains-append_cases pasts picked q q_in)) stand in (
        picked,
        p.are,
        drop_twins pasts picked (λ q q_in. twin_of picked p.are q q_in) all,
        All-from_contains (OpenReadsBeganAfter s.keys moment s.calls) some (λ b b_in.
            All-contains (OpenReadsBeganAfter s.keys moment s.calls) kept b late (enough.back b b_in)),
      )
    where
      twin_of : (picked : List Choice) → ArePasts s.keys s.calls some picked → (q : Choice) → Contains pasts q → HasTwin picked q
      twin_of picked picked_are q q_in =
          let (i, at) = place_of-Contains pasts q q_in in
          let (a, a_at, is) = zip_right (IsPast s.keys s.calls) kept pasts i q are at in
          let (b, b_in, alike) = enough.there a (Contains-at kept i a a_at) in
          let (j, b_at) = place_of-Contains some b b_in in
          let (t, t_at, t_is) = zip_left (IsPast s.keys s.calls) some picked j b picked_are b_at in
          record { kept = a; other = b; twin = t; alike = alike; is = is; twin_is = t_is; twin_in = Contains-at picked j t t_at }

-- ---- what becomes of lists

module _ (moment : ℕ) where
  pub enough_leads : (kept some : List KeptPast) → AreEnough kept some → Leads moment kept some
  enough_leads kept some enough s is stand = enough_stand moment s kept some enough stand

  pub enough_become : (kept some : List KeptPast) → AreEnough kept some → Becomes moment kept some
  enough_become kept some enough others = enough_leads (kept ++ others) (some ++ others) (enough_both kept some others others enough (enough_all others))

  pub becomes_itself : (kept : List KeptPast) → Becomes moment kept kept
  becomes_itself kept others s is stand = stand

  pub becomes_then : (kept nexts later : List KeptPast) → Becomes moment kept nexts → Becomes moment nexts later → Becomes moment kept later
  becomes_then kept nexts later first second others s is stand = second others s is (first others s is stand)

  pub becomes_leads : (kept nexts : List KeptPast) → Becomes moment kept nexts → Leads moment kept nexts
  becomes_leads kept nexts becomes s is stand =
      subst (Stand moment s) (append-nil nexts) (becomes [] s is (subst (Stand moment s) (sym (append-nil kept)) stand))

  becomes_before : (kept nexts others : List KeptPast) → Becomes moment kept nexts → Becomes moment (kept ++ others) (nexts ++ others)
  becomes_before kept nexts others becomes rest s is stand =
      subst (Stand moment s) (sym (append_assoc nexts others rest))
      (becomes (others ++ rest) s is (subst (Stand moment s) (append_assoc kept others rest) stand))

  pub becomes_both : (kept nexts others more : List KeptPast) → Becomes moment kept nexts → Becomes moment others more
      → Becomes moment (kept ++ others) (nexts ++ more)
  becomes_both kept nexts others more first second =
      becomes_then (kept ++ others) (nexts ++ others) (nexts ++ more) (becomes_before kept nexts others first)
      (becomes_then (nexts ++ others) (others ++ nexts) (nexts ++ more) (enough_become (nexts ++ others) (others ++ nexts) (enough_turned nexts others))
      (becomes_then (others ++ nexts) (more ++ nexts) (nexts ++ more) (becomes_before others more nexts second)
      (enough_become (more ++ nexts) (nexts ++ more) (enough_turned more nexts))))
