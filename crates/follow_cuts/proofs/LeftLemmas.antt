-- The calls that are left, by their places, and after one more is taken.
use Rattle.follow_cuts.proofs.Common.{◌≡◌, ◌≢◌, ℕ, zero, suc, ◌<◌, Bool, true, false, not, ◌==◌, List, [], ◌∷◌, length, map, get_or, set, Option, Some}
use Rattle.follow_cuts.proofs.Common.{None, inl, inr, refl, sym, ap, ◌∙◌, subst, ⊎_elim, arith, eq-eqb, ◌⊎◌, All, AllPairs, Contains, slice_get}
use Rattle.follow_cuts.proofs.Common.{cases_eq, false≢true, false_from_ne_true, ne_eqb, same_Some, none-some, All-contains, Contains-append_left}
use Rattle.follow_cuts.proofs.Common.{Contains-append_right, Contains-append_cases, All-at, All-from_contains, AllPairs-head, AllPairs-tail}
use Rattle.follow_cuts.proofs.Common.{Contains-first, Contains-later, Contains-nil, Contains-cases, Contains-at, Contains-filter, Contains-from_filter}
use Rattle.follow_cuts.proofs.Common.{place_of-Contains, filter_all, Operation, Response, low_key, Contents, without_call, FoundAt, KeptPast}
use Rattle.follow_cuts.proofs.Common.{IsPastAfter, found_by, IsMadeOf, found_at, left_of, IsLeftAt, kept_at, IsAfterTaking, Position}
use Rattle.std.proofs.lemmas.Bool.{eqb-true}
use Rattle.call_effects.proofs.SetLemmas.{same_call}

pub left_there : (calls : List Operation) (taken : List Bool) (o : Operation) → Contains (left_of calls taken) o
    → (n : ℕ) × IsLeftAt calls taken n o
left_there [] taken o h = absurd (Contains-nil o h)
left_there (c ∷ calls) [] o h = let (n, at) = place_of-Contains (c ∷ calls) o h in (n, record { here = at; free = refl })
left_there (c ∷ calls) (true ∷ taken) o h =
    let (n, is) = left_there calls taken o h in (suc n, record { here = is.here; free = is.free })
left_there (c ∷ calls) (false ∷ taken) o h = ⊎_elim
    (λ same. (0, record { here = ap Some same; free = refl }))
    (λ later. let (n, is) = left_there calls taken o later in (suc n, record { here = is.here; free = is.free }))
    (Contains-cases c (left_of calls taken) o h)

pub left_in : (calls : List Operation) (taken : List Bool) (n : ℕ) (o : Operation) → slice_get calls n ≡ Some o → get_or taken n false ≡ false
    → Contains (left_of calls taken) o
left_in [] taken n o here free = absurd (none-some o here)
left_in (c ∷ calls) [] n o here free = Contains-at (c ∷ calls) n o here
left_in (c ∷ calls) (true ∷ taken) zero o here free = absurd (false≢true (sym free))
left_in (c ∷ calls) (true ∷ taken) (suc n) o here free = left_in calls taken n o here free
left_in (c ∷ calls) (false ∷ taken) zero o here free =
    subst (Contains (c ∷ left_of calls taken)) (same_Some c o here) (Contains-first c (left_of calls taken))
left_in (c ∷ calls) (false ∷ taken) (suc n) o here free = Contains-later c (left_of calls taken) o (left_in calls taken n o here free)

pub left_in_calls : (calls : List Operation) (taken : List Bool) (o : Operation) → Contains (left_of calls taken) o → Contains calls o
left_in_calls calls taken o h = let (n, is) = left_there calls taken o h in Contains-at calls n o is.here

-- calls of other names stay
others_stay : (inv : ℕ) (left : List Operation) → All (λ q. q.inv ≢ inv) left → without_call inv left ≡ left
others_stay inv left apart = filter_all (λ q. not (q.inv == inv)) left
    (All-from_contains (λ (q : Operation). not (q.inv == inv) ≡ true) left (λ q q_in.
    let none : (q.inv == inv) ≡ false = ne_eqb q.inv inv (All-contains (λ (q : Operation). q.inv ≢ inv) left q apart q_in) in rw none refl))

pub left_after : (calls : List Operation) (taken : List Bool) (n : ℕ) (o : Operation) → AllPairs (λ a b. a.inv < b.inv) calls
    → n < length taken → slice_get calls n ≡ Some o → get_or taken n false ≡ false
    → left_of calls (set taken n true) ≡ without_call o.inv (left_of calls taken)
left_after [] taken n o rising within here free = absurd (none-some o here)
left_after (c ∷ calls) [] n o rising within here free = absurd (omega arith)
left_after (c ∷ calls) (true ∷ taken) zero o rising within here free = absurd (false≢true (sym free))
left_after (c ∷ calls) (false ∷ taken) zero o rising within here free =
    let gone : (c.inv == o.inv) ≡ true = eq-eqb c.inv o.inv (ap (λ (p : Operation). p.inv) (same_Some c o here)) in
    let later : All (λ (q : Operation). q.inv ≢ o.inv) (left_of calls taken) =
    All-from_contains (λ (q : Operation). q.inv ≢ o.inv) (left_of calls taken) (λ q q_in.
    let less : c.inv < q.inv =
    All-contains (λ (b : Operation). c.inv < b.inv) calls q (AllPairs-head (λ (a b : Operation). a.inv < b.inv) c calls rising)
    (left_in_calls calls taken q q_in) in
    let one : c.inv ≡ o.inv = ap (λ (p : Operation). p.inv) (same_Some c o here) in omega (arith, less, one)) in
    rw gone (sym (others_stay o.inv (left_of calls taken) later))
left_after (c ∷ calls) (true ∷ taken) (suc n) o rising within here free =
    left_after calls taken n o (AllPairs-tail (λ (a b : Operation). a.inv < b.inv) c calls rising) (omega arith) here free
left_after (c ∷ calls) (false ∷ taken) (suc n) o rising within here free =
    let less : c.inv < o.inv =
    All-at (λ (b : Operation). c.inv < b.inv) calls n o (AllPairs-head (λ (a b : Operation). a.inv < b.inv) c calls rising) here in
    let stays : (c.inv == o.inv) ≡ false = ne_eqb c.inv o.inv (λ (same : c.inv ≡ o.inv). omega (arith, same, less)) in
    rw stays (ap (λ (l : List Operation). c ∷ l)
    (left_after calls taken n o (AllPairs-tail (λ (a b : Operation). a.inv < b.inv) c calls rising) (omega arith) here free))

-- the past after the call at a place is taken
pub past_after : (calls : List Operation) (n : ℕ) (o : Operation) (old new : Position) → AllPairs (λ a b. a.inv < b.inv) calls
    → n < length old.taken.items → slice_get calls n ≡ Some o → get_or old.taken.items n false ≡ false → IsAfterTaking n o old new
    → IsPastAfter (kept_at calls old) o (kept_at calls new)
past_after calls n o old new rising within here free after = record {
  pairs = after.pairs;
  left = ap (left_of calls) after.taken ∙ left_after calls old.taken.items n o rising within here free;
  found = λ f. (
    λ h. Contains-append_cases (map found_at old.found.items) (found_by old.map o o.response) f
        (subst (λ (l : List FoundAt). Contains l f) after.found h),
    λ h. subst (λ (l : List FoundAt). Contains l f) (sym after.found) (⊎_elim
        (λ l. Contains-append_left (map found_at old.found.items) (found_by old.map o o.response) f l)
        (λ r. Contains-append_right (map found_at old.found.items) (found_by old.map o o.response) f r)
        h),
  );
}

-- ---- what a past is made of

-- what was found was found before, or by a pending call that was left
abbrev WasFound : KeptPast → FoundAt → Type 0
WasFound past f = Contains past.found f ⊎ ((o : Operation) × Contains past.left o × (o.inv ≡ f.inv) × (o.response ≡ None))

pub made_itself : (past : KeptPast) → IsMadeOf past past
made_itself past = record {
  left = λ o h. h;
  found = All-from_contains (WasFound past) past.found (λ f h. inl h);
  stay = λ f h. h;
  whole = λ o o_in pending. inl o_in;
}

by_pending : (past : KeptPast) (pairs : Contents) (o : Operation) (r : Option Response) (f : FoundAt) → o.response ≡ r → Contains past.left o
    → Contains (found_by pairs o r) f → WasFound past f
by_pending past pairs o None f is is_left h = ⊎_elim
    (λ same. inr (o, is_left, ap (λ (g : FoundAt). g.inv) same, is))
    (λ none. absurd (Contains-nil f none))
    (Contains-cases _ [] f h)
by_pending past pairs o (Some response) f is is_left h = absurd (Contains-nil f h)

-- a pending call that is taken is found at its key
found_now : (pairs : Contents) (o : Operation) (r : Option Response) → r ≡ None
    → (f : FoundAt) × Contains (found_by pairs o r) f × (f.inv ≡ o.inv) × (f.key ≡ low_key o.call)
found_now pairs o None none = (_, Contains-first _ [], refl, refl)
found_now pairs o (Some response) none = absurd (none-some response (sym none))

pub made_after : (past kept next : KeptPast) (o : Operation) → AllPairs (λ a b. a.inv < b.inv) past.left → IsMadeOf past kept
    → Contains kept.left o → IsPastAfter kept o next → IsMadeOf past next
made_after past kept next o rising made is_left after = record {
  left = λ p h.
      let was = Contains-from_filter (λ (q : Operation). not (q.inv == o.inv)) kept.left p
      (subst (λ (l : List Operation). Contains l p) after.left h) in made.left p was.0;
  found = All-from_contains (WasFound past) next.found (λ f h. ⊎_elim
      (λ old. All-contains (WasFound past) kept.found f made.found old)
      (λ new. by_pending past kept.pairs o o.response f refl (made.left o is_left) new)
      ((after.found f).0 h));
  stay = λ f h. (after.found f).1 (inl (made.stay f h));
  whole = λ p p_in pending. ⊎_elim
      (λ left. ⊎_elim
      (λ same.
      let one : p ≡ o = same_call past.left p o rising p_in (made.left o is_left) same in
      let (f, f_in, named, at) = found_now kept.pairs o o.response (subst (λ (q : Operation). q.response ≡ None) one pending) in
      inr (
        f,
        (after.found f).1 (inr f_in),
        named ∙ sym same,
        subst (λ (q : Operation). f.key ≡ low_key q.call) (sym one) at,
      ))
      (λ other. inl (subst (λ (l : List Operation). Contains l p) (sym after.left)
      (Contains-filter (λ (q : Operation). not (q.inv == o.inv)) kept.left p left
      (ap not (false_from_ne_true (p.inv == o.inv) (λ equal. other (eqb-true p.inv o.inv equal)))))))
      (cases_eq p.inv o.inv))
      (λ some. let (f, f_in, named, at) = some in inr (f, (after.found f).1 (inl f_in), named, at))
      (made.whole p p_in pending);
}
