-- A call may go before another one of its kind.
use Rattle.search_choices.proofs.Common.{◌≡◌, ℕ, ◌<◌, true, false, List, Option, Some, None, [], ◌∷◌, ◌++◌, refl, sym, ap, ◌∙◌, subst, append_assoc}
use Rattle.search_choices.proofs.Common.{⊎_elim, ◌≢◌, arith, length, slice_get, All, AllPairs, Contains, false_from_ne_true, All-contains, All-append}
use Rattle.search_choices.proofs.Common.{Contains-append_left, Contains-append_right, Contains-append_cases, Contains-later, Operation, Response, precedes}
use Rattle.search_choices.proofs.Common.{is_before, Contents, IsLegalCall, IsLegalReply, IsLegal, after_reply, after_call, after_calls, calls_at}
use Rattle.search_choices.proofs.Common.{IsCompletedAt, IsLegalOrder, IsOrder, KeepsPrecedence, All-front, All-back, All-from_contains, Contains-split}
use Rattle.search_choices.proofs.Common.{Contains-around, AllPairs-back, Contains-from_filter_map, IsLegal-append, IsLegal-front}
use Rattle.search_choices.proofs.Common.{IsLegal-back, calls_at-append, beside, middle, All-around, All-before, All-here, All-behind, AllPairs-before}
use Rattle.search_choices.proofs.Common.{AllPairs-behind, AllPairs-around, AllPairs-beside, pairs_after, HasOrderAfter, IsNext, ltb-false, All-tail}
use Rattle.search_choices.proofs.Common.{Contains-first, Bool, inl, inr, ◌⊎◌, has_number, has_number-Contains, has_number-from_Contains, false≢true}
use Rattle.search_choices.proofs.Common.{same_Some, slice_get_within, Contains-push, Contains-push_cases, length-append, AreChoices}
use Rattle.search_choices.proofs.ReadLemmas.{not_twice}
use Rattle.events.proofs.Lists.{AllPairs-tail}
use Rattle.std.proofs.lemmas.List.Elements.{All-weaker}
use Rattle.std.proofs.lemmas.Bool.{le-ltb}
use Rattle.map_object.proofs.TellLemmas.{after_reply-answer}
use Rattle.search_choices.specs.Twins.{AnswersFirst, IsTwin, TwinsGoFirst, HasTwin, AreFirstTwins}

-- two elements of a list change places
module _ {X : Type 0} (path front : List X) (x y : X) (back : List X) where
  AllPairs-swap : (R : X → X → Type 0) → AllPairs R (path ++ y ∷ (front ++ x ∷ back)) → All (λ z. R z y) front → All (R x) (front ++ y ∷ back)
      → AllPairs R (path ++ x ∷ (front ++ y ∷ back))
  AllPairs-swap R h last first =
      let without = subst (AllPairs R) (sym (append_assoc path front (x ∷ back))) (AllPairs-beside R path y (front ++ x ∷ back) h) in
      let placed = AllPairs-around R (path ++ front) y back (AllPairs-beside R (path ++ front) x back without)
      (All-append (λ z. R z y) path front (AllPairs-before R path y (front ++ x ∷ back) h) last)
      (All-behind (R y) front x back (AllPairs-behind R path y (front ++ x ∷ back) h)) in
      AllPairs-around R path x (front ++ y ∷ back) (subst (AllPairs R) (append_assoc path front (y ∷ back)) placed)
      (All-front (λ z. R z x) path front (AllPairs-before R (path ++ front) x back without)) first

  Contains-swap : (z : X) → Contains (path ++ y ∷ (front ++ x ∷ back)) z → Contains (path ++ x ∷ (front ++ y ∷ back)) z
  Contains-swap z h = ⊎_elim
      (λ in_path. Contains-append_left path (x ∷ (front ++ y ∷ back)) z in_path)
      (λ later. ⊎_elim
      (λ is. behind (subst (Contains (front ++ y ∷ back)) is (middle front y back)))
      (λ others. ⊎_elim
      (λ is. subst (Contains (path ++ x ∷ (front ++ y ∷ back))) is (middle path x (front ++ y ∷ back)))
      (λ more. behind (beside front y back z more))
      (Contains-around front x back z others))
      (Contains-around [] y (front ++ x ∷ back) z later))
      (Contains-append_cases path (y ∷ (front ++ x ∷ back)) z h)
    where
      behind : Contains (front ++ y ∷ back) z → Contains (path ++ x ∷ (front ++ y ∷ back)) z
      behind k = Contains-append_right path (x ∷ (front ++ y ∷ back)) z (Contains-later x (front ++ y ∷ back) z k)

-- what a twin does, and when
module _ (a b : Operation) (twin : IsTwin a b) where
  same_effect : (m : Contents) → after_call m a.call a.response ≡ after_call m b.call b.response
  same_effect m = subst (λ c. after_call m c a.response ≡ after_call m b.call b.response) (sym twin.call_is) (go a.response b.response twin.answers)
    where
      go : (r s : Option Response) → AnswersFirst r s → after_call m b.call r ≡ after_call m b.call s
      go None None h = refl
      go None (Some s) h = absurd h
      go (Some r) None h = after_reply-answer m b.call r.reply h
      go (Some r) (Some s) h = ap (after_reply m b.call) h.1

  legal_later : (m : Contents) → IsLegalCall m a.call a.response → IsLegalCall m b.call b.response
  legal_later m legal = go a.response b.response twin.answers (subst (λ c. IsLegalCall m c a.response) twin.call_is legal)
    where
      go : (r s : Option Response) → AnswersFirst r s → IsLegalCall m b.call r → IsLegalCall m b.call s
      go None None h is = tt
      go None (Some s) h is = absurd h
      go (Some r) None h is = tt
      go (Some r) (Some s) h is = subst (IsLegalReply m b.call) h.1 is

  not_before : (inv : ℕ) → is_before a.response inv ≡ false → is_before b.response inv ≡ false
  not_before inv = go a.response b.response twin.answers
    where
      go : (r s : Option Response) → AnswersFirst r s → is_before r inv ≡ false → is_before s inv ≡ false
      go None None h is = refl
      go None (Some s) h is = absurd h
      go (Some r) None h is = refl
      go (Some r) (Some s) h is = le-ltb s.res inv (omega (arith, ltb-false r.res inv is, h.0))

  not_pending : (response : Response) → b.response ≡ Some response → a.response ≡ None → ⊥
  not_pending response is none = rw (none, is) at twin.answers

module _ (start : Contents) (calls : List Operation) (path : List ℕ) (n k : ℕ) (a b : Operation) (here : slice_get calls n ≡ Some a)
    (there : slice_get calls k ≡ Some b) (next : IsNext start calls path n) (twin : IsTwin a b) where
  -- none of the calls that are left precedes the first one
  free : (rest : List ℕ) → ((i : ℕ) → Contains rest i → Contains path i → ⊥) → All (λ c. precedes c a ≡ false) (calls_at calls rest)
  free rest left = All-from_contains (λ c. precedes c a ≡ false) (calls_at calls rest) (λ c is. false_from_ne_true (precedes c a) (later c is))
    where
      later : (c : Operation) → Contains (calls_at calls rest) c → precedes c a ≡ true → ⊥
      later c is before =
          let (i, in_rest, at) = Contains-from_filter_map (slice_get calls) rest c is in
          left i in_rest (next.preceded i (c, a, at, here, before))

  -- the first one is legal where the path leads
  legal_here : IsLegalCall (pairs_after start calls path) a.call a.response
  legal_here = subst (λ c. IsLegalCall (pairs_after start calls path) c.call c.response) (same_Some next.call a (sym next.here ∙ here)) next.legal

  -- an order that has the first one after the other
  module _ (front back : List ℕ) (order : IsOrder start calls (path ++ k ∷ (front ++ n ∷ back))) where
    abbrev old : List ℕ
    old = path ++ k ∷ (front ++ n ∷ back)

    abbrev new : List ℕ
    new = path ++ n ∷ (front ++ k ∷ back)

    legal_order : IsLegalOrder start calls old
    legal_order = order.legal_order

    -- the calls of both
    parts : (i j : ℕ) (x y : Operation) → slice_get calls i ≡ Some x → slice_get calls j ≡ Some y
        → calls_at calls (path ++ i ∷ (front ++ j ∷ back)) ≡ calls_at calls path ++ x ∷ (calls_at calls front ++ y ∷ calls_at calls back)
    parts i j x y x_at y_at = calls_at-append calls path (i ∷ (front ++ j ∷ back))
        ∙ ap (λ xs. calls_at calls path ++ xs) (rw x_at (ap (λ xs. x ∷ xs) (calls_at-append calls front (j ∷ back)
        ∙ ap (λ xs. calls_at calls front ++ xs) (rw y_at refl))))

    -- no call of the rest is on the path
    left : (i : ℕ) → Contains (front ++ k ∷ back) i → Contains path i → ⊥
    left i in_rest in_path = not_twice path (k ∷ (front ++ n ∷ back)) legal_order.distinct i in_path (⊎_elim
        (λ is. subst (Contains (k ∷ (front ++ n ∷ back))) is (Contains-first k (front ++ n ∷ back)))
        (λ others. Contains-later k (front ++ n ∷ back) i (beside front n back i others))
        (Contains-around front k back i in_rest))

    precedence : KeepsPrecedence (calls_at calls path ++ b ∷ (calls_at calls front ++ a ∷ calls_at calls back))
    precedence = subst KeepsPrecedence (parts k n b a there here) legal_order.precedence

    legal : IsLegal start (calls_at calls path ++ b ∷ (calls_at calls front ++ a ∷ calls_at calls back))
    legal = subst (IsLegal start) (parts k n b a there here) legal_order.legal

    -- each call between them may come before the other one
    between : All (λ c. precedes b c ≡ false) (calls_at calls front)
    between = All-weaker (λ c. precedes a c ≡ false) (λ c. precedes b c ≡ false) (λ c is. not_before a b twin c.inv is) (calls_at calls front)
        (AllPairs-before (λ c d. precedes d c ≡ false) (calls_at calls front) a (calls_at calls back)
        (AllPairs-tail (λ c d. precedes d c ≡ false) b (calls_at calls front ++ a ∷ calls_at calls back)
        (AllPairs-back (λ c d. precedes d c ≡ false) (calls_at calls path) (b ∷ (calls_at calls front ++ a ∷ calls_at calls back)) precedence)))

    rest_parts : calls_at calls (front ++ k ∷ back) ≡ calls_at calls front ++ b ∷ calls_at calls back
    rest_parts = calls_at-append calls front (k ∷ back) ∙ ap (λ xs. calls_at calls front ++ xs) (rw there refl)

    legal_rest : IsLegal (pairs_after start calls path) (a ∷ (calls_at calls front ++ b ∷ calls_at calls back))
    legal_rest =
        let m = pairs_after start calls path in
        let whole = IsLegal-back start (calls_at calls path) (b ∷ (calls_at calls front ++ a ∷ calls_at calls back)) legal in
        let rest = subst (λ next. IsLegal next (calls_at calls front ++ a ∷ calls_at calls back)) (sym (same_effect a b twin m)) whole.1 in
        let then = after_call m a.call a.response in
        let last = IsLegal-back then (calls_at calls front) (a ∷ calls_at calls back) rest in
        let there = after_calls then (calls_at calls front) in (
          legal_here,
          IsLegal-append then (calls_at calls front) (b ∷ calls_at calls back)
              (IsLegal-front then (calls_at calls front) (a ∷ calls_at calls back) rest)
              (legal_later a b twin there last.0, subst (λ next. IsLegal next (calls_at calls back)) (same_effect a b twin there) last.1),
        )

    swapped : IsOrder start calls new
    swapped = record {
      legal_order = record {
        known = All-from_contains (λ i. i < length calls) new
            (λ i h. All-contains (λ i. i < length calls) old i legal_order.known (Contains-swap path front k n back i h));
        distinct = AllPairs-swap path front n k back (λ i j. i ≢ j) legal_order.distinct others apart;
        precedence = subst KeepsPrecedence (sym (parts n k a b here there))
            (AllPairs-swap (calls_at calls path) (calls_at calls front) a b (calls_at calls back) (λ c d. precedes d c ≡ false) precedence between
            (subst (All (λ c. precedes c a ≡ false)) rest_parts (free (front ++ k ∷ back) left)));
        legal = subst (IsLegal start) (sym (parts n k a b here there))
            (IsLegal-append start (calls_at calls path) (a ∷ (calls_at calls front ++ b ∷ calls_at calls back))
            (IsLegal-front start (calls_at calls path) (b ∷ (calls_at calls front ++ a ∷ calls_at calls back)) legal) legal_rest);
      };
      complete = λ i done. Contains-swap path front n k back i (order.complete i done);
    }
      where
        behind_k : All (λ i. k ≢ i) (front ++ n ∷ back)
        behind_k = AllPairs-behind (λ i j. i ≢ j) path k (front ++ n ∷ back) legal_order.distinct

        later : AllPairs (λ i j. i ≢ j) (front ++ n ∷ back)
        later = AllPairs-tail (λ i j. i ≢ j) k (front ++ n ∷ back)
            (AllPairs-back (λ i j. i ≢ j) path (k ∷ (front ++ n ∷ back)) legal_order.distinct)

        others : All (λ i. i ≢ k) front
        others = All-weaker (λ i. k ≢ i) (λ i. i ≢ k) (λ i ne is. ne (sym is)) front (All-before (λ i. k ≢ i) front n back behind_k)

        apart : All (λ i. n ≢ i) (front ++ k ∷ back)
        apart = All-around (λ i. n ≢ i) front k back
            (All-weaker (λ i. i ≢ n) (λ i. n ≢ i) (λ i ne is. ne (sym is)) front (AllPairs-before (λ i j. i ≢ j) front n back later))
            (λ is. All-here (λ i. k ≢ i) front n back behind_k (sym is)) (AllPairs-behind (λ i j. i ≢ j) front n back later)

  -- an order without the first one, which is pending
  module _ (tail : List ℕ) (order : IsOrder start calls (path ++ k ∷ tail)) (out : Contains (path ++ k ∷ tail) n → ⊥) where
    legal_without : IsLegalOrder start calls (path ++ k ∷ tail)
    legal_without = order.legal_order

    pending : a.response ≡ None
    pending = go a.response refl
      where
        go : (r : Option Response) → a.response ≡ r → r ≡ None
        go None is = refl
        go (Some r) is = absurd (out (order.complete n (rw here (rw is refl))))

    other_pending : b.response ≡ None
    other_pending = go b.response refl
      where
        go : (r : Option Response) → b.response ≡ r → r ≡ None
        go None is = refl
        go (Some r) is = absurd (not_pending a b twin r is pending)

    with_calls : (i : ℕ) (x : Operation) → slice_get calls i ≡ Some x → calls_at calls (path ++ i ∷ tail) ≡ calls_at calls path ++ x ∷ calls_at calls tail
    with_calls i x at = calls_at-append calls path (i ∷ tail) ∙ ap (λ xs. calls_at calls path ++ xs) (rw at refl)

    precedence_without : KeepsPrecedence (calls_at calls path ++ b ∷ calls_at calls tail)
    precedence_without = subst KeepsPrecedence (with_calls k b there) legal_without.precedence

    legal_with : IsLegal start (calls_at calls path ++ b ∷ calls_at calls tail)
    legal_with = subst (IsLegal start) (with_calls k b there) legal_without.legal

    replaced : IsOrder start calls (path ++ n ∷ tail)
    replaced = record {
      legal_order = record {
        known = All-around (λ i. i < length calls) path n tail (All-front (λ i. i < length calls) path (k ∷ tail) legal_without.known)
            (slice_get_within calls n a here) (All-tail (λ i. i < length calls) k tail
            (All-back (λ i. i < length calls) path (k ∷ tail) legal_without.known));
        distinct = AllPairs-around (λ i j. i ≢ j) path n tail (AllPairs-beside (λ i j. i ≢ j) path k tail legal_without.distinct)
            (All-from_contains (λ i. i ≢ n) path (λ i h is. out (subst (Contains (path ++ k ∷ tail)) is (Contains-append_left path (k ∷ tail) i h))))
            (All-from_contains (λ i. n ≢ i) tail (λ i h is. out (subst (Contains (path ++ k ∷ tail)) (sym is)
            (Contains-append_right path (k ∷ tail) i (Contains-later k tail i h)))));
        precedence = subst KeepsPrecedence (sym (with_calls n a here))
            (AllPairs-around (λ c d. precedes d c ≡ false) (calls_at calls path) a (calls_at calls tail)
            (AllPairs-beside (λ c d. precedes d c ≡ false) (calls_at calls path) b (calls_at calls tail) precedence_without)
            (All-from_contains (λ c. precedes a c ≡ false) (calls_at calls path) (λ c h. rw pending refl))
            (free tail (λ i in_tail in_path. not_twice path (k ∷ tail) legal_without.distinct i in_path (Contains-later k tail i in_tail))));
        legal = subst (IsLegal start) (sym (with_calls n a here))
            (IsLegal-append start (calls_at calls path) (a ∷ calls_at calls tail)
            (IsLegal-front start (calls_at calls path) (b ∷ calls_at calls tail) legal_with) (
              legal_here,
              subst (λ next. IsLegal next (calls_at calls tail)) (sym (same_effect a b twin (pairs_after start calls path)))
                  (IsLegal-back start (calls_at calls path) (b ∷ calls_at calls tail) legal_with).1,
            ));
      };
      complete = λ i done. ⊎_elim
          (λ is. absurd (incomplete (subst (IsCompletedAt calls) (sym is) done)))
          (λ others. beside path n tail i others)
          (Contains-around path k tail i (order.complete i done));
    }
      where
        incomplete : IsCompletedAt calls k → ⊥
        incomplete done = false≢true (rw (there, other_pending) at done)

  first_goes : HasOrderAfter start calls (path ++ k ∷ []) → HasOrderAfter start calls (path ++ n ∷ [])
  first_goes (tail, h) =
      let order = subst (IsOrder start calls) (append_assoc path (k ∷ []) tail) h in
      ⊎_elim (λ there. by_place tail order there) (λ out. back_to tail (replaced tail order out)) (is_in (path ++ k ∷ tail))
    where
      back_to : (tail : List ℕ) → IsOrder start calls (path ++ n ∷ tail) → HasOrderAfter start calls (path ++ n ∷ [])
      back_to tail order = (tail, subst (IsOrder start calls) (sym (append_assoc path (n ∷ []) tail)) order)

      is_in : (xs : List ℕ) → Contains xs n ⊎ (Contains xs n → ⊥)
      is_in xs = go (has_number xs n) refl
        where
          go : (t : Bool) → has_number xs n ≡ t → Contains xs n ⊎ (Contains xs n → ⊥)
          go true is = inl (has_number-Contains xs n is)
          go false is = inr (λ h. false≢true (sym is ∙ has_number-from_Contains xs n h))

      by_place : (tail : List ℕ) → IsOrder start calls (path ++ k ∷ tail) → Contains (path ++ k ∷ tail) n → HasOrderAfter start calls (path ++ n ∷ [])
      by_place tail order within = ⊎_elim
          (λ is. back_to tail (subst (λ i. IsOrder start calls (path ++ i ∷ tail)) is order))
          (λ others. ⊎_elim (λ old. absurd (next.new old))
          (λ later. let (front, back, is) = Contains-split tail n later in
          back_to (front ++ k ∷ back) (swapped front back (subst (λ xs. IsOrder start calls (path ++ k ∷ xs)) is order)))
          (Contains-append_cases path tail n others))
          (Contains-around path k tail n within)

pub twins_first : TwinsGoFirst
twins_first start calls path n k a b here there next twin = first_goes start calls path n k a b here there next twin

-- which calls of a list stay, from its beginning on
module _ (calls : List Operation) where
  pub first_twins-keep : (next firsts more : List ℕ) (n : ℕ) → more ≡ firsts ++ n ∷ [] → AreFirstTwins calls next firsts
      → AreFirstTwins calls (next ++ n ∷ []) more
  first_twins-keep next firsts more n is h = subst (AreFirstTwins calls (next ++ n ∷ [])) (sym is) (record {
    from = λ k in_more. ⊎_elim
        (λ old. Contains-append_left next (n ∷ []) k (h.from k old))
        (λ same. subst (Contains (next ++ n ∷ [])) same (Contains-push next n))
        (Contains-push_cases firsts n k in_more);
    others = λ k in_next. ⊎_elim
        (λ old. ⊎_elim (λ kept. inl (Contains-append_left firsts (n ∷ []) k kept))
        (λ (j, first, twin). inr (j, Contains-append_left firsts (n ∷ []) j first, twin)) (h.others k old))
        (λ same. inl (subst (Contains (firsts ++ n ∷ [])) same (Contains-push firsts n)))
        (Contains-push_cases next n k in_next);
    few = omega (arith, length-append next (n ∷ []), length-append firsts (n ∷ []), h.few);
  })

  pub first_twins-leave : (next firsts : List ℕ) (n : ℕ) → HasTwin calls firsts n → AreFirstTwins calls next firsts
      → AreFirstTwins calls (next ++ n ∷ []) firsts
  first_twins-leave next firsts n twin h = record {
    from = λ k in_firsts. Contains-append_left next (n ∷ []) k (h.from k in_firsts);
    others = λ k in_next. ⊎_elim (λ old. h.others k old) (λ same. inr (subst (HasTwin calls firsts) same twin)) (Contains-push_cases next n k in_next);
    few = omega (arith, length-append next (n ∷ []), h.few);
  }

  -- it suffices to try those
  pub choices_twins : (start : Contents) (path next firsts : List ℕ) → AreFirstTwins calls next firsts → AreChoices start calls path next
      → AreChoices start calls path firsts
  choices_twins start path next firsts twins choices = record {
    next = λ n h. choices.next n (twins.from n h);
    closes = λ dead. choices.closes (λ n h. ⊎_elim (λ kept. dead n kept)
        (λ (k, first, at) goes. dead k first
        (twins_first start calls path k n at.first at.other at.here at.there (choices.next k (twins.from k first)) at.twin goes))
        (twins.others n h));
  }
