-- A completed call that leaves the map as it is may go first.
use Rattle.search_choices.proofs.Common.{◌≡◌, ℕ, ◌<◌, true, false, List, Some, [], ◌∷◌, ◌++◌, refl, sym, ap, ◌∙◌, subst, append_assoc, ⊎_elim, ◌≢◌}
use Rattle.search_choices.proofs.Common.{slice_get, All, AllPairs, Contains, false_from_ne_true, All-contains, All-append, Contains-append_left}
use Rattle.search_choices.proofs.Common.{Contains-append_right, Contains-append_cases, Operation, precedes, Contents, IsRising, IsLegalCall, IsLegal}
use Rattle.search_choices.proofs.Common.{after_call, after_calls, calls_at, IsCompletedAt, IsLegalOrder, IsOrder, KeepsPrecedence, All-front, All-back}
use Rattle.search_choices.proofs.Common.{All-from_contains, Contains-split, Contains-around, AllPairs-back, AllPairs-across, Contains-from_filter_map}
use Rattle.search_choices.proofs.Common.{IsLegal-append, IsLegal-front, IsLegal-back, calls_at-append, beside, middle, All-around, All-before, All-here}
use Rattle.search_choices.proofs.Common.{All-behind, AllPairs-before, AllPairs-behind, AllPairs-around, AllPairs-beside, rising_after, pairs_after}
use Rattle.search_choices.proofs.Common.{HasOrderAfter, IsReadNext, ReadsGoFirst}
use Rattle.std.specs.Prelude.{length}

-- an element among others is taken to an earlier place
module _ {X : Type 0} (path front : List X) (x : X) (back : List X) where
  rejoin : (path ++ front) ++ back ≡ path ++ (front ++ back)
  rejoin = append_assoc path front back

  rejoin_whole : (path ++ front) ++ x ∷ back ≡ path ++ (front ++ x ∷ back)
  rejoin_whole = append_assoc path front (x ∷ back)

  AllPairs-forward : (R : X → X → Type 0) → AllPairs R (path ++ (front ++ x ∷ back)) → All (R x) front
      → AllPairs R (path ++ x ∷ (front ++ back))
  AllPairs-forward R h first =
      let whole = subst (AllPairs R) (sym rejoin_whole) h in
      AllPairs-around R path x (front ++ back) (subst (AllPairs R) rejoin (AllPairs-beside R (path ++ front) x back whole))
      (All-front (λ y. R y x) path front (AllPairs-before R (path ++ front) x back whole))
      (All-append (R x) front back first (AllPairs-behind R (path ++ front) x back whole))

  All-forward : (P : X → Type 0) → All P (path ++ (front ++ x ∷ back)) → All P (path ++ x ∷ (front ++ back))
  All-forward P h =
      let behind = All-back P path (front ++ x ∷ back) h in
      All-around P path x (front ++ back) (All-front P path (front ++ x ∷ back) h) (All-here P front x back behind)
      (All-append P front back (All-before P front x back behind) (All-behind P front x back behind))

  Contains-forward : (y : X) → Contains (path ++ (front ++ x ∷ back)) y → Contains (path ++ x ∷ (front ++ back)) y
  Contains-forward y h = ⊎_elim
      (λ in_path. Contains-append_left path (x ∷ (front ++ back)) y in_path)
      (λ later. ⊎_elim
      (λ is. subst (Contains (path ++ x ∷ (front ++ back))) is (middle path x (front ++ back)))
      (λ others. beside path x (front ++ back) y (Contains-append_right path (front ++ back) y others))
      (Contains-around front x back y later))
      (Contains-append_cases path (front ++ x ∷ back) y h)

-- no element of distinct ones is in two parts
pub not_twice : (path tail : List ℕ) → AllPairs (λ k l. k ≢ l) (path ++ tail) → (k : ℕ) → Contains path k → Contains tail k → ⊥
not_twice path tail distinct k in_path later =
    All-contains (λ l. k ≢ l) tail k
    (All-contains (λ l. All (λ m. l ≢ m) tail) path k (AllPairs-across (λ l m. l ≢ m) path tail distinct) in_path) later refl

-- a legal list stays legal where a call goes first that leaves what it finds there and after those before it
legal_forward : (m : Contents) (front back : List Operation) (a : Operation) → IsLegalCall m a.call a.response
    → after_call m a.call a.response ≡ m
    → after_call (after_calls m front) a.call a.response ≡ after_calls m front → IsLegal m (front ++ a ∷ back)
    → IsLegal m (a ∷ (front ++ back))
legal_forward m front back a legal leaves leaves_there h =
    let rest = IsLegal-back m front (a ∷ back) h in (
      legal,
      subst (λ n. IsLegal n (front ++ back)) (sym leaves)
          (IsLegal-append m front back (IsLegal-front m front (a ∷ back) h) (subst (λ n. IsLegal n back) leaves_there rest.1)),
    )

-- an order in which a call comes later than where a path ends
module _ (start : Contents) (calls : List Operation) (path : List ℕ) (n : ℕ) (a : Operation) (here : slice_get calls n ≡ Some a)
    (front back : List ℕ) (order : IsOrder start calls (path ++ (front ++ n ∷ back))) where
  legal_order : IsLegalOrder start calls (path ++ (front ++ n ∷ back))
  legal_order = order.legal_order

  abbrev whole : List Operation
  whole = calls_at calls path ++ (calls_at calls front ++ a ∷ calls_at calls back)

  at_n : calls_at calls (n ∷ back) ≡ a ∷ calls_at calls back
  at_n = rw here refl

  pub parts : calls_at calls (path ++ (front ++ n ∷ back)) ≡ whole
  parts = calls_at-append calls path (front ++ n ∷ back) ∙ ap (λ xs. calls_at calls path ++ xs) (calls_at-append calls front (n ∷ back)
      ∙ ap (λ xs. calls_at calls front ++ xs) at_n)

  forward_parts : calls_at calls (path ++ n ∷ (front ++ back)) ≡ calls_at calls path ++ a ∷ (calls_at calls front ++ calls_at calls back)
  forward_parts = calls_at-append calls path (n ∷ (front ++ back))
      ∙ ap (λ xs. calls_at calls path ++ xs) (rw here (ap (λ xs. a ∷ xs) (calls_at-append calls front back)))

  legal_whole : IsLegal start whole
  legal_whole = subst (IsLegal start) parts legal_order.legal

  -- what is legal where the path leads
  pub legal_rest : IsLegal (pairs_after start calls path) (calls_at calls front ++ a ∷ calls_at calls back)
  legal_rest = IsLegal-back start (calls_at calls path) (calls_at calls front ++ a ∷ calls_at calls back) legal_whole

  -- the call may be there, where none of those that came before it precedes it and it is legal
  -- there, as the others are after it
  pub moves_forward : All (λ b. precedes b a ≡ false) (calls_at calls front)
      → IsLegal (pairs_after start calls path) (a ∷ (calls_at calls front ++ calls_at calls back))
      → IsOrder start calls (path ++ n ∷ (front ++ back))
  moves_forward free legal = record {
    legal_order = record {
      known = All-forward path front n back (λ k. k < length calls) legal_order.known;
      distinct = AllPairs-forward path front n back (λ k l. k ≢ l) legal_order.distinct (λ i d within same. others i d within (sym same));
      precedence = subst KeepsPrecedence (sym forward_parts)
          (AllPairs-forward (calls_at calls path) (calls_at calls front) a (calls_at calls back) (λ b c. precedes c b ≡ false)
          (subst KeepsPrecedence parts legal_order.precedence) free);
      legal = subst (IsLegal start) (sym forward_parts)
          (IsLegal-append start (calls_at calls path) (a ∷ (calls_at calls front ++ calls_at calls back))
          (IsLegal-front start (calls_at calls path) (calls_at calls front ++ a ∷ calls_at calls back) legal_whole) legal);
    };
    complete = λ k done. Contains-forward path front n back k (order.complete k done);
  }
    where
      others : All (λ k. k ≢ n) front
      others = AllPairs-before (λ k l. k ≢ l) front n back (AllPairs-back (λ k l. k ≢ l) path (front ++ n ∷ back) legal_order.distinct)

module _ (start : Contents) (calls : List Operation) (path : List ℕ) (n : ℕ) (rising : IsRising start)
    (read : IsReadNext start calls path n) where
  abbrev a : Operation
  a = read.call

  module _ (front back : List ℕ) (order : IsOrder start calls (path ++ (front ++ n ∷ back))) where
    -- no call appears twice
    apart : (k : ℕ) → Contains path k → Contains (front ++ n ∷ back) k → ⊥
    apart = not_twice path (front ++ n ∷ back) order.legal_order.distinct

    -- none of the calls that came before it precedes it
    free : All (λ b. precedes b a ≡ false) (calls_at calls front)
    free = All-from_contains (λ b. precedes b a ≡ false) (calls_at calls front)
        (λ b is. false_from_ne_true (precedes b a) (not_before b is))
      where
        not_before : (b : Operation) → Contains (calls_at calls front) b → precedes b a ≡ true → ⊥
        not_before b is before =
            let (k, in_front, there) = Contains-from_filter_map (slice_get calls) front b is in
            apart k (read.preceded k (b, a, there, read.here, before)) (Contains-append_left front (n ∷ back) k in_front)

    rest : IsLegal (pairs_after start calls path) (calls_at calls front ++ a ∷ calls_at calls back)
    rest = legal_rest start calls path n a read.here front back order

    path_rises : IsRising (pairs_after start calls path)
    path_rises = rising_after (calls_at calls path) start rising

    -- at its old place it left the pairs as they were, too
    leaves_there : after_call (after_calls (pairs_after start calls path) (calls_at calls front)) a.call a.response
        ≡ after_calls (pairs_after start calls path) (calls_at calls front)
    leaves_there =
        let behind = IsLegal-back (pairs_after start calls path) (calls_at calls front) (a ∷ calls_at calls back) rest in
        read.leaves (after_calls (pairs_after start calls path) (calls_at calls front))
        (rising_after (calls_at calls front) (pairs_after start calls path) path_rises) behind.0

    first : IsOrder start calls (path ++ n ∷ (front ++ back))
    first = moves_forward start calls path n a read.here front back order free
        (legal_forward (pairs_after start calls path) (calls_at calls front) (calls_at calls back) a read.legal
        (read.leaves (pairs_after start calls path) path_rises read.legal) leaves_there rest)

  -- an order that goes on from the path holds it
  goes_first : HasOrderAfter start calls path → HasOrderAfter start calls (path ++ n ∷ [])
  goes_first (tail, order) =
      let in_tail = ⊎_elim (λ old. absurd (read.new old)) (λ later. later)
      (Contains-append_cases path tail n (order.complete n completed)) in
      let (front, back, is) = Contains-split tail n in_tail in
      let moved = first front back (subst (λ xs. IsOrder start calls (path ++ xs)) is order) in
      (front ++ back, subst (IsOrder start calls) (sym (append_assoc path (n ∷ []) (front ++ back))) moved)
    where
      completed : IsCompletedAt calls n
      completed = rw read.here read.completed

  comes_back : HasOrderAfter start calls (path ++ n ∷ []) → HasOrderAfter start calls path
  comes_back (tail, order) = (n ∷ tail, subst (IsOrder start calls) (append_assoc path (n ∷ []) tail) order)

pub reads_first : ReadsGoFirst
reads_first start calls path n rising read = (goes_first start calls path n rising read, comes_back start calls path n rising read)
