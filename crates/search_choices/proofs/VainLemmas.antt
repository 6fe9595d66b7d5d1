-- A pending call that would change nothing is left out.
use Rattle.search_choices.proofs.Common.{◌≡◌, ℕ, ◌<◌, false, List, Some, None, [], ◌∷◌, ◌++◌, refl, sym, ap, ◌∙◌, subst, ⊎_elim, ◌≢◌, ◌⊎◌, length, slice_get}
use Rattle.search_choices.proofs.Common.{Contains, All-append, All-tail, Operation, NonePrecedesItself, precedes, Contents, IsLegal}
use Rattle.search_choices.proofs.Common.{after, after_call, calls_at, IsCompletedAt, IsLegalOrder, IsOrder, KeepsPrecedence, All-front, All-back}
use Rattle.search_choices.proofs.Common.{Contains-around, IsLegal-append, IsLegal-front, IsLegal-back, calls_at-append, AllPairs-beside, pairs_after}
use Rattle.search_choices.proofs.Common.{IsNext, IsNext-from_front, IsFront-from_order, append-nil, append_assoc, false≢true, Closes}
use Rattle.search_choices.proofs.Common.{Option, true, inr, Call, Reply, IsRising, reply_to, says_unchanged, unchanged}
use Rattle.std.specs.Prelude.{IsSomeAnd}
use Rattle.map_object.proofs.TellLemmas.{after_reply-answer, reply_to_answers, tells_all}
use Rattle.search_choices.specs.Idle.{IsVain, VainCallsAreLeftOut}

module _ (start : Contents) (calls : List Operation) (path tail : List ℕ) (n : ℕ) (a : Operation) (here : slice_get calls n ≡ Some a)
    (pending : a.response ≡ None) (vain : after (pairs_after start calls path) a.call ≡ pairs_after start calls path)
    (order : IsOrder start calls (path ++ n ∷ tail)) where
  legal_order : IsLegalOrder start calls (path ++ n ∷ tail)
  legal_order = order.legal_order

  parts : calls_at calls (path ++ n ∷ tail) ≡ calls_at calls path ++ a ∷ calls_at calls tail
  parts = calls_at-append calls path (n ∷ tail) ∙ ap (λ xs. calls_at calls path ++ xs) (rw here refl)

  legal : IsLegal start (calls_at calls path ++ a ∷ calls_at calls tail)
  legal = subst (IsLegal start) parts legal_order.legal

  unchanged_there : after_call (pairs_after start calls path) a.call a.response ≡ pairs_after start calls path
  unchanged_there = ap (after_call (pairs_after start calls path) a.call) pending ∙ vain

  incomplete : IsCompletedAt calls n → ⊥
  incomplete done = false≢true (rw (here, pending) at done)

  left_out : IsOrder start calls (path ++ tail)
  left_out = record {
    legal_order = record {
      known = All-append (λ i. i < length calls) path tail (All-front (λ i. i < length calls) path (n ∷ tail) legal_order.known)
          (All-tail (λ i. i < length calls) n tail (All-back (λ i. i < length calls) path (n ∷ tail) legal_order.known));
      distinct = AllPairs-beside (λ i j. i ≢ j) path n tail legal_order.distinct;
      precedence = subst KeepsPrecedence (sym (calls_at-append calls path tail))
          (AllPairs-beside (λ c d. precedes d c ≡ false) (calls_at calls path) a (calls_at calls tail)
          (subst KeepsPrecedence parts legal_order.precedence));
      legal = subst (IsLegal start) (sym (calls_at-append calls path tail))
          (IsLegal-append start (calls_at calls path) (calls_at calls tail) (IsLegal-front start (calls_at calls path) (a ∷ calls_at calls tail) legal)
          (subst (λ m. IsLegal m (calls_at calls tail)) unchanged_there
          (IsLegal-back start (calls_at calls path) (a ∷ calls_at calls tail) legal).1));
    };
    complete = λ i done. ⊎_elim (λ is. absurd (incomplete (subst (IsCompletedAt calls) (sym is) done))) (λ others. others)
        (Contains-around path n tail i (order.complete i done));
  }

pub vain_left_out : VainCallsAreLeftOut
vain_left_out start calls path tail n vain order = go (slice_get calls n) refl vain
  where
    go : (o : Option Operation) → slice_get calls n ≡ o → IsSomeAnd o (λ p. (p.response ≡ None) × (after (pairs_after start calls path) p.call
        ≡ pairs_after start calls path))
        → IsOrder start calls (path ++ tail)
    go None is h = absurd h
    go (Some a) is h = left_out start calls path tail n a is h.0 h.1 order

-- a call changes nothing, if its answer would say so
pub vain_at : (m : Contents) (call : Call) (reply : Reply) → IsRising m → reply ≡ reply_to m call → says_unchanged call reply ≡ true → after m call ≡ m
vain_at m call reply rising is says = sym (after_reply-answer m call reply (λ refused. reply_to_answers m call (sym is ∙ refused)))
    ∙ unchanged m call reply rising says (inr (tells_all m call reply is))

-- all calls that may come next make an end, without those
pub lean_close : (start : Contents) (calls : List Operation) (path rest : List ℕ) → NonePrecedesItself calls → (IsOrder start calls path → ⊥)
    → ((n : ℕ) → IsNext start calls path n → Contains rest n ⊎ IsVain (pairs_after start calls path) calls n) → Closes start calls path rest
lean_close start calls path rest apart not_order all dead (tail, order) = go tail order
  where
    go : (tail : List ℕ) → IsOrder start calls (path ++ tail) → ⊥
    go [] h = not_order (subst (IsOrder start calls) (append-nil path) h)
    go (n ∷ tail) h =
        let next = IsNext-from_front start calls path n tail (IsFront-from_order start calls (path ++ n ∷ tail) apart h) in
        ⊎_elim
        (λ listed. dead n listed (tail, subst (IsOrder start calls) (sym (append_assoc path (n ∷ []) tail)) h))
        (λ vain. go tail (vain_left_out start calls path tail n vain h))
        (all n next)
