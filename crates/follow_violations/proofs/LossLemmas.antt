-- What is said of the keys of pasts.
use Rattle.follow_violations.proofs.Common.{AllPairs-from_map, Contains-from_map, Contains-map, low_key, high_key, Call, Operation, found_at, kept_of}
use Rattle.follow_violations.proofs.Common.{Past, FoundAt, KeptPast, AreSpansOf, IsSpanAt, IsSpanIn, IsSpanOf, Names, span_of, AreKeyLosses, HasKey}
use Rattle.follow_violations.proofs.Common.{IsKeyLoss, IsNamed, IsOwnKey, IsOriginIn, KeyViolation, Origin, Put, Contents, value_at, ◌≡◌, ℕ, ◌+◌, ◌<◌}
use Rattle.follow_violations.proofs.Common.{◌≤◌, List, [], ◌∷◌, ◌++◌, length, get_or, take, map, Option, None, refl, sym, ap, ◌∙◌, subst, inl, inr}
use Rattle.follow_violations.proofs.Common.{⊎_elim, map_push, take_more, All-push, All-weaker, ◌⊎◌, ◌↔◌, All, AllPairs, Any, Contains}
use Rattle.follow_violations.proofs.AnyLemmas.{any_in, any_of, any_one, any_weaker, one_any}

-- ---- the invocations of the calls that have a key

abbrev pub HasKeyAt : ℕ → ℕ → KeptPast → Type 0
HasKeyAt key inv past = Any (λ o. (o.inv ≡ inv) × HasKey o key) past.left

pub invoked_in : (pasts : List KeptPast) (spans : List (ℕ × ℕ × ℕ)) (key inv : ℕ) → AreSpansOf pasts spans
    → Any (λ span. IsSpanAt key span inv) spans ↔ Any (HasKeyAt key inv) pasts
invoked_in pasts spans key inv are = (forth, back)
  where
    call_of : (span : ℕ × ℕ × ℕ) (past : KeptPast) → IsSpanAt key span inv → IsSpanIn past span → HasKeyAt key inv past
    call_of span past at any =
        let (o, o_in, is) = any_in (λ a. IsSpanOf a span) past.left any in
        let low : low_key o.call ≤ key = subst (λ (s : ℕ × ℕ × ℕ). s.1 ≤ key) (sym is) at.above in
        let high : key ≤ high_key o.call = subst (λ (s : ℕ × ℕ × ℕ). key ≤ s.2) (sym is) at.below in
        any_of (λ a. (a.inv ≡ inv) × HasKey a key) past.left o o_in
        (ap (λ (s : ℕ × ℕ × ℕ). s.0) is ∙ at.inv_is, record { low = low; high = high })

    forth : Any (λ span. IsSpanAt key span inv) spans → Any (HasKeyAt key inv) pasts
    forth any =
        let (span, span_in, at) = any_in (λ s. IsSpanAt key s inv) spans any in
        any_weaker (λ past. IsSpanIn past span) (HasKeyAt key inv) pasts (λ past in_past. call_of span past at in_past) ((are span).0 span_in)

    back : Any (HasKeyAt key inv) pasts → Any (λ span. IsSpanAt key span inv) spans
    back any =
        let (past, past_in, calls) = any_in (HasKeyAt key inv) pasts any in
        let (o, o_in, here) = any_in (λ a. (a.inv ≡ inv) × HasKey a key) past.left calls in
        let in_past : IsSpanIn past (span_of o) = any_of (λ a. IsSpanOf a (span_of o)) past.left o o_in refl in
        any_of (λ s. IsSpanAt key s inv) spans (span_of o) ((are (span_of o)).1 (any_of (λ p. IsSpanIn p (span_of o)) pasts past past_in in_past))
        (record { inv_is = here.0; above = here.1.low; below = here.1.high })

-- ---- all keys

pub all_losses : (own : Option Call) (pasts : List KeptPast) (puts : List Put) (keys : List ℕ) (losses : List KeyViolation) → AllPairs (λ a b. a < b) keys
    → ((key : ℕ) → Contains keys key ↔ (IsNamed pasts key ⊎ IsOwnKey own key))
    → map (λ loss. loss.key) losses ≡ keys → All (IsKeyLoss pasts puts) losses → AreKeyLosses own pasts puts losses
all_losses own pasts puts keys losses rising named are each = record {
  rising = AllPairs-from_map (λ a b. a < b) (λ (loss : KeyViolation). loss.key) losses (subst (AllPairs (λ a b. a < b)) (sym are) rising);
  named = λ key. (
    λ any. let (loss, loss_in, is) = any_in (λ l. l.key ≡ key) losses any in
        (named key).0 (subst (Contains keys) is (subst (λ (ks : List ℕ). Contains ks loss.key) are (Contains-map (λ (loss : KeyViolation). loss.key) losses loss loss_in))),
    λ is_named. let (loss, loss_in, is) = Contains-from_map (λ (loss : KeyViolation). loss.key) losses key
        (subst (λ (ks : List ℕ). Contains ks key) (sym are) ((named key).1 is_named)) in
        any_of (λ l. l.key ≡ key) losses loss loss_in is,
  );
  each = each;
}

-- one key more
pub losses_more : (P : KeyViolation → Type 0) (keys : List ℕ) (i d : ℕ) (loss : KeyViolation) (losses new : List KeyViolation) → i < length keys
    → loss.key ≡ get_or keys i d → P loss
    → map (λ l. l.key) losses ≡ take i keys → All P losses
    → new ≡ losses ++ loss ∷ [] → (map (λ l. l.key) new ≡ take (i + 1) keys) × All P new
losses_more P keys i d loss losses new within key_is holds so_far each is = (
  ap (map (λ (l : KeyViolation). l.key)) is ∙ (map_push (λ (l : KeyViolation). l.key) losses loss
      ∙ (ap (λ (ks : List ℕ). ks ++ loss.key ∷ []) so_far ∙ (ap (λ (k : ℕ). take i keys ++ k ∷ []) key_is ∙ sym (take_more keys i d within)))),
  subst (All P) (sym is) (All-push P losses loss each holds),
)

-- ---- one past with the same values

module _ (left : List Operation) (found others : List FoundAt) (m n : Contents) (same : (key : ℕ) → value_at m key ≡ value_at n key) where
  abbrev past : KeptPast
  past = record { pairs = m; left = left; found = found }

  abbrev other : KeptPast
  other = record { pairs = n; left = left; found = others }

  origin_alike : (puts : List Put) (key : ℕ) (origin : Origin) → IsOriginIn puts key past origin ↔ IsOriginIn puts key other origin
  origin_alike puts key origin = (
    λ is. record { value_is = sym (same key) ∙ is.value_is; put_is = is.put_is },
    λ is. record { value_is = same key ∙ is.value_is; put_is = is.put_is },
  )

  names_alike : (key : ℕ) (o : Operation) → Names m o key ↔ Names n o key
  names_alike key o = (
    λ names. ⊎_elim (λ only. inl only) (λ reports. inr (record {
      has_key = reports.has_key;
      reported = reports.reported;
      reports = reports.reports;
      other = λ is. reports.other (is ∙ sym (same key));
    })) names,
    λ names. ⊎_elim (λ only. inl only) (λ reports. inr (record {
      has_key = reports.has_key;
      reported = reports.reported;
      reports = reports.reports;
      other = λ is. reports.other (is ∙ same key);
    })) names,
  )

  named_alike : (key : ℕ) → IsNamed (past ∷ []) key ↔ IsNamed (other ∷ []) key
  named_alike key = (
    λ named. one_any (λ p. Any (λ o. Names p.pairs o key) p.left) other
        (any_weaker (λ o. Names m o key) (λ o. Names n o key) left (λ o. (names_alike key o).0)
        (any_one (λ p. Any (λ o. Names p.pairs o key) p.left) past named)),
    λ named. one_any (λ p. Any (λ o. Names p.pairs o key) p.left) past
        (any_weaker (λ o. Names n o key) (λ o. Names m o key) left (λ o. (names_alike key o).1)
        (any_one (λ p. Any (λ o. Names p.pairs o key) p.left) other named)),
  )

  loss_alike : (puts : List Put) (loss : KeyViolation) → IsKeyLoss (past ∷ []) puts loss → IsKeyLoss (other ∷ []) puts loss
  loss_alike puts loss is = record {
    distinct = is.distinct;
    from = λ origin. (
      λ origin_in. one_any (λ p. IsOriginIn puts loss.key p origin) other ((origin_alike puts loss.key origin).0
          (any_one (λ p. IsOriginIn puts loss.key p origin) past ((is.from origin).0 origin_in))),
      λ any. (is.from origin).1 (one_any (λ p. IsOriginIn puts loss.key p origin) past ((origin_alike puts loss.key origin).1
          (any_one (λ p. IsOriginIn puts loss.key p origin) other any))),
    );
    rising = is.rising;
    invoked = λ inv. (
      λ inv_in. one_any (HasKeyAt loss.key inv) other (any_one (HasKeyAt loss.key inv) past ((is.invoked inv).0 inv_in)),
      λ any. (is.invoked inv).1 (one_any (HasKeyAt loss.key inv) past (any_one (HasKeyAt loss.key inv) other any)),
    );
  }

  pub losses_alike : (own : Option Call) (puts : List Put) (losses : List KeyViolation) → AreKeyLosses own (past ∷ []) puts losses
      → AreKeyLosses own (other ∷ []) puts losses
  losses_alike own puts losses are = record {
    rising = are.rising;
    named = λ key. (
      λ any. ⊎_elim (λ named. inl ((named_alike key).0 named)) (λ own_key. inr own_key) ((are.named key).0 any),
      λ either. (are.named key).1 (⊎_elim (λ named. inl ((named_alike key).1 named)) (λ own_key. inr own_key) either),
    );
    each = All-weaker (IsKeyLoss (past ∷ []) puts) (IsKeyLoss (other ∷ []) puts) (loss_alike puts) losses are.each;
  }

-- a past of other pairs with the same values, and of the same calls
pub few_losses : (past : Past) (start : Contents) (few : List Operation) (puts : List Put) (losses : List KeyViolation)
    → ((key : ℕ) → value_at past.map key ≡ value_at start key)
    → past.calls.items ≡ few → AreKeyLosses None (kept_of past ∷ []) puts losses
    → AreKeyLosses None (record { pairs = start; left = few; found = [] } ∷ []) puts losses
few_losses past start few puts losses same left are =
    subst (λ (calls : List Operation). AreKeyLosses None (record { pairs = start; left = calls; found = [] } ∷ []) puts losses) left
    (losses_alike past.calls.items (map found_at past.found.items) [] past.map start same None puts losses are)
