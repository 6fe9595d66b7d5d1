-- Keys that are named.
use Rattle.follow_violations.proofs.Common.{Any-first, Any-later, Contains-nil, low_key, high_key, Operation, Response, kept_of, Past, AreAdded}
use Rattle.follow_violations.proofs.Common.{AreAddedOf, DiffersWithin, AreSpansOf, GivesDiffering, IsSpanIn, ListsOther, Names, NamesIn, IsNamed}
use Rattle.follow_violations.proofs.Common.{ReportsOther, pairs_in, reported_by, Contents, value_at, ◌≡◌, ℕ, Bool, true, ◌==◌, List, [], ◌∷◌, map}
use Rattle.follow_violations.proofs.Common.{Some, None, refl, sym, ap, ◌∙◌, inl, inr, ⊎_elim, ◌&&◌, and_parts, cases_Bool, eqb-true, Contains-dedup}
use Rattle.follow_violations.proofs.Common.{Contains-from_dedup, same_Some, dedup, ◌⊎◌, ◌↔◌, Any, Contains}
use Rattle.events.specs.declared.event.Reply.{Reply}
use Rattle.std.proofs.lemmas.Cmp.{and_equiv, nat_eq_equiv, on_equiv}
use Rattle.std.specs.Cmp.{IsEquivalence}
use Rattle.follow_violations.proofs.AnyLemmas.{any_from_map, any_in, any_map}

-- whether the code finds two spans the same
abbrev pub span_eq : ℕ × ℕ × ℕ → ℕ × ℕ × ℕ → Bool
span_eq p q = (p.0 == q.0 && p.1 == q.1) && p.2 == q.2

-- ---- keys at which two maps differ

-- a key has no value, or some pair has it
pub none_or_pair : (m : Contents) (key : ℕ) → (value_at m key ≡ None) ⊎ Any (λ pair. pair.0 ≡ key) m
none_or_pair [] key = inl refl
none_or_pair ((k, value) ∷ m) key = ⊎_elim
    (λ here. inr (Any-first (λ (pair : ℕ × ℕ). pair.0 ≡ key) (k, value) m (eqb-true k key here)))
    (λ other. ⊎_elim (λ none. inl (rw other none)) (λ any. inr (Any-later (λ (pair : ℕ × ℕ). pair.0 ≡ key) (k, value) m any))
    (none_or_pair m key))
    (cases_Bool (k == key))

pub differs_same : (m n other : Contents) (low high key : ℕ) → ((key : ℕ) → value_at m key ≡ value_at n key)
    → DiffersWithin m other low high key → DiffersWithin n other low high key
differs_same m n other low high key same differs = record {
  above = differs.above;
  below = differs.below;
  other = λ is. differs.other (same key ∙ is);
}

pub differing_added : (m n : Contents) (low high : ℕ) (old mid new : List ℕ) → AreAdded (GivesDiffering m n low high) m old mid
    → AreAdded (GivesDiffering m n low high) n mid new → AreAddedOf (DiffersWithin m n low high) old new
differing_added m n low high old mid new first second key = (forth, back)
  where
    differs_in : (some : Contents) → Any (λ pair. GivesDiffering m n low high pair key) some → DiffersWithin m n low high key
    differs_in some any = (any_in (λ pair. GivesDiffering m n low high pair key) some any).2.1

    gives_in : (some : Contents) → DiffersWithin m n low high key → Any (λ pair. pair.0 ≡ key) some
        → Any (λ pair. GivesDiffering m n low high pair key) some
    gives_in some differs any = (any.0, any.1, any.2, any.3, (any.4, differs))

    forth : Contains new key → Contains old key ⊎ DiffersWithin m n low high key
    forth new_in = ⊎_elim
        (λ mid_in. ⊎_elim (λ old_in. inl old_in) (λ any. inr (differs_in m any)) ((first key).0 mid_in))
        (λ any. inr (differs_in n any)) ((second key).0 new_in)

    back : Contains old key ⊎ DiffersWithin m n low high key → Contains new key
    back either = ⊎_elim (λ old_in. (second key).1 (inl ((first key).1 (inl old_in)))) (λ differs. ⊎_elim
        (λ none. ⊎_elim
        (λ none_either. absurd (differs.other (none ∙ sym none_either)))
        (λ any. (second key).1 (inr (gives_in n differs any))) (none_or_pair n key))
        (λ any. (second key).1 (inl ((first key).1 (inr (gives_in m differs any))))) (none_or_pair m key)) either

-- what a property makes, another makes that is as wide
pub added_as : (P Q : ℕ → Type 0) (old new : List ℕ) → ((key : ℕ) → P key ↔ Q key) → AreAddedOf P old new → AreAddedOf Q old new
added_as P Q old new same step key = (
  λ new_in. ⊎_elim (λ old_in. inl old_in) (λ holds. inr ((same key).0 holds)) ((step key).0 new_in),
  λ either. ⊎_elim (λ old_in. (step key).1 (inl old_in)) (λ holds. (step key).1 (inr ((same key).1 holds))) either,
)

-- ---- what a call names

-- of more keys, those at which it reports something else
reports_names : (pairs : Contents) (o : Operation) (key : ℕ) → (low_key o.call ≡ high_key o.call → ⊥)
    → Names pairs o key → ReportsOther pairs o key
reports_names pairs o key more names = ⊎_elim (λ own. absurd (more (own.0 ∙ sym own.1))) (λ other. other) names

pub lists_names : (pairs : Contents) (o : Operation) (response : Response) (key : ℕ) → (low_key o.call ≡ high_key o.call → ⊥)
    → o.response ≡ Some response → ListsOther pairs response.reply (low_key o.call) (high_key o.call) key ↔ Names pairs o key
lists_names pairs o response key more answered = (forth, back)
  where
    forth : ListsOther pairs response.reply (low_key o.call) (high_key o.call) key → Names pairs o key
    forth lists = inr (record {
      has_key = record { low = lists.differs.above; high = lists.differs.below };
      reported = lists.listed;
      reports = ap reported_by answered ∙ lists.lists;
      other = lists.differs.other;
    })

    back : Names pairs o key → ListsOther pairs response.reply (low_key o.call) (high_key o.call) key
    back names = let other = reports_names pairs o key more names in record {
      listed = other.reported;
      lists = ap reported_by (sym answered) ∙ other.reports;
      differs = record { above = other.has_key.low; below = other.has_key.high; other = other.other };
    }

-- a reply that lists pairs, and one that does not
pub pairs_listed : (pairs listed map_listed : Contents) (reply : Reply) (low high key : ℕ) → pairs_in reply ≡ Some listed
    → ((k : ℕ) → value_at map_listed k ≡ value_at listed k)
    → DiffersWithin map_listed pairs low high key ↔ ListsOther pairs reply low high key
pairs_listed pairs listed map_listed reply low high key lists same = (forth, back)
  where
    forth : DiffersWithin map_listed pairs low high key → ListsOther pairs reply low high key
    forth differs = record {
      listed = listed;
      lists = lists;
      differs = differs_same map_listed listed pairs low high key same differs;
    }

    back : ListsOther pairs reply low high key → DiffersWithin map_listed pairs low high key
    back other =
        let is : listed ≡ other.listed = same_Some listed other.listed (sym lists ∙ other.lists) in
        differs_same other.listed map_listed pairs low high key
        (λ k. ap (λ (m : Contents). value_at m k) (sym is) ∙ sym (same k)) other.differs

-- ---- all pasts

pub all_named : (pasts : List Past) (old keys : List ℕ) → AreAdded (λ past. NamesIn (kept_of past)) pasts old keys
    → (key : ℕ) → Contains keys key ↔ (Contains old key ⊎ IsNamed (map kept_of pasts) key)
all_named pasts old keys added key = (
  λ key_in. ⊎_elim (λ old_in. inl old_in) (λ any. inr (any_map kept_of (λ past. NamesIn past key) pasts any)) ((added key).0 key_in),
  λ either. (added key).1 (⊎_elim (λ old_in. inl old_in) (λ named. inr (any_from_map kept_of (λ past. NamesIn past key) pasts named)) either),
)

-- the calls that are left of all pasts
pub all_spans : (pasts : List Past) (spans : List (ℕ × ℕ × ℕ)) → AreAdded (λ past. IsSpanIn (kept_of past)) pasts [] spans
    → AreSpansOf (map kept_of pasts) spans
all_spans pasts spans added span = (
  λ span_in. ⊎_elim (λ none. absurd (Contains-nil span none)) (λ any. any_map kept_of (λ past. IsSpanIn past span) pasts any) ((added span).0 span_in),
  λ named. (added span).1 (inr (any_from_map kept_of (λ past. IsSpanIn past span) pasts named)),
)

-- ---- calls, each once

span_equivalence : IsEquivalence span_eq
span_equivalence = and_equiv (and_equiv (on_equiv (λ (t : ℕ × ℕ × ℕ). t.0) nat_eq_equiv) (on_equiv (λ (t : ℕ × ℕ × ℕ). t.1) nat_eq_equiv))
    (on_equiv (λ (t : ℕ × ℕ × ℕ). t.2) nat_eq_equiv)

same_span : (p q : ℕ × ℕ × ℕ) → span_eq p q ≡ true → p ≡ q
same_span p q is =
    let (front, last) = and_parts (p.0 == q.0 && p.1 == q.1) (p.2 == q.2) is in
    let (first, second) = and_parts (p.0 == q.0) (p.1 == q.1) front in
    ap (λ (k : ℕ). (k, p.1, p.2)) (eqb-true p.0 q.0 first)
    ∙ (ap (λ (k : ℕ). (q.0, k, p.2)) (eqb-true p.1 q.1 second) ∙ ap (λ (k : ℕ). (q.0, q.1, k)) (eqb-true p.2 q.2 last))

pub same_spans : (spans : List (ℕ × ℕ × ℕ)) (span : ℕ × ℕ × ℕ) → Contains (dedup span_eq spans) span ↔ Contains spans span
same_spans spans span = (Contains-from_dedup span_eq spans span, Contains-dedup span_equivalence same_span spans span)
