-- The puts of open calls.
use Rattle.follow_monitor.proofs.Common.{AllPairs-from_map, All-from_contains, AllPairs-across, AllPairs-append, AllPairs-front, Contains-first}
use Rattle.follow_monitor.proofs.Common.{writes, known_call, IsOpenPut, ArePutsOfEntries, HaveOwnEvents, AreOpenPuts, OpenCall, Put, begun, ◌≡◌, ℕ}
use Rattle.follow_monitor.proofs.Common.{◌<◌, ◌≤◌, false, List, [], ◌∷◌, ◌++◌, get_or, Some, eqb, sym, ◌∙◌, subst, ⊎_elim, arith, eqb-false}
use Rattle.follow_monitor.proofs.Common.{false≢true, ne_eqb, All-contains, All-cons, All-nil, Contains-append_left, Contains-append_right}
use Rattle.follow_monitor.proofs.Common.{Contains-get_or, Contains-push_cases, Contains-permutation, IsPermutation-sym, IsDistinct, nat_cmp, ◌↔◌}
use Rattle.follow_monitor.proofs.Common.{IfOk, Result, Ok, Err, All, AllPairs, Any, Contains}
use Rattle.std.proofs.lemmas.Map.Keys.{IsDistinct-IsPermutation, IsDistinct-from_apart, apart_from_distinct, below_from_sorted}
use Rattle.std.specs.Prelude.{◌≢◌}
use Rattle.std.specs.List.Sorted.{IsPermutation, IsStrictlySortedBy}
use Rattle.std.specs.Map.{keys_of}
use Rattle.follow_monitor.proofs.PutLemmas.{one_put}

abbrev IsOtherEvent : ℕ × OpenCall → ℕ × OpenCall → Type 0
IsOtherEvent d e = d.1.event ≢ e.1.event

abbrev IsOtherPut : Put → Put → Type 0
IsOtherPut p q = p.event ≢ q.event

any_left : (entries : List (ℕ × OpenCall)) (last : ℕ × OpenCall) (p : Put) → Any (λ e. IsOpenPut e.1 p) entries
    → Any (λ e. IsOpenPut e.1 p) (entries ++ last ∷ [])
any_left entries last p (k, e, below, here, put) =
    let there = Contains-append_left entries (last ∷ []) e (k, below, here) in (there.0, e, there.1, there.2, put)

-- a call more that puts nothing
pub push_none : (entries : List (ℕ × OpenCall)) (process : ℕ) (c : OpenCall) (puts : List Put)
    → ((key value : ℕ) → writes (key, value) (begun c.call c.event) ≡ false) → ArePutsOfEntries entries puts
    → ArePutsOfEntries (entries ++ (process, c) ∷ []) puts
push_none entries process c puts none h = record {
  each = λ p. (
    λ is. any_left entries (process, c) p ((h.each p).0 is),
    λ (k, e, below, here, put). ⊎_elim
        (λ old. (h.each p).1 (old.0, e, old.1, old.2, put))
        (λ (same : (process, c) ≡ e).
        let own = subst (λ (x : ℕ × OpenCall). IsOpenPut x.1 p) (sym same) put in
        absurd (false≢true (sym (none p.key p.value) ∙ own.writes_it)))
        (Contains-push_cases entries (process, c) e (k, below, here)),
  );
  apart = λ own. h.apart (AllPairs-front IsOtherEvent entries ((process, c) ∷ []) own);
}

-- a call more that puts a value
pub push_put : (entries : List (ℕ × OpenCall)) (process : ℕ) (c : OpenCall) (puts : List Put) (new : Put) → IsOpenPut c new
    → ArePutsOfEntries entries puts → ArePutsOfEntries (entries ++ (process, c) ∷ []) (puts ++ new ∷ [])
push_put entries process c puts new is_new h = record {
  each = λ p. (
    λ is. ⊎_elim
        (λ old. any_left entries (process, c) p ((h.each p).0 old))
        (λ (same : new ≡ p).
        let last = Contains-append_right entries ((process, c) ∷ []) (process, c) (Contains-first (process, c) []) in
        (last.0, (process, c), last.1, last.2, subst (IsOpenPut c) same is_new))
        (Contains-push_cases puts new p is),
    λ (k, e, below, here, put). ⊎_elim
        (λ old. Contains-append_left puts (new ∷ []) p ((h.each p).1 (old.0, e, old.1, old.2, put)))
        (λ (same : (process, c) ≡ e).
        let own = subst (λ (x : ℕ × OpenCall). IsOpenPut x.1 p) (sym same) put in
        subst (Contains (puts ++ new ∷ [])) (one_put (begun c.call c.event) new p is_new own)
        (Contains-append_right puts (new ∷ []) new (Contains-first new [])))
        (Contains-push_cases entries (process, c) e (k, below, here)),
  );
  apart = λ own. AllPairs-append IsOtherPut puts (new ∷ [])
      (h.apart (AllPairs-front IsOtherEvent entries ((process, c) ∷ []) own))
      (λ i j d less below. absurd (omega (arith, less, below)))
      (All-from_contains (λ q. All (IsOtherPut q) (new ∷ [])) puts (λ q q_is.
      let (k, e, below, here, put) = (h.each q).0 q_is in
      let other = All-contains (λ (x : ℕ × OpenCall). All (IsOtherEvent x) ((process, c) ∷ [])) entries e
      (AllPairs-across IsOtherEvent entries ((process, c) ∷ []) own) (k, below, here) in
      All-cons (IsOtherPut q) new []
      (λ same. other 0 (process, c) (omega arith) (sym put.event_is ∙ (same ∙ is_new.event_is)))
      (All-nil (IsOtherPut q))));
}

eqb_comm : (m n : ℕ) → eqb m n ≡ eqb n m
eqb_comm m n = grind arith

-- puts of different events are so in any order
apart_moved : (puts sorted : List Put) → IsPermutation puts sorted → AllPairs IsOtherPut puts → AllPairs IsOtherPut sorted
apart_moved puts sorted moved h i j d less below =
    let same = λ (p q : Put). eqb p.event q.event in
    let distinct : IsDistinct same puts =
    IsDistinct-from_apart same puts (λ m n x before within. ne_eqb (get_or puts m x).event (get_or puts n x).event (h m n x before within)) in
    eqb-false (get_or sorted i d).event (get_or sorted j d).event
    (apart_from_distinct same sorted i j d (IsDistinct-IsPermutation same (λ p q. eqb_comm p.event q.event) puts sorted moved distinct) less below)

-- two facts of a value that there may be
pub ok_both : {X E : Type 0} (r : Result X E) (P Q R : X → Type 0) → ((x : X) → P x → Q x → R x) → IfOk r P → IfOk r Q → IfOk r R
ok_both (Ok x) P Q R both p q = both x p q
ok_both (Err e) P Q R both p q = q

-- the puts of all open calls, sorted by event
pub open_of_entries : (entries : List (ℕ × OpenCall)) (puts sorted : List Put)
    → ((process : ℕ) (c : OpenCall) → (known_call entries process ≡ Some c) ↔ Contains entries (process, c))
    → IsStrictlySortedBy nat_cmp (keys_of entries) → ArePutsOfEntries entries puts → IsPermutation puts sorted
    → AllPairs (λ p q. p.event ≤ q.event) sorted → AreOpenPuts entries sorted
open_of_entries entries puts sorted known ordered h moved rises = record {
  each = λ p. (
    λ is.
        let (k, e, below, here, put) = (h.each p).0 (Contains-permutation sorted puts p (IsPermutation-sym puts sorted moved) is) in
        (e.0, e.1, (known e.0 e.1).1 (k, below, here), put),
    λ (process, c, found, put).
        let there = (known process c).0 found in
        Contains-permutation puts sorted p moved ((h.each p).1 (there.0, (process, c), there.1, there.2, put)),
  );
  rising = λ own i j d less below.
      let up = rises i j d less below in
      let apart = apart_moved puts sorted moved (h.apart (others own)) i j d less below in
      omega (arith, up, apart);
}
  where
    keys_rise : AllPairs (λ (d e : ℕ × OpenCall). d.0 < e.0) entries
    keys_rise = AllPairs-from_map (λ (a b : ℕ). a < b) (λ (e : ℕ × OpenCall). e.0) entries
        (λ i j d less below. below_from_sorted (keys_of entries) i j d ordered less below)

    others : HaveOwnEvents entries → AllPairs IsOtherEvent entries
    others own i j d less below same =
        let first = Contains-get_or entries i d (omega (arith, less, below)) in
        let second = Contains-get_or entries j d below in
        let one : (get_or entries i d).0 ≡ (get_or entries j d).0 =
        own _ _ _ _ ((known (get_or entries i d).0 (get_or entries i d).1).1 first)
        ((known (get_or entries j d).0 (get_or entries j d).1).1 second) same in
        let rise = keys_rise i j d less below in omega (arith, one, rise)
