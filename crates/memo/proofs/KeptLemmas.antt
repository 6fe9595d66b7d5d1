-- What is stored of a configuration is the only form of it.
use Rattle.memo.proofs.Common.{◌≡◌, ℕ, ◌+◌, ◌-◌, ◌%◌, ◌^◌, ◌<◌, Bool, true, false, ◌++◌, ◌∷◌, [], List, Option, Some, Result, Ok, Err, option_map}
use Rattle.memo.proofs.Common.{get_or, length, zero-add, refl, sym, ap, ◌∙◌, subst, ⊎_elim, ◌≢◌, ◌↔◌, ◌⊎◌, IsTrue, IfOk, OnErr, IsSomeAnd}
use Rattle.memo.proofs.Common.{if◌then◌else◌, slice_get, All, AllPairs, Contains, sum_by, map-append, length-map, All-contains, All-push, All-nil}
use Rattle.memo.proofs.Common.{slice_get-map, slice_get_read, Contents, IsRising, value_at, Configuration, HasDigest, digest_of, mix_place, mix_pair}
use Rattle.memo.proofs.Common.{mix_value, IsDifference, pairs_from, with_value, value_put, value_gone, value_from, with_place, after_one}
use Rattle.memo.proofs.Common.{Kept, kept_of, same_kept, configuration_from, IsKept, configurations_from}
use Rattle.events.proofs.NumberLemmas.{IsSomeAnd-within}
use Rattle.events.proofs.FilterLemmas.{Contains-map, Contains-from_map, AllPairs-map, AllPairs-weaker}
use Rattle.memo.specs.Counts.{AreDistinct}
use Rattle.memo.proofs.ConfigurationLemmas.{configuration_of}
use Rattle.memo.specs.Equality.{same_configuration}
use Rattle.memo.proofs.DifferenceLemmas.{pairs_from-is, pairs_from-rises, value_at-from, same_put, same_gone, IsDifference-start, IsDifference-with}
use Rattle.memo.proofs.DigestLemmas.{digest_after, digest_as_before, digest_anew, sum_changed, sum_by-with_place}

-- two forms of one configuration are the same
pub same_from_configuration : (start : Contents) (a b : Kept) → IsKept start a → IsKept start b
    → configuration_from start a ≡ configuration_from start b → a ≡ b
same_from_configuration start a b a_is b_is same =
    let taken : a.taken ≡ b.taken = ap (λ (c : Configuration). c.taken) same in
    let pairs : pairs_from start a.put a.gone ≡ pairs_from start b.put b.gone = ap (λ (c : Configuration). c.pairs) same in
    let other = subst (λ m. IsDifference start m b.put b.gone) (sym pairs) b_is.difference in
    let m = pairs_from start a.put a.gone in
    let put = same_put start m a.put a.gone b.put b.gone a_is.difference other in
    let gone = same_gone start m a.put a.gone b.put b.gone a_is.difference other in
    let digest : a.digest ≡ b.digest = a_is.digest.digest_is ∙ ap digest_of same ∙ sym b_is.digest.digest_is in
    same_kept a b (digest, (taken, (put, gone)))

-- a form gives a configuration, if its difference and digest are those of its pairs
pub IsKept-from : (start pairs : Contents) (kept : Kept) → IsRising start → IsRising pairs → IsDifference start pairs kept.put kept.gone
    → HasDigest kept.taken pairs kept.digest → (pairs_from start kept.put kept.gone ≡ pairs) × IsKept start kept
IsKept-from start pairs kept start_rises rises difference digest =
    let is = pairs_from-is start pairs kept.put kept.gone start_rises rises difference in (
      is,
      record {
        difference = subst (λ m. IsDifference start m kept.put kept.gone) (sym is) difference;
        digest = subst (λ m. HasDigest kept.taken m kept.digest) (sym is) digest;
      },
    )

-- a configuration was visited exactly where what is kept of it is among what is kept
pub Contains-kept : (start : Contents) (visited : List Kept) (kept : Kept) → All (IsKept start) visited → IsKept start kept
    → Contains (configurations_from start visited) (configuration_from start kept) ↔ Contains visited kept
Contains-kept start visited kept each is = (
  λ h. let found = Contains-from_map (configuration_from start) visited (configuration_from start kept) h in
      subst (Contains visited)
      (same_from_configuration start found.0 kept (All-contains (IsKept start) visited found.0 each found.1) is found.2) found.1,
  Contains-map (configuration_from start) visited kept,
)

-- configurations are distinct where what is kept of them is
pub distinct-kept : (start : Contents) (visited : List Kept) → All (IsKept start) visited → AllPairs (λ a b. a ≢ b) visited
    → AreDistinct (configurations_from start visited)
distinct-kept start visited each apart =
    AllPairs-map (λ c d. c ≢ d) (configuration_from start) visited
    (AllPairs-weaker (λ a b. a ≢ b) (λ a b. configuration_from start a ≢ configuration_from start b) visited
    (λ a b a_is b_is other same. other (same_from_configuration start a b (All-contains (IsKept start) visited a each a_is)
    (All-contains (IsKept start) visited b each b_is) same)) apart)

-- no call taken
module _ (start : Contents) (kept : Kept) (rises : IsRising start) (taken : kept.taken ≡ []) (put : kept.put ≡ []) (gone : kept.gone ≡ [])
    (digest : kept.digest ≡ sum_by mix_pair start % 2 ^ 64) where
  at_start : (pairs_from start kept.put kept.gone ≡ start) × IsKept start kept
  at_start = IsKept-from start start kept rises rises
      (subst (λ p. IsDifference start start p kept.gone) (sym put) (subst (λ g. IsDifference start start [] g) (sym gone) (IsDifference-start start)))
      (record {
        digest_is = digest ∙ ap (λ (n : ℕ). n % 2 ^ 64) (sym (zero-add (sum_by mix_pair start)))
            ∙ ap (λ (t : List ℕ). (sum_by mix_place t + sum_by mix_pair start) % 2 ^ 64) (sym taken);
      })

  pub IsKept-start : IsKept start kept
  IsKept-start = at_start.1

  pub configuration_from-start : configuration_from start kept ≡ configuration_of [] start
  configuration_from-start = same_configuration (configuration_from start kept) (configuration_of [] start) taken at_start.0

-- ---- one more call

module _ (start : Contents) (old : Kept) (is : IsKept start old) (place : ℕ) (is_new : Contains old.taken place → ⊥) (new : Kept)
    (taken_is : new.taken ≡ with_place old.taken place) (one : ℕ) (one_is : one ≡ mix_place place) where
  abbrev before : Contents
  before = pairs_from start old.put old.gone

  taken_sum : sum_by mix_place new.taken ≡ sum_by mix_place old.taken + one
  taken_sum = ap (sum_by mix_place) taken_is ∙ sum_by-with_place mix_place place old.taken is_new
      ∙ ap (λ (n : ℕ). sum_by mix_place old.taken + n) (sym one_is)

  -- one that leaves the pairs as they are
  pub IsKept-unchanged : new.put ≡ old.put → new.gone ≡ old.gone → new.digest ≡ (old.digest + one) % 2 ^ 64 → IsKept start new
  IsKept-unchanged put_is gone_is digest_is =
      subst (λ p. IsKept start (kept_of new.taken p new.gone new.digest)) (sym put_is)
      (subst (λ g. IsKept start (kept_of new.taken old.put g new.digest)) (sym gone_is) (record {
        difference = is.difference;
        digest = record {
          digest_is = digest_is
              ∙ digest_as_before (sum_by mix_place old.taken) (sum_by mix_pair before) one old.digest is.digest.digest_is
              ∙ ap (λ (n : ℕ). (n + sum_by mix_pair before) % 2 ^ 64) (sym taken_sum);
        };
      }))

  -- one that changes the value of a key
  module _ (rises : IsRising start) (key : ℕ) (after : Contents) (after_rises : IsRising after)
      (agree : (k : ℕ) → (key ≡ k → ⊥) → value_at after k ≡ value_at before k)
      (first was value : Option ℕ) (first_is : first ≡ value_at start key)
      (was_is : was ≡ value_from first (value_at old.put key) (value_at old.gone key)) (value_is : value ≡ value_at after key)
      (put_is : new.put ≡ with_value key (value_put first value) old.put) (gone_is : new.gone ≡ with_value key (value_gone first value) old.gone)
      (lost gained : ℕ) (lost_is : lost ≡ mix_value key was) (gained_is : gained ≡ mix_value key value) (small : lost < 2 ^ 64)
      (digest_is : new.digest ≡ (((old.digest + one) % 2 ^ 64 + (2 ^ 64 - lost)) % 2 ^ 64 + gained) % 2 ^ 64) where
    before_rises : IsRising before
    before_rises = pairs_from-rises start old.put old.gone rises

    difference : IsDifference start after new.put new.gone
    difference =
        let put = put_is ∙ ap (λ f. with_value key (value_put f value) old.put) first_is
        ∙ ap (λ v. with_value key (value_put (value_at start key) v) old.put) value_is in
        let gone = gone_is ∙ ap (λ f. with_value key (value_gone f value) old.gone) first_is
        ∙ ap (λ v. with_value key (value_gone (value_at start key) v) old.gone) value_is in
        let changed = IsDifference-with start before after old.put old.gone key is.difference agree in
        subst (λ p. IsDifference start after p new.gone) (sym put)
        (subst (λ g. IsDifference start after (with_value key (value_put (value_at start key) (value_at after key)) old.put) g) (sym gone) changed)

    was_there : was ≡ value_at before key
    was_there = was_is ∙ ap (λ f. value_from f (value_at old.put key) (value_at old.gone key)) first_is
        ∙ sym (value_at-from start old.put old.gone key)

    moved : sum_by mix_pair after + lost ≡ sum_by mix_pair before + gained
    moved =
        ap (λ (n : ℕ). sum_by mix_pair after + n) (lost_is ∙ ap (mix_value key) was_there)
        ∙ sum_changed key before after before_rises after_rises agree
        ∙ ap (λ (n : ℕ). sum_by mix_pair before + n) (sym (gained_is ∙ ap (mix_value key) value_is))

    digest : HasDigest new.taken after new.digest
    digest = record {
      digest_is = digest_is
          ∙ digest_after (sum_by mix_place old.taken) (sum_by mix_pair before) one lost gained (sum_by mix_pair after) old.digest
          is.digest.digest_is small moved
          ∙ ap (λ (n : ℕ). (n + sum_by mix_pair after) % 2 ^ 64) (sym taken_sum);
    }

    pub IsKept-changed : IsKept start new
    IsKept-changed = (IsKept-from start after new rises after_rises difference digest).1

    pub configuration_from-changed : configuration_from start new ≡ after_one (configuration_from start old) place after
    configuration_from-changed =
        same_configuration (configuration_from start new) (after_one (configuration_from start old) place after) taken_is
        (IsKept-from start after new rises after_rises difference digest).0

-- ---- what is kept of those visited

-- the configuration that was visited after others
pub slice_get-kept : (start : Contents) (visited : List Kept) (from : ℕ) (kept : Kept) → slice_get visited from ≡ Some kept
    → slice_get (configurations_from start visited) from ≡ Some (configuration_from start kept)
slice_get-kept start visited from kept here =
    slice_get-map (configuration_from start) visited from ∙ ap (option_map (configuration_from start)) here

-- the one that is read at a place is that, where there is one
pub kept_at : (start : Contents) (visited read : List Kept) (now : List Configuration) (from : ℕ) (kept : Kept) (P : Configuration → Type 0)
    → configurations_from start visited ≡ now → read ≡ visited → kept ≡ get_or read from kept → IsSomeAnd (slice_get now from) P
    → slice_get now from ≡ Some (configuration_from start kept)
kept_at start visited read now from kept P now_is read_is is some =
    let count = ap length (sym now_is) ∙ length-map visited (configuration_from start) in
    let within : from < length visited = subst (λ n. from < n) count (IsSomeAnd-within now from P some) in
    let here = slice_get_read visited (length visited) from kept refl within (subst (λ ks. kept ≡ get_or ks from kept) read_is is) in
    subst (λ cs. slice_get cs from ≡ Some (configuration_from start kept)) now_is (slice_get-kept start visited from kept here)

module _ (start : Contents) (visited : List Kept) (kept : Kept) (after : List Kept) where
  -- all that is stored is still in its only form
  pub all_kept : {E : Type 0} (r : Result Bool E) → IfOk r (λ new. after ≡ (if new then visited ++ kept ∷ [] else visited))
      → OnErr r (after ≡ visited) → All (IsKept start) visited → IsKept start kept → All (IsKept start) after
  all_kept (Ok true) h k each is = subst (All (IsKept start)) (sym h) (All-push (IsKept start) visited kept each is)
  all_kept (Ok false) h k each is = subst (All (IsKept start)) (sym h) each
  all_kept (Err e) h k each is = subst (All (IsKept start)) (sym k) each

  module _ (next : Configuration) (same : configuration_from start kept ≡ next) where
    -- a configuration is new where what is kept of it is
    pub new_told : (new : Bool) → All (IsKept start) visited → IsKept start kept → IsTrue new ↔ (Contains visited kept → ⊥)
        → IsTrue new ↔ (Contains (configurations_from start visited) next → ⊥)
    new_told new each is h =
        let told = Contains-kept start visited kept each is in (
          λ yes in_it. h.0 yes (told.0 (subst (Contains (configurations_from start visited)) (sym same) in_it)),
          λ out. h.1 (λ in_it. out (subst (Contains (configurations_from start visited)) same (told.1 in_it))),
        )

    -- a configuration that was stored is visited then
    pub visited_told : (new : Bool) → after ≡ (if new then visited ++ kept ∷ [] else visited)
        → configurations_from start after ≡ (if new then configurations_from start visited ++ next ∷ [] else configurations_from start visited)
    visited_told true h =
        ap (configurations_from start) h ∙ map-append (configuration_from start) visited (kept ∷ [])
        ∙ ap (λ (c : Configuration). configurations_from start visited ++ c ∷ []) same
    visited_told false h = ap (configurations_from start) h

-- ---- other pairs at the start

-- if nothing was visited, or the pairs at the start are the same, what is stored is a form over
-- both
module _ (start other : Contents) (visited : List Kept) (shares : (visited ≡ []) ⊎ (start ≡ other)) where
  pub each_shared : All (IsKept start) visited → All (IsKept other) visited
  each_shared each = ⊎_elim (λ none. subst (All (IsKept other)) (sym none) (All-nil (IsKept other)))
      (λ same. subst (λ m. All (IsKept m) visited) same each) shares

  pub told_shared : configurations_from start visited ≡ configurations_from other visited
  told_shared = ⊎_elim (λ none. ap (configurations_from start) none ∙ sym (ap (configurations_from other) none))
      (λ same. ap (λ m. configurations_from m visited) same) shares

-- what is stored over one start, given from another
module _ (start other : Contents) (old new : Kept) (is : IsKept start old) (rises : IsRising start) (other_rises : IsRising other)
    (taken_is : new.taken ≡ old.taken) (digest_is : new.digest ≡ old.digest)
    (difference : IsDifference other (pairs_from start old.put old.gone) new.put new.gone) where
  over : (pairs_from other new.put new.gone ≡ pairs_from start old.put old.gone) × IsKept other new
  over = IsKept-from other (pairs_from start old.put old.gone) new other_rises (pairs_from-rises start old.put old.gone rises) difference
      (record {
        digest_is = digest_is ∙ is.digest.digest_is
            ∙ ap (λ (t : List ℕ). (sum_by mix_place t + sum_by mix_pair (pairs_from start old.put old.gone)) % 2 ^ 64) (sym taken_is);
      })

  pub IsKept-over : IsKept other new
  IsKept-over = over.1

  pub configuration_from-over : configuration_from other new ≡ configuration_from start old
  configuration_from-over = same_configuration (configuration_from other new) (configuration_from start old) taken_is over.0

-- one more call that leaves any pairs
module _ (start after : Contents) (old new : Kept) (is : IsKept start old) (rises : IsRising start) (after_rises : IsRising after) (place : ℕ)
    (is_new : Contains old.taken place → ⊥) (taken_is : new.taken ≡ with_place old.taken place)
    (difference : IsDifference start after new.put new.gone) (one lost gained : ℕ) (one_is : one ≡ mix_place place)
    (lost_is : lost ≡ sum_by mix_pair (pairs_from start old.put old.gone) % 2 ^ 64) (gained_is : gained ≡ sum_by mix_pair after % 2 ^ 64)
    (digest_is : new.digest ≡ (((old.digest + one) % 2 ^ 64 + (2 ^ 64 - lost)) % 2 ^ 64 + gained) % 2 ^ 64) where
  anew : (pairs_from start new.put new.gone ≡ after) × IsKept start new
  anew = IsKept-from start after new rises after_rises difference (record {
    digest_is = digest_is
        ∙ ap (λ (n : ℕ). (((old.digest + one) % 2 ^ 64 + (2 ^ 64 - n)) % 2 ^ 64 + gained) % 2 ^ 64) lost_is
        ∙ ap (λ (n : ℕ). (((old.digest + one) % 2 ^ 64 + (2 ^ 64 - sum_by mix_pair (pairs_from start old.put old.gone) % 2 ^ 64)) % 2 ^ 64 + n)
        % 2 ^ 64) gained_is
        ∙ digest_anew (sum_by mix_place old.taken) (sum_by mix_pair (pairs_from start old.put old.gone)) one (sum_by mix_pair after) old.digest
        is.digest.digest_is
        ∙ ap (λ (n : ℕ). (n + sum_by mix_pair after) % 2 ^ 64) (sym (taken_sum start old is place is_new new taken_is one one_is));
  })

  pub IsKept-anew : IsKept start new
  IsKept-anew = anew.1

  pub configuration_from-anew : configuration_from start new ≡ after_one (configuration_from start old) place after
  configuration_from-anew = same_configuration (configuration_from start new) (after_one (configuration_from start old) place after) taken_is anew.0
