-- Recorded events of a cache: their places, and their calls by number.
use Rattle.certificate.proofs.Common.{◌≡◌, ℕ, zero, suc, ◌+◌, ◌-◌, ◌<◌, ◌≤◌, nat_lt, Bool, true, false, cond, List, [], ◌∷◌, ◌++◌, length, ◌==◌}
use Rattle.certificate.proofs.Common.{Option, Some, None, refl, sym, ap, ◌∙◌, subst, ⊎_elim, arith, All, Contains, slice_get, ⊤, false≢true, cases_lt}
use Rattle.certificate.proofs.Common.{lt-ltb, le-ltb, none-some, same_Some, slice_get_within, All-nil, All-cons, Call, Get, Remove, Event, Invoke}
use Rattle.certificate.proofs.Common.{Answer, Operation, Response, HistoryView, response_from, operation_of, operations_from, operations, is_before}
use Rattle.certificate.proofs.Common.{precedes, All-at, AreRecordedAs, MissesKey, IsHelperOf, IsRecordOf, recorded_event, last_after, recording_of}
use Rattle.certificate.proofs.Common.{IfSome, length-append, is_invocation, slice_get-append_left, place_of-Contains}
use Rattle.certificate.proofs.CacheRecordingLemmas.{Owns, HasTimes, SameResponse, IsBlock, AreBlocks, blocks_of, AreSmall, AreInTurn}

-- ---- the places to which those of recorded events belong

module _ (fresh : ℕ) (keys : List ℕ) where
  abbrev pub owner_from : ℕ → ℕ → (ℕ → Call) → List Event → ℕ → ℕ
  owner_from i j last [] k = i
  owner_from i j last (e ∷ events) k =
      cond (nat_lt k (j + length (recorded_event fresh keys last e events))) i
      (owner_from (suc i) (j + length (recorded_event fresh keys last e events)) (last_after last e) events k)

  owns_alike : (owner other : ℕ → ℕ) (i j : ℕ) (last : ℕ → Call) (events : List Event) → ((k : ℕ) → j ≤ k → owner k ≡ other k)
      → Owns fresh keys other i j last events → Owns fresh keys owner i j last events
  owns_alike owner other i j last [] same owns = tt
  owns_alike owner other i j last (e ∷ events) same owns = (
    λ k h. same (j + k) (omega arith) ∙ owns.0 k h,
    owns_alike owner other (suc i) (j + length (recorded_event fresh keys last e events)) (last_after last e) events
        (λ k h. same k (omega arith)) owns.1,
  )

  pub owner_owns : (i j : ℕ) (last : ℕ → Call) (events : List Event) → Owns fresh keys (owner_from i j last events) i j last events
  owner_owns i j last [] = tt
  owner_owns i j last (e ∷ events) =
      let next = j + length (recorded_event fresh keys last e events) in (
        λ k h. rw (lt-ltb (j + k) (j + length (recorded_event fresh keys last e events)) (omega arith)) refl,
        owns_alike (owner_from i j last (e ∷ events)) (owner_from (suc i) next (last_after last e) events) (suc i) next (last_after last e) events
            (λ k h. rw (le-ltb k next h) refl) (owner_owns (suc i) next (last_after last e) events),
      )

  owner_least : (i j : ℕ) (last : ℕ → Call) (events : List Event) (k : ℕ) → i ≤ owner_from i j last events k
  owner_least i j last [] k = omega arith
  owner_least i j last (e ∷ events) k =
      let next = j + length (recorded_event fresh keys last e events) in
      either (nat_lt k next) (owner_least (suc i) next (last_after last e) events k)
    where
      either : (b : Bool) → suc i ≤ owner_from (suc i) (j + length (recorded_event fresh keys last e events)) (last_after last e) events k
          → i ≤ cond b i (owner_from (suc i) (j + length (recorded_event fresh keys last e events)) (last_after last e) events k)
      either true h = omega arith
      either false h = omega arith

  pub owner_rises : (i j : ℕ) (last : ℕ → Call) (events : List Event) (k l : ℕ) → k ≤ l
      → owner_from i j last events k ≤ owner_from i j last events l
  owner_rises i j last [] k l h = omega arith
  owner_rises i j last (e ∷ events) k l h =
      let next = j + length (recorded_event fresh keys last e events) in
      ⊎_elim (λ less. rw (lt-ltb k next less) (owner_least i j last (e ∷ events) l))
      (λ more. let after : next ≤ l = omega arith in
      rw (le-ltb k next more, le-ltb l next after) (owner_rises (suc i) next (last_after last e) events k l h)) (cases_lt k next)

-- ---- the places of invocations

abbrev kind_from : ℕ → List Event → ℕ → Bool
kind_from i [] j = false
kind_from i (e ∷ events) j = cond (nat_lt i j) (kind_from (suc i) events j) (is_invocation e)

abbrev Kinds : (ℕ → Bool) → ℕ → List Event → Type 0
Kinds kind i [] = ⊤
Kinds kind i (e ∷ events) = (kind i ≡ is_invocation e) × Kinds kind (suc i) events

kinds_alike : (kind other : ℕ → Bool) (i : ℕ) (events : List Event) → ((j : ℕ) → i ≤ j → kind j ≡ other j) → Kinds other i events
    → Kinds kind i events
kinds_alike kind other i [] same h = tt
kinds_alike kind other i (e ∷ events) same h =
    (same i (omega arith) ∙ h.0, kinds_alike kind other (suc i) events (λ j le. same j (omega arith)) h.1)

kinds_are : (i : ℕ) (events : List Event) → Kinds (kind_from i events) i events
kinds_are i [] = tt
kinds_are i (e ∷ events) = (
  rw (le-ltb i i (omega arith)) refl,
  kinds_alike (kind_from i (e ∷ events)) (kind_from (suc i) events) (suc i) events (λ j le. rw (lt-ltb i j le) refl)
      (kinds_are (suc i) events),
)

inv_kind : (kind : ℕ → Bool) (i : ℕ) (events : List Event) → Kinds kind i events → All (λ a. kind a.inv ≡ true) (operations_from i events)
inv_kind kind i [] h = All-nil (λ a. kind a.inv ≡ true)
inv_kind kind i (Answer p reply ∷ events) h = inv_kind kind (suc i) events h.1
inv_kind kind i (Invoke p call ∷ events) h =
    All-cons (λ a. kind a.inv ≡ true) (operation_of p call i events) (operations_from (suc i) events) h.0 (inv_kind kind (suc i) events h.1)

response_kind : (kind : ℕ → Bool) (p i : ℕ) (events : List Event) → Kinds kind i events → IfSome (response_from p i events) (λ r. kind r.res ≡ false)
response_kind kind p i [] h = tt
response_kind kind p i (Invoke q call ∷ events) h = response_kind kind p (suc i) events h.1
response_kind kind p i (Answer q reply ∷ events) h = either (q == p) (response_kind kind p (suc i) events h.1)
  where
    either : (b : Bool) → IfSome (response_from p (suc i) events) (λ r. kind r.res ≡ false)
        → IfSome (cond b (Some (record { res = i; reply = reply })) (response_from p (suc i) events)) (λ r. kind r.res ≡ false)
    either true rest = h.0
    either false rest = rest

res_kind : (kind : ℕ → Bool) (i : ℕ) (events : List Event) → Kinds kind i events
    → All (λ a. IfSome a.response (λ r. kind r.res ≡ false)) (operations_from i events)
res_kind kind i [] h = All-nil (λ a. IfSome a.response (λ r. kind r.res ≡ false))
res_kind kind i (Answer p reply ∷ events) h = res_kind kind (suc i) events h.1
res_kind kind i (Invoke p call ∷ events) h =
    All-cons (λ a. IfSome a.response (λ r. kind r.res ≡ false)) (operation_of p call i events) (operations_from (suc i) events)
    (response_kind kind p (suc i) events h.1) (res_kind kind (suc i) events h.1)

-- ---- calls by number

slice_get-append_right : {X : Type 0} (xs ys : List X) (i j : ℕ) → j ≡ length xs + i → slice_get (xs ++ ys) j ≡ slice_get ys i
slice_get-append_right [] ys i j e = ap (slice_get ys) (omega arith)
slice_get-append_right (x ∷ xs) ys i zero e = absurd (omega arith)
slice_get-append_right (x ∷ xs) ys i (suc j) e = slice_get-append_right xs ys i j (omega arith)

abbrev number_after : ℕ → (ℕ → ℕ) → ℕ → ℕ
number_after m f zero = 0
number_after m f (suc n) = suc (m + f n)

abbrev source_after : ℕ → (ℕ → ℕ) → ℕ → ℕ
source_after m f zero = 0
source_after m f (suc j) = cond (nat_lt j m) 0 (suc (f (j - m)))

abbrev helps_after : ℕ → (ℕ → Bool) → ℕ → Bool
helps_after m f zero = false
helps_after m f (suc j) = cond (nat_lt j m) true (f (j - m))

module _ (fresh : ℕ) (keys : List ℕ) (owner : ℕ → ℕ) where
  abbrev Times : Operation → Operation → Type 0
  Times a t = HasTimes fresh keys owner a t

  -- what is recorded of calls, except for precedence
  record IsListOf (calls recorded : List Operation) : Type 0 where
    number : ℕ → ℕ
    source : ℕ → ℕ
    helps : ℕ → Bool
    itself : (n : ℕ) (a : Operation) → slice_get calls n ≡ Some a → (t : Operation) × (slice_get recorded (number n) ≡ Some t)
        × AreRecordedAs fresh a.call a.response t.call t.response × (source (number n) ≡ n) × (helps (number n) ≡ false)
    once : (j : ℕ) → j < length recorded → helps j ≡ false → (source j < length calls) × (number (source j) ≡ j)
    helpers : (j : ℕ) (t : Operation) → slice_get recorded j ≡ Some t → helps j ≡ true
        → (a : Operation) × (slice_get calls (source j) ≡ Some a) × IsHelperOf a t
    all_helped : (n key : ℕ) (a : Operation) → slice_get calls n ≡ Some a → Contains keys key → MissesKey a key
        → (j : ℕ) × (t : Operation) × (slice_get recorded j ≡ Some t) × (t.call ≡ Remove key) × (source j ≡ n) × (helps j ≡ true)
    times : (j : ℕ) (t a : Operation) → slice_get recorded j ≡ Some t → slice_get calls (source j) ≡ Some a → Times a t

  no_calls : IsListOf [] []
  no_calls = record {
    number = λ n. 0;
    source = λ j. 0;
    helps = λ j. false;
    itself = λ n a here. absurd (none-some a here);
    once = λ j h helps. absurd (omega arith);
    helpers = λ j t there helps. absurd (none-some t there);
    all_helped = λ n key a here among missed. absurd (none-some a here);
    times = λ j t a there here. absurd (none-some t there);
  }

  module _ (a t : Operation) (hs calls rest : List Operation) (block : IsBlock fresh keys owner a t hs) (l : IsListOf calls rest) where
    abbrev m : ℕ
    m = length hs

    abbrev whole : List Operation
    whole = t ∷ hs ++ rest

    helper_place : (j : ℕ) (s : Operation) → j < m → slice_get (hs ++ rest) j ≡ Some s → slice_get hs j ≡ Some s
    helper_place j s h there = sym (slice_get-append_left hs rest j h) ∙ there

    rest_place : (j : ℕ) (s : Operation) → m ≤ j → slice_get (hs ++ rest) j ≡ Some s → slice_get rest (j - m) ≡ Some s
    rest_place j s h there = sym (slice_get-append_right hs rest (j - m) j (omega arith)) ∙ there

    itself_of : (n : ℕ) (b : Operation) → slice_get (a ∷ calls) n ≡ Some b → (s : Operation)
        × (slice_get whole (number_after m l.number n) ≡ Some s) × AreRecordedAs fresh b.call b.response s.call s.response
        × (source_after m l.source (number_after m l.number n) ≡ n) × (helps_after m l.helps (number_after m l.number n) ≡ false)
    itself_of zero b here =
        (t, refl, subst (λ (o : Operation). AreRecordedAs fresh o.call o.response t.call t.response) (same_Some a b here) block.recorded_as, refl, refl)
    itself_of (suc n) b here =
        let (s, there, as_is, source, helps) = l.itself n b here in
        let back : m + l.number n - m ≡ l.number n = omega arith in
        let late : m ≤ m + l.number n = omega arith in (
          s,
          slice_get-append_right hs rest (l.number n) (m + l.number n) refl ∙ there,
          as_is,
          rw (le-ltb (m + l.number n) m late) (ap (λ k. suc (l.source k)) back ∙ ap suc source),
          rw (le-ltb (m + l.number n) m late) (ap l.helps back ∙ helps),
        )

    once_of : (j : ℕ) → j < length whole → helps_after m l.helps j ≡ false
        → (source_after m l.source j < suc (length calls)) × (number_after m l.number (source_after m l.source j) ≡ j)
    once_of zero h helps = (omega arith, refl)
    once_of (suc j) h helps = ⊎_elim
        (λ less. absurd (false≢true (sym helps ∙ rw (lt-ltb j m less) refl)))
        (λ more. let in_rest : j - m < length rest = omega (arith, length-append hs rest) in
        let (below, same) = l.once (j - m) in_rest (rw (le-ltb j m more) at helps) in
        let source_below : suc (l.source (j - m)) < suc (length calls) = omega arith in
        let number_same : suc (m + l.number (l.source (j - m))) ≡ suc j = omega arith in
        rw (le-ltb j m more) (source_below, number_same)) (cases_lt j m)

    helpers_of : (j : ℕ) (s : Operation) → slice_get whole j ≡ Some s → helps_after m l.helps j ≡ true
        → (b : Operation) × (slice_get (a ∷ calls) (source_after m l.source j) ≡ Some b) × IsHelperOf b s
    helpers_of zero s there helps = absurd (false≢true helps)
    helpers_of (suc j) s there helps = ⊎_elim
        (λ less. rw (lt-ltb j m less) (
          a,
          refl,
          (All-at (λ h. IsHelperOf a h × Times a h) hs j s block.helpers_are (helper_place j s less there)).0,
        ))
        (λ more. rw (le-ltb j m more) (l.helpers (j - m) s (rest_place j s more there) (rw (le-ltb j m more) at helps))) (cases_lt j m)

    all_of : (n key : ℕ) (b : Operation) → slice_get (a ∷ calls) n ≡ Some b → Contains keys key → MissesKey b key
        → (j : ℕ) × (s : Operation) × (slice_get whole j ≡ Some s) × (s.call ≡ Remove key) × (source_after m l.source j ≡ n)
        × (helps_after m l.helps j ≡ true)
    all_of zero key b here among missed =
        let (h, h_among, call) = block.all key among (subst (λ (o : Operation). MissesKey o key) (sym (same_Some a b here)) missed) in
        let (i, i_here) = place_of-Contains hs h h_among in
        let inside = slice_get_within hs i h i_here in
        (suc i, h, slice_get-append_left hs rest i inside ∙ i_here, call, rw (lt-ltb i m inside) refl, rw (lt-ltb i m inside) refl)
    all_of (suc n) key b here among missed =
        let (j, s, there, call, source, helps) = l.all_helped n key b here among missed in
        let back : m + j - m ≡ j = omega arith in
        let late : m ≤ m + j = omega arith in (
          suc (m + j),
          s,
          slice_get-append_right hs rest j (m + j) refl ∙ there,
          call,
          rw (le-ltb (m + j) m late) (ap (λ k. suc (l.source k)) back ∙ ap suc source),
          rw (le-ltb (m + j) m late) (ap l.helps back ∙ helps),
        )

    times_of : (j : ℕ) (s b : Operation) → slice_get whole j ≡ Some s → slice_get (a ∷ calls) (source_after m l.source j) ≡ Some b → Times b s
    times_of zero s b there here = subst (λ (o : Operation). Times o s) (same_Some a b here) (subst (Times a) (same_Some t s there) block.times)
    times_of (suc j) s b there here = ⊎_elim
        (λ less. let first : slice_get (a ∷ calls) 0 ≡ Some b = rw (lt-ltb j m less) at here in
        subst (λ (o : Operation). Times o s) (same_Some a b first)
        (All-at (λ h. IsHelperOf a h × Times a h) hs j s block.helpers_are (helper_place j s less there)).1)
        (λ more. l.times (j - m) s b (rest_place j s more there) (rw (le-ltb j m more) at here)) (cases_lt j m)

    one_more : IsListOf (a ∷ calls) (t ∷ hs ++ rest)
    one_more = record {
      number = number_after m l.number;
      source = source_after m l.source;
      helps = helps_after m l.helps;
      itself = itself_of;
      once = once_of;
      helpers = helpers_of;
      all_helped = all_of;
      times = times_of;
    }

  list_of : (calls recorded : List Operation) → AreBlocks fresh keys owner calls recorded → IsListOf calls recorded
  list_of [] recorded h = subst (IsListOf []) (sym h) no_calls
  list_of (a ∷ calls) recorded h =
      let (t, hs, rest, is, block, blocks) = h in
      subst (IsListOf (a ∷ calls)) (sym is) (one_more a t hs calls rest block (list_of calls rest blocks))

-- ---- what is recorded of a history

module _ (fresh : ℕ) (keys : List ℕ) (history : HistoryView) (turns : AreInTurn history.events)
    (small : AreSmall history.events) where
  abbrev owner : ℕ → ℕ
  owner = owner_from fresh keys 0 0 (λ p. Get 0) history.events

  abbrev kind : ℕ → Bool
  kind = kind_from 0 history.events

  abbrev made : List Operation
  made = operations history.events

  abbrev noted : List Operation
  noted = operations (recording_of fresh keys history).events

  same_precedence : (s t a b : Operation) → HasTimes fresh keys owner a s → HasTimes fresh keys owner b t
      → IfSome a.response (λ r. kind r.res ≡ false) → kind b.inv ≡ true → precedes s t ≡ precedes a b
  same_precedence s t a b first second answered invoked = by_responses a.response s.response first.response answered
    where
      by_responses : (r x : Option Response) → SameResponse fresh keys (owner_from fresh keys 0 0 (λ p. Get 0) history.events) r x
          → IfSome r (λ r. kind_from 0 history.events r.res ≡ false) → is_before x t.inv ≡ is_before r b.inv
      by_responses None None same h = refl
      by_responses None (Some x) same h = absurd same
      by_responses (Some r) None same h = absurd same
      by_responses (Some r) (Some x) same h = ⊎_elim
          (λ less. let up = owner_rises fresh keys 0 0 (λ p. Get 0) history.events x.res t.inv (omega arith) in
          let inv = second.inv in
          let before : r.res < b.inv = ⊎_elim (λ lt. lt)
          (λ le. let one : r.res ≡ b.inv = omega arith in absurd (false≢true (sym h ∙ (ap (kind_from 0 history.events) one ∙ invoked))))
          (cases_lt r.res b.inv) in
          rw (lt-ltb x.res t.inv less, lt-ltb r.res b.inv before) refl)
          (λ more. let up = owner_rises fresh keys 0 0 (λ p. Get 0) history.events t.inv x.res more in
          let inv = second.inv in
          let after : b.inv ≤ r.res = omega arith in
          rw (le-ltb x.res t.inv more, le-ltb r.res b.inv after) refl)
          (cases_lt x.res t.inv)

  pub recording_is : IsRecordOf fresh keys (operations history.events) (operations (recording_of fresh keys history).events)
  recording_is =
      let l = list_of fresh keys owner made noted
      (blocks_of fresh keys owner 0 0 (λ p. Get 0) history.events turns small (owner_owns fresh keys 0 0 (λ p. Get 0) history.events)) in
      let kinds = kinds_are 0 history.events in
      record {
        number = l.number;
        source = l.source;
        helps = l.helps;
        itself = l.itself;
        once = l.once;
        helpers = l.helpers;
        all_helped = l.all_helped;
        precedence = λ i j s t a b s_there t_there a_here b_here.
            same_precedence s t a b (l.times i s a s_there a_here) (l.times j t b t_there b_here)
            (All-at (λ a. IfSome a.response (λ r. kind r.res ≡ false)) made (l.source i) a (res_kind kind 0 history.events kinds) a_here)
            (All-at (λ a. kind a.inv ≡ true) made (l.source j) b (inv_kind kind 0 history.events kinds) b_here);
      }
