-- The beginning, and the end.
use Rattle.running.proofs.Common.{◌≡◌, ℕ, zero, suc, ◌+◌, ◌-◌, ◌<◌, ◌≤◌, ◌⊎◌, inl, inr, ⊎_elim, List, [], ◌∷◌, length, map, get_or, set, sym, refl}
use Rattle.running.proofs.Common.{ap, subst, ◌∙◌, arith, replicate, Some, slice_get, range_with_len, cases_lt, set-get_or, All-nil, slice_get_within}
use Rattle.running.proofs.Common.{same_Some, AllPairs-nil, Seen, Step, keeps, Allows, at_snoc, Call, AreHistoryEvents, opening, table_words, Process}
use Rattle.running.proofs.Common.{idle, opened, history_of, Gives, begun_plan, IsPlan, opening-length, no-start, Setup, Noted, IsSetup, Numbered}
use Rattle.running.proofs.Common.{numbers_of, IsIn, times, Above, Rises, AreReached, Kept, Seated, first_view, Ended, Looks}
use mathlib.Core.Option.{some-ne-none}
use Rattle.atomic_table.specs.Table.{State as Table, opening as table_opening}
use Rattle.running.proofs.NumberedLemmas.{times-hit, times-miss}
use Rattle.running.proofs.ReachedLemmas.{reached-noted, shown-below}
use Rattle.running.proofs.GivenLemmas.{given-first, given-plan, given-clocked}
use Rattle.running.proofs.OwnLemmas.{owned, own-events}

-- All processes, before the first step.

abbrev idle_from : ℕ → ℕ → List Numbered
idle_from a n = map (λ p. (p, idle)) (range_with_len a n)

idle-has : (a n p : ℕ) (q : Process) → IsIn (p, q) (idle_from a n) → (a ≤ p) × (p < a + n) × (q ≡ idle)
idle-has a zero p q h = absurd h
idle-has a (suc n) p q h = ⊎_elim
    (λ e. let is : p ≡ a = ap (λ (x : Numbered). x.0) e in (omega arith, omega arith, ap (λ (x : Numbered). x.1) e))
    (λ t. let r = idle-has (a + 1) n p q t in let low = r.0 in let high = r.1 in (omega arith, omega arith, r.2)) h

idle-absent : (p a n : ℕ) → p < a → times p (idle_from a n) ≡ 0
idle-absent p a zero lt = refl
idle-absent p a (suc n) lt = times-miss p (a, idle) (idle_from (a + 1) n) (λ e. omega arith) ∙ idle-absent p (a + 1) n (omega arith)

idle-once : (p a n : ℕ) → a ≤ p → p < a + n → times p (idle_from a n) ≡ 1
idle-once p a zero low high = absurd (omega arith)
idle-once p a (suc n) low high = ⊎_elim
    (λ e. let x = times-hit p (a, idle) (idle_from (a + 1) n) e in let y = idle-absent p (a + 1) n (omega arith) in omega arith)
    (λ lt. let x = times-miss p (a, idle) (idle_from (a + 1) n) (λ e. omega arith) in let y =
    idle-once p (a + 1) n (omega arith) (omega arith) in omega arith) (first (cases_lt a p))
  where
    first : (a < p) ⊎ (p ≤ a) → (p ≡ a) ⊎ (a < p)
    first (inl lt) = inr lt
    first (inr le) = inl (omega arith)

idle-above : (b a n : ℕ) → b < a → Above b (idle_from a n)
idle-above b a zero lt = tt
idle-above b a (suc n) lt = (lt, idle-above b (a + 1) n (omega arith))

idle-rises : (a n : ℕ) → Rises (idle_from a n)
idle-rises a zero = tt
idle-rises a (suc n) = (idle-above a (a + 1) n (omega arith), idle-rises (a + 1) n)

get-replicate : (n i : ℕ) → i < n → slice_get (replicate n idle) i ≡ Some idle
get-replicate zero i lt = absurd (omega arith)
get-replicate (suc n) zero lt = refl
get-replicate (suc n) (suc i) lt = get-replicate n i (omega arith)

pub opens : (setup : Setup) → Kept setup (table_opening (opening setup.shape) [] (first_view setup))
opens setup = (
  opening-length setup.shape,
  record {
    processes = replicate setup.processes idle;
    given = given-first setup;
    shows = λ j u e p q h. ⊎_elim (λ t. absurd (some-ne-none u (sym t)))
        (λ t. let r = idle-has 0 setup.processes p q (subst (λ z. IsIn (p, q) z.view.processes) (sym t) h) in let high = r.1 in
        (ap (λ z. z.view.setup) (sym t), get-replicate setup.processes p (omega arith) ∙ ap Some (sym r.2)))
        (at_snoc [] (first_view setup) u j e);
    once = λ p lt. let one = idle-once p 0 setup.processes (omega arith) (omega arith) in omega arith;
    rising = λ j u e. ⊎_elim (λ t. absurd (some-ne-none u (sym t)))
        (λ t. subst (λ z. Rises z.view.processes) t (idle-rises 0 setup.processes))
        (at_snoc [] (first_view setup) u j e);
  },
)

-- A place that has all processes has them in their order.

above-has : (b : ℕ) (l : List Numbered) (p : ℕ) (q : Process) → Above b l → IsIn (p, q) l → b < p
above-has b [] p q h t = absurd t
above-has b (x ∷ xs) p q h t = ⊎_elim (λ e. let is : p ≡ x.0 = ap (λ (y : Numbered). y.0) e in let lt = h.0 in omega arith)
    (λ u. above-has b xs p q h.1 u) t

-- numbers that rise from low on and stay below high are no more than there are between
room : (l : List Numbered) (low high : ℕ) → low ≤ high → Rises l → ((p : ℕ) (q : Process) → IsIn (p, q) l → (low ≤ p) × (p < high))
    → length l + low ≤ high
room [] low high le h within = omega arith
room (x ∷ xs) low high le h within =
    let here = within x.0 x.1 (inl refl) in
    let bottom = here.0 in
    let top = here.1 in
    let rest = room xs (x.0 + 1) high (omega arith) h.1
    (λ p q t. let lt = above-has x.0 xs p q h.0 t in (omega arith, (within p q (inr t)).1)) in
    omega arith

collected : (i : ℕ) (l : List Numbered) (processes : List Process) → Rises l → length l ≡ length processes
    → ((p : ℕ) (q : Process) → IsIn (p, q) l → (i ≤ p) × (slice_get processes (p - i) ≡ Some q)) → map (λ (x : Numbered). x.1) l ≡ processes
collected i [] [] h long at = refl
collected i [] (r ∷ ps) h long at = absurd (omega arith)
collected i (x ∷ xs) [] h long at = absurd (omega arith)
collected i (x ∷ xs) (r ∷ ps) h long at =
    let here = at x.0 x.1 (inl refl) in
    let low = here.0 in
    let within = slice_get_within (r ∷ ps) (x.0 - i) x.1 here.1 in
    let after : (p : ℕ) (q : Process) → IsIn (p, q) xs → (x.0 + 1 ≤ p) × (p < i + length (r ∷ ps)) =
    λ p q t. let lt = above-has x.0 xs p q h.0 t in let inside =
    slice_get_within (r ∷ ps) (p - i) q (at p q (inr t)).1 in (omega arith, omega arith) in
    let few = room xs (x.0 + 1) (i + length (r ∷ ps)) (omega arith) h.1 after in
    let is : x.0 ≡ i = omega arith in
    let none : x.0 - i ≡ 0 = omega arith in
    let first : x.1 ≡ r = sym (same_Some r x.1 (ap (λ n. slice_get (r ∷ ps) n) (sym none) ∙ here.1)) in
    let rest = collected (i + 1) xs ps h.1 (omega arith)
    (λ p q t. let lt = (after p q t).0 in let one : p - i ≡ suc (p - (i + 1)) = omega arith in
    (omega arith, ap (λ n. slice_get (r ∷ ps) n) (sym one) ∙ (at p q (inr t)).1)) in
    ap (λ z. z ∷ map (λ (x : Numbered). x.1) xs) first ∙ ap (λ zs. r ∷ zs) rest

numbered : (i n : ℕ) (l : List Numbered) → Rises l → length l ≡ n → ((p : ℕ) (q : Process) → IsIn (p, q) l → (i ≤ p) × (p < i + n))
    → numbers_of l ≡ range_with_len i n
numbered i zero [] h long within = refl
numbered i zero (x ∷ xs) h long within = absurd (omega arith)
numbered i (suc n) [] h long within = absurd (omega arith)
numbered i (suc n) (x ∷ xs) h long within =
    let here = within x.0 x.1 (inl refl) in
    let low = here.0 in
    let high = here.1 in
    let after : (p : ℕ) (q : Process) → IsIn (p, q) xs → (x.0 + 1 ≤ p) × (p < i + suc n) =
    λ p q t. let lt = above-has x.0 xs p q h.0 t in (omega arith, (within p q (inr t)).1) in
    let few = room xs (x.0 + 1) (i + suc n) (omega arith) h.1 after in
    let is : x.0 ≡ i = omega arith in
    let rest = numbered (i + 1) n xs h.1 (omega arith)
    (λ p q t. let a = after p q t in let from = a.0 in let to = a.1 in (omega arith, omega arith)) in
    ap (λ z. z ∷ numbers_of xs) is ∙ ap (λ zs. i ∷ zs) rest

module _ (setup : Setup) (limits : IsSetup setup) where
  -- what a schedule gives, where the processes are those of the view
  pub ended : (id : ℕ) (v : Noted) (s : Table Call Noted) → length v.view.processes ≡ setup.processes → Seen (Kept setup) id v s
      → Ended setup v.view
  ended id v s all seen =
      let r = seen.0.1 in
      let many = r.given.many in
      let same : map (λ (x : Numbered). x.1) v.view.processes ≡ r.processes =
      collected 0 v.view.processes r.processes (r.rising id v seen.1) (omega arith)
      (λ p q t. let same : p ≡ p - 0 = omega arith in
      (omega arith, ap (λ n. slice_get r.processes n) (sym same) ∙ (r.shows id v seen.1 p q t).1)) in
      let numbers = numbered 0 setup.processes v.view.processes (r.rising id v seen.1) all
      (λ p q t. let below = shown-below setup s.words s.views r id v seen.1 p q t in (omega arith, omega arith)) in
      let its = owned (begun_plan setup.shape setup.variant r.processes)
      (given-plan setup limits s.words r.processes r.given) r.given.schedule
      (record { words = s.words; processes = r.processes }) r.given.gives in
      let plan = subst (λ l. IsPlan (begun_plan setup.shape setup.variant l)) (sym same)
      (given-plan setup limits s.words r.processes r.given) in
      let gives = subst (λ l. Gives (begun_plan setup.shape setup.variant l)
      (opened (begun_plan setup.shape setup.variant l)) r.given.schedule
      (record { words = s.words; processes = l })) (sym same) r.given.gives in
      record {
        words = s.words;
        schedule = r.given.schedule;
        within = plan;
        gives = gives;
        history = subst (λ l. AreHistoryEvents (history_of (record { words = s.words; processes = l }))) (sym same)
            (given-clocked setup limits s.words r.processes r.given).history;
        own = own-events setup s.words v.view r.processes same many numbers (λ p q t. (r.shows id v seen.1 p q t).1) its;
        run = λ few. record {
          within = plan;
          start_within = record {
            rising = AllPairs-nil (λ (a b : ℕ × ℕ). a.0 < b.0);
            calls = All-nil _;
            few = omega
                (arith, plan.few_calls);
          };
          starts = no-start setup.shape setup.variant;
          gives = gives;
          few_steps = few;
        };
      }

  -- a look changes nothing, and shows what is so
  pub look-allowed : (slots id : ℕ) (me : Seated) → me.0.view.setup ≡ setup → (st : Step Call)
      → Allows (Kept setup) slots id me 0 (λ n. n) (Looks st me)
  look-allowed slots id me same st s r _ at _ =
      let still : set s.words 0 (get_or s.words 0 0) ≡ s.words = set-get_or s.words 0 0 in
      let here : length me.0.view.processes + 0 ≤ setup.processes =
      room me.0.view.processes 0 setup.processes (omega arith) (r.1.rising id me.0 at)
      (λ p q t. let below = shown-below setup s.words s.views r.1 id me.0 at p q t in (omega arith, below)) in
      let few : length me.0.view.processes ≤ setup.processes = omega arith in (
        me.0,
        keeps,
        tt,
        subst (λ l. (length l ≡ table_words setup.shape) × AreReached setup l (set s.views id me.0)) (sym still)
            (r.0, reached-noted setup s.words s.views r.1 id me.0 at me.0.asked),
        (
          refl,
          refl,
          subst (λ z. length me.0.view.processes ≤ z.processes) (sym same) few,
          subst (λ z. length me.0.view.processes ≡ z.processes → Ended z me.0.view) (sym same) (λ all. ended id me.0 s all (r, at)),
        ),
      )
