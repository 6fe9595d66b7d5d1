-- Each word got was got at a moment; and how a process goes on.
use Rattle.art_schedules.proofs.Common.{◌≡◌, ℕ, zero, suc, ◌+◌, ◌-◌, ◌<◌, ◌≤◌, List, [], ◌∷◌, ◌++◌, length, take, refl, ap, sym, subst, ◌∙◌, inl}
use Rattle.art_schedules.proofs.Common.{None, Option, Some, arith, cases_lt, inr, length-append, same_Some, slice_get, slice_index}
use Rattle.std.specs.Prelude.{◌⊎◌}
use Rattle.art_schedules.proofs.Common.{none-some, take-length, Call, Reply, Access, Point, Turn, Asks, Answers, act, word_of, Process, told}
use Rattle.art_schedules.proofs.Common.{Invokes, Move, Plan, Responds, State, begun, move_from, move_of, next_call, opened_on, step}
use Rattle.art_core.specs.Core.{Makes}
use Rattle.art_schedules.proofs.Common.{invocation, after_move, run_on, At, HasGot, nowhere, all-idle, is-moved, changed-at, GotAt}
use Rattle.std.proofs.lemmas.List.{get_or_append_left}
use Rattle.std.proofs.Math.Seq.{get_or-append_seam}
use Rattle.events.specs.declared.event.Event.TheVariants.{Invoke, Answer}
use Rattle.art_core.specs.Core.{word_of_move}
use Rattle.art_core.proofs.RunLemmas.{begun-more}

-- the moment before
pub record Before (plan : Plan) (first : State) (schedule : List ℕ) (t : ℕ) (b : State) : Type 0 where
  pub state : State
  pub at : At plan first schedule t state
  pub turn : ℕ
  pub is : step plan state turn ≡ Some b

pub at-before : (plan : Plan) (first : State) (schedule : List ℕ) (t : ℕ) (b : State) → t < length schedule
    → At plan first schedule (suc t) b
    → Before plan first schedule t b
at-before plan first [] t b l h = absurd (omega (arith, l))
at-before plan first (x ∷ schedule) zero b l h = record { state = first; at = refl; turn = x; is = one (step plan first x) refl h }
  where
    one : (o : Option State) → step plan first x ≡ o → run_on plan o [] ≡ Some b → o ≡ Some b
    one None e k = absurd (none-some b k)
    one (Some s) e k = k
at-before plan first (x ∷ schedule) (suc t) b l h =
    go (step plan first x) refl (λ next. at-before plan next schedule t b (omega (arith, l))) h
  where
    go : (o : Option State) → step plan first x ≡ o → ((next : State) → At plan next schedule (suc t) b → Before plan next schedule t b)
        → run_on plan o (take (suc t) schedule) ≡ Some b → Before plan first (x ∷ schedule) (suc t) b
    go None e rest k = absurd (nowhere plan (take (suc t) schedule) b k)
    go (Some next) e rest k =
        let r = rest next k in
        record { state = r.state; at = ap (λ o. run_on plan o (take t schedule)) e ∙ r.at; turn = r.turn; is = r.is }

pub take-more : (i : ℕ) (xs : List ℕ) (w : ℕ) → i ≤ length xs → take i (xs ++ w ∷ []) ≡ take i xs
take-more zero xs w h = refl
take-more (suc i) [] w h = absurd (omega (arith, h))
take-more (suc i) (x ∷ xs) w h = ap (λ zs. x ∷ zs) (take-more i xs w (omega (arith, h)))

pub index-more : (i : ℕ) (xs : List ℕ) (w : ℕ) → i < length xs → slice_index (xs ++ w ∷ []) i ≡ slice_index xs i
index-more i xs w h = get_or_append_left xs (w ∷ []) 0 i h

pub index-last : (xs : List ℕ) (w : ℕ) → slice_index (xs ++ w ∷ []) (length xs) ≡ w
index-last xs w = get_or-append_seam xs w [] 0

-- one step of the process: it is in the same call with a word more, or it begins or ends one
pub data Goes (plan : Plan) (s : State) (w q : Process) : Type 0 where
  Same : q ≡ w → Goes plan s w q
  Begins : (call : Call) → w.call ≡ None → length (begun q) ≡ suc (length (begun w)) → q.got ≡ [] → q.call ≡ Some call → Goes plan s w q
  Gets : (call : Call) → (a : Access) → (mark : Option Point) → w.call ≡ Some call → q.call ≡ Some call → begun q ≡ begun w
      → act plan.shape plan.variant call w.got ≡ Asks a mark
      → q.got ≡ w.got ++ told a (slice_index s.words (word_of a)) ∷ [] → Goes plan s w q
  Ends : q.call ≡ None → length (begun q) ≡ length (begun w) → Goes plan s w q

pub record Went (plan : Plan) (s : State) (p : ℕ) (q : Process) : Type 0 where
  pub process : Process
  pub own : slice_get s.processes p ≡ Some process
  pub goes : Goes plan s process q

pub went : (plan : Plan) (s b : State) (turn p : ℕ) (q : Process) → step plan s turn ≡ Some b
    → slice_get b.processes p ≡ Some q → Went plan s p q
went plan s b turn p q e own =
    let m = is-moved plan s turn b e in
    let after = after_move turn m.move (slice_index s.words (word_of_move m.move)) m.process in
    elim (changed-at s.processes turn after p q (subst (λ t. slice_get t.processes p ≡ Some q) m.is own)) [
      | inl t ↦ record {
        process = m.process;
        own = subst (λ x. slice_get s.processes x ≡ Some m.process) (sym t.0) m.here;
        goes = subst (Goes plan s m.process) (sym t.1) (does turn m.process m.process.call m.move refl m.is_next);
      }
      | inr t ↦ record { process = q; own = t.1; goes = Same refl }
    ]
  where
    no-more : (turn n : ℕ) (w : Process) (r : Reply) → length (begun (after_move turn (Responds r) n w)) ≡ length (begun w)
    no-more turn n w r = ap (λ l. length l) (begun-more w (n, Answer turn r)) ∙ (length-append (begun w) [] ∙ omega arith)

    one-more : (turn n : ℕ) (w : Process) (c : Call) → length (begun (after_move turn (Invokes c) n w)) ≡ suc (length (begun w))
    one-more turn n w c = ap (λ l. length l) (begun-more w (n, Invoke turn c)) ∙ (length-append (begun w) (c ∷ []) ∙ omega arith)

    does : (turn : ℕ) (w : Process) (o : Option Call) (m : Move) → w.call ≡ o → move_from plan turn w o ≡ Some m
        → Goes plan s w (after_move turn m (slice_index s.words (word_of_move m)) w)
    does turn w None m is k = begins (next_call plan turn w) k
      where
        begins : (o : Option Call) → invocation o ≡ Some m → Goes plan s w (after_move turn m (slice_index s.words (word_of_move m)) w)
        begins None f = absurd (none-some m f)
        begins (Some call) f = subst (λ m. Goes plan s w (after_move turn m (slice_index s.words (word_of_move m)) w))
            (same_Some (Invokes call) m f)
            (Begins call is (one-more turn _ w call) refl refl)
    does turn w (Some call) m is k = goes (act plan.shape plan.variant call w.got) refl k
      where
        goes : (t : Turn) → act plan.shape plan.variant call w.got ≡ t → ◌≡◌ {A = Option Move} (Some (move_of t)) (Some m)
            → Goes plan s w (after_move turn m (slice_index s.words (word_of_move m)) w)
        goes (Asks a mark) f l = subst (λ m. Goes plan s w (after_move turn m (slice_index s.words (word_of_move m)) w))
            (same_Some (Makes a) m l)
            (Gets call a mark is is refl f refl)
        goes (Answers r) f l = subst (λ m. Goes plan s w (after_move turn m (slice_index s.words (word_of_move m)) w))
            (same_Some (Responds r) m l)
            (Ends refl (no-more turn _ w r))

module _ (plan : Plan) (words schedule : List ℕ) (p : ℕ) where
  abbrev first : State
  first = opened_on plan words

  pub was-got : (t : ℕ) → t ≤ length schedule → (s : State) → At plan first schedule t s → (q : Process) → slice_get s.processes p ≡ Some q
      → (call : Call) → q.call ≡ Some call → (i : ℕ) → i < length q.got → GotAt plan first schedule t p q call i
  was-got zero l s at q own call is i less =
      absurd (none-some call (sym (ap (λ x. x.call) (all-idle (length plan.scripts) p q (subst (λ x. slice_get x.processes p ≡ Some q)
      (sym (same_Some first s at)) own))) ∙ is))
  was-got (suc t) l s at q own call is i less =
      let b = at-before plan first schedule t s (omega (arith, l)) at in
      let x = went plan b.state s b.turn p q b.is own in
      go b x.process x.own x.goes (was-got t (omega (arith, l)) b.state b.at x.process x.own)
    where
      later : (w : Process) → GotAt plan first schedule t p w call i → length (begun w) ≡ length (begun q) → take i q.got ≡ take i w.got
          → slice_index q.got i ≡ slice_index w.got i → GotAt plan first schedule (suc t) p q call i
      later w g same first-words word = record {
        u = g.u;
        before = omega (arith, g.before);
        state = g.state;
        at = g.at;
        process = g.process;
        own = g.own;
        is_open = g.is_open;
        same_call = g.same_call ∙ same;
        got = g.got ∙ sym first-words;
        access = g.access;
        mark = g.mark;
        asks = ap (act plan.shape plan.variant call) first-words ∙ g.asks;
        is = word ∙ g.is;
        after = g.after;
        at_after = g.at_after;
        got_it = subst (λ n. HasGot n (suc i) g.after p) same g.got_it;
      }

      go : (b : Before plan first schedule t s) (w : Process) → slice_get b.state.processes p ≡ Some w → Goes plan b.state w q
          → ((call : Call) → w.call ≡ Some call → (i : ℕ) → i < length w.got → GotAt plan first schedule t p w call i)
          → GotAt plan first schedule (suc t) p q call i
      go b w here (Same e) ih = later w (ih call (ap (λ x. x.call) (sym e) ∙ is) i (subst (λ x. i < length x.got) e less))
          (ap (λ x. length (begun x)) (sym e))
          (ap (λ x. take i x.got) e) (ap (λ x. slice_index x.got i) e)
      go b w here (Begins c none more empty open-now) ih = absurd (omega (arith, less, ap (λ l. length l) empty))
      go b w here (Ends none same) ih = absurd (none-some call (sym none ∙ is))
      go b w here (Gets c a mark was now same asks got) ih =
          let one = same_Some c call (sym now ∙ is) in
          let long : length q.got ≡ suc (length w.got) = ap (λ l. length l) got ∙ (length-append w.got _ ∙ omega arith) in
          elim (cases_lt i (length w.got)) [
            | inl earlier ↦ later w (ih call (was ∙ ap Some one) i earlier) (ap (λ l. length l) (sym same))
                (ap (take i) got ∙ take-more i w.got _ (omega (arith, earlier)))
                (ap (λ l. slice_index l i) got ∙ index-more i w.got _ earlier)
            | inr last ↦
                let at-end : i ≡ length w.got = omega (arith, last, less, long) in
                let words-before : take i q.got ≡ w.got = ap (take i) got ∙ (take-more i w.got _ (omega (arith, at-end))
                ∙ (ap (λ k. take k w.got) at-end ∙ take-length w.got)) in
                record {
                  u = t;
                  before = omega arith;
                  state = b.state;
                  at = b.at;
                  process = w;
                  own = here;
                  is_open = was ∙ ap Some one;
                  same_call = ap (λ l. length l) (sym same);
                  got = sym words-before;
                  access = a;
                  mark = mark;
                  asks = ap (act plan.shape plan.variant call) words-before
                      ∙ subst (λ c. act plan.shape plan.variant c w.got ≡ Asks a mark) one asks;
                  is = ap (λ l. slice_index l i) got ∙ (ap (slice_index (w.got ++ _ ∷ [])) at-end ∙ index-last w.got _);
                  after = s;
                  at_after = at;
                  got_it = record { process = q; own = own; in_call = refl; call = call; is_open = is; count = long ∙ ap suc (sym at-end) };
                }
          ]

-- What becomes of a process in a call: it is in the same call with as many words or more, or it has left it.
abbrev pub HasGone : Process → Process → Type 0
HasGone w q = (length (begun w) < length (begun q))
    ⊎ ((length (begun w) ≡ length (begun q)) × ((q.call ≡ None) ⊎ (length w.got ≤ length q.got)))

goes-on : (plan : Plan) (s : State) (w x q : Process) → HasGone w x → Goes plan s x q → HasGone w q
goes-on plan s w x q h (Same e) = subst (HasGone w) (sym e) h
goes-on plan s w x q (inl less) (Begins c none more empty now) = inl (omega (arith, less, more))
goes-on plan s w x q (inr h) (Begins c none more empty now) = inl (omega (arith, h.0, more))
goes-on plan s w x q (inl less) (Ends none same) = inl (omega (arith, less, same))
goes-on plan s w x q (inr h) (Ends none same) = inr (h.0 ∙ sym same, inl none)
goes-on plan s w x q (inl less) (Gets c a mark was now same asks got) = inl (omega (arith, less, ap (λ l. length l) same))
goes-on plan s w x q (inr h) (Gets c a mark was now same asks got) = inr (
  h.0 ∙ ap (λ l. length l) (sym same),
  inr (elim h.1 [
    | inl none ↦ absurd (none-some c (sym none ∙ was))
    | inr more ↦ omega (arith, more, ap (λ l. length l) got, length-append x.got (told a (slice_index s.words (word_of a)) ∷ []))
  ]),
)

at-place : (plan : Plan) (first : State) (schedule : List ℕ) (t u : ℕ) (s : State) → t ≡ u → At plan first schedule t s
    → At plan first schedule u s
at-place plan first schedule t u s e h = subst (λ k. At plan first schedule k s) e h

module _ (plan : Plan) (first : State) (schedule : List ℕ) (p : ℕ) where
  gone : (d t : ℕ) → t + d ≤ length schedule → (a b : State) → At plan first schedule t a
      → At plan first schedule (t + d) b → (w q : Process)
      → slice_get a.processes p ≡ Some w → slice_get b.processes p ≡ Some q → HasGone w q
  gone zero t l a b ha hb w q ow oq =
      let same : a ≡ b = same_Some a b (sym ha ∙ at-place plan first schedule (t + zero) t b (omega arith) hb) in
      let one : w ≡ q = same_Some w q (sym ow ∙ (ap (λ s. slice_get s.processes p) same ∙ oq)) in
      inr (ap (λ x. length (begun x)) one, inr (subst (λ x. length w.got ≤ length x.got) one (omega arith)))
  gone (suc d) t l a b ha hb w q ow oq =
      let m = at-before plan first schedule (t + d) b (omega (arith, l))
      (at-place plan first schedule (t + suc d) (suc (t + d)) b (omega arith) hb) in
      let x = went plan m.state b m.turn p q m.is oq in
      goes-on plan m.state w x.process q (gone d t (omega (arith, l)) a m.state ha m.at w x.process ow x.own) x.goes

  -- who has more words of a call is later
  pub ordered : (calls n m t u : ℕ) (a b : State) → t ≤ length schedule → u ≤ length schedule → At plan first schedule t a
      → At plan first schedule u b
      → HasGot calls n a p → HasGot calls m b p → m < n → u < t
  ordered calls n m t u a b lt lu ha hb ga gb less = elim (cases_lt u t) [
    | inl h ↦ h
    | inr later ↦ absurd (impossible (gone (u - t) t (omega (arith, later, lu)) a b ha (at-place plan first schedule u (t + (u - t)) b
        (omega (arith, later)) hb)
        ga.process gb.process ga.own gb.own))
  ]
    where
      impossible : HasGone ga.process gb.process → ⊥
      impossible (inl more) = omega (arith, more, ga.in_call, gb.in_call)
      impossible (inr h) = elim h.1 [
        | inl none ↦ none-some gb.call (sym none ∙ gb.is_open)
        | inr most ↦ omega (arith, most, ga.count, gb.count, less)
      ]
