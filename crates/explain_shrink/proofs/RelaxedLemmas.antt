-- An order of all calls is one of those that are left, where the others are taken out of it.
use Rattle.explain_shrink.proofs.Common.{◌≡◌, ℕ, ◌<◌, Bool, true, false, List, [], ◌∷◌, Option, Some, None, refl, sym, ap, ◌∙◌, subst, inl, inr, ⊎_elim}
use Rattle.explain_shrink.proofs.Common.{arith, ◌≢◌, ◌⊎◌, ◌==◌, nat_lt, is_some, ⊤, All, AllPairs, Contains, list_any, false≢true, and_parts, and_from}
use Rattle.explain_shrink.proofs.Common.{eqb-true, eq-eqb, ltb-true, All-head, All-tail, All-contains, Operation, Response, is_before, is_completed}
use Rattle.explain_shrink.proofs.Common.{precedes, low_key, Contents, IsRising, value_at, after, after_call, after_calls, IsLegalCall, IsLegal}
use Rattle.explain_shrink.proofs.Common.{KeepsPrecedence, IsLinearizable, AllPairs-nil, AllPairs-head, AllPairs-tail, All-from_contains, Contains-first}
use Rattle.explain_shrink.proofs.Common.{Contains-later, Contains-cases, Contains-nil, InvocationsRise, same_call, set_from_linearizable}
use Rattle.explain_shrink.proofs.Common.{linearizable_from_set, rising_kept, opened, says_put, put_of, is_sure, depends_on_value, tells_put_at, IsCallOf, IsLeftOut}
use Rattle.explain_shrink.proofs.Common.{IsRelaxed}
use Rattle.std.specs.Prelude.{◌&&◌}
use Rattle.std.proofs.lemmas.List.Kept.{AllPairs-cons}
use Rattle.explain_shrink.proofs.AnyLemmas.{any_of, found_any}
use Rattle.explain_shrink.proofs.AgreeLemmas.{Agree, IsBlind, IsAfter, IsStep, sure_answered, stays_step, open_step, gone_step}

-- ---- a call and what is left of it

-- what is left of a call was invoked at the same place
pub same_place : (a b : Operation) → IsCallOf a b → b.inv ≡ a.inv
same_place a b is = ⊎_elim (λ same. ap (λ (o : Operation). o.inv) same) (λ bare. ap (λ (o : Operation). o.inv) bare) is

-- its copy precedes no more calls
pub fewer_precede : (a b c d : Operation) → IsCallOf a c → IsCallOf b d → precedes b a ≡ false → precedes d c ≡ false
fewer_precede a b c d first second none = ⊎_elim
    (λ same. subst (λ (o : Operation). precedes o c ≡ false) (sym same)
    (subst (λ place. is_before b.response place ≡ false) (sym (same_place a c first)) none))
    (λ bare. subst (λ (o : Operation). precedes o c ≡ false) (sym bare) refl)
    second

-- what is left with an answer is the call itself
with_answer : (a b : Operation) → IsCallOf a b → is_completed b ≡ true → b ≡ a
with_answer a b is completed = ⊎_elim (λ same. same)
    (λ bare. absurd (false≢true (subst (λ (o : Operation). is_completed o ≡ true) bare completed))) is

-- ---- values that are overwritten before a call that is left reports them

-- whether a call is left, and says that it put something at a key
abbrev is_over : List Operation → Operation → ℕ → Bool
is_over others x key = list_any (λ (b : Operation). b.inv == x.inv) others && (says_put x && (low_key x.call == key))

-- no call of an order that is left reports a value at a key, until one overwrites it there
abbrev IsHidden : List Operation → List Operation → ℕ → Option ℕ → Type 0
IsHidden others [] key value = ⊤
IsHidden others (x ∷ order) key value =
    ((b : Operation) → Contains others b → IsCallOf x b → depends_on_value b key value ≡ false)
    × ((is_over others x key ≡ true) ⊎ IsHidden others order key value)

-- maps that agree until a call, and have the same values where it is over, agree after it
passed : (others : List Operation) (x : Operation) (order : List Operation) (m n : Contents) → Agree (IsHidden others (x ∷ order)) m n
    → ((key : ℕ) → is_over others x key ≡ true → value_at m key ≡ value_at n key) → Agree (IsHidden others order) m n
passed others x order m n agree same key = ⊎_elim
    (λ is. inl is)
    (λ hidden. ⊎_elim (λ over. inl (same key over)) (λ later. inr later) hidden.1)
    (agree key)

-- the first call of an order reports no value that is hidden
blind : (others : List Operation) (x : Operation) (order : List Operation) (b : Operation) → Contains others b → IsCallOf x b
    → IsBlind (IsHidden others (x ∷ order)) b
blind others x order b here is key value hidden = hidden.0 b here is

-- a call that reports a value, and one between that overwrites it at the key
record IsCovered (others rest : List Operation) (key : ℕ) (x : Operation) : Type 0 where
  by : Operation
  among : Contains rest by
  over : is_over others by key ≡ true
  before : precedes by x ≡ true
  earlier : by.inv < x.inv

abbrev AreCovered : List Operation → List Operation → ℕ → Option ℕ → Type 0
AreCovered others rest key value =
    (x b : Operation) → Contains rest x → Contains others b → IsCallOf x b → depends_on_value b key value ≡ true → IsCovered others rest key x

hidden_from : (others rest : List Operation) (key : ℕ) (value : Option ℕ) → KeepsPrecedence rest → AreCovered others rest key value
    → IsHidden others rest key value
hidden_from others [] key value precedence covered = tt
hidden_from others (y ∷ rest) key value precedence covered = (
  λ b here is. untold b here is (depends_on_value b key value) refl,
  by_over (λ less. hidden_from others rest key value (AllPairs-tail (λ a b. precedes b a ≡ false) y rest precedence) less)
      (is_over others y key) refl,
)
  where
    untold : (b : Operation) → Contains others b → IsCallOf y b → (t : Bool) → depends_on_value b key value ≡ t → depends_on_value b key value ≡ false
    untold b here is false e = e
    untold b here is true e =
        let c = covered y b (Contains-first y rest) here is e in
        absurd (⊎_elim
        (λ same. let place : y.inv ≡ c.by.inv = ap (λ (o : Operation). o.inv) same in let less = c.earlier in omega (arith, less, place))
        (λ later. false≢true (sym (All-contains (λ d. precedes d y ≡ false) rest c.by
        (AllPairs-head (λ a b. precedes b a ≡ false) y rest precedence) later) ∙ c.before))
        (Contains-cases y rest c.by c.among))

    fewer : is_over others y key ≡ false → AreCovered others rest key value
    fewer e x b x_is here is told =
        let c = covered x b (Contains-later y rest x x_is) here is told in
        ⊎_elim
        (λ same. absurd (false≢true (sym e ∙ (ap (λ (o : Operation). is_over others o key) same ∙ c.over))))
        (λ later. record { by = c.by; among = later; over = c.over; before = c.before; earlier = c.earlier })
        (Contains-cases y rest c.by c.among)

    by_over : (AreCovered others rest key value → IsHidden others rest key value) → (t : Bool) → is_over others y key ≡ t
        → (is_over others y key ≡ true) ⊎ IsHidden others rest key value
    by_over hide true e = inl e
    by_over hide false e = inr (hide (fewer e))

-- ---- an order, thinned

module _ (calls others : List Operation) (others_rise : InvocationsRise others) (relaxed : IsRelaxed calls others) where
  -- calls of the others, in an order of all, that are legal from some pairs
  record IsThinned (n : Contents) (order new : List Operation) : Type 0 where
    legal : IsLegal n new
    from : (b : Operation) → Contains new b → Contains others b × ((a : Operation) × Contains order a × IsCallOf a b)
    distinct : AllPairs (λ a b. a.inv ≢ b.inv) new
    precedence : KeepsPrecedence new
    complete : (b : Operation) → Contains others b → is_completed b ≡ true → (a : Operation) → Contains order a
        → b.inv ≡ a.inv → Contains new b

  thinned_none : (n : Contents) → IsThinned n [] []
  thinned_none n = record {
    legal = tt;
    from = λ b is. absurd (Contains-nil b is);
    distinct = AllPairs-nil (λ a b. a.inv ≢ b.inv);
    precedence = AllPairs-nil (λ a b. precedes b a ≡ false);
    complete = λ b is completed a a_is same. absurd (Contains-nil a a_is);
  }

  module _ (a : Operation) (order : List Operation) (distinct : AllPairs (λ a b. a.inv ≢ b.inv) (a ∷ order))
      (precedence : KeepsPrecedence (a ∷ order)) where
    -- the next call is taken
    taken : (n : Contents) (b : Operation) (new : List Operation) → Contains others b → IsCallOf a b → IsLegalCall n b.call b.response
        → IsThinned (after_call n b.call b.response) order new → IsThinned n (a ∷ order) (b ∷ new)
    taken n b new here is legal rest = record {
      legal = (legal, rest.legal);
      from = λ c c_is. ⊎_elim
          (λ same. subst (λ (o : Operation). Contains others o × ((a2 : Operation) × Contains (a ∷ order) a2 × IsCallOf a2 o)) same
          (here, (a, Contains-first a order, is)))
          (λ later. let found = rest.from c later in (found.0, (found.1.0, Contains-later a order found.1.0 found.1.1, found.1.2)))
          (Contains-cases b new c c_is);
      distinct = AllPairs-cons (λ a b. a.inv ≢ b.inv) b new (All-from_contains (λ c. b.inv ≢ c.inv) new (λ c c_is same.
          let found = rest.from c c_is in
          All-contains (λ d. a.inv ≢ d.inv) order found.1.0 (AllPairs-head (λ a b. a.inv ≢ b.inv) a order distinct) found.1.1
          (sym (same_place a b is) ∙ (same ∙ same_place found.1.0 c found.1.2)))) rest.distinct;
      precedence = AllPairs-cons (λ a b. precedes b a ≡ false) b new (All-from_contains (λ c. precedes c b ≡ false) new (λ c c_is.
          let found = rest.from c c_is in
          fewer_precede a found.1.0 b c is found.1.2
          (All-contains (λ d. precedes d a ≡ false) order found.1.0
          (AllPairs-head (λ a b. precedes b a ≡ false) a order precedence) found.1.1)))
          rest.precedence;
      complete = λ c c_is completed d d_is same. ⊎_elim
          (λ first.
          let place : c.inv ≡ b.inv = same ∙ (ap (λ (o : Operation). o.inv) (sym first) ∙ sym (same_place a b is)) in
          subst (Contains (b ∷ new)) (same_call others b c others_rise here c_is (sym place)) (Contains-first b new))
          (λ later. Contains-later b new c (rest.complete c c_is completed d later same))
          (Contains-cases a order d d_is);
    }

    -- no completed call is left of the next call, so it is passed
    skipped : (n : Contents) (new : List Operation) → ((c : Operation) → Contains others c → is_completed c ≡ true → c.inv ≡ a.inv → ⊥)
        → IsThinned n order new → IsThinned n (a ∷ order) new
    skipped n new none rest = record {
      legal = rest.legal;
      from = λ c c_is. let found = rest.from c c_is in (found.0, (found.1.0, Contains-later a order found.1.0 found.1.1, found.1.2));
      distinct = rest.distinct;
      precedence = rest.precedence;
      complete = λ c c_is completed d d_is same. ⊎_elim
          (λ first. absurd (none c c_is completed (same ∙ ap (λ (o : Operation). o.inv) (sym first))))
          (λ later. rest.complete c c_is completed d later same)
          (Contains-cases a order d d_is);
    }

  -- if what is left of a call has no answer, no other is left of it
  open_alone : (a b : Operation) → Contains others b → b ≡ opened a → (c : Operation) → Contains others c → is_completed c ≡ true
      → c.inv ≡ a.inv → ⊥
  open_alone a b here bare c c_is completed same =
      let is : b ≡ c = same_call others b c others_rise here c_is (ap (λ (o : Operation). o.inv) bare ∙ sym same) in
      false≢true (subst (λ (o : Operation). is_completed o ≡ true) (sym is ∙ bare) completed)

  -- the calls that one of an order precedes are in it
  abbrev IsClosed : List Operation → Type 0
  IsClosed order = (a c : Operation) → Contains order a → Contains calls c → is_completed c ≡ true → precedes a c ≡ true → Contains order c

  -- each legal list of the calls is thinned
  abbrev IsThinnable : List Operation → Type 0
  IsThinnable order = (m n : Contents) → IsRising m → IsRising n → Agree (IsHidden others order) m n → IsLegal m order
      → (new : List Operation) × IsThinned n order new

  module _ (a : Operation) (order : List Operation) (distinct : AllPairs (λ a b. a.inv ≢ b.inv) (a ∷ order))
      (precedence : KeepsPrecedence (a ∷ order)) (known : All (Contains calls) (a ∷ order)) (closed : IsClosed (a ∷ order))
      (rest : IsThinnable order) (m n : Contents) (m_rises : IsRising m) (n_rises : IsRising n)
      (agree : Agree (IsHidden others (a ∷ order)) m n) (legal : IsLegal m (a ∷ order)) where
    abbrev next : Contents
    next = after_call m a.call a.response

    next_rises : IsRising next
    next_rises = rising_kept m a m_rises

    -- the maps after the call agree after it
    follows : (other : Contents) → IsAfter (IsHidden others (a ∷ order)) a.call a.response next other
        → Agree (IsHidden others order) next other
    follows other step = passed others a order next other step.agree (λ key over.
        let parts = (and_parts (list_any (λ (b : Operation). b.inv == a.inv) others) (says_put a && (low_key a.call == key)) over).1 in
        let says = and_parts (says_put a) (low_key a.call == key) parts in
        subst (λ k. value_at next k ≡ value_at other k) (eqb-true (low_key a.call) key says.1) (step.same says.0))

    -- without its answer, where it is done and where it is not
    thinned_open : Contains others (opened a) → (new : List Operation) × IsThinned n (a ∷ order) new
    thinned_open here = ⊎_elim
        (λ both.
        let later = rest next (after n a.call) next_rises (rising_kept n (opened a) n_rises) (follows (after n a.call) both) legal.1 in
        (opened a ∷ later.0, taken a order distinct precedence n (opened a) later.0 here (inr refl) tt later.1))
        (λ one.
        let later = rest next n next_rises n_rises (follows n one) legal.1 in
        (later.0, skipped a order distinct precedence n later.0 (open_alone a (opened a) here refl) later.1))
        (open_step (IsHidden others (a ∷ order)) m n a.call a.inv a.response (blind others a order (opened a) here (inr refl)) legal.0
        agree)

    -- with its answer
    thinned_same : (response : Option Response) → a.response ≡ response → Contains others a → (new : List Operation)
        × IsThinned n (a ∷ order) new
    thinned_same None is here =
        thinned_open (subst (Contains others) (ap (λ (r : Option Response). record { call = a.call; inv = a.inv; response = r }) is) here)
    thinned_same (Some r) is here = completed
      where
        a_is : a ≡ record { call = a.call; inv = a.inv; response = Some (record { res = r.res; reply = r.reply }) }
        a_is = ap (λ (r : Option Response). record { call = a.call; inv = a.inv; response = r }) is

        step : IsStep (IsHidden others (a ∷ order)) m n a.call (Some (record { res = r.res; reply = r.reply }))
        step = stays_step (IsHidden others (a ∷ order)) m n a.call a.inv r.res r.reply
            (subst (IsBlind (IsHidden others (a ∷ order))) a_is (blind others a order a here (inl refl))) m_rises n_rises
            (subst (λ (s : Option Response). IsLegalCall m a.call s) is legal.0) agree

        completed : (new : List Operation) × IsThinned n (a ∷ order) new
        completed =
            let Hidden = IsHidden others (a ∷ order) in
            let agreed : IsAfter Hidden a.call a.response (after_call m a.call a.response) (after_call n a.call a.response) =
            subst (λ (s : Option Response). IsAfter Hidden a.call s (after_call m a.call s) (after_call n a.call s)) (sym is)
            step.follows in
            let fits : IsLegalCall n a.call a.response = subst (λ (s : Option Response). IsLegalCall n a.call s) (sym is) step.legal in
            let later = rest next (after_call n a.call a.response) next_rises (rising_kept n a n_rises)
            (follows (after_call n a.call a.response) agreed) legal.1 in
            (a ∷ later.0, taken a order distinct precedence n a later.0 here (inl refl) fits later.1)

    -- a call that is left out is over nowhere
    gone_over : IsLeftOut calls others a → (key : ℕ) → is_over others a key ≡ true → ⊥
    gone_over gone key over =
        let found = found_any (λ (b : Operation). b.inv == a.inv) others
        (and_parts (list_any (λ (b : Operation). b.inv == a.inv) others) (says_put a && (low_key a.call == key)) over).0 in
        gone.absent found.0 found.1 (eqb-true found.0.inv a.inv found.2)

    -- what a call that is left out puts is hidden after it
    gone_covered : IsLeftOut calls others a → (value : Option ℕ) → put_of a.call a.response ≡ Some value
        → AreCovered others order (low_key a.call) value
    gone_covered gone value put x b x_is here is told = ⊎_elim
        (λ before. absurd (false≢true (sym (All-contains (λ d. precedes d a ≡ false) order x
        (AllPairs-head (λ a b. precedes b a ≡ false) a order precedence) x_is) ∙ before)))
        (λ o.
        let outer = and_parts (precedes a o.by && precedes o.by x) (nat_lt o.by.inv x.inv && (low_key o.by.call == low_key a.call))
        o.between in
        let times = and_parts (precedes a o.by) (precedes o.by x) outer.0 in
        let places = and_parts (nat_lt o.by.inv x.inv) (low_key o.by.call == low_key a.call) outer.1 in
        let place = same_place o.by o.stays.0 o.stays.2 in
        record {
          by = o.by;
          among = ⊎_elim
              (λ same. absurd (gone.absent o.stays.0 o.stays.1 (place ∙ sym (ap (λ (p : Operation). p.inv) same))))
              (λ later. later)
              (Contains-cases a order o.by (closed a o.by (Contains-first a order) o.known
              (sure_answered o.by.call o.by.response
              (and_parts (is_some (put_of o.by.call o.by.response)) (is_sure o.by.call o.by.response) o.puts).1) times.0));
          over = and_from (list_any (λ (b : Operation). b.inv == o.by.inv) others) (says_put o.by && (low_key o.by.call == low_key a.call))
              (any_of (λ (b : Operation). b.inv == o.by.inv) others o.stays.0 o.stays.1 (eq-eqb o.stays.0.inv o.by.inv place))
              (and_from (says_put o.by) (low_key o.by.call == low_key a.call) o.puts places.1);
          before = times.1;
          earlier = ltb-true o.by.inv x.inv places.0;
        })
        (gone.untold x b (All-contains (Contains calls) order x (All-tail (Contains calls) a order known) x_is) here is
        (subst (λ (p : Option (Option ℕ)). tells_put_at b (low_key a.call) p ≡ true) (sym put) told))

    thinned_gone : IsLeftOut calls others a → (new : List Operation) × IsThinned n (a ∷ order) new
    thinned_gone gone =
        let hides : (value : Option ℕ) → put_of a.call a.response ≡ Some value → IsHidden others order (low_key a.call) value =
        λ value put. hidden_from others order (low_key a.call) value (AllPairs-tail (λ a b. precedes b a ≡ false) a order precedence)
        (gone_covered gone value put) in
        let behind = passed others a order m n agree (λ key over. absurd (gone_over gone key over)) in
        let later = rest next n next_rises n_rises
        (gone_step (IsHidden others order) m n a.call a.response m_rises legal.0 hides behind) legal.1 in
        (later.0, skipped a order distinct precedence n later.0 (λ c c_is completed same. gone.absent c c_is same) later.1)

    thinned_more : ((b : Operation) × Contains others b × IsCallOf a b) ⊎ IsLeftOut calls others a → (new : List Operation)
        × IsThinned n (a ∷ order) new
    thinned_more each = ⊎_elim
        (λ left. ⊎_elim
        (λ same. thinned_same a.response refl (subst (Contains others) same left.1))
        (λ bare. thinned_open (subst (Contains others) bare left.1))
        left.2)
        (λ gone. thinned_gone gone)
        each

  closed_tail : (a : Operation) (order : List Operation) → KeepsPrecedence (a ∷ order) → IsClosed (a ∷ order) → IsClosed order
  closed_tail a order precedence closed b c b_is c_known completed before = ⊎_elim
      (λ same. absurd (false≢true (sym (All-contains (λ d. precedes d a ≡ false) order b
      (AllPairs-head (λ a b. precedes b a ≡ false) a order precedence) b_is)
      ∙ subst (λ (o : Operation). precedes b o ≡ true) (sym same) before)))
      (λ later. later)
      (Contains-cases a order c (closed b c (Contains-later a order b b_is) c_known completed before))

  thinned : (order : List Operation) → All (Contains calls) order → AllPairs (λ a b. a.inv ≢ b.inv) order → KeepsPrecedence order
      → IsClosed order → IsThinnable order
  thinned [] known distinct precedence closed m n m_rises n_rises agree legal = ([], thinned_none n)
  thinned (a ∷ order) known distinct precedence closed m n m_rises n_rises agree legal =
      thinned_more a order distinct precedence known closed
      (thinned order (All-tail (Contains calls) a order known) (AllPairs-tail (λ a b. a.inv ≢ b.inv) a order distinct)
      (AllPairs-tail (λ a b. precedes b a ≡ false) a order precedence) (closed_tail a order precedence closed))
      m n m_rises n_rises agree legal (relaxed.each a (All-head (Contains calls) a order known))

pub relaxed_order : (start : Contents) (calls others : List Operation) → IsRising start → InvocationsRise calls → InvocationsRise others
    → IsRelaxed calls others → IsLinearizable start calls → IsLinearizable start others
relaxed_order start calls others rising calls_rise others_rise relaxed h =
    let (left, (order, o, is)) = set_from_linearizable start calls calls_rise h in
    let (new, t) =
    thinned calls others others_rise relaxed order o.known o.distinct o.precedence
    (λ a c a_is c_known completed before. o.complete c c_known completed) start start rising rising (λ key. inl refl) o.legal in
    linearizable_from_set start others others_rise (
      after_calls start new,
      (
        new,
        record {
          known = All-from_contains (Contains others) new (λ b b_is. (t.from b b_is).0);
          distinct = t.distinct;
          precedence = t.precedence;
          legal = t.legal;
          complete = λ b b_is completed.
              let found = relaxed.from b b_is in
              let same = with_answer found.0 b found.2 completed in
              t.complete b b_is completed found.0
              (o.complete found.0 found.1 (subst (λ (x : Operation). is_completed x ≡ true) same completed))
              (ap (λ (x : Operation). x.inv) same);
        },
        refl,
      ),
    )
