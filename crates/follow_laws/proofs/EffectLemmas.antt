-- What a call does to a map, key by key.
use Rattle.events.specs.declared.event.Reply.TheVariants as replies
use Rattle.follow_laws.proofs.Common.{◌≡◌, ℕ, ◌<◌, ◌≤◌, ◌==◌, ◌&&◌, ◌++◌, nat_le, Bool, true, false, cond, List, [], ◌∷◌, map, Option, Some, None}
use Rattle.follow_laws.proofs.Common.{inl, inr, refl, sym, ap, ◌∙◌, subst, ⊎_elim, arith, ◌⊎◌, ◌↔◌, All, eqb-true, eq-eqb, leb-true, le-leb}
use Rattle.follow_laws.proofs.Common.{and_parts, and_from, All-nil, All-cons, All-head, All-tail, All-weaker, filter_all, Call, Get, Insert, Remove}
use Rattle.follow_laws.proofs.Common.{Scan, Replace, Reply, Operation, Response, Contents, IsRising, value_at, within, below, above, put, is_just}
use Rattle.follow_laws.proofs.Common.{value_reply, reply_to, after, after_reply, IsAllOrPartOf, IsLegalReply, after_call, IsLegalCall, IsLegal}
use Rattle.follow_laws.proofs.Common.{value_after, value_after_reply, Effect, no_effect, is_same_value, is_answer, point_effect, told_effect}
use Rattle.follow_laws.proofs.Common.{effect_of_key, effect_at, read_of, keyed, FitInTurn, ArePairsOf, HasForm, HaveForms, low_key, high_key, IsOut}
use Rattle.follow_laws.proofs.Common.{same_within, within_rises, within_bounds, value_left, rising_kept}
use Rattle.map_object.proofs.MapLemmas.{AreBelow-below, AreAbove-above, value_at_found, value_at_gap}
use Rattle.orders.proofs.RangeLemmas.{value_at-within, in_range, in_range_from}

-- ---- answers

-- a value or none may be answered so exactly if it passes
answers : (call : Call) (reply : Reply) (value : Option ℕ)
    → ((reply ≡ replies.Refused) ⊎ IsAllOrPartOf call (value_reply value) reply) ↔ (is_answer call reply value ≡ true)
answers call replies.None None = (λ h. refl, λ h. inr refl)
answers call replies.None (Some x) = (λ h. ⊎_elim (λ e. cc) (λ e. cc) h, λ h. cc)
answers call (replies.Some told) None = (λ h. ⊎_elim (λ e. cc) (λ e. cc) h, λ h. cc)
answers call (replies.Some told) (Some x) = (
  λ h. ⊎_elim (λ e. cc) (λ e. let same : told ≡ x = cc in eq-eqb x told (sym same)) h,
  λ h. inr (ap replies.Some (sym (eqb-true x told h))),
)
answers call (replies.Pairs pairs) None = (λ h. ⊎_elim (λ e. cc) (λ e. cc) h, λ h. cc)
answers call (replies.Pairs pairs) (Some x) = (λ h. ⊎_elim (λ e. cc) (λ e. cc) h, λ h. cc)
answers call replies.Refused value = (λ h. refl, λ h. inl refl)
answers call replies.Done value = (λ h. refl, λ h. inr tt)
answers call replies.Found None = (λ h. ⊎_elim (λ e. cc) (λ e. e) h, λ h. inr h)
answers call replies.Found (Some x) = (λ h. ⊎_elim (λ e. cc) (λ e. e) h, λ h. inr h)
answers call replies.Other value = (λ h. ⊎_elim (λ e. cc) (λ e. e) h, λ h. inr h)

pub same_values : (a b : Option ℕ) → (is_same_value a b ≡ true) ↔ (a ≡ b)
same_values None None = (λ h. refl, λ h. refl)
same_values None (Some b) = (λ h. cc, λ h. cc)
same_values (Some a) None = (λ h. cc, λ h. cc)
same_values (Some a) (Some b) = (λ h. ap Some (eqb-true a b h), λ h. let same : a ≡ b = cc in eq-eqb a b same)

-- ---- calls of one key

put_value : (m : Contents) (key value : ℕ) → value_at (put key value m) key ≡ Some value
put_value m key value = value_at_found key value (below key m) (above key m) (AreBelow-below m key) (AreAbove-above m key)

removed_value : (m : Contents) (key : ℕ) → value_at (below key m ++ above key m) key ≡ None
removed_value m key = value_at_gap key (below key m) (above key m) (AreBelow-below m key) (AreAbove-above m key)

replaced_value : (m : Contents) (key value : ℕ) (b : Bool) → value_at (cond b (put key value m) m) key ≡ cond b (Some value) (value_at m key)
replaced_value m key value true = put_value m key value
replaced_value m key value false = refl

-- a call of one key
abbrev pub IsPoint : ℕ → Call → Type 0
IsPoint own (Get key) = key ≡ own
IsPoint own (Insert key value) = key ≡ own
IsPoint own (Remove key) = key ≡ own
IsPoint own (Scan low high) = ⊥
IsPoint own (Replace key expected value) = key ≡ own

after_point : (m : Contents) (own : ℕ) (call : Call) → IsPoint own call → value_at (after m call) own ≡ value_after (value_at m own) call
after_point m own (Get key) is = refl
after_point m own (Insert key value) is = subst (λ (k : ℕ). value_at (put key value m) k ≡ Some value) is (put_value m key value)
after_point m own (Remove key) is = subst (λ (k : ℕ). value_at (below key m ++ above key m) k ≡ None) is (removed_value m key)
after_point m own (Scan low high) is = absurd is
after_point m own (Replace key expected value) is =
    subst (λ (k : ℕ). value_at (cond (is_just (value_at m key) expected) (put key value m) m) k
    ≡ cond (is_just (value_at m k) expected) (Some value) (value_at m k)) is
    (replaced_value m key value (is_just (value_at m key) expected))

after_point_reply : (m : Contents) (own : ℕ) (call : Call) (reply : Reply) → IsPoint own call
    → value_at (after_reply m call reply) own ≡ value_after_reply (value_at m own) call reply
after_point_reply m own call replies.None is = after_point m own call is
after_point_reply m own call (replies.Some value) is = after_point m own call is
after_point_reply m own call (replies.Pairs pairs) is = after_point m own call is
after_point_reply m own call replies.Refused is = refl
after_point_reply m own call replies.Done is = after_point m own call is
after_point_reply m own call replies.Found is = after_point m own call is
after_point_reply m own call replies.Other is = after_point m own call is

point_leaves : (m : Contents) (own : ℕ) (call : Call) (response : Option Response) → IsPoint own call
    → value_at (after_call m call response) own ≡ (point_effect call response).leaves (value_at m own)
point_leaves m own call None is = after_point m own call is
point_leaves m own call (Some response) is = after_point_reply m own call response.reply is

reply_point : (m : Contents) (own : ℕ) (call : Call) → IsPoint own call → reply_to m call ≡ value_reply (value_at m own)
reply_point m own (Get key) is = ap (λ (k : ℕ). value_reply (value_at m k)) is
reply_point m own (Insert key value) is = ap (λ (k : ℕ). value_reply (value_at m k)) is
reply_point m own (Remove key) is = ap (λ (k : ℕ). value_reply (value_at m k)) is
reply_point m own (Scan low high) is = absurd is
reply_point m own (Replace key expected value) is = ap (λ (k : ℕ). value_reply (value_at m k)) is

point_fits : (m : Contents) (own : ℕ) (call : Call) (response : Option Response) → IsPoint own call
    → IsLegalCall m call response ↔ ((point_effect call response).fits (value_at m own) ≡ true)
point_fits m own call None is = (λ h. refl, λ h. tt)
point_fits m own call (Some response) is =
    let both = answers call response.reply (value_at m own) in
    let whole = reply_point m own call is in (
      λ h. both.0 (subst (λ (w : Reply). (response.reply ≡ replies.Refused) ⊎ IsAllOrPartOf call w response.reply) whole h),
      λ h. subst (λ (w : Reply). (response.reply ≡ replies.Refused) ⊎ IsAllOrPartOf call w response.reply) (sym whole) (both.1 h),
    )

-- what a call is at each key, if it is a call of one key
pub record IsStep (m : Contents) (a : Operation) : Type 0 where
  pub fits : IsLegalCall m a.call a.response
      ↔ (HasForm a.call a.response × ((key : ℕ) → ((effect_at a.call a.response key).fits (value_at m key) ≡ true)))
  pub leaves : (key : ℕ) → value_at (after_call m a.call a.response) key ≡ (effect_at a.call a.response key).leaves (value_at m key)

key_cases : (own key : ℕ) → (own ≡ key) ⊎ ((key < own) ⊎ (own < key))
key_cases own key = grind arith

point_at : (m : Contents) (own : ℕ) (call : Call) (response : Option Response) (key : ℕ) → IsPoint own call → IsLegalCall m call response
    → (effect_of_key own call response key).fits (value_at m key) ≡ true
point_at m own call response key is legal = by_test (own == key) refl
  where
    by_test : (b : Bool) → (own == key) ≡ b → (cond (own == key) (point_effect call response) no_effect).fits (value_at m key) ≡ true
    by_test true e = rw e (subst (λ (k : ℕ). (point_effect call response).fits (value_at m k) ≡ true) (eqb-true own key e)
        ((point_fits m own call response is).0 legal))
    by_test false e = rw e refl

point_from : (m : Contents) (own : ℕ) (call : Call) (response : Option Response) → IsPoint own call
    → (effect_of_key own call response own).fits (value_at m own) ≡ true → IsLegalCall m call response
point_from m own call response is fits =
    let same : (own == own) ≡ true = eq-eqb own own refl in (point_fits m own call response is).1 (rw same at fits)

point_left : (m : Contents) (own : ℕ) (call : Call) (response : Option Response) (key : ℕ) → IsPoint own call
    → ((key : ℕ) → (key < own) ⊎ (own < key) → value_at (after_call m call response) key ≡ value_at m key)
    → value_at (after_call m call response) key ≡ (effect_of_key own call response key).leaves (value_at m key)
point_left m own call response key is elsewhere = by_test (own == key) refl
  where
    by_test : (b : Bool) → (own == key) ≡ b
        → value_at (after_call m call response) key ≡ (cond (own == key) (point_effect call response) no_effect).leaves (value_at m key)
    by_test true e = rw e (subst (λ (k : ℕ). value_at (after_call m call response) k ≡ (point_effect call response).leaves (value_at m k))
        (eqb-true own key e) (point_leaves m own call response is))
    by_test false e = rw e (⊎_elim (λ same. let never : (own == key) ≡ true = eq-eqb own key same in cc) (λ out. elsewhere key out) (key_cases own key))

-- ---- scans

-- pairs of a range have no values outside it, and are all within it
pairs_within : (low high : ℕ) (pairs : Contents) → All (λ pair. (low ≤ pair.0) × (pair.0 ≤ high)) pairs → within low high pairs ≡ pairs
pairs_within low high pairs inside =
    filter_all (λ (pair : ℕ × ℕ). in_range low high pair.0) pairs
    (All-weaker (λ (pair : ℕ × ℕ). (low ≤ pair.0) × (pair.0 ≤ high)) (λ (pair : ℕ × ℕ). in_range low high pair.0 ≡ true)
    (λ pair h. in_range_from low high pair.0 h.0 h.1) pairs inside)

scan_fits : (m : Contents) (low high : ℕ) (pairs : Contents) → IsRising m → within low high m ≡ pairs → (key : ℕ)
    → (told_effect low high (replies.Pairs pairs) key).fits (value_at m key) ≡ true
scan_fits m low high pairs rising found key = by_test (nat_le low key && nat_le key high) refl
  where
    by_test : (b : Bool) → (nat_le low key && nat_le key high) ≡ b
        → (cond (nat_le low key && nat_le key high) (read_of (value_at pairs key)) no_effect).fits (value_at m key) ≡ true
    by_test false e = rw e refl
    by_test true e =
        let parts = and_parts (nat_le low key) (nat_le key high) e in
        let same : value_at pairs key ≡ value_at m key =
        ap (λ (n : Contents). value_at n key) (sym found) ∙ value_at-within low high m key (leb-true low key parts.0) (leb-true key high parts.1) in
        rw e ((same_values (value_at pairs key) (value_at m key)).1 same)

scan_finds : (m : Contents) (low high : ℕ) (pairs : Contents) → IsRising m → ArePairsOf low high pairs
    → ((key : ℕ) → (told_effect low high (replies.Pairs pairs) key).fits (value_at m key) ≡ true) → within low high m ≡ pairs
scan_finds m low high pairs rising form fits =
    same_within low high m pairs rising form.rising (λ key above_low below_high.
    let e : (nat_le low key && nat_le key high) ≡ true =
    and_from (nat_le low key) (nat_le key high) (le-leb low key above_low) (le-leb key high below_high) in
    let here : (cond (nat_le low key && nat_le key high) (read_of (value_at pairs key)) no_effect).fits (value_at m key) ≡ true = fits key in
    let told : is_same_value (value_at pairs key) (value_at m key) ≡ true = rw e at here in
    sym ((same_values (value_at pairs key) (value_at m key)).0 told))
    ∙ pairs_within low high pairs form.within

scan_left : (m : Contents) (low high : ℕ) (reply : Reply) (key : ℕ) → value_at (after_reply m (Scan low high) reply) key
    ≡ (told_effect low high reply key).leaves (value_at m key)
scan_left m low high replies.None key = refl
scan_left m low high (replies.Some value) key = refl
scan_left m low high (replies.Pairs pairs) key = by_test (nat_le low key && nat_le key high)
  where
    by_test : (b : Bool) → value_at m key ≡ (cond b (read_of (value_at pairs key)) no_effect).leaves (value_at m key)
    by_test true = refl
    by_test false = refl
scan_left m low high replies.Refused key = refl
scan_left m low high replies.Done key = refl
scan_left m low high replies.Found key = refl
scan_left m low high replies.Other key = refl

scan_reply : (m : Contents) (low high : ℕ) (response : Response) → IsRising m
    → IsLegalReply m (Scan low high) response.reply
    ↔ (HasForm (Scan low high) (Some response) × ((key : ℕ) → (told_effect low high response.reply key).fits (value_at m key) ≡ true))
scan_reply m low high response rising = by_reply response.reply refl
  where
    by_reply : (reply : Reply) → response.reply ≡ reply
        → IsLegalReply m (Scan low high) response.reply
        ↔ (HasForm (Scan low high) (Some response) × ((key : ℕ) → (told_effect low high response.reply key).fits (value_at m key) ≡ true))
    by_reply replies.None e = rw e (λ h. ⊎_elim (λ f. cc) (λ f. cc) h, λ h. absurd h.0)
    by_reply (replies.Some value) e = rw e (λ h. ⊎_elim (λ f. cc) (λ f. cc) h, λ h. absurd h.0)
    by_reply (replies.Pairs pairs) e = rw e (
      λ h. ⊎_elim (λ f. cc)
          (λ f. let found : within low high m ≡ pairs = cc in (
            subst (λ (p : Contents). ArePairsOf low high p) found (record { rising = within_rises low high m rising; within = within_bounds low high m }),
            scan_fits m low high pairs rising found,
          )) h,
      λ h. inr (ap replies.Pairs (sym (scan_finds m low high pairs rising h.0 h.1))),
    )
    by_reply replies.Refused e = rw e (λ h. (tt, λ key. refl), λ h. inl refl)
    by_reply replies.Done e = rw e (λ h. (tt, λ key. refl), λ h. inr tt)
    by_reply replies.Found e = rw e (λ h. ⊎_elim (λ f. cc) (λ f. cc) h, λ h. absurd h.0)
    by_reply replies.Other e = rw e (λ h. ⊎_elim (λ f. cc) (λ f. cc) h, λ h. absurd h.0)

-- ---- each call

step_of_point : (m : Contents) (a : Operation) (own : ℕ) → IsPoint own a.call
    → ((key : ℕ) → effect_at a.call a.response key ≡ effect_of_key own a.call a.response key) → HasForm a.call a.response
    → ((key : ℕ) → (key < own) ⊎ (own < key) → value_at (after_call m a.call a.response) key ≡ value_at m key) → IsStep m a
step_of_point m a own is effects form elsewhere = record {
  fits = (
    λ legal. (
      form,
      λ key. subst (λ (e : Effect). e.fits (value_at m key) ≡ true) (sym (effects key))
          (point_at m own a.call a.response key is legal),
    ),
    λ h. point_from m own a.call a.response is (subst (λ (e : Effect). e.fits (value_at m own) ≡ true) (effects own) (h.1 own)),
  );
  leaves = λ key. subst (λ (e : Effect). value_at (after_call m a.call a.response) key ≡ e.leaves (value_at m key)) (sym (effects key))
      (point_left m own a.call a.response key is elsewhere);
}

pub step_of : (m : Contents) (a : Operation) → IsRising m → IsStep m a
step_of m a rising = by_call a.call a.response a.inv (λ key out. value_left m (record { call = a.call; inv = a.inv; response = a.response }) key out)
  where
    by_call : (call : Call) (response : Option Response) (inv : ℕ)
        → ((key : ℕ) → IsOut (low_key call) (high_key call) key
        → value_at (after_call m call response) key ≡ value_at m key)
        → IsStep m (record { call = call; inv = inv; response = response })
    by_call (Get own) response inv elsewhere = step_of_point m (record { call = Get own; inv = inv; response = response }) own refl (λ key. refl) tt elsewhere
    by_call (Insert own value) response inv elsewhere =
        step_of_point m (record { call = Insert own value; inv = inv; response = response }) own refl (λ key. refl) tt elsewhere
    by_call (Remove own) response inv elsewhere =
        step_of_point m (record { call = Remove own; inv = inv; response = response }) own refl (λ key. refl) tt elsewhere
    by_call (Replace own expected value) response inv elsewhere =
        step_of_point m (record { call = Replace own expected value; inv = inv; response = response }) own refl (λ key. refl) tt elsewhere
    by_call (Scan low high) None inv elsewhere = record { fits = (λ h. (tt, λ key. refl), λ h. tt); leaves = λ key. refl }
    by_call (Scan low high) (Some response) inv elsewhere = record {
      fits = scan_reply m low high response rising;
      leaves = λ key. scan_left m low high response.reply key;
    }

-- ---- calls one after another

pub legal_fits : (calls : List Operation) (m : Contents) → IsRising m → IsLegal m calls
    → HaveForms calls × ((key : ℕ) → FitInTurn key (value_at m key) (map keyed calls))
legal_fits [] m rising legal = (All-nil (λ a. HasForm a.call a.response), λ key. tt)
legal_fits (a ∷ calls) m rising legal =
    let step = step_of m a rising in
    let first = step.fits.0 legal.0 in
    let rest = legal_fits calls (after_call m a.call a.response) (rising_kept m a rising) legal.1 in (
      All-cons (λ b. HasForm b.call b.response) a calls first.0 rest.0,
      λ key. (first.1 key, subst (λ (v : Option ℕ). FitInTurn key v (map keyed calls)) (step.leaves key) (rest.1 key)),
    )

pub fits_legal : (calls : List Operation) (m : Contents) → IsRising m → HaveForms calls
    → ((key : ℕ) → FitInTurn key (value_at m key) (map keyed calls)) → IsLegal m calls
fits_legal [] m rising forms fit = tt
fits_legal (a ∷ calls) m rising forms fit =
    let step = step_of m a rising in (
      step.fits.1 (All-head (λ b. HasForm b.call b.response) a calls forms, λ key. (fit key).0),
      fits_legal calls (after_call m a.call a.response) (rising_kept m a rising) (All-tail (λ b. HasForm b.call b.response) a calls forms)
          (λ key. subst (λ (v : Option ℕ). FitInTurn key v (map keyed calls)) (sym (step.leaves key)) (fit key).1),
    )
