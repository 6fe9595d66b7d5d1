-- Maps that are made of pairs.
use Rattle.follow_violations.proofs.Common.{Insert, Contents, after, put, value_at, ◌≡◌, ℕ, ◌+◌, ◌-◌, ◌<◌, ◌≤◌, ◌==◌, cond, ◌∷◌, length, get_or, drop}
use Rattle.follow_violations.proofs.Common.{Option, Some, None, sym, ap, ◌∙◌, subst, ⊎_elim, arith, cases_Bool, eqb-true, eqb-false, drop_more, ◌≢◌}
use Rattle.call_effects.proofs.ValueLemmas.{IsOut, in_or_out, value_left}
use Rattle.explain_shrink.proofs.AgreeLemmas.{put_value}

-- the value at a key after a put
put_at : (m : Contents) (own value key : ℕ) → value_at (put own value m) key ≡ value_at ((own, value) ∷ m) key
put_at m own value key = ⊎_elim
    (λ here. let is : own ≡ key = eqb-true own key here in
    subst (λ (k : ℕ). value_at (put own value m) k ≡ Some value) is (put_value m own value)
    ∙ sym (ap (λ t. cond t (Some value) (value_at m key)) here))
    (λ other. let apart : own ≢ key = eqb-false own key other in
    let out : IsOut own own key = ⊎_elim (λ inside. absurd (apart (omega (arith, inside.0, inside.1)))) (λ o. o) (in_or_out own own key) in
    value_left m (record { call = Insert own value; inv = 0; response = None }) key out
    ∙ sym (ap (λ t. cond t (Some value) (value_at m key)) other))
    (cases_Bool (own == key))

-- one insert more, of the pair before the others
pub inserted_more : (pairs : Contents) (at : ℕ) (d : ℕ × ℕ) (m new : Contents) → 0 < at → at ≤ length pairs
    → ((key : ℕ) → value_at m key ≡ value_at (drop at pairs) key)
    → new ≡ after m (Insert (get_or pairs (at - 1) d).0 (get_or pairs (at - 1) d).1)
    → (key : ℕ) → value_at new key ≡ value_at (drop (at - 1) pairs) key
inserted_more pairs at d m new some within so_far is key =
    let pair : ℕ × ℕ = get_or pairs (at - 1) d in
    let here : at - 1 < length pairs = omega arith in
    let next : at - 1 + 1 ≡ at = omega arith in
    let parts : drop (at - 1) pairs ≡ pair ∷ drop at pairs =
    drop_more pairs (at - 1) d here ∙ ap (λ (n : ℕ). pair ∷ drop n pairs) next in
    ap (λ (n : Contents). value_at n key) is
    ∙ (put_at m pair.0 pair.1 key ∙ (ap (λ (rest : Option ℕ). cond (pair.0 == key) (Some pair.1) rest) (so_far key)
    ∙ sym (ap (λ (n : Contents). value_at n key) parts)))
