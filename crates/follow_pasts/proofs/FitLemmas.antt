-- Answers that fit what a call found at its key.
use Rattle.events.specs.declared.event.Reply.TheVariants as replies
use Rattle.follow_pasts.proofs.Common.{◌≡◌, ℕ, ◌==◌, Bool, true, false, cond, Option, Some, None, inl, inr, refl, sym, ap, ⊎_elim, ◌⊎◌, ◌↔◌, IsTrue}
use Rattle.follow_pasts.proofs.Common.{Call, Get, Insert, Remove, Scan, Replace, Response, low_key, may_change, value_reply, IsAllOrPartOf, no_effect}
use Rattle.follow_pasts.proofs.Common.{is_answer, point_effect, effect_at}
use Rattle.std.proofs.Common.{eq-eqb, eqb-true}
use Rattle.events.specs.declared.event.Reply.{Reply}
use Rattle.call_effects.specs.Values.{MayBeAnswered}

-- a value or none may be answered so exactly if it passes
answers : (call : Call) (reply : Reply) (value : Option ℕ)
    → ((reply ≡ replies.Refused) ⊎ IsAllOrPartOf call (value_reply value) reply) ↔ (is_answer call reply value ≡ true)
answers call replies.None None = (λ h. refl, λ h. inr refl)
answers call replies.None (Some x) = (λ h. ⊎_elim (λ e. cc) (λ e. cc) h, λ h. cc)
answers call (replies.Some told) None = (λ h. ⊎_elim (λ e. cc) (λ e. cc) h, λ h. cc)
answers call (replies.Some told) (Some x) = (
  λ h. ⊎_elim (λ e. cc) (λ e. let same : told ≡ x = cc in eq-eqb x told (sym same)) h,
  λ h. inr (ap replies.Some (sym (eqb-true x told h))),
)
answers call (replies.Pairs pairs) None = (λ h. ⊎_elim (λ e. cc) (λ e. cc) h, λ h. cc)
answers call (replies.Pairs pairs) (Some x) = (λ h. ⊎_elim (λ e. cc) (λ e. cc) h, λ h. cc)
answers call replies.Refused value = (λ h. refl, λ h. inl refl)
answers call replies.Done value = (λ h. refl, λ h. inr tt)
answers call replies.Found None = (λ h. ⊎_elim (λ e. cc) (λ e. e) h, λ h. inr h)
answers call replies.Found (Some x) = (λ h. ⊎_elim (λ e. cc) (λ e. e) h, λ h. inr h)
answers call replies.Other value = (λ h. ⊎_elim (λ e. cc) (λ e. e) h, λ h. inr h)

same_bools : (a b : Bool) → (a ≡ true → b ≡ true) → (b ≡ true → a ≡ true) → a ≡ b
same_bools true true there back = refl
same_bools true false there back = sym (there refl)
same_bools false true there back = back refl
same_bools false false there back = refl

point_fits : (call : Call) (response : Option Response) (value : Option ℕ) (b : Bool) → IsTrue b ↔ MayBeAnswered value call response
    → b ≡ (point_effect call response).fits value
point_fits call None value b says = says.1 tt
point_fits call (Some response) value b says =
    let same = answers call response.reply value in
    same_bools b (is_answer call response.reply value) (λ is. same.0 (says.0 is)) (λ is. says.1 (same.1 is))

own_fits : (own : ℕ) (call : Call) (response : Option Response) (value : Option ℕ) (b : Bool) → IsTrue b ↔ MayBeAnswered value call response
    → b ≡ (cond (own == own) (point_effect call response) no_effect).fits value
own_fits own call response value b says = rw (eq-eqb own own refl) (point_fits call response value b says)

-- a test of the value says whether the call's answer fits it
pub agree_fits : (call : Call) (response : Option Response) (value : Option ℕ) (b : Bool) → may_change call ≡ true
    → IsTrue b ↔ MayBeAnswered value call response → b ≡ (effect_at call response (low_key call)).fits value
agree_fits (Get own) response value b changes says = cc
agree_fits (Insert own new) response value b changes says = own_fits own (Insert own new) response value b says
agree_fits (Remove own) response value b changes says = own_fits own (Remove own) response value b says
agree_fits (Scan low high) response value b changes says = cc
agree_fits (Replace own expected new) response value b changes says = own_fits own (Replace own expected new) response value b says
