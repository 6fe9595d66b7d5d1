use Rattle.search_choices.proofs.Common.{◌≡◌, ◌⊎◌, ℕ, Call, Insert, Remove, Replace, Contents, reply_to, value_at, value_reply, sym, ap, ◌∙◌}
use Rattle.search_choices.proofs.Common.{⊎_elim}
use Rattle.search_choices.proofs.VainLemmas.{vain_at}
use Rattle.search_choices.proofs.idle.is_vain.Goals as goal

-- a call of one key is answered with the value there
reply_at : (m : Contents) (call : Call) (key : ℕ)
    → ((value : ℕ) × (call ≡ Insert key value)) ⊎ ((call ≡ Remove key) ⊎ ((expected value : ℕ) × (call ≡ Replace key expected value)))
    → value_reply (value_at m key) ≡ reply_to m call
reply_at m call key = ⊎_elim
    (λ (value, is). sym (ap (reply_to m) is))
    (⊎_elim (λ is. sym (ap (reply_to m) is)) (λ (expected, value, is). sym (ap (reply_to m) is)))

pub returns-in-Some : goal.returns-in-Some
returns-in-Some c = λ yes.
    vain_at c.args.map.now c.args.call.now _ c.value.ensures.rising
    (ap value_reply (sym c.in-Some.is ∙ c.value.ensures.value) ∙ reply_at c.args.map.now c.args.call.now c.in-Insert.key c.in-Insert.is)
    (sym c.says_unchanged.ensures ∙ yes)

pub returns-in-None : goal.returns-in-None
returns-in-None c = λ yes.
    vain_at c.args.map.now c.args.call.now _ c.value.ensures.rising
    (ap value_reply (sym c.in-None.is ∙ c.value.ensures.value) ∙ reply_at c.args.map.now c.args.call.now c.in-Insert.key c.in-Insert.is)
    (sym c.says_unchanged-in-None.ensures ∙ yes)
