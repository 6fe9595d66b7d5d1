use Rattle.memo.proofs.Common.{◌≡◌, ◌∙◌, ℕ, get_or, refl, sym, ap, subst, All, Contents, value_at, Configuration, configuration_from}
use Rattle.memo.proofs.DifferenceLemmas.{same_from_values}
use Rattle.memo.proofs.config.holds_as.Goals as goal

-- two configurations have the same values at the keys of pairs
abbrev Agree : Configuration → Configuration → Contents → Type 0
Agree a b pairs = All (λ (pair : ℕ × ℕ). value_at a.pairs pair.0 ≡ value_at b.pairs pair.0) pairs

-- configurations and pairs by other names
moved : (a b c d : Configuration) (pairs others : Contents) → a ≡ c → b ≡ d → pairs ≡ others → Agree c d pairs → Agree a b others
moved a b c d pairs others first second is agree =
    subst (λ x. Agree x b others) (sym first) (subst (λ y. Agree c y others) (sym second) (subst (Agree c d) is agree))

pub returns : goal.returns
returns c =
    let a = c.a.inside in
    let b = c.b.inside in
    let mine = configuration_from a.base a.form in
    let yours = configuration_from b.base b.form in
    let at = λ (pairs others : Contents) (is : pairs ≡ others) (agree : Agree c.args.a.now c.args.b.now pairs).
    moved mine yours c.args.a.now c.args.b.now pairs others c.a.view_is c.b.view_is is agree in (
      λ yes. ap (λ (k : Configuration). k.pairs) (sym c.a.view_is)
          ∙ same_from_values a.base a.form.put a.form.gone b.base b.form.put b.form.gone c.pairs.ensures.rising c.pairs-2.ensures.rising
          (at c.pairs.result.now a.base c.pairs.ensures.pairs (c.if-not-agree.ensures.0 refl))
          (at c.put.result.now a.form.put c.put.ensures (c.if-not-agree-2.ensures.0 refl))
          (at c.pairs-2.result.now b.base c.pairs-2.ensures.pairs (c.if-not-agree-3.ensures.0 refl))
          (at c.put-2.result.now b.form.put c.put-2.ensures (c.agree-4.ensures.0 yes))
          ∙ ap (λ (k : Configuration). k.pairs) c.b.view_is,
      λ same. c.agree-4.ensures.1 (λ k d within. ap (λ (m : Contents). value_at m (get_or c.put-2.result.now k d).0) same),
    )
