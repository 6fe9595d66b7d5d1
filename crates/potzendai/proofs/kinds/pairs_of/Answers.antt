use Rattle.potzendai.proofs.Common.{◌≡◌, ℕ, suc, ◌+◌, [], ◌∷◌, ◌++◌, All, List, map, take, get_or, sym, ap, ◌∙◌, subst, arith, take-suc, map_push}
use Rattle.potzendai.proofs.Common.{IsWord}
use Rattle.std.proofs.lemmas.List.Elements.{All-push}
use Rattle.potzendai.specs.declared.kinds.PotzendaiPair.{PotzendaiPair}
use Rattle.potzendai.proofs.kinds.pairs_of.Goals as goal

pub loop-pair-preserved : goal.loop-pair-preserved
loop-pair-preserved c =
    let l = c.loop-pair in
    let item = c.as_pair.result in
    let pushed = c.in_ok-push.ensures.items in
    let one_more : suc l.pair-index ≡ l.pair-index + 1 = omega arith in
    let before = take l.pair-index c.args.pairs.now in
    let none : PotzendaiPair = record { key = 0; value = 0 } in
    let next = get_or c.args.pairs.now l.pair-index none in
    let tuple : PotzendaiPair → ℕ × ℕ = λ pair. (pair.key, pair.value) in
    let HasWords : ℕ × ℕ → Type 0 = λ pair. IsWord pair.0 × IsWord pair.1 in (
      pushed
          ∙ (ap (λ (items : List (ℕ × ℕ)). items ++ item ∷ []) l.invariant.0
          ∙ (ap (λ (pair : ℕ × ℕ). map tuple before ++ pair ∷ []) c.as_pair.ensures.same
          ∙ (sym (map_push tuple before next) ∙ (ap (map tuple) (sym (take-suc c.args.pairs.now l.pair-index none c.loop-pair-test.true))
          ∙ ap (λ (n : ℕ). map tuple (take n c.args.pairs.now)) one_more)))),
      subst (λ (items : List (ℕ × ℕ)). All HasWords items) (sym pushed)
          (All-push HasWords l.items.items item l.invariant.1 c.as_pair.ensures.words),
    )
