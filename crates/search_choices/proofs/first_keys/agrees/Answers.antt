use Rattle.search_choices.proofs.Common.{◌≤◌, ℕ, take, get_or, sym, ◌∙◌, subst, ⊎_elim, arith, Contains, false≢true, take_all, take_more}
use Rattle.search_choices.proofs.Common.{Contains-push_cases}
use Rattle.search_choices.proofs.first_keys.agrees.Goals.{then-low-key+then-key-high+else-ne, else-low-key, else-low-key-via-then-low-key+else-key-high}
use Rattle.search_choices.proofs.first_keys.agrees.Goals.{else-low-key-via-else-low-key}
use Rattle.search_choices.proofs.first_keys.agrees.Goals as goal

pub loop-key-preserved : goal.loop-key-preserved
loop-key-preserved c =
    let keys = c.args.keys.now in
    let i = c.loop-key.key-index in
    let own = get_or keys i 0 in
    elim c.if-low-key.branch [
      | then-low-key+then-key-high+else-ne w ↦ λ no key within above below. absurd (false≢true (sym no ∙ w.over-is))
      | else-low-key w ↦ λ no key within above below. ⊎_elim
          (λ old. c.loop-key.invariant (sym w.over-is ∙ no) key old above below)
          (λ is.
          let own_above : c.args.low ≤ own = subst (λ (k : ℕ). c.args.low ≤ k) (sym is) above in
          let own_below : own ≤ c.args.high = subst (λ (k : ℕ). k ≤ c.args.high) (sym is) below in
          elim w.else-low-key.branch [
            | else-low-key-via-then-low-key+else-key-high w' ↦ absurd (omega (arith, own_below, w'.if-key-high.false))
            | else-low-key-via-else-low-key w' ↦ absurd (omega (arith, own_above, w'.if-low-key.false))
          ])
          (Contains-push_cases (take i keys) own key (subst (λ xs. Contains xs key) (take_more keys i 0 c.loop-key-test.true) within))
    ]

pub returns : goal.returns
returns c = λ no key within above below. absurd (c.loop-key.invariant no key
    (subst (λ xs. Contains xs key) (sym (take_all c.loop-key.key-index c.args.keys.now c.loop-key-test.false)) within) above below)
