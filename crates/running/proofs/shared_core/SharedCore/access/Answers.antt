use Rattle.running.proofs.Common.{◌≡◌, eqb, rules, refl, sym, ap, subst, ◌∙◌, Some, step, Makes, Load, Store, Exchange, Add, next_of, NumbersRise}
use mathlib.Core.Option.{none}
use Rattle.running.proofs.SharedStepLemmas.{access-inside, access-allowed, store-allowed, store-blind, either-if}
use Rattle.running.proofs.RisingLemmas.{advanced-rises}
use Rattle.running.proofs.shared_core.SharedCore.access.Goals as goal

pub load-requires : goal.load-requires
load-requires c =
    let core = c.args.self.now in
    let me = c.args.place.now.seat.me in
    let next : next_of me.0.view ≡ Some (Makes (Load c.in-Load.word)) = c.requires.next ∙ ap (λ a. Some (Makes a)) c.in-Load.is in (
      search rules,
      access-inside core.table.shared.key core.limits _ c.requires.own.setup _ next core.words,
      access-allowed _ core.limits _ _ me c.requires.own.setup _ next _ (λ n. refl)
          (step core.table.shared.table_id.slots c.in-Load.word 0 0 none),
    )

pub store-requires : goal.store-requires
store-requires c =
    let core = c.args.self.now in
    let me = c.args.place.now.seat.me in
    let next : next_of me.0.view ≡ Some (Makes (Store c.in-Store.word c.in-Store.value)) = c.requires.next
    ∙ ap (λ a. Some (Makes a)) c.in-Store.is in (
      search rules,
      access-inside core.table.shared.key core.limits _ c.requires.own.setup _ next core.words,
      store-allowed _ core.limits _ _ me c.requires.own.setup _ _ next
          (step core.table.shared.table_id.slots c.in-Store.word c.in-Store.value 0 none),
    )

pub compare_exchange-requires : goal.compare_exchange-requires
compare_exchange-requires c =
    let core = c.args.self.now in
    let me = c.args.place.now.seat.me in
    let x = c.in-Exchange in
    let next : next_of me.0.view ≡ Some (Makes (Exchange x.word x.from x.to)) = c.requires.next ∙ ap (λ a. Some (Makes a)) x.is in (
      search rules,
      access-inside core.table.shared.key core.limits _ c.requires.own.setup _ next core.words,
      access-allowed _ core.limits _ _ me c.requires.own.setup _ next _ (λ n. either-if (eqb n x.from) x.to n)
          (step core.table.shared.table_id.slots x.word x.from x.to none),
    )

pub fetch_add-requires : goal.fetch_add-requires
fetch_add-requires c =
    let core = c.args.self.now in
    let me = c.args.place.now.seat.me in
    let next : next_of me.0.view ≡ Some (Makes (Add c.in-Add.word)) = c.requires.next ∙ ap (λ a. Some (Makes a)) c.in-Add.is in (
      search rules,
      access-inside core.table.shared.key core.limits _ c.requires.own.setup _ next core.words,
      access-allowed _ core.limits _ _ me c.requires.own.setup _ next _ (λ n. refl)
          (step core.table.shared.table_id.slots c.in-Add.word 1 0 none),
    )

-- the call does not learn what its store wrote
pub returns-in-Store-clause-made : goal.returns-in-Store-clause-made
returns-in-Store-clause-made c =
    let next = c.requires.next ∙ ap (λ a. Some (Makes a)) c.in-Store.is in
    c.store.ensures.2.1 ∙ store-blind c.args.place.now.seat.me.0.view c.in-Store.word c.in-Store.value next c.in-Store.value 0

pub invariant_of-place-clause-rising : goal.invariant_of-place-clause-rising
invariant_of-place-clause-rising c = subst NumbersRise (sym c.load.ensures.2.1) (advanced-rises c.args.place.now.seat.me.0.view _
    c.args.place.now.rising)

pub invariant_of-place-in-Store-clause-rising : goal.invariant_of-place-in-Store-clause-rising
invariant_of-place-in-Store-clause-rising c = subst NumbersRise (sym c.store.ensures.2.1) (advanced-rises c.args.place.now.seat.me.0.view _
    c.args.place.now.rising)

pub invariant_of-place-in-Exchange-clause-rising : goal.invariant_of-place-in-Exchange-clause-rising
invariant_of-place-in-Exchange-clause-rising c =
    subst NumbersRise (sym c.compare_exchange.ensures.2.1) (advanced-rises c.args.place.now.seat.me.0.view _ c.args.place.now.rising)

pub invariant_of-place-in-Add-clause-rising : goal.invariant_of-place-in-Add-clause-rising
invariant_of-place-in-Add-clause-rising c = subst NumbersRise (sym c.fetch_add.ensures.2.1) (advanced-rises c.args.place.now.seat.me.0.view
    _ c.args.place.now.rising)
