use Rattle.follow_orders.proofs.Common.{sym, ap, ◌∙◌, subst, IfOk, Contents, StoredOrderView, MayCome, HasCome, IsAnswer}
use Rattle.follow_orders.specs.declared.kept.Mended.TheVariants.{Order}
use Rattle.follow_orders.proofs.FindLemmas.{keeps}
use Rattle.follow_orders.proofs.InsertLemmas.{with_call, ok_with_call}
use Rattle.follow_orders.proofs.kept_order.StoredOrder.insert.Goals as goal

pub insert_in_order-requires-clause-comes : goal.insert_in_order-requires-clause-comes
insert_in_order-requires-clause-comes c =
    subst (λ (v : StoredOrderView). MayCome v.calls c.args.operation) (sym c.self.view_is) c.requires

pub returns-then-in_order : goal.returns-then-in_order
returns-then-in_order c =
    let new = c.insert_in_order.new in
    let start = c.args.self.start in
    let came = subst (λ (v : StoredOrderView). HasCome c.args.operation v.calls new.calls.items) c.self.view_is c.in_ok-in_order.ensures.came in
    with_call c.args.operation start c.args.self.calls new.calls.items c.args.budget (Order c.keep-kept.result) came
    (keeps start new.calls.items new.front c.keep-kept.result c.keep-kept.ensures
    (c.in_ok-in_order.ensures.start ∙ ap (λ (v : StoredOrderView). v.start) c.self.view_is) (c.in_ok-in_order.ensures.whole c.if-in_order.true))

pub returns : goal.returns
returns c =
    let new = c.insert_in_order.new in
    let start = c.args.self.start in
    let came = subst (λ (v : StoredOrderView). HasCome c.args.operation v.calls new.calls.items) c.self.view_is c.in_ok-in_order.ensures.came in
    ok_with_call c.args.operation start c.args.self.calls new.calls.items c.args.budget c.search_on.result came
    (subst (λ (s : Contents). IfOk c.search_on.result (IsAnswer s new.calls.items c.args.budget))
    (c.in_ok-in_order.ensures.start ∙ ap (λ (v : StoredOrderView). v.start) c.self.view_is) c.search_on.ensures)
