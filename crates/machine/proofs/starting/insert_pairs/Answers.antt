use Rattle.machine.proofs.Common.{◌≡◌, true, [], ◌∷◌, IsTrue, refl, arith, length-map, All-at, Insert, is_tree_call, opened, inserts, start_plan}
use Rattle.machine.proofs.Common.{turns_left}
use Rattle.std.proofs.Common.{All}
use Rattle.machine.proofs.StartingLemmas.{opens, not-made, all-inserted, not-opened}
use Rattle.machine.proofs.starting.insert_pairs.Goals as goal

pub start_scripts-requires : goal.start_scripts-requires
start_scripts-requires c =
    All-at (λ script. All (λ call. IsTrue (is_tree_call call)) script) (inserts c.args.start.now ∷ []) 0 (inserts c.args.start.now)
    c.requires.calls refl

pub unreachable-requires : goal.unreachable-requires
unreachable-requires c =
    let plan = start_plan c.args.shape c.args.variant c.args.start.now in
    let o = opens c.args.shape c.args.variant c.args.start.now _ c.in_ok-machine.machine c.in-Ok.ensures c.in_ok-machine.ensures.opened in
    not-made c.args.shape c.args.variant c.args.start.now (turns_left c.in_ok-machine.machine) c.make.new.self o.left
    (c.in-Ok-make.ensures.made plan (opened plan) o.shows)

pub returns-then-is_at_the_end-clause-inserted : goal.returns-then-is_at_the_end-clause-inserted
returns-then-is_at_the_end-clause-inserted c =
    let plan = start_plan c.args.shape c.args.variant c.args.start.now in
    let o = opens c.args.shape c.args.variant c.args.start.now _ c.in_ok-machine.machine c.in-Ok.ensures c.in_ok-machine.ensures.opened in
    all-inserted c.args.shape c.args.variant c.args.start.now (turns_left c.in_ok-machine.machine) c.make.new.self o.left
    c.in-Err-make.fault
    (c.is_at_the_end.ensures.0 c.if-is_at_the_end.true) (c.in-Err-make.ensures.stopped plan (opened plan) o.shows)

pub returns-else-is_at_the_end-clause-refused : goal.returns-else-is_at_the_end-clause-refused
returns-else-is_at_the_end-clause-refused c =
    let plan = start_plan c.args.shape c.args.variant c.args.start.now in
    let o = opens c.args.shape c.args.variant c.args.start.now _ c.in_ok-machine.machine c.in-Ok.ensures c.in_ok-machine.ensures.opened in
    let few = c.requires.few_calls in
    let calls = length-map c.args.start.now (λ pair. Insert pair.0 pair.1) in
    not-opened c.args.shape c.args.variant c.args.start.now (turns_left c.in_ok-machine.machine) c.make.new.self o.left
    c.starts_end.ensures c.requires
    (omega (arith, few, calls)) c.in-Err-make.fault
    (λ e. let t : c.is_at_the_end.result ≡ true = c.is_at_the_end.ensures.1 e in let f = c.if-is_at_the_end.false in cc)
    (c.in-Err-make.ensures.stopped plan (opened plan) o.shows)
