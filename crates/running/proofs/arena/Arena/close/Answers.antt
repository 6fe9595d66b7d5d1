use Rattle.std.proofs.Common.{length, refl, ap, ◌∙◌, arith}
use Rattle.running.proofs.CloseLemmas.{as-many, same-processes}
use Rattle.running.proofs.arena.Arena.close.Goals as goal

pub returns-then-len-from-clause-refused : goal.returns-then-len-from-clause-refused
returns-then-len-from-clause-refused c =
    let many = as-many c.args.self c.args.group c.requires.own in
    let same = same-processes c.args.self c.args.group c.requires.own in (
      record { arena = refl; own = c.requires.own; shown = refl },
      λ all. omega (arith, many, same, all, c.if-len-from.true, c.len.ensures, c.from.ensures),
    )

pub history-requires-clause-all : goal.history-requires-clause-all
history-requires-clause-all c =
    let many = as-many c.args.self c.args.group c.requires.own in
    let same = same-processes c.args.self c.args.group c.requires.own in
    omega (arith, many, same, c.if-len-from.false, c.len.ensures, c.from.ensures)

pub close-requires-clause-all : goal.close-requires-clause-all
close-requires-clause-all c =
    let many = as-many c.args.self c.args.group c.requires.own in
    let same = same-processes c.args.self c.args.group c.requires.own in
    ap (λ v. length v.processes) c.history.ensures.unchanged ∙ omega (arith, many, same, c.if-len-from.false, c.len.ensures, c.from.ensures)

pub returns-in-Err-clause-refused : goal.returns-in-Err-clause-refused
returns-in-Err-clause-refused c =
    let many = as-many c.args.self c.args.group c.requires.own in
    let same = same-processes c.args.self c.args.group c.requires.own in (
      record { arena = refl; own = c.history.ensures.own; shown = c.history.ensures.unchanged },
      omega (arith, many, same, c.if-len-from.false, c.len.ensures, c.from.ensures),
    )

pub returns-in-Ok-clause-all : goal.returns-in-Ok-clause-all
returns-in-Ok-clause-all c =
    let many = as-many c.args.self c.args.group c.requires.own in
    let same = same-processes c.args.self c.args.group c.requires.own in
    omega (arith, many, same, c.if-len-from.false, c.len.ensures, c.from.ensures)
