use Rattle.command_line.proofs.Common.{subst, sym, List, [], ◌≡◌, texts, Text, subcommand_of, bench_app, bench_table, check_usage, draw_usage}
use Rattle.command_line.proofs.Common.{drive_usage, judge_usage, locate_usage, Asks, usage_of, Gives}
use Rattle.command_line.specs.WordsFaults.{IsAccepted, IsFaultAt}
use Rattle.command_line.specs.declared.fault.LineFault.{LineFault}
use Rattle.command_line.proofs.AskableLemmas.{askable, described}
use Rattle.command_line.proofs.LineLemmas.{check_use, checks, draw_use, draws, drive_use, drives, judge_given, judge_use, judges, locate_given}
use Rattle.command_line.proofs.LineLemmas.{locate_use, locates}
use Rattle.command_line.specs.declared.fault.LineFault.TheVariants as faults
use Rattle.command_line.proofs.read.read_line.Goals as goal

-- a fault that is `Memory` where the words are accepted may come at them
fault_at : (words : List Text) (fault : LineFault) → (IsAccepted words → fault ≡ faults.Memory) → IsFaultAt words fault
fault_at words (faults.Line text) memory = λ accepted. let never = memory accepted in cc
fault_at words faults.Memory memory = tt

pub line_of-requires-clause-askable : goal.line_of-requires-clause-askable
line_of-requires-clause-askable c = askable bench_table _ _ c.in-Ok.ensures.asked

pub line_of-requires-clause-described : goal.line_of-requires-clause-described
line_of-requires-clause-described c =
    described bench_table (usage_of c.in-Ok.request.subcommand.now)
    c.in-Ok.request.subcommand.now.name.now c.in-Ok.ensures.described

pub returns-in-Ok-clause-line : goal.returns-in-Ok-clause-line
unfolding bench_app
returns-in-Ok-clause-line c =
    subst (Asks bench_table (subcommand_of bench_app (texts c.args.words.now))) (sym c.line_of.ensures.same) c.in-Ok.ensures.asked

pub returns-in-Ok-clause-accepted : goal.returns-in-Ok-clause-accepted
unfolding bench_app
returns-in-Ok-clause-accepted c = (c.in-Ok.ensures.accepted, c.in-Ok.ensures.named)

pub returns-in-Ok-clause-given : goal.returns-in-Ok-clause-given
returns-in-Ok-clause-given c usage given calls is =
    subst (Gives usage given calls) (sym c.line_of.ensures.same) (c.in-Ok.ensures.given usage given calls is)

pub returns-in-Ok-clause-check : goal.returns-in-Ok-clause-check
returns-in-Ok-clause-check c calls is =
    let is_use = check_use (texts c.args.words.now) calls is in
    checks calls c.line_of.result (subst (Gives check_usage [] calls) (sym c.line_of.ensures.same)
    (c.in-Ok.ensures.given check_usage [] calls is_use))

pub returns-in-Ok-clause-judge : goal.returns-in-Ok-clause-judge
returns-in-Ok-clause-judge c budget workers is =
    let words = texts c.args.words.now in
    let given = judge_given words budget workers is in
    judges words budget workers c.line_of.result is
    (subst (Gives judge_usage given []) (sym c.line_of.ensures.same)
    (c.in-Ok.ensures.given judge_usage given [] (judge_use words budget workers is)))

pub returns-in-Ok-clause-locate : goal.returns-in-Ok-clause-locate
returns-in-Ok-clause-locate c budget order is =
    let words = texts c.args.words.now in
    let given = locate_given words budget order is in
    locates words budget order c.line_of.result is
    (subst (Gives locate_usage given []) (sym c.line_of.ensures.same)
    (c.in-Ok.ensures.given locate_usage given [] (locate_use words budget order is)))

pub returns-in-Ok-clause-draw : goal.returns-in-Ok-clause-draw
returns-in-Ok-clause-draw c given is =
    let is_use = draw_use (texts c.args.words.now) given is in
    draws given c.line_of.result
    (subst (Gives draw_usage given []) (sym c.line_of.ensures.same) (c.in-Ok.ensures.given draw_usage given [] is_use))

pub returns-in-Ok-clause-drive : goal.returns-in-Ok-clause-drive
returns-in-Ok-clause-drive c given is =
    let is_use = drive_use (texts c.args.words.now) given is in
    drives given c.line_of.result (subst (Gives drive_usage given []) (sym c.line_of.ensures.same)
    (c.in-Ok.ensures.given drive_usage given [] is_use))

pub returns-in-Err-clause-refused : goal.returns-in-Err-clause-refused
unfolding bench_app
returns-in-Err-clause-refused c = fault_at (texts c.args.words.now) c.in-Err.fault (λ accepted. c.in-Err.ensures.refused
    accepted.0 accepted.1)

pub returns-in-Err-clause-taken : goal.returns-in-Err-clause-taken
unfolding bench_app
returns-in-Err-clause-taken c taken named = c.in-Err.ensures.taken taken named

pub returns-in-Err-clause-given : goal.returns-in-Err-clause-given
returns-in-Err-clause-given c usage given calls is = c.in-Err.ensures.given usage given calls is

pub returns-in-Err-clause-check : goal.returns-in-Err-clause-check
returns-in-Err-clause-check c calls is = c.in-Err.ensures.given check_usage [] calls (check_use (texts c.args.words.now) calls is)

pub returns-in-Err-clause-judge : goal.returns-in-Err-clause-judge
returns-in-Err-clause-judge c budget workers is =
    let words = texts c.args.words.now in
    c.in-Err.ensures.given judge_usage (judge_given words budget workers is) [] (judge_use words budget workers is)

pub returns-in-Err-clause-locate : goal.returns-in-Err-clause-locate
returns-in-Err-clause-locate c budget order is =
    let words = texts c.args.words.now in
    c.in-Err.ensures.given locate_usage (locate_given words budget order is) [] (locate_use words budget order is)

pub returns-in-Err-clause-draw : goal.returns-in-Err-clause-draw
returns-in-Err-clause-draw c given is = c.in-Err.ensures.given draw_usage given [] (draw_use (texts c.args.words.now) given is)

pub returns-in-Err-clause-drive : goal.returns-in-Err-clause-drive
returns-in-Err-clause-drive c given is = c.in-Err.ensures.given drive_usage given [] (drive_use (texts c.args.words.now) given is)
