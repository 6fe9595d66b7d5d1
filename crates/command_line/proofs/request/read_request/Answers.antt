use Rattle.command_line.proofs.Common.{ap, arith, map, subst, sym, length, true, List, [], Option, Ok, Err, ◌≡◌, ◌∙◌, ◌≤◌, IfErr, IfOk, MatchResult}
use Rattle.command_line.proofs.Common.{OnOk, subcommand_rows_of, length-map, usize_max, texts, Text, fault_of, subcommand_of, takes, table_app, Asks}
use Rattle.command_line.proofs.Common.{Meets, asked_of, has_named, Usage, usage_of, Gives}
use Rattle.std.proofs.Common.{Result}
use Rattle.clap.specs.Words.{App, Row}
use Rattle.command_line.proofs.ReadLemmas.{accepted_as, memory_only, met_as, table_accepts, table_gives, table_meets, table_names}
use Rattle.command_line.proofs.request.read_request.Goals.{After-of, After-request_of}
use Rattle.command_line.specs.declared.fault.LineFault.TheVariants as faults
use Rattle.command_line.proofs.request.read_request.Goals as goal

pub request_of-requires : goal.request_of-requires
request_of-requires c =
    let words = texts c.args.words.now in
    let table : List Usage = map usage_of c.args.table.now in
    let same = c.in_ok-command_of.ensures in
    let accepted = accepted_as _ c.args.name.now table words same c.requires c.in-Ok.ensures.kinds in
    subst (Meets table) (sym (met_as _ c.args.name.now table words same c.requires c.in-Ok.matches c.in-Ok.ensures.matches))
    (table_meets c.args.name.now table words c.requires accepted)

-- ---- the answer of what was met

holds_on_ok : {T E : Type 0} (r : Result T E) (P : Type 0) → P → OnOk r P
holds_on_ok (Ok x) P holds = holds
holds_on_ok (Err e) P holds = tt

by_both : {T E : Type 0} (r : Result T E) (P Q : T → Type 0) (R : E → Type 0) → IfOk r P → ((x : T) → P x → Q x) → IfErr r R
    → MatchResult r Q R
by_both (Ok x) P Q R ok gives err = gives x ok
by_both (Err e) P Q R ok gives err = err

module _ (c : After-request_of) where
  words : List Text
  words = texts c.args.words.now

  table : List Usage
  table = map usage_of c.args.table.now

  -- the subcommand is the one that the words name
  met_is : subcommand_rows_of c.in-Ok.matches ≡ subcommand_of (table_app c.args.name.now table) words
  unfolding words table
  met_is = met_as _ c.args.name.now table words c.in_ok-command_of.ensures c.requires c.in-Ok.matches c.in-Ok.ensures.matches

  -- what is read is what the words ask for
  asks : IfOk c.request_of.result (λ r. Asks table (subcommand_of (table_app c.args.name.now table) words) (asked_of r))
  unfolding words table
  asks = subst (λ (met : Option (Text × List Row)). IfOk c.request_of.result (λ r. Asks table met (asked_of r))) met_is
      c.request_of.ensures.asked

  -- only where its values are words where they have to be
  names : OnOk c.request_of.result (has_named table (subcommand_of (table_app c.args.name.now table) words) ≡ true)
  unfolding words table
  names = subst (λ (met : Option (Text × List Row)). OnOk c.request_of.result (has_named table met ≡ true)) met_is
      c.request_of.ensures.named

  -- and where they are only memory is wanted
  memory_wanted : has_named table (subcommand_of (table_app c.args.name.now table) words) ≡ true
      → IfErr c.request_of.result (λ e. e ≡ faults.Memory)
  unfolding words table
  memory_wanted named =
      c.request_of.ensures.refused (subst (λ (met : Option (Text × List Row)). has_named table met ≡ true) (sym met_is) named)

pub returns-in-Ok-clause-asked : goal.returns-in-Ok-clause-asked
unfolding words table
returns-in-Ok-clause-asked c = asks (goal.at.returns-in-Ok-clause-asked c).After-request_of

pub returns-in-Ok-clause-accepted : goal.returns-in-Ok-clause-accepted
returns-in-Ok-clause-accepted c =
    holds_on_ok c.request_of.result _
    (accepted_as _ c.args.name.now (map usage_of c.args.table.now) (texts c.args.words.now) c.in_ok-command_of.ensures c.requires
    c.in-Ok.ensures.kinds)

pub returns-in-Ok-clause-named : goal.returns-in-Ok-clause-named
unfolding words table
returns-in-Ok-clause-named c = names (goal.at.returns-in-Ok-clause-named c).After-request_of

pub returns-in-Ok-clause-refused : goal.returns-in-Ok-clause-refused
unfolding words table
returns-in-Ok-clause-refused c accepted named = memory_wanted (goal.at.returns-in-Ok-clause-refused c).After-request_of named

pub returns-in-Ok-clause-taken : goal.returns-in-Ok-clause-taken
unfolding words table
returns-in-Ok-clause-taken c taken named = memory_wanted (goal.at.returns-in-Ok-clause-taken c).After-request_of named

pub returns-in-Ok-clause-given : goal.returns-in-Ok-clause-given
unfolding words table
returns-in-Ok-clause-given c usage given calls is =
    let at = (goal.at.returns-in-Ok-clause-given c).After-request_of in
    let ws = texts c.args.words.now in
    let us : List Usage = map usage_of c.args.table.now in
    let fits : length ws ≤ usize_max = simp length-map (omega arith) in
    by_both c.request_of.result _ (λ r. Gives usage given calls (asked_of r)) _ (asks at)
    (λ r asked. table_gives c.args.name.now us ws usage given calls (asked_of r) c.requires is fits asked)
    (memory_wanted at (table_names c.args.name.now us ws usage given calls c.requires is fits))

-- where no step fails, the fault is want of memory
module _ (c : After-of) where
  memory : fault_of (table_app c.args.name.now (map usage_of c.args.table.now)) (texts c.args.words.now) ≡ [] → c.of.result ≡ faults.Memory
  memory accepted =
      c.of.ensures
      (memory_only _ c.args.name.now (map usage_of c.args.table.now)
      (texts c.args.words.now) c.in_ok-command_of.ensures c.requires c.in-Err.error c.in-Err.ensures.kinds accepted)

pub returns-in-Err-clause-refused : goal.returns-in-Err-clause-refused
returns-in-Err-clause-refused c accepted named = memory (goal.at.returns-in-Err-clause-refused c).After-of accepted

pub returns-in-Err-clause-given : goal.returns-in-Err-clause-given
returns-in-Err-clause-given c usage given calls is =
    let words = texts c.args.words.now in
    let fits : length words ≤ usize_max = simp length-map (omega arith) in
    memory (goal.at.returns-in-Err-clause-given c).After-of
    (table_accepts c.args.name.now (map usage_of c.args.table.now) words usage given calls c.requires is fits)

pub returns-in-Err-clause-taken : goal.returns-in-Err-clause-taken
returns-in-Err-clause-taken c taken named =
    c.of.ensures (c.in-Err.ensures.passes (ap (λ (a : App). takes a (texts c.args.words.now)) c.in_ok-command_of.ensures ∙ taken))
