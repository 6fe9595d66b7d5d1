-- Where a simple command's own level stops: where no step fails, at a subcommand that is not `help`.
use Rattle.command_line.proofs.Common.{◌≡◌, ◌&&◌, Bool, true, false, cond, not, refl, ap, List, [], ◌∷◌, Option, Some, None, is_some, codes, find}
use Rattle.command_line.proofs.Common.{fold, option_map, option_map_or, bytes_eq, built_fault, check_fault, defaults_fault, entered_fault}
use Rattle.command_line.proofs.Common.{level_fault, other_fault, settle_fault, step_fault, turn_fault, walk_fault, word_fault, check_kinds, or_else}
use Rattle.command_line.proofs.Common.{long_of, short_of, App, Shape, entered, label_of, names_of, rows_at, Held, Names, Outcome, Row, Rule, Step}
use Rattle.command_line.proofs.Common.{Waiting, Walk, after_flag, after_step, answers_to, arg_by_index, arg_by_long, bundle, done, finished, idle}
use Rattle.command_line.proofs.Common.{long_met, long_or_other, next, nothing_held, option, plain, plain_word, positional, refused, settled}
use Rattle.command_line.proofs.Common.{short_or_plain, subcommand, subcommand_met, subcommand_or_other, to_positional, trailing, value, waits, walk}
use Rattle.command_line.proofs.Common.{walk_from, walked, walked_from, word_met}
use Rattle.clap.specs.Walk.{Text}
use Rattle.command_line.proofs.RowLemmas.{neither}
use Rattle.clap.specs.declared.error.kind.ErrorKind.TheVariants as kind

-- the name is that of the subcommand `help`, which the command has
abbrev pub is_help : Shape → Text → Bool
is_help s name = bytes_eq name (codes "help") && not s.disable_help_subcommand

-- the step is not to `help`
abbrev StepPasses : Shape → Step → Type 0
StepPasses s (subcommand name) = is_help s name ≡ false
StepPasses s _ = Unit {0}

-- the walk has not stopped at `help`
abbrev StopPasses : Shape → Option (Text × List Text) → Type 0
StopPasses s None = Unit {0}
StopPasses s (Some p) = is_help s p.0 ≡ false

module _ (s : Shape) where
  -- a word that is no flag names no subcommand
  plain_step : (waiting : Waiting) (word : Text) (h : Held) → StepPasses s (plain_word s.rules waiting word h).1
  plain_step idle word h = tt
  plain_step positional word h = tt
  plain_step (option id) word h = tt

  -- nor does a flag
  flag_step : (waiting : Waiting) (word : Text) (h : Held) (o : Outcome) → StepPasses s (after_flag s.rules waiting word h o).1
  flag_step waiting word h done = tt
  flag_step waiting word h (waits id) = tt
  flag_step waiting word h plain = plain_step waiting word h
  flag_step waiting word h refused = plain_step waiting word h

  -- nor a word that is a flag or none
  long_step : (waiting : Waiting) (word : Text) (long : Option (Text × Option Text)) (h : Held)
      → StepPasses s (long_or_other s.rules waiting word long h).1
  long_step waiting word (Some p) h =
      let met = long_met s.rules (arg_by_long s.rules p.0) p.1 h in
      flag_step waiting word met.0 met.1
  long_step waiting word None h = go (short_of word)
    where
      go : (o : Option Text) → StepPasses s (short_or_plain s.rules waiting word o h).1
      go None = plain_step waiting word h
      go (Some flags) = flag_step waiting word (bundle s.rules flags h).0 (bundle s.rules flags h).1

  -- where a word has no fault, its step is not to `help`
  word_step : (names : Names) (w : Walk) (word : Text) → word_fault s names w.is_trailing w.waiting word w.held ≡ []
      → StepPasses s (word_met s.rules names w.is_trailing w.waiting w.position word w.held).1
  word_step names w word none = go w.is_trailing none
    where
      dashes : (b : Bool) → StepPasses s (cond b (w.held, trailing w.position) (long_or_other s.rules w.waiting word
          (long_of word) w.held)).1
      dashes true = tt
      dashes false = long_step w.waiting word (long_of word) w.held

      refused_help : (b : Bool) → cond b (kind.DisplayHelp ∷ kind.InvalidSubcommand ∷ []) [] ≡ [] → b ≡ false
      refused_help true none = cc
      refused_help false none = refl

      named : (o : Option Text) → other_fault s o word w.held ≡ []
          → StepPasses s (subcommand_or_other s.rules o w.waiting w.position word w.held).1
      named (Some name) none = refused_help (is_help s name) none
      named None none = dashes (bytes_eq word (45 ∷ 45 ∷ []))

      go : (b : Bool) → cond b [] (other_fault s (subcommand_met names w.waiting word) word w.held) ≡ []
          → StepPasses s (cond b (w.held, value) (subcommand_or_other s.rules (subcommand_met names w.waiting word) w.waiting
          w.position word w.held)).1
      go true none = tt
      go false none = named (subcommand_met names w.waiting word) none

  -- after such a step the walk has not stopped at `help`
  step_stops : (word : Text) (w : Walk) (h : Held) (step : Step) → StepPasses s step → StopPasses s w.stopped
      → StopPasses s (after_step s.rules word w h step).stopped
  step_stops word w h (next waiting) passes before = before
  step_stops word w h (trailing position) passes before = before
  step_stops word w h (subcommand name) passes before = passes
  step_stops word w h value passes before = go (arg_by_index s.rules w.position)
    where
      go : (o : Option Rule) → StopPasses s (to_positional s.rules o word w h).stopped
      go None = before
      go (Some a) = tt

  -- nor after a word that has no fault
  turn_stops : (names : Names) (w : Walk) (word : Text) (stopped : Option (Text × List Text))
      → cond (is_some stopped) []
      (or_else (word_fault s names w.is_trailing w.waiting word w.held)
      (step_fault s w.position (word_met s.rules names w.is_trailing w.waiting w.position word w.held).0
      (word_met s.rules names w.is_trailing w.waiting w.position word w.held).1)) ≡ []
      → StopPasses s stopped → StopPasses s w.stopped → StopPasses s (walked_from s.rules names stopped w word).stopped
  turn_stops names w word (Some p) none passes before = passes
  turn_stops names w word None none passes before =
      let met = word_met s.rules names w.is_trailing w.waiting w.position word w.held in
      let parts = neither (word_fault s names w.is_trailing w.waiting word w.held) _ none in
      step_stops word w met.0 met.1 (word_step names w word parts.0) before

  -- nor after all words, where none has a fault
  walk_stops : (names : Names) (w : Walk) (words : List Text) → walk_fault s names w words ≡ [] → StopPasses s w.stopped
      → StopPasses s (fold (walked s.rules names) w words).stopped
  unfolding walk_fault walked
  walk_stops names w [] none before = before
  walk_stops names w (word ∷ rest) none before =
      let parts = neither (turn_fault s names w word) _ none in
      walk_stops names (walked s.rules names w word) rest parts.1 (turn_stops names w word w.stopped parts.0 before before)

-- the last checks fail where a subcommand is missing
wants_subcommand : (wants_help wants_subcommand wants_argument : Bool) → wants_subcommand ≡ true
    → check_kinds wants_help wants_subcommand wants_argument ≡ [] → ⊥
wants_subcommand true wanted argument is none = cc
wants_subcommand false true argument is none = cc
wants_subcommand false false argument is none = cc

-- so where it is required, and the last checks find nothing, it is there
required_met : (s : Shape) (rows : List Row) (has : Bool) → s.subcommand_required ≡ true → check_fault s rows has ≡ [] → has ≡ true
required_met s rows true required none = refl
required_met s rows false required none = absurd (wants_subcommand _ _ _ required none)

-- the subcommand that a command enters at a stop, of whose level no step fails
pub record Enters (a : App) (stop : Option (Text × List Text)) : Type 0 where
  pub name : Text
  pub rest : List Text
  pub shape : Shape
  pub found : find (λ s. answers_to name (label_of s)) a.subs ≡ Some shape
  pub not_help : is_help a.top name ≡ false
  pub passes : level_fault shape [] nothing_held rest false [] ≡ []
  pub entered_is : entered a stop ≡ Some (rows_at shape rest)

-- what is entered at a stop, by the subcommand that answers to its name
enters_at : (a : App) (p : Text × List Text) (met : Option Shape) → find (λ s. answers_to p.0 (label_of s)) a.subs ≡ met
    → is_help a.top p.0 ≡ false → option_map_or (λ s. level_fault s [] nothing_held p.1 false []) met [] ≡ []
    → is_some (option_map (λ s. rows_at s p.1) met) ≡ true → Enters a (Some p)
enters_at a p None found passes below has = cc
enters_at a p (Some s) found passes below has = record {
  name = p.0;
  rest = p.1;
  shape = s;
  found = found;
  not_help = passes;
  passes = below;
  entered_is = ap (option_map (λ (t : Shape). rows_at t p.1)) found;
}

-- the same, of a walk that may have stopped
enters_stop : (a : App) (stop : Option (Text × List Text)) → StopPasses a.top stop → entered_fault a stop ≡ []
    → is_some (entered a stop) ≡ true → Enters a stop
enters_stop a None passes below has = cc
enters_stop a (Some p) passes below has =
    enters_at a p (find (λ s. answers_to p.0 (label_of s)) a.subs) refl passes below has

-- where no step fails, a command that requires a subcommand enters one
pub enters : (a : App) (words : List Text) → a.top.subcommand_required ≡ true → built_fault a nothing_held words ≡ []
    → Enters a (walk a.top.rules (names_of a) nothing_held words).stopped
enters a words required none =
    let w = walk a.top.rules (names_of a) nothing_held words in
    let walked_on = neither (walk_fault a.top (names_of a) (walk_from nothing_held) words) _ none in
    let below = neither (entered_fault a w.stopped) _ walked_on.1 in
    let settle = neither (settle_fault a.top.rules a.top.args_override_self w.held) _ below.1 in
    let default = neither (defaults_fault (settled a.top.rules w.held).rows a.top.rules) _ settle.1 in
    enters_stop a w.stopped (walk_stops a.top (names_of a) (walk_from nothing_held) words walked_on.0 tt) below.0
    (required_met a.top (finished a.top.rules w.held) (is_some (entered a w.stopped)) required default.1)
