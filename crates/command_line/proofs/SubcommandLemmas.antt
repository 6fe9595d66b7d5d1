-- Words of which the first names a subcommand of a simple command: the words after it are left to the
-- subcommand, and have a fault only where it has one.
use Rattle.command_line.proofs.Common.{◌≡◌, ◌∙◌, true, false, refl, sym, ap, List, [], ◌∷◌, Some, is_some, find, fold, built_fault, check_fault}
use Rattle.command_line.proofs.Common.{defaults_fault, entered_fault, level_fault, settle_fault, turn_fault, walk_fault, Kinds, or_else, App, Shape}
use Rattle.command_line.proofs.Common.{entered, label_of, names_of, Held, Walk, answers_to, finished, idle, nothing_held, rows_after, settled}
use Rattle.command_line.proofs.Common.{subcommand_met, walk, walk_from, walked, past, stopped_fault, walk_stopped}
use Rattle.clap.specs.Walk.{Text}
use Rattle.command_line.proofs.StopLemmas.{is_help}

-- the word names this subcommand, and is not `help`
pub record NamesSubcommand (a : App) (name : Text) (s : Shape) : Type 0 where
  pub met : subcommand_met (names_of a) idle name ≡ Some name
  pub not_help : is_help a.top name ≡ false
  pub found : find (λ t. answers_to name (label_of t)) a.subs ≡ Some s
  pub name_is : s.name ≡ name

-- with a subcommand and nothing else, the command's own level has no fault
pub record TakesSubcommand (a : App) : Type 0 where
  pub defaults : defaults_fault [] a.top.rules ≡ []
  pub checks : check_fault a.top (finished a.top.rules nothing_held) true ≡ []

-- the steps of a subcommand's own level after the walk over its words
unfoldable pub level_rest : Shape → Held → Kinds
level_rest s h = or_else (settle_fault s.rules s.args_override_self h)
    (or_else (defaults_fault (settled s.rules h).rows s.rules)
    (check_fault s (finished s.rules h) false))

-- no step of the level fails, where the walk has no fault and none of the steps after it fails
pub level_by : (s : Shape) (words : List Text) (end : Walk) → walk s.rules [] nothing_held words ≡ end
    → walk_fault s [] (walk_from nothing_held) words ≡ [] → level_rest s end.held ≡ [] → level_fault s [] nothing_held words false [] ≡ []
unfolding level_rest
level_by s words end walked_to turns passes = past _ _ turns ∙ ap (λ (w : Walk). level_rest s w.held) walked_to ∙ passes

module _ (a : App) (name : Text) (s : Shape) (names : NamesSubcommand a name s) where
  -- where the walk stands once it has met the name, with these words after it
  stopped_walk : List Text → Walk
  stopped_walk rest = record (walk_from nothing_held) { stopped = Some (name, rest) }

  -- the name's turn
  name_walked : walked a.top.rules (names_of a) (walk_from nothing_held) name ≡ stopped_walk []
  unfolding walked stopped_walk
  name_walked = let met = names.met in rw met refl

  -- has no fault
  name_turn : turn_fault a.top (names_of a) (walk_from nothing_held) name ≡ []
  name_turn = let met = names.met in let not_help = names.not_help in rw (met, not_help) refl

  -- the walk stops at the name
  top_walk : (rest : List Text) → walk a.top.rules (names_of a) nothing_held (name ∷ rest) ≡ stopped_walk rest
  unfolding stopped_walk
  top_walk rest =
      ap (λ w. fold (walked a.top.rules (names_of a)) w rest) name_walked
      ∙ sym (walk_stopped a.top.rules (names_of a) (walk_from nothing_held) name [] rest)

  -- and has no fault
  top_turns : (rest : List Text) → walk_fault a.top (names_of a) (walk_from nothing_held) (name ∷ rest) ≡ []
  unfolding walk_fault stopped_walk
  top_turns rest =
      past _ _ name_turn ∙ ap (λ w. walk_fault a.top (names_of a) w rest) name_walked
      ∙ stopped_fault a.top (names_of a) (walk_from nothing_held) (name, []) rest

  -- the subcommand's own matches
  stop_entered : (rest : List Text) → entered a (stopped_walk rest).stopped ≡ Some (name, rows_after s.rules [] rest)
  unfolding stopped_walk
  stop_entered rest = let found = names.found in let name_is = names.name_is in rw (found, name_is) refl

  -- what the words enter
  pub name_enters : (rest : List Text) → entered a (walk a.top.rules (names_of a) nothing_held (name ∷ rest)).stopped
      ≡ Some (name, rows_after s.rules [] rest)
  name_enters rest = ap (λ (w : Walk). entered a w.stopped) (top_walk rest) ∙ stop_entered rest

  -- the steps after the walk of the command's own level
  top_rest : Walk → Kinds
  top_rest w = or_else (entered_fault a w.stopped)
      (or_else (settle_fault a.top.rules a.top.args_override_self w.held)
      (or_else (defaults_fault (settled a.top.rules w.held).rows a.top.rules)
      (check_fault a.top (finished a.top.rules w.held) (is_some (entered a w.stopped)))))

  -- none of them fails where no step of the subcommand's level does
  top_passes : (rest : List Text) → TakesSubcommand a → level_fault s [] nothing_held rest false [] ≡ [] → top_rest (stopped_walk rest) ≡ []
  unfolding top_rest stopped_walk
  top_passes rest takes none =
      let found = names.found in
      let defaults = takes.defaults in
      let checks = takes.checks in
      rw (found, none, defaults, checks) refl

  -- nor does any step at all
  pub name_faultless : (rest : List Text) → TakesSubcommand a → level_fault s [] nothing_held rest false [] ≡ []
      → built_fault a nothing_held (name ∷ rest) ≡ []
  unfolding top_rest
  name_faultless rest takes none = past _ _ (top_turns rest) ∙ ap top_rest (top_walk rest) ∙ top_passes rest takes none
