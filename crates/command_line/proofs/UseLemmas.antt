-- A subcommand, options of it and calls are accepted, and ask for their numbers.
use Rattle.command_line.proofs.Common.{◌≡◌, ◌∙◌, ◌++◌, ◌&&◌, ◌||◌, ◌≤◌, Bool, ℕ, suc, true, false, nat_lt, cond, not, refl, sym, ap, subst, arith}
use Rattle.command_line.proofs.Common.{append_assoc, append-nil, length-append, le-ltb, map, length, List, [], ◌∷◌, Option, Some, None, is_some}
use Rattle.command_line.proofs.Common.{codes, All, find, fold, list_any, option_and_then, option_map, option_map_or, unwrap_or, slice_get, bytes_eq}
use Rattle.command_line.proofs.Common.{and_parts, or_parts, same_Some, bytes_eq-Decides, explicit_source, built_fault, check_fault, default_fault}
use Rattle.command_line.proofs.Common.{defaults_fault, given_default_fault, level_fault, turn_fault, walk_fault, Kinds, values_kinds, usize_max, App}
use Rattle.command_line.proofs.Common.{argument_words, built, entered, names_of, is_given, Held, Row, Rule, Walk, arg_by_id, arg_by_index, finished}
use Rattle.command_line.proofs.Common.{has_row, is_empty, is_pending, nothing_held, positional, rows_after, settled, walk, walk_from, walked}
use Rattle.command_line.proofs.Common.{with_default, past, Accepts-accepts, table_app, IsNumber, number_of, AreCallsOf, AreNumbersOf, Asked, Asks}
use Rattle.command_line.proofs.Common.{IsNumberOf, are_named, has_named, is_named, values_of, Choice, Flag, Usage, among, are_flags, are_usages}
use Rattle.command_line.proofs.Common.{flag_named, switch, switch_text, usage_named, within, AreOptionsOf, Given, Gives, IsUse, IsValue, IsValueOf}
use Rattle.command_line.proofs.Common.{has_option, has_required, option_words, text_given, value_given}
use Rattle.clap.specs.Faults.{fault_of}
use Rattle.clap.specs.Simple.{subcommand_of}
use Rattle.clap.specs.Walk.{Text, first_of}
use Rattle.command_line.proofs.OptionLemmas.{Goes, Settles, new_row, options_go, row_given, row_with, taken_all}
use Rattle.command_line.proofs.PlainLemmas.{IsPlain, spelled_is_plain}
use Rattle.command_line.proofs.RequestLemmas.{is_missing, number_parser}
use Rattle.command_line.proofs.SubcommandLemmas.{TakesSubcommand, level_by, level_rest, name_enters, name_faultless}
use Rattle.command_line.proofs.TableLemmas.{built_calls, built_flag, built_is, built_rules, built_table, built_usage, by_index, calls_by_id}
use Rattle.command_line.proofs.TableLemmas.{flag_parts, found_flag, found_usage, names_usage, same_swapped}

-- ---- no argument has a default of its own

abbrev NoDefaults : List Rule → Type 0
NoDefaults [] = Unit {0}
NoDefaults (a ∷ rest) = (a.defaults ≡ []) × NoDefaults rest

no_defaults : (flags : List Flag) (takes_calls : Bool) → NoDefaults (built_rules flags takes_calls)
no_defaults [] true = (refl, (refl, tt))
no_defaults [] false = (refl, tt)
no_defaults (f ∷ fs) takes_calls = (refl, no_defaults fs takes_calls)

-- so its turn changes nothing
no_default_row : (rows : List Row) (a : Rule) → a.defaults ≡ [] → with_default rows a ≡ rows
no_default_row rows a none = rw none (go (has_row a.id rows))
  where
    go : (b : Bool) → cond b rows rows ≡ rows
    go true = refl
    go false = refl

no_default_rows : (rules : List Rule) (rows : List Row) → NoDefaults rules → fold with_default rows rules ≡ rows
no_default_rows [] rows none = refl
no_default_rows (a ∷ rest) rows none =
    ap (λ (rs : List Row). fold with_default rs rest) (no_default_row rows a none.0) ∙ no_default_rows rest rows none.1

-- and has no fault
no_default_fault : (rows : List Row) (a : Rule) → a.defaults ≡ [] → default_fault rows a ≡ []
no_default_fault rows a none = go (has_row a.id rows) (is_empty a.defaults) (given_default_fault a a.defaults) (ap is_empty none)
  where
    go : (b e : Bool) (kinds : Kinds) → e ≡ true → cond (b || e) [] kinds ≡ []
    go true e kinds is = refl
    go false true kinds is = refl
    go false false kinds is = cc

no_default_faults : (rules : List Rule) (rows : List Row) → NoDefaults rules → defaults_fault rows rules ≡ []
unfolding defaults_fault
no_default_faults [] rows none = refl
no_default_faults (a ∷ rest) rows none =
    past _ _ (no_default_fault rows a none.0) ∙ ap (λ (rs : List Row). defaults_fault rs rest) (no_default_row rows a none.0)
    ∙ no_default_faults rest rows none.1

-- ---- the rows of a use

-- the row of calls, none where there are no calls
abbrev calls_rows : List Text → List Row
calls_rows [] = []
calls_rows (t ∷ ts) = row_with (codes "CALL") (t ∷ ts) ∷ []

abbrev use_rows : List Given → List Text → List Row
use_rows given calls = map row_given given ++ calls_rows calls

-- an option that is given has a row that the words made
given_there : (name : Text) (given : List Given) (more : List Row) → has_option name given ≡ true
    → is_given name (map row_given given ++ more) ≡ true
given_there name [] more has = cc
given_there name (g ∷ gs) more has = go (bytes_eq g.0 name) has (given_there name gs more)
  where
    go : (b : Bool) → (b || has_option name gs) ≡ true → (has_option name gs ≡ true → is_given name (map row_given gs ++ more) ≡ true)
        → option_map_or (λ (r : Row). explicit_source r.source)
        (cond b (Some (row_given g)) (find (λ (r : Row). bytes_eq r.id name) (map row_given gs ++ more))) false ≡ true
    go true has later = refl
    go false has later = later has

-- so no argument is missing
none_missing : (flags : List Flag) (takes_calls : Bool) (given : List Given) (more : List Row) → has_required flags given ≡ true
    → list_any (is_missing (map row_given given ++ more)) (built_rules flags takes_calls) ≡ false
none_missing [] true given more required = refl
none_missing [] false given more required = refl
none_missing (f ∷ fs) takes_calls given more required =
    let parts = and_parts (is_some f.default || has_option f.name given) _ required in
    let here : is_missing (map row_given given ++ more) (built_flag f) ≡ false =
    go (is_some f.default) parts.0 (given_there f.name given more) in
    rw here (none_missing fs takes_calls given more parts.1)
  where
    go : (b : Bool) → (b || has_option f.name given) ≡ true
        → (has_option f.name given ≡ true → is_given f.name (map row_given given ++ more) ≡ true)
        → (not b && not (is_given f.name (map row_given given ++ more))) ≡ false
    go true has there = refl
    go false has there = let is = there has in rw is refl

-- the value of an option is the one that is given
value_is : (given : List Given) (calls : List Text) (name : Text) → bytes_eq (codes "CALL") name ≡ false
    → first_of name (use_rows given calls) ≡ value_given given name
value_is [] [] name other = refl
value_is [] (t ∷ ts) name other = rw other refl
value_is (g ∷ gs) calls name other = go (bytes_eq g.0 name) (value_is gs calls name other)
  where
    go : (b : Bool) → first_of name (use_rows gs calls) ≡ value_given gs name
        → option_and_then (λ (r : Row). slice_get r.values 0)
        (cond b (Some (row_given g)) (find (λ (r : Row). bytes_eq r.id name) (use_rows gs calls)))
        ≡ option_map text_given (cond b (Some g) (find (λ (x : Given). bytes_eq x.0 name) gs))
    go true later = refl
    go false later = later

-- so the numbers of options are those of the values that are given
numbers_given : (fs : List Flag) (given : List Given) (calls : List Text) (ns : List ℕ) → are_flags fs ≡ true
    → AreNumbersOf fs (λ name. first_of name (use_rows given calls)) ns → AreNumbersOf fs (value_given given) ns
numbers_given [] given calls [] flags are = tt
numbers_given [] given calls (n ∷ ns) flags are = absurd are
numbers_given (f ∷ fs) given calls [] flags are = absurd are
numbers_given (f ∷ fs) given calls (n ∷ ns) flags are =
    let parts = flag_parts f fs flags in
    let other : bytes_eq (codes "CALL") f.name ≡ false = same_swapped (codes "CALL") f.name ∙ parts.0.not_calls in
    (subst (λ (o : Option Text). IsNumberOf f o n) (value_is given calls f.name other) are.0, numbers_given fs given calls ns parts.1 are.1)

-- ---- values that are words of their options

-- each of these options is the first of its name
abbrev FlagsOwn : List Flag → List Flag → Type 0
FlagsOwn flags [] = Unit {0}
FlagsOwn flags (f ∷ fs) = (flag_named f.name flags ≡ Some f) × FlagsOwn flags fs

own_after_another : (g : Flag) (flags fs : List Flag) → list_any (λ (f : Flag). bytes_eq g.name f.name) fs ≡ false → FlagsOwn flags fs
    → FlagsOwn (g ∷ flags) fs
own_after_another g flags [] other own = tt
own_after_another g flags (f ∷ fs) other own =
    let parts = or_parts (bytes_eq g.name f.name) _ other in
    let first = parts.0 in
    (rw first own.0, own_after_another g flags fs parts.1 own.1)

flags_own : (flags : List Flag) → are_flags flags ≡ true → FlagsOwn flags flags
flags_own [] all = tt
flags_own (f ∷ fs) all =
    let parts = flag_parts f fs all in
    let mine : bytes_eq f.name f.name ≡ true = (bytes_eq-Decides f.name f.name).1 refl in
    (rw mine refl, own_after_another f fs fs parts.0.other (flags_own fs parts.1))

-- no value is none but a word
none_named : (choice : Choice) → is_named choice None ≡ true
none_named (within least greatest) = refl
none_named (among words) = refl
none_named switch = refl

-- and a value that the option takes is a word where it has to be
value_named : (choice : Choice) (given : Option Text) → IsValue choice given → is_named choice (Some (unwrap_or given switch_text)) ≡ true
value_named (within least greatest) given value = refl
value_named (among words) None value = absurd value
value_named (among words) (Some text) value = value
value_named switch given value = refl

-- so is the one that is given
given_named : (flags : List Flag) (f : Flag) (given : List Given) → flag_named f.name flags ≡ Some f → AreOptionsOf flags given
    → is_named f.values (value_given given f.name) ≡ true
given_named flags f [] own options = none_named f.values
given_named flags f (g ∷ gs) own options = go (bytes_eq g.0 f.name) refl (given_named flags f gs own options.2)
  where
    go : (b : Bool) → bytes_eq g.0 f.name ≡ b → is_named f.values (value_given gs f.name) ≡ true
        → is_named f.values (option_map text_given (cond b (Some g) (find (λ (x : Given). bytes_eq x.0 f.name) gs))) ≡ true
    go true here later =
        let value = subst (λ (n : Text). IsValueOf (flag_named n flags) g.1) ((bytes_eq-Decides g.0 f.name).0 here) options.0 in
        value_named f.values g.1 (subst (λ (o : Option Flag). IsValueOf o g.1) own value)
    go false here later = later

all_named : (flags fs : List Flag) (given : List Given) (calls : List Text) → FlagsOwn flags fs → are_flags fs ≡ true
    → AreOptionsOf flags given
    → are_named fs (λ name. first_of name (use_rows given calls)) ≡ true
all_named flags [] given calls own all options = refl
all_named flags (f ∷ fs) given calls own all options =
    let parts = flag_parts f fs all in
    let other : bytes_eq (codes "CALL") f.name ≡ false = same_swapped (codes "CALL") f.name ∙ parts.0.not_calls in
    let here : is_named f.values (first_of f.name (use_rows given calls)) ≡ true =
    ap (is_named f.values) (value_is given calls f.name other) ∙ given_named flags f given own.0 options in
    rw here (all_named flags fs given calls own.1 parts.1 options)

-- the values of CALL are the calls
calls_are : (given : List Given) (calls : List Text) → has_row (codes "CALL") (map row_given given) ≡ false
    → values_of (codes "CALL") (use_rows given calls) ≡ calls
calls_are [] [] new = refl
calls_are [] (t ∷ ts) new = refl
calls_are (g ∷ gs) calls new =
    let parts = or_parts (bytes_eq g.0 (codes "CALL")) _ new in
    let other = parts.0 in
    rw other (calls_are gs calls parts.1)

-- no option is that of the calls
none_calls : (flags : List Flag) (given : List Given) → are_flags flags ≡ true → AreOptionsOf flags given → has_row (codes "CALL") (map row_given given) ≡ false
none_calls flags [] all options = refl
none_calls flags (g ∷ gs) all options =
    let other = go (flag_named g.0 flags) refl options.0 in
    rw other (none_calls flags gs all options.2)
  where
    go : (o : Option Flag) → flag_named g.0 flags ≡ o → IsValueOf o g.1 → bytes_eq g.0 (codes "CALL") ≡ false
    go None found value = absurd value
    go (Some f) found value =
        let is = found_flag flags g.0 f all found in
        ap (λ (n : Text). bytes_eq n (codes "CALL")) (sym is.name_is) ∙ is.is_flag.not_calls

-- ---- the level of a subcommand

-- a level whose walk has no fault, and whose rows at the end have all that is required
record Ends (u : Usage) (words : List Text) (rows : List Row) : Type 0 where
  faultless : level_fault (built_usage u) [] nothing_held words false [] ≡ []
  rows_are : rows_after (built_usage u).rules [] words ≡ rows

module _ (u : Usage) (all : are_flags u.flags ≡ true) where
  abbrev rules : List Rule
  rules = (built_usage u).rules

  -- the rows at the end of a walk
  end_rows : (h : Held) (rows : List Row) → (settled rules h).rows ≡ rows → finished rules h ≡ rows
  end_rows h rows is = no_default_rows rules (settled rules h).rows (no_defaults u.flags u.takes_calls) ∙ is

  -- the last checks
  checked : (rows : List Row) → list_any (is_missing rows) rules ≡ false → check_fault (built_usage u) rows false ≡ []
  checked rows none = rw none refl

  -- nothing after the walk fails
  rest_passes : (h : Held) (rows : List Row) → Settles u all h → (settled rules h).rows ≡ rows → list_any (is_missing rows) rules ≡ false
      → level_rest (built_usage u) h ≡ []
  unfolding level_rest Settles
  rest_passes h rows settles is none =
      past _ _ settles ∙ past _ _ (no_default_faults rules (settled rules h).rows (no_defaults u.flags u.takes_calls))
      ∙ ap (λ (rs : List Row). check_fault (built_usage u) rs false) (end_rows h rows is) ∙ checked rows none

  ends : (words : List Text) (w : Walk) (rows : List Row) → walk rules [] nothing_held words ≡ w
      → walk_fault (built_usage u) [] (walk_from nothing_held) words ≡ []
      → Settles u all w.held → (settled rules w.held).rows ≡ rows → list_any (is_missing rows) rules ≡ false → Ends u words rows
  ends words w rows walked_to turns settles is none = record {
    faultless = level_by (built_usage u) words w walked_to turns (rest_passes w.held rows settles is none);
    rows_are = ap (λ (x : Walk). finished rules x.held) walked_to ∙ end_rows w.held rows is;
  }

  -- ---- the walk over calls

  module _ (takes : u.takes_calls ≡ true) (h : Held) where
    index_is : arg_by_index rules 1 ≡ Some built_calls
    index_is = ap (λ (b : Bool). arg_by_index (built_rules u.flags b) 1) takes ∙ by_index u.flags

    calls_id : arg_by_id rules (codes "CALL") ≡ Some built_calls
    calls_id = ap (λ (b : Bool). arg_by_id (built_rules u.flags b) (codes "CALL")) takes ∙ calls_by_id u.flags all

    -- where the walk stands after these texts, one or more
    after_calls : List Text → Walk
    after_calls calls = record {
      held = record (settled rules h) { pending = Some (codes "CALL", calls) };
      waiting = positional;
      position = 1;
      is_trailing = false;
      stopped = None;
    }

    -- the walk takes the first text
    first_call : (text : Text) → IsPlain text → is_pending built_calls h.pending ≡ false
        → walked rules [] (walk_from h) text ≡ after_calls (text ∷ [])
    unfolding walked after_calls
    first_call text plain other =
        let dashes = plain.not_dashes in
        let long = plain.not_long in
        let short = plain.not_short in
        let index = index_is in
        rw (dashes, long, short, index, other) refl

    -- and the next one
    next_call : (calls : List Text) (text : Text) → IsPlain text
        → walked rules [] (after_calls calls) text ≡ after_calls (calls ++ text ∷ [])
    unfolding walked after_calls
    next_call calls text plain =
        let dashes = plain.not_dashes in
        let long = plain.not_long in
        let short = plain.not_short in
        let index = index_is in
        rw (dashes, long, short, index) refl

    -- neither has a fault
    first_turn : (text : Text) → IsPlain text → is_pending built_calls h.pending ≡ false → Settles u all h
        → turn_fault (built_usage u) [] (walk_from h) text ≡ []
    unfolding Settles
    first_turn text plain other settles =
        let dashes = plain.not_dashes in
        let long = plain.not_long in
        let short = plain.not_short in
        let index = index_is in
        rw (dashes, long, short, index, other) settles

    next_turn : (calls : List Text) (text : Text) → IsPlain text → turn_fault (built_usage u) [] (after_calls calls) text ≡ []
    unfolding after_calls
    next_turn calls text plain =
        let dashes = plain.not_dashes in
        let long = plain.not_long in
        let short = plain.not_short in
        let index = index_is in
        rw (dashes, long, short, index) refl

    -- the first of some texts that spell numbers, and the others
    module _ (t : Text) (ts : List Text) (numbers : All IsNumber (t ∷ ts)) where
      first_plain : IsPlain t
      first_plain = spelled_is_plain t (numbers 0 t (omega arith)).0

      other_numbers : All IsNumber ts
      other_numbers k d lt = numbers (suc k) d (omega arith)

    -- the walk over further texts
    more_calls : (calls more : List Text) → All IsNumber more
        → fold (walked rules []) (after_calls calls) more ≡ after_calls (calls ++ more)
    more_calls calls [] numbers = ap after_calls (sym (append-nil calls))
    more_calls calls (t ∷ ts) numbers =
        ap (λ w. fold (walked rules []) w ts) (next_call calls t (first_plain t ts numbers))
        ∙ more_calls (calls ++ t ∷ []) ts (other_numbers t ts numbers) ∙ ap after_calls (append_assoc calls (t ∷ []) ts)

    more_turns : (calls more : List Text) → All IsNumber more → walk_fault (built_usage u) [] (after_calls calls) more ≡ []
    unfolding walk_fault
    more_turns calls [] numbers = refl
    more_turns calls (t ∷ ts) numbers =
        past _ _ (next_turn calls t (first_plain t ts numbers))
        ∙ ap (λ w. walk_fault (built_usage u) [] w ts) (next_call calls t (first_plain t ts numbers))
        ∙ more_turns (calls ++ t ∷ []) ts (other_numbers t ts numbers)

    -- over one text or more
    module _ (t : Text) (ts : List Text) (numbers : All IsNumber (t ∷ ts)) (other : is_pending built_calls h.pending ≡ false) where
      calls_walk : fold (walked rules []) (walk_from h) (t ∷ ts) ≡ after_calls (t ∷ ts)
      calls_walk =
          ap (λ w. fold (walked rules []) w ts) (first_call t (first_plain t ts numbers) other)
          ∙ more_calls (t ∷ []) ts (other_numbers t ts numbers)

      calls_turns : Settles u all h → walk_fault (built_usage u) [] (walk_from h) (t ∷ ts) ≡ []
      unfolding walk_fault
      calls_turns settles =
          past _ _ (first_turn t (first_plain t ts numbers) other settles)
          ∙ ap (λ w. walk_fault (built_usage u) [] w ts) (first_call t (first_plain t ts numbers) other)
          ∙ more_turns (t ∷ []) ts (other_numbers t ts numbers)

    -- texts that spell numbers pass the parser of numbers
    no_value_fault : (texts : List Text) → All IsNumber texts → values_kinds false number_parser texts ≡ []
    no_value_fault [] numbers = refl
    no_value_fault (t ∷ ts) numbers =
        let number = numbers 0 t (omega arith) in
        let accepted = Accepts-accepts false number_parser t (number.0, omega arith, omega arith, omega arith) in
        rw accepted (no_value_fault ts (other_numbers t ts numbers))

    -- so they settle
    calls_settle : (t : Text) (ts : List Text) → All IsNumber (t ∷ ts) → length (t ∷ ts) ≤ usize_max
        → Settles u all (after_calls (t ∷ ts)).held
    unfolding Settles after_calls
    calls_settle t ts numbers fits =
        let not_few : nat_lt (length (t ∷ ts)) 0 ≡ false = le-ltb _ _ (omega arith) in
        let not_many : nat_lt usize_max (length (t ∷ ts)) ≡ false = le-ltb _ _ fits in
        let by = calls_id in
        let values = no_value_fault (t ∷ ts) numbers in
        rw (by, not_few, not_many, values) refl

    -- and add their row
    calls_row : (t : Text) (ts : List Text) (rows : List Row) → (settled rules h).rows ≡ rows → has_row (codes "CALL") rows ≡ false
        → (settled rules (after_calls (t ∷ ts)).held).rows ≡ rows ++ row_with (codes "CALL") (t ∷ ts) ∷ []
    unfolding after_calls
    calls_row t ts rows is new =
        let by = calls_id in
        rw (by, is) (new_row (codes "CALL") (t ∷ ts) rows new)

  -- ---- the words of a use

  module _ (given : List Given) (options : AreOptionsOf u.flags given) (required : has_required u.flags given ≡ true) where
    -- what is held after the options
    held : Held
    held = taken_all u all given nothing_held

    go_on : Goes u all given nothing_held
    go_on = options_go u all given options

    -- options alone
    options_end : Ends u (option_words given ++ []) (use_rows given [])
    unfolding walk_fault held
    options_end =
        ends (option_words given ++ []) (walk_from held) (use_rows given []) (go_on.walked_is []) (go_on.turns [])
        go_on.settles (go_on.rows ∙ sym (append-nil (map row_given given))) (none_missing u.flags u.takes_calls given [] required)

    -- and with calls
    calls_end : (t : Text) (ts : List Text) → u.takes_calls ≡ true → All IsNumber (t ∷ ts) → length (t ∷ ts) ≤ usize_max
        → Ends u (option_words given ++ t ∷ ts) (use_rows given (t ∷ ts))
    unfolding held
    calls_end t ts takes numbers fits =
        ends (option_words given ++ t ∷ ts) (after_calls takes held (t ∷ ts)) (use_rows given (t ∷ ts))
        (go_on.walked_is (t ∷ ts) ∙ calls_walk takes held t ts numbers go_on.other)
        (go_on.turns (t ∷ ts) ∙ calls_turns takes held t ts numbers go_on.other go_on.settles)
        (calls_settle takes held t ts numbers fits)
        (calls_row takes held t ts (map row_given given) go_on.rows (none_calls u.flags given all options))
        (none_missing u.flags u.takes_calls given (calls_rows (t ∷ ts)) required)

    -- both
    use_ends : (calls : List Text) → (u.takes_calls ≡ false → calls ≡ []) → All IsNumber calls → length calls ≤ usize_max
        → Ends u (option_words given ++ calls) (use_rows given calls)
    use_ends [] none numbers fits = options_end
    use_ends (t ∷ ts) none numbers fits = go u.takes_calls refl
      where
        go : (b : Bool) → u.takes_calls ≡ b → Ends u (option_words given ++ t ∷ ts) (use_rows given (t ∷ ts))
        go true takes = calls_end t ts takes numbers fits
        go false takes = let no = none takes in cc

-- ---- the words

-- the numbers of calls are those that the texts spell
given_calls : (takes_calls : Bool) (calls : List Text) (ns : List ℕ) → (takes_calls ≡ false → calls ≡ []) → AreCallsOf takes_calls calls ns
    → ns ≡ map number_of calls
given_calls true calls ns none are = are.1
given_calls false calls ns none are = are ∙ ap (map number_of) (sym (none refl))

-- the program's own level wants nothing but a subcommand
takes_subcommand : (program : Text) (table : List Usage) → TakesSubcommand (built_table program table)
unfolding defaults_fault
takes_subcommand program table = record { defaults = refl; checks = refl }

-- a use of a table
module _ (program : Text) (first : Usage) (others : List Usage) (all : are_usages (first ∷ others) ≡ true) (words : List Text) (u : Usage)
    (given : List Given) (calls : List Text) (is : IsUse (first ∷ others) words u given calls) (fits : length words ≤ usize_max) where
  abbrev table : List Usage
  table = first ∷ others

  rest : List Text
  rest = option_words given ++ calls

  flags_are : are_flags u.flags ≡ true
  flags_are = (found_usage table u.name u all is.named).0

  calls_fit : length calls ≤ usize_max
  calls_fit = omega (arith, ap length is.words_are, length-append (option_words given) calls)

  level : Ends u rest (use_rows given calls)
  unfolding rest
  level = use_ends u flags_are given is.options is.required calls is.no_calls is.numbers calls_fit

  -- the words after the program's name
  arguments_are : argument_words (table_app program table) words ≡ u.name ∷ rest
  unfolding rest
  arguments_are = ap (argument_words (table_app program table)) is.words_are

  -- they are accepted
  pub use_accepted : fault_of (table_app program table) words ≡ []
  use_accepted =
      let named = names_usage program table u.name u all is.named in
      ap (built_fault (built (table_app program table)) nothing_held) arguments_are
      ∙ ap (λ (a : App). built_fault a nothing_held (u.name ∷ rest)) (built_is program first others)
      ∙ name_faultless (built_table program table) u.name (built_usage u) named rest (takes_subcommand program table) level.faultless

  -- and the subcommand is what they name
  met : subcommand_of (table_app program table) words ≡ Some (u.name, use_rows given calls)
  met =
      let named = names_usage program table u.name u all is.named in
      ap (λ ws. entered (built (table_app program table))
      (walk (built (table_app program table)).top.rules (names_of (built (table_app program table))) nothing_held ws).stopped) arguments_are
      ∙ ap (λ (a : App). entered a (walk a.top.rules (names_of a) nothing_held (u.name ∷ rest)).stopped) (built_is program first others)
      ∙ name_enters (built_table program table) u.name (built_usage u) named rest
      ∙ ap (λ (rows : List Row). Some (u.name, rows)) level.rows_are

  -- its values are words where they have to be
  pub use_named : has_named table (subcommand_of (table_app program table) words) ≡ true
  use_named =
      ap (has_named table) met
      ∙ ap (λ (o : Option Usage). option_map_or (λ v. are_named v.flags (λ name. first_of name (use_rows given calls))) o true) is.named
      ∙ all_named u.flags u.flags given calls (flags_own u.flags flags_are) flags_are is.options

  -- so what they ask for is what they give
  pub use_gives : (asked : Asked) → Asks table (subcommand_of (table_app program table) words) asked → Gives u given calls asked
  use_gives asked asks =
      let pair = same_Some _ _ (sym asks.subcommand ∙ met) in
      let name_is : asked.name ≡ u.name = ap (λ (p : Text × List Row). p.0) pair in
      let rows_are : asks.rows ≡ use_rows given calls = ap (λ (p : Text × List Row). p.1) pair in
      let usage_is : asks.usage ≡ u = same_Some _ _ (sym asks.named ∙ ap (λ (n : Text). usage_named n table) name_is ∙ is.named) in
      let numbers : AreNumbersOf u.flags (λ name. first_of name (use_rows given calls)) asked.numbers =
      subst (λ (v : Usage). AreNumbersOf v.flags (λ name. first_of name (use_rows given calls)) asked.numbers) usage_is
      (subst (λ (rows : List Row). AreNumbersOf asks.usage.flags (λ name. first_of name rows) asked.numbers) rows_are asks.numbers) in
      let texts_are : values_of (codes "CALL") asks.rows ≡ calls =
      ap (values_of (codes "CALL")) rows_are ∙ calls_are given calls (none_calls u.flags given flags_are is.options) in
      let read : AreCallsOf u.takes_calls calls asked.calls =
      subst (λ (v : Usage). AreCallsOf v.takes_calls calls asked.calls) usage_is
      (subst (λ (texts : List Text). AreCallsOf asks.usage.takes_calls texts asked.calls) texts_are asks.calls) in
      record {
        name = name_is;
        numbers = numbers_given u.flags given calls asked.numbers flags_are numbers;
        calls = given_calls u.takes_calls calls asked.calls is.no_calls read;
      }
