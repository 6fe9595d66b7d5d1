-- The walk over the options of a subcommand and their values.
use Rattle.command_line.proofs.Common.{◌≡◌, ◌∙◌, ◌++◌, true, false, refl, sym, ap, subst, arith, append_assoc, append-nil, map, List, [], ◌∷◌, Option}
use Rattle.command_line.proofs.Common.{Some, None, codes, fold, bytes_eq, leb-true, and_parts, or_parts, bytes_eq-Decides, settle_fault, turn_fault}
use Rattle.command_line.proofs.Common.{walk_fault, Shape, accepts, reading_of, Held, Row, Walk, arg_by_id, arg_by_long, at_row, has_row, is_pending}
use Rattle.command_line.proofs.Common.{more_values, nothing_held, option, settled, walk_from, walked, with_values, without, Unsigned, CommandLine}
use Rattle.command_line.proofs.Common.{past, Accepts-accepts, missing_of, parser_for, u64_limit, Choice, Flag, Usage, among, are_flags, flag_named}
use Rattle.command_line.proofs.Common.{is_choice, switch, switch_text, within, AreOptionsOf, Given, IsValue, IsValueOf, has_option, option_words}
use Rattle.command_line.proofs.Common.{text_given, value_words}
use Rattle.clap.specs.Walk.{Text}
use Rattle.clap.specs.declared.builder.value_parser.Reading.TheVariants.{AsWritten}
use Rattle.command_line.specs.Commands.{values_of}
use Rattle.command_line.proofs.PlainLemmas.{IsPlain, value_is_plain}
use Rattle.command_line.proofs.TableLemmas.{IsFlagWord, IsFound, built_calls, built_flag, built_usage, by_id, by_long, flag_word, found_flag}
use Rattle.command_line.proofs.TableLemmas.{same_swapped}

-- ---- rows

-- a row of an id that no other row has comes last
at_new : (id : Text) (change : Row → List Row) (missing rows : List Row) → has_row id rows ≡ false
    → at_row id change missing rows ≡ rows ++ missing
at_new id change missing [] new = refl
at_new id change missing (r ∷ rs) new =
    let parts = or_parts (bytes_eq r.id id) _ new in
    let other = parts.0 in
    rw other (ap (λ (rest : List Row). r ∷ rest) (at_new id change missing rs parts.1))

-- the row of an argument with these values
abbrev pub row_with : Text → List Text → Row
row_with id values = record { id = id; values = values; count = None; source = Some CommandLine; reading = AsWritten }

-- values of an id that has no row come last
pub new_row : (id : Text) (values : List Text) (rows : List Row) → has_row id rows ≡ false
    → with_values id AsWritten CommandLine values rows ≡ rows ++ row_with id values ∷ []
new_row id values rows new = at_new id (more_values CommandLine values) (row_with id values ∷ []) rows new

-- and there is none to take out
pub without_none : (id : Text) (rows : List Row) → has_row id rows ≡ false → without id rows ≡ rows
without_none id rows new = at_new id (λ _. []) [] rows new ∙ append-nil rows

-- two lists of rows
pub has_row_more : (id : Text) (rows : List Row) (r : Row) → has_row id rows ≡ false → bytes_eq r.id id ≡ false
    → has_row id (rows ++ r ∷ []) ≡ false
has_row_more id [] r none other = rw other refl
has_row_more id (x ∷ xs) r none other =
    let parts = or_parts (bytes_eq x.id id) _ none in
    let first = parts.0 in
    rw first (has_row_more id xs r parts.1 other)

-- ---- one option

-- a value that an option takes passes its parser
value_passes : (choice : Choice) (text : Text) → is_choice choice ≡ true → IsValue choice (Some text)
    → accepts false (parser_for choice) text ≡ true
value_passes (within least greatest) text sound value =
    let fits = leb-true greatest u64_limit sound in
    Accepts-accepts false (Unsigned least greatest) text (value.0, omega arith, value.1, value.2)
value_passes (among words) text sound value = refl
value_passes switch text sound value = absurd value

-- and is kept as it was written
read_as_written : (choice : Choice) → reading_of (parser_for choice) ≡ AsWritten
read_as_written (within least greatest) = refl
read_as_written (among words) = refl
read_as_written switch = refl

-- an option that takes a value takes one
takes_one : (choice : Choice) (text : Text) → IsValue choice (Some text) → values_of choice ≡ 1
takes_one (within least greatest) text value = refl
takes_one (among words) text value = refl
takes_one switch text value = absurd value

-- what holds of an option that takes none
record IsSwitch (choice : Choice) : Type 0 where
  none : values_of choice ≡ 0
  missing : missing_of choice ≡ switch_text ∷ []
  accepted : accepts false (parser_for choice) switch_text ≡ true

is_switch : (choice : Choice) → IsValue choice None → IsSwitch choice
is_switch (within least greatest) value = absurd value
is_switch (among words) value = absurd value
is_switch switch value = record { none = refl; missing = refl; accepted = refl }

-- the row of an option that is given
abbrev pub row_given : Given → Row
row_given g = row_with g.0 (text_given g ∷ [])

-- a subcommand whose options are as they should be
module _ (u : Usage) (all : are_flags u.flags ≡ true) where
  abbrev pub shape : Shape
  shape = built_usage u

  -- what is held after an option and its value
  taken : Text → Text → Held → Held
  taken name text h = record (settled shape.rules h) { pending = Some (name, text ∷ []) }

  -- where the walk stands between them
  between : Text → Held → Walk
  between name h = record (walk_from (record (settled shape.rules h) { pending = Some (name, []) })) { waiting = option name }

  -- what is held after a switch
  switched : Text → Held → Held
  switched name h = record h {
    rows = with_values name AsWritten CommandLine (switch_text ∷ []) (without name (settled shape.rules h).rows);
    pending = None;
  }

  -- what is pending is used without a fault
  unfoldable pub Settles : Held → Type 0
  Settles h = settle_fault shape.rules shape.args_override_self h ≡ []

  -- the option that is named, with its value, or with none
  pub record IsOption (name : Text) (given : Option Text) : Type 0 where
    pub flag : Flag
    pub found : flag_named name u.flags ≡ Some flag
    pub value : IsValue flag.values given

  pub is_option : (name : Text) (given : Option Text) → IsValueOf (flag_named name u.flags) given → IsOption name given
  is_option name given value = go (flag_named name u.flags) refl value
    where
      go : (o : Option Flag) → flag_named name u.flags ≡ o → IsValueOf o given → IsOption name given
      go None found value = absurd value
      go (Some f) found value = record { flag = f; found = found; value = value }

  module _ (name : Text) (given : Option Text) (is : IsOption name given) where
    found : IsFound u.flags name is.flag
    found = found_flag u.flags name is.flag all is.found

    flag_id : arg_by_id shape.rules name ≡ Some (built_flag is.flag)
    flag_id = by_id u.flags u.takes_calls name is.flag is.found

    flag_long : arg_by_long shape.rules name ≡ Some (built_flag is.flag)
    flag_long = by_long u.flags u.takes_calls name is.flag is.found

    word : IsFlagWord name
    word = subst IsFlagWord found.name_is (flag_word is.flag.name found.is_flag.filled found.is_flag.no_equals)

  -- ---- an option with a value

  module _ (name text : Text) (is : IsOption name (Some text)) where
    plain : IsPlain text
    plain = value_is_plain is.flag.values text (and_parts _ _ (found name (Some text) is).is_flag.limits).0 is.value

    passes : accepts false (parser_for is.flag.values) text ≡ true
    passes = value_passes is.flag.values text (and_parts _ _ (found name (Some text) is).is_flag.limits).0 is.value

    one : values_of is.flag.values ≡ 1
    one = takes_one is.flag.values text is.value

    -- the walk takes the flag
    flag_walked : (h : Held) → walked shape.rules [] (walk_from h) (45 ∷ 45 ∷ name) ≡ between name h
    unfolding walked between
    flag_walked h =
        let dashes = (word name (Some text) is).not_dashes in
        let long = (word name (Some text) is).long_is in
        let by = flag_long name (Some text) is in
        let same = (found name (Some text) is).name_is in
        let takes = one in
        rw (dashes, long, by, same, takes) refl

    -- which has no fault
    flag_turn : (h : Held) → Settles h → turn_fault shape [] (walk_from h) (45 ∷ 45 ∷ name) ≡ []
    unfolding Settles
    flag_turn h settles =
        let dashes = (word name (Some text) is).not_dashes in
        let long = (word name (Some text) is).long_is in
        let by = flag_long name (Some text) is in
        let takes = one in
        rw (dashes, long, by, takes) (past _ _ settles)

    -- and then its value
    value_walked : (h : Held) → walked shape.rules [] (between name h) text ≡ walk_from (taken name text h)
    unfolding walked between taken
    value_walked h =
        let dashes = plain.not_dashes in
        let long = plain.not_long in
        let short = plain.not_short in
        let by = flag_id name (Some text) is in
        let same = (bytes_eq-Decides name is.flag.name).1 (sym (found name (Some text) is).name_is) in
        let takes = one in
        rw (dashes, long, short, by, same, takes) refl

    -- which has none either
    value_turn : (h : Held) → turn_fault shape [] (between name h) text ≡ []
    unfolding between
    value_turn h =
        let dashes = plain.not_dashes in
        let long = plain.not_long in
        let short = plain.not_short in
        rw (dashes, long, short) refl

    module _ (h : Held) (new : has_row name (settled shape.rules h).rows ≡ false) where
      -- the option adds its row
      taken_rows : (settled shape.rules (taken name text h)).rows ≡ (settled shape.rules h).rows ++ row_given (name, Some text) ∷ []
      unfolding taken
      taken_rows =
          let by = flag_id name (Some text) is in
          let same = (found name (Some text) is).name_is in
          let out = without_none name (settled shape.rules h).rows new in
          let reading = read_as_written is.flag.values in
          rw (by, same, out, reading) (new_row name (text ∷ []) (settled shape.rules h).rows new)

      -- and is used without a fault
      taken_settles : Settles (taken name text h)
      unfolding taken Settles
      taken_settles =
          let by = flag_id name (Some text) is in
          let same = (found name (Some text) is).name_is in
          let accepted = passes in
          let takes = one in
          rw (by, same, new, accepted, takes) refl

    -- it is not that of the calls
    taken_other : (h : Held) → is_pending built_calls (taken name text h).pending ≡ false
    unfolding taken
    taken_other h = ap (λ (n : Text). bytes_eq n (codes "CALL")) (sym (found name (Some text) is).name_is) ∙ (found name (Some text) is).is_flag.not_calls

    -- the walk goes on after the option and its value
    option_walked : (h : Held) (rest : List Text) → fold (walked shape.rules []) (walk_from h) ((45 ∷ 45 ∷ name) ∷ text ∷ rest)
        ≡ fold (walked shape.rules []) (walk_from (taken name text h)) rest
    option_walked h rest =
        ap (λ w. fold (walked shape.rules []) (walked shape.rules [] w text) rest) (flag_walked h)
        ∙ ap (λ w. fold (walked shape.rules []) w rest) (value_walked h)

    -- and so do its faults
    option_turns : (h : Held) (rest : List Text) → Settles h → walk_fault shape [] (walk_from h) ((45 ∷ 45 ∷ name) ∷ text ∷ rest)
        ≡ walk_fault shape [] (walk_from (taken name text h)) rest
    unfolding walk_fault
    option_turns h rest settles =
        past _ _ (flag_turn h settles) ∙ ap (λ w. walk_fault shape [] w (text ∷ rest)) (flag_walked h)
        ∙ past _ _ (value_turn h) ∙ ap (λ w. walk_fault shape [] w rest) (value_walked h)

  -- ---- a switch

  module _ (name : Text) (is : IsOption name None) (h : Held) (new : has_row name (settled shape.rules h).rows ≡ false) where
    -- the walk takes the flag
    switch_walked : walked shape.rules [] (walk_from h) (45 ∷ 45 ∷ name) ≡ walk_from (switched name h)
    unfolding walked switched
    switch_walked =
        let dashes = (word name None is).not_dashes in
        let long = (word name None is).long_is in
        let by = flag_long name None is in
        let same = (found name None is).name_is in
        let values = is_switch is.flag.values is.value in
        let none = values.none in
        let missing = values.missing in
        let reading = read_as_written is.flag.values in
        rw (dashes, long, by, same, none, missing, reading) refl

    -- which has no fault
    switch_turn : Settles h → turn_fault shape [] (walk_from h) (45 ∷ 45 ∷ name) ≡ []
    unfolding Settles
    switch_turn settles =
        let dashes = (word name None is).not_dashes in
        let long = (word name None is).long_is in
        let by = flag_long name None is in
        let same = (found name None is).name_is in
        let values = is_switch is.flag.values is.value in
        let none = values.none in
        let missing = values.missing in
        let accepted = values.accepted in
        rw (dashes, long, by, same, none, missing, new, accepted) (past _ _ (past _ _ settles))

    -- it adds its row
    switch_rows : (settled shape.rules (switched name h)).rows ≡ (settled shape.rules h).rows ++ row_given (name, None) ∷ []
    unfolding switched
    switch_rows =
        let out = without_none name (settled shape.rules h).rows new in
        rw out (new_row name (switch_text ∷ []) (settled shape.rules h).rows new)

    -- and leaves nothing that is pending
    switch_settles : Settles (switched name h)
    unfolding switched Settles
    switch_settles = refl

    switch_other : is_pending built_calls (switched name h).pending ≡ false
    unfolding switched
    switch_other = refl

  -- ---- an option, with a value or without

  -- what is held after it
  after_given : Text → Option Text → Held → Held
  after_given name None h = switched name h
  after_given name (Some text) h = taken name text h

  -- the walk over one option
  record Passes (name : Text) (given : Option Text) (h : Held) : Type 0 where
    rows : (settled shape.rules (after_given name given h)).rows ≡ (settled shape.rules h).rows ++ row_given (name, given) ∷ []
    settles : Settles (after_given name given h)
    other : is_pending built_calls (after_given name given h).pending ≡ false
    walked_is : (rest : List Text) → fold (walked shape.rules []) (walk_from h) ((45 ∷ 45 ∷ name) ∷ (value_words given ++ rest))
        ≡ fold (walked shape.rules []) (walk_from (after_given name given h)) rest
    turns : (rest : List Text) → walk_fault shape [] (walk_from h) ((45 ∷ 45 ∷ name) ∷ (value_words given ++ rest))
        ≡ walk_fault shape [] (walk_from (after_given name given h)) rest

  passes_by : (name : Text) (given : Option Text) (h : Held) → IsOption name given → has_row name (settled shape.rules h).rows ≡ false
      → Settles h → Passes name given h
  unfolding after_given walk_fault
  passes_by name None h is new settles = record {
    rows = switch_rows name is h new;
    settles = switch_settles name is h new;
    other = switch_other name is h new;
    walked_is = λ rest. ap (λ w. fold (walked shape.rules []) w rest) (switch_walked name is h new);
    turns = λ rest. past _ _ (switch_turn name is h new settles) ∙ ap (λ w. walk_fault shape [] w rest) (switch_walked name is h new);
  }
  passes_by name (Some text) h is new settles = record {
    rows = taken_rows name text is h new;
    settles = taken_settles name text is h new;
    other = taken_other name text is h;
    walked_is = λ rest. option_walked name text is h rest;
    turns = λ rest. option_turns name text is h rest settles;
  }

  -- ---- all options

  -- what is held after options
  pub taken_all : List Given → Held → Held
  taken_all [] h = h
  taken_all (g ∷ gs) h = taken_all gs (after_given g.0 g.1 h)

  -- no row is there of any of these
  abbrev AreNew : List Row → List Given → Type 0
  AreNew rows [] = Unit {0}
  AreNew rows (g ∷ gs) = (has_row g.0 rows ≡ false) × AreNew rows gs

  -- nor after that of another
  new_after : (rows : List Row) (g : Given) (gs : List Given) → has_option g.0 gs ≡ false → AreNew rows gs
      → AreNew (rows ++ row_given g ∷ []) gs
  new_after rows g [] once new = tt
  new_after rows g (x ∷ xs) once new =
      let parts = or_parts (bytes_eq x.0 g.0) _ once in
      (has_row_more x.0 rows (row_given g) new.0 (same_swapped g.0 x.0 ∙ parts.0), new_after rows g xs parts.1 new.1)

  -- the walk over options, from what is held before them
  pub record Goes (given : List Given) (h : Held) : Type 0 where
    pub rows : (settled shape.rules (taken_all given h)).rows ≡ (settled shape.rules h).rows ++ map row_given given
    pub settles : Settles (taken_all given h)
    pub other : is_pending built_calls (taken_all given h).pending ≡ false
    pub walked_is : (rest : List Text) → fold (walked shape.rules []) (walk_from h) (option_words given ++ rest)
        ≡ fold (walked shape.rules []) (walk_from (taken_all given h)) rest
    pub turns : (rest : List Text) → walk_fault shape [] (walk_from h) (option_words given ++ rest)
        ≡ walk_fault shape [] (walk_from (taken_all given h)) rest

  goes : (given : List Given) (h : Held) → AreOptionsOf u.flags given → AreNew (settled shape.rules h).rows given → Settles h
      → is_pending built_calls h.pending ≡ false → Goes given h
  unfolding taken_all
  goes [] h options new settles other = record {
    rows = sym (append-nil (settled shape.rules h).rows);
    settles = settles;
    other = other;
    walked_is = λ rest. refl;
    turns = λ rest. refl;
  }
  goes (g ∷ gs) h options new settles other =
      let one = passes_by g.0 g.1 h (is_option g.0 g.1 options.0) new.0 settles in
      let news = subst (λ (rs : List Row). AreNew rs gs) (sym one.rows) (new_after (settled shape.rules h).rows g gs options.1 new.1) in
      let later = goes gs (after_given g.0 g.1 h) options.2 news one.settles one.other in
      let words = λ (rest : List Text). append_assoc (value_words g.1) (option_words gs) rest in
      record {
        rows = later.rows ∙ ap (λ (rs : List Row). rs ++ map row_given gs) one.rows
            ∙ append_assoc (settled shape.rules h).rows (row_given g ∷ []) (map row_given gs);
        settles = later.settles;
        other = later.other;
        walked_is = λ rest.
            ap (λ (ws : List Text). fold (walked shape.rules []) (walk_from h) ((45 ∷ 45 ∷ g.0) ∷ ws)) (words rest)
            ∙ one.walked_is (option_words gs ++ rest) ∙ later.walked_is rest;
        turns = λ rest.
            ap (λ (ws : List Text). walk_fault shape [] (walk_from h) ((45 ∷ 45 ∷ g.0) ∷ ws)) (words rest)
            ∙ one.turns (option_words gs ++ rest) ∙ later.turns rest;
      }

  -- no row is there at first
  none_there : (given : List Given) → AreNew [] given
  none_there [] = tt
  none_there (g ∷ gs) = (refl, none_there gs)

  -- nothing that is held settles
  nothing_settles : Settles nothing_held
  unfolding Settles
  nothing_settles = refl

  -- so it is from the start
  pub options_go : (given : List Given) → AreOptionsOf u.flags given → Goes given nothing_held
  options_go given options = goes given nothing_held options (none_there given) nothing_settles refl
