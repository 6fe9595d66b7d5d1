-- The rows that a level of a simple command leaves: where no step of the level fails, the values of
-- each row pass the parser of its argument, and there are some where each use of it wants some. Each
-- lemma says so of one step: it leaves rows that pass where the rows before it do and the step has no
-- fault.
use Rattle.command_line.proofs.Common.{◌≡◌, ◌∙◌, arith, ◌+◌, ◌++◌, ◌&&◌, ◌||◌, ℕ, Bool, zero, suc, true, false, not, cond, refl, sym, ap, subst, List}
use Rattle.command_line.proofs.Common.{[], ◌∷◌, length, min, drop, nat_lt, Option, Some, None, is_some, find, fold, option_map_or, encode_utf8}
use Rattle.command_line.proofs.Common.{slice_get, bytes_eq, chars, ne_eqb, same_Some, bytes_eq-Decides, parser_of_value, unwrap_or_range}
use Rattle.command_line.proofs.Common.{action_fault, bundle_fault, bundle_step_fault, count_fault, default_fault, defaults_fault, flag_word_fault}
use Rattle.command_line.proofs.Common.{flags_fault, given_default_fault, level_fault, long_fault, option_fault, other_fault, positional_fault}
use Rattle.command_line.proofs.Common.{react_fault, repeat_fault, set_fault, settle_fault, short_fault, step_fault, stray_fault, turn_fault}
use Rattle.command_line.proofs.Common.{use_fault, values_fault, walk_fault, word_fault, Kinds, or_else, range_kinds, request_kinds, value_kinds}
use Rattle.command_line.proofs.Common.{values_kinds, long_of, short_of, Shape, Held, Names, Outcome, Row, Rule, Step, Waiting, Walk, action_of}
use Rattle.command_line.proofs.Common.{after_flag, after_step, arg_by_id, arg_by_index, arg_by_long, arg_by_short, at_row, attached_value, bundle}
use Rattle.command_line.proofs.Common.{bundle_met, bundle_step, count_of, counted, default_rows, done, flag_met, has_row, idle, is_empty, is_pending}
use Rattle.command_line.proofs.Common.{long_met, long_or_other, more_values, most_values, new_count, next, nothing_held, option, option_met}
use Rattle.command_line.proofs.Common.{option_word, plain, plain_word, positional, positional_held, pushed, reacted, reading_by, refused, rows_after}
use Rattle.command_line.proofs.Common.{settled, settled_rows, short_met, short_or_plain, subcommand, subcommand_met, subcommand_or_other}
use Rattle.command_line.proofs.Common.{takes_several, takes_values, to_positional, trailing, used, used_as, used_by_id, value, values_or_missing}
use Rattle.command_line.proofs.Common.{waits, walk, walk_from, walked, walked_from, with_count, with_default, with_values, without, word_met}
use Rattle.command_line.proofs.Common.{ValueParser, CommandLine, DefaultValue}
use Rattle.clap.specs.Matches.{count_text}
use Rattle.clap.specs.Walk.{Text}
use Rattle.clap.specs.declared.builder.action.ArgAction.{ArgAction}
use Rattle.clap.specs.declared.builder.value_parser.Reading.{Reading}
use Rattle.clap.specs.declared.parser.matches.ValueSource.{ValueSource}
use Rattle.clap.specs.declared.builder.action.ArgAction.TheVariants as action
use Rattle.clap.specs.declared.error.kind.ErrorKind.TheVariants as kind

-- ---- kinds

-- neither step fails, where their kinds together are none
pub neither : (a b : Kinds) → or_else a b ≡ [] → (a ≡ []) × (b ≡ [])
neither [] b none = (refl, none)
neither (k ∷ ks) b none = cc

-- all of two lists pass, where those of each do
all_pass : (ignore_case : Bool) (parser : ValueParser) (xs ys : List Text) → values_kinds ignore_case parser xs ≡ []
    → values_kinds ignore_case parser ys ≡ [] → values_kinds ignore_case parser (xs ++ ys) ≡ []
all_pass ignore_case parser [] ys first rest = rest
all_pass ignore_case parser (x ∷ xs) ys first rest =
    let parts = neither (value_kinds ignore_case parser x) _ first in
    rw (parts.0, all_pass ignore_case parser xs ys parts.1 rest) refl

-- ---- values

-- there are some texts
abbrev pub AreSome : List Text → Type 0
AreSome [] = ⊥
AreSome (v ∷ vs) = Unit {0}

-- some before others
some_after : (xs ys : List Text) → AreSome ys → AreSome (xs ++ ys)
some_after [] ys some = some
some_after (x ∷ xs) ys some = tt

-- each use of the argument wants some value, or has one where none is written
abbrev pub wants_value : Rule → Bool
wants_value a = nat_lt 0 (unwrap_or_range a.range).start_inclusive || not (is_empty a.missing)

-- the values pass the parser of the argument, and there are some where it wants some
pub record HasValues (a : Rule) (values : List Text) : Type 0 where
  pub pass : values_fault a values ≡ []
  pub some : wants_value a ≡ true → AreSome values

-- a use that has not too few values has some, where the argument wants some
used_some : (a : Rule) (most : ℕ) (values : List Text) → range_kinds (unwrap_or_range a.range).start_inclusive most (length values) ≡ []
    → wants_value a ≡ true → AreSome (values_or_missing a values)
used_some a most [] none wants = go (nat_lt 0 (unwrap_or_range a.range).start_inclusive) a.missing refl wants
  where
    go : (b : Bool) (missing : List Text) → nat_lt 0 (unwrap_or_range a.range).start_inclusive ≡ b → (b || not (is_empty missing)) ≡ true
        → AreSome missing
    go true missing is wants = let bad : kind.InvalidValue ∷ [] ≡ [] = rw is at none in cc
    go false [] is wants = cc
    go false (v ∷ vs) is wants = tt
used_some a most (v ∷ vs) none wants = tt

-- ---- rows

-- the row has values of the argument that has its id
abbrev pub RowPasses : List Rule → Row → Type 0
RowPasses c r = (a : Rule) → arg_by_id c r.id ≡ Some a → HasValues a r.values

-- and so it is of each row
abbrev pub RowsPass : List Rule → List Row → Type 0
RowsPass c [] = Unit {0}
RowsPass c (r ∷ rs) = RowPasses c r × RowsPass c rs

-- the argument is the first that has its id
abbrev pub IsOwn : List Rule → Rule → Type 0
IsOwn c a = arg_by_id c a.id ≡ Some a

-- and so is each of these
abbrev pub AllOwn : List Rule → List Rule → Type 0
AllOwn c [] = Unit {0}
AllOwn c (a ∷ rest) = IsOwn c a × AllOwn c rest

-- what is found passes the test
pub found_passes : {X : Type 0} (p : X → Bool) (xs : List X) (x : X) → find p xs ≡ Some x → p x ≡ true
found_passes p [] x found = cc
found_passes p (y ∷ ys) x found = go (p y) refl (found_passes p ys x) found
  where
    go : (b : Bool) → p y ≡ b → (find p ys ≡ Some x → p x ≡ true) → cond b (Some y) (find p ys) ≡ Some x → p x ≡ true
    go true here later is = ap p (sym (same_Some y x is)) ∙ here
    go false here later is = later is

-- so an argument that is found by its id is the first that has its id
own_by_id : (c : List Rule) (id : Text) (a : Rule) → arg_by_id c id ≡ Some a → IsOwn c a
own_by_id c id a found =
    let id_is : a.id ≡ id = (bytes_eq-Decides a.id id).0 (found_passes (λ (r : Rule). bytes_eq r.id id) c a found) in
    subst (λ (w : Text). arg_by_id c w ≡ Some a) (sym id_is) found

-- and any that is found, where all are
own_found : (c xs : List Rule) (p : Rule → Bool) (a : Rule) → AllOwn c xs → find p xs ≡ Some a → IsOwn c a
own_found c [] p a own found = cc
own_found c (x ∷ xs) p a own found = go (p x) (own_found c xs p a own.1) found
  where
    go : (b : Bool) → (find p xs ≡ Some a → IsOwn c a) → cond b (Some x) (find p xs) ≡ Some a → IsOwn c a
    go true later is = subst (IsOwn c) (same_Some x a is) own.0
    go false later is = later is

module _ (c : List Rule) where
  -- two lists of rows
  rows_append : (rs ts : List Row) → RowsPass c rs → RowsPass c ts → RowsPass c (rs ++ ts)
  rows_append [] ts first rest = rest
  rows_append (r ∷ rs) ts first rest = (first.0, rows_append rs ts first.1 rest)

  -- a change of the row of one id keeps that all pass
  rows_changed : (id : Text) (change : Row → List Row) (missing rows : List Row)
      → ((r : Row) → r.id ≡ id → RowPasses c r → RowsPass c (change r)) → RowsPass c missing → RowsPass c rows
      → RowsPass c (at_row id change missing rows)
  rows_changed id change missing [] changes absent rows = absent
  rows_changed id change missing (r ∷ rs) changes absent rows =
      go (bytes_eq r.id id) refl (rows_changed id change missing rs changes absent rows.1)
    where
      go : (b : Bool) → bytes_eq r.id id ≡ b → RowsPass c (at_row id change missing rs)
          → RowsPass c (cond b (change r ++ rs) (r ∷ at_row id change missing rs))
      go true here later = rows_append (change r) rs (changes r ((bytes_eq-Decides r.id id).0 here) rows.0) rows.1
      go false here later = (rows.0, later)

  -- rows of which that of one id is taken out
  without_passes : (id : Text) (rows : List Row) → RowsPass c rows → RowsPass c (without id rows)
  without_passes id rows all = rows_changed id (λ _. []) [] rows (λ r same one. tt) tt all

  -- one argument, the first that has its id
  module _ (a : Rule) (own : IsOwn c a) where
    -- the values are values of the argument that has this id
    values_by_id : (b : Rule) (vs : List Text) → HasValues a vs → arg_by_id c a.id ≡ Some b → HasValues b vs
    values_by_id b vs passed found = subst (λ (r : Rule). HasValues r vs) (same_Some a b (sym own ∙ found)) passed

    -- more values, after those of a row
    added_to : (r : Row) (vs : List Text) → r.id ≡ a.id → RowPasses c r → HasValues a vs → (b : Rule) → arg_by_id c r.id ≡ Some b
        → HasValues b (r.values ++ vs)
    added_to r vs same one passed b found =
        let more : HasValues b vs = values_by_id b vs passed (subst (λ (w : Text). arg_by_id c w ≡ Some b) same found) in
        record {
          pass = all_pass b.ignore_case (parser_of_value b.parser) r.values vs (one b found).pass more.pass;
          some = λ wants. some_after r.values vs (more.some wants);
        }

    -- more values that pass
    values_added : (how : Reading) (s : ValueSource) (vs : List Text) (rows : List Row) → HasValues a vs → RowsPass c rows
        → RowsPass c (with_values a.id how s vs rows)
    values_added how s vs rows passed all =
        let row : Row = record { id = a.id; values = vs; count = None; source = Some s; reading = how } in
        let more : (r : Row) → r.id ≡ a.id → RowPasses c r → RowsPass c (more_values s vs r) =
        λ r same one. (added_to r vs same one passed, tt) in
        let one : RowsPass c (row ∷ []) = ((λ b found. values_by_id b vs passed found), tt) in
        rows_changed a.id (more_values s vs) (row ∷ []) rows more one all

    -- one more count, whose text passes
    count_added : (how : Reading) (s : ValueSource) (n : ℕ) (rows : List Row) → values_fault a (count_text n ∷ []) ≡ [] → RowsPass c rows
        → RowsPass c (with_count a.id how s n rows)
    count_added how s n rows passed all =
        let row : Row = record { id = a.id; values = count_text n ∷ []; count = Some n; source = Some s; reading = how } in
        let text : HasValues a (count_text n ∷ []) = record { pass = passed; some = λ wants. tt } in
        let more : (r : Row) → r.id ≡ a.id → RowPasses c r → RowsPass c (new_count s n r) =
        λ r same one. (added_to r (count_text n ∷ []) same one text, tt) in
        let one : RowsPass c (row ∷ []) = ((λ b found. values_by_id b (count_text n ∷ []) text found), tt) in
        rows_changed a.id (new_count s n) (row ∷ []) rows more one all

    -- ---- one use of an argument

    -- a use of an argument that counts
    counted_passes : (values : List Text) (rows : List Row) → count_fault a values rows ≡ [] → RowsPass c rows
        → RowsPass c (counted a.id (reading_by a) values rows)
    counted_passes [] rows none all =
        count_added (reading_by a) CommandLine (min (count_of a.id rows + 1) 255) (without a.id rows) (rw none refl)
        (without_passes a.id rows all)
    counted_passes (v ∷ vs) rows none all =
        values_added (reading_by a) CommandLine (v ∷ vs) (without a.id rows) (record { pass = none; some = λ wants. tt })
        (without_passes a.id rows all)

    -- a use that takes the place of an earlier one
    set_passes : (again : Bool) (values : List Text) (rows : List Row) → set_fault again a values rows ≡ []
        → (wants_value a ≡ true → AreSome values)
        → RowsPass c rows → RowsPass c (with_values a.id (reading_by a) CommandLine values (without a.id rows))
    set_passes again values rows none some all =
        let given : HasValues a values = record { pass = (neither (repeat_fault again a.id rows) _ none).1; some = some } in
        values_added (reading_by a) CommandLine values (without a.id rows) given (without_passes a.id rows all)

    -- a use, by the action of the argument
    acted_passes : (x : ArgAction) (again : Bool) (values : List Text) (rows : List Row) → action_fault x again a values rows ≡ []
        → (wants_value a ≡ true → AreSome values) → RowsPass c rows → RowsPass c (used_as x a.id (reading_by a) values rows)
    acted_passes action.Set again values rows none some all = set_passes again values rows none some all
    acted_passes action.SetTrue again values rows none some all = set_passes again values rows none some all
    acted_passes action.SetFalse again values rows none some all = set_passes again values rows none some all
    acted_passes action.Append again values rows none some all =
        values_added (reading_by a) CommandLine values rows (record { pass = none; some = some }) all
    acted_passes action.Count again values rows none some all = counted_passes values rows none all
    acted_passes action.Help again values rows none some all = all
    acted_passes action.HelpShort again values rows none some all = all
    acted_passes action.HelpLong again values rows none some all = all
    acted_passes action.Version again values rows none some all = all

    -- a use with these values, or with those that stand for none
    used_passes : (again : Bool) (values : List Text) (rows : List Row) → use_fault again a values rows ≡ [] → RowsPass c rows
        → RowsPass c (used a values rows)
    used_passes again values rows none all =
        let parts = neither (range_kinds (unwrap_or_range a.range).start_inclusive (most_values a) (length values)) _ none in
        acted_passes (action_of a) again (values_or_missing a values) rows parts.1 (used_some a (most_values a) values parts.0) all

  -- ---- the walk

  module _ (again : Bool) where
    -- a use of the argument that waited for values
    pending_passes : (p : Option (Text × List Text)) (rows : List Row)
        → option_map_or (λ (q : Text × List Text). option_map_or (λ a. use_fault again a q.1 rows) (arg_by_id c q.0) []) p [] ≡ []
        → RowsPass c rows → RowsPass c (settled_rows c p rows)
    pending_passes None rows none all = all
    pending_passes (Some p) rows none all = go (arg_by_id c p.0) refl none
      where
        go : (o : Option Rule) → arg_by_id c p.0 ≡ o → option_map_or (λ a. use_fault again a p.1 rows) o [] ≡ []
            → RowsPass c (used_by_id o p.1 rows)
        go None found none = all
        go (Some a) found none = used_passes a (own_by_id c p.0 a found) again p.1 rows none all

    -- the same, of what is held
    settled_passes : (h : Held) → settle_fault c again h ≡ [] → RowsPass c h.rows → RowsPass c (settled c h).rows
    settled_passes h none all = pending_passes h.pending h.rows none all

    -- and then of another argument
    reacted_passes : (a : Rule) (values : List Text) (h : Held) → IsOwn c a → react_fault c again a values h ≡ [] → RowsPass c h.rows
        → RowsPass c (reacted c a values h).rows
    reacted_passes a values h own none all =
        let parts = neither (settle_fault c again h) _ none in
        used_passes a own again values (settled c h).rows parts.1 (settled_passes h parts.0 all)

    -- an option, with the value that is attached to it
    option_passes : (a : Rule) (v : Option Text) (h : Held) → IsOwn c a → option_fault c again a v h ≡ [] → RowsPass c h.rows
        → RowsPass c (option_met c a v h).0.rows
    option_passes a (Some v) h own none all = reacted_passes a (v ∷ []) h own none all
    option_passes a None h own none all = settled_passes h none all

    module _ (own : AllOwn c c) where
      -- `--name` or `--name=value`
      long_passes : (name : Text) (o : Option Rule) (v : Option Text) (h : Held) → arg_by_long c name ≡ o → long_fault c again o v h ≡ []
          → RowsPass c h.rows → RowsPass c (long_met c o v h).0.rows
      long_passes name None v h found none all = all
      long_passes name (Some a) v h found none all = go (takes_values a) v none
        where
          mine : IsOwn c a
          mine = own_found c c _ a own found

          go : (b : Bool) (w : Option Text)
              → cond b (option_fault c again a w h) (cond (is_some w) (kind.TooManyValues ∷ []) (react_fault c again a [] h)) ≡ []
              → RowsPass c (cond b (option_met c a w h) (flag_met c a w h)).0.rows
          go true w passed = option_passes a w h mine passed all
          go false (Some w) passed = cc
          go false None passed = reacted_passes a [] h mine passed all

      -- a flag of a bundle, where what follows it leaves rows that pass
      short_passes : (x : ℕ) (o : Option Rule) (rest : Text) (h : Held) (met : Held → Held × Outcome) (after : Held → Kinds)
          → arg_by_short c x ≡ o
          → ((k : Held) → after k ≡ [] → RowsPass c k.rows → RowsPass c (met k).0.rows)
          → short_fault c again o rest h after ≡ [] → RowsPass c h.rows → RowsPass c (short_met c o rest h met).0.rows
      short_passes x None rest h met after found later none all = all
      short_passes x (Some a) rest h met after found later none all = go (takes_values a) none
        where
          mine : IsOwn c a
          mine = own_found c c _ a own found

          go : (b : Bool)
              → cond b (option_fault c again a (attached_value rest) h)
              (or_else (react_fault c again a [] h) (after (reacted c a [] h))) ≡ []
              → RowsPass c (cond b (option_met c a (attached_value rest) h) (met (reacted c a [] h))).0.rows
          go true passed = option_passes a (attached_value rest) h mine passed all
          go false passed =
              let parts = neither (react_fault c again a [] h) _ passed in
              later (reacted c a [] h) parts.1 (reacted_passes a [] h mine parts.0 all)

      -- one character of a bundle, in the same way
      bundle_step_passes : (o : Option ℕ) (flags : Text) (skip : ℕ) (so_far : Outcome) (h : Held)
          (met : Text → ℕ → Outcome → Held → Held × Outcome) (after : Text → ℕ → Held → Kinds)
          → ((rest : Text) (n : ℕ) (so_far : Outcome) (k : Held) → after rest n k ≡ [] → RowsPass c k.rows
          → RowsPass c (met rest n so_far k).0.rows)
          → bundle_step_fault c again o flags skip h after ≡ [] → RowsPass c h.rows
          → RowsPass c (bundle_step c o flags skip so_far h met).0.rows
      bundle_step_passes None flags skip so_far h met after later none all = all
      bundle_step_passes (Some x) flags zero so_far h met after later none all =
          let rest : Text = drop (length (encode_utf8 x)) flags in
          short_passes x (arg_by_short c x) rest h (met rest 0 done) (after rest 0) refl (λ k. later rest 0 done k) none all
      bundle_step_passes (Some x) flags (suc skip) so_far h met after later none all =
          later (drop (length (encode_utf8 x)) flags) skip so_far h none all

      -- the characters of a bundle
      flags_pass : (k : ℕ) (flags : Text) (skip : ℕ) (so_far : Outcome) (h : Held) → flags_fault c again k flags skip h ≡ []
          → RowsPass c h.rows → RowsPass c (bundle_met c k flags skip so_far h).0.rows
      unfolding flags_fault bundle_met
      flags_pass zero flags skip so_far h none all = all
      flags_pass (suc k) flags skip so_far h none all =
          bundle_step_passes (slice_get (chars flags) 0) flags skip so_far h (bundle_met c k) (flags_fault c again k)
          (λ rest n before held. flags_pass k rest n before held) none all

  -- a word that is no flag changes no row
  plain_passes : (waiting : Waiting) (word : Text) (h : Held) → RowsPass c h.rows → RowsPass c (plain_word c waiting word h).0.rows
  plain_passes idle word h all = all
  plain_passes positional word h all = all
  plain_passes (option id) word h all = go (arg_by_id c id)
    where
      go : (o : Option Rule) → RowsPass c (option_word o id word h).0.rows
      go None = all
      go (Some a) = all

  -- and what a flag comes to changes none either
  outcome_passes : (waiting : Waiting) (word : Text) (h : Held) (o : Outcome) → RowsPass c h.rows
      → RowsPass c (after_flag c waiting word h o).0.rows
  outcome_passes waiting word h done all = all
  outcome_passes waiting word h (waits id) all = all
  outcome_passes waiting word h plain all = plain_passes waiting word h all
  outcome_passes waiting word h refused all = plain_passes waiting word h all

-- ---- a level

module _ (s : Shape) (own : AllOwn s.rules s.rules) where
  -- a word that is a flag, or none
  flag_word_passes : (waiting : Waiting) (word : Text) (h : Held) (long : Option (Text × Option Text))
      → flag_word_fault s.rules s.args_override_self long word h ≡ [] → RowsPass s.rules h.rows
      → RowsPass s.rules (long_or_other s.rules waiting word long h).0.rows
  flag_word_passes waiting word h (Some p) none all =
      let met = long_met s.rules (arg_by_long s.rules p.0) p.1 h in
      outcome_passes s.rules waiting word met.0 met.1
      (long_passes s.rules s.args_override_self own p.0 (arg_by_long s.rules p.0) p.1 h refl none all)
  flag_word_passes waiting word h None none all = go (short_of word) none
    where
      go : (o : Option Text) → option_map_or (λ flags. bundle_fault s.rules s.args_override_self flags h) o [] ≡ []
          → RowsPass s.rules (short_or_plain s.rules waiting word o h).0.rows
      go None none = plain_passes s.rules waiting word h all
      go (Some flags) none =
          let met = bundle s.rules flags h in
          outcome_passes s.rules waiting word met.0 met.1
          (flags_pass s.rules s.args_override_self own (length flags) flags h.skip plain (record h { skip = 0 }) none all)

  -- a word, before it goes to a positional
  word_passes : (names : Names) (is_trailing : Bool) (waiting : Waiting) (position : ℕ) (word : Text) (h : Held)
      → word_fault s names is_trailing waiting word h ≡ [] → RowsPass s.rules h.rows
      → RowsPass s.rules (word_met s.rules names is_trailing waiting position word h).0.rows
  word_passes names true waiting position word h none all = all
  word_passes names false waiting position word h none all = go (subcommand_met names waiting word) none
    where
      dashes : (b : Bool) → cond b [] (flag_word_fault s.rules s.args_override_self (long_of word) word h) ≡ []
          → RowsPass s.rules (cond b (h, trailing position) (long_or_other s.rules waiting word (long_of word) h)).0.rows
      dashes true none = all
      dashes false none = flag_word_passes waiting word h (long_of word) none all

      go : (o : Option Text) → other_fault s o word h ≡ []
          → RowsPass s.rules (subcommand_or_other s.rules o waiting position word h).0.rows
      go (Some name) none = all
      go None none = dashes (bytes_eq word (45 ∷ 45 ∷ [])) none

  -- a word that goes to a positional
  positional_passes : (a : Rule) (word : Text) (h : Held) → positional_fault s.rules s.args_override_self a h ≡ []
      → RowsPass s.rules h.rows → RowsPass s.rules (positional_held s.rules a word h).rows
  positional_passes a word h none all = go (is_pending a h.pending && takes_several a) none
    where
      go : (b : Bool) → cond b [] (settle_fault s.rules s.args_override_self h) ≡ []
          → RowsPass s.rules (pushed a.id word (cond b h (settled s.rules h))).rows
      go true none = all
      go false none = settled_passes s.rules s.args_override_self h none all

  -- the step that a word took
  step_passes : (word : Text) (w : Walk) (h : Held) (step : Step) → step_fault s w.position h step ≡ []
      → RowsPass s.rules h.rows → RowsPass s.rules (after_step s.rules word w h step).held.rows
  step_passes word w h (next waiting) none all = all
  step_passes word w h (trailing position) none all = all
  step_passes word w h (subcommand name) none all = all
  step_passes word w h value none all = go (arg_by_index s.rules w.position) none
    where
      go : (o : Option Rule) → option_map_or (λ a. positional_fault s.rules s.args_override_self a h) o (stray_fault s) ≡ []
          → RowsPass s.rules (to_positional s.rules o word w h).held.rows
      go None none = all
      go (Some a) none = positional_passes a word h none all

  -- one word of the walk
  turn_passes : (names : Names) (w : Walk) (word : Text) (stopped : Option (Text × List Text))
      → cond (is_some stopped) []
      (or_else (word_fault s names w.is_trailing w.waiting word w.held)
      (step_fault s w.position (word_met s.rules names w.is_trailing w.waiting w.position word w.held).0
      (word_met s.rules names w.is_trailing w.waiting w.position word w.held).1)) ≡ []
      → RowsPass s.rules w.held.rows → RowsPass s.rules (walked_from s.rules names stopped w word).held.rows
  turn_passes names w word (Some p) none all = all
  turn_passes names w word None none all =
      let met = word_met s.rules names w.is_trailing w.waiting w.position word w.held in
      let parts = neither (word_fault s names w.is_trailing w.waiting word w.held) _ none in
      step_passes word w met.0 met.1 parts.1 (word_passes names w.is_trailing w.waiting w.position word w.held parts.0 all)

  -- all words of the walk
  walk_passes : (names : Names) (w : Walk) (words : List Text) → walk_fault s names w words ≡ []
      → RowsPass s.rules w.held.rows → RowsPass s.rules (fold (walked s.rules names) w words).held.rows
  unfolding walk_fault walked
  walk_passes names w [] none all = all
  walk_passes names w (word ∷ rest) none all =
      let parts = neither (turn_fault s names w word) _ none in
      walk_passes names (walked s.rules names w word) rest parts.1 (turn_passes names w word w.stopped parts.0 all)

  -- the default of one argument
  default_passes : (a : Rule) (rows : List Row) → IsOwn s.rules a → default_fault rows a ≡ [] → RowsPass s.rules rows
      → RowsPass s.rules (with_default rows a)
  default_passes a rows mine none all = go (has_row a.id rows) a.defaults none
    where
      go : (b : Bool) (values : List Text) → cond (b || is_empty values) [] (given_default_fault a values) ≡ []
          → RowsPass s.rules (cond b rows (default_rows a.id (reading_by a) values rows))
      go true values none = all
      go false [] none = all
      go false (v ∷ vs) none =
          let some : is_empty (v ∷ vs) ≡ false = ne_eqb (length (v ∷ vs)) 0 (λ e. omega arith) in
          let given : given_default_fault a (v ∷ vs) ≡ [] = rw some at none in
          let values : HasValues a (v ∷ vs) = record { pass = (neither (request_kinds (action_of a)) _ given).1; some = λ wants. tt } in
          values_added s.rules a mine (reading_by a) DefaultValue (v ∷ vs) rows values all

  -- the defaults of all
  defaults_pass : (rows : List Row) (rules : List Rule) → AllOwn s.rules rules → defaults_fault rows rules ≡ [] → RowsPass s.rules rows
      → RowsPass s.rules (fold with_default rows rules)
  unfolding defaults_fault
  defaults_pass rows [] mine none all = all
  defaults_pass rows (a ∷ rest) mine none all =
      let parts = neither (default_fault rows a) _ none in
      defaults_pass (with_default rows a) rest mine.1 parts.1 (default_passes a rows mine.0 parts.0 all)

  -- where no step of a level fails, each row passes
  pub level_passes : (names : Names) (words : List Text) (has_subcommand : Bool) (below : Kinds)
      → level_fault s names nothing_held words has_subcommand below ≡ [] → RowsPass s.rules (rows_after s.rules names words)
  level_passes names words has_subcommand below none =
      let end = (walk s.rules names nothing_held words).held in
      let walked_on = neither (walk_fault s names (walk_from nothing_held) words) _ none in
      let above = neither below _ walked_on.1 in
      let settle = neither (settle_fault s.rules s.args_override_self end) _ above.1 in
      let default = neither (defaults_fault (settled s.rules end).rows s.rules) _ settle.1 in
      defaults_pass (settled s.rules end).rows s.rules own default.0
      (settled_passes s.rules s.args_override_self end settle.0 (walk_passes names (walk_from nothing_held) words walked_on.0 tt))
