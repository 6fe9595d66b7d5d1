-- Words of which no step of reading fails meet a subcommand.
use Rattle.command_line.proofs.Common.{◌≡◌, ◌∙◌, ◌++◌, ◌&&◌, ◌≤◌, Bool, ℕ, zero, suc, true, false, cond, not, refl, sym, ap, subst, arith, map, List}
use Rattle.command_line.proofs.Common.{[], ◌∷◌, Option, Some, None, is_some, codes, All, find, list_any, option_and_then, option_map, option_map_or}
use Rattle.command_line.proofs.Common.{unwrap_or, nat_le, slice_get, bytes_eq, leb-true, and_parts, or_parts, same_Some, bytes_eq-Decides}
use Rattle.command_line.proofs.Common.{explicit_source, built_fault, defaults_fault, level_fault, settle_fault, values_fault, walk_fault, check_kinds}
use Rattle.command_line.proofs.Common.{value_kinds, values_kinds, App, Shape, argument_words, entered, names_of, rows_at, is_given, accepts}
use Rattle.command_line.proofs.Common.{refused_kind, Row, Rule, arg_by_id, nothing_held, rows_after, settled, stop_after, walk, walk_from}
use Rattle.command_line.proofs.Common.{ValueParser, Unsigned, accepts-Accepts, parser_for, table_app, IsNumber, number_of, AreCallsOf, AreNumbersOf}
use Rattle.command_line.proofs.Common.{IsNumberOf, Meets, StandsFor, are_named, is_named, values_of, Choice, Flag, Usage, among, are_flags}
use Rattle.command_line.proofs.Common.{are_usages, greatest_of, has_limits, is_choice, least_of, switch, usage_named, within}
use Rattle.clap.specs.Faults.{fault_of}
use Rattle.clap.specs.Simple.{subcommand_of}
use Rattle.clap.specs.Walk.{Text, first_of}
use Rattle.command_line.proofs.PlaceLemmas.{place_among}
use Rattle.command_line.proofs.RowLemmas.{AllOwn, HasValues, IsOwn, RowPasses, RowsPass, level_passes, neither, wants_value}
use Rattle.command_line.proofs.StopLemmas.{enters}
use Rattle.command_line.proofs.TableLemmas.{built_calls, built_flag, built_is, built_rules, built_table, built_tail, built_usage, flag_parts}
use Rattle.command_line.proofs.TableLemmas.{found_usage, named_so, rules_own, usage_found}

-- ---- numbers

-- the parser of the numbers of calls
abbrev pub number_parser : ValueParser
number_parser = Unsigned 0 4294967295

-- a text that passes the parser of numbers is a number
is_number : (text : Text) → value_kinds false number_parser text ≡ [] → IsNumber text
is_number text none = go (accepts false number_parser text) refl none
  where
    go : (b : Bool) → accepts false number_parser text ≡ b → cond b [] (refused_kind number_parser ∷ []) ≡ [] → IsNumber text
    go true passed none =
        let read = accepts-Accepts false number_parser text passed in
        (read.0, omega (arith, read.3))
    go false passed none = cc

-- and so is each of several
are_numbers : (texts : List Text) → values_kinds false number_parser texts ≡ [] → All IsNumber texts
are_numbers [] none k d lt = absurd (omega arith)
are_numbers (t ∷ ts) none zero d lt = is_number t (neither (value_kinds false number_parser t) _ none).0
are_numbers (t ∷ ts) none (suc k) d lt = are_numbers ts (neither (value_kinds false number_parser t) _ none).1 k d (omega arith)

-- the values of an argument pass its parser, where all rows pass
values_pass : (c : List Rule) (a : Rule) (rows : List Row) → arg_by_id c a.id ≡ Some a → RowsPass c rows
    → values_fault a (values_of a.id rows) ≡ []
values_pass c a [] own all = refl
values_pass c a (r ∷ rs) own all = go (bytes_eq r.id a.id) refl (values_pass c a rs own all.1)
  where
    go : (b : Bool) → bytes_eq r.id a.id ≡ b → values_fault a (values_of a.id rs) ≡ []
        → values_fault a
        (unwrap_or (option_map (λ (x : Row). x.values) (cond b (Some r) (find (λ (x : Row). bytes_eq x.id a.id) rs))) []) ≡ []
    go true here later = (all.0 a (subst (λ (w : Text). arg_by_id c w ≡ Some a) (sym ((bytes_eq-Decides r.id a.id).0 here)) own)).pass
    go false here later = later

-- ---- the number of an option

-- a least and a greatest number, as tests
within_both : (least greatest n : ℕ) → (nat_le least n && nat_le n greatest) ≡ true → (least ≤ n) × (n ≤ greatest)
within_both least greatest n passes =
    let parts = and_parts (nat_le least n) (nat_le n greatest) passes in
    (leb-true _ _ parts.0, leb-true _ _ parts.1)

-- the default is within the limits
default_within : (f : Flag) (n : ℕ) → has_limits f ≡ true → f.default ≡ Some n → (least_of f.values ≤ n) × (n ≤ greatest_of f.values)
default_within f n limits is =
    let parts = and_parts (is_choice f.values) _ limits in
    let passes : (nat_le (least_of f.values) n && nat_le n (greatest_of f.values)) ≡ true = rw is at parts.1 in
    within_both (least_of f.values) (greatest_of f.values) n passes

-- a number for which a value stands, within the limits
record HasNumber (choice : Choice) (text : Text) : Type 0 where
  number : ℕ
  stands : StandsFor choice text number
  least : least_of choice ≤ number
  greatest : number ≤ greatest_of choice

-- a value that passes the parser has one, if it is one of the words where it has to be
value_within : (choice : Choice) (text : Text) → is_named choice (Some text) ≡ true → value_kinds false (parser_for choice) text ≡ []
    → HasNumber choice text
value_within (within least greatest) text named none = go (accepts false (Unsigned least greatest) text) refl none
  where
    go : (b : Bool) → accepts false (Unsigned least greatest) text ≡ b → cond b [] (refused_kind (Unsigned least greatest) ∷ []) ≡ []
        → HasNumber (within least greatest) text
    go true passed none =
        let read = accepts-Accepts false (Unsigned least greatest) text passed in
        record { number = number_of text; stands = (read.0, read.1, refl); least = read.2; greatest = read.3 }
    go false passed none = cc
value_within (among words) text named none =
    let has = place_among text words named in
    record { number = has.place; stands = has.is; least = omega arith; greatest = has.inside }
value_within switch text named none = record { number = 1; stands = refl; least = omega arith; greatest = omega arith }

-- a row that is found passes
found_row : (c : List Rule) (rows : List Row) (p : Row → Bool) (r : Row) → RowsPass c rows → find p rows ≡ Some r
    → RowPasses c r × (p r ≡ true)
found_row c [] p r all found = cc
found_row c (x ∷ xs) p r all found = go (p x) refl found (found_row c xs p r all.1)
  where
    go : (b : Bool) → p x ≡ b → cond b (Some x) (find p xs) ≡ Some r → (find p xs ≡ Some r → RowPasses c r × (p r ≡ true))
        → RowPasses c r × (p r ≡ true)
    go true here is later = subst (λ (y : Row). RowPasses c y × (p y ≡ true)) (same_Some x r is) (all.0, here)
    go false here is later = later is

-- the argument is required, and is not given
abbrev pub is_missing : List Row → Rule → Bool
is_missing rows a = a.required && not (is_given a.id rows)

-- each use of an option has a value
wants_some : (name : Text) (values : Choice) (default : Option ℕ)
    → wants_value (built_flag (record { name = name; values = values; default = default })) ≡ true
wants_some name (within least greatest) default = refl
wants_some name (among words) default = refl
wants_some name switch default = refl

-- the first of values that pass stands for a number of the option
first_number : (f : Flag) (values : List Text) → HasValues (built_flag f) values → is_named f.values (slice_get values 0) ≡ true
    → (n : ℕ) × IsNumberOf f (slice_get values 0) n
first_number f [] has named = absurd (has.some (wants_some f.name f.values f.default))
first_number f (v ∷ vs) has named =
    let number = value_within f.values v named (neither (value_kinds false (parser_for f.values) v) _ has.pass).0 in
    (number.number, record { read = number.stands; least = number.least; greatest = number.greatest })

-- where all rows pass, an option that is not missing has a number, if its value is one of its words
flag_read : (c : List Rule) (f : Flag) (rows : List Row) → IsOwn c (built_flag f) → RowsPass c rows → has_limits f ≡ true
    → is_missing rows (built_flag f) ≡ false → is_named f.values (first_of f.name rows) ≡ true → (n : ℕ)
    × IsNumberOf f (first_of f.name rows) n
flag_read c f rows own all limits there named = go (find (λ (r : Row). bytes_eq r.id f.name) rows) refl there named
  where
    default : (d : Option ℕ) → f.default ≡ d → (not (is_some d) && true) ≡ false → (n : ℕ) × IsNumberOf f None n
    default None is there = cc
    default (Some n) is there =
        let inside = default_within f n limits is in
        (n, record { read = is; least = inside.0; greatest = inside.1 })

    go : (o : Option Row) → find (λ (r : Row). bytes_eq r.id f.name) rows ≡ o
        → (not (is_some f.default) && not (option_map_or (λ (r : Row). explicit_source r.source) o false)) ≡ false
        → is_named f.values (option_and_then (λ (r : Row). slice_get r.values 0) o) ≡ true
        → (n : ℕ) × IsNumberOf f (option_and_then (λ (r : Row). slice_get r.values 0) o) n
    go None is there named = default f.default refl there
    go (Some r) is there named =
        let found = found_row c rows (λ (x : Row). bytes_eq x.id f.name) r all is in
        let own_r : arg_by_id c r.id ≡ Some (built_flag f) =
        subst (λ (w : Text). arg_by_id c w ≡ Some (built_flag f)) (sym ((bytes_eq-Decides r.id f.name).0 found.1)) own in
        first_number f r.values (found.0 (built_flag f) own_r) named

-- and so has each option
flags_read : (c tail : List Rule) (fs : List Flag) (rows : List Row) → AllOwn c (map built_flag fs ++ tail) → RowsPass c rows
    → are_flags fs ≡ true
    → list_any (is_missing rows) (map built_flag fs ++ tail) ≡ false → are_named fs (λ name. first_of name rows) ≡ true
    → (ns : List ℕ) × AreNumbersOf fs (λ name. first_of name rows) ns
flags_read c tail [] rows own all flags there named = ([], tt)
flags_read c tail (f ∷ fs) rows own all flags there named =
    let parts = flag_parts f fs flags in
    let missing = or_parts (is_missing rows (built_flag f)) _ there in
    let names = and_parts (is_named f.values (first_of f.name rows)) _ named in
    let n = flag_read c f rows own.0 all parts.0.limits missing.0 names.0 in
    let ns = flags_read c tail fs rows own.1 all parts.1 missing.1 names.1 in
    (n.0 ∷ ns.0, (n.1, ns.1))

-- ---- the numbers of calls

-- what holds of each of two lists holds of those of the second
own_rest : (c xs ys : List Rule) → AllOwn c (xs ++ ys) → AllOwn c ys
own_rest c [] ys own = own
own_rest c (x ∷ xs) ys own = own_rest c xs ys own.1

-- where all rows pass, there are numbers of calls
calls_read : (flags : List Flag) (takes_calls : Bool) (rows : List Row) → are_flags flags ≡ true
    → RowsPass (built_rules flags takes_calls) rows
    → (ns : List ℕ) × AreCallsOf takes_calls (values_of (codes "CALL") rows) ns
calls_read flags false rows all passes = ([], refl)
calls_read flags true rows all passes =
    let own = own_rest (built_rules flags true) (map built_flag flags) (built_tail true) (rules_own flags true all) in
    let texts : List Text = values_of (codes "CALL") rows in
    let pass : values_kinds false number_parser texts ≡ [] = values_pass (built_rules flags true) built_calls rows own.0 passes in
    (map number_of texts, (are_numbers texts pass, refl))

-- ---- a subcommand

-- the last checks fail where an argument is missing
third_check : (help subcommand argument : Bool) → check_kinds help subcommand argument ≡ [] → argument ≡ false
third_check true subcommand argument none = cc
third_check false true argument none = cc
third_check false false true none = cc
third_check false false false none = refl

-- so where no step of the level fails, none is
none_missing : (u : Usage) (words : List Text) → level_fault (built_usage u) [] nothing_held words false [] ≡ []
    → list_any (is_missing (rows_after (built_usage u).rules [] words)) (built_usage u).rules ≡ false
none_missing u words none =
    let s = built_usage u in
    let end = (walk s.rules [] nothing_held words).held in
    let walked_on = neither (walk_fault s [] (walk_from nothing_held) words) _ none in
    let settle = neither (settle_fault s.rules s.args_override_self end) _ walked_on.1 in
    let default = neither (defaults_fault (settled s.rules end).rows s.rules) _ settle.1 in
    third_check false false _ default.1

-- where no step of its level fails, a subcommand is met
usage_met : (table : List Usage) (met : Option (Text × List Row)) (name : Text) (u : Usage) (words : List Text) → are_usages table ≡ true
    → usage_named name table ≡ Some u → met ≡ Some (rows_at (built_usage u) words)
    → level_fault (built_usage u) [] nothing_held words false [] ≡ [] → Meets table met
usage_met table met name u words all named met_is none =
    let flags_are = (found_usage table name u all named).0 in
    let own = rules_own u.flags u.takes_calls flags_are in
    let rows : List Row = rows_after (built_usage u).rules [] words in
    let passes = level_passes (built_usage u) own [] words false [] none in
    record {
      usage = u;
      rows = rows;
      name = name;
      named = named;
      subcommand = met_is ∙ ap (λ (n : Text). Some (n, rows)) (named_so table name u named);
      numbers = λ words_are.
          flags_read (built_usage u).rules (built_tail u.takes_calls) u.flags rows own passes flags_are
          (none_missing u words none) words_are;
      calls = calls_read u.flags u.takes_calls rows flags_are passes;
    }

-- so does a command of which no step fails
built_meets : (program : Text) (table : List Usage) (words : List Text) → are_usages table ≡ true
    → built_fault (built_table program table) nothing_held words ≡ []
    → Meets table (entered (built_table program table) (stop_after (built_table program table).top.rules
    (names_of (built_table program table)) words))
built_meets program table words all none =
    let e = enters (built_table program table) words refl none in
    let is = usage_found program table e.name e.shape e.found e.not_help in
    let met = entered (built_table program table)
    (stop_after (built_table program table).top.rules (names_of (built_table program table)) words) in
    usage_met table met e.name is.0 e.rest all is.1
    (e.entered_is ∙ ap (λ (s : Shape). Some (rows_at s e.rest)) is.2)
    (subst (λ (s : Shape). level_fault s [] nothing_held e.rest false [] ≡ []) is.2 e.passes)

-- the words meet a subcommand, where no step of reading them fails
pub meets_some : (program : Text) (u : Usage) (us : List Usage) (words : List Text) → are_usages (u ∷ us) ≡ true
    → fault_of (table_app program (u ∷ us)) words ≡ [] → Meets (u ∷ us) (subcommand_of (table_app program (u ∷ us)) words)
meets_some program u us words all none =
    let rest : List Text = argument_words (table_app program (u ∷ us)) words in
    let reads : App → Type 0 = λ a. built_fault a nothing_held rest ≡ []
    → Meets (u ∷ us) (entered a (stop_after a.top.rules (names_of a) rest)) in
    subst reads (sym (built_is program u us)) (built_meets program (u ∷ us) rest all) none
