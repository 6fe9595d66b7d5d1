-- The command of a table as `clap` builds it.
use Rattle.command_line.proofs.Common.{◌≡◌, ◌==◌, ◌∙◌, ◌++◌, ◌&&◌, ◌||◌, ◌+◌, ℕ, Bool, true, false, not, cond, refl, sym, ap, ap₂, subst, arith, List}
use Rattle.command_line.proofs.Common.{[], ◌∷◌, map, suc, Some, None, is_some, codes, true≢false, count_by, before_first, find, list_all, list_any}
use Rattle.command_line.proofs.Common.{position_or_len, option_map, bytes_eq, and_parts, or_parts, not-true, same_Some, bytes_eq-Decides}
use Rattle.command_line.proofs.Common.{has_free_rules, is_simple_and_free, App, Shape, built, built_leaf, filled, filled_from, help_rule, help_shape}
use Rattle.command_line.proofs.Common.{inherited, is_in_order, is_ready_leaf, is_simple_leaf, label_of, new_shape, with_index, has_byte, long_of}
use Rattle.command_line.proofs.Common.{Rule, answers_to, arg_by_id, arg_by_index, arg_by_long, is_early_multiple, is_empty, subcommand_met, idle}
use Rattle.command_line.proofs.Common.{calls_rule, calls_rules, leaf, option_rule, rules_for, table_app, Flag, Usage, are_flags, are_usages}
use Rattle.command_line.proofs.Common.{flag_named, has_limits, is_flag_name, usage_named}
use Rattle.clap.specs.Simple.{is_simple}
use Rattle.clap.specs.Walk.{Text}
use Rattle.command_line.proofs.RowLemmas.{AllOwn, IsOwn, found_passes}
use Rattle.command_line.proofs.StopLemmas.{is_help}
use Rattle.command_line.proofs.SubcommandLemmas.{NamesSubcommand}

-- ---- the rules of a subcommand

-- an option that is built
abbrev pub built_flag : Flag → Rule
built_flag f = with_index 1 (filled (option_rule f))

-- the numbers of calls
abbrev pub built_calls : Rule
built_calls = with_index 1 (filled calls_rule)

-- what follows the options
abbrev pub built_tail : Bool → List Rule
built_tail takes_calls = filled_from 1 (calls_rules takes_calls ++ help_rule ∷ [])

-- the rules of a subcommand that is built
abbrev pub built_rules : List Flag → Bool → List Rule
built_rules flags takes_calls = map built_flag flags ++ built_tail takes_calls

rules_are : (flags : List Flag) (takes_calls : Bool)
    → filled_from 1 ((map option_rule flags ++ calls_rules takes_calls) ++ help_rule ∷ []) ≡ built_rules flags takes_calls
rules_are [] takes_calls = refl
rules_are (f ∷ fs) takes_calls = ap (λ rules. built_flag f ∷ rules) (rules_are fs takes_calls)

-- a subcommand that is built
abbrev pub built_usage : Usage → Shape
built_usage u = record (new_shape u.name) {
  rules = built_rules u.flags u.takes_calls;
  disable_help_subcommand = true;
  is_built = true;
}

-- and `help`
abbrev pub built_help : Shape
built_help = built_leaf (inherited (new_shape []) help_shape)

-- the subcommands that are built
abbrev pub built_subs : List Usage → List Shape
built_subs table = map built_usage table ++ built_help ∷ []

-- the program's own level, once it is built
abbrev pub built_top : Text → Shape
built_top name = record (new_shape name) {
  subcommand_required = true;
  is_leaf = false;
  rules = filled_from 1 (help_rule ∷ []);
  is_built = true;
}

usage_is : (u : Usage) → built_leaf (inherited (new_shape []) (leaf u.name (rules_for u)).top) ≡ built_usage u
usage_is u =
    ap (λ (rules : List Rule). record (new_shape u.name) { rules = rules; disable_help_subcommand = true; is_built = true })
    (rules_are u.flags u.takes_calls)

subs_are : (table : List Usage)
    → map built_leaf (map (inherited (new_shape [])) (map (λ u. (leaf u.name (rules_for u)).top)
    table) ++ help_shape ∷ []) ≡ built_subs table
subs_are [] = refl
subs_are (u ∷ us) = ap₂ (λ (s : Shape) (ss : List Shape). s ∷ ss) (usage_is u) (subs_are us)

-- the app of a table with a row, once it is built
pub built_is : (name : Text) (u : Usage) (us : List Usage)
    → built (table_app name (u ∷ us)) ≡ record { top = built_top name; subs = built_subs (u ∷ us) }
built_is name u us = ap (λ (subs : List Shape). record { top = built_top name; subs = subs }) (subs_are (u ∷ us))

-- ---- the command is one of which `clap` says the matches and the faults

-- the rules of a subcommand are simple, free and in order
rules_simple : (flags : List Flag) (takes_calls : Bool)
    → list_all (λ (a : Rule). a.is_simple) (map option_rule flags ++ calls_rules takes_calls) ≡ true
rules_simple [] true = refl
rules_simple [] false = refl
rules_simple (f ∷ fs) takes_calls = rules_simple fs takes_calls

built_simple : (flags : List Flag) (takes_calls : Bool) → list_all (λ (a : Rule). a.is_simple) (built_rules flags takes_calls) ≡ true
built_simple [] true = refl
built_simple [] false = refl
built_simple (f ∷ fs) takes_calls = built_simple fs takes_calls

built_free : (flags : List Flag) (takes_calls : Bool) → list_all (λ (a : Rule). a.is_free) (built_rules flags takes_calls) ≡ true
built_free [] true = refl
built_free [] false = refl
built_free (f ∷ fs) takes_calls = built_free fs takes_calls

-- how many positionals there are
unfoldable positionals : Bool → ℕ
positionals true = 1
positionals false = 0

positionals_are : (flags : List Flag) (takes_calls : Bool)
    → count_by (λ (a : Rule). is_some a.index) (built_rules flags takes_calls) ≡ positionals takes_calls
unfolding positionals
positionals_are [] true = refl
positionals_are [] false = refl
positionals_are (f ∷ fs) takes_calls = omega (arith, positionals_are fs takes_calls)

none_early : (flags : List Flag) (takes_calls : Bool)
    → list_any (is_early_multiple (positionals takes_calls)) (built_rules flags takes_calls) ≡ false
unfolding positionals
none_early [] true = refl
none_early [] false = refl
none_early (f ∷ fs) takes_calls = none_early fs takes_calls

in_order : (flags : List Flag) (takes_calls : Bool) → is_in_order (built_rules flags takes_calls) ≡ true
in_order flags takes_calls =
    ap (λ n. not (list_any (is_early_multiple n) (built_rules flags takes_calls))) (positionals_are flags takes_calls)
    ∙ ap not (none_early flags takes_calls)

all_simple : (table : List Usage) → list_all is_simple_leaf (map (λ u. (leaf u.name (rules_for u)).top) table) ≡ true
all_simple [] = refl
all_simple (u ∷ us) = let simple = rules_simple u.flags u.takes_calls in rw simple (all_simple us)

all_ready : (table : List Usage) → list_all is_ready_leaf (built_subs table) ≡ true
all_ready [] = refl
all_ready (u ∷ us) =
    let simple = built_simple u.flags u.takes_calls in
    let order = in_order u.flags u.takes_calls in
    rw (simple, order) (all_ready us)

all_free : (table : List Usage) → list_all has_free_rules (built_subs table) ≡ true
all_free [] = refl
all_free (u ∷ us) = let free = built_free u.flags u.takes_calls in rw free (all_free us)

pub simple_table : (name : Text) (u : Usage) (us : List Usage) → is_simple (table_app name (u ∷ us)) ≡ true
simple_table name u us =
    let simple = all_simple (u ∷ us) in
    let ready : list_all is_ready_leaf (built (table_app name (u ∷ us))).subs ≡ true =
    ap (λ (a : App). list_all is_ready_leaf a.subs) (built_is name u us) ∙ all_ready (u ∷ us) in
    ap₂ (λ (x y : Bool). x && (true && y)) simple ready

pub free_table : (name : Text) (u : Usage) (us : List Usage) → is_simple_and_free (table_app name (u ∷ us)) ≡ true
free_table name u us =
    let free : list_all has_free_rules (built (table_app name (u ∷ us))).subs ≡ true =
    ap (λ (a : App). list_all has_free_rules a.subs) (built_is name u us) ∙ all_free (u ∷ us) in
    ap₂ (λ (x y : Bool). x && (true && y)) (simple_table name u us) free

-- ---- finding a subcommand

-- two texts, in the other order
pub same_swapped : (a b : Text) → bytes_eq a b ≡ bytes_eq b a
same_swapped a b = go (bytes_eq a b) refl (bytes_eq b a) refl
  where
    go : (x : Bool) → bytes_eq a b ≡ x → (y : Bool) → bytes_eq b a ≡ y → x ≡ y
    go true ab true ba = refl
    go false ab false ba = refl
    go true ab false ba = absurd (true≢false (sym ((bytes_eq-Decides b a).1 (sym ((bytes_eq-Decides a b).0 ab))) ∙ ba))
    go false ab true ba = absurd (true≢false (sym ((bytes_eq-Decides a b).1 (sym ((bytes_eq-Decides b a).0 ba))) ∙ ab))

-- the row that a name finds has the name
pub named_so : (table : List Usage) (name : Text) (u : Usage) → usage_named name table ≡ Some u → u.name ≡ name
named_so table name u found = (bytes_eq-Decides u.name name).0 (found_passes (λ (v : Usage). bytes_eq v.name name) table u found)

-- each row is as it should be
abbrev IsUsage : Usage → Type 0
IsUsage u = (are_flags u.flags ≡ true) × (bytes_eq u.name (codes "help") ≡ false)

usage_parts : (u : Usage) (us : List Usage) → are_usages (u ∷ us) ≡ true → IsUsage u × (are_usages us ≡ true)
usage_parts u us all =
    let outer = and_parts (not (bytes_eq u.name (codes "help")) && are_flags u.flags) (are_usages us) all in
    let inner = and_parts (not (bytes_eq u.name (codes "help"))) (are_flags u.flags) outer.0 in
    ((inner.1, not-true _ inner.0), outer.1)

-- so the options of a row that is found are as they should be, and it is not `help`
pub found_usage : (table : List Usage) (name : Text) (u : Usage) → are_usages table ≡ true → usage_named name table ≡ Some u → IsUsage u
found_usage [] name u all found = cc
found_usage (v ∷ vs) name u all found =
    let parts = usage_parts v vs all in
    go (bytes_eq v.name name) parts.0 found (found_usage vs name u parts.1)
  where
    go : (b : Bool) → IsUsage v → cond b (Some v) (usage_named name vs) ≡ Some u → (usage_named name vs ≡ Some u → IsUsage u) → IsUsage u
    go true here is later = subst IsUsage (same_Some v u is) here
    go false here is later = later is

-- a name that finds a row is met
met_usage : (table : List Usage) (name : Text) (u : Usage) → usage_named name table ≡ Some u
    → subcommand_met (map label_of (built_subs table)) idle name ≡ Some name
met_usage [] name u found = cc
met_usage (v ∷ vs) name u found = go (bytes_eq v.name name) refl found (met_usage vs name u)
  where
    go : (b : Bool) → bytes_eq v.name name ≡ b → cond b (Some v) (usage_named name vs) ≡ Some u
        → (usage_named name vs ≡ Some u → subcommand_met (map label_of (built_subs vs)) idle name ≡ Some name)
        → option_map (λ (l : Text × List Text). l.0)
        (cond (b || false) (Some (v.name, [])) (find (answers_to name) (map label_of (built_subs vs)))) ≡ Some name
    go true here is later = ap Some ((bytes_eq-Decides v.name name).0 here)
    go false here is later = later is

-- and the subcommand of the row is what it names
found_shape : (table : List Usage) (name : Text) (u : Usage) → usage_named name table ≡ Some u
    → find (λ t. answers_to name (label_of t)) (built_subs table) ≡ Some (built_usage u)
found_shape [] name u found = cc
found_shape (v ∷ vs) name u found = go (bytes_eq v.name name) found (found_shape vs name u)
  where
    go : (b : Bool) → cond b (Some v) (usage_named name vs) ≡ Some u
        → (usage_named name vs ≡ Some u → find (λ t. answers_to name (label_of t)) (built_subs vs) ≡ Some (built_usage u))
        → cond (b || false) (Some (built_usage v)) (find (λ t. answers_to name (label_of t)) (built_subs vs)) ≡ Some (built_usage u)
    go true is later = ap Some (ap built_usage (same_Some v u is))
    go false is later = later is

-- the program's command, once it is built
abbrev pub built_table : Text → List Usage → App
built_table name table = record { top = built_top name; subs = built_subs table }

-- so the name names the subcommand
pub names_usage : (program : Text) (table : List Usage) (name : Text) (u : Usage) → are_usages table ≡ true
    → usage_named name table ≡ Some u
    → NamesSubcommand (built_table program table) name (built_usage u)
names_usage program table name u all found =
    let not_help = (found_usage table name u all found).1 in
    let name_is = named_so table name u found in
    record {
      met = met_usage table name u found;
      not_help = ap (λ (n : Text). bytes_eq n (codes "help") && true) (sym name_is) ∙ ap (λ (b : Bool). b && true) not_help;
      found = found_shape table name u found;
      name_is = name_is;
    }

-- a subcommand that is met, and is not `help`, is that of a row
pub usage_found : (program : Text) (table : List Usage) (name : Text) (s : Shape)
    → find (λ t. answers_to name (label_of t)) (built_subs table) ≡ Some s → is_help (built_top program) name ≡ false
    → (u : Usage) × (usage_named name table ≡ Some u) × (s ≡ built_usage u)
usage_found program [] name s found not_help = go (bytes_eq (codes "help") name) refl found
  where
    go : (b : Bool) → bytes_eq (codes "help") name ≡ b → cond (b || false) (Some built_help) None ≡ Some s
        → (u : Usage) × (usage_named name [] ≡ Some u) × (s ≡ built_usage u)
    go true here is =
        let help : bytes_eq name (codes "help") ≡ true = same_swapped name (codes "help") ∙ here in
        absurd (true≢false (rw help at not_help))
    go false here is = cc
usage_found program (v ∷ vs) name s found not_help = go (bytes_eq v.name name) found (λ later. usage_found program vs name s later not_help)
  where
    go : (b : Bool) → cond (b || false) (Some (built_usage v)) (find (λ t. answers_to name (label_of t)) (built_subs vs)) ≡ Some s
        → (find (λ t. answers_to name (label_of t)) (built_subs vs) ≡ Some s → (u : Usage) × (usage_named name vs ≡ Some u)
        × (s ≡ built_usage u))
        → (u : Usage) × (cond b (Some v) (usage_named name vs) ≡ Some u) × (s ≡ built_usage u)
    go true is later = (v, refl, sym (same_Some (built_usage v) s is))
    go false is later = later is

-- ---- the arguments of a subcommand

-- an argument of another id leaves each the first of its own
own_after : (a : Rule) (c xs : List Rule) → list_any (λ (b : Rule). bytes_eq a.id b.id) xs ≡ false → AllOwn c xs → AllOwn (a ∷ c) xs
own_after a c [] other own = tt
own_after a c (x ∷ xs) other own =
    let parts = or_parts (bytes_eq a.id x.id) _ other in
    (go (bytes_eq a.id x.id) parts.0 own.0, own_after a c xs parts.1 own.1)
  where
    go : (b : Bool) → b ≡ false → IsOwn c x → cond b (Some a) (find (λ (y : Rule). bytes_eq y.id x.id) c) ≡ Some x
    go false is own = own
    go true is own = cc

-- what holds of an option of a row
pub record IsFlag (f : Flag) (others : List Flag) : Type 0 where
  pub filled : is_empty f.name ≡ false
  pub no_equals : has_byte 61 f.name ≡ false
  pub not_help : bytes_eq f.name (codes "help") ≡ false
  pub not_calls : bytes_eq f.name (codes "CALL") ≡ false
  pub other : list_any (λ (g : Flag). bytes_eq f.name g.name) others ≡ false
  pub limits : has_limits f ≡ true

pub flag_parts : (f : Flag) (fs : List Flag) → are_flags (f ∷ fs) ≡ true → IsFlag f fs × (are_flags fs ≡ true)
flag_parts f fs all =
    let outer = and_parts (is_flag_name f.name fs && has_limits f) (are_flags fs) all in
    let inner = and_parts (is_flag_name f.name fs) (has_limits f) outer.0 in
    let n4 = and_parts _ (not (list_any (λ (g : Flag). bytes_eq f.name g.name) fs)) inner.0 in
    let n3 = and_parts _ (not (bytes_eq f.name (codes "CALL"))) n4.0 in
    let n2 = and_parts _ (not (bytes_eq f.name (codes "help"))) n3.0 in
    let n1 = and_parts (not (is_empty f.name)) (not (has_byte 61 f.name)) n2.0 in (
      record {
        filled = not-true _ n1.0;
        no_equals = not-true _ n1.1;
        not_help = not-true _ n2.1;
        not_calls = not-true _ n3.1;
        other = not-true _ n4.1;
        limits = inner.1;
      },
      outer.1,
    )

-- an option has another id than all after it
other_rules : (f : Flag) (fs : List Flag) (takes_calls : Bool) → bytes_eq f.name (codes "help") ≡ false → bytes_eq f.name (codes "CALL") ≡ false
    → list_any (λ (g : Flag). bytes_eq f.name g.name) fs ≡ false
    → list_any (λ (b : Rule). bytes_eq f.name b.id) (built_rules fs takes_calls) ≡ false
other_rules f [] true not_help not_calls other = rw (not_help, not_calls) refl
other_rules f [] false not_help not_calls other = rw not_help refl
other_rules f (g ∷ gs) takes_calls not_help not_calls other =
    let parts = or_parts (bytes_eq f.name g.name) _ other in
    ap₂ (λ (x y : Bool). x || y) parts.0 (other_rules f gs takes_calls not_help not_calls parts.1)

-- each argument of a row is the first of its id
pub rules_own : (flags : List Flag) (takes_calls : Bool) → are_flags flags ≡ true
    → AllOwn (built_rules flags takes_calls) (built_rules flags takes_calls)
rules_own [] true all = (refl, (refl, tt))
rules_own [] false all = (refl, tt)
rules_own (f ∷ fs) takes_calls all =
    let parts = flag_parts f fs all in
    let rest = built_rules fs takes_calls in
    let mine : bytes_eq f.name f.name ≡ true = (bytes_eq-Decides f.name f.name).1 refl in (
      rw mine refl,
      own_after (built_flag f) rest rest (other_rules f fs takes_calls parts.0.not_help parts.0.not_calls parts.0.other)
          (rules_own fs takes_calls parts.1),
    )

-- ---- one option of a subcommand

-- an option that its name finds is as it should be, and has the name
pub record IsFound (flags : List Flag) (name : Text) (f : Flag) : Type 0 where
  pub name_is : f.name ≡ name
  pub others : List Flag
  pub is_flag : IsFlag f others

pub found_flag : (flags : List Flag) (name : Text) (f : Flag) → are_flags flags ≡ true → flag_named name flags ≡ Some f
    → IsFound flags name f
found_flag [] name f all found = cc
found_flag (g ∷ gs) name f all found =
    let parts = flag_parts g gs all in
    go (bytes_eq g.name name) refl parts.0 found (λ later. (found_flag gs name f parts.1 later))
  where
    go : (b : Bool) → bytes_eq g.name name ≡ b → IsFlag g gs → cond b (Some g) (flag_named name gs) ≡ Some f
        → (flag_named name gs ≡ Some f → IsFound gs name f) → IsFound (g ∷ gs) name f
    go true here is_flag is later =
        let same = same_Some g f is in
        record {
          name_is = ap (λ (h : Flag). h.name) (sym same) ∙ (bytes_eq-Decides g.name name).0 here;
          others = gs;
          is_flag = subst (λ (h : Flag). IsFlag h gs) same is_flag;
        }
    go false here is_flag is later =
        let rest = later is in
        record { name_is = rest.name_is; others = rest.others; is_flag = rest.is_flag }

-- it is the argument of its name
pub by_id : (flags : List Flag) (takes_calls : Bool) (name : Text) (f : Flag) → flag_named name flags ≡ Some f
    → arg_by_id (built_rules flags takes_calls) name ≡ Some (built_flag f)
by_id [] takes_calls name f found = cc
by_id (g ∷ gs) takes_calls name f found = go (bytes_eq g.name name) found (by_id gs takes_calls name f)
  where
    go : (b : Bool) → cond b (Some g) (flag_named name gs) ≡ Some f
        → (flag_named name gs ≡ Some f → arg_by_id (built_rules gs takes_calls) name ≡ Some (built_flag f))
        → cond b (Some (built_flag g)) (arg_by_id (built_rules gs takes_calls) name) ≡ Some (built_flag f)
    go true is later = ap Some (ap built_flag (same_Some g f is))
    go false is later = later is

-- and of its flag
pub by_long : (flags : List Flag) (takes_calls : Bool) (name : Text) (f : Flag) → flag_named name flags ≡ Some f
    → arg_by_long (built_rules flags takes_calls) name ≡ Some (built_flag f)
by_long [] takes_calls name f found = cc
by_long (g ∷ gs) takes_calls name f found = go (bytes_eq g.name name) found (by_long gs takes_calls name f)
  where
    go : (b : Bool) → cond b (Some g) (flag_named name gs) ≡ Some f
        → (flag_named name gs ≡ Some f → arg_by_long (built_rules gs takes_calls) name ≡ Some (built_flag f))
        → cond (true && (b || false)) (Some (built_flag g)) (arg_by_long (built_rules gs takes_calls) name) ≡ Some (built_flag f)
    go true is later = ap Some (ap built_flag (same_Some g f is))
    go false is later = later is

-- no argument but that of the calls is a positional
pub by_index : (flags : List Flag) → arg_by_index (built_rules flags true) 1 ≡ Some built_calls
by_index [] = refl
by_index (g ∷ gs) = by_index gs

-- and it is the argument of its name
pub calls_by_id : (flags : List Flag) → are_flags flags ≡ true → arg_by_id (built_rules flags true) (codes "CALL") ≡ Some built_calls
calls_by_id [] all = refl
calls_by_id (g ∷ gs) all =
    let parts = flag_parts g gs all in
    let other = parts.0.not_calls in
    rw other (calls_by_id gs parts.1)

-- a text without `=` stands whole before the first
before_none : (text : Text) → has_byte 61 text ≡ false → before_first (λ x. x == 61) text ≡ text
before_none [] none = refl
before_none (x ∷ xs) none =
    let parts = or_parts (x == 61) (has_byte 61 xs) none in
    let first = parts.0 in
    let step : 1 + position_or_len (λ y. y == 61) xs ≡ suc (position_or_len (λ y. y == 61) xs) = omega arith in
    rw (first, step) (ap (λ (t : Text). x ∷ t) (before_none xs parts.1))

-- the word of an option's flag is read as its name
pub record IsFlagWord (name : Text) : Type 0 where
  pub not_dashes : bytes_eq (45 ∷ 45 ∷ name) (45 ∷ 45 ∷ []) ≡ false
  pub long_is : long_of (45 ∷ 45 ∷ name) ≡ Some (name, None)

pub flag_word : (name : Text) → is_empty name ≡ false → has_byte 61 name ≡ false → IsFlagWord name
flag_word [] filled no_equals = absurd (true≢false filled)
flag_word (x ∷ xs) filled no_equals = record {
  not_dashes = refl;
  long_is = let before = before_none (x ∷ xs) no_equals in rw (no_equals, before) refl;
}
