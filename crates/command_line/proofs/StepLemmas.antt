-- One more row or option of a loop over them.
use Rattle.command_line.proofs.Common.{◌≡◌, ◌∙◌, ◌++◌, ◌+◌, ◌<◌, ℕ, zero, suc, false, refl, sym, ap, subst, arith, map, take, length, List, [], ◌∷◌}
use Rattle.command_line.proofs.Common.{Option, slice_index_or, map-append, map_more, Text, leaf, option_rule, rules_for, table_app, AreNumbersOf}
use Rattle.command_line.proofs.Common.{IsNumberOf, Flag, Usage, flag_of, has_none, usage_of, ValueOption}
use Rattle.clap.specs.Simple.{with_rule, with_subcommand}
use Rattle.command_line.specs.declared.table.Subcommand.{Subcommand}

-- ---- the command

-- one more option
pub one_rule : (name : Text) (xs : List ValueOption) (i : ℕ) (d : ValueOption) → i < length xs
    → with_rule (leaf name (map option_rule (map flag_of (take i xs)))) (option_rule (flag_of (slice_index_or xs i d)))
    ≡ leaf name (map option_rule (map flag_of (take (i + 1) xs)))
one_rule name xs i d lt =
    let more = map_more flag_of xs i d lt in
    ap (leaf name) (sym (ap (map option_rule) more ∙ map-append option_rule (map flag_of (take i xs))
    (flag_of (slice_index_or xs i d) ∷ [])))

-- a table with one more row has some
some_more : (us : List Usage) (u : Usage) → has_none (us ++ u ∷ []) ≡ false
some_more [] u = refl
some_more (v ∷ vs) u = refl

-- one more subcommand
pub one_usage : (name : Text) (xs : List Subcommand) (i : ℕ) (d : Subcommand) → i < length xs
    → with_subcommand (table_app name (map usage_of (take i xs)))
    (leaf (slice_index_or xs i d).name.now (rules_for (usage_of (slice_index_or xs i d)))).top
    ≡ table_app name (map usage_of (take (i + 1) xs))
one_usage name xs i d lt =
    let us = map usage_of (take i xs) in
    let u = usage_of (slice_index_or xs i d) in
    let more : table_app name (us ++ u ∷ []) ≡ table_app name (map usage_of (take (i + 1) xs)) =
    ap (table_app name) (sym (map_more usage_of xs i d lt)) in
    let some = some_more us u in
    let subs = map-append (λ (v : Usage). (leaf v.name (rules_for v)).top) us (u ∷ []) in
    let added : table_app name (us ++ u ∷ []) ≡ with_subcommand (table_app name us) (leaf u.name (rules_for u)).top =
    rw (some, subs) refl in
    sym added ∙ more

-- ---- the numbers of options

pub more_numbers : (fs : List Flag) (value : Text → Option Text) (ns : List ℕ) (f : Flag) (n : ℕ) → AreNumbersOf fs value ns
    → IsNumberOf f (value f.name) n
    → AreNumbersOf (fs ++ f ∷ []) value (ns ++ n ∷ [])
more_numbers [] value [] f n are is = (is, tt)
more_numbers [] value (m ∷ ms) f n are is = absurd are
more_numbers (g ∷ gs) value [] f n are is = absurd are
more_numbers (g ∷ gs) value (m ∷ ms) f n are is = (are.0, more_numbers gs value ms f n are.1 is)

-- an option has a number, where each has
pub number_at : (xs : List ValueOption) (value : Text → Option Text) (ns : List ℕ) (i : ℕ) (d : ValueOption) → i < length xs
    → AreNumbersOf (map flag_of xs) value ns → (n : ℕ)
    × IsNumberOf (flag_of (slice_index_or xs i d)) (value (slice_index_or xs i d).name.now) n
number_at [] value ns i d lt are = absurd (omega arith)
number_at (x ∷ xs) value [] i d lt are = absurd are
number_at (x ∷ xs) value (n ∷ ns) zero d lt are = (n, are.0)
number_at (x ∷ xs) value (n ∷ ns) (suc i) d lt are = number_at xs value ns i d (omega arith) are.1

-- the numbers of one more option
pub one_number : (xs : List ValueOption) (value : Text → Option Text) (ns : List ℕ) (i : ℕ) (d : ValueOption) (n : ℕ) → i < length xs
    → AreNumbersOf (map flag_of (take i xs)) value ns
    → IsNumberOf (flag_of (slice_index_or xs i d)) (value (slice_index_or xs i d).name.now) n
    → AreNumbersOf (map flag_of (take (i + 1) xs)) value (ns ++ n ∷ [])
one_number xs value ns i d n lt are is =
    subst (λ (fs : List Flag). AreNumbersOf fs value (ns ++ n ∷ [])) (sym (map_more flag_of xs i d lt))
    (more_numbers (map flag_of (take i xs)) value ns (flag_of (slice_index_or xs i d)) n are is)
