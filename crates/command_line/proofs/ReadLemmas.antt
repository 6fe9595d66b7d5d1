-- What a parse by the command of a table says of the words.
use Rattle.command_line.proofs.Common.{◌≡◌, ◌∙◌, ◌≤◌, true, ap, subst, List, [], ◌∷◌, length, ⊎_elim, is_simple_and_free, usize_max, HasKind}
use Rattle.command_line.proofs.Common.{HasMatchesOf, Text, fault_of, is_simple, kind_of, subcommand_of, subcommand_rows_of, ArgMatches, table_app}
use Rattle.command_line.proofs.Common.{Asked, Asks, Meets, has_named, Usage, is_table, Given, Gives, IsUse}
use Rattle.clap.specs.Words.{App}
use Rattle.clap.specs.declared.error.Error.{Error}
use Rattle.clap.specs.declared.error.kind.ErrorKind.TheVariants.{OutOfMemory}
use Rattle.command_line.proofs.RequestLemmas.{meets_some}
use Rattle.command_line.proofs.TableLemmas.{free_table, simple_table}
use Rattle.command_line.proofs.UseLemmas.{use_accepted, use_gives, use_named}

-- the command of a table is one of which `clap` says the matches
table_simple : (name : Text) (table : List Usage) → is_table table ≡ true → is_simple (table_app name table) ≡ true
table_simple name [] all = cc
table_simple name (u ∷ us) all = simple_table name u us

-- and the faults
table_free : (name : Text) (table : List Usage) → is_table table ≡ true → is_simple_and_free (table_app name table) ≡ true
table_free name [] all = cc
table_free name (u ∷ us) all = free_table name u us

-- words of which no step of reading fails meet a subcommand
pub table_meets : (name : Text) (table : List Usage) (words : List Text) → is_table table ≡ true
    → fault_of (table_app name table) words ≡ []
    → Meets table (subcommand_of (table_app name table) words)
table_meets name [] words all none = cc
table_meets name (u ∷ us) words all none = meets_some name u us words all none

-- the use of a subcommand is accepted
pub table_accepts : (name : Text) (table : List Usage) (words : List Text) (u : Usage) (given : List Given) (calls : List Text)
    → is_table table ≡ true
    → IsUse table words u given calls → length words ≤ usize_max → fault_of (table_app name table) words ≡ []
table_accepts name [] words u given calls all is fits = cc
table_accepts name (v ∷ vs) words u given calls all is fits = use_accepted name v vs all words u given calls is fits

-- its values are words where they have to be
pub table_names : (name : Text) (table : List Usage) (words : List Text) (u : Usage) (given : List Given) (calls : List Text)
    → is_table table ≡ true
    → IsUse table words u given calls → length words ≤ usize_max → has_named table (subcommand_of (table_app name table) words) ≡ true
table_names name [] words u given calls all is fits = cc
table_names name (v ∷ vs) words u given calls all is fits = use_named name v vs all words u given calls is fits

-- and it gives its numbers
pub table_gives : (name : Text) (table : List Usage) (words : List Text) (u : Usage) (given : List Given)
    (calls : List Text) (asked : Asked)
    → is_table table ≡ true
    → IsUse table words u given calls → length words ≤ usize_max → Asks table (subcommand_of (table_app name table) words) asked
    → Gives u given calls asked
table_gives name [] words u given calls asked all is fits asks = cc
table_gives name (v ∷ vs) words u given calls asked all is fits asks = use_gives name v vs all words u given calls is fits asked asks

-- ---- a command that is that of the table

module _ (a : App) (name : Text) (table : List Usage) (words : List Text) (same : a ≡ table_app name table)
    (all : is_table table ≡ true) where
  -- no step fails, where the command's own faults are none
  pub accepted_as : (is_simple_and_free a ≡ true → fault_of a words ≡ []) → fault_of (table_app name table) words ≡ []
  accepted_as none = subst (λ (b : App). fault_of b words ≡ []) same (none (ap is_simple_and_free same ∙ table_free name table all))

  -- where none does, an error has the kind of want of memory
  pub memory_only : (e : Error) → (is_simple_and_free a ≡ true → HasKind (fault_of a words) e) → fault_of (table_app name table) words ≡ []
      → kind_of e ≡ OutOfMemory
  memory_only e kinds accepted =
      let none : fault_of a words ≡ [] = ap (λ (b : App). fault_of b words) same ∙ accepted in
      let has : HasKind [] e = rw none at kinds (ap is_simple_and_free same ∙ table_free name table all) in
      ⊎_elim (λ memory. memory) (λ among. absurd among) has

  -- the subcommand is the one that the words name
  pub met_as : (m : ArgMatches) → HasMatchesOf a words m → subcommand_rows_of m ≡ subcommand_of (table_app name table) words
  met_as m matches = (matches (ap is_simple same ∙ table_simple name table all)).1 ∙ ap (λ (b : App). subcommand_of b words) same
