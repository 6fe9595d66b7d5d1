-- `check`, `judge`, `locate`, `draw` and `drive` are uses of the program's table, and ask for their lines.
use Rattle.command_line.proofs.Common.{◌≡◌, ◌∙◌, ◌++◌, append-nil, map, get_or, ℕ, refl, sym, ap, ap₂, inl, inr, arith, List, [], ◌∷◌, Option, Some}
use Rattle.command_line.proofs.Common.{None, Bool, codes, false, subst, true, true≢false, option_map_or, IfSome, bytes_eq, same_Some}
use Rattle.command_line.proofs.Common.{bytes_eq-Decides, Text, around_limit, shown_limit, budget_default, budget_limit, rows16_default, rows16_limit}
use Rattle.command_line.proofs.Common.{rows256_default, rows256_limit, rows4_default, rows4_limit, rows48_default, rows48_limit, steps_limit}
use Rattle.command_line.proofs.Common.{workers_default, workers_limit, IsNumberWithin, number_of, bench_table, check_usage, draw_usage, drive_usage}
use Rattle.command_line.proofs.Common.{judge_usage, locate_usage, number_flag, switch_flag, tree_flag, IsReadFrom, Flag, switch_text, AreOptionsOf}
use Rattle.command_line.proofs.Common.{Given, Gives, IsUse, option_words, value_given}
use Rattle.std.proofs.lemmas.List.Quantifiers.{position-Some}
use Rattle.command_line.specs.Lines.{ChecksNumbers, Draws, Drives, NamesTree, IsCheck, IsDraw, IsDrive, IsJudge, IsLocate, asked_by, switch_number}
use Rattle.command_line.specs.Lines.{switch_words, option_words as words_of}
use Rattle.command_line.specs.Trees.{name_of, place_of, trees}
use Rattle.command_line.specs.declared.line.Line.{Line}
use Rattle.command_line.specs.declared.line.Line.TheVariants.{Check, Draw, Drive, Judge, Locate}
use Rattle.command_line.specs.declared.line.Tree.{Tree}
use Rattle.command_line.specs.declared.line.Tree.TheVariants.{Locked, Coupled, Optimistic, ReadUnchecked, ScanUnvalidated, LockUnchecked}
use Rattle.command_line.specs.declared.line.Tree.TheVariants.{EarlyRelease}

-- a name is no other name
other_name : (a b : Text) → a ≡ b → bytes_eq a b ≡ false → ⊥
other_name a b same differ = true≢false (sym ((bytes_eq-Decides a b).1 same) ∙ differ)

-- ---- check

pub check_use : (words calls : List Text) (is : IsCheck words calls) → IsUse bench_table words check_usage [] calls
check_use words calls (name, is, numbers) = record {
  program = name;
  words_are = is;
  named = refl;
  options = tt;
  required = refl;
  numbers = numbers;
  no_calls = λ none. cc;
}

pub checks : (calls : List Text) (line : Line) → Gives check_usage [] calls (asked_by line) → ChecksNumbers calls line
checks calls (Check order) gives = gives.calls
checks calls other gives = absurd (other_name _ _ gives.name refl)

-- ---- drive

pub drive_use : (words : List Text) (given : List Given) → IsDrive words given → IsUse bench_table words drive_usage given []
drive_use words given is = record {
  program = is.name;
  words_are = is.words_are ∙ ap (λ (ws : List Text). is.name ∷ codes "drive" ∷ ws) (sym (append-nil (option_words given)));
  named = refl;
  options = is.options;
  required = refl;
  numbers = λ k d lt. absurd (omega arith);
  no_calls = λ _. refl;
}

-- the tree at a place is the one of the word there
named_at : (tree : Tree) → get_or (map name_of trees) (place_of tree) [] ≡ name_of tree
named_at Locked = refl
named_at Coupled = refl
named_at Optimistic = refl
named_at ReadUnchecked = refl
named_at ScanUnvalidated = refl
named_at LockUnchecked = refl
named_at EarlyRelease = refl

-- and the default is optimistic
at_default : (tree : Tree) → Some (place_of Optimistic) ≡ Some (place_of tree) → tree ≡ Optimistic
at_default tree is = go tree (same_Some _ _ is)
  where
    go : (t : Tree) → place_of Optimistic ≡ place_of t → t ≡ Optimistic
    go Locked same = absurd (omega (arith, same))
    go Coupled same = absurd (omega (arith, same))
    go Optimistic same = refl
    go ReadUnchecked same = absurd (omega (arith, same))
    go ScanUnvalidated same = absurd (omega (arith, same))
    go LockUnchecked same = absurd (omega (arith, same))
    go EarlyRelease same = absurd (omega (arith, same))

-- so the tree that is read is the one that the value names
names_tree : (value : Option Text) (tree : Tree) → IsReadFrom tree_flag value (place_of tree) → NamesTree value tree
names_tree None tree read = at_default tree read
names_tree (Some text) tree read =
    let at = (position-Some (λ (word : Text). bytes_eq word text) (map name_of trees) (place_of tree) [] read).1 in
    sym (named_at tree) ∙ (bytes_eq-Decides _ text).0 at

-- the number that is read is that of the value, or the default
read_number : (name : Text) (least greatest default : ℕ) (value : Option Text) (n : ℕ)
    → IsReadFrom (number_flag name least greatest default) value n
    → n ≡ option_map_or number_of value default
read_number name least greatest default None n read = same_Some n default (sym read)
read_number name least greatest default (Some text) n read = read.2

pub drives : (given : List Given) (line : Line) → Gives drive_usage given [] (asked_by line) → Drives given line
drives given (Drive asked) gives =
    let rows = asked.rows in
    let numbers = gives.numbers in (
      names_tree _ asked.tree numbers.0.read,
      read_number (codes "rows4") 0 rows4_limit rows4_default _ rows.rows4 numbers.1.0.read,
      read_number (codes "rows16") 0 rows16_limit rows16_default _ rows.rows16 numbers.1.1.0.read,
      read_number (codes "rows48") 0 rows48_limit rows48_default _ rows.rows48 numbers.1.1.1.0.read,
      read_number (codes "rows256") 1 rows256_limit rows256_default _ rows.rows256 numbers.1.1.1.1.0.read,
      read_number (codes "limit") 1 steps_limit steps_limit _ asked.limit numbers.1.1.1.1.1.0.read,
    )
drives given other gives = absurd (other_name _ _ gives.name refl)

-- ---- draw

pub draw_use : (words : List Text) (given : List Given) → IsDraw words given → IsUse bench_table words draw_usage given []
draw_use words given is = record {
  program = is.name;
  words_are = is.words_are ∙ ap (λ (ws : List Text). is.name ∷ codes "draw" ∷ ws) (sym (append-nil (option_words given)));
  named = refl;
  options = is.options;
  required = refl;
  numbers = λ k d lt. absurd (omega arith);
  no_calls = λ _. refl;
}

pub draws : (given : List Given) (line : Line) → Gives draw_usage given [] (asked_by line) → Draws given line
draws given (Draw budget workers around calls) gives =
    let numbers = gives.numbers in (
      read_number (codes "budget") 1 budget_limit budget_default _ budget numbers.0.read,
      read_number (codes "workers") 1 workers_limit workers_default _ workers numbers.1.0.read,
      read_number (codes "around") 0 around_limit around_limit _ around numbers.1.1.0.read,
      read_number (codes "calls") 0 shown_limit shown_limit _ calls numbers.1.1.1.0.read,
    )
draws given other gives = absurd (other_name _ _ gives.name refl)

-- ---- judge

-- an option that may be given
abbrev given_as : Text → Option Text → List Given
given_as name value = option_map_or (λ text. (name, Some text) ∷ []) value []

-- the two options
abbrev budget_flag : Flag
budget_flag = number_flag (codes "budget") 1 budget_limit budget_default

abbrev workers_flag : Flag
workers_flag = number_flag (codes "workers") 1 workers_limit workers_default

-- the options in either order
abbrev budget_first : Option Text → Option Text → List Given
budget_first budget workers = given_as (codes "budget") budget ++ given_as (codes "workers") workers

abbrev workers_first : Option Text → Option Text → List Given
workers_first budget workers = given_as (codes "workers") workers ++ given_as (codes "budget") budget

-- their words
budget_words : (budget workers : Option Text) → words_of (codes "--budget") budget ++ words_of (codes "--workers") workers
    ≡ option_words (budget_first budget workers) ++ []
budget_words None None = refl
budget_words None (Some w) = refl
budget_words (Some b) None = refl
budget_words (Some b) (Some w) = refl

workers_words : (budget workers : Option Text) → words_of (codes "--workers") workers ++ words_of (codes "--budget") budget
    ≡ option_words (workers_first budget workers) ++ []
workers_words None None = refl
workers_words None (Some w) = refl
workers_words (Some b) None = refl
workers_words (Some b) (Some w) = refl

-- and their values, which are within the limits
budget_options : (budget workers : Option Text) → IfSome budget (IsNumberWithin budget_limit)
    → IfSome workers (IsNumberWithin workers_limit)
    → AreOptionsOf judge_usage.flags (budget_first budget workers)
budget_options None None b w = tt
budget_options None (Some x) b w = (w, refl, tt)
budget_options (Some x) None b w = (b, refl, tt)
budget_options (Some x) (Some y) b w = (b, refl, (w, refl, tt))

workers_options : (budget workers : Option Text) → IfSome budget (IsNumberWithin budget_limit)
    → IfSome workers (IsNumberWithin workers_limit)
    → AreOptionsOf judge_usage.flags (workers_first budget workers)
workers_options None None b w = tt
workers_options None (Some x) b w = (w, refl, tt)
workers_options (Some x) None b w = (b, refl, tt)
workers_options (Some x) (Some y) b w = (w, refl, (b, refl, tt))

-- options of `judge` that give these values
record Gets (words : List Text) (budget workers : Option Text) : Type 0 where
  given : List Given
  is_use : IsUse bench_table words judge_usage given []
  budget_is : value_given given (codes "budget") ≡ budget
  workers_is : value_given given (codes "workers") ≡ workers

-- each order does
budget_value : (budget workers : Option Text) → (value_given (budget_first budget workers) (codes "budget") ≡ budget)
    × (value_given (budget_first budget workers) (codes "workers") ≡ workers)
budget_value None None = (refl, refl)
budget_value None (Some w) = (refl, refl)
budget_value (Some b) None = (refl, refl)
budget_value (Some b) (Some w) = (refl, refl)

workers_value : (budget workers : Option Text) → (value_given (workers_first budget workers) (codes "budget") ≡ budget)
    × (value_given (workers_first budget workers) (codes "workers") ≡ workers)
workers_value None None = (refl, refl)
workers_value None (Some w) = (refl, refl)
workers_value (Some b) None = (refl, refl)
workers_value (Some b) (Some w) = (refl, refl)

judge_gets : (words : List Text) (budget workers : Option Text) → IsJudge words budget workers → Gets words budget workers
judge_gets words budget workers is = elim is.in_an_order [
  | inl options_are ↦ record {
    given = budget_first budget workers;
    is_use = record {
      program = is.name;
      words_are = is.words_are ∙ ap (λ (ws : List Text). is.name ∷ codes "judge" ∷ ws) (options_are ∙ budget_words budget workers);
      named = refl;
      options = budget_options budget workers is.budget_within is.workers_within;
      required = refl;
      numbers = λ k d lt. absurd (omega arith);
      no_calls = λ _. refl;
    };
    budget_is = (budget_value budget workers).0;
    workers_is = (budget_value budget workers).1;
  }
  | inr options_are ↦ record {
    given = workers_first budget workers;
    is_use = record {
      program = is.name;
      words_are = is.words_are ∙ ap (λ (ws : List Text). is.name ∷ codes "judge" ∷ ws) (options_are ∙ workers_words budget workers);
      named = refl;
      options = workers_options budget workers is.budget_within is.workers_within;
      required = refl;
      numbers = λ k d lt. absurd (omega arith);
      no_calls = λ _. refl;
    };
    budget_is = (workers_value budget workers).0;
    workers_is = (workers_value budget workers).1;
  }
]

-- so are the two of a search
record AreRead (budget workers : Option Text) (x y : ℕ) : Type 0 where
  budget_is : x ≡ option_map_or number_of budget budget_default
  workers_is : y ≡ option_map_or number_of workers workers_default

numbers_read : (given : List Given) (budget workers : Option Text) (x y : ℕ) → value_given given (codes "budget") ≡ budget
    → value_given given (codes "workers") ≡ workers → IsReadFrom budget_flag (value_given given (codes "budget")) x
    → IsReadFrom workers_flag (value_given given (codes "workers")) y → AreRead budget workers x y
numbers_read given budget workers x y b w read_budget read_workers = record {
  budget_is = read_number (codes "budget") 1 budget_limit budget_default _ x read_budget ∙ ap (λ (o : Option Text). option_map_or number_of o budget_default) b;
  workers_is = read_number (codes "workers") 1 workers_limit workers_default _ y read_workers ∙ ap (λ (o : Option Text). option_map_or number_of o workers_default) w;
}

-- a use of `judge`, for each of these words
pub judge_given : (words : List Text) (budget workers : Option Text) → IsJudge words budget workers → List Given
judge_given words budget workers is = (judge_gets words budget workers is).given

pub judge_use : (words : List Text) (budget workers : Option Text) (is : IsJudge words budget workers)
    → IsUse bench_table words judge_usage (judge_given words budget workers is) []
unfolding judge_given
judge_use words budget workers is = (judge_gets words budget workers is).is_use

judges_numbers : (given : List Given) (budget workers : Option Text) (line : Line) → value_given given (codes "budget") ≡ budget
    → value_given given (codes "workers") ≡ workers
    → Gives judge_usage given [] (asked_by line)
    → line ≡ Judge (option_map_or number_of budget budget_default) (option_map_or number_of workers workers_default)
judges_numbers given budget workers (Judge x y) b w gives =
    let read = numbers_read given budget workers x y b w gives.numbers.0.read gives.numbers.1.0.read in
    ap₂ Judge read.budget_is read.workers_is
judges_numbers given budget workers other b w gives = absurd (other_name _ _ gives.name refl)

pub judges : (words : List Text) (budget workers : Option Text) (line : Line) (is : IsJudge words budget workers)
    → Gives judge_usage (judge_given words budget workers is) [] (asked_by line)
    → line ≡ Judge (option_map_or number_of budget budget_default) (option_map_or number_of workers workers_default)
unfolding judge_given
judges words budget workers line is gives =
    let gets = judge_gets words budget workers is in
    judges_numbers gets.given budget workers line gets.budget_is gets.workers_is gives

-- ---- locate

-- a switch that may be given
abbrev switch_as : Text → Bool → List Given
switch_as name true = (name, None) ∷ []
switch_as name false = []

-- the options in either order
abbrev order_last : Option Text → Bool → List Given
order_last budget order = given_as (codes "budget") budget ++ switch_as (codes "order") order

abbrev order_first : Option Text → Bool → List Given
order_first budget order = switch_as (codes "order") order ++ given_as (codes "budget") budget

-- their words
order_last_words : (budget : Option Text) (order : Bool) → words_of (codes "--budget") budget ++ switch_words (codes "--order") order
    ≡ option_words (order_last budget order) ++ []
order_last_words None false = refl
order_last_words None true = refl
order_last_words (Some b) false = refl
order_last_words (Some b) true = refl

order_first_words : (budget : Option Text) (order : Bool) → switch_words (codes "--order") order ++ words_of (codes "--budget") budget
    ≡ option_words (order_first budget order) ++ []
order_first_words None false = refl
order_first_words None true = refl
order_first_words (Some b) false = refl
order_first_words (Some b) true = refl

-- and their values, which are within the limits
order_last_options : (budget : Option Text) (order : Bool) → IfSome budget (IsNumberWithin budget_limit)
    → AreOptionsOf locate_usage.flags (order_last budget order)
order_last_options None false b = tt
order_last_options None true b = (tt, refl, tt)
order_last_options (Some x) false b = (b, refl, tt)
order_last_options (Some x) true b = (b, refl, (tt, refl, tt))

order_first_options : (budget : Option Text) (order : Bool) → IfSome budget (IsNumberWithin budget_limit)
    → AreOptionsOf locate_usage.flags (order_first budget order)
order_first_options None false b = tt
order_first_options None true b = (tt, refl, tt)
order_first_options (Some x) false b = (b, refl, tt)
order_first_options (Some x) true b = (tt, refl, (b, refl, tt))

-- the text that is read of a switch
abbrev switch_value : Bool → Option Text
switch_value true = Some switch_text
switch_value false = None

-- options of `locate` that give these values
record Finds (words : List Text) (budget : Option Text) (order : Bool) : Type 0 where
  given : List Given
  is_use : IsUse bench_table words locate_usage given []
  budget_is : value_given given (codes "budget") ≡ budget
  order_is : value_given given (codes "order") ≡ switch_value order

-- each order does
order_last_values : (budget : Option Text) (order : Bool) → (value_given (order_last budget order) (codes "budget") ≡ budget)
    × (value_given (order_last budget order) (codes "order") ≡ switch_value order)
order_last_values None false = (refl, refl)
order_last_values None true = (refl, refl)
order_last_values (Some b) false = (refl, refl)
order_last_values (Some b) true = (refl, refl)

order_first_values : (budget : Option Text) (order : Bool) → (value_given (order_first budget order) (codes "budget") ≡ budget)
    × (value_given (order_first budget order) (codes "order") ≡ switch_value order)
order_first_values None false = (refl, refl)
order_first_values None true = (refl, refl)
order_first_values (Some b) false = (refl, refl)
order_first_values (Some b) true = (refl, refl)

locate_finds : (words : List Text) (budget : Option Text) (order : Bool) → IsLocate words budget order → Finds words budget order
locate_finds words budget order is = elim is.in_an_order [
  | inl options_are ↦ record {
    given = order_last budget order;
    is_use = record {
      program = is.name;
      words_are = is.words_are ∙ ap (λ (ws : List Text). is.name ∷ codes "locate" ∷ ws) (options_are ∙ order_last_words budget order);
      named = refl;
      options = order_last_options budget order is.budget_within;
      required = refl;
      numbers = λ k d lt. absurd (omega arith);
      no_calls = λ _. refl;
    };
    budget_is = (order_last_values budget order).0;
    order_is = (order_last_values budget order).1;
  }
  | inr options_are ↦ record {
    given = order_first budget order;
    is_use = record {
      program = is.name;
      words_are = is.words_are ∙ ap (λ (ws : List Text). is.name ∷ codes "locate" ∷ ws) (options_are ∙ order_first_words budget order);
      named = refl;
      options = order_first_options budget order is.budget_within;
      required = refl;
      numbers = λ k d lt. absurd (omega arith);
      no_calls = λ _. refl;
    };
    budget_is = (order_first_values budget order).0;
    order_is = (order_first_values budget order).1;
  }
]

-- a use of `locate`, for each of these words
pub locate_given : (words : List Text) (budget : Option Text) (order : Bool) → IsLocate words budget order → List Given
locate_given words budget order is = (locate_finds words budget order is).given

pub locate_use : (words : List Text) (budget : Option Text) (order : Bool) (is : IsLocate words budget order)
    → IsUse bench_table words locate_usage (locate_given words budget order is) []
unfolding locate_given
locate_use words budget order is = (locate_finds words budget order is).is_use

-- an order is asked for exactly if the switch is given
order_read : (order asked : Bool) → IsReadFrom (switch_flag (codes "order")) (switch_value order) (switch_number asked) → asked ≡ order
order_read false false read = refl
order_read false true read = cc
order_read true false read = cc
order_read true true read = refl

locates_numbers : (given : List Given) (budget : Option Text) (order : Bool) (line : Line) → value_given given (codes "budget") ≡ budget
    → value_given given (codes "order") ≡ switch_value order
    → Gives locate_usage given [] (asked_by line)
    → line ≡ Locate (option_map_or number_of budget budget_default) order
locates_numbers given budget order (Locate x asked) b o gives =
    let read = subst (λ (v : Option Text). IsReadFrom (switch_flag (codes "order")) v (switch_number asked)) o gives.numbers.1.0.read in
    ap₂ Locate
    (read_number (codes "budget") 1 budget_limit budget_default _ x gives.numbers.0.read
    ∙ ap (λ (v : Option Text). option_map_or number_of v budget_default) b)
    (order_read order asked read)
locates_numbers given budget order other b o gives = absurd (other_name _ _ gives.name refl)

pub locates : (words : List Text) (budget : Option Text) (order : Bool) (line : Line) (is : IsLocate words budget order)
    → Gives locate_usage (locate_given words budget order is) [] (asked_by line)
    → line ≡ Locate (option_map_or number_of budget budget_default) order
unfolding locate_given
locates words budget order line is gives =
    let finds = locate_finds words budget order is in
    locates_numbers finds.given budget order line finds.budget_is finds.order_is gives
