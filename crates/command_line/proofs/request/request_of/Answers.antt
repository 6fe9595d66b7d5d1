use Rattle.command_line.proofs.Common.{ap, sym, refl, map, ℕ, Bool, true, false, not, true≢false, List, Option, Some, ◌≡◌, ◌∙◌, Bor, option_map, Text}
use Rattle.command_line.proofs.Common.{first_of, first_value, found_of, rows_of, subcommand_name_of, subcommand_rows_of, ArgMatches, AreNumbersOf}
use Rattle.command_line.proofs.Common.{Meets, are_named, has_named, Usage, usage_named, usage_of}
use Rattle.command_line.proofs.MatchLemmas.{is_met, names_met, numbers_met, same_named, same_numbers, value_in_rows}
use Rattle.command_line.proofs.TableLemmas.{named_so}
use Rattle.command_line.proofs.request.request_of.Goals as goal

-- the subcommand has the name and the matches that a getter gives
met_is : (m : ArgMatches) (got : Option (Bor Text × Bor ArgMatches)) (p : Bor Text × Bor ArgMatches) → got ≡ Some p
    → option_map (λ q. q.0.now) got ≡ subcommand_name_of m
    → option_map (λ q. rows_of (found_of q.1.now)) got ≡ option_map (λ q. q.1) (subcommand_rows_of m)
    → subcommand_rows_of m ≡ Some (p.0.now, rows_of (found_of p.1.now))
met_is m got p is first second =
    is_met m p.0.now (rows_of (found_of p.1.now))
    (ap (option_map (λ (q : Bor Text × Bor ArgMatches). q.0.now)) (sym is) ∙ first)
    (ap (option_map (λ (q : Bor Text × Bor ArgMatches). rows_of (found_of q.1.now))) (sym is) ∙ second)

-- the subcommand that is met, with its values as a getter gives them
module _ (m : ArgMatches) (table : List Usage) (meets : Meets table (subcommand_rows_of m)) (p : Bor Text × Bor ArgMatches) (u : Usage)
    (met : subcommand_rows_of m ≡ Some (p.0.now, rows_of (found_of p.1.now))) (found : usage_named p.0.now table ≡ Some u) where
  abbrev value : Text → Option Text
  value = first_value (found_of p.1.now)

  -- its values are words where those of its options are
  names_are : has_named table (subcommand_rows_of m) ≡ are_named u.flags value
  names_are =
      names_met table (subcommand_rows_of m) meets p.0.now (rows_of (found_of p.1.now)) met u found
      ∙ same_named u.flags (λ n. first_of n (rows_of (found_of p.1.now))) value (λ n. sym (value_in_rows (found_of p.1.now) n))

  -- then its options have numbers
  numbers_are : are_named u.flags value ≡ true → (ns : List ℕ) × AreNumbersOf u.flags value ns
  numbers_are named =
      let rows = rows_of (found_of p.1.now) in
      let same = same_named u.flags value (λ n. first_of n rows) (value_in_rows (found_of p.1.now)) in
      let numbers = numbers_met table (subcommand_rows_of m) meets p.0.now rows met u found (sym same ∙ named) in
      (numbers.0, same_numbers u.flags (λ n. first_of n rows) value numbers.0 (λ n. sym (value_in_rows (found_of p.1.now) n)) numbers.1)

-- what a test that is denied says
denied : (b : Bool) → false ≡ not b → b ≡ true
denied true is = refl
denied false is = cc

affirmed : (b : Bool) → true ≡ not b → b ≡ false
affirmed false is = refl
affirmed true is = cc

pub numbers_of_options-requires : goal.numbers_of_options-requires
numbers_of_options-requires c =
    let met = met_is c.args.matches.now c.subcommand.result c.unwrap.result c.unwrap.ensures c.subcommand.ensures.name
    c.subcommand.ensures.rows in
    numbers_are c.args.matches.now (map usage_of c.args.table.now) c.requires c.unwrap.result
    (usage_of c.subcommand_named-subcommand.result.now)
    met c.subcommand_named-subcommand.ensures (denied _ c.in_default.ensures)

pub returns-clause-asked : goal.returns-clause-asked
returns-clause-asked c =
    let table : List Usage = map usage_of c.args.table.now in
    let found = found_of c.unwrap.result.1.now in
    let met = met_is c.args.matches.now c.subcommand.result c.unwrap.result c.unwrap.ensures c.subcommand.ensures.name
    c.subcommand.ensures.rows in
    let u : Usage = usage_of c.subcommand_named-subcommand.result.now in
    let name_is = named_so table c.unwrap.result.0.now u c.subcommand_named-subcommand.ensures in
    record {
      usage = u;
      rows = rows_of found;
      named = ap (λ (n : Text). usage_named n table) name_is ∙ c.subcommand_named-subcommand.ensures;
      subcommand = met ∙ ap (λ (n : Text). Some (n, rows_of found)) (sym name_is);
      numbers =
          same_numbers u.flags (first_value found) (λ n. first_of n (rows_of found)) c.in_ok-numbers_of_options.field-0.items
          (value_in_rows found) c.in_ok-numbers_of_options.ensures;
      calls = c.in_ok-calls_of.ensures;
    }

pub returns-clause-described : goal.returns-clause-described
returns-clause-described c =
    let u : Usage = usage_of c.subcommand_named-subcommand.result.now in
    let table : List Usage = map usage_of c.args.table.now in
    ap (λ (n : Text). usage_named n table) (named_so table c.unwrap.result.0.now u c.subcommand_named-subcommand.ensures)
    ∙ c.subcommand_named-subcommand.ensures

pub returns-clause-named : goal.returns-clause-named
returns-clause-named c =
    let met = met_is c.args.matches.now c.subcommand.result c.unwrap.result c.unwrap.ensures c.subcommand.ensures.name
    c.subcommand.ensures.rows in
    names_are c.args.matches.now (map usage_of c.args.table.now) c.requires c.unwrap.result
    (usage_of c.subcommand_named-subcommand.result.now)
    met c.subcommand_named-subcommand.ensures ∙ denied _ c.in_default.ensures

pub returns-in-Some-clause-refused : goal.returns-in-Some-clause-refused
returns-in-Some-clause-refused c named =
    let met = met_is c.args.matches.now c.subcommand.result c.unwrap.result c.unwrap.ensures c.subcommand.ensures.name
    c.subcommand.ensures.rows in
    let same = names_are c.args.matches.now (map usage_of c.args.table.now) c.requires c.unwrap.result
    (usage_of c.subcommand_named-subcommand.result.now)
    met c.subcommand_named-subcommand.ensures in
    absurd (true≢false (sym named ∙ same ∙ affirmed _ c.in-Some.ensures))
