-- What the matches of a subcommand that is met hold: its name, and the values of its arguments.
use Rattle.command_line.proofs.Common.{◌≡◌, ◌∙◌, ◌&&◌, ℕ, Bool, refl, sym, ap, ap₂, subst, true, List, [], ◌∷◌, Option, Some, None, option_map}
use Rattle.command_line.proofs.Common.{option_map_or, same_Some, Text, first_of, first_value, rows_of, subcommand_name_of, subcommand_rows_of}
use Rattle.command_line.proofs.Common.{ArgMatches, Found, first_value-rows, AreNumbersOf, IsNumberOf, Meets, are_named, has_named, is_named, Flag}
use Rattle.command_line.proofs.Common.{Usage, usage_named}
use Rattle.clap.specs.Words.{Row}

-- ---- the subcommand

-- a part of what may be there
part_of : {X : Type 0} (f : X → Text × List Row) (o : Option X) → option_map (λ x. (f x).0) o ≡ option_map (λ p. p.0) (option_map f o)
part_of f None = refl
part_of f (Some x) = refl

-- what may be there, by its two parts
by_parts : (o : Option (Text × List Row)) (name : Text) (rows : List Row) → Some name ≡ option_map (λ p. p.0) o
    → Some rows ≡ option_map (λ p. p.1) o
    → o ≡ Some (name, rows)
by_parts None name rows first second = cc
by_parts (Some p) name rows first second = ap₂ (λ (n : Text) (r : List Row). Some (n, r)) (sym (same_Some _ _ first))
    (sym (same_Some _ _ second))

-- the subcommand has the name and the rows that a getter gives
pub is_met : (m : ArgMatches) (name : Text) (rows : List Row) → Some name ≡ subcommand_name_of m
    → Some rows ≡ option_map (λ p. p.1) (subcommand_rows_of m)
    → subcommand_rows_of m ≡ Some (name, rows)
is_met m name rows first second = by_parts (subcommand_rows_of m) name rows (first ∙ part_of _ _) second

-- by the name and the rows that were met
module _ (table : List Usage) (met : Option (Text × List Row)) (meets : Meets table met) (name : Text) (rows : List Row)
    (is : met ≡ Some (name, rows)) where
  both_are : ◌≡◌ {A = Text × List Row} (meets.name, meets.rows) (name, rows)
  both_are = same_Some _ _ (sym meets.subcommand ∙ is)

  rows_are : meets.rows ≡ rows
  rows_are = ap (λ (p : Text × List Row). p.1) both_are

  named : usage_named name table ≡ Some meets.usage
  named = ap (λ (n : Text). usage_named n table) (sym (ap (λ (p : Text × List Row). p.0) both_are)) ∙ meets.named

  module _ (u : Usage) (found : usage_named name table ≡ Some u) where
    usage_is : meets.usage ≡ u
    usage_is = same_Some _ _ (sym named ∙ found)

    -- its values are words where those of its options are
    pub names_met : has_named table met ≡ are_named u.flags (λ n. first_of n rows)
    names_met =
        ap (has_named table) is
        ∙ ap (λ (o : Option Usage). option_map_or (λ v. are_named v.flags (λ n. first_of n rows)) o true) found

    -- then its options have numbers
    pub numbers_met : are_named u.flags (λ n. first_of n rows) ≡ true → (ns : List ℕ) × AreNumbersOf u.flags (λ n. first_of n rows) ns
    numbers_met =
        subst (λ (v : Usage). are_named v.flags (λ n. first_of n rows) ≡ true → (ns : List ℕ)
        × AreNumbersOf v.flags (λ n. first_of n rows) ns) usage_is
        (subst (λ (rs : List Row). are_named meets.usage.flags (λ n. first_of n rs) ≡ true
        → (ns : List ℕ) × AreNumbersOf meets.usage.flags (λ n. first_of n rs) ns) rows_are meets.numbers)

-- ---- the numbers of options

-- the same values have the same numbers
pub same_numbers : (fs : List Flag) (v w : Text → Option Text) (ns : List ℕ) → ((n : Text) → v n ≡ w n) → AreNumbersOf fs v ns
    → AreNumbersOf fs w ns
same_numbers [] v w [] same are = tt
same_numbers [] v w (n ∷ ns) same are = absurd are
same_numbers (f ∷ fs) v w [] same are = absurd are
same_numbers (f ∷ fs) v w (n ∷ ns) same are =
    (subst (λ (o : Option Text). IsNumberOf f o n) (same f.name) are.0, same_numbers fs v w ns same are.1)

-- the values that a getter gives are those of the rows
pub value_in_rows : (f : Found) (id : Text) → first_value f id ≡ first_of id (rows_of f)
value_in_rows f id = first_value-rows f id

-- the same values are words alike
pub same_named : (fs : List Flag) (v w : Text → Option Text) → ((n : Text) → v n ≡ w n) → are_named fs v ≡ are_named fs w
same_named [] v w same = refl
same_named (f ∷ fs) v w same = ap₂ (λ (x y : Bool). x && y) (ap (is_named f.values) (same f.name)) (same_named fs v w same)
