-- Words that are no flags.
use Rattle.command_line.proofs.Common.{◌≡◌, ◌==◌, ◌||◌, ℕ, Bool, true, false, refl, ap, subst, sym, ◌∙◌, arith, List, [], ◌∷◌, None, Some, list_all}
use Rattle.command_line.proofs.Common.{bytes_eq, and_parts, eqb-true, not-true, bytes_eq-Decides, long_of, short_of, IsSpelled, Choice, among}
use Rattle.command_line.proofs.Common.{is_among, is_choice, is_no_flag, switch, within, IsValue}
use Rattle.std.proofs.lemmas.Str.Parse.{digit_from_value}
use Rattle.clap.specs.Walk.{Text}

-- the text is no flag and no `--`
pub record IsPlain (text : Text) : Type 0 where
  pub not_dashes : bytes_eq text (45 ∷ 45 ∷ []) ≡ false
  pub not_long : long_of text ≡ None
  pub not_short : short_of text ≡ None

-- a text that begins with no hyphen is such a text
plain_start : (x : ℕ) (rest : Text) → (x == 45) ≡ false → IsPlain (x ∷ rest)
plain_start x rest other = record {
  not_dashes = rw other refl;
  not_long = rw other refl;
  not_short = rw other refl;
}

-- and so is one that spells a number
pub spelled_is_plain : (text : Text) → IsSpelled text → IsPlain text
spelled_is_plain [] number = absurd (omega (arith, number.0))
spelled_is_plain (x ∷ rest) number = plain_start x rest (go (x == 45) refl)
  where
    go : (b : Bool) → (x == 45) ≡ b → b ≡ false
    go false is = refl
    go true is =
        let minus : IsSpelled (45 ∷ rest) = subst (λ (y : ℕ). IsSpelled (y ∷ rest)) (eqb-true x 45 is) number in
        absurd (omega (arith, digit_from_value 45 minus.1.0))

-- one that begins with no hyphen
no_flag_is_plain : (text : Text) → is_no_flag text ≡ true → IsPlain text
no_flag_is_plain [] none = record { not_dashes = refl; not_long = refl; not_short = refl }
no_flag_is_plain (x ∷ rest) none = plain_start x rest (not-true (x == 45) none)

-- what holds of all words holds of a text that is one of them
word_is_no_flag : (text : Text) (words : List Text) → is_among text words ≡ true → list_all is_no_flag words ≡ true → is_no_flag text ≡ true
word_is_no_flag text [] any all = cc
word_is_no_flag text (w ∷ ws) any all =
    let parts = and_parts (is_no_flag w) (list_all is_no_flag ws) all in
    go (bytes_eq w text) refl any parts.0 (λ later. word_is_no_flag text ws later parts.1)
  where
    go : (b : Bool) → bytes_eq w text ≡ b → (b || is_among text ws) ≡ true → is_no_flag w ≡ true
        → (is_among text ws ≡ true → is_no_flag text ≡ true)
        → is_no_flag text ≡ true
    go true here is first later = ap is_no_flag (sym ((bytes_eq-Decides w text).0 here)) ∙ first
    go false here is first later = later is

-- and a value of an option
pub value_is_plain : (choice : Choice) (text : Text) → is_choice choice ≡ true → IsValue choice (Some text) → IsPlain text
value_is_plain (within least greatest) text sound value = spelled_is_plain text value.0
value_is_plain (among words) text sound value =
    no_flag_is_plain text (word_is_no_flag text words value (and_parts _ (list_all is_no_flag words) sound).1)
value_is_plain switch text sound value = absurd value
