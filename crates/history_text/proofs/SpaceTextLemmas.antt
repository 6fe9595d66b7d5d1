-- A text with white space around it has the same tokens, so the same value.
use Rattle.history_text.proofs.Common.{◌≡◌, ℕ, ◌<◌, ◌≤◌, List, [], ◌∷◌, ◌++◌, length, option_and_then, refl, ap, ap₂, ◌∙◌, arith, IsAscii}
use Rattle.history_text.proofs.Common.{IsUtf8-append, IsUtf8-from_ascii, IsAscii-nil, IsAscii-cons, bad, plain, of_json, max_depth, read, HistoryView}
use Rattle.history_text.proofs.Common.{text_limit, Spells, IsWhiteSpace, AreWhiteSpace, token, operator_lexeme, string_token, Class, quote, backslash}
use Rattle.history_text.proofs.Common.{operator, space, other, class, Mode, between, in_word, in_string, in_escape, lex_byte, lex, fresh, punctuate}
use Rattle.history_text.proofs.SpaceWordLemmas.{of_white_space, word_ends}
use Rattle.history_text.proofs.SpaceContentLemmas.{content_ends}
use Rattle.json.specs.Json as json

class_is : (w : ℕ) → IsWhiteSpace w → class w ≡ space
class_is w h = of_white_space (λ x. class x ≡ space) w h refl refl refl refl

-- white space alone has no lexeme
lex-white : (m : Mode) (ws : List ℕ) → AreWhiteSpace ws → lex m ws ≡ []
unfolding lex
lex-white m [] h = refl
lex-white between (x ∷ xs) h = ap (λ c. lex_byte between c x xs (λ n. lex n xs)) (class_is x h.0) ∙ lex-white between xs h.1
lex-white in_word (x ∷ xs) h = ap (λ c. lex_byte in_word c x xs (λ n. lex n xs)) (class_is x h.0) ∙ lex-white between xs h.1
lex-white in_string (x ∷ xs) h = ap (λ c. lex_byte in_string c x xs (λ n. lex n xs)) (class_is x h.0) ∙ lex-white in_string xs h.1
lex-white in_escape (x ∷ xs) h = ap (λ c. lex_byte in_escape c x xs (λ n. lex n xs)) (class_is x h.0) ∙ lex-white in_string xs h.1

-- after a text it adds none
lex-behind : (m : Mode) (xs ws : List ℕ) → AreWhiteSpace ws → lex m (xs ++ ws) ≡ lex m xs
unfolding lex
lex-behind m [] ws h = lex-white m ws h
lex-behind m (x ∷ xs) ws h = by_byte (λ n. lex-behind n xs ws h) m (class x)
  where
    by_byte : ((n : Mode) → lex n (xs ++ ws) ≡ lex n xs) → (m : Mode) (c : Class) → lex_byte m c x (xs ++ ws) (λ n. lex n (xs ++ ws)) ≡ lex_byte m c x xs (λ n. lex n xs)
    by_byte later between quote = ap₂ (λ o l. token (string_token o) ∷ l) (content_ends plain xs ws h) (later in_string)
    by_byte later between backslash = ap (λ l. token bad ∷ l) (later in_word)
    by_byte later between operator = ap (λ l. operator_lexeme x ∷ l) (later between)
    by_byte later between space = later between
    by_byte later between other = ap₂ (λ t l. token t ∷ l) (word_ends ws h x xs) (later in_word)
    by_byte later in_word quote = later in_word
    by_byte later in_word backslash = later in_word
    by_byte later in_word operator = ap (λ l. operator_lexeme x ∷ l) (later between)
    by_byte later in_word space = later between
    by_byte later in_word other = later in_word
    by_byte later in_string quote = later between
    by_byte later in_string backslash = later in_escape
    by_byte later in_string operator = later in_string
    by_byte later in_string space = later in_string
    by_byte later in_string other = later in_string
    by_byte later in_escape c = later in_string

-- white space before a text adds no word
lex-before : (before xs : List ℕ) → AreWhiteSpace before → lex between (before ++ xs) ≡ lex between xs
unfolding lex
lex-before [] xs h = refl
lex-before (x ∷ before) xs h =
    ap (λ c. lex_byte between c x (before ++ xs) (λ n. lex n (before ++ xs))) (class_is x h.0) ∙ lex-before before xs h.1

pub same_value : (before text behind : List ℕ) → AreWhiteSpace before → AreWhiteSpace behind → read (before ++ (text ++ behind)) ≡ read text
same_value before text behind h k =
    ap (λ ls. option_and_then of_json (option_and_then (λ p. json.if_last p.0 p.1) (json.value max_depth (punctuate fresh ls))))
    (lex-before before (text ++ behind) h ∙ lex-behind between text behind k)

-- ---- texts

small : (byte : ℕ) → IsWhiteSpace byte → byte < 128
small byte h = of_white_space (λ b. b < 128) byte h (omega arith) (omega arith) (omega arith) (omega arith)

-- white space is ASCII
pub ascii_white : (ws : List ℕ) → AreWhiteSpace ws → IsAscii ws
ascii_white [] h = IsAscii-nil
ascii_white (x ∷ xs) h = IsAscii-cons x xs (small x h.0) (ascii_white xs h.1)

pub same_history : (before text behind : List ℕ) (history : HistoryView) → AreWhiteSpace before → AreWhiteSpace behind
    → length (before ++ (text ++ behind)) ≤ text_limit → Spells text history → Spells (before ++ (text ++ behind)) history
same_history before text behind history h k fits spells = record {
  value = spells.value;
  json = record {
    fits = fits;
    utf8 =
        IsUtf8-append before (text ++ behind) (IsUtf8-from_ascii before (ascii_white before h))
        (IsUtf8-append text behind spells.json.utf8 (IsUtf8-from_ascii behind (ascii_white behind k)));
    value = same_value before text behind h k ∙ spells.json.value;
  };
  spelled = spells.spelled;
}
