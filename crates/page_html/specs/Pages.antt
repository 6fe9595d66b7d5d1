-- The text of a page: a template with texts in their places. In each of them `<` is escaped as JSON
-- has it (RFC 8259, section 7).
use Rattle.std.specs.Prelude.{◌≡◌, ◌≢◌, ℕ, ◌==◌, if◌then◌else◌, List, [], ◌∷◌, ◌++◌, map, codes, All}
use Rattle.std.specs.List.{concat}
use Rattle.page_html.specs.declared.template.TheConstants.{BEFORE_HISTORY, BEFORE_JUDGE, BEFORE_LOCATE, BEFORE_EXPLAIN, BEFORE_ORDER, AFTER_ORDER}

-- `<`
abbrev pub mark : ℕ
mark = 60

-- a byte of a text: `<` as JSON's escape of it, any other as it is
abbrev pub escaped_byte : ℕ → List ℕ
escaped_byte byte = if byte == mark then codes "\\u003c" else byte ∷ []

-- a text
abbrev pub escaped : List ℕ → List ℕ
escaped text = concat (map escaped_byte text)

-- a text, then a part of a page, then another text
abbrev pub with_block : List ℕ → List ℕ → List ℕ → List ℕ
with_block page before text = (page ++ before) ++ escaped text

-- the page of a history and of what is printed of it
unfoldable pub page_text : List ℕ → List ℕ → List ℕ → List ℕ → List ℕ → List ℕ
page_text history judged located explained order =
    with_block (with_block (with_block (with_block (with_block [] BEFORE_HISTORY.now history)
    BEFORE_JUDGE.now judged)
    BEFORE_LOCATE.now located)
    BEFORE_EXPLAIN.now explained)
    BEFORE_ORDER.now order ++ AFTER_ORDER.now

-- an escaped text has no `<`
abbrev pub EscapedTextsHaveNoMark : Type 0
EscapedTextsHaveNoMark = (text : List ℕ) → All (λ byte. byte ≢ mark) (escaped text)

-- a text without `<` is escaped as it is
abbrev pub UnmarkedTextsStay : Type 0
UnmarkedTextsStay = (text : List ℕ) → All (λ byte. byte ≢ mark) text → escaped text ≡ text
