-- Escaped texts: where they are as they were, and that no byte of theirs is `<`.
use Rattle.std.proofs.Common.{◌≡◌, ℕ, ◌<◌, ◌==◌, if◌then◌else◌, Bool, true, false, List, [], ◌∷◌, ◌++◌, length, map, get_or, refl, sym, ap, subst, ◌∙◌, ap₂, not, Bor, Option, Some, None, Result, Ok, Err, OnOk, is_ok, arith, eqb-true}
use Rattle.std.specs.Prelude.{◌≢◌, codes, suc, All, MatchOption}
use Rattle.std.specs.List.{concat, list_all, position_or_len, before_first, after_first}
use Rattle.std.proofs.lemmas.Bool.{false≢true, and_parts}
use Rattle.std.proofs.lemmas.List.{map-append, append_assoc, length-take-le, get_or-take}
use Rattle.std.proofs.lemmas.List.Folds.{concat-append}
use Rattle.std.proofs.lemmas.List.Sums.{split_at_first, passes_at_first, fails_before_first}
use Rattle.std.proofs.lemmas.List.Elements.{All-nil, All-cons, All-append, All-head, All-tail}
use Rattle.std.proofs.lemmas.Str.Pattern.{IsSplitOnceResult, split_once_first}
use Rattle.page_html.specs.Pages.{mark, escaped_byte, escaped, with_block, EscapedTextsHaveNoMark, UnmarkedTextsStay}

-- whether a byte is `<`
abbrev pub is_mark : ℕ → Bool
is_mark byte = byte == 60

-- what `<` is replaced by
abbrev pub mark_escape : List ℕ
mark_escape = codes "\\u003c"

-- a byte that is `<`, or is not
byte-marked : (byte : ℕ) → is_mark byte ≡ true → escaped_byte byte ≡ mark_escape
byte-marked byte is = ap (λ (b : Bool). if b then mark_escape else byte ∷ []) is

byte-plain : (byte : ℕ) → is_mark byte ≡ false → escaped_byte byte ≡ byte ∷ []
byte-plain byte is = ap (λ (b : Bool). if b then mark_escape else byte ∷ []) is

pub escaped-append : (a b : List ℕ) → escaped (a ++ b) ≡ escaped a ++ escaped b
escaped-append a b = ap concat (map-append escaped_byte a b) ∙ concat-append (map escaped_byte a) (map escaped_byte b)

pub escaped-plain : (text : List ℕ) → ((k : ℕ) → k < length text → is_mark (get_or text k 0) ≡ false) → escaped text ≡ text
escaped-plain [] plain = refl
escaped-plain (x ∷ xs) plain =
    ap (λ (first : List ℕ). first ++ escaped xs) (byte-plain x (plain 0 (omega arith)))
    ∙ ap (λ (rest : List ℕ). x ∷ rest) (escaped-plain xs (λ k below. plain (suc k) (omega arith)))

-- where a text has no `<`
pub escaped-without : (text : List ℕ) → position_or_len is_mark text ≡ length text → escaped text ≡ text
escaped-without text none =
    escaped-plain text (λ k below. fails_before_first is_mark text k 0 (subst (λ n. k < n) (sym none) below))

-- what comes before the first `<` is as it was
pub escaped-before : (text : List ℕ) → position_or_len is_mark text < length text
    → escaped (before_first is_mark text) ≡ before_first is_mark text
escaped-before text there = escaped-plain (before_first is_mark text) (λ k below.
    let under : k < position_or_len is_mark text =
    subst (λ n. k < n) (length-take-le (position_or_len is_mark text) text (omega arith)) below in
    ap is_mark (get_or-take (position_or_len is_mark text) text k 0 under) ∙ fails_before_first is_mark text k 0 under)

-- a text around its first `<`
pub escaped-around : (text : List ℕ) → position_or_len is_mark text < length text
    → escaped text ≡ before_first is_mark text ++ (mark_escape ++ escaped (after_first is_mark text))
escaped-around text found =
    let byte = get_or text (position_or_len is_mark text) 0 in
    let rest = after_first is_mark text in
    ap escaped (split_at_first is_mark text 0 found)
    ∙ (escaped-append (before_first is_mark text) (byte ∷ rest)
    ∙ (ap (λ (first : List ℕ). first ++ escaped (byte ∷ rest)) (escaped-before text found)
    ∙ ap (λ (middle : List ℕ). before_first is_mark text ++ (middle ++ escaped rest))
    (byte-marked byte (passes_at_first is_mark text 0 found))))

-- ---- laws

no : (b : Bool) → (b ≡ true → ⊥) → b ≡ false
no true h = absurd (h refl)
no false h = refl

pub unmarked-stays : UnmarkedTextsStay
unmarked-stays [] plain = refl
unmarked-stays (x ∷ xs) plain =
    ap (λ (first : List ℕ). first ++ escaped xs)
    (byte-plain x (no (is_mark x) (λ is. All-head (λ byte. byte ≢ mark) x xs plain (eqb-true x 60 is))))
    ∙ ap (λ (rest : List ℕ). x ∷ rest) (unmarked-stays xs (All-tail (λ byte. byte ≢ mark) x xs plain))

-- what another byte is replaced by is no `<`
differs : (byte : ℕ) → is_mark byte ≡ false → byte ≢ mark
differs byte h = λ is. false≢true (sym h ∙ ap is_mark is)

-- a text of bytes that are none
abbrev IsPlain : ℕ → Type 0
IsPlain byte = byte ≢ mark

plain_text : (xs : List ℕ) → list_all (λ byte. not (is_mark byte)) xs ≡ true → All IsPlain xs
plain_text [] h = All-nil IsPlain
plain_text (x ∷ xs) h =
    let (first, others) = and_parts (not (is_mark x)) (list_all (λ byte. not (is_mark byte)) xs) h in
    All-cons IsPlain x xs (λ is. false≢true (sym (ap (λ byte. not (is_mark byte)) is) ∙ first)) (plain_text xs others)

piece-plain : (byte : ℕ) (b : Bool) → is_mark byte ≡ b → All IsPlain (if b then mark_escape else byte ∷ [])
piece-plain byte true is = plain_text mark_escape refl
piece-plain byte false is = All-cons IsPlain byte [] (differs byte is) (All-nil IsPlain)

pub escaped-unmarked : EscapedTextsHaveNoMark
escaped-unmarked [] = All-nil IsPlain
escaped-unmarked (byte ∷ text) =
    All-append IsPlain (escaped_byte byte) (escaped text) (piece-plain byte (is_mark byte) refl) (escaped-unmarked text)

-- ---- a turn of the loop, and its end

pub found : (rest : List ℕ) (r : Option (Bor (List ℕ) × Bor (List ℕ))) (x : Bor (List ℕ) × Bor (List ℕ)) → IsSplitOnceResult 60 rest r
    → r ≡ Some x → (position_or_len is_mark rest < length rest) × (x.0.now ≡ before_first is_mark rest) × (x.1.now ≡ after_first is_mark rest)
found rest r x cases is =
    subst (λ (r : Option (Bor (List ℕ) × Bor (List ℕ))). MatchOption r (position_or_len is_mark rest ≡ length rest)
    (λ x. (position_or_len is_mark rest < length rest) × (x.0.now ≡ before_first is_mark rest) × (x.1.now ≡ after_first is_mark rest)))
    is (split_once_first 60 rest r cases (omega arith))

pub none : (rest : List ℕ) (r : Option (Bor (List ℕ) × Bor (List ℕ))) → IsSplitOnceResult 60 rest r → r ≡ None
    → position_or_len is_mark rest ≡ length rest
none rest r cases is =
    subst (λ (r : Option (Bor (List ℕ) × Bor (List ℕ))). MatchOption r (position_or_len is_mark rest ≡ length rest)
    (λ x. (position_or_len is_mark rest < length rest) × (x.0.now ≡ before_first is_mark rest) × (x.1.now ≡ after_first is_mark rest)))
    is (split_once_first 60 rest r cases (omega arith))

pub one-more : (out out1 out2 before after rest whole : List ℕ) → out1 ≡ out ++ before → out2 ≡ out1 ++ mark_escape
    → position_or_len is_mark rest < length rest → before ≡ before_first is_mark rest → after ≡ after_first is_mark rest
    → out ++ escaped rest ≡ whole → out2 ++ escaped after ≡ whole
one-more out out1 out2 before after rest whole first second there before_is after_is invariant =
    ap (λ (o : List ℕ). o ++ escaped after) (second ∙ ap (λ (o : List ℕ). o ++ mark_escape) first)
    ∙ (append_assoc (out ++ before) mark_escape (escaped after)
    ∙ (append_assoc out before (mark_escape ++ escaped after)
    ∙ (ap (λ (s : List ℕ). out ++ s) (sym (escaped-around rest there
    ∙ ap₂ (λ (b a : List ℕ). b ++ (mark_escape ++ escaped a)) (sym before_is) (sym after_is)))
    ∙ invariant)))

pub at-end : (out rest whole : List ℕ) → position_or_len is_mark rest ≡ length rest → out ++ escaped rest ≡ whole → out ++ rest ≡ whole
at-end out rest whole lacks invariant = ap (λ (s : List ℕ). out ++ s) (sym (escaped-without rest lacks)) ∙ invariant

-- ---- the parts of a page, one after another

pub five-blocks : (s0 s1 s2 s3 s4 s5 b1 b2 b3 b4 b5 t1 t2 t3 t4 t5 : List ℕ) → s0 ≡ [] → s1 ≡ with_block s0 b1 t1
    → s2 ≡ with_block s1 b2 t2 → s3 ≡ with_block s2 b3 t3 → s4 ≡ with_block s3 b4 t4 → s5 ≡ with_block s4 b5 t5
    → s5 ≡ with_block (with_block (with_block (with_block (with_block [] b1 t1) b2 t2) b3 t3) b4 t4) b5 t5
five-blocks s0 s1 s2 s3 s4 s5 b1 b2 b3 b4 b5 t1 t2 t3 t4 t5 e0 e1 e2 e3 e4 e5 =
    e5 ∙ ap (λ (s : List ℕ). with_block s b5 t5)
    (e4 ∙ ap (λ (s : List ℕ). with_block s b4 t4)
    (e3 ∙ ap (λ (s : List ℕ). with_block s b3 t3)
    (e2 ∙ ap (λ (s : List ℕ). with_block s b2 t2)
    (e1 ∙ ap (λ (s : List ℕ). with_block s b1 t1) e0))))

pub last-part : {T E : Type 0} (r : Result T E) (new old after whole : List ℕ) → new ≡ (if is_ok r then old ++ after else old)
    → old ++ after ≡ whole → OnOk r (new ≡ whole)
last-part (Ok x) new old after whole is ends = is ∙ ends
last-part (Err e) new old after whole is ends = tt
