-- How bytes are cut at their line feeds.
use Rattle.stream_text.proofs.Common.{◌≡◌, ◌≢◌, ℕ, ◌+◌, ◌-◌, ◌<◌, ◌≤◌, ◌==◌, Bool, true, false, nat_lt, ltb-true, List, [], ◌∷◌, ◌++◌, length, take}
use Rattle.stream_text.proofs.Common.{drop, get_or, Option, Some, None, inl, inr, subst, refl, sym, ap, ◌∙◌, append-nil, append_assoc}
use Rattle.stream_text.proofs.Common.{take-append-drop, length-take, length-drop, arith, ◌⊎◌, Consumes, IsAtEnd, Keeps, prepend_known, take_rest}
use Rattle.stream_text.proofs.Common.{get_or-drop, get_or_default, nil_from_length, All-head, All-tail, All-append, take-add, line_feed}
use Rattle.stream_text.proofs.Common.{HasNoLineFeed, lines_of, TakesLine, Advances, BeginsTooLong, line_limit, TakesFirstLine, GrowsBy}
use Rattle.std.proofs.lemmas.Bool.Decides.{nat_tests}
use Rattle.events.proofs.Places.{parts_at}

-- ---- lines of bytes

other_byte : (byte : ℕ) → byte ≢ line_feed → (byte == line_feed) ≡ false
other_byte byte h = grind (arith, nat_tests)

-- a line before a line feed is the first one
lines_of_fed : (line rest : List ℕ) → HasNoLineFeed line → lines_of (line ++ line_feed ∷ rest) ≡ line ∷ lines_of rest
lines_of_fed [] rest h = refl
lines_of_fed (byte ∷ line) rest h =
    let other = other_byte byte (All-head (λ b. b ≢ line_feed) byte line h) in
    let more = lines_of_fed line rest (All-tail (λ b. b ≢ line_feed) byte line h) in
    rw (other, more) refl

-- bytes without a line feed are one line
lines_of_last : (byte : ℕ) (line : List ℕ) → HasNoLineFeed (byte ∷ line) → lines_of (byte ∷ line) ≡ (byte ∷ line) ∷ []
lines_of_last byte [] h = rw (other_byte byte (All-head (λ b. b ≢ line_feed) byte [] h)) refl
lines_of_last byte (next ∷ line) h =
    rw (other_byte byte (All-head (λ b. b ≢ line_feed) byte (next ∷ line) h))
    (rw (lines_of_last next line (All-tail (λ b. b ≢ line_feed) byte (next ∷ line) h)) refl)

lines_of_end : (line : List ℕ) → HasNoLineFeed line → 0 < length line → lines_of line ≡ line ∷ []
lines_of_end [] h some = absurd (omega arith)
lines_of_end (byte ∷ line) h some = lines_of_last byte line h

-- lines that are taken one after another are those of the bytes
pub takes_first : TakesFirstLine
takes_first bytes line rest h = by_end h.taken
  where
    by_end : Consumes (Some bytes) (Some rest)
        (line ++ line_feed ∷ []) ⊎ ((0 < length line) × Consumes (Some bytes) (Some rest) line × IsAtEnd (Some rest))
        → lines_of bytes ≡ line ∷ lines_of rest
    by_end (inl fed) = ap lines_of (fed ∙ append_assoc line (line_feed ∷ []) rest) ∙ lines_of_fed line rest h.whole
    by_end (inr last) =
        let all : bytes ≡ line = last.1 ∙ (ap (λ xs. line ++ xs) last.2 ∙ append-nil line) in
        ap lines_of all ∙ (lines_of_end line h.whole last.0 ∙ ap (λ (xs : List ℕ). line ∷ lines_of xs) (sym last.2))

-- ---- bytes at hand before those of a source

-- bytes to come that stayed begin as they did
Keeps-Consumes : (a b c : Option (List ℕ)) (bytes : List ℕ) → Keeps a b → Consumes b c bytes → Consumes a c bytes
Keeps-Consumes None b c bytes kept taken = tt
Keeps-Consumes (Some x) None c bytes kept taken = absurd kept
Keeps-Consumes (Some x) (Some y) None bytes kept taken = absurd taken
Keeps-Consumes (Some x) (Some y) (Some z) bytes kept taken = sym kept ∙ taken

Keeps-end : (a b : Option (List ℕ)) → Keeps a b → IsAtEnd b → IsAtEnd a
Keeps-end None b kept end = tt
Keeps-end (Some x) None kept end = absurd kept
Keeps-end (Some x) (Some y) kept end = sym kept ∙ end

-- the front of the bytes at hand is that of the bytes to come
Consumes-front : (known : Option (List ℕ)) (all front rest : List ℕ) → all ≡ front ++ rest
    → Consumes (prepend_known all known) (prepend_known rest known) front
Consumes-front None all front rest parts = tt
Consumes-front (Some x) all front rest parts = ap (λ xs. xs ++ x) parts ∙ append_assoc front rest x

-- at the end there are no others
IsAtEnd-prepend : (known : Option (List ℕ)) (bytes : List ℕ) → bytes ≡ [] → IsAtEnd known → IsAtEnd (prepend_known bytes known)
IsAtEnd-prepend None bytes none end = tt
IsAtEnd-prepend (Some x) bytes none end = ap (λ xs. xs ++ x) none ∙ end

-- bytes that a source gave come after those at hand
pub Keeps-grown : (old new : Option (List ℕ)) (before after : List ℕ) (count : ℕ) → GrowsBy old new before after count
    → Keeps (prepend_known before old) (prepend_known after new)
Keeps-grown None new before after count h = tt
Keeps-grown (Some x) None before after count h = absurd h.consumed
Keeps-grown (Some x) (Some y) before after count h =
    ap (λ xs. xs ++ y) h.grown ∙ (append_assoc before h.bytes y ∙ ap (λ xs. before ++ xs) (sym h.consumed))

-- ---- a line feed that was found

-- no line feed comes before the first of what was not yet looked at
pub whole_before : (bytes : List ℕ) (seen more : ℕ) → HasNoLineFeed (take seen bytes) → HasNoLineFeed (take more (drop seen bytes))
    → HasNoLineFeed (take (seen + more) bytes)
whole_before bytes seen more first next =
    subst HasNoLineFeed (sym (take-add seen more bytes))
    (All-append (λ b. b ≢ line_feed) (take seen bytes) (take more (drop seen bytes)) first next)

-- what was not yet looked at, up to the end, is the rest
abbrev rest_of : List ℕ → ℕ → List ℕ
rest_of bytes seen = take (length bytes - seen) (drop seen bytes)

-- no line feed is in all of the bytes, if the rest has none
pub whole_all : (bytes : List ℕ) (seen : ℕ) → HasNoLineFeed (take seen bytes) → HasNoLineFeed (rest_of bytes seen) → HasNoLineFeed bytes
whole_all bytes seen first next =
    subst HasNoLineFeed (take-append-drop seen bytes)
    (All-append (λ b. b ≢ line_feed) (take seen bytes) (drop seen bytes) first (subst HasNoLineFeed (take_rest bytes seen) next))

-- a line feed that was found in the rest
pub record IsFedAt (bytes : List ℕ) (seen more : ℕ) : Type 0 where
  pub within : more < length (rest_of bytes seen)
  pub here : get_or (rest_of bytes seen) more 0 ≡ line_feed
  pub whole : HasNoLineFeed (take (seen + more) bytes)

pub IsFedAt-found : (bytes : List ℕ) (seen more : ℕ) → HasNoLineFeed (take seen bytes) → more < length (rest_of bytes seen)
    → get_or (rest_of bytes seen) more 0 ≡ line_feed → HasNoLineFeed (take more (rest_of bytes seen)) → IsFedAt bytes seen more
IsFedAt-found bytes seen more first within here before = record {
  within = within;
  here = here;
  whole = whole_before bytes seen more first (subst (λ xs. HasNoLineFeed (take more xs)) (take_rest bytes seen) before);
}

fed_within : (bytes : List ℕ) (seen more : ℕ) → IsFedAt bytes seen more → seen + more < length bytes
fed_within bytes seen more h = omega (arith, h.within, ap (λ (xs : List ℕ). length xs) (take_rest bytes seen), length-drop seen bytes)

-- the bytes are a line, the line feed and others
fed_parts : (bytes : List ℕ) (seen more : ℕ) → IsFedAt bytes seen more
    → bytes ≡ take (seen + more) bytes ++ line_feed ∷ [] ++ drop (seen + more + 1) bytes
fed_parts bytes seen more h =
    let within = fed_within bytes seen more h in
    let found : get_or bytes (seen + more) 0 ≡ line_feed =
    sym (get_or-drop seen bytes more 0) ∙ (ap (λ xs. get_or xs more 0) (sym (take_rest bytes seen)) ∙ h.here) in
    let here : line_feed ≡ get_or bytes (seen + more) line_feed = sym found ∙ get_or_default bytes (seen + more) 0 line_feed within in
    parts_at bytes (seen + more) line_feed within here
    ∙ sym (append_assoc (take (seen + more) bytes) (line_feed ∷ []) (drop (seen + more + 1) bytes))

-- the line up to the line feed is taken
pub takes_fed : (old known : Option (List ℕ)) (bytes : List ℕ) (seen more : ℕ) → Keeps old (prepend_known bytes known)
    → IsFedAt bytes seen more
    → seen + more ≤ line_limit → TakesLine old (take (seen + more) bytes) (prepend_known (drop (seen + more + 1) bytes) known)
takes_fed old known bytes seen more kept fed short = record {
  whole = fed.whole;
  short = omega (arith, length-take (seen + more) bytes);
  taken =
      inl
      (Keeps-Consumes old (prepend_known bytes known) (prepend_known (drop (seen + more + 1) bytes) known)
      (take (seen + more) bytes ++ line_feed ∷ []) kept
      (Consumes-front known bytes (take (seen + more) bytes ++ line_feed ∷ []) (drop (seen + more + 1) bytes)
      (fed_parts bytes seen more fed)));
}

-- ---- more bytes than a line has

-- before a line feed
pub long_fed : (old known : Option (List ℕ)) (bytes : List ℕ) (seen more : ℕ) → Keeps old (prepend_known bytes known)
    → IsFedAt bytes seen more
    → line_limit < seen + more → BeginsTooLong old
long_fed old known bytes seen more kept fed long =
    let n = seen + more in
    let within : n < length bytes = fed_within bytes seen more fed in
    record {
      front = take n bytes;
      rest = prepend_known (drop n bytes) known;
      first =
          Keeps-Consumes old (prepend_known bytes known) (prepend_known (drop n bytes) known) (take n bytes) kept
          (Consumes-front known bytes (take n bytes) (drop n bytes) (sym (take-append-drop n bytes)));
      long = omega (arith, length-take n bytes);
      whole = fed.whole;
    }

-- with no line feed among them
pub long_unfed : (old known : Option (List ℕ)) (bytes : List ℕ) → Keeps old (prepend_known bytes known) → HasNoLineFeed bytes
    → line_limit < length bytes
    → BeginsTooLong old
long_unfed old known bytes kept whole long = record {
  front = bytes;
  rest = prepend_known [] known;
  first =
      Keeps-Consumes old (prepend_known bytes known) (prepend_known [] known) bytes kept
      (Consumes-front known bytes bytes [] (sym (append-nil bytes)));
  long = long;
  whole = whole;
}

-- ---- the last line

-- at the end the bytes at hand are the last line, or there is none
pub last_line : (old known : Option (List ℕ)) (bytes line rest : List ℕ) → line ≡ bytes → rest ≡ [] → HasNoLineFeed bytes
    → length bytes ≤ line_limit
    → Keeps old (prepend_known bytes known) → IsAtEnd known → Advances (nat_lt 0 (length bytes)) old line (prepend_known rest known)
last_line old known bytes line rest is none whole short kept end = by_size (nat_lt 0 (length bytes)) refl
  where
    all : bytes ≡ line ++ rest
    all = sym is ∙ (sym (append-nil line) ∙ ap (λ xs. line ++ xs) (sym none))

    by_size : (b : Bool) → nat_lt 0 (length bytes) ≡ b → Advances b old line (prepend_known rest known)
    by_size true some = record {
      whole = subst HasNoLineFeed (sym is) whole;
      short = rw is short;
      taken = inr (
        rw is (ltb-true 0 (length bytes) some),
        Keeps-Consumes old (prepend_known bytes known) (prepend_known rest known) line kept (Consumes-front known bytes line rest all),
        IsAtEnd-prepend known rest none end,
      );
    }
    by_size false empty =
        let size : length bytes ≡ 0 = grind (arith, nat_tests) in
        let nothing : bytes ≡ [] = nil_from_length bytes size in
        record {
          before = Keeps-end old (prepend_known bytes known) kept (IsAtEnd-prepend known bytes nothing end);
          after = IsAtEnd-prepend known rest none end;
          none = is ∙ nothing;
        }

-- a read that gave no bytes left them as they were
pub GrowsBy-none : (old new : Option (List ℕ)) (before after : List ℕ) (count : ℕ) → GrowsBy old new before after count → count ≡ 0
    → after ≡ before
GrowsBy-none old new before after count h zero_is =
    h.grown ∙ (ap (λ xs. before ++ xs) (nil_from_length h.bytes (h.counted ∙ zero_is)) ∙ append-nil before)
