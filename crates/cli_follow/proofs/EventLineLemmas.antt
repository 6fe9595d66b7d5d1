-- The line of an event is read as the event.
use Rattle.events.specs.declared.event.Reply.TheVariants as replies
use Rattle.cli_follow.proofs.Common.{◌≡◌, ℕ, ◌+◌, ◌*◌, ◌<◌, ◌≤◌, Bool, true, false, List, [], ◌∷◌, ◌++◌, length, map, codes, Option, Some, refl}
use Rattle.cli_follow.proofs.Common.{sym, ap, ◌∙◌, inl, arith, append-nil, IsUtf8, option_and_then, option_map, decimal, length-append, All-head}
use Rattle.cli_follow.proofs.Common.{All-tail, Data, array, items_of, compact_text, comma_if, items_text, outline, items_outline, Call, Reply}
use Rattle.cli_follow.proofs.Common.{Event, Invoke, Answer, TextVersion, pair_data, call_data, reply_data, event_data, line_limit, number_limit}
use Rattle.cli_follow.proofs.Common.{SpellsEvent, event_line, IsWord, CallHasWords, ReplyHasWords, HasWords, HasFewPairs, MayStand}
use Rattle.std.specs.Prelude.{All}
use Rattle.std.proofs.lemmas.Fmt.{length-decimal-le, IsAscii-decimal}
use Rattle.std.proofs.lemmas.Str.{IsUtf8-append, IsUtf8-from_ascii}
use Rattle.json.specs.Token.{Token}
use Rattle.json.specs.Lex.{tokens}
use Rattle.json.specs.Print.{quoted}
use Rattle.json.specs.Tree.{json_tokens, depth, items_depth, HasNumbers, ItemsHaveNumbers}
use Rattle.json.proofs.Printed.Decimals.{IsNumber-decimal}
use Rattle.json.proofs.Printed.Tokens.{tokens-print}
use Rattle.json.proofs.Printed.Trees.{value-json_tokens, ArePrintable-json_tokens}
use Rattle.json.proofs.Printed.Utf8.{are_ascii, IsUtf8-are_ascii}
use Rattle.serde_json.specs.Read.{read, of_json, of_items}
use Rattle.serde_json.proofs.Numbers.{number_of-decimal}
use Rattle.serde_json.proofs.OnLiterals.{serde_json_on_literals}
use Rattle.serde_json.proofs.Texts.{print-outline}
use Rattle.events.specs.declared.event.Call.TheVariants.{Get, Insert, Remove, Scan, Replace}
use Rattle.events.specs.Events.{process_of}
use Rattle.events.specs.Histories.{pair_count}
use Rattle.json.specs.Json as json

abbrev PairHasWords : ℕ × ℕ → Type 0
PairHasWords pair = IsWord pair.0 × IsWord pair.1

-- the number of a process is a word
word : (p : ℕ) → p < number_limit → IsWord p
word p h = omega (arith, h)

-- it is that of the event
process-below : (e : Event) → HasWords e → process_of e < number_limit
process-below (Invoke p call) h = h.0
process-below (Answer p reply) h = h.0

-- ---- what is printed of a value is read as the value

read_printed : (d : Data) → HasNumbers (outline d) → depth (outline d) ≤ 127 → of_json (outline d) ≡ Some d → read (compact_text d) ≡ Some d
read_printed d numbers shallow back =
    let j = outline d in
    let same : tokens (compact_text d) ≡ json_tokens j ++ [] =
    ap tokens (sym (print-outline d)) ∙ (tokens-print (json_tokens j) (ArePrintable-json_tokens j numbers) ∙ sym (append-nil (json_tokens j))) in
    ap (λ (ts : List Token). option_and_then of_json (option_and_then (λ p. json.if_last p.0 p.1) (json.value 127 ts))) same
    ∙ (ap (λ (r : Option (json.Json × List Token)). option_and_then of_json (option_and_then (λ p. json.if_last p.0 p.1) r))
    (value-json_tokens j 127 [] shallow) ∙ back)

back-call : (call : Call) → CallHasWords call → of_json (outline (call_data call)) ≡ Some (call_data call)
back-call (Get key) h = rw (number_of-decimal key h) refl
back-call (Insert key value) h = rw (number_of-decimal key h.0, number_of-decimal value h.1) refl
back-call (Remove key) h = rw (number_of-decimal key h) refl
back-call (Scan low high) h = rw (number_of-decimal low h.0, number_of-decimal high h.1) refl
back-call (Replace key old new) h = rw (number_of-decimal key h.0, number_of-decimal old h.1, number_of-decimal new h.2) refl

back-pairs : (pairs : List (ℕ × ℕ)) → All PairHasWords pairs
    → of_items (items_outline (items_of (map pair_data pairs))) ≡ Some (items_of (map pair_data pairs))
back-pairs [] h = refl
back-pairs (pair ∷ pairs) h =
    let first = All-head PairHasWords pair pairs h in
    rw (number_of-decimal pair.0 first.0, number_of-decimal pair.1 first.1, back-pairs pairs (All-tail PairHasWords pair pairs h)) refl

back-reply : (reply : Reply) → ReplyHasWords reply → of_json (outline (reply_data reply)) ≡ Some (reply_data reply)
back-reply replies.None h = refl
back-reply (replies.Some value) h = rw (number_of-decimal value h) refl
back-reply (replies.Pairs pairs) h = ap (option_map array) (back-pairs pairs h)
back-reply replies.Refused h = refl
back-reply replies.Done h = refl
back-reply replies.Found h = refl
back-reply replies.Other h = refl

back-event : (e : Event) → HasWords e → of_json (outline (event_data e)) ≡ Some (event_data e)
back-event (Invoke p call) h = rw (back-call call h.1, number_of-decimal p (word p h.0)) refl
back-event (Answer p reply) h = rw (back-reply reply h.1, number_of-decimal p (word p h.0)) refl

-- ---- its numbers are written as numbers

numbers-call : (call : Call) → CallHasWords call → HasNumbers (outline (call_data call))
numbers-call (Get key) h = (tt, (IsNumber-decimal key h, tt))
numbers-call (Insert key value) h = (tt, (IsNumber-decimal key h.0, (IsNumber-decimal value h.1, tt)))
numbers-call (Remove key) h = (tt, (IsNumber-decimal key h, tt))
numbers-call (Scan low high) h = (tt, (IsNumber-decimal low h.0, (IsNumber-decimal high h.1, tt)))
numbers-call (Replace key old new) h = (tt, (IsNumber-decimal key h.0, (IsNumber-decimal old h.1, (IsNumber-decimal new h.2, tt))))

numbers-pairs : (pairs : List (ℕ × ℕ)) → All PairHasWords pairs → ItemsHaveNumbers (items_outline (items_of (map pair_data pairs)))
numbers-pairs [] h = tt
numbers-pairs (pair ∷ pairs) h =
    let first = All-head PairHasWords pair pairs h in (
      (IsNumber-decimal pair.0 first.0, (IsNumber-decimal pair.1 first.1, tt)),
      numbers-pairs pairs (All-tail PairHasWords pair pairs h),
    )

numbers-reply : (reply : Reply) → ReplyHasWords reply → HasNumbers (outline (reply_data reply))
numbers-reply replies.None h = tt
numbers-reply (replies.Some value) h = IsNumber-decimal value h
numbers-reply (replies.Pairs pairs) h = numbers-pairs pairs h
numbers-reply replies.Refused h = tt
numbers-reply replies.Done h = tt
numbers-reply replies.Found h = tt
numbers-reply replies.Other h = tt

numbers-event : (e : Event) → HasWords e → HasNumbers (outline (event_data e))
numbers-event (Invoke p call) h = (numbers-call call h.1, (IsNumber-decimal p (word p h.0), tt))
numbers-event (Answer p reply) h = (numbers-reply reply h.1, (IsNumber-decimal p (word p h.0), tt))

-- ---- it nests three deep at most

depth-call : (call : Call) → depth (outline (call_data call)) ≤ 2
depth-call (Get key) = omega arith
depth-call (Insert key value) = omega arith
depth-call (Remove key) = omega arith
depth-call (Scan low high) = omega arith
depth-call (Replace key old new) = omega arith

depth-pairs : (pairs : List (ℕ × ℕ)) → items_depth (items_outline (items_of (map pair_data pairs))) ≤ 1
depth-pairs [] = omega arith
depth-pairs (pair ∷ pairs) = omega (arith, depth-pairs pairs)

depth-reply : (reply : Reply) → depth (outline (reply_data reply)) ≤ 2
depth-reply replies.None = omega arith
depth-reply (replies.Some value) = omega arith
depth-reply (replies.Pairs pairs) = omega (arith, depth-pairs pairs)
depth-reply replies.Refused = omega arith
depth-reply replies.Done = omega arith
depth-reply replies.Found = omega arith
depth-reply replies.Other = omega arith

depth-event : (e : Event) → depth (outline (event_data e)) ≤ 127
depth-event (Invoke p call) = omega (arith, depth-call call)
depth-event (Answer p reply) = omega (arith, depth-reply reply)

-- ---- it is UTF-8

then : (xs rest : List ℕ) → are_ascii xs ≡ true → IsUtf8 rest → IsUtf8 (xs ++ rest)
then xs rest plain u = IsUtf8-append xs rest (IsUtf8-are_ascii xs plain) u

then-number : (n : ℕ) (rest : List ℕ) → IsWord n → IsUtf8 rest → IsUtf8 (decimal n ++ rest)
then-number n rest h u = IsUtf8-append (decimal n) rest (IsUtf8-from_ascii (decimal n) (IsAscii-decimal n h)) u

then-comma : (later : Bool) (rest : List ℕ) → IsUtf8 rest → IsUtf8 (comma_if later ++ rest)
then-comma true rest u = then (44 ∷ []) rest refl u
then-comma false rest u = u

closed : IsUtf8 (93 ∷ [])
closed = IsUtf8-are_ascii (93 ∷ []) refl

utf8-call : (call : Call) → CallHasWords call → IsUtf8 (compact_text (call_data call))
unfolding serde_json_on_literals
utf8-call (Get key) h = then (91 ∷ quoted (codes "get") ++ 44 ∷ []) (decimal key ++ 93 ∷ []) refl (then-number key (93 ∷ []) h closed)
utf8-call (Insert key value) h =
    then (91 ∷ quoted (codes "insert") ++ 44 ∷ []) (decimal key ++ 44 ∷ (decimal value ++ 93 ∷ [])) refl
    (then-number key (44 ∷ (decimal value ++ 93 ∷ [])) h.0
    (then (44 ∷ []) (decimal value ++ 93 ∷ []) refl (then-number value (93 ∷ []) h.1 closed)))
utf8-call (Remove key) h = then (91 ∷ quoted (codes "remove") ++ 44 ∷ []) (decimal key ++ 93 ∷ []) refl (then-number key (93 ∷ []) h closed)
utf8-call (Scan low high) h =
    then (91 ∷ quoted (codes "scan") ++ 44 ∷ []) (decimal low ++ 44 ∷ (decimal high ++ 93 ∷ [])) refl
    (then-number low (44 ∷ (decimal high ++ 93 ∷ [])) h.0
    (then (44 ∷ []) (decimal high ++ 93 ∷ []) refl (then-number high (93 ∷ []) h.1 closed)))
utf8-call (Replace key old new) h =
    then (91 ∷ quoted (codes "replace") ++ 44 ∷ []) (decimal key ++ 44 ∷ (decimal old ++ 44 ∷ (decimal new ++ 93 ∷ []))) refl
    (then-number key (44 ∷ (decimal old ++ 44 ∷ (decimal new ++ 93 ∷ []))) h.0
    (then (44 ∷ []) (decimal old ++ 44 ∷ (decimal new ++ 93 ∷ [])) refl
    (then-number old (44 ∷ (decimal new ++ 93 ∷ [])) h.1 (then (44 ∷ []) (decimal new ++ 93 ∷ []) refl (then-number new (93 ∷ []) h.2 closed)))))

utf8-pair : (pair : ℕ × ℕ) → PairHasWords pair → IsUtf8 (compact_text (pair_data pair))
utf8-pair pair h =
    then (91 ∷ []) (decimal pair.0 ++ 44 ∷ (decimal pair.1 ++ 93 ∷ [])) refl
    (then-number pair.0 (44 ∷ (decimal pair.1 ++ 93 ∷ [])) h.0
    (then (44 ∷ []) (decimal pair.1 ++ 93 ∷ []) refl (then-number pair.1 (93 ∷ []) h.1 closed)))

utf8-pairs : (later : Bool) (pairs : List (ℕ × ℕ)) → All PairHasWords pairs → IsUtf8 (items_text later (items_of (map pair_data pairs)))
utf8-pairs later [] h = closed
utf8-pairs later (pair ∷ pairs) h =
    let rest = items_text true (items_of (map pair_data pairs)) in
    then-comma later (compact_text (pair_data pair) ++ rest)
    (IsUtf8-append (compact_text (pair_data pair)) rest (utf8-pair pair (All-head PairHasWords pair pairs h))
    (utf8-pairs true pairs (All-tail PairHasWords pair pairs h)))

utf8-reply : (reply : Reply) → ReplyHasWords reply → IsUtf8 (compact_text (reply_data reply))
unfolding serde_json_on_literals
utf8-reply replies.None h = IsUtf8-are_ascii (compact_text (reply_data replies.None)) refl
utf8-reply (replies.Some value) h = IsUtf8-from_ascii (decimal value) (IsAscii-decimal value h)
utf8-reply (replies.Pairs pairs) h =
    then (91 ∷ []) (items_text false (items_of (map pair_data pairs))) refl (utf8-pairs false pairs h)
utf8-reply replies.Refused h = IsUtf8-are_ascii (compact_text (reply_data replies.Refused)) refl
utf8-reply replies.Done h = IsUtf8-are_ascii (compact_text (reply_data replies.Done)) refl
utf8-reply replies.Found h = IsUtf8-are_ascii (compact_text (reply_data replies.Found)) refl
utf8-reply replies.Other h = IsUtf8-are_ascii (compact_text (reply_data replies.Other)) refl

-- the end of the line of an event: its process
abbrev process_end : ℕ → List ℕ
process_end p = 44 ∷ (quoted (codes "process") ++ 58 ∷ (decimal p ++ 125 ∷ []))

utf8-end : (p : ℕ) → IsWord p → IsUtf8 (process_end p)
unfolding serde_json_on_literals
utf8-end p h =
    then (44 ∷ quoted (codes "process") ++ 58 ∷ []) (decimal p ++ 125 ∷ []) refl
    (then-number p (125 ∷ []) h (IsUtf8-are_ascii (125 ∷ []) refl))

utf8-event : (e : Event) → HasWords e → IsUtf8 (event_line e)
unfolding serde_json_on_literals
utf8-event (Invoke p call) h =
    then (123 ∷ quoted (codes "invoke") ++ 58 ∷ []) (compact_text (call_data call) ++ process_end p) refl
    (IsUtf8-append (compact_text (call_data call)) (process_end p) (utf8-call call h.1) (utf8-end p (word p h.0)))
utf8-event (Answer p reply) h =
    then (123 ∷ quoted (codes "answer") ++ 58 ∷ []) (compact_text (reply_data reply) ++ process_end p) refl
    (IsUtf8-append (compact_text (reply_data reply)) (process_end p) (utf8-reply reply h.1) (utf8-end p (word p h.0)))

-- ---- it is short

digits : (n : ℕ) → IsWord n → length (decimal n) ≤ 20
digits n h = length-decimal-le 20 n (omega arith) (omega (arith, h)) h

size-call : (call : Call) → CallHasWords call → length (compact_text (call_data call)) ≤ 80
unfolding serde_json_on_literals
size-call (Get key) h = omega (arith, length-append (decimal key) (93 ∷ []), digits key h)
size-call (Remove key) h = omega (arith, length-append (decimal key) (93 ∷ []), digits key h)
size-call (Insert key value) h =
    omega (
      arith,
      length-append (decimal key) (44 ∷ (decimal value ++ 93 ∷ [])),
      length-append (decimal value) (93 ∷ []),
      digits key h.0,
      digits value h.1,
    )
size-call (Scan low high) h =
    omega (
      arith,
      length-append (decimal low) (44 ∷ (decimal high ++ 93 ∷ [])),
      length-append (decimal high) (93 ∷ []),
      digits low h.0,
      digits high h.1,
    )
size-call (Replace key old new) h =
    omega (
      arith,
      length-append (decimal key) (44 ∷ (decimal old ++ 44 ∷ (decimal new ++ 93 ∷ []))),
      length-append (decimal old) (44 ∷ (decimal new ++ 93 ∷ [])),
      length-append (decimal new) (93 ∷ []),
      digits key h.0,
      digits old h.1,
      digits new h.2,
    )

size-comma : (later : Bool) (xs : List ℕ) → length (comma_if later ++ xs) ≤ length xs + 1
size-comma true xs = omega arith
size-comma false xs = omega arith

size-pair : (pair : ℕ × ℕ) → PairHasWords pair → length (compact_text (pair_data pair)) ≤ 43
size-pair pair h =
    omega (
      arith,
      length-append (decimal pair.0) (44 ∷ (decimal pair.1 ++ 93 ∷ [])),
      length-append (decimal pair.1) (93 ∷ []),
      digits pair.0 h.0,
      digits pair.1 h.1,
    )

size-pairs : (later : Bool) (pairs : List (ℕ × ℕ)) → All PairHasWords pairs
    → length (items_text later (items_of (map pair_data pairs))) ≤ 44 * length pairs + 1
size-pairs later [] h = omega arith
size-pairs later (pair ∷ pairs) h =
    let text = compact_text (pair_data pair) in
    let rest = items_text true (items_of (map pair_data pairs)) in
    omega (
      arith,
      size-comma later (text ++ rest),
      length-append text rest,
      size-pair pair (All-head PairHasWords pair pairs h),
      size-pairs true pairs (All-tail PairHasWords pair pairs h),
    )

size-reply : (reply : Reply) → ReplyHasWords reply → length (compact_text (reply_data reply)) ≤ 44 * pair_count reply + 20
unfolding serde_json_on_literals
size-reply replies.None h = omega arith
size-reply (replies.Some value) h = omega (arith, digits value h)
size-reply (replies.Pairs pairs) h = omega (arith, size-pairs false pairs h)
size-reply replies.Refused h = omega arith
size-reply replies.Done h = omega arith
size-reply replies.Found h = omega arith
size-reply replies.Other h = omega arith

size-end : (p : ℕ) → IsWord p → length (process_end p) ≤ 40
unfolding serde_json_on_literals
size-end p h = omega (arith, length-append (decimal p) (125 ∷ []), digits p h)

size-event : (e : Event) → HasWords e → HasFewPairs e → length (event_line e) ≤ line_limit
unfolding serde_json_on_literals
size-event (Invoke p call) h few =
    omega (arith, length-append (compact_text (call_data call)) (process_end p), size-call call h.1, size-end p (word p h.0))
size-event (Answer p reply) h few =
    omega (arith, length-append (compact_text (reply_data reply)) (process_end p), size-reply reply h.1, size-end p (word p h.0), few)

-- ---- so it spells the event

pub spells : (version : TextVersion) (e : Event) → HasWords e → MayStand version e → SpellsEvent version (event_line e) e
spells version e words may =
    let short = size-event e words may.few in
    record {
      value = event_data e;
      is_line = record {
        short = short;
        json = record {
          fits = omega (arith, short);
          utf8 = utf8-event e words;
          value = read_printed (event_data e) (numbers-event e words) (depth-event e) (back-event e words);
        };
      };
      spelled = inl refl;
      stands = record { shaped = may.shaped; standing = may.standing; few = process-below e words };
    }
