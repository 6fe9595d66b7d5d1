-- What a text in the compact form is read as.
use Rattle.events.specs.declared.event.Event.TheVariants as events
use Rattle.events.specs.declared.event.Reply.TheVariants as replies
use Rattle.history_text.proofs.Common.{◌≡◌, ℕ, suc, ◌+◌, ◌-◌, ◌^◌, ◌<◌, ◌≤◌, max, Bool, true, false, ◌&&◌, nat_lt, ltb-true, List, [], ◌∷◌, ◌++◌}
use Rattle.history_text.proofs.Common.{length, map, codes, decimal, Some, None, length-append, option_map, option_and_then, refl, sym, ap, ap₂, ◌∙◌}
use Rattle.history_text.proofs.Common.{arith, subst, append_assoc, append-nil, IsTrue, list_all, IsAscii, and_parts, IsAscii-append}
use Rattle.history_text.proofs.Common.{IsUtf8-from_ascii, IsAscii-nil, IsAscii-cons, map-append, list_all-append, tokens, Data, null, boolean, number}
use Rattle.history_text.proofs.Common.{string, array, object, Items, no_items, item, Members, no_members, member, depth, items_depth, members_depth}
use Rattle.history_text.proofs.Common.{read, max_depth, of_json, of_items, items_of, outline, items_outline, members_outline, comma_if, compact_text}
use Rattle.history_text.proofs.Common.{items_text, Call, Get, Insert, Remove, Scan, Replace, Reply, Event, HistoryView, TextVersion, One, Two, Three}
use Rattle.history_text.proofs.Common.{text_limit, version_number, has_start, number_data, list_data, pair_data, call_data, reply_data, event_data}
use Rattle.history_text.proofs.Common.{may_stand, document, Spells, object_of_two, object_of_three, invocation_data, response_data, IsPlain, ArePlain}
use Rattle.history_text.proofs.Common.{IsCompact, BeginsWith, EndsAs, SpellsCompactly}
use Rattle.std.proofs.lemmas.Fmt.{IsAscii-decimal}
use Rattle.json.specs.Print.{escape_byte, quoted}
use Rattle.json.proofs.Printed.Decimals.{IsNumber-decimal}
use Rattle.json.proofs.Printed.Tokens.{tokens-print}
use Rattle.json.proofs.Printed.Trees.{value-json_tokens, ArePrintable-json_tokens}
use Rattle.serde_json.proofs.Numbers.{number_of-decimal}
use Rattle.serde_json.proofs.Texts.{print-outline}
use Rattle.history_text.proofs.WrittenLemmas.{depth-document}
use Rattle.history_text.proofs.SpelledLemmas.{values_spell}
use Rattle.history_text.proofs.SpaceTextLemmas.{ascii_white, same_value}
use Rattle.json.specs.Json as json
use Rattle.json.specs.Tree as tree

-- ---- plain values

pub plain_number : (n : ℕ) → n < 2 ^ 64 → IsPlain (number_data n)
plain_number n h = record {
  numbers = IsNumber-decimal n h;
  same = ap (option_map number) (number_of-decimal n h);
  ascii = IsAscii-decimal n h;
}

items_numbers : (ds : List Data) → ArePlain ds → tree.ItemsHaveNumbers (items_outline (items_of ds))
items_numbers [] h = tt
items_numbers (d ∷ ds) h = (h.0.numbers, items_numbers ds h.1)

items_same : (ds : List Data) → ArePlain ds → of_items (items_outline (items_of ds)) ≡ Some (items_of ds)
items_same [] h = refl
items_same (d ∷ ds) h = rw (h.0.same, items_same ds h.1) refl

ascii_comma : (later : Bool) (text : List ℕ) → IsAscii text → IsAscii (comma_if later ++ text)
ascii_comma true text h = IsAscii-cons 44 text (omega arith) h
ascii_comma false text h = h

items_ascii : (later : Bool) (ds : List Data) → ArePlain ds → IsAscii (items_text later (items_of ds))
items_ascii later [] h = IsAscii-cons 93 [] (omega arith) IsAscii-nil
items_ascii later (d ∷ ds) h =
    ascii_comma later (compact_text d ++ items_text true (items_of ds))
    (IsAscii-append (compact_text d) (items_text true (items_of ds)) h.0.ascii (items_ascii true ds h.1))

-- a list of plain values is plain
pub plain_list : (ds : List Data) → ArePlain ds → IsPlain (list_data ds)
plain_list ds h = record {
  numbers = items_numbers ds h;
  same = rw (items_same ds h) refl;
  ascii = IsAscii-cons 91 (items_text false (items_of ds)) (omega arith) (items_ascii false ds h);
}

pub ArePlain-push : (ds : List Data) (d : Data) → ArePlain ds → IsPlain d → ArePlain (ds ++ d ∷ [])
ArePlain-push [] d h k = (k, tt)
ArePlain-push (e ∷ ds) d h k = (h.0, ArePlain-push ds d h.1 k)

-- whether each byte of a literal is ASCII
abbrev is_ascii : List ℕ → Bool
is_ascii [] = true
is_ascii (b ∷ bs) = nat_lt b 128 && is_ascii bs

from_test : (bs : List ℕ) → is_ascii bs ≡ true → IsAscii bs
from_test [] h = IsAscii-nil
from_test (b ∷ bs) h =
    let both = and_parts (nat_lt b 128) (is_ascii bs) h in
    IsAscii-cons b bs (ltb-true b 128 both.0) (from_test bs both.1)

-- a string whose text is ASCII is plain
plain_string : (s : List ℕ) → is_ascii (quoted s) ≡ true → IsPlain (string s)
plain_string s h = record { numbers = tt; same = refl; ascii = from_test (quoted s) h }

-- an invocation or a response of plain values is plain
plain_invocation : (a b : Data) → IsPlain a → IsPlain b → IsPlain (invocation_data a b)
unfolding escape_byte
plain_invocation a b h k = record {
  numbers = (h.numbers, (k.numbers, tt));
  same = rw h.same (rw k.same refl);
  ascii =
      IsAscii-append (codes "{\"invoke\":") (compact_text a ++ (codes ",\"process\":" ++ (compact_text b ++ codes "}")))
      (from_test (codes "{\"invoke\":") refl)
      (IsAscii-append (compact_text a) (codes ",\"process\":" ++ (compact_text b ++ codes "}")) h.ascii
      (IsAscii-append (codes ",\"process\":") (compact_text b ++ codes "}")
      (from_test (codes ",\"process\":") refl)
      (IsAscii-append (compact_text b) (codes "}") k.ascii (from_test (codes "}") refl))));
}

plain_response : (a b : Data) → IsPlain a → IsPlain b → IsPlain (response_data a b)
unfolding escape_byte
plain_response a b h k = record {
  numbers = (h.numbers, (k.numbers, tt));
  same = rw h.same (rw k.same refl);
  ascii =
      IsAscii-append (codes "{\"answer\":") (compact_text a ++ (codes ",\"process\":" ++ (compact_text b ++ codes "}")))
      (from_test (codes "{\"answer\":") refl)
      (IsAscii-append (compact_text a) (codes ",\"process\":" ++ (compact_text b ++ codes "}")) h.ascii
      (IsAscii-append (codes ",\"process\":") (compact_text b ++ codes "}")
      (from_test (codes ",\"process\":") refl)
      (IsAscii-append (compact_text b) (codes "}") k.ascii (from_test (codes "}") refl))));
}

-- ---- a compact text is read as its value

mutual
  outline_depth : (d : Data) → tree.depth (outline d) ≡ depth d
  outline_depth null = refl
  outline_depth (boolean b) = refl
  outline_depth (number n) = refl
  outline_depth (string s) = refl
  outline_depth (array ds) = ap suc (items_outline_depth ds)
  outline_depth (object ms) = ap suc (members_outline_depth ms)

  items_outline_depth : (ds : Items) → tree.items_depth (items_outline ds) ≡ items_depth ds
  items_outline_depth no_items = refl
  items_outline_depth (item d ds) = ap₂ max (outline_depth d) (items_outline_depth ds)

  members_outline_depth : (ms : Members) → tree.members_depth (members_outline ms) ≡ members_depth ms
  members_outline_depth no_members = refl
  members_outline_depth (member k d ms) = ap₂ max (outline_depth d) (members_outline_depth ms)

pub read_compact : (d : Data) (text : List ℕ) → IsCompact d text → depth d ≤ max_depth → read text ≡ Some d
read_compact d text h shallow =
    let j = outline d in
    let same : tokens text ≡ tree.json_tokens j =
    ap tokens (h.whole ∙ sym (print-outline d)) ∙ tokens-print (tree.json_tokens j) (ArePrintable-json_tokens j h.plain.numbers) in
    ap (λ o. option_and_then of_json (option_and_then (λ p. json.if_last p.0 p.1) o))
    (ap (json.value max_depth) (same ∙ sym (append-nil (tree.json_tokens j)))
    ∙ value-json_tokens j max_depth [] (omega (arith, outline_depth d)))
    ∙ h.plain.same

-- numbers, each with the byte after it
one : (xs rest : List ℕ) → xs ++ 93 ∷ rest ≡ (xs ++ 93 ∷ []) ++ rest
one xs rest = sym (append_assoc xs (93 ∷ []) rest)

two : (xs ys rest : List ℕ) → xs ++ 44 ∷ (ys ++ 93 ∷ rest) ≡ (xs ++ 44 ∷ (ys ++ 93 ∷ [])) ++ rest
two xs ys rest = ap (λ l. xs ++ 44 ∷ l) (one ys rest) ∙ sym (append_assoc xs (44 ∷ (ys ++ 93 ∷ [])) rest)

three : (xs ys zs rest : List ℕ) → xs ++ 44 ∷ (ys ++ 44 ∷ (zs ++ 93 ∷ rest)) ≡ (xs ++ 44 ∷ (ys ++ 44 ∷ (zs ++ 93 ∷ []))) ++ rest
three xs ys zs rest = ap (λ l. xs ++ 44 ∷ l) (two ys zs rest) ∙ sym (append_assoc xs (44 ∷ (ys ++ 44 ∷ (zs ++ 93 ∷ []))) rest)

-- ---- calls

pub get_begins : (key : ℕ) (text t rest : List ℕ) → text ≡ codes "[\"get\"," ++ t → t ≡ decimal key ++ 93 ∷ rest → key < 2 ^ 64
    → BeginsWith (call_data (Get key)) text rest
unfolding escape_byte
get_begins key text t rest e f k = record {
  parts = e ∙ ap (λ l. codes "[\"get\"," ++ l) (f ∙ one (decimal key) rest);
  plain = plain_list (string (codes "get") ∷ number_data key ∷ []) (plain_string (codes "get") refl, (plain_number key k, tt));
}

pub remove_begins : (key : ℕ) (text t rest : List ℕ) → text ≡ codes "[\"remove\"," ++ t → t ≡ decimal key ++ 93 ∷ rest → key < 2 ^ 64
    → BeginsWith (call_data (Remove key)) text rest
unfolding escape_byte
remove_begins key text t rest e f k = record {
  parts = e ∙ ap (λ l. codes "[\"remove\"," ++ l) (f ∙ one (decimal key) rest);
  plain = plain_list (string (codes "remove") ∷ number_data key ∷ []) (plain_string (codes "remove") refl, (plain_number key k, tt));
}

pub insert_begins : (key value : ℕ) (text t u rest : List ℕ) → text ≡ codes "[\"insert\"," ++ t → t ≡ decimal key ++ 44 ∷ u
    → u ≡ decimal value ++ 93 ∷ rest → key < 2 ^ 64 → value < 2 ^ 64 → BeginsWith (call_data (Insert key value)) text rest
unfolding escape_byte
insert_begins key value text t u rest e f g k l = record {
  parts = e ∙ ap (λ l. codes "[\"insert\"," ++ l) (f ∙ ap (λ l. decimal key ++ 44 ∷ l) g ∙ two (decimal key) (decimal value) rest);
  plain = plain_list (string (codes "insert") ∷ number_data key ∷ number_data value ∷ [])
      (plain_string (codes "insert") refl, (plain_number key k, (plain_number value l, tt)));
}

pub scan_begins : (low high : ℕ) (text t u rest : List ℕ) → text ≡ codes "[\"scan\"," ++ t → t ≡ decimal low ++ 44 ∷ u
    → u ≡ decimal high ++ 93 ∷ rest → low < 2 ^ 64 → high < 2 ^ 64 → BeginsWith (call_data (Scan low high)) text rest
unfolding escape_byte
scan_begins low high text t u rest e f g k l = record {
  parts = e ∙ ap (λ l. codes "[\"scan\"," ++ l) (f ∙ ap (λ l. decimal low ++ 44 ∷ l) g ∙ two (decimal low) (decimal high) rest);
  plain = plain_list (string (codes "scan") ∷ number_data low ∷ number_data high ∷ [])
      (plain_string (codes "scan") refl, (plain_number low k, (plain_number high l, tt)));
}

pub replace_begins : (key old new : ℕ) (text t u v rest : List ℕ) → text ≡ codes "[\"replace\"," ++ t → t ≡ decimal key ++ 44 ∷ u
    → u ≡ decimal old ++ 44 ∷ v → v ≡ decimal new ++ 93 ∷ rest → key < 2 ^ 64 → old < 2 ^ 64 → new < 2 ^ 64
    → BeginsWith (call_data (Replace key old new)) text rest
unfolding escape_byte
replace_begins key old new text t u v rest e f g h k l m = record {
  parts =
      e
      ∙ ap (λ l. codes "[\"replace\"," ++ l)
      (f ∙ ap (λ l. decimal key ++ 44 ∷ l) (g ∙ ap (λ l. decimal old ++ 44 ∷ l) h)
      ∙ three (decimal key) (decimal old) (decimal new) rest);
  plain =
      plain_list (string (codes "replace") ∷ number_data key ∷ number_data old ∷ number_data new ∷ [])
      (plain_string (codes "replace") refl, (plain_number key k, (plain_number old l, (plain_number new m, tt))));
}

-- ---- replies

pub value_begins : (value : ℕ) (text rest : List ℕ) → text ≡ decimal value ++ rest → value < 2 ^ 64
    → BeginsWith (reply_data (replies.Some value)) text rest
value_begins value text rest e k = record { parts = e; plain = plain_number value k }

pub null_begins : (text rest : List ℕ) → text ≡ codes "null" ++ rest → BeginsWith (reply_data replies.None) text rest
null_begins text rest e = record { parts = e; plain = record { numbers = tt; same = refl; ascii = from_test (codes "null") refl } }

pub done_begins : (text rest : List ℕ) → text ≡ codes "\"done\"" ++ rest → BeginsWith (reply_data replies.Done) text rest
unfolding escape_byte
done_begins text rest e = record { parts = e; plain = plain_string (codes "done") refl }

pub found_begins : (text rest : List ℕ) → text ≡ codes "\"found\"" ++ rest → BeginsWith (reply_data replies.Found) text rest
unfolding escape_byte
found_begins text rest e = record { parts = e; plain = plain_string (codes "found") refl }

pub other_begins : (text rest : List ℕ) → text ≡ codes "\"other\"" ++ rest → BeginsWith (reply_data replies.Other) text rest
unfolding escape_byte
other_begins text rest e = record { parts = e; plain = plain_string (codes "other") refl }

pub refused_begins : (text rest : List ℕ) → text ≡ codes "\"refused\"" ++ rest → BeginsWith (reply_data replies.Refused) text rest
unfolding escape_byte
refused_begins text rest e = record { parts = e; plain = plain_string (codes "refused") refl }

-- ---- pairs

pub pair_begins : (key value : ℕ) (text t u rest : List ℕ) → text ≡ codes "[" ++ t → t ≡ decimal key ++ 44 ∷ u
    → u ≡ decimal value ++ 93 ∷ rest → key < 2 ^ 64 → value < 2 ^ 64 → BeginsWith (pair_data (key, value)) text rest
pair_begins key value text t u rest e f g k l = record {
  parts = e ∙ ap (λ l. 91 ∷ l) (f ∙ ap (λ l. decimal key ++ 44 ∷ l) g ∙ two (decimal key) (decimal value) rest);
  plain = plain_list (number_data key ∷ number_data value ∷ []) (plain_number key k, (plain_number value l, tt));
}

-- the texts of values, each with the comma after it
abbrev pub values_before : List Data → List ℕ
values_before [] = []
values_before (d ∷ ds) = compact_text d ++ 44 ∷ values_before ds

before_push : (ds : List Data) (d : Data) → values_before (ds ++ d ∷ []) ≡ values_before ds ++ (compact_text d ++ 44 ∷ [])
before_push [] d = refl
before_push (e ∷ ds) d =
    ap (λ l. compact_text e ++ 44 ∷ l) (before_push ds d)
    ∙ sym (append_assoc (compact_text e) (44 ∷ values_before ds) (compact_text d ++ 44 ∷ []))

before_close : (later : Bool) (ds : List Data) (d : Data)
    → items_text later (items_of (ds ++ d ∷ [])) ≡ comma_if later ++ (values_before ds ++ (compact_text d ++ 93 ∷ []))
before_close later [] d = refl
before_close later (e ∷ ds) d =
    ap (λ l. comma_if later ++ (compact_text e ++ l)) (before_close true ds d)
    ∙ ap (λ l. comma_if later ++ l) (sym (append_assoc (compact_text e) (44 ∷ values_before ds) (compact_text d ++ 93 ∷ [])))

module _ {A : Type 0} (f : A → Data) where
  -- one value more before a comma
  pub values_go_on : (xs : List A) (x : A) (text rest next more : List ℕ) → text ≡ values_before (map f xs) ++ rest
      → BeginsWith (f x) rest next → next ≡ 44 ∷ more → text ≡ values_before (map f (xs ++ x ∷ [])) ++ more
  values_go_on xs x text rest next more e b k =
      let p = compact_text (f x) in
      e ∙ ap (λ l. values_before (map f xs) ++ l) (b.parts ∙ ap (λ l. p ++ l) k ∙ sym (append_assoc p (44 ∷ []) more))
      ∙ sym (append_assoc (values_before (map f xs)) (p ++ 44 ∷ []) more)
      ∙ ap (λ l. l ++ more) (sym (before_push (map f xs) (f x)) ∙ ap values_before (sym (map-append f xs (x ∷ []))))

  -- the last value
  pub values_close : (xs : List A) (x : A) (text rest next more : List ℕ) → text ≡ values_before (map f xs) ++ rest
      → BeginsWith (f x) rest next → next ≡ 93 ∷ more → text ≡ items_text false (items_of (map f (xs ++ x ∷ []))) ++ more
  values_close xs x text rest next more e b k =
      let p = compact_text (f x) in
      e ∙ ap (λ l. values_before (map f xs) ++ l) (b.parts ∙ ap (λ l. p ++ l) k ∙ sym (append_assoc p (93 ∷ []) more))
      ∙ sym (append_assoc (values_before (map f xs)) (p ++ 93 ∷ []) more)
      ∙ ap (λ l. l ++ more)
      (sym (before_close false (map f xs) (f x)) ∙ ap (λ ds. items_text false (items_of ds)) (sym (map-append f xs (x ∷ []))))

  pub values_plain : (xs : List A) (x : A) → ArePlain (map f xs) → IsPlain (f x) → ArePlain (map f (xs ++ x ∷ []))
  values_plain xs x h k = subst ArePlain (sym (map-append f xs (x ∷ []))) (ArePlain-push (map f xs) (f x) h k)

  -- an array of values
  pub values_begin : (xs : List A) (text t rest : List ℕ) → text ≡ codes "[" ++ t → t ≡ items_text false (items_of (map f xs)) ++ rest
      → ArePlain (map f xs) → BeginsWith (list_data (map f xs)) text rest
  values_begin xs text t rest e k h = record { parts = e ∙ ap (λ l. 91 ∷ l) k; plain = plain_list (map f xs) h }

  -- an empty array
  pub no_values_begin : (xs : List A) (text rest : List ℕ) → text ≡ codes "[]" ++ rest → xs ≡ [] → BeginsWith (list_data (map f xs)) text rest
  no_values_begin xs text rest e none = rw none (record { parts = e; plain = plain_list [] tt })

-- what is left after a value and a comma is shorter
pub left_shorter : (d : Data) (text next more : List ℕ) → BeginsWith d text next → next ≡ codes "," ++ more → length more < length text
left_shorter d text next more b e =
    omega (arith, ap (λ (xs : List ℕ). length xs) b.parts, length-append (compact_text d) next, ap (λ (xs : List ℕ). length xs) e)

-- ---- events

brace : (xs rest : List ℕ) → xs ++ 125 ∷ rest ≡ (xs ++ 125 ∷ []) ++ rest
brace xs rest = sym (append_assoc xs (125 ∷ []) rest)

-- a text after the text of a value
then : (xs ys text rest more : List ℕ) → text ≡ xs ++ rest → rest ≡ ys ++ more → text ≡ (xs ++ ys) ++ more
then xs ys text rest more e f = e ∙ ap (λ l. xs ++ l) f ∙ sym (append_assoc xs ys more)

pub invocation_begins : (p : ℕ) (call : Call) (text t u rest : List ℕ) → text ≡ codes "{\"invoke\":" ++ t → BeginsWith (call_data call) t u
    → u ≡ codes ",\"process\":" ++ (decimal p ++ (codes "}" ++ rest)) → p < 2 ^ 64 → BeginsWith (event_data (events.Invoke p call)) text rest
unfolding escape_byte
invocation_begins p call text t u rest e b f fits = record {
  parts =
      e
      ∙ ap (λ l. codes "{\"invoke\":" ++ l)
      (then (compact_text (call_data call)) (codes ",\"process\":" ++ (decimal p ++ codes "}")) t u rest b.parts
      (f ∙ ap (λ l. codes ",\"process\":" ++ l) (brace (decimal p) rest)));
  plain = plain_invocation (call_data call) (number_data p) b.plain (plain_number p fits);
}

pub response_begins : (p : ℕ) (reply : Reply) (text t u rest : List ℕ) → text ≡ codes "{\"answer\":" ++ t → BeginsWith (reply_data reply) t u
    → u ≡ codes ",\"process\":" ++ (decimal p ++ (codes "}" ++ rest)) → p < 2 ^ 64 → BeginsWith (event_data (events.Answer p reply)) text rest
unfolding escape_byte
response_begins p reply text t u rest e b f fits = record {
  parts =
      e
      ∙ ap (λ l. codes "{\"answer\":" ++ l)
      (then (compact_text (reply_data reply)) (codes ",\"process\":" ++ (decimal p ++ codes "}")) t u rest b.parts
      (f ∙ ap (λ l. codes ",\"process\":" ++ l) (brace (decimal p) rest)));
  plain = plain_response (reply_data reply) (number_data p) b.plain (plain_number p fits);
}

-- events that may be in a text of a version, with one more
pub stands_more : (version : TextVersion) (before : List Event) (e : Event) → IsTrue (list_all (may_stand version) before)
    → IsTrue (may_stand version e) → IsTrue (list_all (may_stand version) (before ++ e ∷ []))
stands_more version before e h k = list_all-append (may_stand version) before (e ∷ []) ∙ rw (h, k) refl

-- ---- whole texts

small_number : (version : TextVersion) → version_number version < 2 ^ 64
small_number One = omega arith
small_number Two = omega arith
small_number Three = omega arith

-- a document of plain values is plain
plain_alone : (a n : Data) → IsPlain a → IsPlain n → IsPlain (object_of_two (codes "events") a (codes "version") n)
unfolding escape_byte
plain_alone a n h k = record {
  numbers = (h.numbers, (k.numbers, tt));
  same = rw h.same (rw k.same refl);
  ascii =
      IsAscii-append (codes "{\"events\":") (compact_text a ++ (codes ",\"version\":" ++ (compact_text n ++ codes "}")))
      (from_test (codes "{\"events\":") refl)
      (IsAscii-append (compact_text a) (codes ",\"version\":" ++ (compact_text n ++ codes "}")) h.ascii
      (IsAscii-append (codes ",\"version\":") (compact_text n ++ codes "}")
      (from_test (codes ",\"version\":") refl)
      (IsAscii-append (compact_text n) (codes "}") k.ascii (from_test (codes "}") refl))));
}

plain_with_start : (a b n : Data) → IsPlain a → IsPlain b → IsPlain n
    → IsPlain (object_of_three (codes "events") a (codes "start") b (codes "version") n)
unfolding escape_byte
plain_with_start a b n h g k =
    let tail = codes ",\"version\":" ++ (compact_text n ++ codes "}") in
    record {
      numbers = (h.numbers, (g.numbers, (k.numbers, tt)));
      same = rw h.same (rw g.same (rw k.same refl));
      ascii =
          IsAscii-append (codes "{\"events\":") (compact_text a ++ (codes ",\"start\":" ++ (compact_text b ++ tail)))
          (from_test (codes "{\"events\":") refl)
          (IsAscii-append (compact_text a) (codes ",\"start\":" ++ (compact_text b ++ tail)) h.ascii
          (IsAscii-append (codes ",\"start\":") (compact_text b ++ tail)
          (from_test (codes ",\"start\":") refl)
          (IsAscii-append (compact_text b) tail g.ascii
          (IsAscii-append (codes ",\"version\":") (compact_text n ++ codes "}")
          (from_test (codes ",\"version\":") refl)
          (IsAscii-append (compact_text n) (codes "}") k.ascii (from_test (codes "}") refl))))));
    }

plain_version : (version : TextVersion) → IsPlain (number_data (version_number version))
plain_version version = plain_number (version_number version) (small_number version)

-- the end of a document
end_parts : (version : TextVersion) (text : List ℕ) (end : EndsAs version text)
    → text ≡ (codes ",\"version\":" ++ (decimal (version_number version) ++ codes "}")) ++ end.behind
end_parts version text end =
    end.parts ∙ ap (λ l. codes ",\"version\":" ++ l) (brace (decimal (version_number version)) end.behind)

-- a text without a start
pub spelled_alone : (version : TextVersion) (history : HistoryView) (text t u : List ℕ) → has_start version ≡ false → history.start ≡ []
    → text ≡ codes "{\"events\":" ++ t → BeginsWith (list_data (map event_data history.events)) t u → EndsAs version u
    → IsTrue (list_all (may_stand version) history.events) → SpellsCompactly text history
unfolding escape_byte
spelled_alone version history text t u alone none e b end standing = record {
  value = document version None (map event_data history.events);
  behind = end.behind;
  whole = record {
    parts =
        e
        ∙ ap (λ l. codes "{\"events\":" ++ l)
        (then (compact_text (list_data (map event_data history.events)))
        (codes ",\"version\":" ++ (decimal (version_number version) ++ codes "}")) t u end.behind b.parts (end_parts version u end));
    plain = plain_alone (list_data (map event_data history.events)) (number_data (version_number version)) b.plain (plain_version version);
  };
  white = end.white;
  shallow = omega (arith, depth-document version None history.events);
  spelled = record {
    version = version;
    start = None;
    items = map event_data history.events;
    value = (sym alone, refl);
    starts = none;
    spelled = values_spell version history.events;
    standing = standing;
  };
}

-- a text with a start
pub spelled_with_start : (version : TextVersion) (history : HistoryView) (text t u v w : List ℕ) → has_start version ≡ true
    → text ≡ codes "{\"events\":" ++ t → BeginsWith (list_data (map event_data history.events)) t u → u ≡ codes ",\"start\":" ++ v
    → BeginsWith (list_data (map pair_data history.start)) v w → EndsAs version w → IsTrue (list_all (may_stand version) history.events)
    → SpellsCompactly text history
unfolding escape_byte
spelled_with_start version history text t u v w starts e b f s end standing =
    let tail = codes ",\"version\":" ++ (decimal (version_number version) ++ codes "}") in
    let pairs = compact_text (list_data (map pair_data history.start)) in
    record {
      value = document version (Some (map pair_data history.start)) (map event_data history.events);
      behind = end.behind;
      whole = record {
        parts =
            e
            ∙ ap (λ l. codes "{\"events\":" ++ l)
            (then (compact_text (list_data (map event_data history.events))) (codes ",\"start\":" ++ (pairs ++ tail)) t u end.behind b.parts
            (f ∙ ap (λ l. codes ",\"start\":" ++ l) (then pairs tail v w end.behind s.parts (end_parts version w end))));
        plain =
            plain_with_start (list_data (map event_data history.events)) (list_data (map pair_data history.start))
            (number_data (version_number version)) b.plain s.plain (plain_version version);
      };
      white = end.white;
      shallow = omega (arith, depth-document version (Some history.start) history.events);
      spelled = record {
        version = version;
        start = Some history.start;
        items = map event_data history.events;
        value = (sym starts, refl);
        starts = refl;
        spelled = values_spell version history.events;
        standing = standing;
      };
    }

-- a text that spells a history compactly spells it
pub spells_text : (text : List ℕ) (history : HistoryView) → length text ≤ text_limit → SpellsCompactly text history → Spells text history
spells_text text history fits h =
    let c = compact_text h.value in
    record {
      value = h.value;
      json = record {
        fits = fits;
        utf8 =
            IsUtf8-from_ascii text
            (subst IsAscii (sym h.whole.parts) (IsAscii-append c h.behind h.whole.plain.ascii (ascii_white h.behind h.white)));
        value =
            ap read h.whole.parts ∙ same_value [] c h.behind tt h.white
            ∙ read_compact h.value c (record { whole = refl; plain = h.whole.plain }) h.shallow;
      };
      spelled = h.spelled;
    }
