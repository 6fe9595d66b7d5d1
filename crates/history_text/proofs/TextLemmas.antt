-- A value spells one event at most, with a note or without.
use Rattle.events.specs.declared.event.Reply.TheVariants as replies
use Rattle.history_text.proofs.Common.{◌≡◌, ℕ, List, [], ◌∷◌, map, codes, get_or, inl, inr, refl, sym, ap, ◌∙◌, arith, Data, string, Call, Get}
use Rattle.history_text.proofs.Common.{Insert, Remove, Scan, Replace, Reply, Event, Invoke, Answer, TextVersion, number_data, pair_data, call_data}
use Rattle.history_text.proofs.Common.{reply_data, event_data, noted_data, IsEventData, invocation_data, response_data, IsTurnData}
use Rattle.history_text.proofs.DataLemmas.{list_data_injective, first_names}

-- a value spells one call only
pub call_data_injective : (a b : Call) → call_data a ≡ call_data b → a ≡ b
call_data_injective (Get key) (Get key2) h = cc
call_data_injective (Get key) (Insert key2 value2) h = cc
call_data_injective (Get key) (Remove key2) h = cc
call_data_injective (Get key) (Scan low2 high2) h = cc
call_data_injective (Get key) (Replace key2 old2 new2) h = cc
call_data_injective (Insert key value) (Get key2) h = cc
call_data_injective (Insert key value) (Insert key2 value2) h = cc
call_data_injective (Insert key value) (Remove key2) h = cc
call_data_injective (Insert key value) (Scan low2 high2) h = cc
call_data_injective (Insert key value) (Replace key2 old2 new2) h = cc
call_data_injective (Remove key) (Get key2) h = cc
call_data_injective (Remove key) (Insert key2 value2) h = cc
call_data_injective (Remove key) (Remove key2) h = cc
call_data_injective (Remove key) (Scan low2 high2) h = cc
call_data_injective (Remove key) (Replace key2 old2 new2) h = cc
call_data_injective (Scan low high) (Get key2) h = cc
call_data_injective (Scan low high) (Insert key2 value2) h = cc
call_data_injective (Scan low high) (Remove key2) h = cc
call_data_injective (Scan low high) (Scan low2 high2) h = cc
call_data_injective (Scan low high) (Replace key2 old2 new2) h = cc
call_data_injective (Replace key old new) (Get key2) h = cc
call_data_injective (Replace key old new) (Insert key2 value2) h = cc
call_data_injective (Replace key old new) (Remove key2) h = cc
call_data_injective (Replace key old new) (Scan low2 high2) h = cc
call_data_injective (Replace key old new) (Replace key2 old2 new2) h = cc

-- a list is determined by its images under a function that keeps elements apart
pub map_injective : {A B : Type 0} (f : A → B) → ((x y : A) → f x ≡ f y → x ≡ y) → (xs ys : List A) → map f xs ≡ map f ys → xs ≡ ys
map_injective f apart [] [] h = refl
map_injective f apart [] (y ∷ ys) h = cc
map_injective f apart (x ∷ xs) [] h = cc
map_injective f apart (x ∷ xs) (y ∷ ys) h =
    let first : x ≡ y = apart x y (cc) in
    let rest : xs ≡ ys = map_injective f apart xs ys (cc) in
    cc

-- a value spells one pair only
pub pair_data_injective : (a b : ℕ × ℕ) → pair_data a ≡ pair_data b → a ≡ b
pair_data_injective (k, v) (l, w) h = cc

-- a string has one list of characters
characters : (k l : List ℕ) → string k ≡ string l → k ≡ l
characters k l h = cc

found_is_no_other : string (codes "found") ≡ string (codes "other") → ⊥
found_is_no_other h =
    let first : 102 ≡ 111 = ap (λ name. get_or name 0 0) (characters (codes "found") (codes "other") h) in omega (arith, first)

-- a value spells one reply only
reply_data_injective : (a b : Reply) → reply_data a ≡ reply_data b → a ≡ b
reply_data_injective replies.None replies.None h = refl
reply_data_injective replies.Refused replies.Refused h = refl
reply_data_injective replies.Done replies.Done h = refl
reply_data_injective replies.Found replies.Found h = refl
reply_data_injective replies.Other replies.Other h = refl
reply_data_injective (replies.Pairs pairs) (replies.Pairs pairs2) h =
    ap replies.Pairs (map_injective pair_data pair_data_injective pairs pairs2 (list_data_injective (map pair_data pairs)
    (map pair_data pairs2) h))
reply_data_injective (replies.Some value) (replies.Some value2) h = cc
reply_data_injective replies.Found replies.Other h = absurd (found_is_no_other h)
reply_data_injective replies.Other replies.Found h = absurd (found_is_no_other (sym h))
reply_data_injective a b h = cc

-- the member of an invocation has another name than that of a response
names_differ : codes "invoke" ≡ codes "answer" → ⊥
names_differ h = let first : 105 ≡ 97 = ap (λ name. get_or name 0 0) h in omega (arith, first)

-- no value spells an invocation and a response
kinds_differ : (a b d e : Data) → invocation_data a b ≡ response_data d e → ⊥
kinds_differ a b d e h = names_differ (first_names (codes "invoke") (codes "process") (codes "answer") (codes "process") a b d e h)

-- a value spells one event only
pub event_data_injective : (a b : Event) → event_data a ≡ event_data b → a ≡ b
event_data_injective (Invoke p call) (Invoke q call2) h =
    let same : call ≡ call2 = call_data_injective call call2 (cc) in
    cc
event_data_injective (Invoke p call) (Answer q reply2) h =
    absurd (kinds_differ (call_data call) (number_data p) (reply_data reply2) (number_data q) h)
event_data_injective (Answer p reply) (Invoke q call2) h =
    absurd (kinds_differ (call_data call2) (number_data q) (reply_data reply) (number_data p) (sym h))
event_data_injective (Answer p reply) (Answer q reply2) h =
    let same : reply ≡ reply2 = reply_data_injective reply reply2 (cc) in
    cc

-- no value spells an event alone and one with a note
note_tells : (note : Data) (a b : Event) → event_data a ≡ noted_data note b → ⊥
note_tells note (Invoke p call) (Invoke q call2) h = cc
note_tells note (Invoke p call) (Answer q reply2) h = cc
note_tells note (Answer p reply) (Invoke q call2) h = cc
note_tells note (Answer p reply) (Answer q reply2) h = cc

-- the values are those of the events alone, where both have notes
without_notes : (note other : Data) (a b : Event) → noted_data note a ≡ noted_data other b → event_data a ≡ event_data b
without_notes note other (Invoke p call) (Invoke q call2) h = cc
without_notes note other (Invoke p call) (Answer q reply2) h = cc
without_notes note other (Answer p reply) (Invoke q call2) h = cc
without_notes note other (Answer p reply) (Answer q reply2) h = cc

-- a value spells one event only in a text of a version, with a note or without
pub one_event : (version : TextVersion) (d : Data) (a b : Event) → IsEventData version d a → IsEventData version d b → a ≡ b
one_event version d a b (inl h) (inl k) = event_data_injective a b (sym h ∙ k)
one_event version d a b (inl h) (inr k) = absurd (note_tells k.1 a b (sym h ∙ k.2))
one_event version d a b (inr h) (inl k) = absurd (note_tells h.1 b a (sym k ∙ h.2))
one_event version d a b (inr h) (inr k) = event_data_injective a b (without_notes h.1 k.1 a b (sym h.2 ∙ k.2))

-- values spell one list of pairs only
pub pairs_injective : (a b : List (ℕ × ℕ)) → map pair_data a ≡ map pair_data b → a ≡ b
pairs_injective a b h = map_injective pair_data pair_data_injective a b h

-- a value without the members of an invocation and without those of a response spells no event
pub neither_turn : (version : TextVersion) (d : Data)
    → ((done process : Data) → IsTurnData version (codes "invoke") done process d → ⊥)
    → ((done process : Data) → IsTurnData version (codes "answer") done process d → ⊥)
    → (e : Event) → IsEventData version d e → ⊥
neither_turn version d no_invocation no_response (Invoke p call) h = no_invocation (call_data call) (number_data p) h
neither_turn version d no_invocation no_response (Answer p reply) h = no_response (reply_data reply) (number_data p) h
