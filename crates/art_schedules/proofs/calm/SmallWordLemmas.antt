-- The words that calls store are below 2^64.
use Rattle.art_schedules.proofs.Common.{◌≡◌, ℕ, zero, suc, ◌/◌, ◌%◌, ◌^◌, ◌<◌, ◌≤◌, Bool, true, false, List, [], ◌∷◌, ◌++◌, length, take, refl}
use Rattle.art_schedules.proofs.inserts.SmallLemmas.{differs-before}
use Rattle.art_schedules.proofs.trees.InfoWords.{path_byte}
use Rattle.art_schedules.proofs.Common.{arith, ◌==◌, nat_le, map, set, Option, Some, None, if◌then◌else◌, length-set, All-nil, All-cons}
use Rattle.art_schedules.proofs.Common.{All-append, All-set, Kind, Four, Sixteen, FortyEight, Full, key_bytes, first_difference, info_word}
use Rattle.art_schedules.proofs.Common.{info_of, keys4_of, keys16_of, entries_of, count_of, keys4_word, keys16_word, more_keys16_word}
use Rattle.art_schedules.proofs.Common.{entries_word, place_of, with_key, numbers, new_entry, keys_differ_at}
use Rattle.art_schedules.proofs.Common.{KeyWords, keys_in}
use Rattle.std.specs.Prelude.{unwrap_or}
use Rattle.std.proofs.lemmas.List.{length-map}
use Rattle.std.proofs.lemmas.List.Elements.{All-take}
use Rattle.art_rows.specs.Words.{packed, low_bytes, Info, kind_code, entry_of}
use Rattle.art_rows.proofs.ByteLemmas.{entries-most, place-within}
use Rattle.art_rows.proofs.KindLemmas.{code-few}
use Rattle.art_rows.proofs.WriterLemmas.{length-low_bytes}
use Rattle.art_schedules.proofs.words.ByteLemmas.{AreBytes, packed-most, keys16_below, bytes-small, low_bytes-small, key_bytes-small}
use Rattle.art_schedules.proofs.words.KeyLemmas.{All-with_key, length-with_key}
use Rattle.art_schedules.proofs.writes.GrowSixteenLemmas.{length-numbers, entry-absent, entry-some}
use Rattle.art_schedules.proofs.versions.WordFacts.{among-most}

-- Infos.

level-few : (kind : Kind) (info : ℕ) → (info_of kind info).level ≤ 3
level-few kind info = go (info % 4 == kind_code kind)
  where
    chosen : Bool → Info
    chosen b = if b then record { level = (info / 4) % 4; path = low_bytes ((info / 4) % 4) (info / 256) } else record
        { level = 0; path = [] }

    go : (b : Bool) → (chosen b).level ≤ 3
    go true = omega arith
    go false = omega arith

path-few : (kind : Kind) (info : ℕ) → length (info_of kind info).path ≤ 4
path-few kind info = go (info % 4 == kind_code kind)
  where
    chosen : Bool → Info
    chosen b = if b then record { level = (info / 4) % 4; path = low_bytes ((info / 4) % 4) (info / 256) } else record
        { level = 0; path = [] }

    go : (b : Bool) → length (chosen b).path ≤ 4
    go true = omega (arith, length-low_bytes ((info / 4) % 4) (info / 256))
    go false = omega arith

info-small : (kind : Kind) (level : ℕ) (path : List ℕ) → level ≤ 3 → length path ≤ 4 → AreBytes path → info_word kind level path < 2 ^ 64
info-small kind level path few long bytes =
    let most : packed path < 256 ^ 4 = packed-most 4 path bytes long in
    omega (arith, few, most, code-few kind)

-- the info of a larger row, with the level and the path of this one,
pub grown-info : (larger kind : Kind) (info : ℕ) → info_word larger (info_of kind info).level (info_of kind info).path < 2 ^ 64
grown-info larger kind info = info-small larger (info_of kind info).level (info_of kind info).path (level-few kind info)
    (path-few kind info)
    (bytes-small (info_of kind info).path (path_byte kind info))

taken-long : (level key : ℕ) → length (take level (key_bytes key)) ≤ 4
taken-long zero key = omega arith
taken-long (suc zero) key = omega arith
taken-long (suc (suc zero)) key = omega arith
taken-long (suc (suc (suc zero))) key = omega arith
taken-long (suc (suc (suc (suc zero)))) key = omega arith
taken-long (suc (suc (suc (suc (suc level))))) key = omega arith

-- the info of a row of two leaves
pub pair-info : (level key : ℕ) → level ≤ 3 → info_word Four level (take level (key_bytes key)) < 2 ^ 64
pair-info level key few =
    info-small Four level (take level (key_bytes key)) few (taken-long level key)
    (All-take (λ x. x < 256) level (key_bytes key) (key_bytes-small key))

-- Where lists differ first.

pub differ-level : (a b : ℕ) → keys_differ_at a b ≤ 3
differ-level a b = go (first_difference (key_bytes a) (key_bytes b)) refl
  where
    go : (o : Option ℕ) → first_difference (key_bytes a) (key_bytes b) ≡ o → unwrap_or o 0 ≤ 3
    go None e = omega arith
    go (Some d) e = let low = differs-before (key_bytes a) (key_bytes b) d e in omega (arith, low)

-- Key words.

pub two-keys : (x y : ℕ) → x < 256 → y < 256 → keys4_word (x ∷ y ∷ []) < 2 ^ 64
two-keys x y h k = omega (arith, h, k)

low4 : (w : ℕ) → AreBytes (keys4_of w)
low4 w = go (nat_le (w % 256) 4)
  where
    go : (b : Bool) → AreBytes (if b then low_bytes (w % 256) (w / 256) else [])
    go true = low_bytes-small (w % 256) (w / 256)
    go false = All-nil (λ x. x < 256)

low16 : (count first second : ℕ) → AreBytes (keys16_of count first second)
low16 count first second = All-take (λ x. x < 256) (count_of 16 count) (low_bytes 8 first ++ low_bytes 8 second)
    (All-append (λ x. x < 256) (low_bytes 8 first) (low_bytes 8 second) (low_bytes-small 8 first) (low_bytes-small 8 second))

pub keys4-with : (x w : ℕ) → x < 256 → keys4_word (with_key x (keys4_of w)) < 2 ^ 64
keys4-with x w byte =
    let few : length (keys4_of w) ≤ 4 = among-most Four (record { first = w; second = 0; count = 0 }) in
    let long = length-with_key x (keys4_of w) in
    let most : packed (with_key x (keys4_of w)) < 256 ^ 5 =
    packed-most 5 (with_key x (keys4_of w)) (All-with_key (λ x. x < 256) x (keys4_of w) byte (low4 w)) (omega (arith, long, few)) in
    omega (arith, long, few, most)

-- what was read of a row's keys
keys-bytes : (kind : Kind) (keys : KeyWords) → AreBytes (keys_in kind keys)
keys-bytes Four keys = low4 keys.first
keys-bytes Sixteen keys = low16 keys.count keys.first keys.second
keys-bytes FortyEight keys = bytes-small (entries_of keys.first) (λ k. omega (arith, entries-most keys.first k))
keys-bytes Full keys = All-nil (λ x. x < 256)

pub keys-few : (kind : Kind) (keys : KeyWords) → length (keys_in kind keys) ≤ 16
keys-few Four keys = omega (arith, among-most Four keys)
keys-few Sixteen keys = among-most Sixteen keys
keys-few FortyEight keys = omega (arith, length-map (low_bytes 8 keys.first) entry_of, length-low_bytes 8 keys.first)
keys-few Full keys = omega arith

pub keys16-with : (kind : Kind) (keys : KeyWords) (x : ℕ) → x < 256
    → (keys16_word (with_key x (keys_in kind keys)) < 2 ^ 64) × (more_keys16_word (with_key x (keys_in kind keys)) < 2 ^ 64)
keys16-with kind keys x byte =
    keys16_below (with_key x (keys_in kind keys)) (All-with_key (λ x. x < 256) x (keys_in kind keys) byte (keys-bytes kind keys))

-- Index words.

pub entries-with : (w i e : ℕ) → e < 256 → entries_word (set (entries_of w) i e) < 2 ^ 64
entries-with w i e few =
    packed-most 8 (set (entries_of w) i e)
    (All-set (λ x. x < 256) (entries_of w) i e few (bytes-small (entries_of w) (λ k. omega (arith, entries-most w k))))
    (omega (arith, length-set (entries_of w) i e, length-map (low_bytes 8 w) entry_of, length-low_bytes 8 w))

entry-bytes : (keys ys : List ℕ) → length keys ≤ 48 → AreBytes (map (new_entry keys) ys)
entry-bytes keys [] few = All-nil (λ x. x < 256)
entry-bytes keys (y ∷ ys) few =
    All-cons (λ x. x < 256) (new_entry keys y) (map (new_entry keys) ys) (go (place_of y keys) refl) (entry-bytes keys ys few)
  where
    go : (o : Option ℕ) → place_of y keys ≡ o → new_entry keys y < 256
    go None e = omega (arith, entry-absent keys y e)
    go (Some i) e = omega (arith, entry-some keys y i e, (place-within y keys i e).0, few)

pub entries-new : (keys : List ℕ) (first : ℕ) → length keys ≤ 48 → entries_word (map (new_entry keys) (numbers first 8)) < 2 ^ 64
entries-new keys first few =
    packed-most 8 (map (new_entry keys) (numbers first 8)) (entry-bytes keys (numbers first 8) few)
    (omega (arith, length-map (numbers first 8) (new_entry keys), length-numbers first 8))
