-- What an insert writes in a row.
use Rattle.std.specs.Prelude.{◌≡◌, ◌≢◌, ◌⊎◌, ℕ, ◌+◌, ◌%◌, ◌^◌, ◌<◌, ◌≤◌, All, List, length, slice_index}
use Rattle.art_rows.specs.declared.table.Shape.{Shape}
use Rattle.art_rows.specs.declared.table.Kind.{Kind}
use Rattle.art_rows.specs.declared.table.Kind.TheVariants.{Four}
use Rattle.art_rows.specs.declared.table.Child.{Child}
use Rattle.art_rows.specs.declared.table.Child.TheVariants.{Empty}
use Rattle.art_rows.specs.Table.{row_words, claims_of, base_of, info_at}
use Rattle.art_rows.specs.Words.{info_word, row_word}
use Rattle.art_rows.specs.Updates.{Under}
use Rattle.art_schedules.specs.words.Stored.{IsShort}
use Rattle.art_core.specs.Meaning.{child_on}
use Rattle.art_core.specs.Forms.{HasForm}

-- each word has 64 bits
abbrev pub AreSmall : List ℕ → Type 0
AreSmall words = All (λ w. w < 2 ^ 64) words

-- a word that is none of a row's keys and children: the row's version and its info are such words too
abbrev pub IsBeside : ℕ → Kind → ℕ → Type 0
IsBeside base kind word = (word < base + 2) ⊎ (base + row_words kind ≤ word)

-- a row's keys and children are the same words in both tables
abbrev pub HasSameFields : List ℕ → List ℕ → ℕ → Kind → Type 0
HasSameFields words later base kind = (word : ℕ) → base + 2 ≤ word → word < base + row_words kind
    → slice_index later word ≡ slice_index words word

-- A child was put on a byte of a row: it hangs there, the other bytes have what they had, and no other word has changed.
pub record HasPut (s : Shape) (words later : List ℕ) (base : ℕ) (kind : Kind) (x : ℕ) (child : Child) : Type 0 where
  pub long : length later ≡ length words
  pub beside : (word : ℕ) → IsBeside base kind word → slice_index later word ≡ slice_index words word
  pub form : HasForm later base kind
  pub others : (y : ℕ) → y < 256 → y ≢ x → child_on s later base kind y ≡ child_on s words base kind y
  pub put : child_on s later base kind x ≡ child
  pub small : AreSmall words → IsShort child → AreSmall later

-- the row that the next claim of a kind gives
abbrev pub fresh_base : Shape → List ℕ → Kind → ℕ
fresh_base s words kind = base_of s kind (slice_index words (claims_of kind))

-- a word that is none of a row's
abbrev pub IsOutside : ℕ → Kind → ℕ → Type 0
IsOutside base kind word = (word < base) ⊎ (base + row_words kind ≤ word)

-- A fresh row of kind 4, of this level and path, has two children and hangs in a slot: nothing else has changed but that one
-- more claim is made.
pub record HasPair (s : Shape) (words later : List ℕ) (base slot level : ℕ) (path : List ℕ) (a b : Under) : Type 0 where
  pub long : length later ≡ length words
  pub same : (word : ℕ) → word ≢ claims_of Four → word ≢ slot → IsOutside base Four word → slice_index later word ≡ slice_index words word
  pub claimed : slice_index later (claims_of Four) ≡ (slice_index words (claims_of Four) + 1) % 2 ^ 64
  pub version : slice_index later base ≡ slice_index words base
  pub info : slice_index later (info_at base) ≡ info_word Four level path
  pub form : HasForm later base Four
  pub first : child_on s later base Four a.byte ≡ a.child
  pub second : child_on s later base Four b.byte ≡ b.child
  pub others : (z : ℕ) → z ≢ a.byte → z ≢ b.byte → child_on s later base Four z ≡ Empty
  pub hangs : slice_index later slot ≡ row_word base
  pub small : AreSmall words → IsShort a.child → IsShort b.child → base < 2 ^ 61 → info_word Four level path < 2 ^ 64 → AreSmall later

-- no word is of both rows
abbrev pub IsApart : ℕ → Kind → ℕ → Kind → Type 0
IsApart old kind base next = (old + row_words kind ≤ base) ⊎ (base + row_words next ≤ old)

-- A row was copied to a fresh one of another kind, with one child more. The fresh row has form, its
-- version and its info are as they were, and no word outside it has changed.
pub record HasGrown (s : Shape) (words later : List ℕ) (old : ℕ) (kind : Kind) (base : ℕ) (next : Kind) (x : ℕ)
    (child : Child) : Type 0 where
  pub long : length later ≡ length words
  pub beside : (word : ℕ) → IsBeside base next word → slice_index later word ≡ slice_index words word
  pub form : HasForm later base next
  pub others : (y : ℕ) → y < 256 → y ≢ x → child_on s later base next y ≡ child_on s words old kind y
  pub put : child_on s later base next x ≡ child
  pub small : AreSmall words → IsShort child → AreSmall later

-- A fresh row was claimed and got the children of another one, with one child more. It has this
-- info, and nothing else has changed except that one more claim is made.
pub record HasFresh (s : Shape) (words later : List ℕ) (old : ℕ) (kind : Kind) (base : ℕ) (next : Kind) (word_of_info x : ℕ)
    (child : Child) : Type 0 where
  pub long : length later ≡ length words
  pub same : (word : ℕ) → word ≢ claims_of next → IsOutside base next word → slice_index later word ≡ slice_index words word
  pub claimed : slice_index later (claims_of next) ≡ (slice_index words (claims_of next) + 1) % 2 ^ 64
  pub version : slice_index later base ≡ slice_index words base
  pub info : slice_index later (info_at base) ≡ word_of_info
  pub form : HasForm later base next
  pub others : (y : ℕ) → y < 256 → y ≢ x → child_on s later base next y ≡ child_on s words old kind y
  pub put : child_on s later base next x ≡ child
  pub small : AreSmall words → IsShort child → word_of_info < 2 ^ 64 → AreSmall later
