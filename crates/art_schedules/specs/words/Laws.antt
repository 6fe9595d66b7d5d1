-- Laws of what the words of a row say.
use Rattle.std.specs.Prelude.{◌≡◌, ℕ, ◌<◌, ◌≤◌, ◌^◌, true, false, List, length, All}
use Rattle.art_rows.specs.declared.table.Shape.{Shape}
use Rattle.art_rows.specs.declared.table.Kind.{Kind}
use Rattle.art_rows.specs.declared.table.Child.{Child}
use Rattle.art_rows.specs.Words.{info_word, info_of, keys4_of, keys4_word, keys16_of, keys16_word, more_keys16_word, entries_of}
use Rattle.art_rows.specs.Words.{entries_word}
use Rattle.art_rows.specs.Words.{child_of, child_word, is_locked, is_obsolete, locked_word, released_word, obsolete_word}
use Rattle.art_schedules.specs.words.Stored.{IsStored, IsShort}

-- What is written in a word of a row is what the word is read as.
pub record WordsAreReadBack : Type 0 where
  pub keys4 : (keys : List ℕ) → length keys ≤ 4 → All (λ x. x < 256) keys → keys4_of (keys4_word keys) ≡ keys
  pub keys16 : (keys : List ℕ) → length keys ≤ 16 → All (λ x. x < 256) keys
      → keys16_of (length keys) (keys16_word keys) (more_keys16_word keys) ≡ keys
  pub entries : (es : List ℕ) → length es ≡ 8 → All (λ e. e ≤ 48) es → entries_of (entries_word es) ≡ es
  pub info : (kind : Kind) (level : ℕ) (path : List ℕ) → level ≤ 3 → length path ≡ level → All (λ x. x < 256) path
      → info_of kind (info_word kind level path) ≡ record { level = level; path = path }
  pub child : (s : Shape) (c : Child) → IsStored s c → child_of s (child_word c) ≡ c
  -- what a child word is read as can be written
  pub stored : (s : Shape) (w : ℕ) → IsStored s (child_of s w)

-- The words that are written have 64 bits.
pub record WordsAreSmall : Type 0 where
  pub keys4 : (keys : List ℕ) → length keys ≤ 4 → All (λ x. x < 256) keys → keys4_word keys < 2 ^ 64
  pub keys16 : (keys : List ℕ) → All (λ x. x < 256) keys → (keys16_word keys < 2 ^ 64) × (more_keys16_word keys < 2 ^ 64)
  pub entries : (es : List ℕ) → length es ≡ 8 → All (λ e. e ≤ 48) es → entries_word es < 2 ^ 64
  pub info : (kind : Kind) (level : ℕ) (path : List ℕ) → level ≤ 3 → length path ≡ level → All (λ x. x < 256) path
      → info_word kind level path < 2 ^ 64
  pub child : (c : Child) → IsShort c → child_word c < 2 ^ 64
  pub again : (s : Shape) (w : ℕ) → w < 2 ^ 64 → child_word (child_of s w) < 2 ^ 64

-- Locking sets the bit of a lock and nothing else; a release clears it, and one as obsolete sets the bit of that.
pub record VersionsSay : Type 0 where
  pub locked : (v : ℕ) → is_locked v ≡ false → (is_locked (locked_word v) ≡ true) × (is_obsolete (locked_word v) ≡ is_obsolete v)
  pub released : (v : ℕ) → (is_locked (released_word v) ≡ is_locked v) × (is_obsolete (released_word v) ≡ is_obsolete v)
  pub obsolete : (v : ℕ) → (is_locked (obsolete_word v) ≡ is_locked v) × (is_obsolete (obsolete_word v) ≡ true)
