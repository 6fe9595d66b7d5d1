-- Words after stores.
use Rattle.art_schedules.proofs.Common.{◌^◌, ◌≡◌, ℕ, ◌<◌, List, length, ap, ◌∙◌, slice_set, length-set, get_or-set_same, get_or-set_other}
use Rattle.art_schedules.proofs.Common.{All-set, Shape, Child, child_of, child_word, give, Setting, load_child, store_child, copy_child, Comes}
use Rattle.art_schedules.proofs.Common.{IsStored, IsShort, AreSmall}
use Rattle.std.specs.Prelude.{slice_index, ◌≢◌}
use Rattle.art_schedules.proofs.alone.AloneLemmas.{give-comes, bind-comes, load-comes, store-comes}
use Rattle.art_schedules.proofs.words.WordLemmas.{child_back, child_again, child_below, again_below}
use Rattle.art_schedules.proofs.trees.Descents.{small_at}

pub stored-at : (words : List ℕ) (word value : ℕ) → word < length words → slice_index (slice_set words word value) word ≡ value
stored-at words word value h = get_or-set_same words word value 0 h

pub stored-other : (words : List ℕ) (word other value : ℕ) → other ≢ word
    → slice_index (slice_set words word value) other ≡ slice_index words other
stored-other words word other value h = get_or-set_other words word other value 0 h

pub stored-long : (words : List ℕ) (word value : ℕ) → length (slice_set words word value) ≡ length words
stored-long words word value = length-set words word value

-- the words with a child stored in a slot
abbrev pub with_child : List ℕ → ℕ → Child → List ℕ
with_child words slot child = slice_set words slot (child_word child)

pub child-stored : (s : Shape) (words : List ℕ) (slot : ℕ) (child : Child) → slot < length words → IsStored s child
    → child_of s (slice_index (with_child words slot child) slot) ≡ child
child-stored s words slot child h k = ap (child_of s) (stored-at words slot (child_word child) h) ∙ child_back s child k

pub store_child-comes : (slot : ℕ) (child : Child) (words : List ℕ) → Comes (store_child slot child) words tt (with_child words slot child)
store_child-comes slot child words = store-comes slot (child_word child) words

-- the words with the child of one slot in another one too
abbrev pub with_copy : Shape → List ℕ → ℕ → ℕ → List ℕ
with_copy s words from to = with_child words to (child_of s (slice_index words from))

pub child-copied : (s : Shape) (words : List ℕ) (from to : ℕ) → to < length words
    → child_of s (slice_index (with_copy s words from to) to) ≡ child_of s (slice_index words from)
child-copied s words from to h =
    ap (child_of s) (stored-at words to (child_word (child_of s (slice_index words from))) h) ∙ child_again s (slice_index words from)

pub copy_child-comes : (c : Setting) (from to : ℕ) (words : List ℕ)
    → Comes (copy_child c from to) words tt (with_copy c.shape words from to)
unfolding copy_child load_child
copy_child-comes c from to words =
    bind-comes {m = load_child c from} {f = λ child. store_child to child}
    (bind-comes {f = λ w. give (child_of c.shape w)} (load-comes from words) (give-comes (child_of c.shape (slice_index words from)) words))
    (store_child-comes to (child_of c.shape (slice_index words from)) words)

-- words of 64 bits stay so

pub small-stored : (words : List ℕ) (word value : ℕ) → AreSmall words → value < 2 ^ 64 → AreSmall (slice_set words word value)
small-stored words word value h l = All-set (λ w. w < 2 ^ 64) words word value l h

pub small-child : (words : List ℕ) (slot : ℕ) (child : Child) → AreSmall words → IsShort child → AreSmall (with_child words slot child)
small-child words slot child h short = small-stored words slot (child_word child) h (child_below child short)

pub small-copy : (s : Shape) (words : List ℕ) (from to : ℕ) → AreSmall words → AreSmall (with_copy s words from to)
small-copy s words from to h =
    small-stored words to (child_word (child_of s (slice_index words from))) h
    (again_below s (slice_index words from) (small_at words from h))
