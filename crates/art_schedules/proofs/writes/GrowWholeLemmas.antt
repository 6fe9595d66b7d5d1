-- GROW whole: a claim, the info, the copy, the slot, and the rows that are released.
use Rattle.art_schedules.proofs.Common.{◌≡◌, ℕ, ◌+◌, ◌%◌, ◌^◌, ◌<◌, ◌≤◌, List, ◌∷◌, length, refl, sym, subst, ◌∙◌, ⊎_elim, inl, inr, arith}
use Rattle.art_rows.specs.Rows.{Row}
use Rattle.art_schedules.proofs.Common.{slice_set, none-some, lt-ltb, Insert, Shape, Kind, Four, Sixteen, FortyEight, Full, Leaf, row_words}
use Rattle.art_schedules.proofs.Common.{rows_of, table_words, claims_of, capacity, base_of, kind_at, info_word, row_word, obsolete_word, claims-few}
use Rattle.art_schedules.proofs.Common.{two-words, ◌>>◌, store, Setting, byte_at, claim, unlock_obsolete, unlock_all, fill, grow, next_kind}
use Rattle.art_schedules.proofs.Common.{slot_of, HasForm, Comes, unlocked_rows, keys_in_row, count_in_row, HasSameFields, fresh_base, HasGrown}
use Rattle.std.specs.Prelude.{slice_index, Some, None, ◌≢◌}
use Rattle.art_schedules.proofs.alone.AloneLemmas.{bind-comes, then-comes, store-comes}
use Rattle.art_schedules.proofs.alone.RowRunLemmas.{with_claim, claim-comes, unlock_obsolete-comes, unlock_all-comes}
use Rattle.art_schedules.proofs.words.TableLemmas.{IsNumbered, numbered, kind_at-base_of, row_begins, row_ends}
use Rattle.art_schedules.specs.writes.Writes.{HasFresh}
use Rattle.art_schedules.proofs.writes.StoreLemmas.{small-stored, stored-at, stored-other, stored-long}
use Rattle.art_schedules.proofs.writes.PairLemmas.{byte_at-small}
use Rattle.art_schedules.proofs.writes.SameLemmas.{keys-same, count-same, slot-same, child-same, form-same}
use Rattle.art_schedules.proofs.writes.GrowLemmas.{row_filled}

-- the rows of a kind are before those of the next one
before_next : (s : Shape) (kind : Kind) (old number : ℕ) → kind ≢ Full → IsNumbered s old kind
    → old + row_words kind ≤ base_of s (next_kind kind) number
before_next s Four old number h n = omega (arith, n.is, n.below)
before_next s Sixteen old number h n = omega (arith, n.is, n.below)
before_next s FortyEight old number h n = omega (arith, n.is, n.below)
before_next s Full old number h n = absurd (h refl)

not_full : (words : List ℕ) (base : ℕ) (kind : Kind) (x : ℕ) → slot_of words base kind x ≡ None → kind ≢ Full
not_full words base kind x absent e =
    none-some (base + 2 + x) (sym (subst (λ k. slot_of words base k x ≡ None) e absent))

module _ (c : Setting) (above : List Row) (slot : ℕ) (n : Row) (words : List ℕ) (key value : ℕ) (call : c.call ≡ Insert key value)
    (small : value < 2 ^ 30)
    (room : slice_index words (claims_of (next_kind n.kind)) < rows_of c.shape (next_kind n.kind))
    (fits : table_words c.shape ≤ length words)
    (at : kind_at c.shape n.base ≡ Some n.kind)
    (zeros : (word : ℕ) → fresh_base c.shape words (next_kind n.kind) ≤ word
    → word < fresh_base c.shape words (next_kind n.kind) + row_words (next_kind n.kind) → slice_index words word ≡ 0)
    (form : HasForm words n.base n.kind) (absent : slot_of words n.base n.kind (byte_at c n.level) ≡ None)
    (full : count_in_row c.call words n.base n.kind (byte_at c n.level) ≡ capacity n.kind) where
  abbrev next : Kind
  next = next_kind n.kind

  abbrev base : ℕ
  base = fresh_base c.shape words (next_kind n.kind)

  abbrev x : ℕ
  x = byte_at c n.level

  abbrev info : ℕ
  info = info_word (next_kind n.kind) n.level n.path

  abbrev w0 : List ℕ
  w0 = with_claim words (next_kind n.kind)

  abbrev w1 : List ℕ
  w1 = slice_set w0 (base + 1) info

  long1 : length w1 ≡ length words
  long1 = stored-long w0 (base + 1) info ∙ stored-long words (claims_of next) ((slice_index words (claims_of next) + 1) % 2 ^ 64)

  fresh_begins : 5 ≤ base
  fresh_begins = row_begins c.shape base next (kind_at-base_of c.shape next (slice_index words (claims_of next)) room)

  fresh_ends : base + row_words next ≤ length words
  fresh_ends = omega (arith, row_ends c.shape base next (kind_at-base_of c.shape next (slice_index words (claims_of next)) room), fits)

  apart : n.base + row_words n.kind ≤ base
  apart = before_next c.shape n.kind n.base (slice_index words (claims_of next)) (not_full words n.base n.kind x absent)
      (numbered c.shape n.base n.kind at)

  stays : (word : ℕ) → word ≢ claims_of next → word ≢ base + 1 → slice_index w1 word ≡ slice_index words word
  stays word a b =
      stored-other w0 (base + 1) word info b ∙ stored-other words (claims_of next) word
      ((slice_index words (claims_of next) + 1) % 2 ^ 64) a

  same_row : HasSameFields words w1 n.base n.kind
  same_row word low high =
      stays word (λ e. omega (arith, e, low, claims-few next, row_begins c.shape n.base n.kind at)) (λ e. omega (arith, e, high, apart))

  byte : x < 256
  byte = byte_at-small c n.level

  filled : (later : List ℕ)
      × Comes (fill n.kind c n base x (keys_in_row w1 n.base n.kind x) (count_in_row c.call w1 n.base n.kind x)) w1 tt later
      × HasGrown c.shape w1 later n.base n.kind base next x (Leaf key value)
  filled =
      row_filled c n base w1 x key value call small (omega (arith, fresh_ends, long1)) (inl apart)
      (λ word low high. stays word (λ e. omega (arith, e, low, claims-few next, fresh_begins)) (λ e. omega (arith, e, low))
      ∙ zeros word (omega (arith, low)) high)
      (form-same words w1 n.base n.kind same_row form) byte (slot-same words w1 n.base n.kind x same_row byte ∙ absent)
      (count-same c.call words w1 n.base n.kind x same_row byte ∙ full)

  fresh : HasFresh c.shape words filled.0 n.base n.kind base next info x (Leaf key value)
  fresh =
      record {
        long = filled.2.long ∙ long1;
        same = λ word a h.
            filled.2.beside word (⊎_elim (λ l. inl (omega (arith, l))) (λ l. inr l) h)
            ∙ stays word a (⊎_elim (λ l e. omega (arith, l, e)) (λ l e. omega (arith, l, e, two-words next)) h);
        claimed =
            filled.2.beside (claims_of next) (inl (omega (arith, claims-few next, fresh_begins)))
            ∙ stored-other w0 (base + 1) (claims_of next) info (λ e. omega (arith, e, claims-few next, fresh_begins))
            ∙ stored-at words (claims_of next) ((slice_index words (claims_of next) + 1) % 2 ^ 64)
            (omega (arith, claims-few next, fresh_begins, fresh_ends));
        version =
            filled.2.beside base (inl (omega arith))
            ∙ stays base (λ e. omega (arith, e, claims-few next, fresh_begins)) (λ e. omega (arith, e));
        info =
            filled.2.beside (base + 1) (inl (omega arith))
            ∙ stored-at w0 (base + 1) info (omega (
              arith,
              fresh_ends,
              two-words next,
              stored-long words (claims_of next) ((slice_index words (claims_of next) + 1) % 2 ^ 64),
            ));
        form = filled.2.form;
        others = λ y b other. filled.2.others y b other ∙ child-same c.shape words w1 n.base n.kind y form same_row b;
        put = filled.2.put;
        small = λ h short low.
            filled.2.small (small-stored w0 (base + 1) info
            (small-stored words (claims_of next) ((slice_index words (claims_of next) + 1) % 2 ^ 64) h (omega arith)) low) short;
      }

  abbrev last : List ℕ
  last = slice_set (slice_set filled.0 slot (row_word base)) n.base (obsolete_word n.kept)

  filled-comes : Comes (fill n.kind c n base x (keys_in_row words n.base n.kind x) (count_in_row c.call words n.base n.kind x)) w1 tt
      filled.0
  filled-comes =
      subst (λ k. Comes (fill n.kind c n base x (keys_in_row words n.base n.kind x) k) w1 tt filled.0)
      (count-same c.call words w1 n.base n.kind x same_row byte)
      (subst (λ ks. Comes (fill n.kind c n base x ks (count_in_row c.call w1 n.base n.kind x)) w1 tt filled.0)
      (keys-same words w1 n.base n.kind x same_row byte)
      filled.1)

  grow-comes : Comes (grow c above slot n (keys_in_row words n.base n.kind x) (count_in_row c.call words n.base n.kind x)) words tt
      (unlocked_rows above last)
  unfolding grow
  grow-comes =
      bind-comes {m = claim c (n ∷ above) next} {f = λ base. store (base + 1) info
      >> (fill n.kind c n base x (keys_in_row words n.base n.kind x) (count_in_row c.call words n.base n.kind x)
      >> (store slot (row_word base) >> (unlock_obsolete n >> unlock_all above)))}
      (claim-comes c (n ∷ above) next words (lt-ltb (slice_index words (claims_of next)) (rows_of c.shape next) room))
      (then-comes {n = fill n.kind c n base x (keys_in_row words n.base n.kind x) (count_in_row c.call words n.base n.kind x)
      >> (store slot (row_word base) >> (unlock_obsolete n >> unlock_all above))} (store-comes (base + 1) info w0)
      (then-comes {n = store slot (row_word base) >> (unlock_obsolete n >> unlock_all above)} filled-comes
      (then-comes {n = unlock_obsolete n >> unlock_all above} (store-comes slot (row_word base) filled.0)
      (then-comes {n = unlock_all above} (unlock_obsolete-comes n (slice_set filled.0 slot (row_word base)))
      (unlock_all-comes above last)))))

  pub row_grown : (later : List ℕ)
      × Comes (grow c above slot n (keys_in_row words n.base n.kind x) (count_in_row c.call words n.base n.kind x)) words tt
      (unlocked_rows above (slice_set (slice_set later slot (row_word base)) n.base (obsolete_word n.kept)))
      × HasFresh c.shape words later n.base n.kind base next info x (Leaf key value)
  row_grown = (filled.0, grow-comes, fresh)
