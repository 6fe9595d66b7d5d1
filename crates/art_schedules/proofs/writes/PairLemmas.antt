-- PAIR: a fresh row of two children.
use Rattle.art_schedules.proofs.Common.{◌≡◌, ℕ, zero, suc, ◌+◌, ◌%◌, ◌^◌, ◌<◌, ◌≤◌, List, [], ◌∷◌, length, take, refl, ap, sym, subst, ◌∙◌, ⊎_elim}
use Rattle.art_rows.specs.Rows.{Row}
use Rattle.art_schedules.proofs.Common.{Bool, true, false, arith, nat_lt, slice_set, Option, IsStrictlyIncreasing, All-nil}
use Rattle.art_schedules.proofs.Common.{All-cons, lt-ltb, ltb-true, ltb-false, Call, Insert, Shape, Four, Child, Empty, Leaf, rows_of}
use Rattle.art_schedules.proofs.Common.{table_words, claims_of, child_of, child_word, info_word, key_bytes, keys4_of, keys4_word, place_of}
use Rattle.art_schedules.proofs.Common.{row_word, ◌>>◌, give, store, Setting, key_of, byte_at, claim, Under, new_leaf, store_child, pair}
use Rattle.art_schedules.proofs.Common.{pair_in, child_in, child_on, Comes, IsStored, fresh_base, IsOutside, HasPair}
use Rattle.std.specs.Prelude.{slice_index, Some, None, if◌then◌else◌, ◌≢◌, option_map}
use Rattle.std.proofs.lemmas.Bool.{eq-eqb, ne_eqb}
use Rattle.art_rows.specs.Updates.{lesser, greater}
use Rattle.art_schedules.proofs.alone.AloneLemmas.{give-comes, bind-comes, then-comes, store-comes}
use Rattle.art_schedules.proofs.alone.RowRunLemmas.{with_claim, claim-comes}
use Rattle.art_schedules.proofs.words.ByteLemmas.{keys4_below, AreBytes, keys4_back}
use Rattle.art_schedules.proofs.words.TableLemmas.{kind_at-base_of, row_begins, row_ends}
use Rattle.art_schedules.proofs.writes.StoreLemmas.{small-stored, small-child, stored-at, stored-other, stored-long, with_child, child-stored}
use Rattle.art_schedules.proofs.writes.StoreLemmas.{store_child-comes}

-- the words with a pair of children, the one of the lesser byte first
abbrev pub with_pair : Shape → List ℕ → ℕ → ℕ → ℕ → Under → Under → List ℕ
with_pair s words slot base info lo hi =
    slice_set (with_child (with_child (slice_set (slice_set (with_claim words Four) (base + 1) info) (base + 2)
    (keys4_word (lo.byte ∷ hi.byte ∷ [])))
    (base + 3 + 0) lo.child) (base + 3 + 1) hi.child) slot (row_word base)

module _ (s : Shape) (words : List ℕ) (slot base level : ℕ) (path : List ℕ) (lo hi : Under) (stored_lo : IsStored s lo.child)
    (stored_hi : IsStored s hi.child)
    (order : lo.byte < hi.byte) (small : hi.byte < 256) (begins : 5 ≤ base) (fits : base + 7 ≤ length words) (behind : 5 ≤ slot)
    (inside : slot < length words)
    (outside : IsOutside base Four slot) where
  abbrev keys : List ℕ
  keys = lo.byte ∷ hi.byte ∷ []

  abbrev w0 : List ℕ
  w0 = with_claim words Four

  abbrev w1 : List ℕ
  w1 = slice_set w0 (base + 1) (info_word Four level path)

  abbrev w2 : List ℕ
  w2 = slice_set w1 (base + 2) (keys4_word keys)

  abbrev w3 : List ℕ
  w3 = with_child w2 (base + 3 + 0) lo.child

  abbrev w4 : List ℕ
  w4 = with_child w3 (base + 3 + 1) hi.child

  abbrev w5 : List ℕ
  w5 = slice_set w4 slot (row_word base)

  long0 : length w0 ≡ length words
  long0 = stored-long words 1 ((slice_index words 1 + 1) % 2 ^ 64)

  long1 : length w1 ≡ length words
  long1 = stored-long w0 (base + 1) (info_word Four level path) ∙ long0

  long2 : length w2 ≡ length words
  long2 = stored-long w1 (base + 2) (keys4_word keys) ∙ long1

  long3 : length w3 ≡ length words
  long3 = stored-long w2 (base + 3 + 0) (child_word lo.child) ∙ long2

  long4 : length w4 ≡ length words
  long4 = stored-long w3 (base + 3 + 1) (child_word hi.child) ∙ long3

  -- what the stores to the row and to the slot leave
  not_slot : (word : ℕ) → base ≤ word → word < base + 7 → word ≢ slot
  not_slot word a b e = ⊎_elim (λ l. omega (arith, e, l, a)) (λ l. omega (arith, e, l, b)) outside

  stays5 : (word : ℕ) → word ≢ slot → slice_index w5 word ≡ slice_index w4 word
  stays5 word h = stored-other w4 slot word (row_word base) h

  stays4 : (word : ℕ) → word ≢ base + 3 + 1 → slice_index w4 word ≡ slice_index w3 word
  stays4 word h = stored-other w3 (base + 3 + 1) word (child_word hi.child) h

  stays3 : (word : ℕ) → word ≢ base + 3 + 0 → slice_index w3 word ≡ slice_index w2 word
  stays3 word h = stored-other w2 (base + 3 + 0) word (child_word lo.child) h

  stays2 : (word : ℕ) → word ≢ base + 2 → slice_index w2 word ≡ slice_index w1 word
  stays2 word h = stored-other w1 (base + 2) word (keys4_word keys) h

  stays1 : (word : ℕ) → word ≢ base + 1 → slice_index w1 word ≡ slice_index w0 word
  stays1 word h = stored-other w0 (base + 1) word (info_word Four level path) h

  stays0 : (word : ℕ) → word ≢ 1 → slice_index w0 word ≡ slice_index words word
  stays0 word h = stored-other words 1 word ((slice_index words 1 + 1) % 2 ^ 64) h

  claim_now : slice_index w5 1 ≡ (slice_index words 1 + 1) % 2 ^ 64
  claim_now =
      stays5 1 (λ e. omega (arith, e, behind)) ∙ stays4 1 (λ e. omega (arith, e, begins)) ∙ stays3 1 (λ e. omega (arith, e, begins))
      ∙ stays2 1 (λ e. omega (arith, e, begins)) ∙ stays1 1 (λ e. omega (arith, e, begins))
      ∙ stored-at words 1 ((slice_index words 1 + 1) % 2 ^ 64) (omega (arith, fits))

  info_now : slice_index w5 (base + 1) ≡ info_word Four level path
  info_now =
      stays5 (base + 1) (not_slot (base + 1) (omega arith) (omega arith)) ∙ stays4 (base + 1) (λ e. omega (arith, e))
      ∙ stays3 (base + 1) (λ e. omega (arith, e))
      ∙ stays2 (base + 1) (λ e. omega (arith, e)) ∙ stored-at w0 (base + 1) (info_word Four level path) (omega (arith, fits, long0))

  keys_now : slice_index w5 (base + 2) ≡ keys4_word keys
  keys_now =
      stays5 (base + 2) (not_slot (base + 2) (omega arith) (omega arith)) ∙ stays4 (base + 2) (λ e. omega (arith, e))
      ∙ stays3 (base + 2) (λ e. omega (arith, e))
      ∙ stored-at w1 (base + 2) (keys4_word keys) (omega (arith, fits, long1))

  lo_now : child_of s (slice_index w5 (base + 3 + 0)) ≡ lo.child
  lo_now =
      ap (child_of s) (stays5 (base + 3 + 0) (not_slot (base + 3 + 0) (omega arith) (omega arith)) ∙ stays4 (base + 3 + 0)
      (λ e. omega (arith, e)))
      ∙ child-stored s w2 (base + 3 + 0) lo.child (omega (arith, fits, long2)) stored_lo

  hi_now : child_of s (slice_index w5 (base + 3 + 1)) ≡ hi.child
  hi_now =
      ap (child_of s) (stays5 (base + 3 + 1) (not_slot (base + 3 + 1) (omega arith) (omega arith)))
      ∙ child-stored s w3 (base + 3 + 1) hi.child (omega (arith, fits, long3)) stored_hi

  outside_now : (word : ℕ) → word ≢ 1 → word ≢ slot → IsOutside base Four word → slice_index w5 word ≡ slice_index words word
  outside_now word a b h =
      stays5 word b ∙ stays4 word (⊎_elim (λ l e. omega (arith, e, l)) (λ l e. omega (arith, e, l)) h)
      ∙ stays3 word (⊎_elim (λ l e. omega (arith, e, l)) (λ l e. omega (arith, e, l)) h)
      ∙ stays2 word (⊎_elim (λ l e. omega (arith, e, l)) (λ l e. omega (arith, e, l)) h)
      ∙ stays1 word (⊎_elim (λ l e. omega (arith, e, l)) (λ l e. omega (arith, e, l)) h) ∙ stays0 word a

  version_now : slice_index w5 base ≡ slice_index words base
  version_now =
      stays5 base (not_slot base (omega arith) (omega arith)) ∙ stays4 base (λ e. omega (arith, e)) ∙ stays3 base (λ e. omega (arith, e))
      ∙ stays2 base (λ e. omega (arith, e)) ∙ stays1 base (λ e. omega (arith, e)) ∙ stays0 base (λ e. omega (arith, e, begins))

  rising : IsStrictlyIncreasing keys
  rising zero l = order
  rising (suc k) l = absurd (omega (arith, l))

  bytes : AreBytes keys
  bytes =
      All-cons (λ x. x < 256) lo.byte (hi.byte ∷ []) (omega (arith, order, small))
      (All-cons (λ x. x < 256) hi.byte [] small (All-nil (λ x. x < 256)))

  read : keys4_of (slice_index w5 (base + 2)) ≡ keys
  read = ap keys4_of keys_now ∙ keys4_back keys (omega arith) bytes

  abbrev hang : Option ℕ → Child
  hang o = child_in s w5 (option_map (λ i. base + 3 + i) o)

  on : (y : ℕ) → child_on s w5 base Four y ≡ hang (place_of y keys)
  on y = ap (λ ks. hang (place_of y ks)) read

  on_lo : child_on s w5 base Four lo.byte ≡ lo.child
  on_lo = on lo.byte ∙ ap (λ b. hang (if b then Some 0 else option_map (λ i. i + 1) (place_of lo.byte (hi.byte ∷ []))))
      (eq-eqb lo.byte lo.byte refl) ∙ lo_now

  on_hi : child_on s w5 base Four hi.byte ≡ hi.child
  on_hi =
      on hi.byte
      ∙ ap (λ b. hang (if b then Some 0 else option_map (λ i. i + 1) (place_of hi.byte (hi.byte ∷ []))))
      (ne_eqb lo.byte hi.byte (λ e. omega (arith, e, order)))
      ∙ ap (λ b. hang (option_map (λ i. i + 1) (if b then Some 0 else None))) (eq-eqb hi.byte hi.byte refl) ∙ hi_now

  on_other : (z : ℕ) → z ≢ lo.byte → z ≢ hi.byte → child_on s w5 base Four z ≡ Empty
  on_other z a b =
      on z
      ∙ ap (λ b. hang (if b then Some 0 else option_map (λ i. i + 1) (place_of z (hi.byte ∷ [])))) (ne_eqb lo.byte z (λ e. a (sym e)))
      ∙ ap (λ b. hang (option_map (λ i. i + 1) (if b then Some 0 else None))) (ne_eqb hi.byte z (λ e. b (sym e)))

  pub pair_hung : HasPair s words (with_pair s words slot base (info_word Four level path) lo hi) base slot level path lo hi
  pair_hung =
      record {
        long = stored-long w4 slot (row_word base) ∙ long4;
        same = outside_now;
        claimed = claim_now;
        version = version_now;
        info = info_now;
        form = (keys, keys_now, omega arith, rising, bytes);
        first = on_lo;
        second = on_hi;
        others = on_other;
        hangs = stored-at w4 slot (row_word base) (omega (arith, inside, long4));
        small = λ h short_lo short_hi low_base low_info.
            small-stored w4 slot (row_word base) (small-child w3 (base + 3 + 1) hi.child (small-child w2 (base + 3 + 0) lo.child
            (small-stored w1 (base + 2) (keys4_word keys) (small-stored w0 (base + 1) (info_word Four level path)
            (small-stored words 1 ((slice_index words 1 + 1) % 2 ^ 64) h (omega arith)) low_info)
            (keys4_below keys (omega arith) bytes)) short_lo) short_hi) (omega (arith, low_base));
      }

turned : {s : Shape} {words later : List ℕ} {base slot level : ℕ} {path : List ℕ} {a b : Under}
    → HasPair s words later base slot level path a b
    → HasPair s words later base slot level path b a
turned h =
    record {
      long = h.long;
      same = h.same;
      claimed = h.claimed;
      version = h.version;
      info = h.info;
      form = h.form;
      first = h.second;
      second = h.first;
      others = λ z a b. h.others z b a;
      hangs = h.hangs;
      small = λ k a b. h.small k b a;
    }

pub byte_at-small : (c : Setting) (d : ℕ) → byte_at c d < 256
byte_at-small c zero = omega arith
byte_at-small c (suc zero) = omega arith
byte_at-small c (suc (suc zero)) = omega arith
byte_at-small c (suc (suc (suc zero))) = omega arith
byte_at-small c (suc (suc (suc (suc d)))) = omega arith

pub pair-comes : (c : Setting) (held : List Row) (slot d : ℕ) (old : Under) (words : List ℕ)
    → slice_index words (claims_of Four) < rows_of c.shape Four
    → Comes (pair_in c held slot d old) words tt (with_pair c.shape words slot (fresh_base c.shape words Four)
    (info_word Four d (take d (key_bytes (key_of c.call)))) (lesser old (record { byte = byte_at c d; child = new_leaf c.call }))
    (greater old (record { byte = byte_at c d; child = new_leaf c.call })))
unfolding pair_in pair
pair-comes c held slot d old words room =
    let new : Under = record { byte = byte_at c d; child = new_leaf c.call } in
    let base : ℕ = fresh_base c.shape words Four in
    let info : ℕ = info_word Four d (take d (key_bytes (key_of c.call))) in
    let keys : ℕ = keys4_word ((lesser old new).byte ∷ (greater old new).byte ∷ []) in
    let w0 : List ℕ = with_claim words Four in
    let w1 : List ℕ = slice_set w0 (base + 1) info in
    let w2 : List ℕ = slice_set w1 (base + 2) keys in
    let w3 : List ℕ = with_child w2 (base + 3 + 0) (lesser old new).child in
    let w4 : List ℕ = with_child w3 (base + 3 + 1) (greater old new).child in
    bind-comes {m = pair c held d old new} {f = λ word. store slot word}
    (bind-comes {m = claim c held Four} {f = λ base. store (base + 1) info
    >> (store (base + 2) keys >> (store_child (base + 3 + 0) (lesser old new).child
    >> (store_child (base + 3 + 1) (greater old new).child >> give (row_word base))))}
    (claim-comes c held Four words (lt-ltb (slice_index words (claims_of Four)) (rows_of c.shape Four) room))
    (then-comes {n = store (base + 2) keys >> (store_child (base + 3 + 0) (lesser old new).child
    >> (store_child (base + 3 + 1) (greater old new).child >> give (row_word base)))} (store-comes (base + 1) info w0)
    (then-comes {n = store_child (base + 3 + 0) (lesser old new).child >> (store_child (base + 3 + 1) (greater old new).child >>
    give (row_word base))}
    (store-comes (base + 2) keys w1)
    (then-comes {n = store_child (base + 3 + 1) (greater old new).child >> give (row_word base)}
    (store_child-comes (base + 3 + 0) (lesser old new).child w2)
    (then-comes {n = give (row_word base)} (store_child-comes (base + 3 + 1) (greater old new).child w3)
    (give-comes (row_word base) w4))))))
    (store-comes slot (row_word base) w4)

-- whichever of the two bytes is the lesser one
in_order : (s : Shape) (words : List ℕ) (slot base level : ℕ) (path : List ℕ) (a b : Under) → IsStored s a.child
    → IsStored s b.child → a.byte ≢ b.byte
    → a.byte < 256 → b.byte < 256 → 5 ≤ base → base + 7 ≤ length words → 5 ≤ slot → slot < length words → IsOutside base Four slot
    → HasPair s words (with_pair s words slot base (info_word Four level path) (lesser a b) (greater a b)) base slot level path a b
in_order s words slot base level path a b ha hb other la lb begins fits behind inside outside = go (nat_lt a.byte b.byte) refl
  where
    go : (t : Bool) → nat_lt a.byte b.byte ≡ t
        → HasPair s words (with_pair s words slot base (info_word Four level path) (if t then a else b) (if t then b else a)) base
        slot level path a b
    go true e = pair_hung s words slot base level path a b ha hb (ltb-true a.byte b.byte e) lb begins fits behind inside outside
    go false e =
        turned (pair_hung s words slot base level path b a hb ha (omega (arith, ltb-false a.byte b.byte e, other)) la begins fits
        behind inside outside)

pub pair_is_hung : (c : Setting) (held : List Row) (slot d : ℕ) (old : Under) (words : List ℕ) (key value : ℕ)
    → c.call ≡ Insert key value → value < 2 ^ 30
    → IsStored c.shape old.child → old.byte < 256 → old.byte ≢ byte_at c d → slice_index words (claims_of Four) < rows_of c.shape Four
    → table_words c.shape ≤ length words → 5 ≤ slot → slot < length words → IsOutside (fresh_base c.shape words Four) Four slot
    → (later : List ℕ) × Comes (pair_in c held slot d old) words tt later
    × HasPair c.shape words later (fresh_base c.shape words Four) slot d (take d (key_bytes key)) old
    (record { byte = byte_at c d; child = Leaf key value })
pair_is_hung c held slot d old words key value call small stored byte other room fits behind inside outside =
    let base : ℕ = fresh_base c.shape words Four in
    let at = kind_at-base_of c.shape Four (slice_index words (claims_of Four)) room in
    let new : Call → Under = λ k. record { byte = byte_at c d; child = new_leaf k } in
    let later : List ℕ = with_pair c.shape words slot base (info_word Four d (take d (key_bytes (key_of c.call)))) (lesser old (new c.call))
    (greater old (new c.call)) in
    let hung : HasPair c.shape words later base slot d (take d (key_bytes (key_of c.call))) old (new c.call) =
    in_order c.shape words slot base d (take d (key_bytes (key_of c.call))) old (new c.call) stored
    (subst (λ k. IsStored c.shape (new_leaf k)) (sym call) small) other byte (byte_at-small c d) (row_begins c.shape base Four at)
    (omega (arith, row_ends c.shape base Four at, fits)) behind inside outside in (
      later,
      pair-comes c held slot d old words room,
      subst (λ k. HasPair c.shape words later base slot d (take d (key_bytes (key_of k))) old (new k)) call hung,
    )
