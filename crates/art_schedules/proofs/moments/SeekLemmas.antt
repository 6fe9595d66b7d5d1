-- The attempt of a get that answers: the row that it entered last was checked with the version with which it was entered, and the reply is
-- what its words say.
use Rattle.art_schedules.proofs.Common.{◌≡◌, ◌≢◌, ℕ, zero, suc, ◌+◌, ◌-◌, ◌%◌, ◌<◌, ◌≤◌, List, [], ◌∷◌, ◌++◌, length, take, refl, ap, sym, subst}
use Rattle.art_schedules.proofs.words.TableLemmas.{kind_at-base_of}
use Rattle.art_schedules.proofs.Common.{Bool, None, Option, Some, append_assoc, arith, false, inl, inr, slice_index, true, ◌==◌, ◌∙◌}
use Rattle.std.specs.Prelude.{◌⊎◌}
use Rattle.art_schedules.proofs.Common.{append-nil, cases_lt, false≢true, if◌then◌else◌, length-append, none-some, same_Some}
use Rattle.std.proofs.lemmas.Bool.{eqb-true}
use Rattle.art_schedules.proofs.Common.{take-length, Get, Reply, Kind, Four, Sixteen, FortyEight, Full, Shape, Child, Empty}
use Rattle.art_schedules.proofs.Common.{ChildRow, Leaf, row_words, kind_at, root_base, info_at, keys_at, more_keys_at, index_at, count_at}
use Rattle.art_schedules.proofs.Common.{child_at, is_locked, is_obsolete, entries_of, place_of, child_of, key_bytes, seven-words, key_byte-small}
use Rattle.art_schedules.proofs.Common.{Load, Point, Asks, Answers, Setting, key_of, path_differs_at, loads-same, answers-asks, asks-answers}
use Rattle.art_schedules.proofs.Common.{HeldRow, Finding, Lacks, Position, Down, Outcome, Root, Stage, Wait, Between, Info, Find, FindKeys, FindMore}
use Rattle.art_schedules.proofs.Common.{Slot, Check, CheckLast, Over, row_at, held, keys_among, byte_in, turn_at, find_at, among_at, keys_one}
use Rattle.art_schedules.proofs.Common.{no_value, seek_unlocked, below_at, CallAt, OnKey, call_after, after_all, call_begun, call_after_words}
use Rattle.art_schedules.proofs.Common.{optimistic, IsSlot, OfRows, KnowsKey}
use Rattle.std.specs.Prelude.{option_map}
use Rattle.events.specs.declared.event.Reply.TheVariants as replies
use Rattle.art_rows.specs.Words.{first_difference, info_of}
use Rattle.art_rows.specs.declared.access.Point.TheVariants as point
use Rattle.art_rows.proofs.TurnLemmas.{answers-same}
use Rattle.art_control_states.specs.declared.stage.Keys.{Keys}
use Rattle.art_control_states.specs.declared.stage.Finding.TheVariants.{Has}
use Rattle.art_control_states.specs.declared.stage.Outcome.TheVariants.{Value}
use Rattle.art_control_states.specs.declared.stage.Target.TheVariants.{Below}
use Rattle.art_control_states.specs.Stages.{root_place, reply_for}
use Rattle.art_control_states.specs.Automaton.{stage_after, find_turn, words_at}
use Rattle.art_core.specs.Meaning.{slot_of, entry_slot, child_in, child_on}
use Rattle.art_schedules.proofs.versions.KeyLemmas.{slot-behind}
use Rattle.art_schedules.proofs.versions.WordFacts.{place-fits, entry-fits}
use Rattle.art_schedules.specs.moments.RowReplies.{reply_of_child, reply_after, row_reply}
use Rattle.art_schedules.proofs.moments.TimeLemmas.{take-more, index-more, index-last}
use Rattle.art_schedules.proofs.moments.ScanLemmas.{child-is-row}
use Rattle.art_schedules.proofs.moments.RowLemmas.{row-within}

no-check : None ≢ Some point.Check
no-check e = cc

take-front : (xs : List ℕ) (w : ℕ) → take (length xs) (xs ++ w ∷ []) ≡ xs
take-front xs w = take-more (length xs) xs w (omega arith) ∙ take-length xs

module _ (s : Shape) (some : 1 ≤ s.rows256) (key : ℕ) where
  abbrev pub c : Setting
  c = optimistic s (Get key)

  -- where an attempt is after these words
  abbrev pub fold : Stage → List ℕ → Stage
  fold st [] = st
  fold st (w ∷ ws) = fold (stage_after c st w) ws

  abbrev pub stage : List ℕ → Stage
  stage attempt = fold (Wait Root) attempt

  pub fold-more : (st : Stage) (ws : List ℕ) (w : ℕ) → fold st (ws ++ w ∷ []) ≡ stage_after c (fold st ws) w
  fold-more st [] w = refl
  fold-more st (v ∷ ws) w = fold-more (stage_after c st v) ws w

  -- the i-th access of the attempt is a load of the word
  pub record Loads (attempt : List ℕ) (i word : ℕ) (mark : Option Point) : Type 0 where
    pub made : i < length attempt
    pub turn : turn_at c (stage (take i attempt)) ≡ Asks (Load word) mark

  loads-more : (attempt : List ℕ) (w i word : ℕ) (mark : Option Point) → Loads attempt i word mark → Loads (attempt ++ w ∷ []) i word mark
  loads-more attempt w i word mark h = record {
    made = omega (arith, h.made, length-append attempt (w ∷ []));
    turn = ap (λ l. turn_at c (stage l)) (take-more i attempt w (omega (arith, h.made))) ∙ h.turn;
  }

  -- the last word, or one before
  loads-cases : (attempt : List ℕ) (w i word : ℕ) (mark : Option Point) → Loads (attempt ++ w ∷ []) i word mark
      → (Loads attempt i word mark) ⊎ ((i ≡ length attempt) × (turn_at c (stage attempt) ≡ Asks (Load word) mark))
  loads-cases attempt w i word mark h = elim (cases_lt i (length attempt)) [
    | inl less ↦ inl (record {
      made = less;
      turn = ap (λ l. turn_at c (stage l))
          (sym (take-more i attempt w (omega (arith, less)))) ∙ h.turn;
    })
    | inr more ↦
        let is : i ≡ length attempt = omega (arith, more, h.made, length-append attempt (w ∷ [])) in
        inr (is, ap (λ l. turn_at c (stage l)) (sym (ap (λ k. take k (attempt ++ w ∷ [])) is ∙ take-front attempt w)) ∙ h.turn)
  ]

  last-loads : (a : List ℕ) (w x : ℕ) (m : Option Point) → turn_at c (stage a) ≡ Asks (Load x) m → Loads (a ++ w ∷ []) (length a) x m
  last-loads a w x m turn =
      record { made = omega (arith, length-append a (w ∷ [])); turn = ap (λ l. turn_at c (stage l)) (take-front a w) ∙ turn }

  -- the row was entered at i
  pub record Entered (attempt : List ℕ) (i base : ℕ) (kind : Kind) : Type 0 where
    pub row : kind_at s base ≡ Some kind
    pub mark : Option Point
    pub loads : Loads attempt i base mark
    pub no_check : mark ≢ Some point.Check
    pub free : is_locked (slice_index attempt i) ≡ false

  entered-more : (attempt : List ℕ) (w i base : ℕ) (kind : Kind) → Entered attempt i base kind → Entered (attempt ++ w ∷ []) i base kind
  entered-more attempt w i base kind e = record {
    row = e.row;
    mark = e.mark;
    loads = loads-more attempt w i base e.mark e.loads;
    no_check = e.no_check;
    free = ap is_locked (index-more i attempt w e.loads.made) ∙ e.free;
  }

  -- the row was entered by the last word, which is not locked, or before
  entered-cases : (a : List ℕ) (w i base : ℕ) (kind : Kind) (e : Entered (a ++ w ∷ []) i base kind)
      → Entered a i base kind ⊎ ((i ≡ length a) × (turn_at c (stage a) ≡ Asks (Load base) e.mark) × (is_locked w ≡ false))
  entered-cases a w i base kind e = elim (loads-cases a w i base e.mark e.loads) [
    | inl old ↦ inl (record {
      row = e.row;
      mark = e.mark;
      loads = old;
      no_check = e.no_check;
      free = ap is_locked (sym (index-more i a w old.made)) ∙ e.free;
    })
    | inr here ↦ inr (here.0, here.1, ap is_locked (sym (ap (slice_index (a ++ w ∷ [])) here.0 ∙ index-last a w)) ∙ e.free)
  ]

  -- The words that were read of a row: of its version the one that was kept.

  -- the row that was entered last, at this entry, and the version that was kept of it
  pub record Last (attempt : List ℕ) (base : ℕ) (kind : Kind) (kept entry : ℕ) : Type 0 where
    pub entered : Entered attempt entry base kind
    pub version : slice_index attempt entry ≡ kept
    pub last : (i b : ℕ) (k : Kind) → Entered attempt i b k → i ≤ entry

  last-more : (a : List ℕ) (w base : ℕ) (kind : Kind) (kept entry : ℕ) → Last a base kind kept entry
      → ((b : ℕ) (k : Kind) (mark : Option Point) → kind_at s b ≡ Some k → turn_at c (stage a) ≡ Asks (Load b) mark
      → mark ≢ Some point.Check → ⊥)
      → Last (a ++ w ∷ []) base kind kept entry
  last-more a w base kind kept entry h none = record {
    entered = entered-more a w entry base kind h.entered;
    version = index-more entry a w h.entered.loads.made ∙ h.version;
    last = λ i b k e. elim (entered-cases a w i b k e) [
      | inl old ↦ h.last i b k old
      | inr here ↦ absurd (none b k e.mark e.row here.1 e.no_check)
    ];
  }

  -- a word within the row is read,
  reads-in : (a : List ℕ) (w base : ℕ) (kind : Kind) (kept entry x : ℕ) (m : Option Point) → Last a base kind kept entry
      → turn_at c (stage a) ≡ Asks (Load x) m → base < x → x < base + row_words kind → Last (a ++ w ∷ []) base kind kept entry
  reads-in a w base kind kept entry x m h turn low high = last-more a w base kind kept entry h (λ b k mark row here no.
      none-some k (sym (row-within s base x kind h.entered.row low high) ∙ (ap (kind_at s) (loads-same (sym turn ∙ here)).0 ∙ row)))

  -- a version is checked
  checks-one : (a : List ℕ) (w base : ℕ) (kind : Kind) (kept entry x : ℕ) → Last a base kind kept entry
      → turn_at c (stage a) ≡ Asks (Load x) (Some point.Check) → Last (a ++ w ∷ []) base kind kept entry
  checks-one a w base kind kept entry x h turn =
      last-more a w base kind kept entry h (λ b k mark row here no. no (sym (loads-same (sym turn ∙ here)).1))

  abbrev NoneYet : List ℕ → Type 0
  NoneYet a = (i b : ℕ) (k : Kind) → Entered a i b k → ⊥

  enters : (a : List ℕ) (w base : ℕ) (kind : Kind) → kind_at s base ≡ Some kind → is_locked w ≡ false
      → turn_at c (stage a) ≡ Asks (Load base) None
      → Last (a ++ w ∷ []) base kind w (length a)
  enters a w base kind row free turn = record {
    entered = record {
      row = row;
      mark = None;
      loads = last-loads a w base None turn;
      no_check = no-check;
      free = ap is_locked
          (index-last a w) ∙ free;
    };
    version = index-last a w;
    last = λ i b k e. omega (arith, e.loads.made, length-append a (w ∷ []));
  }

  -- these words have what was read of the row after its entry
  abbrev pub Agrees : List ℕ → ℕ → ℕ → Kind → List ℕ → Type 0
  Agrees a entry base kind words = (i word : ℕ) (mark : Option Point) → Loads a i word mark → entry ≤ i → base < word
      → word < base + row_words kind
      → slice_index words word ≡ slice_index a i

  agrees-less : (a : List ℕ) (w entry base : ℕ) (kind : Kind) (words : List ℕ) → Agrees (a ++ w ∷ []) entry base kind words
      → Agrees a entry base kind words
  agrees-less a w entry base kind words h i word mark l late low high =
      h i word mark (loads-more a w i word mark l) late low high ∙ index-more i a w l.made

  -- the word that is read now
  agrees-now : (a : List ℕ) (w entry base : ℕ) (kind : Kind) (x : ℕ) (m : Option Point) → turn_at c (stage a) ≡ Asks (Load x) m
      → entry ≤ length a → base < x
      → x < base + row_words kind → (words : List ℕ) → Agrees (a ++ w ∷ []) entry base kind words → slice_index words x ≡ w
  agrees-now a w entry base kind x m turn late low high words h = h (length a) x m (last-loads a w x m turn) late low high ∙ index-last a w

  -- the info word by which the get goes
  abbrev pub InfoOf : List ℕ → ℕ → ℕ → ℕ → Type 0
  InfoOf a entry base info =
      ((base ≡ root_base s) × (info ≡ 3) × ((i b : ℕ) (k : Kind) → Entered a i b k → entry ≤ i))
      ⊎ ((i : ℕ) × (entry ≤ i) × Loads a i (info_at base) None × (slice_index a i ≡ info))

  info-more : (a : List ℕ) (w entry base info : ℕ) → entry ≤ length a → InfoOf a entry base info → InfoOf (a ++ w ∷ []) entry base info
  info-more a w entry base info most (inl h) = inl (
    h.0,
    h.1,
    λ i b k e. elim (entered-cases a w i b k e) [
      | inl old ↦ h.2 i b k old
      | inr here ↦ omega (arith, most, here.0)
    ],
  )
  info-more a w entry base info most (inr h) = inr (h.0, h.1, loads-more a w h.0 (info_at base) None h.2, index-more h.0 a w h.2.made ∙ h.3)

  abbrev path_of : HeldRow → List ℕ
  path_of n = (info_of n.kind n.info).path

  -- the row that is read: it was entered last, and its path begins the key
  pub record Reading (a : List ℕ) (n : HeldRow) (entry : ℕ) : Type 0 where
    pub last : Last a n.base n.kind n.kept entry
    pub info : InfoOf a entry n.base n.info
    pub fits : first_difference (path_of n) (key_bytes key) ≡ None

  earlier : (a : List ℕ) (n : HeldRow) (entry : ℕ) → Reading a n entry → entry ≤ length a
  earlier a n entry h = omega (arith, h.last.entered.loads.made)

  reading-more : (a : List ℕ) (w : ℕ) (n : HeldRow) (entry x : ℕ) (m : Option Point) → Reading a n entry
      → turn_at c (stage a) ≡ Asks (Load x) m
      → n.base < x → x < n.base + row_words n.kind → Reading (a ++ w ∷ []) n entry
  reading-more a w n entry x m h turn low high = record {
    last = reads-in a w n.base n.kind n.kept entry x m h.last turn low high;
    info = info-more a w entry n.base n.info (earlier a n entry h) h.info;
    fits = h.fits;
  }

  abbrev Agreed : List ℕ → ℕ → HeldRow → List ℕ → Type 0
  Agreed a entry n words = Agrees a entry n.base n.kind words

  -- What FIND has seen so far, in any words that have what was read.

  abbrev IsWord : List ℕ → ℕ → HeldRow → ℕ → ℕ → Type 0
  IsWord a entry n word value = (words : List ℕ) → Agreed a entry n words → slice_index words word ≡ value

  abbrev IsSlotOf : List ℕ → ℕ → HeldRow → Option ℕ → Type 0
  IsSlotOf a entry n slot = (words : List ℕ) → Agreed a entry n words → slot_of words n.base n.kind (byte_in c n) ≡ slot

  abbrev seen : Finding → Child
  seen (Lacks keys) = Empty
  seen (Has slot child) = child

  abbrev Sees : List ℕ → ℕ → HeldRow → Finding → Type 0
  Sees a entry n f = (words : List ℕ) → Agreed a entry n words → child_on s words n.base n.kind (byte_in c n) ≡ seen f

  abbrev IsFinding : Finding → Type 0
  IsFinding (Lacks keys) = Unit {0}
  IsFinding (Has slot child) = (b : ℕ) (k : Kind) → child ≡ ChildRow b k → kind_at s b ≡ Some k

  -- The row entered last was checked, and nothing was read after that.

  pub record Checked (attempt : List ℕ) (base : ℕ) (kind : Kind) (entry : ℕ) : Type 0 where
    pub entered : Entered attempt entry base kind
    pub last : (i b : ℕ) (k : Kind) → Entered attempt i b k → i ≤ entry
    pub check : ℕ
    pub behind : entry < check
    pub loads : Loads attempt check base (Some point.Check)
    pub same : slice_index attempt check ≡ slice_index attempt entry
    pub final : (i word : ℕ) (mark : Option Point) → Loads attempt i word mark → i ≤ check

  pub record Done (attempt : List ℕ) (reply : Reply) : Type 0 where
    pub base : ℕ
    pub kind : Kind
    pub entry : ℕ
    pub checked : Checked attempt base kind entry
    pub info : ℕ
    pub goes_by : InfoOf attempt entry base info
    pub says : (words : List ℕ) → Agrees attempt entry base kind words → row_reply s words base kind info key ≡ Some reply

  checked-now : (a : List ℕ) (w base : ℕ) (kind : Kind) (kept entry : ℕ) → Last a base kind kept entry
      → turn_at c (stage a) ≡ Asks (Load base) (Some point.Check) → w ≡ kept → Checked (a ++ w ∷ []) base kind entry
  checked-now a w base kind kept entry h turn is = record {
    entered = entered-more a w entry base kind h.entered;
    last = (checks-one a w base kind kept entry base h turn).last;
    check = length a;
    behind = h.entered.loads.made;
    loads = last-loads a w base (Some point.Check) turn;
    same = index-last a w ∙ (is ∙ (sym h.version ∙ sym (index-more entry a w h.entered.loads.made)));
    final = λ i word mark l. omega (arith, l.made, length-append a (w ∷ []));
  }

  over-more : (a : List ℕ) (w : ℕ) (r reply : Reply) → Done a r → turn_at c (stage a) ≡ Answers reply → Done (a ++ w ∷ []) r
  over-more a w r reply h turn =
      let k = h.checked in
      record {
        base = h.base;
        kind = h.kind;
        entry = h.entry;
        checked = record {
          entered = entered-more a w h.entry h.base h.kind k.entered;
          last = λ i b kind e. elim (entered-cases a w i b kind e) [
            | inl old ↦ k.last i b kind old
            | inr here ↦ absurd (answers-asks (sym turn ∙ here.1))
          ];
          check = k.check;
          behind = k.behind;
          loads = loads-more a w k.check h.base (Some point.Check) k.loads;
          same = index-more k.check a w k.loads.made ∙ (k.same ∙ sym (index-more h.entry a w k.entered.loads.made));
          final = λ i word mark l. elim (loads-cases a w i word mark l) [
            | inl old ↦ k.final i word mark old
            | inr here ↦ absurd (answers-asks (sym turn ∙ here.1))
          ];
        };
        info = h.info;
        goes_by = info-more a w h.entry h.base h.info (omega (arith, k.entered.loads.made)) h.goes_by;
        says = λ words g. h.says words (agrees-less a w h.entry h.base h.kind words g);
      }

  -- What holds of an attempt at each of the stages at which a get can be.
  pub data Seeks (a : List ℕ) : Stage → Type 0 where
    at_root : NoneYet a → Seeks a (Wait Root)
    at_row : (d : Down) → kind_at s d.base ≡ Some d.kind → Seeks a (Wait (Below d))
    between : (d : Down) → (kept entry : ℕ) → Last a d.base d.kind kept entry → Seeks a (Between d kept)
    at_info : (d : Down) → (kept entry : ℕ) → Last a d.base d.kind kept entry → Seeks a (Info d kept)
    finds : (p : Position) → (entry : ℕ) → Reading a p.row entry → Seeks a (Find p)
    finds_keys : (p : Position) → (count entry : ℕ) → Reading a p.row entry → p.row.kind ≡ Sixteen
        → IsWord a entry p.row (count_at Sixteen p.row.base) count
        → Seeks a (FindKeys p count)
    finds_more : (p : Position) → (count first entry : ℕ) → Reading a p.row entry → p.row.kind ≡ Sixteen
        → IsWord a entry p.row (count_at Sixteen p.row.base) count
        → IsWord a entry p.row (keys_at p.row.base) first → Seeks a (FindMore p count first)
    at_slot : (p : Position) → (slot entry : ℕ) → Reading a p.row entry → IsSlot p.row.base p.row.kind slot
        → IsSlotOf a entry p.row (Some slot)
        → Seeks a (Slot p slot)
    checks : (p : Position) → (f : Finding) → (entry : ℕ) → Reading a p.row entry → IsFinding f → Sees a entry p.row f → Seeks a (Check p f)
    checks_last : (n : HeldRow) → (place entry : ℕ) → Last a n.base n.kind n.kept entry → InfoOf a entry n.base n.info
        → first_difference (path_of n) (key_bytes key) ≡ Some place → Seeks a (CheckLast n)
    over : (outcome : Outcome) → Done a (reply_for outcome) → Seeks a (Over outcome)

  is-row : (word b : ℕ) (k : Kind) → child_of s word ≡ ChildRow b k → kind_at s b ≡ Some k
  is-row word b k e = child-is-row s some 0 0 word b k e

  -- the keys are read: the byte has a place among them or not
  words-go : (a : List ℕ) (p : Position) (keys : Keys) (entry : ℕ) → Reading a p.row entry
      → IsSlotOf a entry p.row (option_map (child_at p.row.kind p.row.base) (place_of (byte_in c p.row) (keys_among p.row.kind keys)))
      → Seeks a (words_at false false false c p keys)
  words-go a p keys entry h slots = go (place_of (byte_in c p.row) (keys_among p.row.kind keys)) refl slots
    where
      go : (o : Option ℕ) → place_of (byte_in c p.row) (keys_among p.row.kind keys) ≡ o
          → IsSlotOf a entry p.row (option_map (child_at p.row.kind p.row.base) o) → Seeks a (among_at false false false c p keys o)
      go None e is = checks p (Lacks keys) entry h tt (λ words g. ap (child_in s words) (is words g))
      go (Some place) e is = at_slot p _ entry h (place, place-fits p.row.kind keys (byte_in c p.row) place e, refl) is

  abbrev pos : ℕ → Kind → ℕ → ℕ → Option HeldRow → ℕ → Position
  pos base kind info kept above slot = record { row = held base kind info kept; above = above; slot = slot }

  find-go : (a : List ℕ) (base : ℕ) (kind : Kind) (info kept : ℕ) (above : Option HeldRow) (slot w entry : ℕ)
      → turn_at c (stage a) ≡ find_turn kind c (held base kind info kept) → Reading a (held base kind info kept) entry
      → Seeks (a ++ w ∷ []) (find_at false false false kind c (pos base kind info kept above slot) w)
  find-go a base Four info kept above slot w entry turn h =
      let n = held base Four info kept in
      words-go (a ++ w ∷ []) (pos base Four info kept above slot) (keys_one w) entry
      (reading-more a w n entry (keys_at base) None h turn (omega arith) (omega arith))
      (λ words g. ap (λ v. option_map (child_at Four base) (place_of (byte_in c n) (Rattle.art_rows.specs.Words.keys4_of v)))
      (agrees-now a w entry base Four (keys_at base) None turn (earlier a n entry h) (omega arith) (omega arith) words g))
  find-go a base Sixteen info kept above slot w entry turn h =
      let n = held base Sixteen info kept in
      finds_keys (pos base Sixteen info kept above slot) w entry
      (reading-more a w n entry (count_at Sixteen base) None h turn (omega arith) (omega arith)) refl
      (agrees-now a w entry base Sixteen (count_at Sixteen base) None turn (earlier a n entry h) (omega arith) (omega arith))
  find-go a base FortyEight info kept above slot w entry turn h = go (slice_index (entries_of w) (byte_in c n % 8) == 0) refl
    where
      n : HeldRow
      n = held base FortyEight info kept

      p : Position
      p = pos base FortyEight info kept above slot

      small : byte_in c n < 256
      small = key_byte-small (key_of (Get key)) (row_at n).level

      more : Reading (a ++ w ∷ []) n entry
      more = reading-more a w n entry (index_at base (byte_in c n)) None h turn (omega (arith, small)) (omega (arith, small))

      place : ℕ
      place = slice_index (entries_of w) (byte_in c n % 8)

      is-slot : IsSlotOf (a ++ w ∷ []) entry n (entry_slot base place)
      is-slot words g = ap (λ v. entry_slot base (slice_index (entries_of v) (byte_in c n % 8)))
          (agrees-now a w entry base FortyEight (index_at base (byte_in c n)) None turn (earlier a n entry h) (omega (arith, small))
          (omega (arith, small)) words g)

      go : (b : Bool) → (place == 0) ≡ b → Seeks (a ++ w ∷ []) (if b then Check p (Lacks (keys_one w)) else Slot p
          (child_at FortyEight base (place - 1)))
      go true e = checks p (Lacks (keys_one w)) entry more tt
          (λ words g. ap (child_in s words) (is-slot words g ∙ ap (λ b. if b then None else Some (child_at FortyEight base (place - 1))) e))
      go false e = at_slot p _ entry more (place - 1, entry-fits w (byte_in c n % 8), refl)
          (λ words g. is-slot words g ∙ ap (λ b. if b then None else Some (child_at FortyEight base (place - 1))) e)
  find-go a base Full info kept above slot w entry turn h =
      let n = held base Full info kept in
      let small = key_byte-small (key_of (Get key)) (row_at n).level in
      checks (pos base Full info kept above slot) (Has (child_at Full base (byte_in c n)) (child_of s w)) entry
      (reading-more a w n entry (child_at Full base (byte_in c n)) None h turn (omega (arith, small)) (omega (arith, small)))
      (λ b k e. is-row w b k e)
      (λ words g. ap (child_of s)
      (agrees-now a w entry base Full (child_at Full base (byte_in c n)) None turn (earlier a n entry h) (omega (arith, small))
      (omega (arith, small)) words g))

  -- each word leads on, or the get starts again
  abbrev Next : List ℕ → Stage → ℕ → Type 0
  Next a st w = Seeks (a ++ w ∷ []) (stage_after c st w) ⊎ (stage_after c st w ≡ Wait Root)

  -- the row was checked after FIND
  module _ (a : List ℕ) (n : HeldRow) (entry : ℕ) (h : Checked a n.base n.kind entry) (info : InfoOf a entry n.base n.info)
      (fits : first_difference (path_of n) (key_bytes key) ≡ None) where
    answers : (child : Child) (reply : Reply) → ((words : List ℕ) → Agreed a entry n words → child_on s words n.base n.kind
        (byte_in c n) ≡ child)
        → reply_of_child key child ≡ Some reply → Done a reply
    answers child reply is replies = record {
      base = n.base;
      kind = n.kind;
      entry = entry;
      checked = h;
      info = n.info;
      goes_by = info;
      says = λ words g. ap (λ o. reply_after o (reply_of_child key (child_on s words n.base n.kind (byte_in c n)))) fits
          ∙ (ap (reply_of_child key) (is words g) ∙ replies);
    }

    seek-go : (f : Finding) → IsFinding f → Sees a entry n f → Seeks a (seek_unlocked c n f)
    seek-go (Lacks keys) is sees = over _ (answers Empty replies.None sees refl)
    seek-go (Has slot Empty) is sees = over _ (answers Empty replies.None sees refl)
    seek-go (Has slot (Leaf k value)) is sees = go (k == key) refl
      where
        go : (b : Bool) → (k == key) ≡ b → Seeks a (if b then Over (Value (Some value)) else Over no_value)
        go true e = over _ (answers (Leaf k value) (replies.Some value) sees
            (ap (λ b. Some (if b then replies.Some value else replies.None)) e))
        go false e = over _ (answers (Leaf k value) replies.None sees (ap (λ b. Some (if b then replies.Some value else replies.None)) e))
    seek-go (Has slot (ChildRow base kind)) is sees = at_row _ (is base kind refl)

  root-row : kind_at s (root_base s) ≡ Some Full
  root-row = kind_at-base_of s Full 0 some

  -- the info of the row below
  below-go : (a : List ℕ) (d : Down) (info kept entry : ℕ) (o : Option ℕ) → Last a d.base d.kind kept entry → InfoOf a entry d.base info
      → first_difference (path_of (held d.base d.kind info kept)) (key_bytes key) ≡ o
      → Seeks a (below_at false false c d (held d.base d.kind info kept) o)
  below-go a d info kept entry None h i e = finds _ entry (record { last = h; info = i; fits = e })
  below-go a d info kept entry (Some x) h i e = checks_last _ x entry h i e

  goes : (a : List ℕ) (st : Stage) (w : ℕ) → turn_at c (stage a) ≡ turn_at c st → Seeks a st → Next a st w
  goes a st w turn (at_root none) = go (is_locked w) (is_obsolete w) refl
    where
      first : (i b : ℕ) (k : Kind) → Entered (a ++ w ∷ []) i b k → i ≡ length a
      first i b k e = elim (entered-cases a w i b k e) [
        | inl old ↦ absurd (none i b k old)
        | inr here ↦ here.0
      ]

      still-none : is_locked w ≡ true → NoneYet (a ++ w ∷ [])
      still-none locked i b k e = elim (entered-cases a w i b k e) [
        | inl old ↦ none i b k old
        | inr here ↦ false≢true (sym here.2 ∙ locked)
      ]

      go : (b d : Bool) → is_locked w ≡ b
          → Seeks (a ++ w ∷ []) (if b then Wait Root else if d then Wait Root else Find (root_place c w))
          ⊎ ((if b then Wait Root else if d then Wait Root else Find (root_place c w)) ≡ Wait Root)
      go true d e = inl (at_root (still-none e))
      go false true e = inr refl
      go false false e = inl (finds _ (length a) (record {
        last = enters a w (root_base s) Full root-row e turn;
        info = inl (refl, refl, λ i b k x. omega (arith, first i b k x));
        fits = refl;
      }))
  goes a st w turn (at_row d row) = go (is_locked w) (is_obsolete w) refl
    where
      go : (b e : Bool) → is_locked w ≡ b
          → Seeks (a ++ w ∷ []) (if b then Wait (Below d) else if e then Wait Root else Between d w)
          ⊎ ((if b then Wait (Below d) else if e then Wait Root else Between d w) ≡ Wait Root)
      go true o e = inl (at_row d row)
      go false true e = inr refl
      go false false e = inl (between d w (length a) (enters a w d.base d.kind row e turn))
  goes a st w turn (between d kept entry h) = go (w == d.above.kept)
    where
      go : (b : Bool) → Seeks (a ++ w ∷ []) (if b then Info d kept else Wait Root) ⊎ ((if b then Info d kept else Wait Root) ≡ Wait Root)
      go true = inl (at_info d kept entry (checks-one a w d.base d.kind kept entry d.above.base h turn))
      go false = inr refl
  goes a st w turn (at_info d kept entry h) =
      inl (below-go (a ++ w ∷ []) d w kept entry (path_differs_at c (row_at (held d.base d.kind w kept)))
      (reads-in a w d.base d.kind kept entry (info_at d.base) None h turn (omega arith) (omega (arith, seven-words d.kind)))
      (inr (length a, omega (arith, h.entered.loads.made), last-loads a w (info_at d.base) None turn, index-last a w)) refl)
  goes a st w turn (finds p entry h) = inl (find-go a p.row.base p.row.kind p.row.info p.row.kept p.above p.slot w entry turn h)
  goes a st w turn (finds_keys p count entry h is counts) =
      inl (finds_more p count w entry
      (reading-more a w p.row entry (keys_at p.row.base) None h turn (omega arith) (omega (arith, seven-words p.row.kind))) is
      (λ words g. counts words (agrees-less a w entry p.row.base p.row.kind words g))
      (agrees-now a w entry p.row.base p.row.kind (keys_at p.row.base) None turn (earlier a p.row entry h) (omega arith)
      (omega (arith, seven-words p.row.kind))))
  goes a st w turn (finds_more p count first entry h is counts firsts) =
      inl (words-go (a ++ w ∷ []) p (record { first = first; second = w; count = count }) entry
      (reading-more a w p.row entry (more_keys_at p.row.base) None h turn (omega arith) (omega (arith, seven-words p.row.kind)))
      (λ words g. sixteen p.row.kind is words
      (counts words (agrees-less a w entry p.row.base p.row.kind words g))
      (firsts words (agrees-less a w entry p.row.base p.row.kind words g))
      (agrees-now a w entry p.row.base p.row.kind (more_keys_at p.row.base) None turn (earlier a p.row entry h) (omega arith)
      (omega (arith, seven-words p.row.kind)) words g)))
    where
      sixteen : (kind : Kind) → kind ≡ Sixteen → (words : List ℕ) → slice_index words (count_at Sixteen p.row.base) ≡ count
          → slice_index words (keys_at p.row.base) ≡ first → slice_index words (more_keys_at p.row.base) ≡ w
          → slot_of words p.row.base kind (byte_in c p.row)
          ≡ option_map (child_at kind p.row.base)
          (place_of (byte_in c p.row) (keys_among kind (record { first = first; second = w; count = count })))
      sixteen Four e words x y z = absurd cc
      sixteen FortyEight e words x y z = absurd cc
      sixteen Full e words x y z = absurd cc
      sixteen Sixteen e words x y z =
          ap (λ v. option_map (child_at Sixteen p.row.base) (place_of (byte_in c p.row) (Rattle.art_rows.specs.Words.keys16_of v
          (slice_index words (keys_at p.row.base)) (slice_index words (more_keys_at p.row.base))))) x
          ∙ (ap (λ v. option_map (child_at Sixteen p.row.base) (place_of (byte_in c p.row) (Rattle.art_rows.specs.Words.keys16_of count v
          (slice_index words (more_keys_at p.row.base))))) y
          ∙ ap (λ v. option_map (child_at Sixteen p.row.base)
          (place_of (byte_in c p.row) (Rattle.art_rows.specs.Words.keys16_of count first v))) z)
  goes a st w turn (at_slot p slot entry h is slots) =
      let behind = slot-behind p.row.base p.row.kind slot is in
      inl (checks p (Has slot (child_of s w)) entry
      (reading-more a w p.row entry slot (Some point.Child) h turn (omega (arith, behind.0)) behind.1)
      (λ b k e. is-row w b k e)
      (λ words g. ap (child_in s words) (slots words (agrees-less a w entry p.row.base p.row.kind words g))
      ∙ ap (child_of s) (agrees-now a w entry p.row.base p.row.kind slot (Some point.Child) turn (earlier a p.row entry h)
      (omega (arith, behind.0)) behind.1 words g)))
  goes a st w turn (checks p f entry h is sees) = go (w == p.row.kept) refl
    where
      go : (b : Bool) → (w == p.row.kept) ≡ b
          → Seeks (a ++ w ∷ []) (if b then seek_unlocked c p.row f else Wait Root)
          ⊎ ((if b then seek_unlocked c p.row f else Wait Root) ≡ Wait Root)
      go true e = inl (seek-go (a ++ w ∷ []) p.row entry
          (checked-now a w p.row.base p.row.kind p.row.kept entry h.last turn (eqb-true w p.row.kept e))
          (info-more a w entry p.row.base p.row.info (earlier a p.row entry h) h.info) h.fits f is
          (λ words g. sees words (agrees-less a w entry p.row.base p.row.kind words g)))
      go false e = inr refl
  goes a st w turn (checks_last n place entry h info differs) = go (w == n.kept) refl
    where
      go : (b : Bool) → (w == n.kept) ≡ b
          → Seeks (a ++ w ∷ []) (if b then Over no_value else Wait Root)
          ⊎ ((if b then Over no_value else Wait Root) ≡ Wait Root)
      go true e = inl (over _ (record {
        base = n.base;
        kind = n.kind;
        entry = entry;
        checked = checked-now a w n.base n.kind n.kept entry h turn (eqb-true w n.kept e);
        info = n.info;
        goes_by = info-more a w entry n.base n.info (omega (arith, h.entered.loads.made)) info;
        says = λ words g. ap (λ o. reply_after o (reply_of_child key (child_on s words n.base n.kind (byte_in c n)))) differs;
      }))
      go false e = inr refl
  goes a st w turn (over outcome h) = inl (over outcome (over-more a w _ _ h turn))

  -- A row that is entered is the root or the one that was waited for.
  pub entering : (a : List ℕ) (st : Stage) (base : ℕ) (kind : Kind) (mark : Option Point) → Seeks a st
      → turn_at c st ≡ Asks (Load base) mark
      → mark ≢ Some point.Check → kind_at s base ≡ Some kind → (P : OfRows) → P (root_base s) Full → KnowsKey P c st → P base kind
  entering a st base kind mark seeks turn unchecked row P root knows = go st seeks turn knows
    where
      same-row : (b x : ℕ) (k : Kind) → P b k → kind_at s b ≡ Some k → b ≡ base → P base kind
      same-row b x k p at e = subst (λ y. P base y) (same_Some k kind (sym at ∙ (ap (kind_at s) e ∙ row))) (subst (λ y. P y k) e p)

      within : (b x : ℕ) (k : Kind) → kind_at s b ≡ Some k → x ≡ base → b < x → x < b + row_words k → P base kind
      within b x k at e low high = absurd (none-some kind (sym (row-within s b x k at low high) ∙ (ap (kind_at s) e ∙ row)))

      find : (k : Kind) (n : HeldRow) → kind_at s n.base ≡ Some k → find_turn k c n ≡ Asks (Load base) mark → P base kind
      find Four n at e = within n.base (keys_at n.base) Four at (loads-same e).0 (omega arith) (omega arith)
      find Sixteen n at e = within n.base (count_at Sixteen n.base) Sixteen at (loads-same e).0 (omega arith) (omega arith)
      find FortyEight n at e =
          let small = key_byte-small (key_of (Get key)) (row_at n).level in
          within n.base (index_at n.base (byte_in c n)) FortyEight at (loads-same e).0 (omega (arith, small)) (omega (arith, small))
      find Full n at e =
          let small = key_byte-small (key_of (Get key)) (row_at n).level in
          within n.base (child_at Full n.base (byte_in c n)) Full at (loads-same e).0 (omega (arith, small)) (omega (arith, small))

      go : (st : Stage) → Seeks a st → turn_at c st ≡ Asks (Load base) mark → KnowsKey P c st → P base kind
      go st (at_root none) e k = same-row (root_base s) 0 Full root root-row (loads-same e).0
      go st (at_row d at) e k = same-row d.base 0 d.kind k.known.0 at (loads-same e).0
      go st (between d kept entry h) e k = absurd (unchecked (sym (loads-same e).1))
      go st (at_info d kept entry h) e k =
          within d.base (info_at d.base) d.kind h.entered.row (loads-same e).0 (omega arith) (omega (arith, seven-words d.kind))
      go st (finds p entry h) e k = find p.row.kind p.row h.last.entered.row e
      go st (finds_keys p count entry h is counts) e k =
          within p.row.base (keys_at p.row.base) p.row.kind h.last.entered.row (loads-same e).0 (omega arith)
          (omega (arith, seven-words p.row.kind))
      go st (finds_more p count first entry h is counts firsts) e k =
          within p.row.base (more_keys_at p.row.base) p.row.kind h.last.entered.row (loads-same e).0 (omega arith)
          (omega (arith, seven-words p.row.kind))
      go st (at_slot p slot entry h is slots) e k =
          let behind = slot-behind p.row.base p.row.kind slot is in
          within p.row.base slot p.row.kind h.last.entered.row (loads-same e).0 (omega (arith, behind.0)) behind.1
      go st (checks p f entry h is sees) e k = absurd (unchecked (sym (loads-same e).1))
      go st (checks_last n place entry h info differs) e k = absurd (unchecked (sym (loads-same e).1))
      go st (over outcome h) e k = absurd (answers-asks e)

  -- A get's words are those of earlier attempts, and of one that has not started again.

  abbrev pub AllSeek : List ℕ → Type 0
  AllSeek attempt = (i : ℕ) → i ≤ length attempt → Seeks (take i attempt) (stage (take i attempt))

  pub at-end : (attempt : List ℕ) → AllSeek attempt → Seeks attempt (stage attempt)
  at-end attempt h = subst (λ l. Seeks l (stage l)) (take-length attempt) (h (length attempt) (omega arith))

  one-more : (attempt : List ℕ) (w : ℕ) → AllSeek attempt → Seeks (attempt ++ w ∷ []) (stage (attempt ++ w ∷ []))
      → AllSeek (attempt ++ w ∷ [])
  one-more attempt w h now i most = elim (cases_lt (length attempt) i) [
    | inl last ↦
        let all : i ≡ length (attempt ++ w ∷ []) = omega (arith, last, most, length-append attempt (w ∷ [])) in
        subst (λ l. Seeks l (stage l)) (sym (ap (λ k. take k (attempt ++ w ∷ [])) all ∙ take-length (attempt ++ w ∷ []))) now
    | inr old ↦ subst (λ l. Seeks l (stage l)) (sym (take-more i attempt w old)) (h i old)
  ]

  none-yet : AllSeek []
  none-yet i most = subst (λ l. Seeks l (stage l)) (sym (take-nothing i)) (at_root (λ i b k e. omega (arith, e.loads.made)))
    where
      take-nothing : (n : ℕ) → ◌≡◌ {A = List ℕ} (take n []) []
      take-nothing zero = refl
      take-nothing (suc n) = refl

  pub all-fold : (st : Stage) (ws : List ℕ) → after_all c (OnKey st) ws ≡ OnKey (fold st ws)
  all-fold st [] = refl
  all-fold st (w ∷ ws) = all-fold (stage_after c st w) ws

  pub all-append : (x : CallAt) (ws vs : List ℕ) → after_all c x (ws ++ vs) ≡ after_all c (after_all c x ws) vs
  all-append x [] vs = refl
  all-append x (w ∷ ws) vs = all-append (call_after c x w) ws vs

  pub record Attempted (got : List ℕ) : Type 0 where
    pub earlier : List ℕ
    pub attempt : List ℕ
    pub all : got ≡ earlier ++ attempt
    pub begins : call_after_words c earlier ≡ OnKey (Wait Root)
    pub seeks : AllSeek attempt

  attempts : (earlier attempt rest : List ℕ) → call_after_words c earlier ≡ OnKey (Wait Root) → AllSeek attempt
      → Attempted (earlier ++ (attempt ++ rest))
  attempts earlier attempt [] begins seeks =
      record { earlier = earlier; attempt = attempt; all = ap (λ l. earlier ++ l) (append-nil attempt); begins = begins; seeks = seeks }
  attempts earlier attempt (w ∷ rest) begins seeks = elim (goes attempt (stage attempt) w refl (at-end attempt seeks)) [
    | inl on ↦ subst Attempted (ap (λ l. earlier ++ l) (append_assoc attempt (w ∷ []) rest))
        (attempts earlier (attempt ++ w ∷ []) rest begins
        (one-more attempt w seeks (subst (Seeks (attempt ++ w ∷ [])) (sym (fold-more (Wait Root) attempt w)) on)))
    | inr again ↦ subst Attempted (append_assoc earlier (attempt ++ w ∷ []) rest ∙ ap (λ l. earlier ++ l)
        (append_assoc attempt (w ∷ []) rest))
        (attempts (earlier ++ (attempt ++ w ∷ [])) [] rest
        (all-append (call_begun c) earlier (attempt ++ w ∷ []) ∙ (ap (λ x. after_all c x (attempt ++ w ∷ [])) begins
        ∙ (all-fold (Wait Root) (attempt ++ w ∷ []) ∙ ap OnKey (fold-more (Wait Root) attempt w ∙ again)))) none-yet)
  ]

  pub attempted : (got : List ℕ) → Attempted got
  attempted got = attempts [] [] got refl none-yet

  -- one that answers has checked the row that it entered last, and its reply is what the row's words say
  pub answered : (attempt : List ℕ) (reply : Reply) → turn_at c (stage attempt) ≡ Answers reply → Seeks attempt (stage attempt)
      → Done attempt reply
  answered attempt reply turn seeks = go (stage attempt) turn seeks
    where
      find-asks : (kind : Kind) (n : HeldRow) → find_turn kind c n ≡ Answers reply → ⊥
      find-asks Four n e = asks-answers e
      find-asks Sixteen n e = asks-answers e
      find-asks FortyEight n e = asks-answers e
      find-asks Full n e = asks-answers e

      go : (st : Stage) → turn_at c st ≡ Answers reply → Seeks attempt st → Done attempt reply
      go st e (at_root none) = absurd (asks-answers e)
      go st e (at_row d row) = absurd (asks-answers e)
      go st e (between d kept entry h) = absurd (asks-answers e)
      go st e (at_info d kept entry h) = absurd (asks-answers e)
      go st e (finds p entry h) = absurd (find-asks p.row.kind p.row e)
      go st e (finds_keys p count entry h is counts) = absurd (asks-answers e)
      go st e (finds_more p count first entry h is counts firsts) = absurd (asks-answers e)
      go st e (at_slot p slot entry h is slots) = absurd (asks-answers e)
      go st e (checks p f entry h is sees) = absurd (asks-answers e)
      go st e (checks_last n place entry h info differs) = absurd (asks-answers e)
      go st e (over outcome h) = subst (Done attempt) (answers-same e) h
