-- What each step of a full tree changes in the words of rows.
use Rattle.art_schedules.proofs.Common.{◌≡◌, ◌≢◌, ℕ, ◌+◌, ◌^◌, ◌<◌, ◌≤◌, Bool, true, false, List, [], length, refl, ap, sym, subst, ◌∙◌, inl}
use Rattle.art_schedules.proofs.serial.OrderlyLemmas.{set-here}
use Rattle.art_schedules.proofs.writes.StoreLemmas.{stored-at}
use Rattle.art_schedules.proofs.Common.{inr, arith, eq-eqb, ne_eqb, ◌==◌, slice_get, slice_index, slice_set, Option, Some, None, if◌then◌else◌}
use Rattle.art_schedules.proofs.Common.{cases_eq, same_Some, none-some, Call, Shape, claims_of, locked_word, claims-few, Variant, Access, Load}
use Rattle.art_schedules.proofs.Common.{Store, Add, Point, Turn, Asks, Answers, Setting, locks, act, word_of, asks-same, asks-answers, HeldRow}
use Rattle.art_schedules.proofs.Common.{CallAt, call_turn, call_after, call_begun, setting, Process, told, Plan, State, Move, Invokes, Responds}
use Rattle.art_schedules.proofs.Common.{after_move, moved, move_of, invocation, next_call, move_from, word_of_move, new_word, step, is-moved}
use Rattle.art_schedules.proofs.Common.{OfRows, Named, IsKept, holds, Reads, Writes, Ends, Releases, Takes, Claims}
use Rattle.art_schedules.proofs.Common.{AccessDoes, Answered, IsAmong, IsFull, IsSettled, IsSound, stage_of}
use Rattle.art_schedules.proofs.versions.KnownLemmas.{held-is-kept}
use Rattle.art_schedules.proofs.versions.WordFacts.{version-free}
use Rattle.art_schedules.proofs.Common.{AsksFor, HoldsThen, RowChange, RowsStay}
use Rattle.art_schedules.proofs.versions.ChangeLemmas.{index-other}
use Rattle.art_schedules.proofs.versions.MoveLemmas.{settled-row}
use Rattle.art_schedules.proofs.versions.StepLemmas.{after-more, does, next-turn}
use Rattle.art_schedules.proofs.Common.{RowWritten, RowFilled, RowTaken, RowReleased}
use Rattle.art_rows.specs.declared.access.Access.TheVariants.{Exchange}
use Rattle.art_rows.proofs.AccessLemmas.{act-stays}
use Rattle.art_core.specs.Core.{Makes}
use Rattle.art_schedules.specs.versions.Effects.{Has, Fills}

-- a word that is written as it was
same-words : (words : List ℕ) (word x : ℕ) → word < length words
    → slice_index (slice_set words word (slice_index words word)) x ≡ slice_index words x
same-words words word x h = elim (cases_eq x word) [
  | inl e ↦ ap (slice_index (slice_set words word (slice_index words word))) e
      ∙ (stored-at words word (slice_index words word) h ∙ ap (slice_index words) (sym e))
  | inr d ↦ index-other words word (slice_index words word) x d
]

module _ (variant : Variant) (shape : Shape) (root : 1 ≤ shape.rows256) (n : ℕ) (s : State) (h : IsSound variant shape n s)
    (few : n < 2 ^ 62) (p : ℕ)
    (q : Process)
    (here : slice_get s.processes p ≡ Some q) where
  abbrev Changed : Move → Type 0
  Changed m = RowChange variant shape s p (moved s p q m)

  -- no word of a row is written
  low-word : (m : Move) → word_of_move m < 5 → Changed m
  low-word m low = RowsStay
      (λ word high. index-other s.words (word_of_move m) (new_word m (slice_index s.words (word_of_move m))) word
      (λ e. omega (arith, e, low, high)))

  module _ (call : Call) (is-open : q.call ≡ Some call) where
    abbrev c : Setting
    c = setting shape variant call

    abbrev place : CallAt
    place = stage_of variant shape call q

    abbrev P : OfRows
    P = IsSettled variant shape s

    abbrev now : Access → ℕ
    now a = slice_index s.words (word_of a)

    abbrev later : Access → Process
    later a = after_move p (Makes a) (now a) q

    has-at : (Q : OfRows) (a : Access) (hs : List HeldRow) (fs : List Named) → Has Q c (call_after c place (told a (now a))) hs fs
        → Has Q c (stage_of variant shape call (later a)) hs fs
    has-at Q a hs fs has = subst (λ x. Has Q c x hs fs) (sym (after-more c (call_begun c) q.got (told a (now a)))) has

    in-table : (a : Access) (mark : Option Point) → call_turn c place ≡ Asks a mark → word_of a < length s.words
    in-table a mark e =
        let at = act-stays shape variant call root q.got a mark (next-turn variant shape call q ∙ e) in
        omega (arith, at.1, h.long)

    abbrev asks-for : (a : Access) (mark : Option Point) → call_turn c place ≡ Asks a mark → AsksFor variant shape s p a
    asks-for a mark e = record { call = call; process = q; is_open = record { own = here; is_open = is-open }; mark = mark; turn = e }

    holds-then : (a : Access) (rows : List HeldRow) → holds c (stage_of variant shape call (later a)) ≡ rows
        → HoldsThen variant shape (moved s p q (Makes a)) p call rows
    holds-then a rows e = record {
      process = later a;
      is_open = record {
        own = set-here s.processes p q (later a) here;
        is_open =
            is-open;
      };
      holds = e;
    }

    -- the call does not hold a row whose version is still the one that it kept
    apart : (x y : HeldRow) → IsKept (locks variant) P x → slice_index s.words x.base ≡ x.kept → IsAmong y (holds c place) → y.base ≢ x.base
    apart x y k is a same =
        let locked = h.locked p call q (record { own = here; is_open = is-open }) y a in
        let kept = held-is-kept P c place (h.knows p call q (record { own = here; is_open = is-open })) y a in
        omega (
          arith,
          ap (slice_index s.words) same,
          is,
          locked,
          version-free (locks variant) x.kept k.0,
          version-free
              (locks variant) y.kept kept.0,
        )

    access : (a : Access) (mark : Option Point) → call_turn c place ≡ Asks a mark → AccessDoes P c place → Changed (Makes a)
    access a mark e (Reads word at turn after) = subst (λ a. Changed (Makes a)) (asks-same (sym turn ∙ e))
        (RowsStay (λ x high. same-words s.words word x (in-table (Load word) at turn)))
    access a mark e (Writes x word value at turn among kept behind good after) = subst (λ a. Changed (Makes a)) (asks-same (sym turn ∙ e))
        (RowWritten word value (asks-for (Store word value) at turn) x among kept behind
        (stored-at s.words word value (in-table (Store word value) at turn))
        (λ other d. index-other s.words word value other d))
    access a mark e (Fills b k word value at turn filled behind row good after) = subst (λ a. Changed (Makes a)) (asks-same (sym turn ∙ e))
        (RowFilled word value (asks-for (Store word value) at turn) b k filled row behind
        (stored-at s.words word value (in-table (Store word value) at turn))
        (λ other d. index-other s.words word value other d))
    access a mark e (Ends b k word value at turn filled behind row good after) = subst (λ a. Changed (Makes a)) (asks-same (sym turn ∙ e))
        (RowFilled word value (asks-for (Store word value) at turn) b k filled row behind
        (stored-at s.words word value (in-table (Store word value) at turn))
        (λ other d. index-other s.words word value other d))
    access a mark e (Releases x rest value at turn hold none written kept after) = subst (λ a. Changed (Makes a)) (asks-same (sym turn ∙ e))
        (RowReleased x value (asks-for (Store x.base value) at turn) rest hold
        (holds-then (Store x.base value) rest (has-at P (Store x.base value) rest [] after).1) kept written
        (stored-at s.words x.base value (in-table (Store x.base value) at turn)) (λ other d. index-other s.words x.base value other d))
    access a mark e (Takes x all at turn with none kept taken other) = subst (λ a. Changed (Makes a)) (asks-same (sym turn ∙ e))
        (elim (cases_eq (slice_index s.words x.base) x.kept) [
          | inl same ↦ RowTaken x (asks-for swap at turn) all with (holds-then swap all (has-at P swap all []
              (subst (λ w. Has P c (call_after c place w) all []) (sym same) (taken (λ y a. apart x y kept same a)))).1) kept same
              (found true (eq-eqb (slice_index s.words x.base) x.kept same) x.base
              ∙ (stored-at s.words x.base (locked_word x.kept) (in-table swap at turn) ∙ small same))
              (λ y d. found true (eq-eqb (slice_index s.words x.base) x.kept same) y ∙ index-other s.words x.base (locked_word x.kept) y d)
          | inr differs ↦ RowsStay (λ y high. found false (ne_eqb (slice_index s.words x.base) x.kept differs) y
              ∙ same-words s.words x.base y (in-table swap at turn))
        ])
      where
        swap : Access
        swap = Exchange x.base x.kept (locked_word x.kept)

        -- the words, where the test of the exchange is b
        words-if : Bool → List ℕ
        words-if b = slice_set s.words x.base (if b then locked_word x.kept else slice_index s.words x.base)

        found : (b : Bool) → (slice_index s.words x.base == x.kept) ≡ b → (y : ℕ)
            → slice_index (moved s p q (Makes swap)).words y ≡ slice_index (words-if b) y
        found b f y = ap (λ t. slice_index (words-if t) y) f

        small : slice_index s.words x.base ≡ x.kept → locked_word x.kept ≡ x.kept + 2
        small same = omega (arith, same, h.versions x.base x.kind (settled-row variant shape s x.base x.kind kept.1), few)
    access a mark e (Claims kind at turn none claimed full) = subst (λ a. Changed (Makes a)) (asks-same (sym turn ∙ e))
        (low-word (Makes (Add (claims_of kind))) (claims-few kind))
    access a mark e (Answered reply turn none) = absurd (asks-answers (sym e ∙ turn))

  one-move : IsFull variant → (plan : Plan) → plan.shape ≡ shape → plan.variant ≡ variant → (o : Option Call) (m : Move) → q.call ≡ o
      → move_from plan p q o ≡ Some m
      → Changed m
  one-move full plan its-shape its-variant None m e k = begins (next_call plan p q) k
    where
      begins : (o : Option Call) → invocation o ≡ Some m → Changed m
      begins None f = absurd (none-some m f)
      begins (Some call) f = subst Changed (same_Some (Invokes call) m f) (low-word (Invokes call) (omega arith))
  one-move full plan its-shape its-variant (Some call) m e k =
      goes (act plan.shape plan.variant call q.got) (sym turn) k
    where
      turn : act plan.shape plan.variant call q.got ≡ call_turn (setting shape variant call) (stage_of variant shape call q)
      turn = ap (λ x. act x plan.variant call q.got) its-shape
          ∙ (ap (λ v. act shape v call q.got) its-variant ∙ next-turn variant shape call q)

      doing : AccessDoes (IsSettled variant shape s) (setting shape variant call) (stage_of variant shape call q)
      doing = does variant full shape call (IsSettled variant shape s) (settled-row variant shape s) h.root (stage_of variant shape call q)
          (h.knows p call q (record { own = here; is_open = e }))

      goes : (t : Turn) → call_turn (setting shape variant call) (stage_of variant shape call q) ≡ t
          → ◌≡◌ {A = Option Move} (Some (move_of t)) (Some m)
          → Changed m
      goes (Asks a mark) f l = subst Changed (same_Some (Makes a) m l) (access call e a mark f doing)
      goes (Answers reply) f l = subst Changed (same_Some (Responds reply) m l) (low-word (Responds reply) (omega arith))

-- A step of a full tree.
pub row-change : (variant : Variant) → IsFull variant → (plan : Plan) → plan.variant ≡ variant → 1 ≤ plan.shape.rows256 → (n : ℕ)
    → n < 2 ^ 62 → (s : State)
    → IsSound variant plan.shape n s → (p : ℕ) (later : State) → step plan s p ≡ Some later → RowChange variant plan.shape s p later
row-change variant full plan its-variant root n few s h p later e =
    let m = is-moved plan s p later e in
    subst (RowChange variant plan.shape s p) (sym m.is)
    (one-move variant plan.shape root n s h few p m.process m.here full plan refl its-variant m.process.call m.move refl m.is_next)
