-- Each step of a full tree keeps rows and versions sound, and is steady.
use Rattle.art_schedules.proofs.Common.{WritesOwn, true, false, locks, ◌≡◌, ◌≢◌, ℕ, ◌+◌, ◌%◌, ◌^◌, ◌<◌, ◌≤◌, List, [], ◌∷◌, ◌++◌, length, refl}
use Rattle.art_schedules.proofs.words.TableLemmas.{row_begins}
use Rattle.art_schedules.proofs.Common.{ap, sym, subst, ◌∙◌, inl, inr, arith, eq-eqb, ne_eqb, slice_get, slice_index, slice_set, Option, Some}
use Rattle.art_schedules.proofs.Common.{None, if◌then◌else◌, append-nil, cases_eq, cases_lt, same_Some, none-some, Call, Get, Insert, Remove}
use Rattle.art_schedules.proofs.Common.{Scan, Replace, Reply, Shape, Kind, Four, Sixteen, FortyEight, Full, rows_of, claims_of, base_of}
use Rattle.art_schedules.proofs.Common.{root_base, kind_at, locked_word, claims-few, Optimistic, Access, Load, Point, Turn, Asks, Answers}
use Rattle.art_schedules.proofs.Common.{Setting, act, word_of, IsClaimed, HeldRow, CallAt, OnKey, OnScan, call_turn, call_after}
use Rattle.art_schedules.proofs.Common.{Invokes, Move, Plan, Process, State, Variant, after_all, behind, call_begun, call_next, told}
use Rattle.art_core.specs.Core.{Makes}
use Rattle.art_schedules.proofs.Common.{Responds, after_move, move_of, invocation, next_call, move_from, step, is-moved, OfRows, Named, Knows}
use Rattle.art_schedules.proofs.Common.{AccessDoes, Answered, Claims, Ends, Reads, Releases, Takes, With, Writes, fills, holds}
use Rattle.art_schedules.specs.versions.Effects.{Fills, Has}
use Rattle.art_schedules.proofs.Common.{IsOpen, stage_of, held_by, filled_by, IsSettled, IsSound, IsSteady, IsFull, Coupled, is_insert, asks-same}
use Rattle.art_schedules.proofs.Common.{asks-answers, start_at, ScanAt, at, locks_of, scan_held, held_at_stage, row_filled, KnowsRows}
use Rattle.art_schedules.proofs.Common.{KnowsScanRows, setting}
use Rattle.std.specs.Prelude.{Bool}
use Rattle.art_rows.specs.declared.access.Access.TheVariants.{Store, Exchange, Add}
use Rattle.art_rows.proofs.AccessLemmas.{act-stays}
use Rattle.art_control_states.specs.Calls.{begun_as}
use Rattle.art_core.specs.Core.{moved}
use Rattle.art_schedules.proofs.versions.KeyLemmas.{key-does}
use Rattle.art_schedules.proofs.versions.ScanLemmas.{coupled-scan-does, optimistic-scan-does}
use Rattle.art_schedules.proofs.versions.CoupledLemmas.{coupled-own}
use Rattle.art_schedules.proofs.versions.OptimisticLemmas.{optimistic-own}
use Rattle.art_control_states.specs.Scans.{no_walk}
use Rattle.art_control_states.specs.declared.stage.Entry.TheVariants.{Root as EntryRoot}
use Rattle.art_control_states.specs.declared.stage.ScanStep.TheVariants as scan
use Rattle.art_schedules.proofs.versions.ChangeLemmas.{whose, own-call, index-other}
use Rattle.art_schedules.proofs.versions.MoveLemmas.{settled-row, true-false, no-items, differ}
use Rattle.art_schedules.proofs.versions.AccessLemmas.{keeps-words, keeps-versions, is-locked, takes, releases}
use Rattle.art_schedules.proofs.versions.LowLemmas.{keeps-idle, keeps-claim}

pub after-more : (c : Setting) (at : CallAt) (got : List ℕ) (w : ℕ) → after_all c at (got ++ w ∷ []) ≡ call_after c (after_all c at got) w
after-more c at [] w = refl
after-more c at (v ∷ got) w = after-more c (call_after c at v) got w

pub coupled-does : (shape : Shape) (call : Call) (P : OfRows) → ((b : ℕ) (k : Kind) → P b k → kind_at shape b ≡ Some k)
    → P (root_base shape) Full
    → (at : CallAt) → Knows P (setting shape Coupled call) at → AccessDoes P (setting shape Coupled call) at
coupled-does shape call P is_row root (OnKey stage) k =
    key-does Coupled shape call P is_row root (coupled-own shape call P is_row root) stage k
coupled-does shape call P is_row root (OnScan low high scan) k = coupled-scan-does shape call P is_row root low high scan k

pub optimistic-does : (shape : Shape) (call : Call) (P : OfRows) → ((b : ℕ) (k : Kind) → P b k → kind_at shape b ≡ Some k)
    → P (root_base shape) Full
    → (at : CallAt) → Knows P (setting shape Optimistic call) at → AccessDoes P (setting shape Optimistic call) at
optimistic-does shape call P is_row root (OnKey stage) k =
    key-does Optimistic shape call P is_row root (optimistic-own shape call P is_row root) stage k
optimistic-does shape call P is_row root (OnScan low high scan) k = optimistic-scan-does shape call P is_row root low high scan k

pub does : (variant : Variant) → IsFull variant → (shape : Shape) (call : Call) (P : OfRows)
    → ((b : ℕ) (k : Kind) → P b k → kind_at shape b ≡ Some k)
    → P (root_base shape) Full → (at : CallAt) → Knows P (setting shape variant call) at → AccessDoes P (setting shape variant call) at
does variant (inl e) shape call P is_row root at =
    subst (λ v. Knows P (setting shape v call) at → AccessDoes P (setting shape v call) at) (sym e)
    (coupled-does shape call P is_row root at)
does variant (inr e) shape call P is_row root at =
    subst (λ v. Knows P (setting shape v call) at → AccessDoes P (setting shape v call) at) (sym e)
    (optimistic-does shape call P is_row root at)

-- what an open call does next is what its stage does
pub next-turn : (variant : Variant) (shape : Shape) (call : Call) (q : Process)
    → act shape variant call q.got ≡ call_turn (setting shape variant call) (stage_of variant shape call q)
next-turn variant shape call q =
    ap (act shape variant call) (sym (append-nil q.got))
    ∙ (sym (behind (setting shape variant call) q.got []) ∙ call_next (setting shape variant call) (stage_of variant shape call q))

module _ (variant : Variant) (shape : Shape) (root : 1 ≤ shape.rows256) (n : ℕ) (s : State) (h : IsSound variant shape n s)
    (few : n < 2 ^ 62) (p : ℕ) (q : Process)
    (here : slice_get s.processes p ≡ Some q) where
  abbrev Kept : Move → Type 0
  Kept m = IsSound variant shape (n + 1) (moved s p q m) × IsSteady variant shape s (moved s p q m)
      × WritesOwn variant shape s p (moved s p q m)

  module _ (call : Call) (is-open : q.call ≡ Some call) where
    abbrev c : Setting
    c = setting shape variant call

    abbrev place : CallAt
    place = stage_of variant shape call q

    abbrev P : OfRows
    P = IsSettled variant shape s

    opens : IsOpen s p call q
    opens = record { own = here; is_open = is-open }

    abbrev now : Access → ℕ
    now a = slice_index s.words (word_of a)

    abbrev later : Access → Process
    later a = after_move p (Makes a) (now a) q

    has-at : (Q : OfRows) (a : Access) (hs : List HeldRow) (fs : List Named) → Has Q c (call_after c place (told a (now a))) hs fs
        → Has Q c (stage_of variant shape call (later a)) hs fs
    has-at Q a hs fs has = subst (λ x. Has Q c x hs fs) (sym (after-more c (call_begun c) q.got (told a (now a)))) has

    in-table : (a : Access) (mark : Option Point) → call_turn c place ≡ Asks a mark → word_of a < length s.words
    in-table a mark e =
        let at = act-stays shape variant call root q.got a mark (next-turn variant shape call q ∙ e) in
        omega (arith, at.1, h.long)

    access : (a : Access) (mark : Option Point) → call_turn c place ≡ Asks a mark → AccessDoes P c place → Kept (Makes a)
    access a mark e (Reads word at turn after) = subst (λ a. Kept (Makes a)) (asks-same (sym turn ∙ e))
        (keeps-words variant shape n s h few p q here call is-open word (slice_index s.words word) (later (Load word)) is-open
        (in-table (Load word) at turn) refl
        (has-at P (Load word) (holds c place) (fills place) (after (slice_index s.words word) (h.children word))))
    access a mark e (Writes x word value at turn among kept behind good after) = subst (λ a. Kept (Makes a)) (asks-same (sym turn ∙ e))
        (keeps-versions variant shape n s h few p q here call is-open word value (later (Store word value)) is-open
        (in-table (Store word value) at turn)
        x.base x.kind (settled-row variant shape s x.base x.kind kept.1) behind
        (λ l y free. true-false (is-locked variant shape n s h few p q here call is-open x among kept) free)
        (inl (record { holder = p; call = call; process = q; is_open = opens; row = x; among = among; is = refl }, refl)) good
        (fills place) (inl refl) P (λ more. more)
        (has-at P (Store word value) (holds c place) (fills place) after))
    access a mark e (Fills b k word value at turn filled behind row good after) = subst (λ a. Kept (Makes a)) (asks-same (sym turn ∙ e))
        (keeps-versions variant shape n s h few p q here call is-open word value (later (Store word value)) is-open
        (in-table (Store word value) at turn)
        b k row behind (λ l y free. y.unfilled p call q opens b k filled refl)
        (inr (inr (record { call = call; process = q; is_open = opens; kind = k; fills = filled }))) good (fills place)
        (inl refl) P (λ more. more)
        (has-at P (Store word value) (holds c place) (fills place) after))
    access a mark e (Ends b k word value at turn filled behind row good after) = subst (λ a. Kept (Makes a)) (asks-same (sym turn ∙ e))
        (keeps-versions variant shape n s h few p q here call is-open word value (later (Store word value)) is-open
        (in-table (Store word value) at turn)
        b k row behind (λ l y free. y.unfilled p call q opens b k filled refl)
        (inr (inr (record { call = call; process = q; is_open = opens; kind = k; fills = filled }))) good [] (inr refl) (With P b k) settles
        (has-at (With P b k) (Store word value) (holds c place) [] after))
      where
        stored : State
        stored = record { words = slice_set s.words word value; processes = slice_set s.processes p (later (Store word value)) }

        none-now : filled_by variant shape call (later (Store word value)) ≡ []
        none-now = (has-at (With P b k) (Store word value) (holds c place) [] after).2

        claimed : IsClaimed shape s.words b k
        claimed = h.filled p call q opens b k filled

        claims-same : slice_index (slice_set s.words word value) (claims_of k) ≡ slice_index s.words (claims_of k)
        claims-same = index-other s.words word value (claims_of k)
            (differ (claims_of k) word (omega (arith, claims-few k, row_begins shape b k row, behind.0)))

        unfilled : (r : ℕ) (o : Call) (w : Process) → IsOpen stored r o w → (d : ℕ) (l : Kind)
            → filled_by variant shape o w ≡ (d, l) ∷ [] → b ≢ d
        unfilled r o w open-then d l f same = elim (whose variant shape n s h p q here word value (later (Store word value))
            r o w open-then) [
              | inl t ↦ no-items (sym none-now ∙ subst (λ v. filled_by variant shape v (later (Store word value)) ≡ (d, l) ∷ [])
                  (same_Some o call (sym (own-call variant shape n s h p q here word value (later (Store word value)) r o w
                  open-then t.1) ∙ is-open))
                  (subst (λ v. filled_by variant shape o v ≡ (d, l) ∷ []) t.1 f))
              | inr t ↦ t.0 (sym (h.fills_apart p r call o q w opens t.1 b d k l filled f same))
            ]

        settles : ((base : ℕ) (kind : Kind) → P base kind → IsSettled variant shape stored base kind) → (base : ℕ) (kind : Kind)
            → With P b k base kind
            → IsSettled variant shape stored base kind
        settles more base kind (inl x) = more base kind x
        settles more base kind (inr x) = subst (λ y. IsSettled variant shape stored y kind) (sym x.0)
            (subst (IsSettled variant shape stored b) (sym x.1) (record {
              claimed = record {
                number = claimed.number;
                claimed = omega (arith, claimed.claimed, claims-same);
                within = claimed.within;
                is = claimed.is;
              };
              unfilled = unfilled;
            }))
    access a mark e (Releases x rest value at turn hold none written kept after) = subst (λ a. Kept (Makes a)) (asks-same (sym turn ∙ e))
        (releases variant shape n s h few p q here call is-open x rest value kept hold none written (later (Store x.base value)) is-open
        (has-at P (Store x.base value) rest [] after))
    access a mark e (Takes x all at turn with none kept taken other) = subst (λ a. Kept (Makes a)) (asks-same (sym turn ∙ e))
        (elim (cases_eq (slice_index s.words x.base) x.kept) [
          | inl same ↦ subst (λ b. Chosen b) (sym (eq-eqb (slice_index s.words x.base) x.kept same))
              (takes variant shape n s h few p q here call is-open x all kept same with none (later swap) is-open
              (λ apart. has-at P swap all [] (subst (λ w. Has P c (call_after c place w) all []) (sym same) (taken apart))))
          | inr differs ↦ subst (λ b. Chosen b) (sym (ne_eqb (slice_index s.words x.base) x.kept differs))
              (keeps-words variant shape n s h few p q here call is-open x.base (slice_index s.words x.base) (later swap) is-open
              (in-table swap at turn) refl
              (has-at P swap (holds c place) (fills place)
              (subst (λ f. Has P c (call_after c place (slice_index s.words x.base)) (holds c place) f) (sym none)
              (other (slice_index s.words x.base) differs))))
        ])
      where
        swap : Access
        swap = Exchange x.base x.kept (locked_word x.kept)

        to : Bool → State
        to b = record {
          words = slice_set s.words x.base (if b then locked_word x.kept else slice_index s.words x.base);
          processes = slice_set s.processes p (later swap);
        }

        Chosen : Bool → Type 0
        Chosen b = IsSound variant shape (n + 1) (to b) × IsSteady variant shape s (to b) × WritesOwn variant shape s p (to b)
    access a mark e (Claims kind at turn none claimed full) =
        subst (λ a. Kept (Makes a)) (asks-same (sym turn ∙ e)) (elim (cases_lt value (rows_of shape kind)) [
          | inl less ↦ keeps-claim variant shape n s h few p q here call is-open kind ((value + 1) % 2 ^ 64) one
              (later (Add (claims_of kind))) is-open
              ((base_of shape kind value, kind) ∷ []) (inr (less, refl))
              (has-at P (Add (claims_of kind)) (holds c place) ((base_of shape kind value, kind) ∷ [])
              (claimed value less))
          | inr more ↦ keeps-claim variant shape n s h few p q here call is-open kind ((value + 1) % 2 ^ 64) one
              (later (Add (claims_of kind))) is-open
              [] (inl refl) (has-at P (Add (claims_of kind)) (holds c place) [] (full value more))
        ])
      where
        value : ℕ
        value = slice_index s.words (claims_of kind)

        one : (value + 1) % 2 ^ 64 ≡ value + 1
        one = omega (arith, h.claims kind, few)
    access a mark e (Answered reply turn none) = absurd (asks-answers (sym e ∙ turn))

  -- stamps

  start-idle : (b i : Bool) → (locks_of (held_at_stage b i (start_at b)) ≡ []) × (row_filled (start_at b) ≡ [])
  start-idle true i = (refl, refl)
  start-idle false i = (refl, refl)

  start-knows : (b i : Bool) (c : Setting) (Q : OfRows) → KnowsRows Q b i c (start_at b)
  start-knows true i c Q = record { kept = tt; known = tt; fits = (tt, tt); filled = tt }
  start-knows false i c Q = record { kept = tt; known = tt; fits = (tt, tt); filled = tt }

  abbrev scan-begun : Bool → ScanAt
  scan-begun b = if b then at (scan.Lock EntryRoot true) no_walk else at (scan.Wait EntryRoot) no_walk

  scan-idle : (b : Bool) → locks_of (scan_held b (scan-begun b).step (scan-begun b).walk) ≡ []
  scan-idle true = refl
  scan-idle false = refl

  scan-knows : (b : Bool) (Q : OfRows) → KnowsScanRows Q b (scan-begun b)
  scan-knows true Q = record { kept = tt; known = tt; fits = tt; way = tt }
  scan-knows false Q = record { kept = tt; known = tt; fits = tt; way = tt }

  pub begun-idle : (call whole : Call) → (holds (setting shape variant whole) (begun_as call (setting shape variant whole)) ≡ [])
      × (fills (begun_as call (setting shape variant whole)) ≡ [])
  begun-idle (Get k) whole = start-idle (locks variant) (is_insert whole)
  begun-idle (Insert k v) whole = start-idle (locks variant) (is_insert whole)
  begun-idle (Remove k) whole = start-idle (locks variant) (is_insert whole)
  begun-idle (Replace k a b) whole = start-idle (locks variant) (is_insert whole)
  begun-idle (Scan lo hi) whole = (scan-idle (locks variant), refl)

  begun-knows : (call whole : Call) (Q : OfRows) → Knows Q (setting shape variant whole) (begun_as call (setting shape variant whole))
  begun-knows (Get k) whole Q = start-knows (locks variant) (is_insert whole) (setting shape variant whole) Q
  begun-knows (Insert k v) whole Q = start-knows (locks variant) (is_insert whole) (setting shape variant whole) Q
  begun-knows (Remove k) whole Q = start-knows (locks variant) (is_insert whole) (setting shape variant whole) Q
  begun-knows (Replace k a b) whole Q = start-knows (locks variant) (is_insert whole) (setting shape variant whole) Q
  begun-knows (Scan lo hi) whole Q = scan-knows (locks variant) Q

  claims-above : (value : ℕ) (kind : Kind) → slice_index (slice_set s.words 0 value) (claims_of kind) ≡ slice_index s.words (claims_of kind)
  claims-above value Four = index-other s.words 0 value 1 (λ e. omega (arith, e))
  claims-above value Sixteen = index-other s.words 0 value 2 (λ e. omega (arith, e))
  claims-above value FortyEight = index-other s.words 0 value 3 (λ e. omega (arith, e))
  claims-above value Full = index-other s.words 0 value 4 (λ e. omega (arith, e))

  invoked : (call : Call) → q.call ≡ None → Kept (Invokes call)
  invoked call idle = keeps-idle variant shape n s h few p q here 0 _ (omega arith) (after_move p (Invokes call) (slice_index s.words 0)
      q) (claims-above _)
      (λ other e. begun-idle other other) (λ other e. absurd (none-some other (sym idle ∙ e))) (λ Q r other e. begun-knows other other Q)

  responded : (reply : Reply) → ((call : Call) → q.call ≡ Some call → held_by variant shape call q ≡ []) → Kept (Responds reply)
  responded reply nothing = keeps-idle variant shape n s h few p q here 0 _ (omega arith) (after_move p (Responds reply)
      (slice_index s.words 0) q) (claims-above _)
      (λ other e. absurd (none-some other e)) nothing (λ Q r other e. absurd (none-some other e))

  pub one-move : IsFull variant → (plan : Plan) → plan.shape ≡ shape → plan.variant ≡ variant → (o : Option Call) (m : Move) → q.call ≡ o
      → move_from plan p q o ≡ Some m
      → Kept m
  one-move full plan its-shape its-variant None m e k = begins (next_call plan p q) k
    where
      begins : (o : Option Call) → invocation o ≡ Some m → Kept m
      begins None f = absurd (none-some m f)
      begins (Some call) f = subst Kept (same_Some (Invokes call) m f) (invoked call e)
  one-move full plan its-shape its-variant (Some call) m e k =
      goes (act plan.shape plan.variant call q.got) (sym turn) k
    where
      turn : act plan.shape plan.variant call q.got ≡ call_turn (setting shape variant call) (stage_of variant shape call q)
      turn = ap (λ x. act x plan.variant call q.got) its-shape
          ∙ (ap (λ v. act shape v call q.got) its-variant ∙ next-turn variant shape call q)

      doing : AccessDoes (IsSettled variant shape s) (setting shape variant call) (stage_of variant shape call q)
      doing = does variant full shape call (IsSettled variant shape s) (settled-row variant shape s) h.root (stage_of variant shape call q)
          (h.knows p call q (record { own = here; is_open = e }))

      nothing : (reply : Reply) → call_turn (setting shape variant call) (stage_of variant shape call q) ≡ Answers reply
          → AccessDoes (IsSettled variant shape s) (setting shape variant call) (stage_of variant shape call q)
          → held_by variant shape call q ≡ []
      nothing reply f (Answered other turn none) = none
      nothing reply f (Reads word at turn after) = absurd (asks-answers (sym turn ∙ f))
      nothing reply f (Writes x word value at turn among kept behind good after) = absurd (asks-answers (sym turn ∙ f))
      nothing reply f (Fills b k word value at turn filled behind row good after) = absurd (asks-answers (sym turn ∙ f))
      nothing reply f (Ends b k word value at turn filled behind row good after) = absurd (asks-answers (sym turn ∙ f))
      nothing reply f (Releases x rest value at turn hold none written kept after) = absurd (asks-answers (sym turn ∙ f))
      nothing reply f (Takes x all at turn with none kept taken other) = absurd (asks-answers (sym turn ∙ f))
      nothing reply f (Claims kind at turn none claimed full) = absurd (asks-answers (sym turn ∙ f))

      goes : (t : Turn) → call_turn (setting shape variant call) (stage_of variant shape call q) ≡ t
          → ◌≡◌ {A = Option Move} (Some (move_of t)) (Some m) → Kept m
      goes (Asks a mark) f l = subst Kept (same_Some (Makes a) m l) (access call e a mark f doing)
      goes (Answers reply) f l = subst Kept (same_Some (Responds reply) m l) (responded reply (λ other g.
          subst (λ x. held_by variant shape x q ≡ []) (same_Some call other (sym e ∙ g)) (nothing reply f doing)))

-- A step of a full tree.
pub one-step : (variant : Variant) → IsFull variant → (plan : Plan) → plan.variant ≡ variant → 1 ≤ plan.shape.rows256 → (n : ℕ)
    → n < 2 ^ 62 → (s : State)
    → IsSound variant plan.shape n s → (p : ℕ) (later : State) → step plan s p ≡ Some later
    → IsSound variant plan.shape (n + 1) later × IsSteady variant plan.shape s later × WritesOwn variant plan.shape s p later
one-step variant full plan its-variant root n few s h p later e =
    let m = is-moved plan s p later e in
    subst (λ t. IsSound variant plan.shape (n + 1) t × IsSteady variant plan.shape s t × WritesOwn variant plan.shape s p t) (sym m.is)
    (one-move variant plan.shape root n s h few p m.process m.here full plan refl its-variant m.process.call m.move refl m.is_next)
