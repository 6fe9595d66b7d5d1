-- Rows that are obsolete: nobody takes one, and those of the calm tree are about to leave it.
use Rattle.art_schedules.proofs.Common.{◌≡◌, ◌⊎◌, inl, inr, ℕ, ◌+◌, ◌<◌, ◌≤◌, List, [], ◌∷◌, ◌++◌, refl, ap, sym, subst, ◌∙◌, Bool, true, false}
use Rattle.art_schedules.proofs.inserts.OutcomeLemmas.{child-same}
use Rattle.art_schedules.proofs.words.TableLemmas.{row_begins}
use Rattle.art_schedules.proofs.words.VersionLemmas.{taken-locked, obsolete_released}
use Rattle.art_schedules.proofs.Common.{arith, slice_index, Option, Some, cases_eq, false≢true, same_Some, Call, Reply, Contents, Shape, Kind}
use Rattle.art_schedules.proofs.Common.{kind_at, is_locked, is_obsolete, locked_word, released_word, obsolete_word, Coupled, Store}
use Rattle.art_schedules.proofs.Common.{Swap, Point, Asks, store-word, load-store, add-store, exchange-store, load-exchange, store-exchange}
use Rattle.art_schedules.proofs.Common.{answers-asks, stores-same, HeldRow, Hold, Stage, Lock, Exchange, Between, LetGo, Obsolete, Unlock, ScanStep}
use Rattle.art_schedules.proofs.Common.{setting, turn_at, hold_alone, no_value, release_at, at, scan_turn, CallAt, OnKey, OnScan, call_turn}
use Rattle.art_schedules.proofs.Common.{call_after, Process, Plan, State, step, Reached, child_on}
use Rattle.art_schedules.proofs.Common.{Knows, holds, all_of, lock_of, locks_of, rows_of_hold, IsAmong, IsOpen, IsHeld, IsSettled, stage_of}
use Rattle.art_schedules.proofs.Common.{AsksFor, IsAtStage, RowChange, RowsStay, calm_of, held_by}
use Rattle.art_schedules.proofs.versions.KnownLemmas.{held-is-kept}
use Rattle.art_schedules.proofs.versions.MoveLemmas.{settled-row}
use Rattle.art_schedules.proofs.versions.WordFacts.{version-free}
use Rattle.art_schedules.proofs.Common.{RowWritten, RowFilled, RowTaken, RowReleased, Effect, IsGoneBy, ComesInBy, TreeGoesOn, TouchesOwn}
use Rattle.art_schedules.proofs.Common.{LoadsHeld, StoresOwn, ClaimsRow, ReleasesHeld, Replies, is_lock, may_release, RowsOf, IsLeaving}
use Rattle.art_schedules.proofs.Common.{ObsoleteLeave, HeldAreLive, TakesLive, MakesLeave, LeavesBy, IsCoupledStep, WaysTakeLive}
use Rattle.art_schedules.proofs.Common.{ObsoleteRowsLeave, RestsHaveNone, ChildRow}
use Rattle.art_rows.specs.declared.access.Point.TheVariants as point
use Rattle.art_rows.proofs.TurnLemmas.{add-exchange}
use Rattle.art_control_states.specs.declared.stage.ScanStep.TheVariants as scan
use Rattle.art_schedules.proofs.calm.VersionLemmas.{not-behind, locked-same, released-free, obsolete-free}
use Rattle.art_schedules.proofs.calm.CalmLemmas.{claimed-row}
use Rattle.art_schedules.proofs.work.OwnLemmas.{rows-known}
use Rattle.art_schedules.proofs.work.TouchLemmas.{work-own}
use Rattle.art_schedules.proofs.work.LockedLemmas.{locked-own}
use Rattle.art_schedules.proofs.work.WalkLemmas.{reads-held}
use Rattle.art_schedules.specs.coupled.Knows.{KnowsWay}
use Rattle.art_schedules.specs.coupled.Laws.{WorkTakesLive}
use Rattle.art_schedules.proofs.coupled.MadeLemmas.{Facts, facts, made, others-open}
use Rattle.art_schedules.proofs.coupled.RowLemmas.{kept-row, held-calm, held-live, its-turn}
use Rattle.art_schedules.proofs.coupled.MoveLemmas.{reached-kind, live-taken}

-- if a row is locked, nothing is stored
lock-stores : (shape : Shape) (call : Call) (x : CallAt) (word value : ℕ) (mark : Option Point)
    → call_turn (setting shape Coupled call) x ≡ Asks (Store word value) mark
    → is_lock x ≡ false
lock-stores shape call (OnKey (Lock t true)) word value mark e = absurd (load-store e)
lock-stores shape call (OnKey (Lock t false)) word value mark e = absurd (load-store e)
lock-stores shape call (OnKey (Exchange t v)) word value mark e = absurd (exchange-store e)
lock-stores shape call (OnKey stage) word value mark e = refl
lock-stores shape call (OnScan low high x) word value mark e = go x.step e
  where
    go : (step : ScanStep) → scan_turn (setting shape Coupled call) (at step x.walk) ≡ Asks (Store word value) mark
        → is_lock (OnScan low high (at step x.walk)) ≡ false
    go (scan.Lock entry true) e = absurd (load-store e)
    go (scan.Lock entry false) e = absurd (load-store e)
    go (scan.Exchange entry v) e = absurd (exchange-store e)
    go step e = refl

-- What a call that stores the version of a row is at: one of the stages that release a row that it holds, or the one that makes a row
-- obsolete.
data Releases (shape : Shape) (call : Call) (x : CallAt) (base value : ℕ) : Type 0 where
  ByUnlock : (n : HeldRow) → IsAmong (lock_of n) (holds (setting shape Coupled call) x) → value ≡ released_word n.kept
      → Releases shape call x base value
  ByObsolete : (h : Hold) → x ≡ OnKey (Obsolete h) → base ≡ h.row.base → Releases shape call x base value

releases-at : (shape : Shape) (call : Call) (x : CallAt) (base value : ℕ) (mark : Option Point) → may_release x ≡ true
    → call_turn (setting shape Coupled call) x ≡ Asks (Store base value) mark → Releases shape call x base value
releases-at shape call (OnKey (Between d kept)) base value mark e turn = ByUnlock d.above (inr (inl refl)) (sym (stores-same turn).1)
releases-at shape call (OnKey (LetGo above p f)) base value mark e turn = ByUnlock above (inr (inl refl)) (sym (stores-same turn).1)
releases-at shape call (OnKey (Obsolete h)) base value mark e turn = ByObsolete h refl (sym (store-word turn))
releases-at shape call (OnKey (Unlock h outcome)) base value mark e turn = ByUnlock h.row (inl refl) (sym (stores-same turn).1)
releases-at shape call (OnKey stage) base value mark e turn = absurd (false≢true e)
releases-at shape call (OnScan low high x) base value mark e turn = go x.step e turn
  where
    go : (step : ScanStep) → may_release (OnScan low high (at step x.walk)) ≡ true
        → scan_turn (setting shape Coupled call) (at step x.walk) ≡ Asks (Store base value) mark
        → Releases shape call (OnScan low high (at step x.walk)) base value
    go (scan.Release n) e turn = ByUnlock n (inl refl) (sym (stores-same turn).1)
    go step e turn = absurd (false≢true e)

-- Where a row comes from that is held after a step of process p: it was held before, from the same
-- version, or p takes it in the step.
pub data HeldFrom (shape : Shape) (s : State) (p : ℕ) (x : HeldRow) : Type 0 where
  HeldBefore : (h : IsHeld Coupled shape s x.base) → h.row.kept ≡ x.kept → HeldFrom shape s p x
  TakenNow : (y : HeldRow) → AsksFor Coupled shape s p (Swap y.base y.kept (locked_word y.kept))
      → slice_index s.words y.base ≡ y.kept → y.base ≡ x.base
      → y.kept ≡ x.kept → HeldFrom shape s p x

module _ (shape : Shape) (root : 1 ≤ shape.rows256) (s t : State) (p : ℕ) (first calm after : List ℕ)
    (f : Facts shape s t p first calm after) where
  -- a row that is held has its version locked
  held-locked : (r : ℕ) (call : Call) (q : Process) → IsOpen t r call q → (x : HeldRow) → IsAmong x (held_by Coupled shape call q)
      → is_locked (slice_index t.words x.base) ≡ true
  held-locked r call q o x a =
      let kept = held-is-kept (IsSettled Coupled shape t) (setting shape Coupled call) (stage_of Coupled shape call q)
      (f.behind.knows r call q o) x a in
      ap is_locked (f.behind.locked r call q o x a) ∙ taken-locked x.kept (version-free true x.kept kept.0)

  pub held-from : (r : ℕ) (call : Call) (q : Process) → IsOpen t r call q → (x : HeldRow) → IsAmong x (held_by Coupled shape call q)
      → HeldFrom shape s p x
  held-from r call q o x a = go f.goes.rows
    where
      row : kind_at shape x.base ≡ Some x.kind
      row = settled-row Coupled shape t x.base x.kind
          (held-is-kept (IsSettled Coupled shape t) (setting shape Coupled call) (stage_of Coupled shape call q)
          (f.behind.knows r call q o) x a).1

      version : slice_index t.words x.base ≡ x.kept + 2
      version = f.behind.locked r call q o x a

      -- it was held before
      stayed : slice_index t.words x.base ≡ slice_index s.words x.base → HeldFrom shape s p x
      stayed same =
          let h = f.sound.held x.base x.kind row (ap is_locked (sym same) ∙ held-locked r call q o x a) in
          let was = f.sound.locked h.holder h.call h.process h.is_open h.row h.among in
          HeldBefore h (omega (arith, was, ap (slice_index s.words) h.is, same, version))

      go : RowChange Coupled shape s p t → HeldFrom shape s p x
      go (RowsStay same) = stayed (same x.base (row_begins shape x.base x.kind row))
      go (RowWritten word value asks y among kept behind is others) =
          stayed (others x.base (not-behind shape x.base y.base word x.kind y.kind row (settled-row Coupled shape s y.base
          y.kind kept.1) behind))
      go (RowFilled word value asks b k filled its behind is others) =
          stayed (others x.base (not-behind shape x.base b word x.kind k row its behind))
      go (RowTaken y asks rows with then kept was is others) = elim (cases_eq x.base y.base) [
        | inl e ↦ TakenNow y asks was (sym e) (omega (arith, is, ap (slice_index t.words) e, version))
        | inr d ↦ stayed (others x.base d)
      ]
      go (RowReleased y value asks rest with then kept written is others) = elim (cases_eq x.base y.base) [
        | inl e ↦ absurd (false≢true (sym (free y value kept.0 written) ∙ (ap is_locked (sym is ∙ ap (slice_index t.words) (sym e))
            ∙ held-locked r call q o x
            a)))
        | inr d ↦ stayed (others x.base d)
      ]
        where
          free : (y : HeldRow) (value : ℕ) → is_locked y.kept ≡ false → (value ≡ released_word y.kept) ⊎ (value ≡ obsolete_word y.kept)
              → is_locked value ≡ false
          free y value un (inl e) = ap is_locked e ∙ released-free y.kept (version-free true y.kept un)
          free y value un (inr e) = ap is_locked e ∙ obsolete-free y.kept (version-free true y.kept un)

  -- A row becomes obsolete only as a call that has grown it says so.
  module _ (live : HeldAreLive shape s) where
    pub record MadeBy (base : ℕ) (kind : Kind) : Type 0 where
      pub call : Call
      pub hold : Hold
      pub at : IsAtStage Coupled shape s p call (OnKey (Obsolete hold))
      pub is : base ≡ hold.row.base

    becomes : (base : ℕ) (kind : Kind) → kind_at shape base ≡ Some kind → is_obsolete (slice_index s.words base) ≡ false
        → is_obsolete (slice_index t.words base) ≡ true → MadeBy base kind
    becomes base kind row was now = go f.goes.rows
      where
        stayed : slice_index t.words base ≡ slice_index s.words base → MadeBy base kind
        stayed same = absurd (false≢true (sym was ∙ (ap is_obsolete (sym same) ∙ now)))

        go : RowChange Coupled shape s p t → MadeBy base kind
        go (RowsStay same) = stayed (same base (row_begins shape base kind row))
        go (RowWritten word value asks y among kept behind is others) =
            stayed (others base (not-behind shape base y.base word kind y.kind row (settled-row Coupled shape s y.base
            y.kind kept.1) behind))
        go (RowFilled word value asks b k filled its behind is others) =
            stayed (others base (not-behind shape base b word kind k row its behind))
        go (RowTaken y asks rows with then kept before is others) = elim (cases_eq base y.base) [
          | inl e ↦ absurd
              (false≢true (sym was ∙ (ap (λ b. is_obsolete (slice_index s.words b)) e ∙ (ap is_obsolete before ∙ (sym (locked-same y.kept)
              ∙ (ap is_obsolete (sym is) ∙ (ap (λ b. is_obsolete (slice_index t.words b)) (sym e) ∙ now)))))))
          | inr d ↦ stayed (others base d)
        ]
        go (RowReleased y value asks rest with then kept written is others) = elim (cases_eq base y.base) [
          | inl e ↦ released e (sym (ap is_obsolete is) ∙ (ap (λ b. is_obsolete (slice_index t.words b)) (sym e) ∙ now))
          | inr d ↦ stayed (others base d)
        ]
          where
            x : CallAt
            x = stage_of Coupled shape asks.call asks.process

            y-row : kind_at shape y.base ≡ Some y.kind
            y-row = settled-row Coupled shape s y.base y.kind kept.1

            touches : TouchesOwn (setting shape Coupled asks.call) x
            touches = locked-own shape asks.call root x (rows-known Coupled shape f.count s p asks.call asks.process f.sound asks.is_open)
                (reads-held shape asks.call asks.process.got) (lock-stores shape asks.call x y.base value asks.mark asks.turn)

            by : Releases shape asks.call x y.base value → base ≡ y.base → is_obsolete value ≡ true → MadeBy base kind
            by (ByUnlock n among same) e dead =
                absurd (false≢true (sym (ap is_obsolete same ∙ (obsolete_released n.kept ∙ live p asks.call asks.process asks.is_open
                (lock_of n) among)) ∙ dead))
            by (ByObsolete h is same) e dead = record {
              call = asks.call;
              hold = h;
              at = record { process = asks.process; is_open = asks.is_open; at = is };
              is = e ∙ same;
            }

            released : base ≡ y.base → is_obsolete value ≡ true → MadeBy base kind
            released e dead = touched touches
              where
                touched : TouchesOwn (setting shape Coupled asks.call) x → MadeBy base kind
                touched (LoadsHeld word mark turn held) = absurd (load-store (sym turn ∙ asks.turn))
                touched (StoresOwn word v mark turn (inl held)) =
                    absurd (not-behind shape y.base held.row.base word y.kind held.row.kind y-row
                    (settled-row Coupled shape s held.row.base held.row.kind
                    (kept-row shape s t p first calm after f p asks.call asks.process asks.is_open held.row held.among)) held.behind
                    (store-word (sym asks.turn
                    ∙ turn)))
                touched (StoresOwn word v mark turn (inr fill)) = absurd (not-behind shape y.base fill.base word y.kind fill.kind y-row
                    (claimed-row shape s.words fill.base fill.kind
                    (f.sound.filled p asks.call asks.process asks.is_open fill.base fill.kind fill.filled))
                    fill.behind
                    (store-word (sym asks.turn ∙ turn)))
                touched (ClaimsRow k mark turn may) = absurd (add-store (sym turn ∙ asks.turn))
                touched (ReleasesHeld row v mark turn among may) =
                    by (releases-at shape asks.call x y.base value asks.mark may asks.turn) e dead
                touched (Replies r turn) = absurd (answers-asks (sym turn ∙ asks.turn))

module _ (plan : Plan) (start : Contents) (words schedule : List ℕ) (p : ℕ) (s t : State) (claims : ℕ) (m : Contents)
    (h : IsCoupledStep plan start words schedule p s t claims m) where
  abbrev calm : List ℕ
  calm = calm_of plan words schedule

  abbrev after : List ℕ
  after = calm_of plan words (schedule ++ p ∷ [])

  f : Facts plan.shape s t p words calm after
  f = facts plan start words schedule p s t claims m h

  module _ (leaving next : ℕ → Option ℕ) (pairs : Contents) (effect : Option Effect)
      (goes : TreeGoesOn plan.shape t.words calm after pairs effect) (live : HeldAreLive plan.shape s)
      (by : LeavesBy plan.shape s t p calm effect leaving next) (leave : ObsoleteLeave plan.shape s calm leaving) where
    -- a row that is held is reached after the step as before it, with the same children
    not-gone : (r : ℕ) (call : Call) (q : Process) → IsOpen t r call q → (x : HeldRow) → IsAmong x (held_by Coupled plan.shape call q)
        → is_obsolete x.kept ≡ false → IsGoneBy effect x.base → ⊥
    not-gone r call q o x a alive gone =
        false≢true (sym (held-live plan.shape s t p words calm after f r call q o x a alive) ∙ goes.gone x.base gone)

    still-hangs : (r : ℕ) (call : Call) (q : Process) → IsOpen t r call q → (x : HeldRow) → IsAmong x (held_by Coupled plan.shape call q)
        → (byte : ℕ) → byte < 256
        → (base : ℕ) (kind : Kind) → child_on plan.shape calm x.base x.kind byte ≡ ChildRow base kind
        → child_on plan.shape after x.base x.kind byte ≡ ChildRow base kind
    still-hangs r call q o x a byte small base kind hangs =
        child-same plan.shape calm after x.base x.kind byte small (held-calm plan.shape s t p words calm after f r call q o x a) ∙ hangs

    unlock-among : (shape : Shape) (u : State) (r : ℕ) (call : Call) (hold : Hold) (outcome : _)
        (x : IsAtStage Coupled shape u r call (OnKey (Unlock hold outcome)))
        → IsAmong (lock_of hold.row) (held_by Coupled shape call x.process)
    unlock-among shape u r call hold outcome x =
        subst (λ y. IsAmong (lock_of hold.row) (holds (setting shape Coupled call) y)) (sym x.at) (inl refl)

    -- it was obsolete before
    was-leaving : (base : ℕ) (kind : Kind) → (IsGoneBy effect base → ⊥) → IsLeaving plan.shape s calm leaving base kind
        → IsLeaving plan.shape t after next base kind
    was-leaving base kind stays l = elim (cases_eq l.process p) [
      | inl e ↦ absurd (stays
          (by.leaves l.call l.hold l.outcome base
          (subst (λ r. IsAtStage Coupled plan.shape s r l.call (OnKey (Unlock l.hold l.outcome))) e l.at)
          (ap leaving (sym e) ∙ l.leaves)))
      | inr apart ↦
          let then : IsAtStage Coupled plan.shape t l.process l.call (OnKey (Unlock l.hold l.outcome)) =
          record {
            process = l.at.process;
            is_open = others-open plan p l.process s t l.call l.at.process h.run.made apart l.at.is_open;
            at = l.at.at;
          } in
          let among = unlock-among plan.shape s l.process l.call l.hold l.outcome l.at in
          record {
            process = l.process;
            call = l.call;
            hold = l.hold;
            outcome = l.outcome;
            at = then;
            leaves = by.others l.process apart ∙ l.leaves;
            byte = l.byte;
            is_byte = l.is_byte;
            reached = (goes.follows.rows l.hold.row.base l.hold.row.kind).1
                (inl (
                  l.reached,
                  not-gone l.process l.call l.at.process then.is_open (lock_of l.hold.row) among
                      (live l.process l.call l.at.process l.at.is_open (lock_of l.hold.row) among),
                ));
            hangs = still-hangs l.process l.call l.at.process then.is_open (lock_of l.hold.row) among l.byte l.is_byte base kind l.hangs;
          }
    ]

    -- the step makes it obsolete
    leaves-now : (base : ℕ) (kind : Kind) → kind_at plan.shape base ≡ Some kind
        → MadeBy plan.shape h.run.before.within.shape.root s t p words calm after f live base kind
        → IsLeaving plan.shape t after next base kind
    leaves-now base kind row x = record {
      process = p;
      call = x.call;
      hold = hold_alone y.0.above;
      outcome = Some no_value;
      at = then;
      leaves = y.1 ∙ ap Some (sym x.is);
      byte = y.0.byte;
      is_byte = y.0.is_byte;
      reached = (goes.follows.rows y.0.above.base y.0.above.kind).1 (inl (
        y.0.reached,
        not-gone p x.call then.process then.is_open (lock_of y.0.above)
            (unlock-among plan.shape t p x.call (hold_alone y.0.above) (Some no_value) then)
            (live p x.call x.at.process x.at.is_open (lock_of y.0.above)
            above-held),
      ));
      hangs = still-hangs p x.call then.process then.is_open (lock_of y.0.above)
          (unlock-among plan.shape t p x.call (hold_alone y.0.above) (Some no_value) then)
          y.0.byte y.0.is_byte base kind (y.0.hangs ∙ (ap (λ b. ChildRow b x.hold.row.kind) (sym x.is) ∙ ap (ChildRow base) kinds));
    }
      where
        y : MakesLeave plan.shape calm x.hold (next p)
        y = by.makes x.call x.hold x.at

        held-there : (r : HeldRow) → IsAmong r (locks_of (rows_of_hold x.hold)) → IsAmong r (held_by Coupled plan.shape x.call x.at.process)
        held-there r a = subst (λ z. IsAmong r (holds (setting plan.shape Coupled x.call) z)) (sym x.at.at) a

        above-held : IsAmong (lock_of y.0.above) (held_by Coupled plan.shape x.call x.at.process)
        above-held = held-there (lock_of y.0.above)
            (subst (λ o. IsAmong (lock_of y.0.above) (locks_of (x.hold.row ∷ all_of o))) (sym y.0.is) (inr (inl refl)))

        kinds : x.hold.row.kind ≡ kind
        kinds = same_Some x.hold.row.kind kind (sym (settled-row Coupled plan.shape s x.hold.row.base x.hold.row.kind
            (kept-row plan.shape s t p words calm after f p x.call x.at.process x.at.is_open (lock_of x.hold.row)
            (held-there (lock_of x.hold.row) (inl refl))))
            ∙ (ap (kind_at plan.shape) (sym x.is) ∙ row))

        then : IsAtStage Coupled plan.shape t p x.call (OnKey (Unlock (hold_alone y.0.above) (Some no_value)))
        then =
            let z = made plan p s t x.call x.at.process (Store x.hold.row.base (obsolete_word x.hold.row.kept)) (Some point.Unlock)
            h.coupled h.run.made
            x.at.is_open (ap (call_turn (setting plan.shape Coupled x.call)) x.at.at) in
            record {
              process = z.process;
              is_open = z.is_open;
              at = z.at ∙ (ap (λ v. call_after (setting plan.shape Coupled x.call) v 0) x.at.at ∙ ap
                  (λ o. OnKey (release_at true o (Some no_value))) y.0.is);
            }

    rows-leave : ObsoleteLeave plan.shape t after next
    rows-leave base kind r dead = go ((goes.follows.rows base kind).0 r)
      where
        go : (Reached plan.shape calm base kind × (IsGoneBy effect base → ⊥)) ⊎ ComesInBy effect base kind
            → IsLeaving plan.shape t after next base kind
        go (inr fresh) = absurd (false≢true (sym (by.fresh base kind fresh) ∙ dead))
        go (inl (was, stays)) = before (is_obsolete (slice_index s.words base)) refl
          where
            row : kind_at plan.shape base ≡ Some kind
            row = reached-kind plan.shape s t p words calm after f claims h.rests base kind was

            before : (b : Bool) → is_obsolete (slice_index s.words base) ≡ b → IsLeaving plan.shape t after next base kind
            before true e = was-leaving base kind stays (leave base kind was e)
            before false e =
                leaves-now base kind row
                (becomes plan.shape h.run.before.within.shape.root s t p words calm after f live base kind row e dead)

  -- a call on its way takes no obsolete row
  module _ (leaving : ℕ → Option ℕ) (leave : ObsoleteLeave plan.shape s calm leaving) (call : Call) (stage : Stage)
      (at-stage : IsAtStage Coupled plan.shape s p call (OnKey stage))
      (found : Option Reply) (k : KnowsWay (setting plan.shape Coupled call) calm s.words found stage) where
    takes-live-rows : TakesLive plan.shape s p
    takes-live-rows x asks is =
        let turn = ap (call_turn (setting plan.shape Coupled call)) (sym at-stage.at)
        ∙ its-turn plan.shape s t p words calm after f call at-stage.process at-stage.is_open
        (Swap x.base x.kept (locked_word x.kept)) asks in
        live-taken plan.shape s t p words calm after f claims h.rests leaving leave call at-stage.process at-stage.is_open found stage
        at-stage.at k.way x.base
        x.kept
        asks.mark turn is

pub ways-take-live : WaysTakeLive
ways-take-live plan start words schedule p s t claims m leaving call stage found h leave at k =
    takes-live-rows plan start words schedule p s t claims m h leaving leave call stage at found k

pub work-takes-live : WorkTakesLive
work-takes-live plan start words schedule p s t claims m call stage h at w x asks is = absurd (none touches)
  where
    known : Facts plan.shape s t p words (calm_of plan words schedule) (calm_of plan words (schedule ++ p ∷ []))
    known = f plan start words schedule p s t claims m h

    touches : TouchesOwn (setting plan.shape Coupled call) (OnKey stage)
    touches = work-own Coupled (inl refl) plan.shape call h.run.before.within.shape.root stage w
        (subst (Knows (RowsOf plan.shape) (setting plan.shape Coupled call)) at.at
        (rows-known Coupled plan.shape known.count s p call at.process known.sound
        at.is_open))

    turn : turn_at (setting plan.shape Coupled call) stage ≡ Asks (Swap x.base x.kept (locked_word x.kept)) asks.mark
    turn = ap (call_turn (setting plan.shape Coupled call)) (sym at.at)
        ∙ its-turn plan.shape s t p words _ _ known call at.process at.is_open (Swap x.base x.kept (locked_word x.kept)) asks

    none : TouchesOwn (setting plan.shape Coupled call) (OnKey stage) → ⊥
    none (LoadsHeld word mark e held) = load-exchange (sym e ∙ turn)
    none (StoresOwn word v mark e own) = store-exchange (sym e ∙ turn)
    none (ClaimsRow k mark e may) = add-exchange (sym e ∙ turn)
    none (ReleasesHeld row v mark e among may) = store-exchange (sym e ∙ turn)
    none (Replies r e) = answers-asks (sym e ∙ turn)

pub obsolete-rows-leave : ObsoleteRowsLeave
obsolete-rows-leave plan start words schedule p s t claims m leaving next pairs effect h goes live by leave =
    rows-leave plan start words schedule p s t claims m h leaving next pairs effect goes live by leave

pub rests-have-none : RestsHaveNone
rests-have-none shape claims s leaving rest base kind r dead = absurd (false≢true (sym (rest.live base kind r) ∙ dead))
