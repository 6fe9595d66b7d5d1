-- An answered scan of the optimistic tree made its last check after the moment of its reads.
use Rattle.art_schedules.proofs.Common.{◌≡◌, ℕ, suc, ◌+◌, ◌<◌, ◌≤◌, Bool, true, false, List, [], ◌∷◌, length, take, refl, ap, sym, ◌∙◌, inl, inr}
use Rattle.art_schedules.proofs.Common.{arith, if◌then◌else◌, slice_index, Option, None, Call, Scan, Reply, is_locked, Optimistic, Access, Point}
use Rattle.art_schedules.proofs.Common.{Answers, Asks, Setting, act, ScanAt, entry_base, scan_start, scan_after, scan_turn, Plan, State}
use Rattle.art_schedules.proofs.moments.ValidLemmas.{turn-is}
use Rattle.std.specs.Prelude.{◌⊎◌}
use Rattle.art_control_states.specs.declared.stage.Entry.TheVariants.{Root}
use Rattle.art_core.specs.Moments.{Reads, HasMoment}
use Rattle.art_schedules.proofs.moments.AttemptLemmas.{fold, Loads}
use Rattle.art_schedules.proofs.moments.ValidLemmas.{from-load}

module _ (plan : Plan) (lo hi : ℕ) (v : plan.variant ≡ Optimistic) (some : 1 ≤ plan.shape.rows256) where
  abbrev scan : Call
  scan = Scan lo hi

  abbrev set : Setting
  set = Rattle.art_schedules.proofs.moments.AttemptLemmas.c plan.shape lo hi

  abbrev begin : ScanAt
  begin = scan_start set

  -- The first word that WAIT found unlocked at the root: or it found none.
  abbrev First : List ℕ → Type 0
  First ws = (fold plan.shape lo hi begin ws ≡ begin)
      ⊎ ((i : ℕ) × (i < length ws) × (fold plan.shape lo hi begin (take i ws) ≡ begin) × (is_locked (slice_index ws i) ≡ false))

  waits : (w : ℕ) (other : ScanAt) → is_locked w ≡ true → scan_after set lo hi begin w ≡ (if is_locked w then begin else other)
      → scan_after set lo hi begin w ≡ begin
  waits w other locked after = after ∙ ap (λ b. if b then begin else other) locked

  first : (ws : List ℕ) → First ws
  first [] = inl refl
  first (w ∷ ws) = by-test (is_locked w) refl (first ws)
    where
      by-test : (b : Bool) → is_locked w ≡ b → First ws → First (w ∷ ws)
      by-test false free rest = inr (0, omega arith, refl, free)
      by-test true locked rest = elim rest [
        | inl e ↦ inl (ap (λ st. fold plan.shape lo hi st ws) (waits w _ locked refl) ∙ e)
        | inr x ↦ inr (suc x.0, omega (arith, x.1), ap (λ st. fold plan.shape lo hi st (take x.0 ws)) (waits w _ locked refl) ∙ x.2, x.3)
      ]

  no-answer : {a : Access} {m : Option Point} {reply : Reply} → Asks a m ≡ Answers reply → ⊥
  no-answer e = cc

  -- an attempt that answers has read a version of the root
  first-read : (attempt : List ℕ) (reply : Reply) → act plan.shape plan.variant scan attempt ≡ Answers reply
      → (i : ℕ) × Reads plan scan attempt i (entry_base set Root)
  first-read attempt reply answers = elim (first attempt) [
    | inl e ↦ absurd (no-answer (sym (ap (scan_turn set) e) ∙ (sym (turn-is plan lo hi v some attempt) ∙ answers)))
    | inr x ↦
        let loads : Loads plan.shape lo hi attempt x.0 (entry_base set Root) None = record { made = x.1; turn = ap (scan_turn set) x.2 } in
        (x.0, from-load plan lo hi v some attempt x.0 (entry_base set Root) None loads (inr x.3))
  ]

  -- At the moment of its reads a scan that is answered has a word to get.
  pub has-more : (first : State) (schedule got : List ℕ) (p calls : ℕ) (reply : Reply)
      (h : HasMoment plan first schedule p calls scan got reply)
      → act plan.shape plan.variant scan got ≡ Answers reply → length h.earlier + h.n < length h.earlier + length h.attempt
  has-more first schedule got p calls reply h answers =
      let x = first-read h.attempt reply (sym (h.begins h.attempt) ∙ (ap (act plan.shape plan.variant scan) (sym h.all) ∙ answers)) in
      let row = h.entered x.0 (entry_base set Root) x.1 in
      let check = h.checked row.entry row.base row.kind row.enters in
      let still = h.still row.entry check.0 row.base row.kind row.enters check.1 in
      omega (arith, still.1, check.1.reads.made)
