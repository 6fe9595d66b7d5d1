-- What a call knows stays known, and rows that it holds are rows that it knows.
use Rattle.art_schedules.proofs.Common.{ℕ, List, [], ◌∷◌, sym, subst, Bool, true, false, inl, inr, ◌++◌, refl, ◌≡◌, ◌∙◌, ap, ◌==◌, map}
use Rattle.art_schedules.proofs.Common.{Call, HeldRow, Kind, Process, Setting, State, false≢true, has_row, is_insert, locks, same_Some}
use Rattle.std.proofs.lemmas.Bool.{eqb-true}
use Rattle.art_schedules.proofs.Common.{Frame, ScanStep, Stage, Wait, Leave, Between, Info, Find, FindKeys, FindMore, FindCount, Slot, Check}
use Rattle.art_schedules.proofs.Common.{CheckLast, LetGo, Take, Write, ClaimPair, StorePair, PutLoad, PutStore, PutLeaf, PutKeys, PutMore}
use Rattle.art_schedules.proofs.Common.{PutCount, ClaimGrow, GrowInfo, GrowLoad, GrowStore, SpreadIndex, SpreadLoad, SpreadStore, GrowLeaf}
use Rattle.art_schedules.proofs.Common.{GrowKeys, GrowCount, Hang, Obsolete, Unlock, Over, Position, Down, held, row_at, Walk, CallAt, OnKey}
use Rattle.art_schedules.proofs.Common.{OnScan, all_of, locks_of, held_at_place, held_below, scan_held, held_at_stage, OfRows, Each}
use Rattle.art_schedules.proofs.Common.{kept_at_place, kept_below, FitsFrame, FitsScan, IsKept, IsNamed, Knows, holds, KnowsRows, IsAmong, IsOpen}
use Rattle.art_schedules.proofs.Common.{FirstKeys, Index, Release, SecondKeys}
use Rattle.std.proofs.Common.{if◌then◌else◌}
use Rattle.art_control_states.specs.declared.stage.Stage.TheVariants.{Lock, Exchange}
use Rattle.art_schedules.specs.versions.Locking.{held_between}
use Rattle.art_schedules.proofs.versions.KeyLemmas.{each-weaker, each-split}
use Rattle.art_control_states.specs.declared.stage.ScanStep.TheVariants as scan

pub among-each : (P : HeldRow → Type 0) (h : HeldRow) (xs : List HeldRow) → IsAmong h xs → Each P xs → P h
among-each P h [] a e = absurd a
among-each P h (x ∷ xs) (inl same) e = subst P (sym same) e.0
among-each P h (x ∷ xs) (inr later) e = among-each P h xs later e.1

module _ (P : OfRows) (l : Bool) where
  locks-kept : (hs : List HeldRow) → Each (IsKept l P) hs → Each (IsKept l P) (locks_of hs)
  locks-kept [] k = tt
  locks-kept (h ∷ hs) k = (k.0, locks-kept hs k.1)

module _ (P : OfRows) where
  place-kept : (l i : Bool) (p : Position) → Each (IsKept l P) (kept_at_place l i p) → Each (IsKept l P) (held_at_place l i p)
  place-kept true i p k = k
  place-kept false i p k = tt

  below-kept : (l i : Bool) (d : Down) (kept : ℕ) → Each (IsKept l P) (kept_below l i d kept) → Each (IsKept l P) (held_below l i d kept)
  below-kept true i d kept k = k
  below-kept false i d kept k = tt

  between-kept : (l : Bool) (d : Down) (kept : ℕ) → Each (IsKept l P) (held d.base d.kind 0 kept ∷ d.above ∷ [])
      → Each (IsKept l P) (held_between l d kept)
  between-kept true d kept k = k
  between-kept false d kept k = tt

module _ (P : OfRows) (l i : Bool) (c : Setting) where
  held-kept : (stage : Stage) → KnowsRows P l i c stage → Each (IsKept l P) (held_at_stage l i stage)
  held-kept (Take t) k = (each-split (IsKept l P) (all_of t.held) (all_of t.below) k.kept.1).0
  held-kept (Write h slot word reply) k = k.kept
  held-kept (ClaimPair h p) k = k.kept
  held-kept (StorePair h p base word) k = k.kept
  held-kept (PutLoad h keys left) k = k.kept
  held-kept (PutStore h keys left word) k = k.kept
  held-kept (PutLeaf h keys) k = k.kept
  held-kept (PutKeys h keys) k = k.kept
  held-kept (PutMore h keys) k = k.kept
  held-kept (PutCount h keys) k = k.kept
  held-kept (ClaimGrow h slot keys) k = k.kept
  held-kept (GrowInfo g) k = k.kept
  held-kept (GrowLoad g place left) k = k.kept
  held-kept (GrowStore g place left word) k = k.kept
  held-kept (SpreadIndex g place left) k = k.kept
  held-kept (SpreadLoad s entry after) k = k.kept
  held-kept (SpreadStore s entry after word) k = k.kept
  held-kept (GrowLeaf g) k = k.kept
  held-kept (GrowKeys g place left) k = k.kept
  held-kept (GrowCount g) k = k.kept
  held-kept (Hang g) k = k.kept
  held-kept (Obsolete h) k = k.kept
  held-kept (Unlock h outcome) k = k.kept
  held-kept (Lock t first) k = k.kept
  held-kept (Exchange t v) k = k.kept
  held-kept (LetGo above p f) k = k.kept
  held-kept (Between d kept) k = between-kept P l d kept k.kept
  held-kept (Info d kept) k = below-kept P l i d kept k.kept
  held-kept (Find p) k = place-kept P l i p k.kept
  held-kept (FindKeys p count) k = place-kept P l i p k.kept
  held-kept (FindMore p count first) k = place-kept P l i p k.kept
  held-kept (FindCount p index) k = place-kept P l i p k.kept
  held-kept (Slot p slot) k = place-kept P l i p k.kept
  held-kept (Wait t) k = tt
  held-kept (Leave d) k = tt
  held-kept (Check p f) k = tt
  held-kept (CheckLast n) k = tt
  held-kept (Over outcome) k = tt

module _ (P : OfRows) (c : Setting) where
  pub held-is-kept : (at : CallAt) → Knows P c at → (h : HeldRow) → IsAmong h (holds c at) → IsKept (locks c.variant) P h
  held-is-kept (OnKey stage) k h a =
      let rows = held_at_stage (locks c.variant) (is_insert c.call) stage in
      among-each (IsKept (locks c.variant) P) h (locks_of rows) a
      (locks-kept P (locks c.variant) rows (held-kept P (locks c.variant) (is_insert c.call) c stage k))
  held-is-kept (OnScan low high at) k h a =
      let rows = scan_held (locks c.variant) at.step at.walk in
      among-each (IsKept (locks c.variant) P) h (locks_of rows) a (locks-kept P (locks c.variant) rows k.kept)

-- where more is so of rows
module _ (P Q : OfRows) (c : Setting) (more : (b : ℕ) (k : Kind) → P b k → Q b k) where
  frames : (fs : List Frame) → Each (FitsFrame P) fs → Each (FitsFrame Q) fs
  frames fs h = each-weaker (FitsFrame P) (FitsFrame Q) (λ f x. (more f.row.base f.row.kind x.0, x.1)) fs h

  fits-more : (l : Bool) (step : ScanStep) (w : Walk) → FitsScan l P step w → FitsScan l Q step w
  fits-more l (scan.Lock entry first) w h = h
  fits-more l (scan.Exchange entry version) w h = h
  fits-more l (scan.Wait entry) w h = h
  fits-more l (scan.Info base kind kept) w h = h
  fits-more l (scan.Keys n) w h = h
  fits-more l (scan.FirstKeys n count) w h = h
  fits-more l (scan.SecondKeys n count first) w h = h
  fits-more l (scan.Index n index words) w h = h
  fits-more l (scan.Child f slot) w h = ((more f.row.base f.row.kind h.0.0, h.0.1), h.1)
  fits-more l (scan.Release n) w h = h
  fits-more l scan.Over w h = h

  pub knows-more : (at : CallAt) → Knows P c at → Knows Q c at
  knows-more (OnKey stage) k = record {
    kept = each-weaker (IsKept (locks c.variant) P) (IsKept (locks c.variant) Q) (λ h x. (x.0, more h.base h.kind x.1)) _ k.kept;
    known = each-weaker (IsNamed P) (IsNamed Q) (λ m x. more m.0 m.1 x) _ k.known;
    fits = k.fits;
    filled = k.filled;
  }
  knows-more (OnScan low high at) k = record {
    kept = each-weaker (IsKept (locks c.variant) P) (IsKept (locks c.variant) Q) (λ h x. (x.0, more h.base h.kind x.1)) _ k.kept;
    known = each-weaker (IsNamed P) (IsNamed Q) (λ m x. more m.0 m.1 x) _ k.known;
    fits = fits-more (locks c.variant) at.step at.walk k.fits;
    way = frames at.walk.way k.way;
  }

pub among-front : (n : HeldRow) (xs ys : List HeldRow) → IsAmong n xs → IsAmong n (xs ++ ys)
among-front n [] ys a = absurd a
among-front n (x ∷ xs) ys (inl e) = inl e
among-front n (x ∷ xs) ys (inr a) = inr (among-front n xs ys a)

pub among-last : (n : HeldRow) (xs : List HeldRow) → IsAmong n (xs ++ n ∷ [])
among-last n [] = inl refl
among-last n (x ∷ xs) = inr (among-last n xs)

pub found-row : (base : ℕ) (rows : List HeldRow) → has_row base (map row_at rows) ≡ true → (n : HeldRow) × IsAmong n rows × (n.base ≡ base)
found-row base [] h = absurd (false≢true h)
found-row base (n ∷ rows) h = go (n.base == base) refl h (found-row base rows)
  where
    go : (b : Bool) → (n.base == base) ≡ b → (if b then true else has_row base (map row_at rows)) ≡ true
        → (has_row base (map row_at rows) ≡ true → (m : HeldRow) × IsAmong m rows × (m.base ≡ base)) → (m : HeldRow)
        × IsAmong m (n ∷ rows) × (m.base ≡ base)
    go true e k later = (n, inl refl, eqb-true n.base base e)
    go false e k later = let r = later k in (r.0, inr r.1, r.2)

pub each-among : (P : HeldRow → Type 0) (hs : List HeldRow) → ((h : HeldRow) → IsAmong h hs → P h) → Each P hs
each-among P [] f = tt
each-among P (h ∷ hs) f = (f h (inl refl), each-among P hs (λ x a. f x (inr a)))

pub each-map : {P Q : HeldRow → Type 0} → ((x : HeldRow) → P x → Q x) → (xs : List HeldRow) → Each P xs → Each Q xs
each-map f [] e = tt
each-map f (x ∷ xs) e = (f x e.0, each-map f xs e.1)

-- two open calls of a process are one
pub same-process : (s : State) (p : ℕ) (call other : Call) (q w : Process) → IsOpen s p call q → IsOpen s p other w → q ≡ w
same-process s p call other q w o x = same_Some q w (sym o.own ∙ x.own)

pub same-call : (s : State) (p : ℕ) (call other : Call) (q w : Process) → IsOpen s p call q → IsOpen s p other w → call ≡ other
same-call s p call other q w o x =
    same_Some call other (sym o.is_open ∙ (ap (λ (y : Process). y.call) (same-process s p call other q w o x) ∙ x.is_open))
