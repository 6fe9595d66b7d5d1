-- A viewport with its ends worked out step by step is what a view shows, or a picture of a few calls.
use Rattle.draw_picture.proofs.Common.{◌≡◌, ℕ, ◌+◌, Bool, false, List, length, Option, Result, IfOk, subst, sym, MatchBool, min, few_room, IsFewOf}
use Rattle.draw_picture.proofs.Common.{IsNarrowedTo, column_of, columns_of, event_meant, event_shown, is_whole, rank, room_for, viewport_from, IsPartOf}
use Rattle.draw_picture.proofs.Common.{IsShownOf, IsViewportAround, IsViewportOf}
use Rattle.draw_picture.specs.declared.picture.Picture.{Picture}
use Rattle.draw_picture.specs.declared.picture.View.{View}

pub viewport-around : {E : Type 0} (room column event : ℕ) (whole : Picture) (result : Result Picture E) (among : List ℕ)
    (middle size from other least : ℕ) → among ≡ columns_of whole.bars.items whole.marks.items → middle ≡ rank among column
    → size ≡ length among → from ≡ viewport_from size middle room → other ≡ length among → least ≡ min room other
    → IfOk result (IsPartOf among event from (from + least) whole) → IfOk result (IsViewportAround room column event whole)
viewport-around room column event whole result among middle size from other least a m s f o l part = rw (l, o, f, s, m, a) at part

pub shown-part : {E : Type 0} (events : ℕ) (wrong : Option ℕ) (view : View) (whole : Picture) (result : Result Picture E)
    (room event column : ℕ) → room ≡ room_for view.calls → is_whole room whole.columns ≡ false
    → event ≡ event_shown events wrong view.around whole.marks.items → column ≡ column_of whole.marks.items event
    → IfOk result (IsViewportAround room column event whole) → IfOk result (IsShownOf events wrong view whole)
shown-part events wrong view whole result room event column r not_whole e c part =
    let viewport = rw (c, e, r) at part in
    subst (λ (b : Bool). IfOk result (λ p. MatchBool b (p ≡ whole)
    (IsViewportOf (room_for view.calls) (event_shown events wrong view.around whole.marks.items) whole p))) (sym (rw r at not_whole)) viewport

pub few-shown : (places : List ℕ) (wrong : Option ℕ) (whole narrowed part : Picture) (event column : ℕ)
    → event ≡ event_meant wrong whole.marks.items → column ≡ column_of whole.marks.items event → IsNarrowedTo places whole narrowed
    → IsViewportAround few_room column event narrowed part → IsFewOf places wrong whole part
few-shown places wrong whole narrowed part event column e c named viewport = record {
  narrowed = narrowed;
  named = named;
  shown = rw (c, e) at viewport;
}
