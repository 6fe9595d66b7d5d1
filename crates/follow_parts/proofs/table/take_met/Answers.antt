use Rattle.follow_parts.proofs.Common.{◌≡◌, ◌≤◌, ℕ, false, List, refl, subst, arith, covered, Range}
use Rattle.follow_parts.proofs.ReadingLemmas.{meeting_out, meeting_past}
use Rattle.follow_parts.proofs.table.take_met.Goals as goal

pub loop-place-preserved-in-Continue-1 : goal.loop-place-preserved-in-Continue-1
loop-place-preserved-in-Continue-1 c =
    meeting_out c.args.low c.args.high c.args.parts.now.items c.loop-place.parts.items c.loop-place.met.items c.remove-part.new.self.items
    c.push.new.self.items c.loop-place.place c.remove-part.result c.loop-place.invariant
    (omega (arith, c.loop-place.parts.ok.0, c.len.ensures, c.loop-place-test.true)) c.remove-part.ensures.value c.remove-part.ensures.items
    c.in_ok-push.ensures.items

pub loop-place-preserved : goal.loop-place-preserved
loop-place-preserved c =
    meeting_past c.args.low c.args.high c.args.parts.now.items c.loop-place.parts.items c.loop-place.met.items c.loop-place.place
    c.index.result.now c.loop-place.invariant (omega (arith, c.loop-place.parts.ok.0, c.len.ensures, c.loop-place-test.true)) c.index.ensures
    (subst (λ (rs : List Range). (key : ℕ) → c.args.low ≤ key → key ≤ c.args.high → covered rs key ≡ false) c.deref.ensures.value
    (c.if-meet.ensures.none refl))
