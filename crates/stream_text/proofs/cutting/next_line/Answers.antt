-- The bytes at hand are looked at from where the last look ended.
use Rattle.stream_text.proofs.Common.{◌≡◌, ◌+◌, ℕ, List, length, take, drop, Ok, length-append, subst, refl, sym, ap, ◌∙◌, arith, take_all, drop_all}
use Rattle.stream_text.proofs.Common.{take_at, Keeps, prepend_known, HasNoLineFeed}
use Rattle.std.proofs.KnownBytes.{Keeps-trans}
use Rattle.stream_text.proofs.CutLemmas.{whole_all, IsFedAt-found, takes_fed, long_fed, long_unfed, last_line, GrowsBy-none, Keeps-grown}
use Rattle.stream_text.proofs.cutting.next_line.Goals as goal

pub returns-then-length-gt-MAX_LINE-clause-too_long : goal.returns-then-length-gt-MAX_LINE-clause-too_long
returns-then-length-gt-MAX_LINE-clause-too_long g c = λ _.
    let l = c.loop-more in
    let arm = c.in-Some in
    let fed = IsFedAt-found l.buffer.bytes l.seen arm.more l.invariant.whole (rw c.bytes.ensures at arm.ensures.within)
    (rw c.bytes.ensures at arm.ensures.here)
    (rw c.bytes.ensures at arm.ensures.before) in
    long_fed _ _ l.buffer.bytes l.seen arm.more l.invariant.kept fed c.if-length-gt-MAX_LINE.true

pub returns-in-Some-clause-line : goal.returns-in-Some-clause-line
returns-in-Some-clause-line g c =
    let l = c.loop-more in
    let arm = c.in-Some in
    let fed = IsFedAt-found l.buffer.bytes l.seen arm.more l.invariant.whole (rw c.bytes.ensures at arm.ensures.within)
    (rw c.bytes.ensures at arm.ensures.here)
    (rw c.bytes.ensures at arm.ensures.before) in
    rw c.split_line.ensures (takes_fed _ _ l.buffer.bytes l.seen arm.more l.invariant.kept fed c.if-length-gt-MAX_LINE.false)

pub returns-then-seen-gt-MAX_LINE-clause-too_long : goal.returns-then-seen-gt-MAX_LINE-clause-too_long
returns-then-seen-gt-MAX_LINE-clause-too_long g c = λ _.
    let l = c.loop-more in
    let whole = whole_all l.buffer.bytes l.seen l.invariant.whole (rw c.bytes.ensures at c.in_default.ensures.none) in
    long_unfed _ _ l.buffer.bytes l.invariant.kept whole (rw c.bytes-seen.ensures at c.if-seen-gt-MAX_LINE.true)

pub returns-then-branch-eq0-clause-line : goal.returns-then-branch-eq0-clause-line
returns-then-branch-eq0-clause-line g c =
    let l = c.loop-more in
    let bytes = l.buffer.bytes in
    let after = c.fill.new.self.bytes in
    let now = g.S.Source.remaining c.fill.new.source in
    let start = prepend_known c.args.buffer.now.bytes (g.S.Source.remaining c.args.source.now) in
    let grown = c.in_ok-fill.ensures.grown in
    let same = GrowsBy-none _ now bytes after _ grown c.if-branch-eq0.true in
    let end = c.fill.ensures.end (c.in_ok-fill.was ∙ ap Ok c.if-branch-eq0.true) in
    let kept = Keeps-trans start _ (prepend_known after now) l.invariant.kept (Keeps-grown _ now bytes after _ grown) in
    let whole = whole_all bytes l.seen l.invariant.whole (rw c.bytes.ensures at c.in_default.ensures.none) in
    rw (c.split_line-then-branch-eq0.ensures, c.bytes-seen.ensures)
    (last_line start now bytes _ _ (ap (take (length bytes)) same ∙ take_all (length bytes) bytes (omega arith))
    (ap (drop (length bytes + 1)) same ∙ drop_all (length bytes + 1) bytes (omega arith)) whole
    (rw c.bytes-seen.ensures at c.if-seen-gt-MAX_LINE.false)
    (subst (λ (xs : List ℕ). Keeps start (prepend_known xs now)) same kept) end)

pub loop-more-preserved : goal.loop-more-preserved
loop-more-preserved g c =
    let l = c.loop-more in
    let bytes = l.buffer.bytes in
    let after = c.fill.new.self.bytes in
    let now = g.S.Source.remaining c.fill.new.source in
    let grown = c.in_ok-fill.ensures.grown in
    let whole = whole_all bytes l.seen l.invariant.whole (rw c.bytes.ensures at c.in_default.ensures.none) in
    let first : take (length c.bytes-seen.result.now) after ≡ bytes =
    ap (λ (xs : List ℕ). take (length xs) after) c.bytes-seen.ensures
    ∙ (ap (take (length bytes)) grown.grown ∙ take_at bytes grown.bytes (length bytes) refl) in
    record {
      seen = omega (
        arith,
        ap (λ (xs : List ℕ). length xs) c.bytes-seen.ensures,
        ap (λ (xs : List ℕ). length xs) grown.grown,
        length-append
            bytes grown.bytes,
      );
      whole = subst HasNoLineFeed (sym first) whole;
      no_line = c.in_ok-fill.ensures.no_line;
      kept = Keeps-trans _ _ (prepend_known after now) l.invariant.kept (Keeps-grown _ now bytes after _ grown);
      counted = c.in_ok-fill.ensures.counted ∙ l.invariant.counted;
    }
