-- The bytes are where room was made for others, and those that were read come after them.
use Rattle.stream_text.proofs.Common.{◌≡◌, ◌+◌, List, ℕ, length, ap, ◌∙◌, arith, between, err_from_is_err_and, LineBufferView}
use Rattle.stream_text.proofs.LineBufferLemmas.{kept_before, grown_behind, length_between}
use Rattle.stream_text.proofs.line_buffer.LineBuffer.fill.Goals.{After-make_room-from}
use Rattle.stream_text.proofs.line_buffer.LineBuffer.fill.Goals as goal

-- the bytes are where room was made
moved : (g : _) (c : After-make_room-from g)
    → between c.make_room-from.result.0 c.make_room-from.result.1 c.make_room-from.new.buffer ≡ c.args.self.now.bytes
moved g c =
    c.make_room-from.ensures.same
    ∙ (ap (between c.self.inside.from c.self.inside.to) c.deref_mut.ensures.value ∙ ap (λ (w : LineBufferView). w.bytes) c.self.view_is)

as_long : (g : _) (c : After-make_room-from g) → length c.make_room-from.new.buffer ≡ length c.self.inside.buffer.items
as_long g c = c.make_room-from.auto.buffer ∙ ap (λ (xs : List ℕ). length xs) c.deref_mut.ensures.value

size : (g : _) (c : After-make_room-from g) → length c.self.inside.buffer.items ≡ c.self.inside.buffer.len
size g c = omega (arith, c.self.inside.buffer.ok.0)

pub returns-in_err-count-clause-same : goal.returns-in_err-count-clause-same
returns-in_err-count-clause-same g c =
    let p = err_from_is_err_and c.from_residual.result c.from_residual.ensures.1 in
    let here = (goal.at.returns-in_err-count-clause-same g c).After-make_room-from in
    let i = c.self.inside.buffer in
    let m = c.make_room-from in
    rw p.1
    (kept_before i.items m.new.buffer c.deref_mut-2.result.now c.read_after.new.buffer c.args.self.now.bytes i.len m.result.0 m.result.1
    (size g here) (as_long g here) (moved g here) c.deref_mut-2.ensures.value c.read_after.auto.buffer c.in_err-count.ensures.before)

pub returns-clause-grown : goal.returns-clause-grown
returns-clause-grown g c =
    let here = (goal.at.returns-clause-grown g c).After-make_room-from in
    let i = c.self.inside.buffer in
    let m = c.make_room-from in
    let b = m.result.1 in
    let n = c.in_ok-count.count in
    let read = c.read_after.new.buffer in
    record {
      bytes = between b (b + n) read;
      grown =
          grown_behind i.items m.new.buffer c.deref_mut-2.result.now read c.args.self.now.bytes i.len m.result.0 b (size g here)
          (as_long g here) (moved g here) c.deref_mut-2.ensures.value c.read_after.auto.buffer c.in_ok-count.ensures.before
          n m.ensures.order c.in_ok-count.ensures.within;
      counted = length_between read b (b + n) (omega arith) c.in_ok-count.ensures.within ∙ omega arith;
      consumed = c.in_ok-count.ensures.consumed;
    }
