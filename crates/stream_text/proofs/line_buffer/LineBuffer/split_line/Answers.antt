use Rattle.stream_text.proofs.Common.{◌≡◌, ◌≤◌, ◌+◌, List, ℕ, length, take, drop, ap, ap₂, ◌∙◌, arith, between, LineBufferView}
use Rattle.stream_text.proofs.LineBufferLemmas.{between_front, between_rest, length_between}
use Rattle.stream_text.proofs.line_buffer.LineBuffer.split_line.Goals as goal

pub returns : goal.returns
returns c =
    let i = c.self.inside in
    let items = i.buffer.items in
    let n = c.args.count in
    let same : between i.from i.to items ≡ c.args.self.now.bytes = ap (λ (w : LineBufferView). w.bytes) c.self.view_is in
    let size = length_between items i.from i.to c.self.invariant.2 (omega (arith, i.buffer.ok.0, c.self.invariant.3, c.self.invariant.4)) in
    let within : i.from + n ≤ i.to = omega (arith, size, ap (λ (xs : List ℕ). length xs) same, c.requires, c.self.invariant.2) in
    let line = between_front items i.from i.to n within ∙ ap (take n) same in
    let bytes = ap (λ k. between k i.to items) c.min-self-inside.ensures
    ∙ (between_rest items i.from i.to n c.self.invariant.2 (omega (arith, i.buffer.ok.0, c.self.invariant.3, c.self.invariant.4))
    ∙ ap (drop (n + 1)) same) in
    ap₂ (λ (l b : List ℕ). let v : LineBufferView = record { line = l; bytes = b } in v) line bytes
