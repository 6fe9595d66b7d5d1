use Rattle.std.proofs.Common.{◌≡◌, ℕ, ◌+◌, ◌-◌, ◌%◌, ◌^◌, ◌<◌, subst, arith}
use Rattle.art_rows.proofs.WriterLemmas.{byte_fits}
use Rattle.art_rows.proofs.writers.+with_byte_between.Goals as goal

again : (n : ℕ) → 0 < n → n - 1 + 1 ≡ n
again n some = omega arith

pub overflow_mul-result : goal.overflow_mul-result
overflow_mul-result t c = omega (arith, byte_fits (c.args.count) c.low.result 0 (omega arith) (omega arith) c.low.ensures.below)

pub overflow_add-result : goal.overflow_add-result
overflow_add-result t c = omega (
  arith,
  byte_fits (c.args.count) c.low.result (c.from.result) (omega arith) (omega arith)
      c.low.ensures.below,
)

pub overflow_mul-result-else-count-eq0 : goal.overflow_mul-result-else-count-eq0
overflow_mul-result-else-count-eq0 t c =
    omega (
      arith,
      byte_fits (c.args.count) c.with_byte_between.result 0 (omega arith) (omega arith)
          (subst (λ k. c.with_byte_between.result < 256 ^ k) (again c.args.count (omega arith)) c.with_byte_between.ensures.below),
    )

pub overflow_add-result-else-count-eq0 : goal.overflow_add-result-else-count-eq0
overflow_add-result-else-count-eq0 t c =
    omega (
      arith,
      byte_fits (c.args.count) c.with_byte_between.result (c.args.bytes % 256) (omega arith) (omega arith)
          (subst (λ k. c.with_byte_between.result < 256 ^ k) (again c.args.count (omega arith)) c.with_byte_between.ensures.below),
    )
