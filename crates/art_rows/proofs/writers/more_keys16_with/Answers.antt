use Rattle.art_rows.proofs.Common.{ℕ, ◌+◌, ◌-◌, ◌*◌, ap, ◌∙◌, arith, packed, low_bytes}
use Rattle.art_rows.proofs.WriterLemmas.{byte_fits, second_few, second_many, second_put, second_kept, put_in}
use Rattle.art_rows.proofs.writers.more_keys16_with.Goals as goal

pub overflow_mul-result : goal.overflow_mul-result
overflow_mul-result c = omega (
  arith,
  byte_fits c.min.result c.low.result 0 (omega (arith, c.min.ensures)) (omega arith)
      c.low.ensures.below,
)

pub overflow_add-result : goal.overflow_add-result
overflow_add-result c =
    omega (
      arith,
      c.from.ensures,
      byte_fits c.min.result c.low.result c.word_byte.result (omega (arith, c.min.ensures)) (omega (arith, c.word_byte.ensures))
          c.low.ensures.below,
    )

pub returns-then-count-lt8 : goal.returns-then-count-lt8
returns-then-count-lt8 c =
    second_few c.args.byte c.args.count c.args.first c.args.second c.key_count-count.result c.new_key_place16-place.result 0
    c.key_count-count.ensures.count c.new_key_place16-place.ensures.place (omega arith)

pub returns-then-place-lt8 : goal.returns-then-place-lt8
returns-then-place-lt8 c =
    ap (λ (byte : ℕ). byte + 256 * c.low.result) (c.from.ensures ∙ c.word_byte.ensures)
    ∙ second_many c.args.byte c.args.count c.args.first c.args.second c.key_count-count.result c.new_key_place16-place.result c.low.result
    c.key_count-count.ensures.count c.new_key_place16-place.ensures.place (omega arith) (omega arith)
    (c.low.ensures.bytes ∙ ap (λ k. packed (low_bytes k c.args.second)) c.min.ensures)

pub returns-then-place-lt16 : goal.returns-then-place-lt16
returns-then-place-lt16 c =
    second_put c.args.byte c.args.count c.args.first c.args.second c.key_count-count.result c.new_key_place16-place.result c.with_byte_between.result
    c.key_count-count.ensures.count c.new_key_place16-place.ensures.place (omega arith) (omega arith) (omega arith)
    (c.with_byte_between.ensures.bytes
    ∙ ap (λ k. packed (put_in c.args.byte (c.new_key_place16-place.result - 8) (low_bytes k c.args.second))) c.min-then-place-lt16.ensures)

pub returns-else-place-lt16 : goal.returns-else-place-lt16
returns-else-place-lt16 c =
    second_kept c.args.byte c.args.count c.args.first c.args.second c.key_count-count.result c.new_key_place16-place.result 0
    c.key_count-count.ensures.count c.new_key_place16-place.ensures.place (omega arith) (omega arith) (omega arith)
