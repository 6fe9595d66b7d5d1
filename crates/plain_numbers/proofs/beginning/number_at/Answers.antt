use Rattle.std.proofs.Common.{ℕ, ◌+◌, ◌*◌, ◌^◌, ◌<◌, decimal, sym, ap, ◌∙◌, arith}
use Rattle.plain_numbers.proofs.DecimalLemmas.{zero_front, first_digit, next_digit, digits_end}
use Rattle.plain_numbers.proofs.beginning.number_at.Goals as goal

pub returns-then-number-eq0-clause-text : goal.returns-then-number-eq0-clause-text
returns-then-number-eq0-clause-text c =
    let first = c.in_ok-number.ensures in
    zero_front c.args.text.now first.within (first.digit ∙ ap (λ (n : ℕ). 48 + n) c.if-number-eq0.true)

pub digits-init : goal.digits-init
digits-init c =
    let first = c.in_ok-number.ensures in
    record {
      some = omega (arith, c.if-number-eq0.false);
      fits = omega (arith, first.small);
      so_far = first_digit c.args.text.now c.in_ok-number.number first.within first.digit first.small;
    }

pub digits-preserved : goal.digits-preserved
digits-preserved c =
    let l = c.digits in
    let next = c.in-Some.ensures in
    let more = c.in_ok-more.ensures in
    let fits : l.number * 10 + c.in-Some.unit < 2 ^ 64 = omega (arith, more.more, more.fits) in
    record {
      some = omega (arith, more.more, l.invariant.some);
      fits = more.fits;
      so_far =
          next_digit c.args.text.now l.place l.number c.in-Some.unit next.within l.invariant.so_far l.invariant.some next.digit next.small fits
          ∙ ap decimal (sym more.more);
    }

pub returns-in_default-clause-text : goal.returns-in_default-clause-text
returns-in_default-clause-text c = digits_end c.args.text.now c.digits.place c.digits.number c.digits.invariant.so_far

pub returns-in_default-clause-fits : goal.returns-in_default-clause-fits
returns-in_default-clause-fits c = c.digits.invariant.fits
