use Rattle.explain_locate.proofs.Common.{arith, sym, subst, IfOk-weaker, IsYes, IsNo, IsUndecided, found, spent, upper, lower}
use Rattle.explain_locate.proofs.bisecting.+bisect.Goals as goal

pub returns-then-high-low-eq1-clause-bisected : goal.returns-then-high-low-eq1-clause-bisected
returns-then-high-low-eq1-clause-bisected t c =
    let next = c.if-high-low-eq1.true in
    let apart = c.requires.lost.apart in
    found (omega (arith, next, apart))

pub returns-in-Yes-clause-bisected : goal.returns-in-Yes-clause-bisected
returns-in-Yes-clause-bisected t c =
    let more = c.if-high-low-eq1.false in
    let apart = c.requires.lost.apart in
    IfOk-weaker c.bisect.result _ _
    (λ event rest. upper (omega (arith, more, apart))
    (record {
      verdict = c.in_ok-verdict.verdict;
      exact = c.in_ok-verdict.ensures.exact;
      word = subst IsYes (sym c.in-Yes.is) tt;
    }) rest)
    c.bisect.ensures.bisected

pub returns-in-No-clause-bisected : goal.returns-in-No-clause-bisected
returns-in-No-clause-bisected t c =
    let more = c.if-high-low-eq1.false in
    let apart = c.requires.lost.apart in
    IfOk-weaker c.bisect-in-No.result _ _
    (λ event rest. lower (omega (arith, more, apart))
    (record {
      verdict = c.in_ok-verdict.verdict;
      exact = c.in_ok-verdict.ensures.exact;
      word = subst IsNo (sym c.in-No.is) tt;
    }) rest)
    c.bisect-in-No.ensures.bisected

pub returns-clause-bisected : goal.returns-clause-bisected
returns-clause-bisected t c =
    let more = c.if-high-low-eq1.false in
    let apart = c.requires.lost.apart in
    spent (omega (arith, more, apart))
    (record {
      verdict = c.in_ok-verdict.verdict;
      exact = c.in_ok-verdict.ensures.exact;
      word = subst IsUndecided (sym c.in-Undecided.is) tt;
    })
