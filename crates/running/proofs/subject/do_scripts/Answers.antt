use Rattle.running.proofs.Common.{◌≡◌, ◌<◌, length, map, ap, arith, rules, subst, IfOk, slice_index_or, length-map, length-range_with_len}
use Rattle.std.proofs.Common.{vec_len}
use Rattle.running.proofs.Common.{IfOk-weaker, process_number, IsPassAfter, EachIsAfter}
use Rattle.running.proofs.DriveLemmas.{both-of, process-at}
use Rattle.running.proofs.subject.do_scripts.Goals as goal

pub returns-clause-many : goal.returns-clause-many
returns-clause-many g c =
    let passes = c.args.passes in
    let many : length passes.items ≡ length c.args.scripts.now =
    omega (
      arith,
      ap length c.requires.numbers,
      length-map passes.items process_number,
      length-range_with_len 0
          (length c.args.scripts.now),
    ) in
    IfOk-weaker c.map_vec.result (λ done. vec_len done ≡ vec_len passes) (λ done. vec_len done ≡ length c.args.scripts.now)
    (λ done same. let of = passes.ok.0 in omega (arith, same, of, many)) c.map_vec.ensures.len

pub returns-clause-done : goal.returns-clause-done
returns-clause-done g c =
    let r = c.args.recorder.now in
    let may = g.S.Subject.may_answer c.args.subject.now in
    let passes = c.args.passes in
    let scripts = map (λ script. script.items) c.args.scripts.now in
    both-of c.map_vec.result (λ done. vec_len done ≡ vec_len passes) _ (λ done. EachIsAfter may r scripts done.items)
    (λ done len each process d within.
    let inside : process < length passes.items = let of = passes.ok.0 in let of_done =
    done.ok.0 in omega (arith, len, of, of_done, within) in
    let given = (each process d inside).1 in
    let number = process-at passes.items (length c.args.scripts.now) process given.job c.requires.numbers inside given.job_read in
    let met = given.call.met in
    let its : IfOk (slice_index_or done.items process d) (IsPassAfter may r scripts (process_number given.job)) = search rules in
    subst (λ n. IfOk (slice_index_or done.items process d) (IsPassAfter may r scripts n)) number its)
    c.map_vec.ensures.len c.map_vec.ensures.each
