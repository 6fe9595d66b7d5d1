use Rattle.machine.proofs.Common.{[], map, length, refl, ◌∙◌, arith, length-replicate, idle, opened_on, start-length, plan_of}
use Rattle.machine.proofs.OpeningLemmas.{zip-length, few-left, fits-idle, tasks-idle}
use Rattle.machine.proofs.machines.Machine.open_on.Goals as goal

pub invariant_of-result : goal.invariant_of-result
invariant_of-result c =
    let scripts = map (λ script. script.items) c.args.scripts.items in
    record {
      root = c.requires.plan.shape.root;
      long = start-length c.args.shape c.args.variant c.args.start.items c.args.words.items c.requires.words;
      few = omega (arith, c.requires.plan.few_scripts, zip-length scripts c.in_ok-runners.runners.items c.in_ok-runners.ensures);
      under_way = ∣
          record {
            plan = plan_of c.args.shape c.args.variant scripts;
            first = c.args.words.items;
            schedule = [];
            state = opened_on (plan_of c.args.shape c.args.variant scripts) c.args.words.items;
            within = c.requires.plan;
            start_within = c.requires.start;
            starts = c.requires.words;
            gives = refl;
            few = few-left (length scripts) c.args.limit c.ranges.limit.fits;
            shows = record {
              shape = refl;
              variant = refl;
              words = refl;
              many = length-replicate (length scripts) idle ∙ zip-length scripts c.in_ok-runners.runners.items c.in_ok-runners.ensures;
              fits = fits-idle c.args.shape c.args.variant scripts c.in_ok-runners.runners.items c.in_ok-runners.ensures;
            };
          } ∣₁;
      tasks = ∣ tasks-idle c.args.shape scripts c.in_ok-runners.runners.items c.in_ok-runners.ensures ∣₁;
    }

pub returns-clause-shows : goal.returns-clause-shows
returns-clause-shows c =
    let scripts = map (λ script. script.items) c.args.scripts.items in
    record {
      shape = refl;
      variant = refl;
      words = refl;
      many = length-replicate (length scripts) idle ∙ zip-length scripts c.in_ok-runners.runners.items c.in_ok-runners.ensures;
      fits = fits-idle c.args.shape c.args.variant scripts c.in_ok-runners.runners.items c.in_ok-runners.ensures;
    }
