-- A task that fits still fits after its access.
use Rattle.machine.proofs.Common.{◌≡◌, ℕ, ◌+◌, ◌%◌, ◌^◌, List, [], ◌∷◌, ◌++◌, length, refl, ap, sym, subst, ◌∙◌, Option, Some, None, slice_get}
use Rattle.machine.proofs.Common.{slice_index, slice_set, filter_map, append-nil, length-append, filter_map-append, Stamped, rest_of, Process, Plan}
use Rattle.machine.proofs.Common.{Invokes, Makes, Responds, begun, finished, invoked, answered, move_of, move_from, invocation, next_in, Task, Idle}
use Rattle.machine.proofs.Common.{Going, Answered, Runner, Call, Reply, Shape, Variant, Rest, access_of, reply_of, FitsDoing, after_access, next-asks}
use Rattle.machine.proofs.Common.{fits-after, Advances, FitsProcess, Moves}
use Rattle.events.specs.declared.event.Event.TheVariants.{Invoke, Answer}
use Rattle.art_rows.specs.declared.access.Access.{Access}
use Rattle.art_rows.specs.Act.{act}
use Rattle.art_rows.specs.Fits.{Fits}
use Rattle.art_core.specs.Accesses.{got_by, words_after}

-- the task took what the access got: it goes on, or its call is answered
pub taken : (shape : Shape) (variant : Variant) (call : Call) (got old new : List ℕ) (rest : Rest) (a : Access) (w : ℕ)
    → Fits shape variant call got rest
    → access_of (rest []) ≡ Some a → w ≡ got_by a old → (task : Task) (o : Option Reply) → new ≡ words_after a old
    → reply_of (rest (w ∷ [])) ≡ o
    → (o ≡ None → (more : List ℕ) → rest_of task more ≡ rest (w ∷ more)) → Advances shape variant call got old new (after_access task o)
taken shape variant call got old new rest a w fits asks gave task o wrote reply goes =
    let asked = next-asks shape variant call got rest fits a asks in
    record {
      access = a;
      point = asked.0;
      asks = asked.1;
      words = wrote;
      fits = fits-after shape variant call got rest fits (got_by a old) w task o gave reply goes;
    }

-- A turn of a runner is the next move of the process that it fits.

begun-append : (log : List Stamped) (e : Stamped)
    → filter_map (λ e. invoked e.1) (log ++ e ∷ []) ≡ filter_map (λ e. invoked e.1) log ++ filter_map (λ e. invoked e.1) (e ∷ [])
begun-append log e = filter_map-append (λ e. invoked e.1) log (e ∷ [])

finished-append : (log : List Stamped) (e : Stamped)
    → filter_map (λ e. answered e.1) (log ++ e ∷ []) ≡ filter_map (λ e. answered e.1) log ++ filter_map (λ e. answered e.1) (e ∷ [])
finished-append log e = filter_map-append (λ e. answered e.1) log (e ∷ [])

pub goes-on : (plan : Plan) (p : ℕ) (q : Process) (r : Runner) (task : Task) (old new : List ℕ) (r2 : Runner)
    → FitsProcess plan p r q → r.doing ≡ Going task
    → ((asked : Call) (got : List ℕ) → Fits plan.shape plan.variant asked got (rest_of task)
    → Advances plan.shape plan.variant asked got old new r2.doing)
    → r2.log.items ≡ r.log.items → r2.script ≡ r.script → r2.begun ≡ r.begun → r2.finished ≡ r.finished → Moves plan p q old new r2
goes-on plan p q r task old new r2 fits going made logged script begun_is finished_is =
    let d = subst (λ doing. FitsDoing plan.shape plan.variant doing q.call q.got) going fits.doing in
    let a = made d.0 q.got d.2 in
    record {
      move = Makes a.access;
      is_next = ap (move_from plan p q) d.1 ∙ ap (λ t. Some (move_of t)) a.asks;
      words = a.words;
      fits = record {
        doing = subst (λ o. FitsDoing plan.shape plan.variant r2.doing o (q.got ++ got_by a.access old ∷ [])) (sym d.1) a.fits;
        begun = fits.begun ∙ sym begun_is;
        finished = fits.finished ∙ sym finished_is;
        log = fits.log ∙ sym logged;
        script = fits.script ∙ ap (λ v. Some v.items) (sym script);
      };
    }

pub responds : (plan : Plan) (p : ℕ) (q : Process) (r : Runner) (reply : Reply) (old new : List ℕ) (r2 : Runner)
    → FitsProcess plan p r q → r.doing ≡ Answered reply
    → new ≡ slice_set old 0 ((slice_index old 0 + 1) % 2 ^ 64) → r2.log.items ≡ r.log.items ++ (slice_index old 0, Answer p reply) ∷ []
    → r2.script ≡ r.script → r2.begun ≡ r.begun → r2.finished ≡ r.finished + 1 → r2.doing ≡ Idle → Moves plan p q old new r2
responds plan p q r reply old new r2 fits answered_is wrote logged script begun_is finished_is idle =
    let d = subst (λ doing. FitsDoing plan.shape plan.variant doing q.call q.got) answered_is fits.doing in
    record {
      move = Responds reply;
      is_next = ap (move_from plan p q) d.1 ∙ ap (λ t. Some (move_of t)) d.2;
      words = wrote;
      fits = record {
        doing = subst (λ doing. FitsDoing plan.shape plan.variant doing None []) (sym idle) refl;
        begun = ap (λ l. length l) (begun-append q.log (slice_index old 0, Answer p reply) ∙ append-nil (begun q))
            ∙ (fits.begun ∙ sym begun_is);
        finished = ap (λ l. length l) (finished-append q.log (slice_index old 0, Answer p reply))
            ∙ (length-append (finished q) (reply ∷ []) ∙ (ap (λ n. n + 1) fits.finished ∙ sym finished_is));
        log = ap (λ l. l ++ (slice_index old 0, Answer p reply) ∷ []) fits.log ∙ sym logged;
        script = fits.script ∙ ap (λ v. Some v.items) (sym script);
      };
    }

pub invokes : (plan : Plan) (p : ℕ) (q : Process) (r : Runner) (call : Call) (task : Task) (old new : List ℕ) (r2 : Runner)
    → FitsProcess plan p r q
    → r.doing ≡ Idle
    → slice_get r.script.items r.begun ≡ Some call → ((rest : List ℕ) → rest_of task rest ≡ act plan.shape plan.variant call rest)
    → new ≡ slice_set old 0 ((slice_index old 0 + 1) % 2 ^ 64) → r2.log.items ≡ r.log.items ++ (slice_index old 0, Invoke p call) ∷ []
    → r2.script ≡ r.script → r2.begun ≡ r.begun + 1 → r2.finished ≡ r.finished → r2.doing ≡ Going task → Moves plan p q old new r2
invokes plan p q r call task old new r2 fits idle next rest wrote logged script begun_is finished_is going =
    let none : q.call ≡ None = subst (λ doing. FitsDoing plan.shape plan.variant doing q.call q.got) idle fits.doing in
    record {
      move = Invokes call;
      is_next =
          ap (move_from plan p q) none ∙ ap invocation (ap (λ o. next_in o (length (begun q))) fits.script ∙ (ap (slice_get r.script.items)
          fits.begun ∙ next));
      words = wrote;
      fits = record {
        doing = subst (λ doing. FitsDoing plan.shape plan.variant doing (Some call) []) (sym going) (call, refl, rest);
        begun = ap (λ l. length l) (begun-append q.log (slice_index old 0, Invoke p call))
            ∙ (length-append (begun q) (call ∷ []) ∙ (ap (λ n. n + 1) fits.begun ∙ sym begun_is));
        finished = ap (λ l. length l) (finished-append q.log (slice_index old 0, Invoke p call) ∙ append-nil (finished q))
            ∙ (fits.finished ∙ sym finished_is);
        log = ap (λ l. l ++ (slice_index old 0, Invoke p call) ∷ []) fits.log ∙ sym logged;
        script = fits.script ∙ ap (λ v. Some v.items) (sym script);
      };
    }
