-- A story is made along a schedule of a full tree, where a ghost, something of the state, and what fits each open call are led on by each
-- step.
use Rattle.art_schedules.proofs.Common.{◌≡◌, ◌≢◌, ℕ, ◌+◌, ◌<◌, ◌≤◌, Bool, true, false, List, [], ◌∷◌, ◌++◌, length, take, refl, sym, ap, ◌∙◌}
use Rattle.art_schedules.proofs.serial.OrderlyLemmas.{set-here}
use Rattle.art_schedules.proofs.Common.{subst, ⊎_elim, arith, slice_get, slice_index, Option, Some, None, false≢true, cases_lt, take-append-le}
use Rattle.art_schedules.proofs.Common.{length-append, same_Some, none-some, take-length, Call, Invoke, Reply, pair_limit, operations, Contents}
use Rattle.art_schedules.proofs.Common.{Kind, Four, Sixteen, FortyEight, Full, claims_of, Access, Point, Turn, Asks, Answers, reply_of, act}
use Rattle.art_schedules.proofs.Common.{asks-answers, call_turn, call_begun, setting, Process, got_by, Plan, State, Move, Invokes, Responds}
use Rattle.art_schedules.proofs.Common.{after_move, begun, history_of, invocation, known_reply, move_from, move_of, moved, next_call, next_move}
use Rattle.art_schedules.proofs.Common.{opened_on, step, word_of_move, IsRun, changed-at, is-moved, begun-more, IsInCallAt, Means, IsAtRest}
use Rattle.art_schedules.proofs.Common.{AsksFor, IsFull, IsOpen, calm_of, stage_of}
use Rattle.art_schedules.proofs.versions.ChangeLemmas.{index-other}
use Rattle.art_schedules.proofs.versions.RunLemmas.{idle-idle}
use Rattle.art_schedules.proofs.versions.StepLemmas.{after-more, next-turn}
use Rattle.art_schedules.proofs.Common.{CalmChange, CalmStays, CalmFilled, CalmReleased, Effect, KeptTreesFollow, Status, Before, Changed}
use Rattle.art_schedules.proofs.Common.{HasReply, Trace, HasStatus, IsStory, MeansAt, IsTraceStep, Next, OwnStep, Changes, MakesAccess}
use Rattle.art_schedules.proofs.Common.{AnswersCall, AllFit, OfState, OfCall, IsLedOn, AreLed, HasItsReply, StartsAreAtRest, StoriesGiveOrders}
use Rattle.art_schedules.proofs.Common.{pairs_by, TreeGoesOn}
use Rattle.orders.specs.Orders.{IsLinearizable}
use Rattle.art_core.specs.Core.{Makes}
use Rattle.art_schedules.proofs.calls.MomentLemmas.{invokes-next, responds-next}
use Rattle.art_schedules.proofs.calm.InductionLemmas.{along, run-begins}
use Rattle.art_schedules.proofs.calm.RunLemmas.{calm-at, calm-goes, step-at}
use Rattle.art_schedules.proofs.changes.FollowLemmas.{low-words-keep}
use Rattle.art_schedules.specs.stories.Stories.{HasStory}
use Rattle.art_schedules.specs.stories.Fitting.{Keeps, turn_of}
use Rattle.art_schedules.proofs.stories.GrowthLemmas.{Continues, continued, continues, story-more, status-next, status-goes, status-changed}
use Rattle.art_schedules.proofs.stories.GrowthLemmas.{status-begun, kept-so-far, in-now}
use Rattle.art_schedules.proofs.stories.StoryLemmas.{story-few}

-- an open call whose reply is known answers it, and one that asks for an access has none
answers-known : (plan : Plan) (got : List ℕ) (call : Call) (reply : Reply) → known_reply plan got (Some call) ≡ Some reply
    → act plan.shape plan.variant call got ≡ Answers reply
answers-known plan got call reply known = go (act plan.shape plan.variant call got) refl known
  where
    go : (turn : Turn) → act plan.shape plan.variant call got ≡ turn → reply_of turn ≡ Some reply
        → act plan.shape plan.variant call got ≡ Answers reply
    go (Asks a mark) e f = absurd (none-some reply f)
    go (Answers other) e f = e ∙ ap Answers (same_Some other reply f)

-- a process that makes an access has an open call that asks for it
makes-next : (plan : Plan) (p : ℕ) (w : Process) (a : Access) → next_move plan p w ≡ Some (Makes a)
    → (call : Call) × (w.call ≡ Some call) × (mark : Option Point) × (act plan.shape plan.variant call w.got ≡ Asks a mark)
makes-next plan p w a h = go w.call refl h
  where
    calls : (o : Option Call) → invocation o ≡ Some (Makes a) → ⊥
    calls None k = none-some (Makes a) k
    calls (Some other) k = cc

    turns : (call : Call) (turn : Turn) → act plan.shape plan.variant call w.got ≡ turn
        → ◌≡◌ {A = Option Move} (Some (move_of turn)) (Some (Makes a))
        → (mark : Option Point) × (act plan.shape plan.variant call w.got ≡ Asks a mark)
    turns call (Asks other mark) e k = let same : other ≡ a = cc in (mark, e ∙ ap (λ x. Asks x mark) same)
    turns call (Answers reply) e k = absurd (cc k)

    go : (o : Option Call) → w.call ≡ o → move_from plan p w o ≡ Some (Makes a)
        → (call : Call) × (w.call ≡ Some call) × (mark : Option Point) × (act plan.shape plan.variant call w.got ≡ Asks a mark)
    go None e k = absurd (calls (next_call plan p w) k)
    go (Some call) e k = let (mark, asks) = turns call (act plan.shape plan.variant call w.got) refl k in (call, e, mark, asks)

module _ (starts : StartsAreAtRest) (trees : KeptTreesFollow) (plan : Plan) (full : IsFull plan.variant) (start : Contents) (words : List ℕ)
    (Ghost : Type 0) (World : OfState Ghost) (Fits : OfCall Ghost) (led : AreLed plan start words Ghost World Fits) where
  abbrev first : State
  first = opened_on plan words

  -- A story so far, with calm at each moment, and a status that fits each open call.
  record IsTold (schedule : List ℕ) (s : State) : Type 0 where
    tale : Trace
    story : IsStory plan start first schedule tale
    means : (u : ℕ) → u ≤ length schedule → MeansAt plan words schedule u (tale.pairs u)
    ghost : Ghost
    world : World ghost schedule s (calm_of plan words schedule)
    fits : (p : ℕ) (call : Call) (q : Process) → IsOpen s p call q
        → (status : Status) × Fits ghost schedule s (calm_of plan words schedule) p call q status
        × HasStatus plan first schedule tale (length schedule) p (length (begun q)) call status

  told-first : IsRun plan start words [] first → IsTold [] first
  told-first run = let rest = starts plan start words [] first run in let (ghost, world) = led.first run rest.0 rest.1 in record {
    ghost = ghost;
    world = subst (World ghost [] first) (sym (calm-goes plan words).first) world;
    tale = record { pairs = λ u. start; changes = λ u. false };
    story = record {
      begins = refl;
      stay = λ t less none. refl;
      in_call = λ t p turn change. absurd (false≢true change);
      statuses = λ t p calls call le i. (Before, λ u less own. refl);
      answers = λ t p calls call reply ends. absurd (none-some p ends.turn);
    };
    means = λ u le.
        let at-first : MeansAt plan words [] 0 start = record {
          claims = length start + 1;
          rests = subst (IsAtRest plan.shape (length start + 1)) (sym (calm-goes plan words).first) rest.0;
          means = subst (λ l. Means plan.shape l start) (sym (calm-goes plan words).first) rest.1;
          few = omega (arith, run.start_within.few);
        } in
        let e : u ≡ 0 = omega arith in
        subst (λ i. MeansAt plan words [] i start) (sym e) at-first;
    fits = λ p call q o. absurd (idle-idle plan words p call q o);
  }

  module _ (schedule : List ℕ) (p : ℕ) (s t : State) (before : IsRun plan start words schedule s)
      (behind : IsRun plan start words (schedule ++ p ∷ []) t)
      (made : step plan s p ≡ Some t) (h : IsTold schedule s) where
    abbrev n : ℕ
    n = length schedule

    abbrev calm : List ℕ
    calm = calm_of plan words schedule

    abbrev after : List ℕ
    after = calm_of plan words (schedule ++ p ∷ [])

    abbrev m : Contents
    m = h.tale.pairs n

    here-means : MeansAt plan words schedule n m
    here-means = h.means n (omega arith)

    told : IsTraceStep plan start words schedule h.tale p s t calm after
    told = record {
      step = record { full = full; before = before; behind = behind; made = made };
      calm_is = refl;
      after_is = refl;
      calm_before = calm-at plan start words schedule s before full;
      calm_after_step = calm-at plan start words (schedule ++ p ∷ []) t behind full;
      change = step-at plan start words schedule p s t behind full before.gives;
      claims = here-means.claims;
      rests = subst (λ l. IsAtRest plan.shape here-means.claims (calm_of plan words l)) (take-length schedule) here-means.rests;
      means = subst (λ l. Means plan.shape (calm_of plan words l) m) (take-length schedule) here-means.means;
      few = here-means.few;
      earlier = h.means;
    }

    all-fit : AllFit (Fits h.ghost) schedule s calm
    all-fit r call q o = let (status, f, has) = h.fits r call q o in (status, f)

    -- if the process of the step asks for no access, calm's tree stays
    low-goes : (w : Process) → slice_get s.processes p ≡ Some w → (move : Move) → word_of_move move ≡ 0 → t ≡ moved s p w move
        → ((a : Access) → AsksFor plan.variant plan.shape s p a → ⊥) → TreeGoesOn plan.shape t.words calm after m None
    low-goes w own move word is none = record {
      claims = told.claims;
      follows = trees plan.shape told.claims told.claims calm after m told.rests told.means
          (low-words-keep plan.shape told.claims calm after told.rests (told.calm_after_step.long ∙ sym told.calm_before.long)
          told.calm_after_step.small
          (λ k. let e = claims k in omega arith) (stays told.change.change))
          (λ k. let e = claims k in omega (arith, told.rests.claims k));
      gone = λ b gone. absurd gone;
    }
      where
        stays : CalmChange plan.variant plan.shape s p t calm after → (word : ℕ) → 5 ≤ word → slice_index after word ≡ slice_index calm word
        stays (CalmStays same) = same
        stays (CalmFilled word value asks base kind filled within written others) = absurd (none _ asks)
        stays (CalmReleased x asks rest with then held live row others) = absurd (none _ asks)

        low : (k : Kind) → (claims_of k < 5) × (claims_of k ≢ 0)
        low Four = (omega arith, λ e. omega (arith, e))
        low Sixteen = (omega arith, λ e. omega (arith, e))
        low FortyEight = (omega arith, λ e. omega (arith, e))
        low Full = (omega arith, λ e. omega (arith, e))

        claims : (k : Kind) → slice_index after (claims_of k) ≡ slice_index calm (claims_of k)
        claims k =
            told.calm_after_step.low (claims_of k) (low k).0
            ∙ (ap (λ x. slice_index x.words (claims_of k)) is
            ∙ (index-other s.words (word_of_move move) _ (claims_of k) (λ e. (low k).1 (e ∙ word))
            ∙ sym (told.calm_before.low (claims_of k) (low k).0)))

    -- one step more, where it changes the pairs by the effect, or keeps them
    module _ (w : Process) (own : slice_get s.processes p ≡ Some w) (move : Move) (is : t ≡ moved s p w move) (change : Bool)
        (effect : Option Effect)
        (goes : TreeGoesOn plan.shape t.words calm after m effect) where
      abbrev next : Contents
      next = pairs_by effect m

      abbrev later : Trace
      later = continued n h.tale change next

      abbrev longer : List ℕ
      longer = schedule ++ p ∷ []

      abbrev moves : Process
      moves = after_move p move (slice_index s.words (word_of_move move)) w

      more-means : ((u : ℕ) → u ≤ length longer → length (later.pairs u) ≤ pair_limit) → (u : ℕ) → u ≤ length longer
          → MeansAt plan words longer u (later.pairs u)
      more-means all-few u le = ⊎_elim
          (λ l.
          let same = take-append-le u schedule (p ∷ []) (omega arith) in
          let old = h.means u (omega arith) in
          let pairs = (continues n h.tale change next).pairs u (omega arith) in
          record {
            claims = old.claims;
            rests = subst (λ l. IsAtRest plan.shape old.claims (calm_of plan words l)) (sym same) old.rests;
            means = subst (λ l. Means plan.shape (calm_of plan words l) (later.pairs u)) (sym same)
                (subst (Means plan.shape (calm_of plan words (take u schedule))) (sym pairs) old.means);
            few = all-few u le;
          })
          (λ over.
          let e : u ≡ n + 1 = omega (arith, length-append schedule (p ∷ [])) in
          let many : u ≡ length longer = omega (arith, length-append schedule (p ∷ [])) in
          let all = ap (λ i. take i longer) many ∙ take-length longer in
          let pairs = ap later.pairs e ∙ (continues n h.tale change next).behind in
          record {
            claims = goes.claims;
            rests = subst (λ l. IsAtRest plan.shape goes.claims (calm_of plan words l)) (sym all) goes.follows.rests;
            means = subst (λ l. Means plan.shape (calm_of plan words l) (later.pairs u)) (sym all)
                (subst (Means plan.shape after) (sym pairs) goes.follows.means);
            few = all-few u le;
          })
          (cases_lt u (n + 1))

      -- what is to be shown of an open call after the step
      abbrev IsFitBehind : Ghost → ℕ → Call → Process → Type 0
      IsFitBehind g r call q = (status : Status) × Fits g longer t after r call q status
          × HasStatus plan first longer later (n + 1) r (length (begun q)) call status

      told-more : (Own : Ghost → Type 0) → (on : IsLedOn Ghost World Fits h.ghost schedule p s t calm after Own)
          → (change ≡ false → next ≡ m)
          → (change ≡ true → IsInCallAt plan first schedule n p)
          → ((call : Call) → moves.call ≡ Some call → IsFitBehind on.next p call moves)
          → ((call : Call) (q : Process) (reply : Reply) → IsOpen s p call q → known_reply plan q.got (Some call) ≡ Some reply
          → (change ≡ false) × (status : Status) × HasStatus plan first schedule h.tale n p (length (begun q)) call status
          × HasReply status reply)
          → IsTold longer t
      told-more Own on stays in-call its answers = record {
        tale = later;
        ghost = on.next;
        world = on.world;
        story = its-story;
        means = more-means (story-few plan start words longer t later behind its-story);
        fits = λ r call q o.
            let (status, f, has) = fits r call q o in (
              status,
              f,
              subst (λ i. HasStatus plan first longer later i r (length (begun q)) call status)
                  (sym (length-append schedule (p ∷ []))) has,
            );
      }
        where
          c : Continues n h.tale later change next
          c = continues n h.tale change next

          fits : (r : ℕ) (call : Call) (q : Process) → IsOpen t r call q → IsFitBehind on.next r call q
          fits r call q o = ⊎_elim
              (λ x.
              let opens : moves.call ≡ Some call = ap (λ (q : Process). q.call) (sym x.1) ∙ o.is_open in
              subst (λ i. IsFitBehind on.next i call q) (sym x.0) (subst (IsFitBehind on.next p call) (sym x.1) (its call opens)))
              (λ x.
              let old : IsOpen s r call q = record { own = x.1; is_open = o.is_open } in
              let (status, f, has) = h.fits r call q old in (
                status,
                on.others r call q status x.0 old o f,
                status-next plan start first schedule p h.tale later change next c r (length (begun q)) call status
                    (λ e. absurd (x.0 e)) has,
              ))
              (changed-at s.processes p moves r q (subst (λ x. slice_get x.processes r ≡ Some q) is o.own))

          its-story : IsStory plan start first longer later
          its-story =
              story-more plan start first schedule p h.tale later change next c s t before.gives behind.gives h.story stays in-call
              (λ r call q o. let (status, f, has) = fits r call q o in (status, has)) answers

    -- what process p does in the step

    behind-at : (w : Process) → slice_get s.processes p ≡ Some w → (move : Move) → t ≡ moved s p w move
        → slice_get t.processes p ≡ Some (after_move p move (slice_index s.words (word_of_move move)) w)
    behind-at w own move is =
        let q = after_move p move (slice_index s.words (word_of_move move)) w in
        subst (λ x. slice_get x.processes p ≡ Some q) (sym is) (set-here s.processes p w q own)

    -- the process has one open call
    one-process : (w q : Process) (call : Call) → slice_get s.processes p ≡ Some w → IsOpen s p call q → w ≡ q
    one-process w q call own o = same_Some w q (sym own ∙ o.own)

    one-call : (w q : Process) (call other : Call) → slice_get s.processes p ≡ Some w → w.call ≡ Some call
        → IsOpen s p other q → call ≡ other
    one-call w q call other own opens o = same_Some call other
        (sym opens ∙ (ap (λ (x : Process). x.call) (one-process w q other own o) ∙ o.is_open))

    answers-turn : (call : Call) (q : Process) (reply : Reply) → known_reply plan q.got (Some call) ≡ Some reply
        → call_turn (setting plan.shape plan.variant call) (stage_of plan.variant plan.shape call q) ≡ Answers reply
    answers-turn call q reply known = sym (next-turn plan.variant plan.shape call q) ∙ answers-known plan q.got call reply known

    module _ (w : Process) (own : slice_get s.processes p ≡ Some w) (call : Call) (is-next : next_move plan p w ≡ Some (Invokes call))
        (is : t ≡ moved s p w (Invokes call)) where
      abbrev begun-as : Process
      begun-as = after_move p (Invokes call) (slice_index s.words (word_of_move (Invokes call))) w

      idle : w.call ≡ None
      idle = (invokes-next plan p w call is-next).0

      none-asked : (a : Access) → AsksFor plan.variant plan.shape s p a → ⊥
      none-asked a asks =
          none-some asks.call (sym idle ∙ (ap (λ (x : Process). x.call) (one-process w asks.process asks.call own asks.is_open)
          ∙ asks.is_open.is_open))

      stays : TreeGoesOn plan.shape t.words calm after m None
      stays = low-goes w own (Invokes call) refl is none-asked

      count : length (begun begun-as) ≡ length (begun w) + 1
      count = ap (λ l. length l) (begun-more w (slice_index s.words (word_of_move (Invokes call)), Invoke p call))
          ∙ length-append (begun w) (call ∷ [])

      same-words : (word : ℕ) → word ≢ 0 → slice_index t.words word ≡ slice_index s.words word
      same-words word other = ap (λ x. slice_index x.words word) is ∙ index-other s.words 0 _ word other

      on : IsLedOn Ghost World Fits h.ghost schedule p s t calm after (λ g. Fits g (schedule ++ p ∷ []) t after p call begun-as Before)
      on = led.begins schedule h.tale p s t calm after h.ghost told h.world all-fit call w begun-as (record {
        own = own;
        idle = idle;
        next = (invokes-next plan p w call is-next).1;
        behind = record { own = behind-at w own (Invokes call) is; is_open = refl };
        stage = refl;
        words = same-words;
      }) stays

      begins-call : IsTold (schedule ++ p ∷ []) t
      begins-call =
          told-more w own (Invokes call) is false None stays
          (λ g. Fits g (schedule ++ p ∷ []) t after p call begun-as Before) on (λ e. refl)
          (λ e. absurd (false≢true e))
          (λ other e. subst (λ x. IsFitBehind w own (Invokes call) is false None stays on.next p x begun-as) (same_Some call other e) (
            Before,
            on.own,
            status-begun plan start first schedule p h.tale (continued n h.tale false m) false m (continues n h.tale false m) s t
                before.gives behind.gives
                (length (begun begun-as)) call w own idle count,
          ))
          (λ other q reply o known. absurd
          (none-some other (sym idle ∙ (ap (λ (x : Process). x.call) (one-process w q other own o) ∙ o.is_open))))

    module _ (w : Process) (own : slice_get s.processes p ≡ Some w) (reply : Reply) (is-next : next_move plan p w ≡ Some (Responds reply))
        (is : t ≡ moved s p w (Responds reply)) (call : Call) (opens : w.call ≡ Some call)
        (known : known_reply plan w.got (Some call) ≡ Some reply) where
      not-asked : (a : Access) → AsksFor plan.variant plan.shape s p a → ⊥
      not-asked a asks =
          let is-w = one-process w asks.process asks.call own asks.is_open in
          let is-call = one-call w asks.process call asks.call own opens asks.is_open in
          let turn : turn_of plan asks.call asks.process ≡ Answers reply =
          subst (λ q. turn_of plan asks.call q ≡ Answers reply) is-w
          (subst (λ c. turn_of plan c w ≡ Answers reply) is-call (answers-turn call w reply known)) in
          asks-answers (sym asks.turn ∙ turn)

      tree-stays : TreeGoesOn plan.shape t.words calm after m None
      tree-stays = low-goes w own (Responds reply) refl is not-asked

      answering : AnswersCall plan s p t call w reply
      answering = record {
        here = record { own = own; is_open = opens };
        answers = answers-turn call w reply known;
        later = after_move p (Responds reply) (slice_index s.words (word_of_move (Responds reply))) w;
        own = behind-at w own (Responds reply) is;
        idle = refl;
        words = λ word other. ap (λ x. slice_index x.words word) is ∙ index-other s.words 0 _ word other;
      }

      module _ (status : Status) (f : Fits h.ghost schedule s calm p call w status)
          (has : HasStatus plan first schedule h.tale n p (length (begun w)) call status) where
        on-answer : IsLedOn Ghost World Fits h.ghost schedule p s t calm after
            (λ g. HasItsReply plan words schedule h.tale p call w status reply)
        on-answer = led.answers schedule h.tale p s t calm after h.ghost told h.world all-fit call w status reply answering f tree-stays

        abbrev HasAnswer : Call → Process → Reply → Type 0
        HasAnswer c q r = (false ≡ false) × (x : Status) × HasStatus plan first schedule h.tale n p (length (begun q)) c x × HasReply x r

        its-answer : (other : Call) (q : Process) (r : Reply) → IsOpen s p other q → known_reply plan q.got (Some other) ≡ Some r
            → HasAnswer other q r
        its-answer other q r o other-known =
            let is-w = one-process w q other own o in
            let is-call = one-call w q call other own opens o in
            let known-here : known_reply plan w.got (Some call) ≡ Some r =
            subst (λ c. known_reply plan w.got (Some c) ≡ Some r) (sym is-call)
            (subst (λ (x : Process). known_reply plan x.got (Some other) ≡ Some r) (sym is-w) other-known) in
            let same : reply ≡ r = same_Some reply r (sym known ∙ known-here) in
            let (next, goes, has-reply) = on-answer.own in
            let now = status-goes plan start first schedule p h.tale (length (begun w)) call status next goes
            (in-now plan start first schedule p s before.gives p call w (record { own = own; is_open = opens })) has in
            subst (λ c. HasAnswer c q r) is-call
            (subst (λ x. HasAnswer call x r) is-w (refl, next, now, subst (HasReply next) same has-reply))

        answers-call : IsTold (schedule ++ p ∷ []) t
        answers-call =
            told-more w own (Responds reply) is false None tree-stays (λ g. HasItsReply plan words schedule h.tale p call w status reply)
            on-answer
            (λ e. refl) (λ e. absurd (false≢true e))
            (λ other e. absurd (none-some other e)) its-answer

    module _ (w : Process) (own : slice_get s.processes p ≡ Some w) (a : Access) (is : t ≡ moved s p w (Makes a)) (call : Call)
        (opens : w.call ≡ Some call)
        (mark : Option Point) (asks : act plan.shape plan.variant call w.got ≡ Asks a mark) where
      abbrev q : Process
      q = after_move p (Makes a) (slice_index s.words (word_of_move (Makes a))) w

      abbrev calls : ℕ
      calls = length (begun w)

      here : IsOpen s p call w
      here = record { own = own; is_open = opens }

      access : MakesAccess plan s p t call w q a
      access = record {
        here = here;
        behind = record { own = behind-at w own (Makes a) is; is_open = opens };
        mark = mark;
        asks = sym (next-turn plan.variant plan.shape call w) ∙ asks;
        words = ap (λ x. x.words) is;
        got = refl;
        stage = after-more (setting plan.shape plan.variant call) (call_begun (setting plan.shape plan.variant call)) w.got
            (got_by a s.words);
      }

      -- it answers nothing yet
      silent : (other : Call) (v : Process) (reply : Reply) → IsOpen s p other v → known_reply plan v.got (Some other) ≡ Some reply → ⊥
      silent other v reply o known =
          let is-w = one-process w v other own o in
          let is-call = one-call w v call other own opens o in
          let turn : act plan.shape plan.variant call w.got ≡ Answers reply =
          subst (λ c. act plan.shape plan.variant c w.got ≡ Answers reply) (sym is-call)
          (subst (λ (x : Process). act plan.shape plan.variant other x.got ≡ Answers reply) (sym is-w)
          (answers-known plan v.got other reply known)) in
          asks-answers (sym asks ∙ turn)

      module _ (status : Status) (has : HasStatus plan first schedule h.tale n p calls call status) where
        -- where it keeps the pairs
        keeps : (next : Status) → Next plan first schedule h.tale p calls call status next
            → HasStatus plan first (schedule ++ p ∷ []) (continued n h.tale false m) (n + 1) p calls call next
        keeps next how = status-next plan start first schedule p h.tale (continued n h.tale false m) false m (continues n h.tale false
            m) p calls call next
            (λ x. refl)
            (status-goes plan start first schedule p h.tale calls call status next how
            (in-now plan start first schedule p s before.gives p call w here) has)

        abbrev OwnFits : Status → Ghost → Type 0
        OwnFits now g = Fits g (schedule ++ p ∷ []) t after p call q now

        steps : OwnStep plan words schedule h.tale p t calm after call w status
            (λ effect now. IsLedOn Ghost World Fits h.ghost schedule p s t calm after (OwnFits now))
            → IsTold (schedule ++ p ∷ []) t
        steps (Keeps next tree how on) =
            told-more w own (Makes a) is false None tree (OwnFits next) on (λ e. refl) (λ e. absurd (false≢true e))
            (λ other e. subst (λ x. IsFitBehind w own (Makes a) is false None tree on.next p x q) (same_Some call other (sym opens ∙ e))
            (next, on.own, keeps next how))
            (λ other v reply o known. absurd (silent other v reply o known))
        steps (Changes effect reply tree not does accepted on) =
            let after-it = pairs_by (Some effect) m in
            let changed-tale = continued n h.tale true after-it in
            let c = continues n h.tale true after-it in
            let i = in-now plan start first schedule p s before.gives p call w here in
            told-more w own (Makes a) is true (Some effect) tree (OwnFits (Changed reply)) on (λ e. absurd (false≢true (sym e)))
            (λ e. (i.now, calls, call, i.at, i.is_in))
            (λ other e. subst (λ x. IsFitBehind w own (Makes a) is true (Some effect) tree on.next p x q)
            (same_Some call other (sym opens ∙ e)) (
              Changed reply,
              on.own,
              status-changed plan start first schedule p h.tale changed-tale true after-it c calls call reply refl
                  (kept-so-far plan start first schedule p h.tale n p calls call status not has) i does accepted,
            ))
            (λ other v reply o known. absurd (silent other v reply o known))

    by-move : (w : Process) → slice_get s.processes p ≡ Some w → (move : Move) → next_move plan p w ≡ Some move → t ≡ moved s p w move
        → IsTold (schedule ++ p ∷ []) t
    by-move w own (Invokes call) is-next is = begins-call w own call is-next is
    by-move w own (Responds reply) is-next is =
        let (call, opens, known) = responds-next plan p w reply is-next in
        let (status, f, has) = h.fits p call w (record { own = own; is_open = opens }) in
        answers-call w own reply is-next is call opens known status f has
    by-move w own (Makes a) is-next is =
        let (call, opens, mark, asks) = makes-next plan p w a is-next in
        let (status, f, has) = h.fits p call w (here w own a is call opens mark asks) in
        steps w own a is call opens mark asks status has
        (led.own schedule h.tale p s t calm after h.ghost told h.world all-fit call w
        (after_move p (Makes a) (slice_index s.words (word_of_move (Makes a))) w) a
        status (access w own a is call opens mark asks) f)

    told-next : IsTold (schedule ++ p ∷ []) t
    told-next = let x = is-moved plan s p t made in by-move x.process x.here x.move x.is_next x.is

  pub story-of-ghosts : (schedule : List ℕ) (s : State) → IsRun plan start words schedule s → HasStory plan start words schedule
  story-of-ghosts schedule s run =
      let h = along plan start words IsTold (told-first (run-begins plan start words [] schedule first s run refl))
      (λ earlier p u v before behind e here. told-next earlier p u v before behind e here) schedule s run in
      (h.tale, h.story)

  pub orders-of-ghosts : StoriesGiveOrders → (schedule : List ℕ) (s : State) → IsRun plan start words schedule s
      → IsLinearizable start (operations (history_of s))
  orders-of-ghosts orders schedule s run = let (tale, story) =
      story-of-ghosts schedule s run in orders plan start words schedule s tale run story
