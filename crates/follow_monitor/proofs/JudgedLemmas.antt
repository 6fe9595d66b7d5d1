-- What the parts make of an answer, for the events.
use Rattle.follow_monitor.proofs.Common.{may_change, operations, Call, Event, Answer, Reply, Operation, Response, OrdersAreKeyedOrders, IsWithRead}
use Rattle.follow_monitor.proofs.Common.{PartGoesOn, KeptPartsDecide, answered, KeptPast, IsLostPart, IsPendingIn, MayReply, event_limit, IsFollowing}
use Rattle.follow_monitor.proofs.Common.{IsLossAt, MonitorView, known_call, AreAllPuts, IsKeptWith, IsLost, IsOfAnswer, IsSpent, PrefixesHaveOrders}
use Rattle.follow_monitor.proofs.Common.{GoesWrongAt, IsAnswerOf, put_limit, AreRecentPuts, ArePutsOf, BecomeWithAnswer, Violation, OpenCall, Put}
use Rattle.follow_monitor.proofs.Common.{begun, is_reported, IsCounted, IsEndedBy, IsKeptBeside, IsStateOf, pasts_of, response_at, PartsView}
use Rattle.follow_monitor.proofs.Common.{kept_parts, EndedPart, IsDead, AreDoubtful, covered, Contents, IsLinearizable, ◌≡◌, ℕ, suc, ◌<◌, ◌==◌, true}
use Rattle.follow_monitor.proofs.Common.{false, List, [], ◌∷◌, ◌++◌, length, map, Some, None, cond, refl, sym, ap, ◌∙◌, subst, ⊎_elim, All-head}
use Rattle.follow_monitor.proofs.Common.{AllZip, All}
use Rattle.follow_cuts.specs.PartCuts.{kept_of}
use Rattle.follow_cuts.specs.declared.past.Past.{Past}
use Rattle.follow_laws.specs.KeptReached.{HasPasts, IsReached, KeptPastsAreReached}
use Rattle.std.specs.Prelude.{◌≢◌}
use Rattle.follow_monitor.proofs.CallLemmas.{well_formed_on}
use Rattle.follow_monitor.proofs.FollowLemmas.{around_it, calls_then, state_before, answer_taken}
use Rattle.follow_monitor.proofs.JudgeLemmas.{is_call, accepted, answers, none_with_part, none_without_form, goes_wrong}
use Rattle.follow_monitor.proofs.NextLemmas.{knows_open_after, knows_all_after}
use Rattle.follow_monitor.proofs.PutLemmas.{recent_after, known_puts}

zip_none : (o : Operation) (pasts : List KeptPast) → AllZip (IsWithRead o) pasts [] → pasts ≡ []
zip_none o [] zip = refl
zip_none o (past ∷ pasts) zip = absurd zip

-- a part that a read ends has some past
reads_have_pasts : (start : Contents) (now : ℕ) (calls : List Operation) (o : Operation) (response : Response) (part : EndedPart)
    → IsEndedBy start now calls o response part → may_change o.call ≡ false → part.pasts.items ≢ []
reads_have_pasts start now calls o response part ended read none = ⊎_elim
    (λ changes. let no : true ≡ false = sym changes.0 ∙ read in cc)
    (λ reads. All-head HasPasts (record { keys = covered part.ranges.items; pasts = ended.pasts }) ended.others ended.some
    (zip_none (answered response o) ended.pasts
    (subst (λ (l : List Past). AllZip (IsWithRead (answered response o)) ended.pasts (map kept_of l)) none reads.1)))
    ended.with_answer

module _ (start : Contents) (events : List Event) (m : MonitorView) (process : ℕ) (known : OpenCall) (reply : Reply)
    (h : IsFollowing start events m) (here : known_call m.open_calls process ≡ Some known) where
  abbrev then : List Event
  then = events ++ Answer process reply ∷ []

  -- the calls with the answer, as the parts are given them
  abbrev pub calls_with : List Operation
  calls_with =
      (around_it start events m process known reply h here).front
      ++ is_reported (begun known.call known.event) reply m.parts.now ∷ (around_it start events m process known reply h here).back

  -- the calls without the answer
  abbrev pub calls_before : List Operation
  calls_before =
      (around_it start events m process known reply h here).front
      ++ begun known.call known.event ∷ (around_it start events m process known reply h here).back

  calls_are : calls_with ≡ operations then
  calls_are = sym (calls_then start events m process known reply h here)

  pub pending : IsPendingIn known m.parts
  pending = record {
    start = start;
    front = (around_it start events m process known reply h here).front;
    back = (around_it start events m process known reply h here).back;
    state = state_before start events m process known reply h here;
  }

  pub goes_on : KeptPartsDecide → (parts : PartsView) (open_calls : List (ℕ × OpenCall)) (puts : List Put)
      → IsStateOf start calls_with parts × IsCounted m.parts parts × All PartGoesOn (kept_parts parts)
      → ((p : ℕ) → known_call open_calls p ≡ cond (p == process) None (known_call m.open_calls p))
      → AreRecentPuts (operations then) puts
      → IsFollowing start then (record { parts = parts; open_calls = open_calls; puts = puts; calls = m.calls })
  goes_on decide parts open_calls puts answered changed recent =
      answer_taken start events m process known reply h here decide parts open_calls puts
      (subst (λ (l : List Operation). IsStateOf start l parts) calls_are answered.0) answered.1 answered.2 changed recent

  -- the puts that are known then
  module _ (limit : ℕ) (full : limit ≡ put_limit) (recent : List Put) (become : BecomeWithAnswer limit known.call known.event reply m.puts recent) where
    pub recent_then : AreRecentPuts (operations then) recent
    recent_then =
        let own = around_it start events m process known reply h here in
        recent_after events then own.front own.back known.call known.event reply m.puts recent own.before own.after
        (subst (λ (n : ℕ). BecomeWithAnswer n known.call known.event reply m.puts recent) full become) h.puts_are

    pub known_then : (open_calls : List (ℕ × OpenCall)) (puts : List Put)
        → ((p : ℕ) → known_call open_calls p ≡ cond (p == process) None (known_call m.open_calls p))
        → AreAllPuts recent open_calls puts → ArePutsOf (operations then) puts
    known_then open_calls puts changed all =
        let own = (is_call start events m process known h here).is_open in
        known_puts then open_calls (well_formed_on events process known.event known.call reply own)
        (knows_open_after events process known.event known.call reply own m.open_calls open_calls changed h.calls_open)
        (knows_all_after events process known.event known.call reply own m.open_calls open_calls changed h.all_open) recent puts recent_then all

  module _ (part : EndedPart) (recent : List Put) (open_calls : List (ℕ × OpenCall)) (loss : Violation)
      (made : IsLossAt m.parts.now known part recent open_calls loss) where
    pub of_answer : IsOfAnswer events process loss
    of_answer = record {
      event_is = made.event_is ∙ h.events_are;
      known = known;
      is_call = is_call start events m process known h here;
      number_is = made.number_is;
      call_is = made.call_is;
      answers = λ r more. subst (λ (n : ℕ). IsAnswerOf (events ++ Answer process r ∷ more) n loss.event) (sym made.number_is)
          (subst (IsAnswerOf (events ++ Answer process r ∷ more) known.number) (sym made.event_is)
          (answers start events m process known h here r more));
    }

    kept_with : IsKeptBeside start (suc m.parts.now) calls_with part → IsKeptWith start events process reply loss
    kept_with kept =
        subst (λ (p : EndedPart). IsKeptBeside start (suc (length events)) (operations then) p) (sym made.part_is)
        (subst (λ (n : ℕ). IsKeptBeside start (suc n) (operations then) part) h.events_are
        (subst (λ (l : List Operation). IsKeptBeside start (suc m.parts.now) l part) calls_are kept))

    abbrev the_call : Operation
    the_call = begun known.call known.event

    before_it : IsEndedBy start m.parts.now calls_before the_call (response_at reply m.parts.now) part
        → IsEndedBy start (length events) (operations events) the_call (response_at reply (length events)) loss.part
    before_it ended =
        subst (λ (p : EndedPart). IsEndedBy start (length events) (operations events) the_call (response_at reply (length events)) p)
        (sym made.part_is)
        (subst (λ (l : List Operation). IsEndedBy start (length events) l the_call (response_at reply (length events)) part)
        (sym (around_it start events m process known reply h here).before)
        (subst (λ (n : ℕ). IsEndedBy start n calls_before the_call (response_at reply n) part) h.events_are ended))

    reached_with : KeptPastsAreReached → IsKeptWith start events process reply loss
        → All (IsReached start (operations then) (covered loss.part.ranges.items)) (pasts_of loss.part)
    reached_with law beside =
        law start (suc (length events)) (operations then) (record { keys = covered loss.part.ranges.items; pasts = pasts_of loss.part })
        beside.others h.rising beside.are_kept beside.some

    pub is_spent : (budget : ℕ) → KeptPastsAreReached → m.parts.now < event_limit
        → MayReply known.call reply × IsKeptBeside start (suc m.parts.now) calls_with part × AreDoubtful budget (pasts_of part)
        → ArePutsOf (operations then) loss.puts.items → IsEndedBy start m.parts.now calls_before the_call (response_at reply m.parts.now) part
        → IsSpent start events process reply budget loss
    unfolding of_answer
    is_spent budget law room answered puts ended = record {
      accepted = accepted start events m process known h here room;
      of_answer = of_answer;
      replies = subst (λ (c : Call). MayReply c reply) (sym made.call_is) answered.0;
      part = (kept_with answered.1, subst (λ (p : EndedPart). AreDoubtful budget (pasts_of p)) (sym made.part_is) answered.2);
      before = before_it ended;
      reached = reached_with law (kept_with answered.1);
      puts = puts;
    }

    module _ (decide : KeptPartsDecide) (keyed : OrdersAreKeyedOrders) (lost : IsLostPart start (suc m.parts.now) calls_with known.call reply part) where
      no_order : IsLinearizable start (operations then) → ⊥
      no_order = ⊎_elim
          (λ never. none_without_form keyed start events process known reply h.rising (is_call start events m process known h here) never.0)
          (λ dead. none_with_part decide start then (suc m.parts.now) part h.rising
          (subst (λ (l : List Operation). IsKeptBeside start (suc m.parts.now) l part) calls_are dead.1) dead.2)
          lost

      may : MayReply loss.call reply → MayReply known.call reply
      may h = subst (λ (c : Call). MayReply c reply) made.call_is h

      pub is_lost : KeptPastsAreReached → PrefixesHaveOrders → m.parts.now < event_limit → ArePutsOf (operations then) loss.puts.items
          → (MayReply known.call reply → IsEndedBy start m.parts.now calls_before the_call (response_at reply m.parts.now) part)
          → IsLost start events process reply loss
      unfolding of_answer
      is_lost law prefixes room puts ended = record {
        accepted = accepted start events m process known h here room;
        of_answer = of_answer;
        part = λ replies. ⊎_elim
            (λ never. absurd (never.0 (may replies)))
            (λ dead. (kept_with dead.1, subst (λ (p : EndedPart). All IsDead (pasts_of p)) (sym made.part_is) dead.2))
            lost;
        none = λ never. ⊎_elim
            (λ none. ap (λ (p : EndedPart). p.pasts.items) made.part_is ∙ none.1)
            (λ dead. absurd (never (subst (λ (c : Call). MayReply c reply) (sym made.call_is) dead.0)))
            lost;
        before = λ replies. before_it (ended (may replies));
        some = λ read replies. reads_have_pasts start m.parts.now calls_before the_call (response_at reply m.parts.now) loss.part
            (subst (λ (p : EndedPart). IsEndedBy start m.parts.now calls_before the_call (response_at reply m.parts.now) p) (sym made.part_is)
            (ended (may replies)))
            (subst (λ (c : Call). may_change c ≡ false) made.call_is read);
        reached = λ replies. ⊎_elim
            (λ never. absurd (never.0 (may replies)))
            (λ dead. reached_with law (kept_with dead.1))
            lost;
        puts = puts;
        wrong = λ more.
            let wrong = goes_wrong start events m process known h here prefixes reply no_order more in (
              wrong.0,
              subst (λ (n : ℕ). GoesWrongAt (record { start = start; events = events ++ Answer process reply ∷ more }) n loss.event) (sym made.number_is)
                  (subst (GoesWrongAt (record { start = start; events = events ++ Answer process reply ∷ more }) known.number) (sym made.event_is) wrong.1),
            );
      }
