-- The first bytes of the text of a replay, one more than a text may have, decide all that is to be
-- known of the whole.
use Rattle.cli_plans.proofs.Common.{ℕ, ◌+◌, ◌<◌, List, length, take, subst, inl, inr, arith, length-take, text_limit, ReplayView, SpellsReplay}
use Rattle.cli_plans.proofs.Common.{Answer, same_text, IsReplayAnswer, IsReplayRefusal}
use Rattle.plans.specs.declared.fault.MachineFault.{MachineFault}
use Rattle.plan_text.specs.ReplayTextFaults.{IsReplayTextFault}
use Rattle.replays.specs.declared.fault.ReplayFault.{ReplayFault}
use Rattle.replays.specs.Played.{IsUnplayed}
use Rattle.plans.specs.declared.fault.MachineFault.TheVariants as machines
use Rattle.replays.specs.declared.fault.ReplayFault.TheVariants as replays

-- a replay that the text read spells is the one of the whole
SpellsReplay-whole : (text : List ℕ) (r : ReplayView) → SpellsReplay (take (text_limit + 1) text) r → SpellsReplay text r
SpellsReplay-whole text r h = subst (λ (t : List ℕ). SpellsReplay t r) (same_text text_limit text h.json.fits) h

-- a fault of the text read, as one of a replay, is one of the whole
IsReplayTextFault-whole : (text : List ℕ) (fault : MachineFault) → IsReplayTextFault (take (text_limit + 1) text) fault
    → IsReplayTextFault text fault
IsReplayTextFault-whole text machines.TooLong h = let size =
    length-take (text_limit + 1) text in let long : text_limit < length (take (text_limit + 1) text) =
    h in omega (arith, size)
IsReplayTextFault-whole text machines.NotJson h =
    subst (λ (t : List ℕ). IsReplayTextFault t machines.NotJson) (same_text text_limit text h.0) h
IsReplayTextFault-whole text machines.Shape h =
    subst (λ (t : List ℕ). IsReplayTextFault t machines.Shape) (same_text text_limit text h.1.fits) h
IsReplayTextFault-whole text machines.Memory h = tt
IsReplayTextFault-whole text machines.NoProcess h = h
IsReplayTextFault-whole text machines.NothingToDo h = h
IsReplayTextFault-whole text machines.TurnLimit h = h
IsReplayTextFault-whole text machines.StartRefused h = h

IsUnplayed-whole : (text : List ℕ) (fault : ReplayFault) → IsUnplayed (take (text_limit + 1) text) fault → IsUnplayed text fault
IsUnplayed-whole text (replays.Replay fault) (inl h) = inl (h.0, IsReplayTextFault-whole text fault h.1)
IsUnplayed-whole text (replays.Replay fault) (inr h) = inr (h.0, SpellsReplay-whole text h.0 h.1, h.2)
IsUnplayed-whole text (replays.Schedule stop) h = (h.0, SpellsReplay-whole text h.0 h.1, h.2)
IsUnplayed-whole text replays.Memory h = tt

-- an answer of `replay` to the text read is one to the whole
pub IsReplayAnswer-whole : (text : List ℕ) (answer : Answer) (bytes : List ℕ) → IsReplayAnswer (take (text_limit + 1) text) answer bytes
    → IsReplayAnswer text answer bytes
IsReplayAnswer-whole text answer bytes h = record {
  history = h.history;
  played = (h.played.0, SpellsReplay-whole text h.played.0 h.played.1, h.played.2);
  answer_is = h.answer_is;
  bytes_are = h.bytes_are;
  spelled = h.spelled;
}

pub IsReplayRefusal-whole : (text bytes hint : List ℕ) → IsReplayRefusal (take (text_limit + 1) text) bytes hint
    → IsReplayRefusal text bytes hint
IsReplayRefusal-whole text bytes hint h = record {
  fault = h.fault;
  refused = IsUnplayed-whole text h.fault h.refused;
  not_memory = h.not_memory;
  bytes_are = h.bytes_are;
  hint_is = h.hint_is;
}
