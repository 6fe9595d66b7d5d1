-- A text is read up to one byte more than it may have. What `schedule` answers to these bytes is an answer to the whole text.
use Rattle.cli_plans.proofs.Common.{ℕ, ◌+◌, List, take, inl, inr, Shape, Variant, Call, text_limit, Answer, IsNoPlan, IsOverlong, IsScheduleAnswer}
use Rattle.cli_plans.proofs.Common.{IsScheduleRefusal, SpellsScriptsOf}
use Rattle.cli_plans.proofs.WholePlans.{IsPlanTextFault-whole, SpellsPlan-whole}

SpellsScriptsOf-whole : (text : List ℕ) (scripts : List (List Call)) → SpellsScriptsOf (take (text_limit + 1) text) scripts
    → SpellsScriptsOf text scripts
SpellsScriptsOf-whole text scripts h = record { spelled = SpellsPlan-whole text scripts h.spelled; are_scripts = h.are_scripts }

module _ (shape : Shape) (variant : Variant) (limit : ℕ) where
  -- an answer of `schedule` to the text read is one to the whole
  pub IsScheduleAnswer-whole : (text : List ℕ) (answer : Answer) (bytes : List ℕ)
      → IsScheduleAnswer shape variant limit (take (text_limit + 1) text) answer bytes
      → IsScheduleAnswer shape variant limit text answer bytes
  IsScheduleAnswer-whole text answer bytes h = record {
    scripts = h.scripts;
    plan = SpellsScriptsOf-whole text h.scripts h.plan;
    replay = h.replay;
    drawn = h.drawn;
    answer_is = h.answer_is;
    bytes_are = h.bytes_are;
    spelled = h.spelled;
  }

  pub IsScheduleRefusal-whole : (text bytes hint : List ℕ)
      → IsScheduleRefusal shape variant limit (take (text_limit + 1) text) bytes hint
      → IsScheduleRefusal shape variant limit text bytes hint
  IsScheduleRefusal-whole text bytes hint (inl h) = inl (record {
    fault = h.fault;
    refused = IsPlanTextFault-whole text h.fault h.refused;
    not_memory = h.not_memory;
    bytes_are = h.bytes_are;
    hint_is = h.hint_is;
  })
  IsScheduleRefusal-whole text bytes hint (inr h) = inr (record {
    scripts = h.scripts;
    plan = SpellsScriptsOf-whole text h.scripts h.plan;
    long = h.long;
    bytes_are = h.bytes_are;
    hint_is = h.hint_is;
  })
