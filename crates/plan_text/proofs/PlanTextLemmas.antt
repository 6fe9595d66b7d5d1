-- A text spells one plan only, and has one fault.
use Rattle.plans.specs.declared.fault.PlanFault.TheVariants as faults
use Rattle.plan_text.proofs.Common.{◌≡◌, ℕ, Bool, List, map, Result, Ok, Err, OnErr, IfErr, refl, sym, ◌∙◌, subst, Data, Call, call_data, IsJson}
use Rattle.plan_text.proofs.Common.{IsTooLong, IsNoJson, list_data_injective, same_value, call_data_injective, map_injective, AreFew, script_data}
use Rattle.plan_text.proofs.Common.{scripts_data, plan_data, SpellsPlanAs, SpellsPlan}
use Rattle.plans.specs.declared.fault.PlanFault.{PlanFault}
use Rattle.plan_text.specs.PlanTextFaults.{SpellsNoPlan, SpellsTooMany, IsPlanFormFault, IsPlanTextFault}
use Rattle.plan_text.specs.PlanTextLaws.{SpellsOnePlan, HasOnePlanFault, FaultySpellsNoPlan}
use Rattle.plan_text.proofs.JsonLemmas.{long_or_short, long_or_json, none_or_json}

-- ---- one plan

-- a value spells one script only
script_data_injective : (a b : List Call) → script_data a ≡ script_data b → a ≡ b
script_data_injective a b h = map_injective call_data call_data_injective a b (list_data_injective (map call_data a) (map call_data b) h)

-- a value spells only one list of scripts
pub scripts_data_injective : (a b : List (List Call)) → scripts_data a ≡ scripts_data b → a ≡ b
scripts_data_injective a b h = map_injective script_data script_data_injective a b (list_data_injective (map script_data a)
    (map script_data b) h)

plan_data_injective : (p q : Bool) (a b : List (List Call)) → plan_data p a ≡ plan_data q b → a ≡ b
plan_data_injective p q a b h = let same : scripts_data a ≡ scripts_data b = cc in scripts_data_injective a b same

-- a text spells one plan only
pub one_plan : SpellsOnePlan
one_plan text a b first second = plan_data_injective first.spelled.may_replace second.spelled.may_replace a b
    (sym first.spelled.value ∙ (same_value text first.value second.value first.json second.json ∙ second.spelled.value))

-- ---- one fault

-- a value that spells no plan is not that of a text that spells one
no_form : (text : List ℕ) (d : Data) (scripts : List (List Call)) → IsJson text d → SpellsNoPlan d → SpellsPlan text scripts → ⊥
no_form text d scripts json none spells =
    none scripts (subst (λ (e : Data). SpellsPlanAs e scripts) (same_value text spells.value d spells.json json) spells.spelled)

-- a text that spells a plan within the limits has no fault but `Memory`
pub memory_alone : (text : List ℕ) (scripts : List (List Call)) (fault : PlanFault) → SpellsPlan text scripts → AreFew scripts
    → IsPlanTextFault text fault
    → fault ≡ faults.Memory
memory_alone text scripts faults.BadMix spells few h = absurd h
memory_alone text scripts faults.BadRange spells few h = absurd h
memory_alone text scripts faults.TooMany spells few h =
    absurd (h.2 (subst AreFew (one_plan text scripts h.0 spells h.1) few))
memory_alone text scripts faults.Memory spells few h = refl
memory_alone text scripts faults.TooLong spells few h = absurd (long_or_json text spells.value h spells.json)
memory_alone text scripts faults.NotJson spells few h = absurd (none_or_json text spells.value h spells.json)
memory_alone text scripts faults.Shape spells few h = absurd (no_form text h.0 scripts h.1 h.2 spells)

-- the text whose value spells scripts spells them
pub spelled_in : (text : List ℕ) (d : Data) (scripts : List (List Call)) → IsJson text d → SpellsPlanAs d scripts → SpellsPlan text scripts
spelled_in text d scripts json spelled = record { value = d; json = json; spelled = spelled }

-- scripts that were refused for their number are not those of a text that spells a plan within the limits
pub never_many : {A : Type 0} (text : List ℕ) (scripts found : List (List Call)) (r : Result A PlanFault) → SpellsPlan text scripts
    → AreFew scripts → SpellsPlan text found → OnErr r (AreFew found → ⊥) → IfErr r (λ fault. fault ≡ faults.Memory)
never_many text scripts found (Ok plan) spells few other many = tt
never_many text scripts found (Err fault) spells few other many =
    absurd (many (subst AreFew (one_plan text scripts found spells other) few))

-- a fault of the form is a fault of the text that has the value
pub fault_of_form : (text : List ℕ) (d : Data) (fault : PlanFault) → IsJson text d → IsPlanFormFault d fault → IsPlanTextFault text fault
fault_of_form text d faults.BadMix json h = h
fault_of_form text d faults.BadRange json h = h
fault_of_form text d faults.TooMany json h = absurd h
fault_of_form text d faults.Memory json h = tt
fault_of_form text d faults.TooLong json h = absurd h
fault_of_form text d faults.NotJson json h = absurd h
fault_of_form text d faults.Shape json h = (d, json, h)

-- a text with a fault spells no plan within the limits
pub no_plan : FaultySpellsNoPlan
no_plan text f scripts h other spells few = other (memory_alone text scripts f spells few h)

long_or_many : (text : List ℕ) → IsTooLong text → SpellsTooMany text → ⊥
long_or_many text long many = long_or_json text many.1.value long many.1.json

none_or_many : (text : List ℕ) → IsNoJson text → SpellsTooMany text → ⊥
none_or_many text none many = none_or_json text many.1.value none many.1.json

-- a text has one fault only, apart from `Memory`
pub one_fault : HasOnePlanFault
one_fault text faults.BadMix g h k f_other g_other = absurd h
one_fault text faults.BadRange g h k f_other g_other = absurd h
one_fault text faults.Memory g h k f_other g_other = absurd (f_other refl)
one_fault text f faults.BadMix h k f_other g_other = absurd k
one_fault text f faults.BadRange h k f_other g_other = absurd k
one_fault text f faults.Memory h k f_other g_other = absurd (g_other refl)
one_fault text faults.TooMany faults.TooMany h k f_other g_other = refl
one_fault text faults.TooMany faults.TooLong h k f_other g_other = absurd (long_or_many text k h)
one_fault text faults.TooMany faults.NotJson h k f_other g_other = absurd (none_or_many text k h)
one_fault text faults.TooMany faults.Shape h k f_other g_other = absurd (no_form text k.0 h.0 k.1 k.2 h.1)
one_fault text faults.TooLong faults.TooMany h k f_other g_other = absurd (long_or_many text h k)
one_fault text faults.TooLong faults.TooLong h k f_other g_other = refl
one_fault text faults.TooLong faults.NotJson h k f_other g_other = absurd (long_or_short text h k)
one_fault text faults.TooLong faults.Shape h k f_other g_other = absurd (long_or_json text k.0 h k.1)
one_fault text faults.NotJson faults.TooMany h k f_other g_other = absurd (none_or_many text h k)
one_fault text faults.NotJson faults.TooLong h k f_other g_other = absurd (long_or_short text k h)
one_fault text faults.NotJson faults.NotJson h k f_other g_other = refl
one_fault text faults.NotJson faults.Shape h k f_other g_other = absurd (none_or_json text k.0 h k.1)
one_fault text faults.Shape faults.TooMany h k f_other g_other = absurd (no_form text h.0 k.0 h.1 h.2 k.1)
one_fault text faults.Shape faults.TooLong h k f_other g_other = absurd (long_or_json text h.0 k h.1)
one_fault text faults.Shape faults.NotJson h k f_other g_other = absurd (none_or_json text h.0 k h.1)
one_fault text faults.Shape faults.Shape h k f_other g_other = refl
