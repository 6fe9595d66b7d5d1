-- Every list of words got leaves a call at a stage.
use Rattle.art_control_states.proofs.Common.{◌≡◌, ℕ, List, [], ◌∷◌, ◌++◌, refl, ap, ◌∙◌, false, Call, Get, Insert, Remove, Scan, Replace, Setting, locks}
use Rattle.art_control_states.proofs.Common.{is_scan, act, Stage, start_at, stage_after, ScanAt, scan_after, scan_start, rest_in}
use Rattle.art_control_states.specs.Calls.{CallAt, OnKey, OnScan, rest_at, call_turn, begun_as, after_all, call_after_words}
use Rattle.art_control_states.proofs.TurnLemmas.{next}
use Rattle.art_control_states.proofs.StepLemmas.{begins, goes_on}
use Rattle.art_control_states.proofs.ScanLemmas.{scan_next, scan_begins, scan_goes_on}

pub call_next : (c : Setting) (at : CallAt) → rest_at c at [] ≡ call_turn c at
call_next c (OnKey stage) = next c stage
call_next c (OnScan low high scan) = scan_next c low high scan

key_behind : (c : Setting) (stage : Stage) (got more : List ℕ) → is_scan c.call ≡ false
    → rest_at c (after_all c (OnKey stage) got) more ≡ rest_in c stage (got ++ more)
key_behind c stage [] more s = refl
key_behind c stage (w ∷ got) more s = key_behind c (stage_after c stage w) got more s ∙ goes_on c stage w (got ++ more) s

scan_behind : (c : Setting) (low high : ℕ) (scan : ScanAt) (got more : List ℕ) → c.call ≡ Scan low high
    → rest_at c (after_all c (OnScan low high scan) got) more ≡ rest_at c (OnScan low high scan) (got ++ more)
scan_behind c low high scan [] more s = refl
scan_behind c low high scan (w ∷ got) more s = scan_behind c low high (scan_after c low high scan w) got more s
    ∙ scan_goes_on c low high scan w (got ++ more) s

behind_as : (c : Setting) (call : Call) (got more : List ℕ) → c.call ≡ call
    → rest_at c (after_all c (begun_as call c) got) more ≡ act c.shape c.variant c.call (got ++ more)
behind_as c (Get k) got more e = key_behind c (start_at (locks c.variant)) got more (ap is_scan e) ∙ begins c (got ++ more) (ap is_scan e)
behind_as c (Insert k v) got more e = key_behind c (start_at (locks c.variant)) got more (ap is_scan e)
    ∙ begins c (got ++ more) (ap is_scan e)
behind_as c (Remove k) got more e = key_behind c (start_at (locks c.variant)) got more (ap is_scan e)
    ∙ begins c (got ++ more) (ap is_scan e)
behind_as c (Replace k old new) got more e = key_behind c (start_at (locks c.variant)) got more (ap is_scan e)
    ∙ begins c (got ++ more) (ap is_scan e)
behind_as c (Scan low high) got more e = scan_behind c low high (scan_start c) got more e ∙ scan_begins c low high (got ++ more) e

pub behind : (c : Setting) (got more : List ℕ) → rest_at c (call_after_words c got) more ≡ act c.shape c.variant c.call (got ++ more)
behind c got more = behind_as c c.call got more refl
