-- A call that goes on alone: what it comes to, and that it runs alone.
use Rattle.art_schedules.proofs.Common.{◌≡◌, ℕ, List, [], ◌∷◌, ap, sym, subst, ◌∙◌, Option, Reply, Access, Point, Rest, Asks, Setting, asks-same}
use Rattle.art_schedules.proofs.alone.AloneLemmas.{same-runs}
use Rattle.art_schedules.proofs.Common.{asks-answers, CallAt, OnKey, OnScan, rest_at, call_turn, call_after, call_next, got_by, words_after}
use Rattle.art_schedules.proofs.Common.{RunsAlone, ends, goes, Step, Solo, here, further, Suits}
use Rattle.art_control_states.proofs.StepLemmas.{goes_on}
use Rattle.art_control_states.proofs.ScanLemmas.{scan_goes_on}

-- ---- one step

-- what each access keeps, the last one keeps
pub solos-keep : (c : Setting) (I : CallAt → List ℕ → Type 0)
    → ((at next : CallAt) (words later : List ℕ) → I at words → Step c at words next later → I next later)
    → {at0 : CallAt} {w0 : List ℕ} {at : CallAt} {words : List ℕ} → Solo c at0 w0 at words → I at0 w0 → I at words
solos-keep c I keeps here i = i
solos-keep c I keeps (further {at} {next} {words} {later} s step) i = keeps at next words later (solos-keep c I keeps s i) step

-- ---- runs

pub rests-on : (c : Setting) (at : CallAt) (w : ℕ) (rest : List ℕ) → Suits c at
    → rest_at c (call_after c at w) rest ≡ rest_at c at (w ∷ rest)
rests-on c (OnKey stage) w rest s = goes_on c stage w rest s
rests-on c (OnScan low high scan) w rest s = scan_goes_on c low high scan w rest s

pub suits-on : (c : Setting) (at : CallAt) (w : ℕ) → Suits c at → Suits c (call_after c at w)
suits-on c (OnKey stage) w s = s
suits-on c (OnScan low high scan) w s = s

-- a run that begins with this access
pub run-behind : {rest : Rest} {words last : List ℕ} {reply : Reply} (a : Access) (mark : Option Point) → rest [] ≡ Asks a mark
    → RunsAlone rest words last reply
    → RunsAlone (λ more. rest (got_by a words ∷ more)) (words_after a words) last reply
run-behind a mark asks (ends h) = absurd (asks-answers (sym asks ∙ h))
run-behind {rest = rest} {words = words} {last = last} {reply = reply} a mark asks (goes b p h r) =
    subst (λ (x : Access). RunsAlone (λ more. rest (got_by x words ∷ more)) (words_after x words) last reply) (asks-same (sym h ∙ asks)) r

-- an access, and what is left after it
module _ (c : Setting) (at : CallAt) (suits : Suits c at) (a : Access) (mark : Option Point) (asks : call_turn c at ≡ Asks a mark)
    (words : List ℕ) (got : ℕ)
    (later last : List ℕ) (reply : Reply) (told : got_by a words ≡ got) (left : words_after a words ≡ later) where
  next : rest_at c at [] ≡ Asks a mark
  next = call_next c at ∙ asks

  pub runs-before : RunsAlone (rest_at c (call_after c at got)) later last reply → RunsAlone (rest_at c at) words last reply
  runs-before r = goes a mark next (subst (λ ws. RunsAlone (λ more. rest_at c at (got_by a words ∷ more)) ws last reply) (sym left)
      (same-runs (λ more. rest_at c at (got_by a words ∷ more))
      (λ more. ap (λ g. rest_at c at (g ∷ more)) told ∙ sym (rests-on c at got more suits)) r))

  pub runs-behind : RunsAlone (rest_at c at) words last reply → RunsAlone (rest_at c (call_after c at got)) later last reply
  runs-behind r =
      same-runs (rest_at c (call_after c at got)) (λ more. rests-on c at got more suits ∙ ap (λ g. rest_at c at (g ∷ more)) (sym told))
      (subst (λ ws. RunsAlone (λ more. rest_at c at (got_by a words ∷ more)) ws last reply) left (run-behind a mark next r))
