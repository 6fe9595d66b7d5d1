-- The history of the logs is that of the state.
use Rattle.running.proofs.Common.{◌≡◌, ℕ, List, [], ◌∷◌, ◌++◌, map, length, refl, sym, ap, ◌∙◌, flat_map, vec_len, events_by_stamp, history_of, Setup}
use Rattle.running.proofs.Common.{View, Numbered, state_of, Run, Fit, shows, opened_for, IsGroupOf}
use Rattle.running.specs.declared.arena.Arena.{Arena}
use Rattle.running.specs.declared.group.Pass.{Pass}
use Rattle.running.proofs.FitLemmas.{fit-length}

same-logs : (setup : Setup) (xs : List Numbered) (rs : List Run) → Fit setup xs rs
    → flat_map (λ log. log) (map (λ q. q.log) (map (λ (x : Numbered). x.1) xs)) ≡ flat_map (λ (r : Run). r.1.log.items) rs
same-logs setup [] [] fit = refl
same-logs setup [] (r ∷ rs) fit = absurd fit
same-logs setup (x ∷ xs) [] fit = absurd fit
same-logs setup (x ∷ xs) (r ∷ rs) fit =
    ap (λ log. log ++ flat_map (λ log. log) (map (λ q. q.log) (map (λ (x : Numbered). x.1) xs))) fit.0.log
    ∙ ap (λ es. r.1.log.items ++ es) (same-logs setup xs rs fit.1)

pub logged-history : (setup : Setup) (words : List ℕ) (v : View) (rs : List Run) → Fit setup v.processes rs
    → history_of (state_of words v) ≡ events_by_stamp (flat_map (λ (r : Run). r.1.log.items) rs)
unfolding history_of
logged-history setup words v rs fit = ap events_by_stamp (same-logs setup v.processes rs fit)

-- a group has as many processes as it shows, for the arena that it came from
pub as-many : (a : Arena) (p : Pass) → IsGroupOf a p → length (shows p).processes ≡ vec_len p.runners
as-many a p own = fit-length p.setup (shows p).processes p.runners.items own.group.fit ∙ sym p.runners.ok.0

pub same-setup : (a : Arena) (p : Pass) → IsGroupOf a p → p.setup ≡ opened_for a
same-setup a p own = sym own.group.setup ∙ own.place.setup

pub same-processes : (a : Arena) (p : Pass) → IsGroupOf a p → p.setup.processes ≡ (opened_for a).processes
same-processes a p own = ap (λ s. s.processes) (same-setup a p own)
