-- What a place shows, and what the steps of its first process make of it.
use Rattle.std.specs.Prelude.{◌≡◌, ℕ, ◌-◌, ◌≤◌, Bool, false, not, is_some, nat_lt, if◌then◌else◌, List, [], ◌∷◌, map, length}
use Rattle.std.specs.Prelude.{take, drop, All, AllPairs, Option, Some, None}
use Rattle.std.specs.List.{range_with_len}
use Rattle.events.specs.declared.event.Call.{Call}
use Rattle.events.specs.declared.event.Reply.{Reply}
use Rattle.events.specs.Logs.{Stamped}
use Rattle.art_rows.specs.Act.{act}
use Rattle.art_core.specs.declared.process.Process.{Process}
use Rattle.art_core.specs.Core.{Move, Invokes, Responds, begun, idle, move_of, after_move}
use Rattle.running.specs.declared.view.Setup.{Setup}
use Rattle.running.specs.declared.view.View.{View}

-- a process with its number
abbrev pub Numbered : Type 0
Numbered = ℕ × Process

abbrev pub view : Setup → List Numbered → View
view setup processes = record { setup = setup; processes = processes }

abbrev pub numbers_of : List Numbered → List ℕ
numbers_of processes = map (λ x. x.0) processes

-- no process comes before one with a smaller number, so the first has the least
abbrev pub NumbersRise : View → Type 0
NumbersRise v = AllPairs (λ x y. x.0 ≤ y.0) v.processes

-- all processes, before the first step
abbrev pub all_idle : Setup → View
all_idle setup = view setup (map (λ p. (p, idle)) (range_with_len 0 setup.processes))

-- the next move of an open call
abbrev pub open_move : Setup → List ℕ → Option Call → Option Move
open_move setup got None = None
open_move setup got (Some call) = Some (move_of (act setup.shape setup.variant call got))

abbrev pub next_in : Setup → List Numbered → Option Move
next_in setup [] = None
next_in setup (x ∷ xs) = open_move setup x.1.got x.1.call

-- the next move of the first process, where it has an open call
abbrev pub next_of : View → Option Move
next_of v = next_in v.setup v.processes

-- that call is to be answered next
abbrev pub IsAnswered : View → Type 0
IsAnswered v = (reply : Reply) × (next_of v ≡ Some (Responds reply))

-- the first of the processes after a move that found n
abbrev pub moved_first : Move → ℕ → List Numbered → List Numbered
moved_first m n [] = []
moved_first m n (x ∷ xs) = (x.0, after_move x.0 m n x.1) ∷ xs

abbrev pub moved_if : Option Move → ℕ → List Numbered → List Numbered
moved_if None n processes = processes
moved_if (Some m) n processes = moved_first m n processes

-- the first process made its open call's next move, which found n
abbrev pub advanced : View → ℕ → View
advanced v n = view v.setup (moved_if (next_of v) n v.processes)

-- the first process invoked the call, by this stamp
abbrev pub invoking : Call → View → ℕ → View
invoking call v stamp = view v.setup (moved_first (Invokes call) stamp v.processes)

abbrev pub is_first_idle : List Numbered → Bool
is_first_idle [] = false
is_first_idle (x ∷ xs) = not (is_some x.1.call)

-- the first process has no open call
abbrev pub is_idle : View → Bool
is_idle v = is_first_idle v.processes

abbrev pub left_of_first : ℕ → List Numbered → ℕ
left_of_first calls_each [] = 0
left_of_first calls_each (x ∷ xs) = calls_each - length (begun x.1)

-- how many calls the first process may still begin
abbrev pub calls_left : View → ℕ
calls_left v = left_of_first v.setup.calls_each v.processes

-- the stamps that a view shows
abbrev pub AllStamps : (ℕ → Type 0) → View → Type 0
AllStamps P v = All (λ x. All (λ (e : Stamped). P e.0) x.1.log) v.processes

-- all processes but the last, and the last one alone
abbrev pub without_last : View → View
without_last v = view v.setup (take (length v.processes - 1) v.processes)

abbrev pub last_alone : View → View
last_alone v = view v.setup (drop (length v.processes - 1) v.processes)

-- by rising number, before the first that is greater
abbrev pub placed : {A : Type 0} → ℕ × A → List (ℕ × A) → List (ℕ × A)
placed x [] = x ∷ []
placed x (y ∷ ys) = if nat_lt x.0 y.0 then x ∷ y ∷ ys else y ∷ placed x ys

abbrev pub merge : {A : Type 0} → List (ℕ × A) → List (ℕ × A) → List (ℕ × A)
merge xs [] = xs
merge xs (y ∷ ys) = placed y (merge xs ys)

-- the processes of both, by rising number
abbrev pub merged : View → View → View
merged v w = view v.setup (merge v.processes w.processes)
