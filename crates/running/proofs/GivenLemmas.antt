-- The core's side of a step: a move more is given by a schedule that is one process longer, and the clock is above all stamps.
use Rattle.running.proofs.Common.{◌≡◌, ℕ, zero, suc, ◌*◌, ◌<◌, ◌≤◌, List, [], ◌∷◌, ◌++◌, length, map, sum, sym, refl, ap, subst, ◌∙◌, arith, IsTrue}
use Rattle.running.proofs.Common.{replicate, Some, All, slice_get, slice_index, slice_set, sum_by, length-set, length-map, length-append, append-nil}
use Rattle.running.proofs.Common.{length-replicate, sum-map, sum_by-cons, All-set, All-map, All-append, All-cons, All-nil, All-at, Call, Invoke}
use Rattle.running.proofs.Common.{Answer, opening, is_tree_call, Process, State, Move, Invokes, Makes, Responds, begun, word_of_move, new_word}
use Rattle.running.proofs.Common.{after_move, idle, begun_plan, MayMove, IsClocked, IsPlan, move-reached, begun-more, clocks-are-ahead}
use Rattle.running.proofs.Common.{opening-length, start-clock, no-start, Setup, IsSetup, IsGiven}

-- the calls that a move begins
abbrev begins : Move → List Call
begins (Invokes call) = call ∷ []
begins (Makes a) = []
begins (Responds reply) = []

begun-after : (p n : ℕ) (m : Move) (q : Process) → begun (after_move p m n q) ≡ begun q ++ begins m
begun-after p n (Invokes call) q = begun-more q (n, Invoke p call)
begun-after p n (Makes a) q = sym (append-nil (begun q))
begun-after p n (Responds reply) q = begun-more q (n, Answer p reply)

-- a call may be begun where one is left
abbrev pub MayBegin : Setup → Process → Move → Type 0
MayBegin setup q (Invokes call) = (length (begun q) < setup.calls_each) × IsTrue (is_tree_call call)
MayBegin setup q (Makes a) = Unit {0}
MayBegin setup q (Responds reply) = Unit {0}

abbrev AreTreeCalls : List Call → Type 0
AreTreeCalls calls = All (λ call. IsTrue (is_tree_call call)) calls

few-begun : (setup : Setup) (p n : ℕ) (m : Move) (q : Process) → MayBegin setup q m → length (begun q) ≤ setup.calls_each
    → length (begun (after_move p m n q)) ≤ setup.calls_each
few-begun setup p n (Invokes call) q may few =
    let one = ap (λ l. length l) (begun-after p n (Invokes call) q) ∙ length-append (begun q) (call ∷ []) in let less = may.0 in omega arith
few-begun setup p n (Makes a) q may few = few
few-begun setup p n (Responds reply) q may few =
    let one = ap (λ l. length l) (begun-after p n (Responds reply) q) ∙ length-append (begun q) [] in omega arith

calls-begun : (setup : Setup) (p n : ℕ) (m : Move) (q : Process) → MayBegin setup q m → AreTreeCalls (begun q)
    → AreTreeCalls (begun (after_move p m n q))
calls-begun setup p n m q may calls =
    subst AreTreeCalls (sym (begun-after p n m q)) (All-append (λ call. IsTrue (is_tree_call call)) (begun q) (begins m) calls (new m may))
  where
    new : (m : Move) → MayBegin setup q m → AreTreeCalls (begins m)
    new (Invokes call) may = All-cons (λ call. IsTrue (is_tree_call call)) call [] may.1 (All-nil _)
    new (Makes a) may = All-nil _
    new (Responds reply) may = All-nil _

module _ (setup : Setup) where
  -- one move more
  pub given-move : (words : List ℕ) (processes : List Process) (p : ℕ) (q : Process) (m : Move) → IsGiven setup words processes
      → slice_get processes p ≡ Some q → MayMove setup.shape setup.variant q q.call m → MayBegin setup q m
      → IsGiven setup (slice_set words (word_of_move m) (new_word m (slice_index words (word_of_move m))))
      (slice_set processes p (after_move p m (slice_index words (word_of_move m)) q))
  given-move words processes p q m g here may fits =
      let n = slice_index words (word_of_move m) in
      let state : State = record { words = words; processes = processes } in
      record {
        schedule = g.schedule ++ p ∷ [];
        gives = move-reached setup.shape setup.variant state p q m here g.schedule g.gives may;
        many = length-set processes p (after_move p m n q) ∙ g.many;
        few = All-set (λ q. length (begun q) ≤ setup.calls_each) processes p (after_move p m n q)
            (few-begun setup p n m q fits (All-at (λ q. length (begun q) ≤ setup.calls_each) processes p q g.few here)) g.few;
        calls = All-set (λ q. AreTreeCalls (begun q)) processes p (after_move p m n q)
            (calls-begun setup p n m q fits (All-at (λ q. AreTreeCalls (begun q)) processes p q g.calls here)) g.calls;
      }

  -- before the first step
  pub given-first : IsGiven setup (opening setup.shape) (replicate setup.processes idle)
  given-first = record {
    schedule = [];
    gives = ap (λ n. Some (record { words = opening setup.shape; processes = replicate n idle }))
        (length-map (replicate setup.processes idle) begun ∙ length-replicate setup.processes idle);
    many = length-replicate setup.processes idle;
    few = all-idle (λ q. length (begun q) ≤ setup.calls_each) setup.processes (omega arith);
    calls = all-idle (λ q. AreTreeCalls (begun q)) setup.processes (All-nil _);
  }
    where
      all-idle : (P : Process → Type 0) (n : ℕ) → P idle → All P (replicate n idle)
      all-idle P zero h = All-nil P
      all-idle P (suc n) h = All-cons P idle (replicate n idle) h (all-idle P n h)

  abbrev lengths : List Process → ℕ
  lengths processes = sum_by (λ q. length (begun q)) processes

  few-in-all : (processes : List Process) → All (λ q. length (begun q) ≤ setup.calls_each) processes
      → lengths processes ≤ length processes * setup.calls_each
  few-in-all [] h = omega arith
  few-in-all (x ∷ xs) h =
      let first : length (begun x) ≤ setup.calls_each = h 0 x (omega arith) in
      let rest = few-in-all xs (λ k d lt. h (suc k) d (omega arith)) in
      omega (arith, sum_by-cons (λ q. length (begun q)) x xs)

  module _ (limits : IsSetup setup) (words : List ℕ) (processes : List Process) (g : IsGiven setup words processes) where
    -- the calls begun are a plan
    pub given-plan : IsPlan (begun_plan setup.shape setup.variant processes)
    given-plan =
        let long = length-map processes begun in
        let many = g.many in
        let some = limits.some_process in
        let known = limits.few_processes in
        record {
          shape = limits.shape;
          some_script = omega arith;
          few_scripts = omega arith;
          few_calls = total-few;
          calls = All-map AreTreeCalls begun processes g.calls;
        }
      where
        sum-lengths : (ps : List Process) → sum_by (λ (script : List Call). length script) (map begun ps) ≡ lengths ps
        sum-lengths [] = refl
        sum-lengths (x ∷ xs) =
            let r = sum-lengths xs in
            omega (
              arith,
              sum_by-cons (λ (script : List Call). length script) (begun x) (map begun xs),
              sum_by-cons
                  (λ q. length (begun q)) x xs,
            )

        total-few : sum (map (λ script. length script) (map begun processes)) ≤ 4096
        total-few =
            let all = few-in-all processes g.few in
            let few : length processes * setup.calls_each ≤ 4096 = subst (λ k. k * setup.calls_each ≤ 4096) (sym g.many) limits.few_calls in
            let same = sum-map (λ (script : List Call). length script) (map begun processes) ∙ sum-lengths processes in
            omega arith

    -- the clock is above all stamps
    pub given-clocked : IsClocked (record { words = words; processes = processes })
    given-clocked =
        clocks-are-ahead (begun_plan setup.shape setup.variant processes) (opening setup.shape) g.schedule
        (record { words = words; processes = processes })
        given-plan (opening-length setup.shape)
        (start-clock setup.shape setup.variant [] (opening setup.shape) (no-start setup.shape setup.variant)) g.gives
