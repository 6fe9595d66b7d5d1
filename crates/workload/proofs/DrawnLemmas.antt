-- Calls that are drawn one after another, and the scripts of processes.
use Rattle.std.proofs.Common.{◌≡◌, ℕ, zero, suc, ◌+◌, ◌*◌, ◌≤◌, ◌<◌, ◌^◌, List, [], ◌∷◌, ◌++◌, length, map, sum, refl, sym}
use Rattle.std.proofs.Common.{ap, ap₂, subst, ◌∙◌, arith, tests, append_assoc, append-nil, All, IsTrue}
use Rattle.std.proofs.lemmas.List.Elements.{All-map, All-from_recursion}
use Rattle.std.proofs.lemmas.List.FromFn.{length-map-range_with_len}
use Rattle.std.proofs.lemmas.List.Sums.{sum_by-cons}
use Rattle.std.specs.List.{range_with_len, AllByRecursion}
use Rattle.events.specs.Limits.{process_limit, call_limit}
use Rattle.rand_pcg.specs.Lcg.{Lcg}
use Rattle.events.specs.declared.event.Call.{Call}
use Rattle.art_rows.specs.TreeCalls.{is_tree_call}
use Rattle.plans.specs.Plans.{AreScripts}
use Rattle.workload.specs.declared.mix.Mix.{Mix}
use Rattle.workload.specs.Drawn.{generator_of, key_by, call_by, next_call, calls_drawn}
use Rattle.workload.specs.Mixes.{HasKeys, AreWithin}
use Rattle.workload.specs.Workloads.{script_of, scripts_of}

-- a call that is drawn joins those before it
pub calls_drawn-more : (mix : Mix) (before : List Call) (call : Call) (g h : Lcg) (n k : ℕ) → (call, h) ≡ next_call mix g → k ≡ suc n
    → (before ++ call ∷ []) ++ calls_drawn mix n h ≡ before ++ calls_drawn mix k g
unfolding calls_drawn
calls_drawn-more mix before call g h n k e f = append_assoc before (call ∷ []) (calls_drawn mix n h)
    ∙ ap (λ (d : Call × Lcg). before ++ d.0 ∷ calls_drawn mix n d.1) e ∙ ap (λ (m : ℕ). before ++ calls_drawn mix m g) (sym f)

-- none is left to draw
pub calls_drawn-none : (mix : Mix) (before : List Call) (g : Lcg) (k : ℕ) → k ≡ 0 → before ++ calls_drawn mix k g ≡ before
unfolding calls_drawn
calls_drawn-none mix before g k f = ap (λ (m : ℕ). before ++ calls_drawn mix m g) f ∙ append-nil before

pub length-calls_drawn : (mix : Mix) (n : ℕ) (g : Lcg) → length (calls_drawn mix n g) ≡ n
unfolding calls_drawn
length-calls_drawn mix zero g = refl
length-calls_drawn mix (suc n) g = ap suc (length-calls_drawn mix n (next_call mix g).1)

long_more : (n long : ℕ) → long + n * long ≡ suc n * long
long_more n long = grind arith

-- lists of one length have as many items in all as that length times their number
pub sum-lengths : (f : ℕ → List Call) (long : ℕ) → ((p : ℕ) → length (f p) ≡ long) → (a n : ℕ)
    → sum (map (λ script. length script) (map f (range_with_len a n))) ≡ n * long
sum-lengths f long h a zero = omega arith
sum-lengths f long h a (suc n) = sum_by-cons (λ (x : ℕ). x) (length (f a)) (map (λ script. length script)
    (map f (range_with_len (a + 1) n)))
    ∙ ap₂ (λ (x y : ℕ). x + y) (h a) (sum-lengths f long h (a + 1) n) ∙ long_more n long

-- whatever holds of each item that a function gives holds of all that it gives for a list of numbers
pub All-given : {X : Type 0} (P : X → Type 0) (f : ℕ → X) → ((p : ℕ) → P (f p)) → (ps : List ℕ) → All P (map f ps)
All-given P f h ps = All-map P f ps (λ k d _. h _)

-- a key that is drawn is one that a tree can hold
key_by-small : (mix : Mix) (word : ℕ) → mix.lo ≤ mix.hi → mix.hi < 2 ^ 32 → key_by mix word < 2 ^ 32
key_by-small mix word le lt = grind arith

call_by-tree : (mix : Mix) (share key : ℕ) (g : Lcg) → mix.lo ≤ mix.hi → mix.hi < 2 ^ 32 → key < 2 ^ 32
    → IsTrue (is_tree_call (call_by mix share key g).0)
call_by-tree mix share key g le lt small = grind (arith, tests)

-- a call that is drawn is one that a tree can do
next_call-tree : (mix : Mix) (g : Lcg) → mix.lo ≤ mix.hi → mix.hi < 2 ^ 32 → IsTrue (is_tree_call (next_call mix g).0)
next_call-tree mix g le lt = call_by-tree mix _ _ _ le lt (key_by-small mix _ le lt)

tree_calls : (mix : Mix) → mix.lo ≤ mix.hi → mix.hi < 2 ^ 32 → (n : ℕ) (g : Lcg)
    → AllByRecursion (λ call. IsTrue (is_tree_call call)) (calls_drawn mix n g)
unfolding calls_drawn
tree_calls mix le lt zero g = tt
tree_calls mix le lt (suc n) g = (next_call-tree mix g le lt, tree_calls mix le lt n (next_call mix g).1)

-- what is drawn is a plan
pub scripts_of-are_scripts : (seed processes calls : ℕ) (mix : Mix) → mix.hi < 2 ^ 32 → HasKeys mix → AreWithin processes calls
    → AreScripts (scripts_of seed mix processes calls)
scripts_of-are_scripts seed processes calls mix lt keys within =
    let f = script_of seed mix calls in
    let ps = range_with_len 0 processes in
    let long : length (map f ps) ≡ processes = length-map-range_with_len f 0 processes in
    let sums : sum (map (λ script. length script) (map f ps)) ≡ processes * calls =
    sum-lengths f calls (λ p. length-calls_drawn mix calls (generator_of seed p)) 0 processes in
    record {
      few = record {
        some_script = subst (λ (n : ℕ). 1 ≤ n) (sym long) within.some_process;
        few_scripts = subst (λ (n : ℕ). n ≤ process_limit) (sym long) within.few_processes;
        few_calls = subst (λ (n : ℕ). n ≤ call_limit) (sym sums) within.few_calls;
      };
      calls = All-given (λ script. All (λ call. IsTrue (is_tree_call call)) script) f
          (λ p. All-from_recursion (λ call. IsTrue (is_tree_call call)) _ (tree_calls mix keys lt calls (generator_of seed p))) ps;
    }

-- the script of the next process joins those before it
pub scripts-more : (f : ℕ → List Call) (before : List (List Call)) (script : List Call) (a n k : ℕ) → script ≡ f a → k ≡ suc n
    → (before ++ script ∷ []) ++ map f (range_with_len (a + 1) n) ≡ before ++ map f (range_with_len a k)
scripts-more f before script a n k e g = append_assoc before (script ∷ []) (map f (range_with_len (a + 1) n))
    ∙ ap (λ (s : List Call). before ++ s ∷ map f (range_with_len (a + 1) n)) e
    ∙ ap (λ (m : ℕ). before ++ map f (range_with_len a m)) (sym g)
