use Rattle.std.proofs.Common.{◌≡◌, ℕ, ◌%◌, List, [], ◌∷◌, ap, ap₂, ◌∙◌, get_or}
use Rattle.rand_core.specs.Steps.{first_words}
use Rattle.rand_pcg.specs.Lcg.{Lcg}
use Rattle.events.specs.declared.event.Call.{Call}
use Rattle.events.specs.declared.event.Call.TheVariants.{Get, Remove}
use Rattle.workload.specs.Drawn.{next_word, key_by, call_by, next_call, calls_drawn}
use Rattle.workload.specs.Laws.{half_gets}
use Rattle.workload.proofs.laws.calls_follow_the_words.Goals as goal

-- the word at a place
word_at : (i : ℕ) (words others : List ℕ) → words ≡ others → get_or words i 0 ≡ get_or others i 0
word_at i words others same = ap (λ (ws : List ℕ). get_or ws i 0) same

-- two words give the call that they are computed to
calls_by : (a b word key : ℕ) (g : Lcg) → a ≡ word → b ≡ key
    → call_by half_gets (a % 100) (key_by half_gets b) g ≡ call_by half_gets (word % 100) (key_by half_gets key) g
calls_by a b word key g p q = ap₂ (λ (x y : ℕ). call_by half_gets (x % 100) (key_by half_gets y) g) p q

pub returns : goal.returns
unfolding first_words calls_drawn
returns c g words =
    let drawn : List ℕ = first_words next_word 4 g in
    let given : List ℕ = 2707161783 ∷ 2068313097 ∷ 3122475824 ∷ 2211639955 ∷ [] in
    let h : Lcg = (next_word (next_word g).1).1 in
    let end : Lcg = (next_word (next_word h).1).1 in
    let remove : next_call half_gets g ≡ (Remove 7, h) =
    calls_by (next_word g).0 (next_word (next_word g).1).0 2707161783 2068313097 h (word_at 0 drawn given words)
    (word_at 1 drawn given words) in
    let get : next_call half_gets h ≡ (Get 5, end) =
    calls_by (next_word h).0 (next_word (next_word h).1).0 3122475824 2211639955 end (word_at 2 drawn given words)
    (word_at 3 drawn given words) in
    ap (λ (d : Call × Lcg). d.0 ∷ (next_call half_gets d.1).0 ∷ []) remove ∙ ap (λ (d : Call × Lcg). Remove 7 ∷ d.0 ∷ []) get
