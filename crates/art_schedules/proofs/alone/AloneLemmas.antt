-- Parts that run alone: one rule for each way to make a part.
use Rattle.art_schedules.proofs.Common.{◌≡◌, ℕ, ◌+◌, ◌%◌, ◌^◌, List, [], ◌∷◌, refl, ap, sym, subst, Bool, true, false, ◌∙◌, arith, Option}
use Rattle.art_schedules.specs.alone.Alone.{Ends}
use Rattle.art_schedules.proofs.Common.{slice_set, eq-eqb, Call, Reply, Shape, Variant, Access, Point, Rest, Part, Answers, ◌>>=◌, ◌>>◌, give}
use Rattle.art_schedules.proofs.Common.{answer, access, load, load_at, store, store_at, exchange, add, marked, first_at, each, over, procedure, act}
use Rattle.art_schedules.proofs.Common.{got_by, words_after, RunsAlone, ends, goes, accesses, Comes}
use Rattle.std.specs.Prelude.{Some, slice_index, ◌==◌, if◌then◌else◌}
use Rattle.std.proofs.lemmas.List.{set-get_or}
use Rattle.events.specs.declared.event.Reply.TheVariants as replies
use Rattle.art_rows.specs.declared.access.Access.TheVariants.{Load, Exchange}
use Rattle.art_rows.proofs.GuardLemmas.{act-body}
use Rattle.art_rows.proofs.TurnLemmas.{asks-same, answers-same, asks-answers}

-- ---- what is left of a call

-- a run makes as many accesses, however the rest and the words are written
moved : {A : Type 0} (rest : A → Rest) (words : A → List ℕ) {last : List ℕ} {reply : Reply} {x y : A} (e : x ≡ y)
    (h : RunsAlone (rest x) (words x) last reply)
    → accesses (subst (λ x. RunsAlone (rest x) (words x) last reply) e h) ≡ accesses h
moved rest words {last = last} {reply = reply} e h = sym (λ j. accesses (coe 0 j (i. RunsAlone (rest (e i)) (words (e i)) last reply) h))

-- Rests that are the same on each list of words run alone to the same end.
pub same-runs : (r : Rest) {r' : Rest} {words last : List ℕ} {reply : Reply} → ((got : List ℕ) → r got ≡ r' got)
    → RunsAlone r' words last reply
    → RunsAlone r words last reply
same-runs r e (ends h) = ends (e [] ∙ h)
same-runs r e (goes {words = words} a p h k) =
    goes a p (e [] ∙ h) (same-runs (λ got. r (got_by a words ∷ got)) (λ got. e (got_by a words ∷ got)) k)

pub same-accesses : (r : Rest) {r' : Rest} {words last : List ℕ} {reply : Reply} (e : (got : List ℕ) → r got ≡ r' got)
    (h : RunsAlone r' words last reply)
    → accesses (same-runs r e h) ≡ accesses h
unfolding same-runs
same-accesses r e (ends h) = refl
same-accesses r e (goes {words = words} a p h k) =
    ap (λ n. 1 + n) (same-accesses (λ got. r (got_by a words ∷ got)) (λ got. e (got_by a words ∷ got)) k)

-- a call that runs alone comes to one end only
pub runs-once : {rest : Rest} {words last last2 : List ℕ} {reply reply2 : Reply} → RunsAlone rest words last reply
    → RunsAlone rest words last2 reply2
    → (last ≡ last2) × (reply ≡ reply2)
runs-once (ends h) (ends k) = (refl, answers-same (sym h ∙ k))
runs-once (ends h) (goes a p k r) = absurd (asks-answers (sym k ∙ h))
runs-once (goes a p h r) (ends k) = absurd (asks-answers (sym h ∙ k))
runs-once {rest = rest} {words = words} {last2 = last2} {reply2 = reply2} (goes a p h r) (goes b q k s) =
    runs-once r (subst (λ (x : Access). RunsAlone (λ got. rest (got_by x words ∷ got)) (words_after x words) last2 reply2)
    (asks-same (sym k ∙ h)) s)

-- a call that runs alone comes to its end by one number of accesses
pub accesses-once : {rest : Rest} {words last last2 : List ℕ} {reply reply2 : Reply} (r : RunsAlone rest words last reply)
    (s : RunsAlone rest words last2 reply2) → accesses r ≡ accesses s
accesses-once (ends h) (ends k) = refl
accesses-once (ends h) (goes a p k r) = absurd (asks-answers (sym k ∙ h))
accesses-once (goes a p h r) (ends k) = absurd (asks-answers (sym h ∙ k))
accesses-once {rest = rest} {words = words} {last2 = last2} {reply2 = reply2} (goes a p h r) (goes b q k s) =
    ap (λ n. 1 + n) (accesses-once r (subst (λ (x : Access). RunsAlone (λ got. rest (got_by x words ∷ got))
    (words_after x words) last2 reply2)
    (asks-same (sym k ∙ h)) s)
    ∙ moved (λ (x : Access) got. rest (got_by x words ∷ got)) (λ x. words_after x words) (asks-same (sym k ∙ h)) s)

-- one access, then what comes after it
pub access-runs : {a : Access} {p : Option Point} {after : ℕ → Rest} {words later last : List ℕ} {got : ℕ} {reply : Reply}
    → got_by a words ≡ got
    → words_after a words ≡ later → RunsAlone (after got) later last reply → RunsAlone (access a p after) words last reply
access-runs {a = a} {p = p} {after = after} {words = words} {later = later} {last = last} {reply = reply} g l r =
    goes a p refl (subst (λ (w : List ℕ). RunsAlone (after (got_by a words)) w last reply) (sym l)
    (subst (λ (n : ℕ). RunsAlone (after n) later last reply) (sym g) r))

pub access-accesses : (a : Access) (p : Option Point) (after : ℕ → Rest) (words : List ℕ) {later last : List ℕ} {got : ℕ} {reply : Reply}
    (g : got_by a words ≡ got) (l : words_after a words ≡ later) (r : RunsAlone (after got) later last reply)
    → accesses (access-runs {a = a} {p = p} {after = after} {words = words} g l r) ≡ 1 + accesses r
unfolding access-runs
access-accesses a p after words {later = later} {last = last} {reply = reply} g l r =
    ap (λ n. 1 + n) (moved (λ (w : List ℕ). after (got_by a words)) (λ w. w) (sym l)
    (subst (λ (n : ℕ). RunsAlone (after n) later last reply) (sym g) r)
    ∙ moved after (λ (n : ℕ). later) (sym g) r)

-- ---- parts

pub none-more : (n : ℕ) → n ≡ 0 + n
none-more n = omega arith

pub both : {n b : ℕ} (a c d : ℕ) → n ≡ a + b → b ≡ c + d → n ≡ a + c + d
both a c d h k = omega (arith, h, k)

pub both-end : {n b c : ℕ} (a : ℕ) → n ≡ a + b → b ≡ c → n ≡ a + c
both-end a h k = omega (arith, h, k)

unfoldable pub give-comes : {A : Type 0} (a : A) (words : List ℕ) → Comes (give a) words a words
give-comes a words = record { steps = 0; runs = λ again after last reply h. h; long = λ again after last reply h. none-more (accesses h) }

pub answer-ends : {A : Type 0} (reply : Reply) (words : List ℕ) → Ends (answer {A = A} reply) words reply words
answer-ends reply words = record { steps = 0; runs = λ again after. ends refl; long = λ again after. refl }

unfoldable pub bind-comes : {A B : Type 0} {m : Part A} {f : A → Part B} {words between later : List ℕ} {a : A} {b : B}
    → Comes m words a between
    → Comes (f a) between b later → Comes (m >>= f) words b later
bind-comes {f = f} {a = a} h k = record {
  steps = h.steps + k.steps;
  runs = λ again after last reply r. h.runs again (λ x. f x again after) last reply (k.runs again after last reply r);
  long = λ again after last reply r.
      both h.steps k.steps (accesses r) (h.long again (λ x. f x again after) last reply (k.runs again after last reply r))
      (k.long again after last reply r);
}

unfoldable pub then-comes : {A B : Type 0} {m : Part A} {n : Part B} {words between later : List ℕ} {a : A} {b : B}
    → Comes m words a between
    → Comes n between b later → Comes (m >> n) words b later
then-comes {n = n} h k = record {
  steps = h.steps + k.steps;
  runs = λ again after last reply r. h.runs again (λ x. n again after) last reply (k.runs again after last reply r);
  long = λ again after last reply r. both h.steps k.steps (accesses r)
      (h.long again (λ x. n again after) last reply (k.runs again after last reply r)) (k.long again after last reply r);
}

unfoldable pub bind-ends : {A B : Type 0} {m : Part A} {f : A → Part B} {words between later : List ℕ} {a : A} {reply : Reply}
    → Comes m words a between
    → Ends (f a) between reply later → Ends (m >>= f) words reply later
bind-ends {f = f} {later = later} {reply = reply} h k = record {
  steps = h.steps + k.steps;
  runs = λ again after. h.runs again (λ x. f x again after) later reply (k.runs again after);
  long = λ again after. both-end h.steps (h.long again (λ x. f x again after) later reply (k.runs again after)) (k.long again after);
}

pub then-ends : {A B : Type 0} {m : Part A} {n : Part B} {words between later : List ℕ} {a : A} {reply : Reply} → Comes m words a between
    → Ends n between reply later → Ends (m >> n) words reply later
then-ends {n = n} {later = later} {reply = reply} h k = record {
  steps = h.steps + k.steps;
  runs = λ again after. h.runs again (λ x. n again after) later reply (k.runs again after);
  long = λ again after. both-end h.steps (h.long again (λ x. n again after) later reply (k.runs again after)) (k.long again after);
}

-- a part that answers, before what is never done
pub ends-bind : {A B : Type 0} {m : Part A} {f : A → Part B} {words later : List ℕ} {reply : Reply} → Ends m words reply later
    → Ends (m >>= f) words reply later
ends-bind {f = f} h =
    record {
      steps = h.steps;
      runs = λ again after. h.runs again (λ x. f x again after);
      long =
          λ again after. h.long again (λ x. f x again after);
    }

pub ends-then : {A B : Type 0} {m : Part A} {n : Part B} {words later : List ℕ} {reply : Reply} → Ends m words reply later
    → Ends (m >> n) words reply later
ends-then {n = n} h =
    record {
      steps = h.steps;
      runs = λ again after. h.runs again (λ x. n again after);
      long =
          λ again after. h.long again (λ x. n again after);
    }

-- parts that are the same on each list of words
unfoldable pub same-comes : {A : Type 0} {m n : Part A} {words later : List ℕ} {a : A}
    → ((again : Rest) (after : A → Rest) (got : List ℕ) → m again after got ≡ n again after got)
    → Comes n words a later → Comes m words a later
same-comes {m = m} e h = record {
  steps = h.steps;
  runs = λ again after last reply r. same-runs (m again after) (e again after) (h.runs again after last reply r);
  long = λ again after last reply r.
      same-accesses (m again after) (e again after) (h.runs again after last reply r) ∙ h.long again after last reply r;
}

unfoldable pub same-ends : {A : Type 0} {m n : Part A} {words later : List ℕ} {reply : Reply}
    → ((again : Rest) (after : A → Rest) (got : List ℕ) → m again after got ≡ n again after got) → Ends n words reply later
    → Ends m words reply later
same-ends {m = m} e h = record {
  steps = h.steps;
  runs = λ again after. same-runs (m again after) (e again after) (h.runs again after);
  long = λ again after. same-accesses (m again after) (e again after) (h.runs again after) ∙ h.long again after;
}

unfoldable pub if_true-comes : {A : Type 0} {m : Part A} (n : Part A) {b : Bool} {words later : List ℕ} {a : A} → b ≡ true
    → Comes m words a later
    → Comes (if b then m else n) words a later
if_true-comes {m = m} n e h = same-comes (λ again after got. ap (λ (b : Bool). (if b then m else n) again after got) e) h

unfoldable pub if_false-comes : {A : Type 0} {n : Part A} (m : Part A) {b : Bool} {words later : List ℕ} {a : A} → b ≡ false
    → Comes n words a later
    → Comes (if b then m else n) words a later
if_false-comes {n = n} m e h = same-comes (λ again after got. ap (λ (b : Bool). (if b then m else n) again after got) e) h

unfoldable pub if_false-ends : {A : Type 0} {n : Part A} (m : Part A) {b : Bool} {words later : List ℕ} {reply : Reply} → b ≡ false
    → Ends n words reply later → Ends (if b then m else n) words reply later
if_false-ends {n = n} m e h = same-ends (λ again after got. ap (λ (b : Bool). (if b then m else n) again after got) e) h

-- ---- accesses

pub load-same : (word : ℕ) (words : List ℕ) → words_after (Load word) words ≡ words
load-same word words = set-get_or words word 0

unfoldable pub load-comes : (word : ℕ) (words : List ℕ) → Comes (load word) words (slice_index words word) words
load-comes word words = record {
  steps = 1;
  runs = λ again after last reply r. access-runs refl (load-same word words) r;
  long = λ again after last reply r. access-accesses _ _ after words refl (load-same word words) r;
}

pub load_at-comes : (p : Point) (word : ℕ) (words : List ℕ) → Comes (load_at p word) words (slice_index words word) words
load_at-comes p word words = record {
  steps = 1;
  runs = λ again after last reply r. access-runs refl (load-same word words) r;
  long = λ again after last reply r. access-accesses _ _ after words refl (load-same word words) r;
}

pub store-comes : (word value : ℕ) (words : List ℕ) → Comes (store word value) words tt (slice_set words word value)
store-comes word value words = record {
  steps = 1;
  runs = λ again after last reply r. access-runs {after = λ _. after tt} {got = 0} refl refl r;
  long = λ again after last reply r. access-accesses _ _ (λ _. after tt) words {got = 0} refl refl r;
}

pub store_at-comes : (p : Point) (word value : ℕ) (words : List ℕ) → Comes (store_at p word value) words tt (slice_set words word value)
store_at-comes p word value words = record {
  steps = 1;
  runs = λ again after last reply r. access-runs {after = λ _. after tt} {got = 0} refl refl r;
  long = λ again after last reply r. access-accesses _ _ (λ _. after tt) words {got = 0} refl refl r;
}

pub exchanged : (word from to : ℕ) (words : List ℕ) → slice_index words word ≡ from
    → words_after (Exchange word from to) words ≡ slice_set words word to
exchanged word from to words e =
    ap (λ (b : Bool). slice_set words word (if b then to else slice_index words word)) (ap (λ (n : ℕ). n == from) e ∙ eq-eqb from from refl)

unfoldable pub exchange-comes : (word from to : ℕ) (words : List ℕ) → slice_index words word ≡ from
    → Comes (exchange word from to) words from (slice_set words word to)
exchange-comes word from to words e = record {
  steps = 1;
  runs = λ again after last reply r. access-runs e (exchanged word from to words e) r;
  long = λ again after last reply r. access-accesses _ _ after words e (exchanged word from to words e) r;
}

pub add-comes : (word : ℕ) (words : List ℕ)
    → Comes (add word) words (slice_index words word) (slice_set words word ((slice_index words word + 1) % 2 ^ 64))
add-comes word words = record {
  steps = 1;
  runs = λ again after last reply r. access-runs refl refl r;
  long = λ again after last reply r. access-accesses _ _ after words refl refl r;
}

-- a point changes nothing
pub first_at-runs : {A : Type 0} (p : Point) (m : Part A) {again : Rest} {after : A → Rest} {words last : List ℕ} {reply : Reply}
    → RunsAlone (m again after) words last reply → RunsAlone (first_at p m again after) words last reply
first_at-runs p m (ends h) = ends (ap (marked p) h)
first_at-runs p m (goes a q h k) = goes a (Some p) (ap (marked p) h) k

pub first_at-accesses : {A : Type 0} (p : Point) (m : Part A) {again : Rest} {after : A → Rest} {words last : List ℕ} {reply : Reply}
    (r : RunsAlone (m again after) words last reply) → accesses (first_at-runs p m {again = again} {after = after} r) ≡ accesses r
unfolding first_at-runs
first_at-accesses p m (ends h) = refl
first_at-accesses p m (goes a q h k) = refl

unfoldable pub first_at-comes : {A : Type 0} (p : Point) {m : Part A} {words later : List ℕ} {a : A} → Comes m words a later
    → Comes (first_at p m) words a later
first_at-comes p {m = m} h = record {
  steps = h.steps;
  runs = λ again after last reply r. first_at-runs p m {again = again} {after = after} (h.runs again after last reply r);
  long = λ again after last reply r.
      first_at-accesses p m {again = again} {after = after} (h.runs again after last reply r) ∙ h.long again after last reply r;
}

-- ---- loops

pub each_none-comes : {A : Type 0} (f : A → Part (Unit {0})) (words : List ℕ) → Comes (each [] f) words tt words
each_none-comes f words = give-comes tt words

pub each-comes : {A : Type 0} (x : A) (xs : List A) (f : A → Part (Unit {0})) {words between later : List ℕ} → Comes (f x) words tt between
    → Comes (each xs f) between tt later → Comes (each (x ∷ xs) f) words tt later
each-comes x xs f h k = then-comes {n = each xs f} h k

pub over_none-comes : {A S : Type 0} (f : A → S → Part S) (s : S) (words : List ℕ) → Comes (over [] f s) words s words
over_none-comes f s words = give-comes s words

pub over-comes : {A S : Type 0} (x : A) (xs : List A) (f : A → S → Part S) {s t u : S} {words between later : List ℕ}
    → Comes (f x s) words t between
    → Comes (over xs f t) between u later → Comes (over (x ∷ xs) f s) words u later
over-comes x xs f h k = bind-comes {f = over xs f} h k

-- ---- calls

pub act-ends : (shape : Shape) (variant : Variant) (call : Call) {words later : List ℕ} {reply : Reply}
    → Ends (procedure (record { shape = shape; variant = variant; call = call }) call) words reply later
    → RunsAlone (act shape variant call) words later reply
act-ends shape variant call h =
    same-runs (act shape variant call) (act-body shape variant call) (h.runs (act shape variant call) (λ r got. Answers r))

pub act-comes : (shape : Shape) (variant : Variant) (call : Call) {words later : List ℕ} {reply : Reply}
    → Comes (procedure (record { shape = shape; variant = variant; call = call }) call) words reply later
    → RunsAlone (act shape variant call) words later reply
act-comes shape variant call {later = later} {reply = reply} h =
    same-runs (act shape variant call) (act-body shape variant call)
    (h.runs (act shape variant call) (λ r got. Answers r) later reply (ends refl))

-- a call makes as many accesses as its procedure

pub act-ends-accesses : (shape : Shape) (variant : Variant) (call : Call) {words later : List ℕ} {reply : Reply}
    (h : Ends (procedure (record { shape = shape; variant = variant; call = call }) call) words reply later)
    → accesses (act-ends shape variant call h) ≡ h.steps
unfolding act-ends
act-ends-accesses shape variant call h =
    same-accesses (act shape variant call) (act-body shape variant call) (h.runs (act shape variant call) (λ r got. Answers r))
    ∙ h.long (act shape variant call) (λ r got. Answers r)

pub act-comes-accesses : (shape : Shape) (variant : Variant) (call : Call) {words later : List ℕ} {reply : Reply}
    (h : Comes (procedure (record { shape = shape; variant = variant; call = call }) call) words reply later)
    → accesses (act-comes shape variant call h) ≡ h.steps
unfolding act-comes
act-comes-accesses shape variant call {later = later} {reply = reply} h =
    same-accesses (act shape variant call) (act-body shape variant call)
    (h.runs (act shape variant call) (λ r got. Answers r) later reply (ends refl))
    ∙ (h.long (act shape variant call) (λ r got. Answers r) later reply (ends refl) ∙ omega arith)

-- a part makes as many accesses on the same words, whichever way it is shown that it comes to its value
pub steps-once : {A : Type 0} {m : Part A} {words later later2 : List ℕ} {a a2 : A} (h : Comes m words a later)
    (k : Comes m words a2 later2)
    → h.steps ≡ k.steps
steps-once {later = later} {later2 = later2} h k =
    let stop : Rest = λ got. Answers replies.None in
    let one = h.long stop (λ a. stop) later replies.None (ends refl) in
    let two = k.long stop (λ a. stop) later2 replies.None (ends refl) in
    let same = accesses-once (h.runs stop (λ a. stop) later replies.None (ends refl))
    (k.runs stop (λ a. stop) later2 replies.None (ends refl)) in
    equal one two same
  where
    equal : {a b c d : ℕ} → a ≡ c + 0 → b ≡ d + 0 → a ≡ b → c ≡ d
    equal one two same = omega (arith, one, two, same)
