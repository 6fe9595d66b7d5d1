-- Procedures of atomic accesses, as functions of the words that the accesses got.
use Rattle.std.specs.Prelude.{ℕ, zero, suc, ◌+◌, List, [], ◌∷◌, length, Option, Some, None}
use Rattle.events.specs.declared.event.Reply.{Reply}
use Rattle.events.specs.declared.event.Reply.TheVariants as reply
use Rattle.art_rows.specs.declared.access.Access.{Access}
use Rattle.art_rows.specs.declared.access.Access.TheVariants.{Load, Store, Exchange, Add}
use Rattle.art_rows.specs.declared.access.Point.{Point}

-- What a call does next: it makes an access, which may be at a point, or it answers.
pub data Turn : Type 0 where
  Asks : Access → Option Point → Turn
  Answers : Reply → Turn

abbrev pub access_of : Turn → Option Access
access_of (Asks a p) = Some a
access_of (Answers r) = None

abbrev pub reply_of : Turn → Option Reply
reply_of (Asks a p) = None
reply_of (Answers r) = Some r

-- What a call does next after each list of words got from here on.
abbrev pub Rest : Type 0
Rest = List ℕ → Turn

-- A part of a call that gives a value, by where the call starts again and what comes after the part.
abbrev pub Part : Type 0 → Type 0
Part A = Rest → (A → Rest) → Rest

infixl 10 ◌>>=◌
abbrev pub ◌>>=◌ : {A B : Type 0} → Part A → (A → Part B) → Part B
m >>= f = λ again after. m again (λ a. f a again after)

infixl 10 ◌>>◌
abbrev pub ◌>>◌ : {A B : Type 0} → Part A → Part B → Part B
m >> n = λ again after. m again (λ _. n again after)

-- no access, and this value
abbrev pub give : {A : Type 0} → A → Part A
give a = λ again after. after a

-- the call starts again
abbrev pub start_again : {A : Type 0} → Part A
start_again = λ again after. again

-- the call has this reply
abbrev pub answer : {A : Type 0} → Reply → Part A
answer r = λ again after got. Answers r

-- One access: the next word is what it got; where there is none, the access is what the call does next.
abbrev pub access : Access → Option Point → (ℕ → Rest) → Rest
access a point after [] = Asks a point
access a point after (word ∷ got) = after word got

abbrev pub load : ℕ → Part ℕ
load word = λ again. access (Load word) None

abbrev pub load_at : Point → ℕ → Part ℕ
load_at point word = λ again. access (Load word) (Some point)

abbrev pub store : ℕ → ℕ → Part (Unit {0})
store word value = λ again after. access (Store word value) None (λ _. after tt)

abbrev pub store_at : Point → ℕ → ℕ → Part (Unit {0})
store_at point word value = λ again after. access (Store word value) (Some point) (λ _. after tt)

abbrev pub exchange : ℕ → ℕ → ℕ → Part ℕ
exchange word from to = λ again. access (Exchange word from to) None

-- the word before, to which 1 was added
abbrev pub add : ℕ → Part ℕ
add word = λ again. access (Add word) None

-- the part's first access is at this point
abbrev pub marked : Point → Turn → Turn
marked point (Asks a p) = Asks a (Some point)
marked point (Answers r) = Answers r

abbrev pub first_at : {A : Type 0} → Point → Part A → Part A
first_at point m again after [] = marked point (m again after [])
first_at point m again after (word ∷ got) = m again after (word ∷ got)

-- A part that calls itself. An access comes before each such call, so calls are no deeper than the
-- list is long.
abbrev pub calls_of : {S A : Type 0} → ℕ → ((S → Part A) → S → Part A) → S → Part A
calls_of zero body s again after got = Answers reply.None
calls_of (suc n) body s again after got = body (calls_of n body) s again after got

abbrev pub recursive : {S A : Type 0} → ((S → Part A) → S → Part A) → S → Part A
recursive body s again after got = calls_of (suc (length got)) body s again after got

-- A part that repeats itself.
abbrev pub repeat : {A : Type 0} → (Part A → Part A) → Part A
repeat body = recursive (λ self (_ : Unit {0}). body (self tt)) tt

-- A call from its beginning, which starts again from there.
abbrev pub from_start : Part Reply → Rest
from_start m = repeat (λ self again after. m (self again after) after) (λ got. Answers reply.None) (λ r got. Answers r)

-- for each member in turn
abbrev pub each : {A : Type 0} → List A → (A → Part (Unit {0})) → Part (Unit {0})
each [] f = give tt
each (x ∷ xs) f = f x >> each xs f

-- one part for each item, where each is given what the one before it gave
abbrev pub over : {A S : Type 0} → List A → (A → S → Part S) → S → Part S
over [] f s = give s
over (x ∷ xs) f s = f x s >>= over xs f

-- n numbers from the first on, the greatest first
abbrev pub numbers_down : ℕ → ℕ → List ℕ
numbers_down first zero = []
numbers_down first (suc n) = (first + n) ∷ numbers_down first n

-- n numbers from the first on
abbrev pub numbers : ℕ → ℕ → List ℕ
numbers first zero = []
numbers first (suc n) = first ∷ numbers (first + 1) n
