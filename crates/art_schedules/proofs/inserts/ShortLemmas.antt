-- Parts that make few accesses, whatever words they get.
use Rattle.art_schedules.proofs.Common.{◌≡◌, ◌⊎◌, inl, inr, ℕ, zero, suc, ◌+◌, ◌-◌, ◌*◌, ◌≤◌, List, [], ◌∷◌, ◌++◌, length, Bool}
use Rattle.art_rows.specs.Rows.{Row}
use Rattle.art_schedules.specs.alone.Alone.{Ends}
use Rattle.art_schedules.proofs.Common.{true, false, refl, ap, ◌∙◌, subst, arith, Reply, Kind, Four, Sixteen, FortyEight}
use Rattle.art_schedules.proofs.Common.{Full, capacity, rows_of, Shape, is_locked, is_obsolete, locked_word, entries_of, Access, Point, Turn, Asks}
use Rattle.art_schedules.proofs.Common.{Answers, Rest, Part, ◌>>=◌, ◌>>◌, give, start_again, answer, access, load, load_at, store, store_at}
use Rattle.art_schedules.proofs.Common.{exchange, add, marked, first_at, each, numbers, numbers_down, Setting, is_insert, leaves_out_check}
use Rattle.art_schedules.proofs.Common.{takes_unchecked, lock_point, lock, take_row, load_child, find_child, find_among, find_indexed, find_in}
use Rattle.art_schedules.proofs.Common.{find, unlock, unlock_obsolete, unlock_all, check, check_of, claim, Under, pair, pair_in, copy_child}
use Rattle.art_schedules.proofs.Common.{make_room, put_in, store_index, spread_entry, spread_index, fill, grow, got_by, RunsAlone, ends, goes}
use Rattle.art_schedules.proofs.Common.{accesses, Comes}
use Rattle.std.proofs.Common.{nat_lt, Option, ◌==◌, slice_index, Some, None, if◌then◌else◌}
use Rattle.events.specs.declared.event.Reply.TheVariants as reply
use Rattle.art_rows.specs.Updates.{put}
use Rattle.art_schedules.proofs.alone.AloneLemmas.{bind-comes, bind-ends, same-comes, same-ends, give-comes, steps-once}
use Rattle.art_schedules.proofs.alone.RowRunLemmas.{lock-comes, lock-steps, wait-comes, wait-steps, with_lock}

abbrev IsAnswered : Turn → Type 0
IsAnswered (Asks a p) = ⊥
IsAnswered (Answers r) = Unit {0}

-- a rest answers after this many words
record AnswersFrom (n : ℕ) (r : Rest) : Type 0 where
  at : (got : List ℕ) → n ≤ length got → IsAnswered (r got)

from-more : {j n : ℕ} {r : Rest} → AnswersFrom j r → j ≤ n → AnswersFrom n r
from-more h le = record { at = λ got long. h.at got (omega (arith, le, long)) }

-- If what comes after it answers after some words, the part does after this many more. Where it
-- starts again is left out.
pub record Short {A : Type 0} (k : ℕ) (m : Part A) : Type 0 where
  rest : (n : ℕ) (again : Rest) (after : A → Rest) → AnswersFrom 0 again → ((a : A) → AnswersFrom n (after a))
      → AnswersFrom (k + n) (m again after)

-- ---- what it comes to

few : (r : Rest) (n : ℕ) {words last : List ℕ} {reply : Reply} → AnswersFrom n r → (h : RunsAlone r words last reply) → accesses h ≤ n
few r n t (ends e) = omega arith
few r zero t (goes a p e k) = absurd (subst IsAnswered e (t.at [] (omega arith)))
few r (suc n) t (goes {words = words} a p e k) =
    let later = few (λ got. r (got_by a words ∷ got)) n
    (record { at = λ got long. t.at (got_by a words ∷ got) (omega (arith, long)) }) k in
    omega (arith, later)

abbrev stop : Rest
stop got = Answers reply.None

stops : AnswersFrom 0 stop
stops = record { at = λ got long. tt }

pub short-comes : {A : Type 0} {k : ℕ} {m : Part A} {words later : List ℕ} {a : A} → Short k m → (h : Comes m words a later) → h.steps ≤ k
short-comes {k = k} {m = m} {later = later} s h =
    let some = few (m stop (λ a. stop)) (k + 0) (s.rest 0 stop (λ a. stop) stops (λ a. stops))
    (h.runs stop (λ a. stop) later reply.None (ends refl)) in
    let all = h.long stop (λ a. stop) later reply.None (ends refl) in
    omega (arith, some, all)

pub short-ends : {A : Type 0} {k : ℕ} {m : Part A} {words later : List ℕ} {r : Reply} → Short k m → (h : Ends m words r later) → h.steps ≤ k
short-ends {k = k} {m = m} s h =
    let some = few (m stop (λ a. stop)) (k + 0) (s.rest 0 stop (λ a. stop) stops (λ a. stops)) (h.runs stop (λ a. stop)) in
    let all = h.long stop (λ a. stop) in
    omega (arith, some, all)

-- the accesses of a part that comes to a value or answers
abbrev pub steps_of : {A : Type 0} {m : Part A} {words later : List ℕ} {a : A} {r : Reply} → Comes m words a later
    ⊎ Ends m words r later → ℕ
steps_of (inl h) = h.steps
steps_of (inr h) = h.steps

pub short-few : {A : Type 0} {k : ℕ} {m : Part A} {words later : List ℕ} {a : A} {r : Reply} → Short k m
    → (o : Comes m words a later ⊎ Ends m words r later) → steps_of o ≤ k
short-few s (inl h) = short-comes s h
short-few s (inr h) = short-ends s h

-- ---- rules

pub short-more : {A : Type 0} {m : Part A} {j : ℕ} (k : ℕ) → Short j m → j ≤ k → Short k m
short-more k s le = record { rest = λ n again after r t. from-more (s.rest n again after r t) (omega (arith, le)) }

pub give-short : {A : Type 0} (a : A) → Short 0 (give a)
give-short a = record { rest = λ n again after r t. from-more (t a) (omega arith) }

again-short : {A : Type 0} → Short {A = A} 0 start_again
again-short = record { rest = λ n again after r t. from-more r (omega arith) }

answer-short : {A : Type 0} (q : Reply) → Short {A = A} 0 (answer q)
answer-short q = record { rest = λ n again after r t. record { at = λ got long. tt } }

pub bind-short : {A B : Type 0} {m : Part A} {f : A → Part B} {j k : ℕ} → Short j m → ((a : A) → Short k (f a)) → Short (j + k) (m >>= f)
bind-short {f = f} {k = k} s l = record {
  rest = λ n again after r t.
      from-more (s.rest (k + n) again (λ a. f a again after) r (λ a. (l a).rest n again after r t)) (omega arith);
}

pub then-short : {A B : Type 0} {m : Part A} {p : Part B} {j k : ℕ} → Short j m → Short k p → Short (j + k) (m >> p)
then-short {p = p} {k = k} s l = record {
  rest = λ n again after r t. from-more (s.rest (k + n) again (λ a. p again after) r (λ a. l.rest n again after r t)) (omega arith);
}

if-short : {A : Type 0} {m p : Part A} {j k : ℕ} (b : Bool) → Short j m → Short k p → Short (j + k) (if b then m else p)
if-short {j = j} {k = k} true s l = short-more (j + k) s (omega arith)
if-short {j = j} {k = k} false s l = short-more (j + k) l (omega arith)

access-short : (a : Access) (p : Option Point) (n : ℕ) (after : ℕ → Rest) → ((w : ℕ) → AnswersFrom n (after w)) → (got : List ℕ)
    → 1 + n ≤ length got
    → IsAnswered (access a p after got)
access-short a p n after t [] h = absurd (omega (arith, h))
access-short a p n after t (w ∷ got) h = (t w).at got (omega (arith, h))

pub load-short : (word : ℕ) → Short 1 (load word)
load-short word = record { rest = λ n again after r t. record { at = access-short _ _ n after t } }

load_at-short : (p : Point) (word : ℕ) → Short 1 (load_at p word)
load_at-short p word = record { rest = λ n again after r t. record { at = access-short _ _ n after t } }

pub store-short : (word value : ℕ) → Short 1 (store word value)
store-short word value = record { rest = λ n again after r t. record { at = access-short _ _ n (λ _. after tt) (λ _. t tt) } }

store_at-short : (p : Point) (word value : ℕ) → Short 1 (store_at p word value)
store_at-short p word value = record { rest = λ n again after r t. record { at = access-short _ _ n (λ _. after tt) (λ _. t tt) } }

exchange-short : (word from to : ℕ) → Short 1 (exchange word from to)
exchange-short word from to = record { rest = λ n again after r t. record { at = access-short _ _ n after t } }

add-short : (word : ℕ) → Short 1 (add word)
add-short word = record { rest = λ n again after r t. record { at = access-short _ _ n after t } }

-- one number added to itself n times
abbrev times : ℕ → ℕ → ℕ
times k zero = 0
times k (suc n) = k + times k n

abbrev total : {A : Type 0} → ℕ → List A → ℕ
total k [] = 0
total k (x ∷ xs) = k + total k xs

each-short : {A : Type 0} {k : ℕ} (f : A → Part (Unit {0})) → ((x : A) → Short k (f x)) → (xs : List A) → Short (total k xs) (each xs f)
each-short f s [] = give-short tt
each-short f s (x ∷ xs) = then-short (s x) (each-short f s xs)

total-ones : {A : Type 0} (xs : List A) → total 1 xs ≡ length xs
total-ones [] = refl
total-ones (x ∷ xs) = let e = total-ones xs in omega (arith, e)

total-numbers : (k first n : ℕ) → total k (numbers first n) ≡ times k n
total-numbers k first zero = refl
total-numbers k first (suc n) = let e = total-numbers k (first + 1) n in omega (arith, e)

total-down : (k first n : ℕ) → total k (numbers_down first n) ≡ times k n
total-down k first zero = refl
total-down k first (suc n) = let e = total-down k first n in omega (arith, e)

times-two : (n : ℕ) → times 2 n ≡ 2 * n
times-two zero = refl
times-two (suc n) = let e = times-two n in omega (arith, e)

-- ---- rows

pub unlock-short : (n : Row) → Short 1 (unlock n)
unfolding unlock
unlock-short n = store_at-short _ _ _

unlock_obsolete-short : (n : Row) → Short 1 (unlock_obsolete n)
unfolding unlock_obsolete
unlock_obsolete-short n = store_at-short _ _ _

pub unlock_all-short : (rows : List Row) → Short (length rows) (unlock_all rows)
unfolding unlock_all
unlock_all-short rows = let e = total-ones rows in short-more (length rows) (each-short unlock unlock-short rows) (omega (arith, e))

check-short : (n : Row) → Short 1 (check n)
unfolding check
check-short n = bind-short (load_at-short _ _) (λ v. if-short (v == n.kept) (give-short tt) again-short)

pub check_of-short : (c : Setting) (n : Row) → Short 1 (check_of c n)
unfolding check_of
check_of-short c n = if-short (leaves_out_check c.variant c.call) (give-short tt) (check-short n)

-- a version is exchanged; where that fails the rows are unlocked and the call starts again
pub exchange_row-short : (p : Point) (held : List Row) (n : Row) (to : ℕ) → Short (1 + length held)
    (first_at p (exchange n.base n.kept to) >>= λ was. if was == n.kept then give n else (unlock_all held >> start_again))
exchange_row-short p held n to =
    short-more (1 + length held) (bind-short (first (exchange-short n.base n.kept to)) (λ was. if-short (was == n.kept) (give-short n)
    (then-short (unlock_all-short held) again-short))) (omega arith)
  where
    mark : (t : Turn) → IsAnswered t → IsAnswered (marked p t)
    mark (Asks a q) h = h
    mark (Answers r) h = h

    first : {k : ℕ} {m : Part ℕ} → Short k m → Short k (first_at p m)
    first {k} {m} s = record { rest = λ n again after r t. record { at = at n again after (s.rest n again after r t) } }
      where
        at : (n : ℕ) (again : Rest) (after : ℕ → Rest) → AnswersFrom (k + n) (m again after) → (got : List ℕ) → k + n ≤ length got
            → IsAnswered (first_at p m again after got)
        at n again after h [] long = mark (m again after []) (h.at [] long)
        at n again after h (w ∷ got) long = h.at (w ∷ got) long

claim-short : (c : Setting) (held : List Row) (kind : Kind) → Short (1 + length held) (claim c held kind)
unfolding claim
claim-short c held kind =
    short-more (1 + length held) (bind-short (add-short _) (λ number. if-short (nat_lt number (rows_of c.shape kind)) (give-short _)
    (then-short (unlock_all-short held) (answer-short reply.Refused)))) (omega arith)

-- ---- locks

pub bind-few : {A B : Type 0} {m : Part A} (f : A → Part B) {words between later : List ℕ} {a : A} {b : B} {j k : ℕ}
    (h : Comes m words a between)
    (c : Comes (f a) between b later) → h.steps ≤ j → c.steps ≤ k → (bind-comes {f = f} h c).steps ≤ j + k
unfolding bind-comes
bind-few f h c le lc = omega (arith, le, lc)

pub bind-ends-few : {A B : Type 0} {m : Part A} (f : A → Part B) {words between later : List ℕ} {a : A} {r : Reply} {j k : ℕ}
    (h : Comes m words a between)
    (c : Ends (f a) between r later) → h.steps ≤ j → c.steps ≤ k → (bind-ends {f = f} h c).steps ≤ j + k
unfolding bind-ends
bind-ends-few f h c le lc = omega (arith, le, lc)

pub same-steps : {A : Type 0} {m n : Part A} {words later : List ℕ} {a : A} (e : (again : Rest) (after : A → Rest) (got : List ℕ)
    → m again after got ≡ n again after got) (h : Comes n words a later) → (same-comes {m = m} e h).steps ≡ h.steps
unfolding same-comes
same-steps e h = refl

pub same-ends-steps : {A : Type 0} {m n : Part A} {words later : List ℕ} {r : Reply} (e : (again : Rest) (after : A → Rest) (got : List ℕ)
    → m again after got ≡ n again after got) (h : Ends n words r later) → (same-ends {m = m} e h).steps ≡ h.steps
unfolding same-ends
same-ends-steps e h = refl

-- a part makes as few accesses as was shown in another way
pub as-few : {A : Type 0} {m : Part A} {words later later2 : List ℕ} {a a2 : A} {n : ℕ} (h : Comes m words a later)
    (k : Comes m words a2 later2)
    → k.steps ≤ n → h.steps ≤ n
as-few h k le = let e = steps-once h k in omega (arith, e, le)

pub lock-few : (s : Shape) (base : ℕ) (words : List ℕ) (e : is_locked (slice_index words base) ≡ false)
    → (lock-comes s base words e).steps ≤ 2
lock-few s base words e = let two = lock-steps s base words e in omega (arith, two)

pub wait-few : (base : ℕ) (words : List ℕ) (e : is_locked (slice_index words base) ≡ false)
    (f : is_obsolete (slice_index words base) ≡ false)
    → (wait-comes base words e f).steps ≤ 1
wait-few base words e f = let one = wait-steps base words e f in omega (arith, one)

-- a row whose version was kept, and which is not locked
pub take_row-few : (c : Setting) (held : List Row) (n : Row) (words : List ℕ) → slice_index words n.base ≡ n.kept → is_locked n.kept ≡ false
    → {v : Row} {later : List ℕ} (h : Comes (take_row c held n) words v later) → h.steps ≤ 2 + length held
unfolding take_row
take_row-few c held n words e free h = go (takes_unchecked c.variant) h
  where
    go : (b : Bool) → {v : Row} {later : List ℕ} (h : Comes (if b then (lock c.shape n.base >>= λ v. give (record n { kept = v }))
        else (first_at (lock_point c.shape n.base) (exchange n.base n.kept (locked_word n.kept)) >>=
        λ was. if was == n.kept then give n else (unlock_all held >> start_again))) words v later) → h.steps ≤ 2 + length held
    go true h =
        let unlocked = ap is_locked e ∙ free in
        let locks = lock-comes c.shape n.base words unlocked in
        let gives = give-comes (record n { kept = slice_index words n.base }) (with_lock words n.base) in
        let le = as-few h (bind-comes {f = λ v. give (record n { kept = v })} locks gives)
        (bind-few (λ v. give (record n { kept = v })) locks gives (lock-few c.shape n.base words unlocked)
        (short-comes (give-short _) gives)) in
        omega (arith, le)
    go false h = let le = short-comes (exchange_row-short (lock_point c.shape n.base) held n (locked_word n.kept)) h in omega (arith, le)

-- ---- finding

load_child-short : (c : Setting) (slot : ℕ) → Short 1 (load_child c slot)
unfolding load_child
load_child-short c slot = bind-short (load-short slot) (λ w. give-short _)

find_child-short : (c : Setting) (slot : ℕ) → Short 1 (find_child c slot)
unfolding find_child
find_child-short c slot = bind-short (load_at-short _ slot) (λ w. give-short _)

find_among-short : (c : Setting) (n : Row) (keys : List ℕ) (o : Option ℕ) → Short 1 (find_among c n keys o)
unfolding find_among
find_among-short c n keys None = short-more 1 (give-short _) (omega arith)
find_among-short c n keys (Some i) = find_child-short c _

find_indexed-short : (c : Setting) (n : Row) (entries : List ℕ) (e : ℕ) → Short 2 (find_indexed c n entries e)
unfolding find_indexed
find_indexed-short c n entries e =
    if-short (e == 0) (if-short (is_insert c.call) (bind-short (load-short _) (λ count. give-short _)) (give-short _))
    (find_child-short c _)

find_in-short : (kind : Kind) (c : Setting) (n : Row) (x : ℕ) → Short 4 (find_in kind c n x)
unfolding find_in
find_in-short Four c n x = short-more 4 (bind-short (load-short _) (λ keys. find_among-short c n _ _)) (omega arith)
find_in-short Sixteen c n x =
    bind-short (load-short _) (λ count. bind-short (load-short _) (λ first. bind-short (load-short _) (λ second. find_among-short c n _ _)))
find_in-short FortyEight c n x = short-more 4 (bind-short (load-short _) (λ w. find_indexed-short c n _ _)) (omega arith)
find_in-short Full c n x = short-more 4 (bind-short (load-short _) (λ w. give-short _)) (omega arith)

pub find-short : (c : Setting) (n : Row) → Short 4 (find c n)
unfolding find
find-short c n = find_in-short n.kind c n _

-- ---- what is written

pair-short : (c : Setting) (held : List Row) (d : ℕ) (a b : Under) → Short (5 + length held) (pair c held d a b)
unfolding pair
pair-short c held d a b =
    short-more (5 + length held) (bind-short (claim-short c held Four) (λ base. then-short (store-short _ _) (then-short (store-short _ _)
    (then-short (store-short _ _) (then-short (store-short _ _) (give-short _)))))) (omega arith)

pub pair_in-short : (c : Setting) (held : List Row) (slot d : ℕ) (old : Under) → Short (6 + length held) (pair_in c held slot d old)
unfolding pair_in
pair_in-short c held slot d old = short-more (6 + length held) (bind-short (pair-short c held d old _) (λ word. store-short slot
    word)) (omega arith)

copy_child-short : (c : Setting) (from to : ℕ) → Short 2 (copy_child c from to)
unfolding copy_child
copy_child-short c from to = bind-short (load_child-short c from) (λ child. store-short _ _)

make_room-short : (c : Setting) (n : Row) (i count : ℕ) → Short (2 * count) (make_room c n i count)
unfolding make_room
make_room-short c n i count =
    let e = total-down 2 i (count - i) in
    let f = times-two (count - i) in
    short-more (2 * count) (each-short _ (λ j. copy_child-short c _ _) (numbers_down i (count - i))) (omega (arith, e, f))

put_in-short : (kind : Kind) (c : Setting) (n : Row) (x : ℕ) (keys : List ℕ) (count : ℕ) → count ≤ capacity kind
    → Short 40 (put_in kind c n x keys count)
unfolding put_in
put_in-short Four c n x keys count le =
    short-more 40 (then-short (make_room-short c n _ count) (then-short (store-short _ _) (store-short _ _))) (omega (arith, le))
put_in-short Sixteen c n x keys count le =
    short-more 40 (then-short (make_room-short c n _ count) (then-short (store-short _ _) (then-short (store-short _ _)
    (then-short (store-short _ _)
    (store-short _ _))))) (omega (arith, le))
put_in-short FortyEight c n x keys count le =
    short-more 40 (then-short (store-short _ _) (then-short (store-short _ _) (store-short _ _))) (omega arith)
put_in-short Full c n x keys count le = short-more 40 (give-short tt) (omega arith)

pub put-short : (c : Setting) (n : Row) (keys : List ℕ) (count : ℕ) → count ≤ capacity n.kind → Short 40 (put c n keys count)
unfolding put
put-short c n keys count le = put_in-short n.kind c n _ keys count le

store_index-short : (base : ℕ) (keys : List ℕ) (j : ℕ) → Short 1 (store_index base keys j)
unfolding store_index
store_index-short base keys j = store-short _ _

spread_entry-short : (c : Setting) (n : Row) (base j : ℕ) (entries : List ℕ) (i : ℕ) → Short 2 (spread_entry c n base j entries i)
unfolding spread_entry
spread_entry-short c n base j entries i = if-short (slice_index entries i == 0) (give-short tt) (copy_child-short c _ _)

spread_index-short : (c : Setting) (n : Row) (base j : ℕ) → Short 17 (spread_index c n base j)
unfolding spread_index
spread_index-short c n base j =
    bind-short (load-short _) (λ w. each-short (spread_entry c n base j (entries_of w)) (spread_entry-short c n base j
    (entries_of w)) (numbers 0 8))

fill-short : (kind : Kind) (c : Setting) (n : Row) (base x : ℕ) (keys : List ℕ) (count : ℕ) → count ≤ capacity kind
    → Short 560 (fill kind c n base x keys count)
unfolding fill
fill-short Four c n base x keys count le =
    let e = total-numbers 2 0 count in
    let f = times-two count in
    short-more 560 (then-short (each-short _ (λ i. copy_child-short c _ _) (numbers 0 count)) (then-short (store-short _ _)
    (then-short (store-short _ _)
    (then-short (store-short _ _) (store-short _ _))))) (omega (arith, e, f, le))
fill-short Sixteen c n base x keys count le =
    let e = total-numbers 2 0 count in
    let f = times-two count in
    short-more 560 (then-short (each-short _ (λ i. copy_child-short c _ _) (numbers 0 count)) (then-short (store-short _ _)
    (then-short (each-short (store_index base (keys ++ x ∷ [])) (store_index-short base (keys ++ x ∷ [])) (numbers 0 32))
    (store-short _ _))))
    (omega (arith, e, f, le))
fill-short FortyEight c n base x keys count le =
    short-more 560 (then-short (each-short (spread_index c n base) (spread_index-short c n base) (numbers 0 32))
    (store-short _ _)) (omega arith)
fill-short Full c n base x keys count le = short-more 560 (give-short tt) (omega arith)

-- a row of the next kind, where one row is held above
pub grow-short : (c : Setting) (p : Row) (slot : ℕ) (n : Row) (keys : List ℕ) (count : ℕ) → count ≤ capacity n.kind
    → Short 600 (grow c (p ∷ []) slot n keys count)
unfolding grow
grow-short c p slot n keys count le =
    short-more 600 (bind-short (claim-short c (n ∷ p ∷ []) _) (λ base. then-short (store-short _ _)
    (then-short (fill-short n.kind c n base _ keys count le)
    (then-short (store-short _ _) (then-short (unlock_obsolete-short n) (unlock_all-short (p ∷ []))))))) (omega arith)
