-- What finding, locking and claiming rows does where a call runs alone.
use Rattle.art_schedules.proofs.Common.{◌≡◌, ℕ, ◌+◌, ◌%◌, ◌^◌, List, [], ◌∷◌, refl, ap, subst, Bool, true, false, ◌∙◌, eq-eqb, slice_set, nat_lt}
use Rattle.art_schedules.specs.alone.Alone.{Ends}
use Rattle.art_schedules.proofs.Common.{Shape, Kind, rows_of, claims_of, base_of, is_locked, is_obsolete, locked_word, released_word, obsolete_word}
use Rattle.art_schedules.proofs.Common.{Part, ◌>>=◌, ◌>>◌, give, start_again, answer, exchange, first_at, Setting, leaves_out_check}
use Rattle.art_schedules.proofs.Common.{takes_unchecked, lock_point, lock, unlock, unlock_obsolete, unlock_all, wait, check, check_of, take_row}
use Rattle.art_schedules.proofs.Common.{claim, Comes, unlocked_rows}
use Rattle.std.specs.Prelude.{slice_index, if◌then◌else◌, ◌==◌}
use Rattle.events.specs.declared.event.Reply.TheVariants as reply
use Rattle.art_rows.specs.declared.access.Point.TheVariants as point
use Rattle.art_rows.specs.Rows.{lock_again, Row}
use Rattle.art_rows.proofs.GuardLemmas.{lock_turn, lock_again-body, wait_turn, wait-body}
use Rattle.art_schedules.proofs.alone.AloneLemmas.{give-comes, answer-ends, bind-comes, bind-ends, then-ends, if_true-comes, if_false-comes}
use Rattle.art_schedules.proofs.alone.AloneLemmas.{if_false-ends, same-comes, load-comes, load_at-comes, store_at-comes, exchange-comes, add-comes}
use Rattle.art_schedules.proofs.alone.AloneLemmas.{first_at-comes, each_none-comes, each-comes}

-- ---- locks

-- the words with the row at this base locked, which was not locked
abbrev pub with_lock : List ℕ → ℕ → List ℕ
with_lock words base = slice_set words base (locked_word (slice_index words base))

unfoldable pub lock_again-comes : (base : ℕ) (words : List ℕ) → is_locked (slice_index words base) ≡ false
    → Comes (lock_again base) words (slice_index words base) (with_lock words base)
unfolding lock_turn
lock_again-comes base words e =
    let v = slice_index words base in
    same-comes (lock_again-body base) (bind-comes {f = λ v. if is_locked v then lock_again base
    else (exchange base v (locked_word v) >>= λ was. if was == v then give v else lock_again base)} (load-comes base words)
    (if_false-comes (lock_again base) e (bind-comes {f = λ was. if was == v then give v else lock_again base}
    (exchange-comes base v (locked_word v) words refl)
    (if_true-comes (lock_again base) (eq-eqb v v refl) (give-comes v (with_lock words base))))))

unfoldable pub lock-comes : (s : Shape) (base : ℕ) (words : List ℕ) → is_locked (slice_index words base) ≡ false
    → Comes (lock s base) words (slice_index words base) (with_lock words base)
unfolding lock
lock-comes s base words e = first_at-comes (lock_point s base) (lock_again-comes base words e)

-- a load and an exchange
pub lock-steps : (s : Shape) (base : ℕ) (words : List ℕ) (e : is_locked (slice_index words base) ≡ false)
    → (lock-comes s base words e).steps ≡ 2
unfolding lock-comes lock_again-comes first_at-comes same-comes bind-comes if_true-comes if_false-comes load-comes exchange-comes give-comes
lock-steps s base words e = refl

pub unlock-comes : (n : Row) (words : List ℕ) → Comes (unlock n) words tt (slice_set words n.base (released_word n.kept))
unfolding unlock
unlock-comes n words = store_at-comes point.Unlock n.base (released_word n.kept) words

pub unlock_obsolete-comes : (n : Row) (words : List ℕ) → Comes (unlock_obsolete n) words tt (slice_set words n.base (obsolete_word n.kept))
unfolding unlock_obsolete
unlock_obsolete-comes n words = store_at-comes point.Unlock n.base (obsolete_word n.kept) words

pub unlock_all-comes : (rows : List Row) (words : List ℕ) → Comes (unlock_all rows) words tt (unlocked_rows rows words)
unfolding unlock_all
unlock_all-comes [] words = each_none-comes unlock words
unlock_all-comes (n ∷ rows) words =
    each-comes n rows unlock (unlock-comes n words) (unlock_all-comes rows (slice_set words n.base (released_word n.kept)))

-- ---- versions

unfoldable pub wait-comes : (base : ℕ) (words : List ℕ) → is_locked (slice_index words base) ≡ false
    → is_obsolete (slice_index words base) ≡ false
    → Comes (wait base) words (slice_index words base) words
unfolding wait_turn
wait-comes base words e f =
    same-comes (wait-body base) (bind-comes {f = λ v. if is_locked v then wait base else (if is_obsolete v then start_again else give v)}
    (load-comes base words)
    (if_false-comes (wait base) e (if_false-comes start_again f (give-comes (slice_index words base) words))))

-- a load
pub wait-steps : (base : ℕ) (words : List ℕ) (e : is_locked (slice_index words base) ≡ false)
    (f : is_obsolete (slice_index words base) ≡ false)
    → (wait-comes base words e f).steps ≡ 1
unfolding wait-comes same-comes bind-comes if_false-comes load-comes give-comes
wait-steps base words e f = refl

pub check-comes : (n : Row) (words : List ℕ) → slice_index words n.base ≡ n.kept → Comes (check n) words tt words
unfolding check
check-comes n words e =
    bind-comes {f = λ v. if v == n.kept then give tt else start_again} (load_at-comes point.Check n.base words)
    (if_true-comes start_again (eq-eqb (slice_index words n.base) n.kept e) (give-comes tt words))

pub check_of-comes : (c : Setting) (n : Row) (words : List ℕ) → slice_index words n.base ≡ n.kept → Comes (check_of c n) words tt words
unfolding check_of
check_of-comes c n words e = go (leaves_out_check c.variant c.call)
  where
    go : (b : Bool) → Comes (if b then give tt else check n) words tt words
    go true = give-comes tt words
    go false = check-comes n words e

-- a row whose version was kept, and which is not locked, is taken
pub take_row-comes : (c : Setting) (held : List Row) (n : Row) (words : List ℕ) → slice_index words n.base ≡ n.kept
    → is_locked n.kept ≡ false
    → Comes (take_row c held n) words n (slice_set words n.base (locked_word n.kept))
unfolding take_row
take_row-comes c held n words e free = go (takes_unchecked c.variant)
  where
    unchecked : Part Row
    unchecked = lock c.shape n.base >>= λ v. give (record n { kept = v })

    checked : Part Row
    checked = first_at (lock_point c.shape n.base) (exchange n.base n.kept (locked_word n.kept)) >>=
        λ was. if was == n.kept then give n else (unlock_all held >> start_again)

    locked : Comes (lock c.shape n.base) words n.kept (slice_set words n.base (locked_word n.kept))
    locked = subst (λ (v : ℕ). Comes (lock c.shape n.base) words v (slice_set words n.base (locked_word v))) e
        (lock-comes c.shape n.base words (ap is_locked e ∙ free))

    taken : Comes checked words n (slice_set words n.base (locked_word n.kept))
    taken = bind-comes {f = λ was. if was == n.kept then give n else (unlock_all held >> start_again)}
        (first_at-comes (lock_point c.shape n.base) (exchange-comes n.base n.kept (locked_word n.kept) words e))
        (if_true-comes (unlock_all held >> start_again) (eq-eqb n.kept n.kept refl)
        (give-comes n (slice_set words n.base (locked_word n.kept))))

    go : (b : Bool) → Comes (if b then unchecked else checked) words n (slice_set words n.base (locked_word n.kept))
    go true = bind-comes {f = λ v. give (record n { kept = v })} locked (give-comes n (slice_set words n.base (locked_word n.kept)))
    go false = taken

-- ---- claims

-- the words with one more claim made of the kind
abbrev pub with_claim : List ℕ → Kind → List ℕ
with_claim words kind = slice_set words (claims_of kind) ((slice_index words (claims_of kind) + 1) % 2 ^ 64)

-- a claim below the capacity gives the row of its number;
pub claim-comes : (c : Setting) (held : List Row) (kind : Kind) (words : List ℕ)
    → nat_lt (slice_index words (claims_of kind)) (rows_of c.shape kind) ≡ true
    → Comes (claim c held kind) words (base_of c.shape kind (slice_index words (claims_of kind))) (with_claim words kind)
unfolding claim
claim-comes c held kind words e =
    bind-comes {f = λ number. if nat_lt number (rows_of c.shape kind) then give (base_of c.shape kind number) else (unlock_all held >>
    answer reply.Refused)}
    (add-comes (claims_of kind) words) (if_true-comes (unlock_all held >> answer reply.Refused) e (give-comes _ _))

-- if there is none, the held rows are unlocked and the call is refused.
pub claim-ends : (c : Setting) (held : List Row) (kind : Kind) (words : List ℕ)
    → nat_lt (slice_index words (claims_of kind)) (rows_of c.shape kind) ≡ false
    → Ends (claim c held kind) words reply.Refused (unlocked_rows held (with_claim words kind))
unfolding claim
claim-ends c held kind words e =
    bind-ends {f = λ number. if nat_lt number (rows_of c.shape kind) then give (base_of c.shape kind number) else (unlock_all held >>
    answer reply.Refused)}
    (add-comes (claims_of kind) words)
    (if_false-ends (give (base_of c.shape kind (slice_index words (claims_of kind)))) e
    (then-ends {n = answer reply.Refused} (unlock_all-comes held (with_claim words kind)) (answer-ends reply.Refused _)))
