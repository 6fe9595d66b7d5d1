-- What is asked for by a table fits a subcommand of it.
use Rattle.command_line.proofs.Common.{◌≡◌, ◌∙◌, ℕ, suc, Bool, true, false, cond, refl, sym, ap, subst, arith, slice_index, List, [], ◌∷◌, Option}
use Rattle.command_line.proofs.Common.{Some, bytes_eq, same_Some, Text, AreCallsOf, AreFlagsOf, AreNumbersOf, AreWithinFrom, Asked, Asks, Fits}
use Rattle.command_line.proofs.Common.{IsAskable, IsRequestOf, asked_of, flags_of, numbers_from, Flag, Usage, usage_named}
use Rattle.clap.specs.Words.{Row}
use Rattle.command_line.specs.declared.asked.Request.{Request}
use Rattle.command_line.proofs.TableLemmas.{same_swapped}

-- the numbers from the next place on are those of the rest
numbers_next : (i : ℕ) (fs : List Flag) (n : ℕ) (ns : List ℕ) → numbers_from (suc i) fs (n ∷ ns) ≡ numbers_from i fs ns
numbers_next i [] n ns = refl
numbers_next i (f ∷ fs) n ns = ap (λ (ms : List ℕ). slice_index ns i ∷ ms) (numbers_next (suc i) fs n ns)

within_next : (i : ℕ) (fs : List Flag) (n : ℕ) (ns : List ℕ) → AreWithinFrom i fs ns → AreWithinFrom (suc i) fs (n ∷ ns)
within_next i [] n ns within = tt
within_next i (f ∷ fs) n ns within = (omega arith, within.1, within.2, within_next (suc i) fs n ns within.3)

-- the numbers of options are all that there are, and within their limits
numbers_fit : (fs : List Flag) (value : Text → Option Text) (ns : List ℕ) → AreNumbersOf fs value ns → (ns ≡ numbers_from 0 fs ns)
    × AreWithinFrom 0 fs ns
numbers_fit [] value [] are = (refl, tt)
numbers_fit [] value (n ∷ ns) are = absurd are
numbers_fit (f ∷ fs) value [] are = absurd are
numbers_fit (f ∷ fs) value (n ∷ ns) are =
    let rest = numbers_fit fs value ns are.1 in (
      ap (λ (ms : List ℕ). n ∷ ms) (rest.0 ∙ sym (numbers_next 0 fs n ns)),
      (omega arith, are.0.least, are.0.greatest, within_next 0 fs n ns rest.1),
    )

-- there are no calls where none are taken
calls_fit : (takes_calls : Bool) (texts : List Text) (calls : List ℕ) → AreCallsOf takes_calls texts calls
    → takes_calls ≡ false → calls ≡ []
calls_fit true texts calls are none = cc
calls_fit false texts calls are none = are

-- so what is asked for fits the first subcommand of its name
fits_first : (table : List Usage) (u : Usage) (asked : Asked) → usage_named asked.name table ≡ Some u → Fits u asked → IsAskable table asked
fits_first [] u asked named fits = cc
fits_first (v ∷ vs) u asked named fits = (
  λ is. here (bytes_eq v.name asked.name) (same_swapped v.name asked.name ∙ is) named,
  λ is. there (bytes_eq v.name asked.name) (same_swapped v.name asked.name ∙ is) named (λ later. fits_first vs u asked later fits),
)
  where
    here : (b : Bool) → b ≡ true → cond b (Some v) (usage_named asked.name vs) ≡ Some u → Fits v asked
    here true is found = subst (λ (w : Usage). Fits w asked) (sym (same_Some v u found)) fits
    here false is found = cc

    there : (b : Bool) → b ≡ false → cond b (Some v) (usage_named asked.name vs) ≡ Some u
        → (usage_named asked.name vs ≡ Some u → IsAskable vs asked)
        → IsAskable vs asked
    there false is found later = later found
    there true is found later = cc

-- the options of the first subcommand of a name are those of one that is found by it
pub described : (table : List Usage) (u : Usage) (name : Text) → usage_named name table ≡ Some u → AreFlagsOf table name u.flags
described [] u name named = cc
described (v ∷ vs) u name named = (
  λ is. here (bytes_eq v.name name) (same_swapped v.name name ∙ is) named,
  λ is. there (bytes_eq v.name name) (same_swapped v.name name ∙ is) named (described vs u name),
)
  where
    here : (b : Bool) → b ≡ true → cond b (Some v) (usage_named name vs) ≡ Some u → u.flags ≡ v.flags
    here true is found = ap (λ (w : Usage). w.flags) (sym (same_Some v u found))
    here false is found = cc

    there : (b : Bool) → b ≡ false → cond b (Some v) (usage_named name vs) ≡ Some u
        → (usage_named name vs ≡ Some u → AreFlagsOf vs name u.flags)
        → AreFlagsOf vs name u.flags
    there false is found later = later found
    there true is found later = cc

pub askable : (table : List Usage) (met : Option (Text × List Row)) (asked : Asked) → Asks table met asked → IsAskable table asked
askable table met asked asks =
    let numbers = numbers_fit asks.usage.flags _ asked.numbers asks.numbers in
    fits_first table asks.usage asked asks.named (record {
      all = numbers.0;
      within = numbers.1;
      no_calls = calls_fit asks.usage.takes_calls _ asked.calls asks.calls;
    })

-- so a request of the name of a subcommand is of it
pub is_of : (table : List Usage) (u : Usage) (r : Request) → r.subcommand.now.name.now ≡ u.name → usage_named u.name table ≡ Some u
    → IsAskable table (asked_of r) → AreFlagsOf table r.subcommand.now.name.now (flags_of r) → IsRequestOf u r
is_of [] u r name named askable described = cc
is_of (v ∷ vs) u r name named askable described = go (bytes_eq v.name u.name) refl named (λ later differ. is_of vs u r name later
    (askable.1 differ) (described.1 differ))
  where
    same : bytes_eq r.subcommand.now.name.now v.name ≡ bytes_eq v.name u.name
    same = same_swapped r.subcommand.now.name.now v.name ∙ ap (bytes_eq v.name) name

    go : (b : Bool) → bytes_eq v.name u.name ≡ b → cond b (Some v) (usage_named u.name vs) ≡ Some u
        → (usage_named u.name vs ≡ Some u → bytes_eq r.subcommand.now.name.now v.name ≡ false → IsRequestOf u r) → IsRequestOf u r
    go true is found later =
        let found_is = same_Some v u found in
        record {
          name = name;
          flags = described.0 (same ∙ is) ∙ ap (λ (w : Usage). w.flags) found_is;
          fits = subst (λ (w : Usage). Fits w (asked_of r)) found_is (askable.0 (same ∙ is));
        }
    go false is found later = later found (same ∙ is)
