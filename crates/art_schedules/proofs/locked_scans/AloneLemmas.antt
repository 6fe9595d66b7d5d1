-- A scan on its own, compared with one that gets the same words.
use Rattle.art_schedules.proofs.Common.{List, Option, ap, false, length, length-set, refl, set-get_or, subst, sym, ℕ, ◌∙◌, ◌≡◌}
use Rattle.art_schedules.proofs.versions.ChangeLemmas.{index-other}
use Rattle.art_schedules.proofs.Common.{Access, Swap, Point, Asks, word_of, Setting, HeldRow, CallAt, call_turn, call_after, changed, told, got_by}
use Rattle.art_schedules.proofs.Common.{words_after, IsOfRows, Alone, SameOn}
use Rattle.std.proofs.Common.{◌==◌, slice_index, slice_set, if◌then◌else◌}
use Rattle.art_schedules.specs.coupled.Walks.{here, further}
use Rattle.art_schedules.proofs.coupled.WalkLemmas.{set-word}

-- an exchange that does not find the word leaves the words
pub failed-keeps : (word v to : ℕ) (real : List ℕ) → (slice_index real word == v) ≡ false → words_after (Swap word v to) real ≡ real
failed-keeps word v to real e = ap (λ b. slice_set real word (if b then to else slice_index real word)) e ∙ set-get_or real word 0

module _ (c : Setting) (at0 : CallAt) (w0 : List ℕ) where
  -- a scan that goes alone on some rows does so on more rows
  pub alone-more : (rows more : List HeldRow) → ((word : ℕ) → IsOfRows rows word → IsOfRows more word) → {x : CallAt} {now : List ℕ}
      → Alone c rows at0 w0 x now
      → Alone c more at0 w0 x now
  alone-more rows more within here = here
  alone-more rows more within (further alone a mark asks of) =
      further (alone-more rows more within alone) a mark asks (within (word_of a) of)

  -- other words stay
  pub alone-outside : (rows : List HeldRow) (word : ℕ) → (IsOfRows rows word → ⊥) → {x : CallAt} {now : List ℕ} → Alone c rows at0 w0 x now
      → slice_index now word ≡ slice_index w0 word
  alone-outside rows word out here = refl
  alone-outside rows word out (further {now = before} alone a mark asks of) =
      index-other before (word_of a) (changed a (slice_index before (word_of a))) word (λ e. out (subst (IsOfRows rows) (sym e) of))
      ∙ alone-outside rows word out alone

  -- Alone the call makes the access that it makes on words that are the same on the rows.
  pub follows : (rows : List HeldRow) (real : List ℕ) (a : Access) (mark : Option Point) {x : CallAt} {now : List ℕ}
      → Alone c rows at0 w0 x now
      → length real ≡ length now → SameOn rows now real → call_turn c x ≡ Asks a mark → IsOfRows rows (word_of a)
      → Alone c rows at0 w0 (call_after c x (got_by a real)) (words_after a now) × SameOn rows (words_after a now) (words_after a real)
      × (length (words_after a real) ≡ length (words_after a now))
  follows rows real a mark {x = x} {now = now} alone long same asks of =
      let is : slice_index real (word_of a) ≡ slice_index now (word_of a) = same (word_of a) of in (
        subst (λ w. Alone c rows at0 w0 (call_after c x w) (words_after a now)) (sym (ap (told a) is)) (further alone a mark asks of),
        λ word its. ap (λ v. slice_index (slice_set real (word_of a) (changed a v)) word) is
            ∙ set-word now real (word_of a) (changed a (slice_index now (word_of a))) word long (same word its),
        length-set real (word_of a) (changed a (slice_index real (word_of a)))
            ∙ (long ∙ sym (length-set now (word_of a) (changed a (slice_index now (word_of a))))),
      )
