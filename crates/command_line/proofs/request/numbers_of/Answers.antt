use Rattle.command_line.proofs.Common.{length, map, take, Ok, refl, sym, subst, ap, ap₂, List, [], ◌∷◌, ◌++◌, ℕ, ◌+◌, ◌<◌, ◌≡◌, ◌∙◌, Bor, All}
use Rattle.command_line.proofs.Common.{slice_index_or, Result, get_or-map, map_more, length-map, Ok-from_Ok_iff, OkIff-at_ok, texts, Text, IsNumber}
use Rattle.command_line.proofs.Common.{number_of}
use Rattle.std.specs.Result.{IsOk}
use Rattle.std.specs.Str.Parse.{ParsesUnsigned}
use Rattle.command_line.proofs.request.numbers_of.Goals as goal

module _ {E : Type 0} (words : List (Bor Text)) (i : ℕ) (d : Bor Text) (r : Result ℕ E)
    (inside : i < length words) (numbers : All IsNumber (texts words))
    (parsed : ParsesUnsigned 32 10 (slice_index_or words i d).now r) where
  inside_texts : i < length (texts words)
  inside_texts = rw length-map inside

  text_at : slice_index_or (texts words) i [] ≡ (slice_index_or words i d).now
  text_at = get_or-map (λ (s : Bor Text). s.now) words i d [] inside

  -- a text that spells a number is parsed
  parses : IsOk r
  parses = rw (Ok-from_Ok_iff r _ _ parsed (subst IsNumber text_at (numbers i [] inside_texts))) refl

  -- its number is the next of those that the texts spell
  next_number : (ns : List ℕ) (n : ℕ) → ns ≡ map number_of (take i (texts words)) → r ≡ Ok n
      → ns ++ n ∷ [] ≡ map number_of (take (i + 1) (texts words))
  next_number ns n so_far read =
      let n_is : n ≡ number_of (slice_index_or (texts words) i []) = (OkIff-at_ok r _ _ n parsed read).1 ∙ ap number_of (sym text_at) in
      ap₂ (λ (ks : List ℕ) (k : ℕ). ks ++ k ∷ []) so_far n_is ∙ sym (map_more number_of (texts words) i [] inside_texts)

-- what the code has where no word stands
abbrev no_word : Bor Text
no_word = record { ref_ptr = (0, 0); now = [] }

pub unwrap-requires : goal.unwrap-requires
unwrap-requires c =
    parses c.args.words.now c.loop-word.word-index no_word c.parse.result c.loop-word-test.true c.requires c.parse.ensures.value.0

pub loop-word-preserved : goal.loop-word-preserved
loop-word-preserved c =
    let next = next_number c.args.words.now c.loop-word.word-index no_word c.parse.result c.loop-word-test.true c.requires
    c.parse.ensures.value.0
    c.loop-word.numbers.items c.unwrap.result c.loop-word.invariant c.unwrap.ensures in
    c.in_ok-push.ensures.items ∙ next
