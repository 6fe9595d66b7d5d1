-- A scan that has read a word of a row that it holds goes on to a stage where it has not waited yet.
use Rattle.art_schedules.proofs.Common.{◌≡◌, ℕ, zero, suc, ◌+◌, List, [], ◌∷◌, refl, Bool, true, false, filter, Option, Some, None, Scan, Shape}
use Rattle.art_schedules.proofs.Common.{Kind, Four, Sixteen, FortyEight, Full, Child, Empty, ChildRow, Leaf, root_base, child_at, child_of}
use Rattle.art_schedules.proofs.Common.{Coupled, Setting, bytes_of, with_leaf, HeldRow, Frame, Entry, ScanStep, FirstKeys, SecondKeys, Index}
use Rattle.art_schedules.proofs.Common.{LoadChild, Release, row_at, held, setting, keys_one, Walk, ScanAt, at, on_way, frame_of, in_word}
use Rattle.art_schedules.proofs.Common.{release_rows, slot_at, bytes_at, index_at_list, words_at, child_from, frame_at, way_at, resume_at}
use Rattle.art_schedules.proofs.Common.{with_frame, with_held, visit_list, visit_at, entry_at, child_after, keys_after_word, step_after, keys16}
use Rattle.art_schedules.proofs.Common.{walked, unwaited}
use Rattle.std.proofs.Common.{if◌then◌else◌}
use Rattle.art_control_states.specs.declared.stage.Entry.TheVariants.{Root, Below}
use Rattle.art_control_states.specs.declared.stage.ScanStep.TheVariants.{Lock, Exchange, Wait, Info, Keys, Over}
use Rattle.art_control_states.specs.Scans.{row_begins}

-- the scan has not waited, or begun to take a row
abbrev pub IsPlainStep : ScanStep → Type 0
IsPlainStep (Lock entry true) = Unit {0}
IsPlainStep (Lock entry false) = ⊥
IsPlainStep (Exchange entry v) = ⊥
IsPlainStep step = Unit {0}

-- a stage at which a word of a row is read that the scan holds
abbrev pub IsRead : ScanStep → Type 0
IsRead (Lock entry first) = ⊥
IsRead (Exchange entry v) = ⊥
IsRead (Wait entry) = ⊥
IsRead (Release n) = ⊥
IsRead Over = ⊥
IsRead step = Unit {0}

abbrev pub IsPlain : ScanAt → Type 0
IsPlain x = IsPlainStep x.step

pub plain-unwaited : (x : ScanAt) → IsPlain x → unwaited x ≡ x
plain-unwaited x k = go x.step k
  where
    go : (step : ScanStep) → IsPlainStep step → unwaited (at step x.walk) ≡ at step x.walk
    go (Lock entry true) k = refl
    go (Lock entry false) k = absurd k
    go (Exchange entry v) k = absurd k
    go (Wait entry) k = refl
    go (Info base kind kept) k = refl
    go (Keys n) k = refl
    go (FirstKeys n count) k = refl
    go (SecondKeys n count first) k = refl
    go (Index n j m) k = refl
    go (LoadChild f slot) k = refl
    go (Release n) k = refl
    go Over k = refl

module _ (shape : Shape) (low high : ℕ) where
  abbrev c : Setting
  c = setting shape Coupled (Scan low high)

  bytes-plain : (test : ℕ → Bool) (slots : ℕ → Option ℕ) (w : Walk) (f : Frame) (x n : ℕ) (other : ScanAt) → IsPlain other
      → IsPlain (bytes_at test slots (child_from w f) x n other)
  bytes-plain test slots w f x zero other rest = rest
  bytes-plain test slots w f x (suc n) other rest = go (test x) (bytes-plain test slots w f (x + 1) n other rest)
    where
      rest-of : ScanAt
      rest-of = bytes_at test slots (child_from w f) (x + 1) n other

      slot-plain : (o : Option ℕ) → IsPlain rest-of → IsPlain (slot_at o (child_from w f (x + 1) n) rest-of)
      slot-plain None later = later
      slot-plain (Some slot) later = tt

      go : (b : Bool) → IsPlain rest-of → IsPlain (if b then slot_at (slots x) (child_from w f (x + 1) n) rest-of else rest-of)
      go true later = slot-plain (slots x) later
      go false later = later

  words-plain : (r : HeldRow) (w : Walk) (j m : ℕ) (other : ScanAt) → IsPlain other → IsPlain (words_at low high r w j m other)
  words-plain r w j zero other rest = rest
  words-plain r w j (suc m) other rest = go (filter (in_word j) (bytes_of low high (row_at r))) (words-plain r w (j + 1) m other rest)
    where
      go : (xs : List ℕ) → IsPlain (words_at low high r w (j + 1) m other)
          → IsPlain (index_at_list r w j m xs (words_at low high r w (j + 1) m other))
      go [] later = later
      go (x ∷ xs) later = tt

  frame-plain : (kind : Kind) (w : Walk) (f : Frame) (other : ScanAt) → IsPlain other → IsPlain (frame_at kind low high w f other)
  frame-plain Four w f other rest = bytes-plain _ _ w f f.byte f.left other rest
  frame-plain Sixteen w f other rest = bytes-plain _ _ w f f.byte f.left other rest
  frame-plain FortyEight w f other rest = bytes-plain _ _ w f f.byte f.left (words_at low high f.row w (f.index + 1) f.words other)
      (words-plain f.row w (f.index + 1) f.words other rest)
  frame-plain Full w f other rest = bytes-plain _ (λ x. Some (child_at Full f.row.base x)) w f f.byte f.left other rest

  pub released : (hs : List HeldRow) (pairs : List (ℕ × ℕ)) → IsPlain (release_rows hs pairs)
  released [] pairs = tt
  released (x ∷ hs) pairs = tt

  way-plain : (w : Walk) (fs : List Frame) → IsPlain (way_at c low high w fs)
  way-plain w [] = released w.rows w.pairs
  way-plain w (f ∷ fs) = frame-plain f.row.kind (on_way w fs) f (way_at c low high w fs) (way-plain w fs)

  resumed : (w : Walk) → IsPlain (resume_at c low high w)
  resumed w = way-plain w w.way

  begins : (kind : Kind) (r : HeldRow) (w : Walk) → IsPlain (row_begins kind c low high r w)
  begins Four r w = tt
  begins Sixteen r w = tt
  begins FortyEight r w = words-plain r w 0 32 (resume_at c low high w) (resumed w)
  begins Full r w = frame-plain Full w (frame_of r (keys_one 0) 0 0) (resume_at c low high w) (resumed w)

  listed : (r : HeldRow) (w : Walk) (xs : List ℕ) → IsPlain (visit_list c low high r w xs)
  listed r w [] = resumed w
  listed r w (x ∷ xs) = begins r.kind r w

  visited : (r : HeldRow) (w : Walk) → IsPlain (visit_at c low high r w)
  visited r w = listed r (with_held r w) (bytes_of low high (row_at r))

  pub entered : (entry : Entry) (w : Walk) (v : ℕ) → IsPlain (entry_at c low high entry w v)
  entered Root w v = visited (held (root_base shape) Full 3 v) w
  entered (Below base kind) w v = tt

  child-plain : (w : Walk) (child : Child) → IsPlain (child_after c low high w child)
  child-plain w Empty = resumed w
  child-plain w (Leaf key value) = resumed (record { rows = w.rows; pairs = (with_leaf low high key value (walked w)).pairs; way = w.way })
  child-plain w (ChildRow base kind) = tt

  keys-plain : (kind : Kind) (r : HeldRow) (w : Walk) (word : ℕ) → IsPlain (keys_after_word kind c low high r w word)
  keys-plain Four r w word = resumed (with_frame w (frame_of r (keys_one word) 0 0))
  keys-plain Sixteen r w word = tt
  keys-plain FortyEight r w word = resumed (with_frame w (frame_of r (keys_one word) 0 0))
  keys-plain Full r w word = resumed (with_frame w (frame_of r (keys_one word) 0 0))

  pub reads-plain : (step : ScanStep) (w : Walk) (word : ℕ) → IsRead step → IsPlain (step_after c low high step w word)
  reads-plain (Info base kind kept) w word k = visited (held base kind word kept) w
  reads-plain (Keys r) w word k = keys-plain r.kind r w word
  reads-plain (FirstKeys r count) w word k = tt
  reads-plain (SecondKeys r count first) w word k = resumed (with_frame w (frame_of r (keys16 count first word) 0 0))
  reads-plain (Index r j m) w word k = resumed (with_frame w (frame_of r (keys_one word) j m))
  reads-plain (LoadChild f slot) w word k = child-plain (with_frame w f) (child_of shape word)
  reads-plain step w word k = absurd k
