-- Leaves after an edit in one of them, and after it was split.
use Rattle.packed_map.proofs.Common.{◌≡◌, ℕ, zero, suc, ◌+◌, ◌-◌, ◌<◌, ◌≤◌, Bool, true, false, List, [], ◌∷◌, ◌++◌, length, get_or, take, drop, set}
use Rattle.packed_map.proofs.Common.{Option, Some, refl, sym, ap, ◌∙◌, subst, ⊎_elim, arith, append_assoc, add-one, length-take, All, AllPairs}
use Rattle.packed_map.proofs.Common.{if◌then◌else◌, nat_le, nat_lt, IsTrue, AllWithin, HoldsAt, insert, remove, IsPartitionPoint, IsPartitionedBy}
use Rattle.packed_map.proofs.Common.{cases_lt, le-leb, leb-false, leb-true, ltb-true, get_or_default, flat_map-append, All-append, All-cons, All-head}
use Rattle.packed_map.proofs.Common.{All-nil, All-tail, All-weaker, AllPairs-cons, All-back, All-front, AllPairs-across, AllPairs-append}
use Rattle.packed_map.proofs.Common.{AllPairs-back, AllPairs-front, AllPairs-head, AllPairs-tail, parts_at, IsEdit, KeysRise, entry_if, value_at}
use Rattle.packed_map.proofs.Common.{AreLeaves, IsBefore, IsFromLeast, IsLeafOf, StartsAtZero, entries_of, IsCut, Leaf}
use Rattle.packed_map.proofs.EditLemmas.{edit_all, edit_nothing, edit_rises, edit_same, edit_was}
use Rattle.packed_map.proofs.SearchLemmas.{All-drop_within, set_at}

-- entries of leaves around one
pub entries_around : {V : Type 0} (F : List (Leaf V)) (l : Leaf V) (B : List (Leaf V))
    → entries_of (F ++ l ∷ B) ≡ entries_of F ++ (l.entries.items ++ entries_of B)
entries_around F l B = flat_map-append (λ leaf. leaf.entries.items) F (l ∷ B)

-- what holds of the entries of each leaf holds of them all
pub All-entries : {V : Type 0} (P : ℕ × V → Type 0) (ls : List (Leaf V)) → All (λ l. All P l.entries.items) ls → All P (entries_of ls)
All-entries P [] h = All-nil P
All-entries P (l ∷ ls) h =
    All-append P l.entries.items (entries_of ls) (All-head (λ m. All P m.entries.items) l ls h)
    (All-entries P ls (All-tail (λ m. All P m.entries.items) l ls h))

-- an element between others gives way to another one
AllPairs-changed : {X : Type 0} (R : X → X → Type 0) (F : List X) (x y : X) (B : List X) → AllPairs R (F ++ x ∷ B) → All (λ z. R z y) F
    → All (R y) B → AllPairs R (F ++ y ∷ B)
AllPairs-changed R F x y B h before behind =
    AllPairs-append R F (y ∷ B) (AllPairs-front R F (x ∷ B) h) (AllPairs-cons R y B behind (AllPairs-tail R x B (AllPairs-back R F (x ∷ B) h)))
    (λ k d within. All-cons (R (get_or F k d)) y B (before k d within)
    (All-tail (R (get_or F k d)) x B (AllPairs-across R F (x ∷ B) h k d within)))

starts : {V : Type 0} (F : List (Leaf V)) (l m : Leaf V) (B C : List (Leaf V)) → m.from ≡ l.from → StartsAtZero (F ++ l ∷ B)
    → StartsAtZero (F ++ m ∷ C)
starts [] l m B C same h = same ∙ h
starts (n ∷ F) l m B C same h = h

regroup : {X : Type 0} (a f m b c : List X) → a ++ ((f ++ (m ++ b)) ++ c) ≡ (a ++ f) ++ (m ++ (b ++ c))
regroup a f m b c = simp append_assoc

-- a leaf that a key belongs into, between others
pub record IsAround {V : Type 0} (key : ℕ) (F : List (Leaf V)) (l : Leaf V) (B : List (Leaf V)) : Type 0 where
  pub leaves : AreLeaves (F ++ l ∷ B)
  pub from : l.from ≤ key
  pub later : All (λ n. key < n.from) B

-- the keys of a leaf rise
pub leaf_rises : {V : Type 0} (F : List (Leaf V)) (l : Leaf V) (B : List (Leaf V)) → AreLeaves (F ++ l ∷ B) → KeysRise l.entries.items
leaf_rises {V} F l B are =
    let R : ℕ × V → ℕ × V → Type 0 = λ d f. d.0 < f.0 in
    AllPairs-front R l.entries.items (entries_of B) (AllPairs-back R (entries_of F) (l.entries.items ++ entries_of B)
    (subst (λ es. AllPairs R es) (entries_around F l B) are.rising))

-- the keys of earlier leaves are lower, and those of later ones higher
lower_before : {V : Type 0} (key : ℕ) (F : List (Leaf V)) (l : Leaf V) (B : List (Leaf V)) → IsAround key F l B
    → All (λ e. e.0 < key) (entries_of F)
lower_before {V} key F l B around =
    All-entries (λ e. e.0 < key) F (λ k d within.
    let n = get_or F k d in
    let before : IsBefore n l = All-head (λ m. IsBefore n m) l B (AllPairs-across (λ n m. IsBefore n m) F (l ∷ B) around.leaves.parted k d within) in
    let from = around.from in
    All-weaker (λ e. e.0 < l.from) (λ e. e.0 < key) (λ e less. omega (arith, less, from)) n.entries.items before.1)

higher_behind : {V : Type 0} (key : ℕ) (F : List (Leaf V)) (l : Leaf V) (B : List (Leaf V)) → IsAround key F l B
    → All (λ e. key < e.0) (entries_of B)
higher_behind {V} key F l B around =
    let least : All (λ n. IsFromLeast n) B = All-tail (λ n. IsFromLeast n) l B (All-back (λ n. IsFromLeast n) F (l ∷ B) around.leaves.least) in
    All-entries (λ e. key < e.0) B (λ k d within.
    let n = get_or B k d in
    let above : key < n.from = around.later k d within in
    All-weaker (λ e. n.from ≤ e.0) (λ e. key < e.0) (λ e le. omega (arith, le, above)) n.entries.items (least k d within))

-- an edit in a leaf is one of all entries
pub edit_lifted : {V : Type 0} (key : ℕ) (was is : Option V) (F : List (Leaf V)) (l m : Leaf V) (B : List (Leaf V)) → IsAround key F l B
    → IsEdit key was is l.entries.items m.entries.items → IsEdit key was is (entries_of (F ++ l ∷ B)) (entries_of (F ++ m ∷ B))
edit_lifted key was is F l m B around e = record {
  front = entries_of F ++ e.front;
  back = e.back ++ entries_of B;
  lower = All-append (λ d. d.0 < key) (entries_of F) e.front (lower_before key F l B around) e.lower;
  higher = All-append (λ d. key < d.0) e.back (entries_of B) e.higher (higher_behind key F l B around);
  before = entries_around F l B ∙ ap (λ es. entries_of F ++ (es ++ entries_of B)) e.before
      ∙ regroup (entries_of F) e.front (entry_if key was) e.back (entries_of B);
  after = entries_around F m B ∙ ap (λ es. entries_of F ++ (es ++ entries_of B)) e.after
      ∙ regroup (entries_of F) e.front (entry_if key is) e.back (entries_of B);
}

-- leaves stay leaves after an edit in one
pub leaves_edited : {V : Type 0} (key : ℕ) (was is : Option V) (F : List (Leaf V)) (l m : Leaf V) (B : List (Leaf V)) → IsAround key F l B
    → m.from ≡ l.from → IsEdit key was is l.entries.items m.entries.items → AreLeaves (F ++ m ∷ B)
leaves_edited key was is F l m B around same e =
    let are = around.leaves in
    let from = around.from in
    let own : All (λ n. IsFromLeast n) (l ∷ B) = All-back (λ n. IsFromLeast n) F (l ∷ B) are.least in
    let least : IsFromLeast m = edit_all (λ k. m.from ≤ k) key was is l.entries.items m.entries.items e (omega (arith, same, from))
    (subst (λ (n : ℕ). All (λ d. n ≤ d.0) l.entries.items) (sym same) (All-head (λ n. IsFromLeast n) l B own)) in
    let before : All (λ n. IsBefore n m) F = λ k d within.
    let n = get_or F k d in
    subst (λ (i : ℕ). (n.from ≤ i) × All (λ f. f.0 < i) n.entries.items) (sym same)
    (All-head (λ o. IsBefore n o) l B (AllPairs-across (λ n o. IsBefore n o) F (l ∷ B) are.parted k d within)) in
    let behind : All (λ n. IsBefore m n) B = λ k d within.
    let n = get_or B k d in
    let above : key < n.from = around.later k d within in
    let was_before : IsBefore l n = AllPairs-head (λ n o. IsBefore n o) l B (AllPairs-back (λ n o. IsBefore n o) F (l ∷ B) are.parted) k d within in
    (omega (arith, same, was_before.0), edit_all (λ j. j < n.from) key was is l.entries.items m.entries.items e above was_before.1) in
    record {
      first = starts F l m B B same are.first;
      least = All-append (λ n. IsFromLeast n) F (m ∷ B) (All-front (λ n. IsFromLeast n) F (l ∷ B) are.least)
          (All-cons (λ n. IsFromLeast n) m B least (All-tail (λ n. IsFromLeast n) l B own));
      parted = AllPairs-changed (λ n o. IsBefore n o) F l m B are.parted before behind;
      rising = edit_rises key was is (entries_of (F ++ l ∷ B)) (entries_of (F ++ m ∷ B)) (edit_lifted key was is F l m B around e) are.rising;
    }

-- a cut leaf and the next have the entries of the leaf
pub entries_split : {V : Type 0} (F : List (Leaf V)) (l m n : Leaf V) (B : List (Leaf V)) → l.entries.items ≡ m.entries.items ++ n.entries.items
    → entries_of (F ++ m ∷ n ∷ B) ≡ entries_of (F ++ l ∷ B)
entries_split F l m n B parts =
    entries_around F m (n ∷ B)
    ∙ ap (λ es. entries_of F ++ es) (sym (append_assoc m.entries.items n.entries.items (entries_of B))
    ∙ ap (λ es. es ++ entries_of B) (sym parts))
    ∙ sym (entries_around F l B)

-- the least key of a cut is not below the leaf's, and below those of later leaves
cut_above : {V : Type 0} (key : ℕ) (F : List (Leaf V)) (l : Leaf V) (B : List (Leaf V)) (front back : List (ℕ × V)) (from : ℕ) → IsAround key F l B
    → IsCut key l.entries.items front back from → l.from ≤ from
cut_above key F l B front back from around cut =
    let own : All (λ n. IsFromLeast n) (l ∷ B) = All-back (λ n. IsFromLeast n) F (l ∷ B) around.leaves.least in
    let least : IsFromLeast l = All-head (λ n. IsFromLeast n) l B own in
    let low = around.from in ⊎_elim
    (λ new. omega (arith, new, low))
    (λ one. let (i, e, within, is, at) = one in
    let le : l.from ≤ e.0 = subst (λ (d : ℕ × _). l.from ≤ d.0) is (least i e within) in omega (arith, le, at))
    cut.least

cut_below : {V : Type 0} (key : ℕ) (l n : Leaf V) (front back : List (ℕ × V)) (from : ℕ) → IsBefore l n → key < n.from
    → IsCut key l.entries.items front back from → from < n.from
cut_below key l n front back from before above cut = ⊎_elim
    (λ new. omega (arith, new, above))
    (λ one. let (i, e, within, is, at) = one in
    let less : e.0 < n.from = subst (λ (d : ℕ × _). d.0 < n.from) is (before.1 i e within) in omega (arith, less, at))
    cut.least

pub leaves_split : {V : Type 0} (key : ℕ) (F : List (Leaf V)) (l m n : Leaf V) (B : List (Leaf V)) → IsAround key F l B → m.from ≡ l.from
    → IsCut key l.entries.items m.entries.items n.entries.items n.from → AreLeaves (F ++ m ∷ n ∷ B)
leaves_split {V} key F l m n B around same cut =
    let are = around.leaves in
    let Q : Leaf V → Leaf V → Type 0 = λ o p. IsBefore o p in
    let own : All (λ o. IsFromLeast o) (l ∷ B) = All-back (λ o. IsFromLeast o) F (l ∷ B) are.least in
    let least : IsFromLeast m = subst (λ (i : ℕ). All (λ d. i ≤ d.0) m.entries.items) (sym same) (All-front (λ d. l.from ≤ d.0) m.entries.items n.entries.items
    (subst (λ es. All (λ d. l.from ≤ d.0) es) cut.parts (All-head (λ o. IsFromLeast o) l B own))) in
    let above : l.from ≤ n.from = cut_above key F l B m.entries.items n.entries.items n.from around cut in
    let behind : All (Q l) B = AllPairs-head Q l B (AllPairs-back Q F (l ∷ B) are.parted) in
    let behind_m : All (Q m) B = λ k d within. let old = behind k d within in (
      omega (arith, same, old.0),
      All-front (λ e. e.0 < (get_or B k d).from) m.entries.items n.entries.items
          (subst (λ es. All (λ e. e.0 < (get_or B k d).from) es) cut.parts old.1),
    ) in
    let behind_n : All (Q n) B = λ k d within. let old = behind k d within in
    let below = cut_below key l (get_or B k d) m.entries.items n.entries.items n.from old (around.later k d within) cut in (
      omega (arith, below),
      All-back (λ e. e.0 < (get_or B k d).from) m.entries.items n.entries.items
          (subst (λ es. All (λ e. e.0 < (get_or B k d).from) es) cut.parts old.1),
    ) in
    let later : AllPairs Q B = AllPairs-tail Q l B (AllPairs-back Q F (l ∷ B) are.parted) in
    let between : Q m n = (omega (arith, same, above), cut.before) in
    let across : All (λ o. All (Q o) (m ∷ n ∷ B)) F = λ k d within.
    let o = get_or F k d in
    let old : All (Q o) (l ∷ B) = AllPairs-across Q F (l ∷ B) are.parted k d within in
    let at : IsBefore o l = All-head (Q o) l B old in
    let to_m : Q o m = subst (λ (i : ℕ). (o.from ≤ i) × All (λ f. f.0 < i) o.entries.items) (sym same) at in
    let to_n : Q o n = (omega (arith, at.0, above), All-weaker (λ f. f.0 < l.from) (λ f. f.0 < n.from) (λ f less. omega (arith, less, above)) o.entries.items at.1) in
    All-cons (Q o) m (n ∷ B) to_m (All-cons (Q o) n B to_n (All-tail (Q o) l B old)) in
    record {
      first = starts F l m B (n ∷ B) same are.first;
      least = All-append (λ o. IsFromLeast o) F (m ∷ n ∷ B) (All-front (λ o. IsFromLeast o) F (l ∷ B) are.least)
          (All-cons (λ o. IsFromLeast o) m (n ∷ B) least (All-cons (λ o. IsFromLeast o) n B cut.behind (All-tail (λ o. IsFromLeast o) l B own)));
      parted = AllPairs-append Q F (m ∷ n ∷ B) (AllPairs-front Q F (l ∷ B) are.parted)
          (AllPairs-cons Q m (n ∷ B) (All-cons (Q m) n B between behind_m) (AllPairs-cons Q n B behind_n later)) across;
      rising = subst (λ es. KeysRise es) (sym (entries_split F l m n B cut.parts)) are.rising;
    }

-- an empty leaf that is not the first goes
pub entries_dropped : {V : Type 0} (F : List (Leaf V)) (l : Leaf V) (B : List (Leaf V)) → l.entries.items ≡ []
    → entries_of (F ++ B) ≡ entries_of (F ++ l ∷ B)
entries_dropped F l B empty =
    flat_map-append (λ leaf. leaf.entries.items) F B
    ∙ ap (λ es. entries_of F ++ (es ++ entries_of B)) (sym empty) ∙ sym (entries_around F l B)

pub leaves_dropped : {V : Type 0} (F : List (Leaf V)) (l : Leaf V) (B : List (Leaf V)) → 0 < length F → l.entries.items ≡ []
    → AreLeaves (F ++ l ∷ B) → AreLeaves (F ++ B)
leaves_dropped {V} F l B some empty are =
    let Q : Leaf V → Leaf V → Type 0 = λ o p. IsBefore o p in
    record {
      first = start F some are.first;
      least = All-append (λ o. IsFromLeast o) F B (All-front (λ o. IsFromLeast o) F (l ∷ B) are.least)
          (All-tail (λ o. IsFromLeast o) l B (All-back (λ o. IsFromLeast o) F (l ∷ B) are.least));
      parted = AllPairs-append Q F B (AllPairs-front Q F (l ∷ B) are.parted) (AllPairs-tail Q l B (AllPairs-back Q F (l ∷ B) are.parted))
          (λ k d within. All-tail (Q (get_or F k d)) l B (AllPairs-across Q F (l ∷ B) are.parted k d within));
      rising = subst (λ es. KeysRise es) (sym (entries_dropped F l B empty)) are.rising;
    }
  where
    start : (G : List (Leaf V)) → 0 < length G → StartsAtZero (G ++ l ∷ B) → StartsAtZero (G ++ B)
    start [] more h = absurd (omega arith)
    start (n ∷ G) more h = h

-- ---- by place

insert_suc : {X : Type 0} (xs : List X) (i : ℕ) (y z : X) → i < length xs → insert (set xs i y) (suc i) z ≡ take i xs ++ y ∷ z ∷ drop (suc i) xs
insert_suc [] i y z within = absurd (omega arith)
insert_suc (x ∷ xs) zero y z within = refl
insert_suc (x ∷ xs) (suc i) y z within = ap (λ ys. x ∷ ys) (insert_suc xs i y z (omega arith))

-- an item replaced, and one more inserted after it
pub insert_at : {X : Type 0} (xs : List X) (i : ℕ) (y z : X) → i < length xs
    → insert (set xs i y) (i + 1) z ≡ take i xs ++ y ∷ z ∷ drop (i + 1) xs
insert_at xs i y z within = rw add-one (insert_suc xs i y z within)

-- the leaf at the place of a key
pub around_at : {V : Type 0} (key i : ℕ) (leaves : List (Leaf V)) (l : Leaf V) → AreLeaves leaves → IsLeafOf key leaves i → l ≡ get_or leaves i l
    → IsAround key (take i leaves) l (drop (i + 1) leaves)
around_at key i leaves l are place here = record {
  leaves = subst (λ ls. AreLeaves ls) (parts_at leaves i l place.there here) are;
  from = subst (λ m. m.from ≤ key) (sym here) (place.from l);
  later = All-drop_within (λ n. key < n.from) leaves (i + 1) place.later;
}

pub rises_at : {V : Type 0} (i : ℕ) (leaves : List (Leaf V)) (l : Leaf V) → AreLeaves leaves → i < length leaves → l ≡ get_or leaves i l
    → KeysRise l.entries.items
rises_at i leaves l are within here =
    leaf_rises (take i leaves) l (drop (i + 1) leaves) (subst (λ ls. AreLeaves ls) (parts_at leaves i l within here) are)

-- an edit in that leaf
pub edit_at : {V : Type 0} (key i : ℕ) (was is : Option V) (leaves : List (Leaf V)) (l m : Leaf V) → AreLeaves leaves → IsLeafOf key leaves i
    → l ≡ get_or leaves i l → IsEdit key was is l.entries.items m.entries.items → IsEdit key was is (entries_of leaves) (entries_of (set leaves i m))
edit_at key i was is leaves l m are place here e =
    let F = take i leaves in
    let B = drop (i + 1) leaves in
    subst (λ ls. IsEdit key was is (entries_of ls) (entries_of (set leaves i m))) (sym (parts_at leaves i l place.there here))
    (subst (λ ls. IsEdit key was is (entries_of (F ++ l ∷ B)) (entries_of ls)) (sym (set_at leaves i m place.there))
    (edit_lifted key was is F l m B (around_at key i leaves l are place here) e))

pub leaves_at : {V : Type 0} (key i : ℕ) (was is : Option V) (leaves : List (Leaf V)) (l m : Leaf V) → AreLeaves leaves → IsLeafOf key leaves i
    → l ≡ get_or leaves i l → m.from ≡ l.from → IsEdit key was is l.entries.items m.entries.items → AreLeaves (set leaves i m)
leaves_at key i was is leaves l m are place here same e =
    subst (λ ls. AreLeaves ls) (sym (set_at leaves i m place.there))
    (leaves_edited key was is (take i leaves) l m (drop (i + 1) leaves) (around_at key i leaves l are place here) same e)

-- a split of it
pub split_at : {V : Type 0} (key i : ℕ) (leaves : List (Leaf V)) (l m n : Leaf V) → AreLeaves leaves → IsLeafOf key leaves i → l ≡ get_or leaves i l
    → m.from ≡ l.from → IsCut key l.entries.items m.entries.items n.entries.items n.from
    → AreLeaves (insert (set leaves i m) (i + 1) n) × (entries_of (insert (set leaves i m) (i + 1) n) ≡ entries_of leaves)
split_at key i leaves l m n are place here same cut =
    let F = take i leaves in
    let B = drop (i + 1) leaves in
    let parts = insert_at leaves i m n place.there in (
      subst (λ ls. AreLeaves ls) (sym parts) (leaves_split key F l m n B (around_at key i leaves l are place here) same cut),
      ap (λ ls. entries_of ls) parts ∙ entries_split F l m n B cut.parts ∙ sym (ap (λ ls. entries_of ls) (parts_at leaves i l place.there here)),
    )

-- what is read in that leaf
pub read_at : {V : Type 0} (key i : ℕ) (w : Option V) (leaves : List (Leaf V)) (l : Leaf V) → AreLeaves leaves → IsLeafOf key leaves i
    → l ≡ get_or leaves i l → IsEdit key w w l.entries.items l.entries.items → IsEdit key w w (entries_of leaves) (entries_of leaves)
read_at key i w leaves l are place here e =
    subst (λ ls. IsEdit key w w (entries_of ls) (entries_of ls)) (sym (parts_at leaves i l place.there here))
    (edit_lifted key w w (take i leaves) l l (drop (i + 1) leaves) (around_at key i leaves l are place here) e)

-- what is put in that leaf, if memory suffices
pub put_at : {V : Type 0} (key i : ℕ) (v : V) (done : Bool) (leaves : List (Leaf V)) (l m : Leaf V) → AreLeaves leaves → IsLeafOf key leaves i
    → l ≡ get_or leaves i l
    → IsEdit key (value_at l.entries.items key) (if done then Some v else value_at l.entries.items key) l.entries.items m.entries.items
    → IsEdit key (value_at (entries_of leaves) key) (if done then Some v else value_at (entries_of leaves) key) (entries_of leaves)
    (entries_of (set leaves i m))
put_at key i v done leaves l m are place here e =
    let lifted = edit_at key i _ _ leaves l m are place here e in
    subst (λ w. IsEdit key w (if done then Some v else w) (entries_of leaves) (entries_of (set leaves i m))) (edit_was key _ _ _ _ lifted) lifted

-- the leaves part where their least keys are above a key
pub leaves_part : {V : Type 0} (key : ℕ) (leaves : List (Leaf V)) → AreLeaves leaves → IsPartitionedBy (λ l. nat_le l.from key) leaves
leaves_part key leaves are i j d le within at_j = ⊎_elim
    (λ less. let rise = (are.parted i j d less within).0 in
    let below = leb-true (get_or leaves j d).from key at_j in
    le-leb (get_or leaves i d).from key (omega (arith, rise, below)))
    (λ more. let same : i ≡ j = omega arith in subst (λ k. nat_le (get_or leaves k d).from key ≡ true) (sym same) at_j)
    (cases_lt i j)

-- one leaf at least is not above it, and the last of those is its leaf
pub leaf_before : {V : Type 0} (key i : ℕ) (leaves : List (Leaf V)) → AreLeaves leaves
    → IsPartitionPoint (λ l. nat_le l.from key ≡ true) (λ l. nat_le l.from key ≡ false) leaves i → 0 < i
leaf_before key i leaves are parts = first leaves are.first parts.1
  where
    first : {V : Type 0} (ls : List (Leaf V)) → StartsAtZero ls → AllWithin (λ l. nat_le l.from key ≡ false) ls i (length ls) → 0 < i
    first [] starts above = absurd starts
    first (l ∷ ls) starts above = ⊎_elim (λ some. some)
        (λ none. let low : key < l.from = leb-false l.from key (above 0 l none (omega arith)) in absurd (omega (arith, starts, low)))
        (cases_lt 0 i)

pub leaf_at : {V : Type 0} (key i : ℕ) (leaves : List (Leaf V)) → AreLeaves leaves → i ≤ length leaves
    → IsPartitionPoint (λ l. nat_le l.from key ≡ true) (λ l. nat_le l.from key ≡ false) leaves i → IsLeafOf key leaves (i - 1)
leaf_at key i leaves are fits parts =
    let some = leaf_before key i leaves are parts in
    record {
      there = omega (arith, some, fits);
      from = λ d. leb-true (get_or leaves (i - 1) d).from key (parts.0 (i - 1) d (omega arith) (omega (arith, some)));
      later = λ k d from to. leb-false (get_or leaves k d).from key (parts.1 k d (omega (arith, some, from)) to);
    }

empty_from_length : {X : Type 0} (xs : List X) → length xs ≡ 0 → xs ≡ []
empty_from_length [] h = refl
empty_from_length (x ∷ xs) h = absurd (omega arith)

-- an empty leaf goes that is not the first
pub drop_at : {V : Type 0} (i : ℕ) (leaves : List (Leaf V)) (l : Leaf V) → AreLeaves leaves → 0 < i → i < length leaves → l ≡ get_or leaves i l
    → length l.entries.items ≡ 0 → AreLeaves (remove leaves i) × (entries_of (remove leaves i) ≡ entries_of leaves)
drop_at i leaves l are some within here none =
    let F = take i leaves in
    let B = drop (i + 1) leaves in
    let empty = empty_from_length l.entries.items none in
    let parts = parts_at leaves i l within here in
    let left : remove leaves i ≡ F ++ B = ap (λ (n : ℕ). F ++ drop n leaves) (sym (add-one i)) in
    let more : 0 < length F = omega (arith, some, within, length-take i leaves) in (
      subst (λ ls. AreLeaves ls) (sym left) (leaves_dropped F l B more empty (subst (λ ls. AreLeaves ls) parts are)),
      ap (λ ls. entries_of ls) left ∙ entries_dropped F l B empty ∙ sym (ap (λ ls. entries_of ls) parts),
    )

-- a leaf is written with the same entries
pub unchanged_at : {V : Type 0} (key i : ℕ) (leaves : List (Leaf V)) (l m : Leaf V) → AreLeaves leaves → IsLeafOf key leaves i → l ≡ get_or leaves i l
    → m.from ≡ l.from → m.entries.items ≡ l.entries.items → AreLeaves (set leaves i m) × (entries_of (set leaves i m) ≡ entries_of leaves)
unchanged_at key i leaves l m are place here same entries =
    let w = value_at l.entries.items key in
    let e = subst (λ es. IsEdit key w w l.entries.items es) (sym entries) (edit_nothing key l.entries.items (rises_at i leaves l are place.there here)) in (
      leaves_at key i w w leaves l m are place here same e,
      edit_same key w (entries_of leaves) (entries_of (set leaves i m)) (edit_at key i w w leaves l m are place here e),
    )

-- a key belongs into the leaf whose least key is not above it, if the next one's is
pub leaf_here : {V : Type 0} (key i : ℕ) (leaves : List (Leaf V)) → AreLeaves leaves → i < length leaves → HoldsAt (λ l. l.from ≤ key) leaves i
    → (i + 1 < length leaves → HoldsAt (λ l. key < l.from) leaves (i + 1)) → IsLeafOf key leaves i
leaf_here key i leaves are there from next = record {
  there = there;
  from = from;
  later = λ k d low high.
      let above : key < (get_or leaves (i + 1) d).from = next (omega (arith, low, high)) d in
      ⊎_elim
      (λ before. let rise = (are.parted (i + 1) k d before high).0 in omega (arith, above, rise))
      (λ same. let one : k ≡ i + 1 = omega (arith, same, low) in subst (λ (j : ℕ). key < (get_or leaves j d).from) (sym one) above)
      (cases_lt (i + 1) k);
}

-- a leaf that two tests find is the leaf of a key
pub leaf_told : {V : Type 0} (key i : ℕ) (leaves : List (Leaf V)) (l m : Leaf V) → AreLeaves leaves → i < length leaves
    → (get_or leaves i l).from ≤ key → IsTrue (nat_lt key (get_or leaves (i + 1) m).from) → IsLeafOf key leaves i
leaf_told {V} key i leaves l m are there from told =
    leaf_here key i leaves are there (λ d. subst (λ (n : Leaf V). n.from ≤ key) (get_or_default leaves i l d there) from)
    (λ inside d. subst (λ (n : Leaf V). key < n.from) (get_or_default leaves (i + 1) m d inside) (ltb-true key (get_or leaves (i + 1) m).from told))
