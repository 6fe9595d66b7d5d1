-- Calls on a key: what they are and what they leave; and stages, those of calls on a key and those of scans.
use Rattle.art_schedules.proofs.Common.{if◌then◌else◌, ◌≡◌, true, refl, arith, false, sym, ◌<◌, ℕ, Bool, ap, ◌∙◌, List, false≢true, none-some}
use Rattle.art_schedules.proofs.Common.{Call, Get, Insert, Remove, Scan, Replace, Contents, value_at, put, is_just, Leaf, child_word, Kind, Full}
use Rattle.art_schedules.proofs.Common.{is_tree_call, is_insert, is_scan, key_of, overwriting, Stage, OnKey, OnScan, ScanAt, slot_of, is_seek}
use Rattle.art_schedules.proofs.Common.{IsInsert}
use Rattle.std.proofs.Common.{◌==◌, Some, None}
use Rattle.map_object.specs.MapObject.{after}

pub insert-of : (call : Call) → is_tree_call call ≡ true → is_insert call ≡ true → IsInsert call
insert-of (Insert key value) tree e = record { key = key; value = value; is = refl; small = grind (arith, tree) }
insert-of (Get key) tree e = absurd (false≢true e)
insert-of (Remove key) tree e = absurd (false≢true e)
insert-of (Scan low high) tree e = absurd (false≢true e)
insert-of (Replace key old new) tree e = absurd (false≢true e)

pub seek-of : (call : Call) → is_insert call ≡ false → is_scan call ≡ false → is_seek call ≡ true
seek-of (Insert key value) e f = absurd (false≢true (sym e))
seek-of (Get key) e f = refl
seek-of (Remove key) e f = refl
seek-of (Scan low high) e f = absurd (false≢true (sym f))
seek-of (Replace key old new) e f = refl

pub key-small : (call : Call) → is_tree_call call ≡ true → is_scan call ≡ false → key_of call < 4294967296
key-small (Insert key value) tree f = grind (arith, tree)
key-small (Get key) tree f = grind (arith, tree)
key-small (Remove key) tree f = grind (arith, tree)
key-small (Scan low high) tree f = absurd (false≢true (sym f))
key-small (Replace key old new) tree f = grind (arith, tree)

-- a call that finds its key and overwrites nothing leaves the map
pub kept-after : (m : Contents) (call : Call) (v : ℕ) → is_seek call ≡ true → overwriting call v ≡ None → value_at m (key_of call) ≡ Some v
    → after m call ≡ m
kept-after m (Get key) v seek none has = refl
kept-after m (Remove key) v seek none has = absurd (none-some 0 (sym none))
kept-after m (Replace key old new) v seek none has = ap (λ o. if is_just o old then put key new m else m) has ∙ go (v == old) refl none
  where
    go : (b : Bool) → (v == old) ≡ b → (if b then Some (child_word (Leaf key new)) else None) ≡ None → (if b then put key new m else m) ≡ m
    go true e f = absurd (none-some _ (sym f))
    go false e f = refl
kept-after m (Insert key value) v seek none has = absurd (false≢true seek)
kept-after m (Scan low high) v seek none has = absurd (false≢true seek)

-- a key's slot in a row of kind 256
pub full-slot : (calm : List ℕ) (base : ℕ) (kind : Kind) (x : ℕ) → kind ≡ Full → slot_of calm base kind x ≡ None → ⊥
full-slot calm base kind x is none = none-some _ (sym none ∙ ap (λ k. slot_of calm base k x) is)

pub is-insert : (call : Call) → IsInsert call → is_insert call ≡ true
is-insert call i = ap is_insert i.is

pub key-same : {a b : Stage} → OnKey a ≡ OnKey b → a ≡ b
key-same e = cc

pub key-scan : {a : Stage} {low high : ℕ} {b : ScanAt} → OnKey a ≡ OnScan low high b → ⊥
key-scan e = cc
