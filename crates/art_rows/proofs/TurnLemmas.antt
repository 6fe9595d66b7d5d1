-- What one turn of a call says of another that is the same: which access it asks for, and whether it asks at all.
use Rattle.art_rows.proofs.Common.{Option, Some, ap, none-some, same_Some, Reply, Access, Point, Turn, Asks, Answers, access_of, reply_of}
use Rattle.std.specs.Prelude.{◌≡◌, ℕ}
use Rattle.art_rows.specs.declared.access.Access.TheVariants.{Load, Store, Exchange, Add}

pub asks-answers : {a : Access} {m : Option Point} {r : Reply} → Asks a m ≡ Answers r → ⊥
asks-answers e = cc

pub answers-asks : {r : Reply} {a : Access} {m : Option Point} → Answers r ≡ Asks a m → ⊥
answers-asks e = cc

pub asks-same : {a b : Access} {m l : Option Point} → Asks a m ≡ Asks b l → a ≡ b
asks-same e = cc

pub answers-same : {q r : Reply} → Answers q ≡ Answers r → q ≡ r
answers-same e = cc

pub load-word : {word other : ℕ} {m l : Option Point} → Asks (Load word) m ≡ Asks (Load other) l → word ≡ other
load-word e = cc

pub loads-same : {word other : ℕ} {m l : Option Point} → Asks (Load word) m ≡ Asks (Load other) l → (word ≡ other) × (m ≡ l)
loads-same e = (cc, cc)

pub load-store : {word other v : ℕ} {m l : Option Point} → Asks (Load word) m ≡ Asks (Store other v) l → ⊥
load-store e = cc

pub load-exchange : {word other v w : ℕ} {m l : Option Point} → Asks (Load word) m ≡ Asks (Exchange other v w) l → ⊥
load-exchange e = cc

pub load-add : {word other : ℕ} {m l : Option Point} → Asks (Load word) m ≡ Asks (Add other) l → ⊥
load-add e = cc

pub store-word : {word v other w : ℕ} {m l : Option Point} → Asks (Store word v) m ≡ Asks (Store other w) l → word ≡ other
store-word e = cc

pub stores-same : {word v other w : ℕ} {m l : Option Point} → Asks (Store word v) m ≡ Asks (Store other w) l → (word ≡ other) × (v ≡ w)
stores-same e = (cc, cc)

pub store-exchange : {word u other v w : ℕ} {m l : Option Point} → Asks (Store word u) m ≡ Asks (Exchange other v w) l → ⊥
store-exchange e = cc

pub store-add : {word v other : ℕ} {m l : Option Point} → Asks (Store word v) m ≡ Asks (Add other) l → ⊥
store-add e = cc

pub exchange-word : {word v w other x y : ℕ} {m l : Option Point} → Asks (Exchange word v w) m ≡ Asks (Exchange other x y) l → word ≡ other
exchange-word e = cc

pub exchanges-same : {word v w other x y : ℕ} {m l : Option Point} → Asks (Exchange word v w) m ≡ Asks (Exchange other x y) l
    → (word ≡ other) × (v ≡ x)
exchanges-same e = (cc, cc)

pub exchange-store : {word v w other u : ℕ} {m l : Option Point} → Asks (Exchange word v w) m ≡ Asks (Store other u) l → ⊥
exchange-store e = cc

pub exchange-add : {word v w other : ℕ} {m l : Option Point} → Asks (Exchange word v w) m ≡ Asks (Add other) l → ⊥
exchange-add e = cc

pub add-word : {word other : ℕ} {m l : Option Point} → Asks (Add word) m ≡ Asks (Add other) l → word ≡ other
add-word e = cc

pub add-store : {word other v : ℕ} {m l : Option Point} → Asks (Add word) m ≡ Asks (Store other v) l → ⊥
add-store e = cc

pub add-exchange : {word other v w : ℕ} {m l : Option Point} → Asks (Add word) m ≡ Asks (Exchange other v w) l → ⊥
add-exchange e = cc

-- the turn that makes an access, and the one that answers

pub asks-of : (t : Turn) (a : Access) → access_of t ≡ Some a → (m : Option Point) × (t ≡ Asks a m)
asks-of (Asks b m) a e = (m, ap (λ x. Asks x m) (same_Some b a e))
asks-of (Answers r) a e = absurd (none-some a e)

pub answers-of : (t : Turn) (r : Reply) → reply_of t ≡ Some r → t ≡ Answers r
answers-of (Asks a m) r e = absurd (none-some r e)
answers-of (Answers q) r e = ap (λ y. Answers y) (same_Some q r e)
