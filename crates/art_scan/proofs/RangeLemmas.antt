-- The keys below the bytes of a row: they are no more than all, and those of later bytes are later.
use Rattle.art_scan.proofs.Common.{◌≡◌, ℕ, zero, suc, ◌+◌, ◌-◌, ◌*◌, ◌^◌, ◌<◌, ◌≤◌, refl, ◌∙◌, false, arith, and_left, and_right, lt-leb, le-ltb}
use Rattle.art_scan.proofs.Common.{◌&&◌, nat_le, nat_lt, big_endian, info_of, can_lie, HeldRow, row_at}
use Rattle.std.proofs.lemmas.Nat.{mul-le}

pub reach : (l p x : ℕ) → l ≤ 3 → p < 256 ^ l → x ≤ 256 → (256 * p + x) * 256 ^ (3 - l) ≤ 4294967296
reach zero p x most h below = omega (arith, h, below)
reach (suc zero) p x most h below = omega (arith, h, below)
reach (suc (suc zero)) p x most h below = omega (arith, h, below)
reach (suc (suc (suc zero))) p x most h below = omega (arith, h, below)
reach (suc (suc (suc (suc l)))) p x most h below = absurd (omega (arith, most))

-- the path of a row as a number, and how many keys have one path and byte
module _ (n : HeldRow) (p k : ℕ) (path : p ≡ big_endian 0 (info_of n.kind n.info).path)
    (keys : k ≡ 256 ^ (3 - (info_of n.kind n.info).level)) where
  lies_as : (low high x : ℕ) → can_lie low high (row_at n) x ≡ (nat_le ((256 * p + x) * k) high && nat_lt low ((256 * p + x + 1) * k))
  lies_as low high x = rw path (rw keys refl)

  pub all_behind : (low high x y : ℕ) → x ≤ y → high < (256 * p + x) * k → can_lie low high (row_at n) y ≡ false
  all_behind low high x y m above =
      let later : (256 * p + x) * k ≤ (256 * p + y) * k =
      mul-le (256 * p + x) k (256 * p + y) k (omega (arith, m)) (omega arith) in
      lies_as low high y ∙ and_left _ _ (lt-leb ((256 * p + y) * k) high (omega (arith, above, later)))

  pub all_ahead : (low high y f : ℕ) → 256 * p + y + 1 ≤ f → f * k ≤ low → can_lie low high (row_at n) y ≡ false
  all_ahead low high y f less below =
      let earlier : (256 * p + y + 1) * k ≤ f * k = mul-le (256 * p + y + 1) k f k less (omega arith) in
      lies_as low high y ∙ and_right _ _ (le-ltb low ((256 * p + y + 1) * k) (omega (arith, below, earlier)))
