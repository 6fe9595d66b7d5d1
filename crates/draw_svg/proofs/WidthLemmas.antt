-- Few columns fit on 1,200 units.
use Rattle.std.proofs.Common.{◌≡◌, ℕ, zero, suc, ◌*◌, ◌/◌, ◌≤◌, arith}
use Rattle.std.specs.Prelude.{max, min}
use Rattle.std.proofs.Math.Nat.{div-eq_of_lt, div-mul-le_self, mul-le-mul}
use Rattle.std.proofs.lemmas.Bool.{le-leb}
use Rattle.std.proofs.lemmas.Nat.{le-div}
use Rattle.draw_svg.specs.Layout.{asked_width, column_width, per_screen, screens_before, widest, width_of, FewColumnsFit}

-- columns at a width that is a part of some units fill no more
filled : (units width columns least : ℕ) → width ≤ units / least → columns ≤ least → width * columns ≤ units
filled units width columns least narrow few =
    let product = mul-le-mul narrow few in let all = div-mul-le_self units least in omega (arith, product, all)

-- this many columns fit between two columns of names
within : (width columns : ℕ) → columns ≤ 38 → width * columns ≤ 1072 → columns * max width 1 ≤ 1104
within zero columns few narrow = omega arith
within (suc width) columns few narrow = let same : max (suc width) 1 ≡ suc width = omega arith in rw same (omega arith)

-- no column of names is among them
fits : (width columns : ℕ) → columns ≤ 38 → width * columns ≤ 1072 → width_of width columns ≤ 1200
fits width columns few narrow =
    let many : columns ≤ per_screen width = le-div columns 1104 (max width 1) (omega arith) (within width columns few narrow) in
    let none : screens_before width columns ≡ 0 = div-eq_of_lt (omega arith) in
    rw none (omega arith)

-- few columns are so narrow
narrow : (asked columns : ℕ) → columns ≤ 38 → min (widest columns) asked * columns ≤ 1072
narrow asked columns few =
    let test = le-leb columns 38 few in
    let least : min (widest columns) asked ≤ 1072 / max columns 1 = rw test (omega arith) in
    filled 1072 (min (widest columns) asked) columns (max columns 1) least (omega arith)

pub few_fit : FewColumnsFit
few_fit columns bars few = fits (column_width columns bars) columns few (narrow (asked_width columns bars) columns few)
