-- The digits so far are those of a number above 0, of at most 64 bits.
use Rattle.std.proofs.Common.{◌≡◌, ◌<◌, ◌^◌, take, decimal}
use Rattle.plain_numbers.proofs.beginning.number_at.Given as goal

abbrev pub invariant-digits : goal.invariant-digits
invariant-digits l = record {
  some : 0 < l.number;
  fits : l.number < 2 ^ 64;
  so_far : take l.place l.text ≡ decimal l.number;
}
