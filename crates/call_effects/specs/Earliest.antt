-- The earliest answer of some calls.
use Rattle.std.specs.Prelude.{ℕ, Option, Some, None, min}
use Rattle.events.specs.declared.operation.Response.{Response}

-- the earlier of an answer's place and a response's, of those that there are
abbrev pub earlier_of : Option ℕ → Option Response → Option ℕ
earlier_of earliest None = earliest
earlier_of None (Some response) = Some response.res
earlier_of (Some answered) (Some response) = Some (min answered response.res)
