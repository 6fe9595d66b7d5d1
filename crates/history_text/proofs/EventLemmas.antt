-- Events whose process number is past the limit.
use Rattle.events.specs.declared.fault.HistoryFault.TheVariants as faults
use Rattle.history_text.proofs.Common.{◌≡◌, ℕ, ◌≤◌, false, nat_lt, inl, refl, arith, nat_tests, Data, Call, Reply, Invoke, Answer, process_limit}
use Rattle.history_text.proofs.Common.{has_range, TextVersion, number_data, call_data, reply_data, may_stand, invocation_data, response_data}
use Rattle.history_text.proofs.Common.{IsValueFault}
use Rattle.std.proofs.Common.{IsTrue}

-- a number past the limit is not below it
past_processes : (p : ℕ) → process_limit ≤ p → nat_lt p process_limit ≡ false
past_processes p h = grind (arith, nat_tests)

-- an invocation by such a process is too many, wherever it is
pub too_many-invocation : (version : TextVersion) (place p : ℕ) (call : Call) (c d : Data) → c ≡ call_data call → d ≡ number_data p
    → IsTrue (has_range call)
    → process_limit ≤ p → IsTrue (may_stand version (Invoke p call))
    → IsValueFault version place (invocation_data c d) faults.TooMany
too_many-invocation version place p call c d spelled number range h standing =
    (Invoke p call, inl (rw (spelled, number) refl), range, past_processes p h, standing)

-- a response by such a process is too many, wherever it is
pub too_many-response : (version : TextVersion) (place p : ℕ) (reply : Reply) (c d : Data) → c ≡ reply_data reply → d ≡ number_data p
    → process_limit ≤ p → IsTrue (may_stand version (Answer p reply))
    → IsValueFault version place (response_data c d) faults.TooMany
too_many-response version place p reply c d spelled number h standing =
    (Answer p reply, inl (rw (spelled, number) refl), refl, rw (past_processes p h) refl, standing)
