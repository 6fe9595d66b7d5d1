mod OutcomeLemmas
