mod DecimalLemmas
