-- Two groups as one.

-- They stand for a journal where each of them does, and the settings are such that the second stands beside the first.
pub record StandAsOne (First Second Tied : Type 0) : Type 0 where
  pub first : First
  pub second : Second
  pub tied : Tied
