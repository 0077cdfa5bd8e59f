-- What rows make of gains.

-- What a network row counts when it was just entered, and with a gain added. And what an application row counts before its first
-- contribution, and with a gain added
pub record Tally (N A : Type 0) : Type 0 where
  pub blank : N
  pub add : N → N → N
  pub none : A
  pub more : A → N → A
