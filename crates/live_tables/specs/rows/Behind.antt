-- The place of operations in the order of a table, by what workers had seen.
use Rattle.std.specs.Prelude.{ℕ, ◌≡◌, ◌++◌, List, map}
use Rattle.array_tables.specs.operations.Linearizations.{Call, calls_of}

module _ {Op Answer : Type 0} where
  -- the operations of thread t in an order
  abbrev pub operations_in : ℕ → List (Call Op Answer) → List Op
  operations_in t order = map (λ (d : Call Op Answer). d.operation) (calls_of t order)

  -- and what they answered
  abbrev pub answers_in : ℕ → List (Call Op Answer) → List Answer
  answers_in t order = map (λ (d : Call Op Answer). d.answer) (calls_of t order)

  -- A prefix of the order has at least these operations of thread u, and exactly those of thread t.
  -- So what t did after those comes after all that u had done with these.
  pub record StandsBehind (order : List (Call Op Answer)) (u : ℕ) (these : List Op)
      (t : ℕ) (those : List Op) : Type 0 where
    pub first : List (Call Op Answer)
    pub later : List (Call Op Answer)
    pub split : order ≡ first ++ later
    pub more : List Op
    pub seen : operations_in u first ≡ these ++ more
    pub own : operations_in t first ≡ those
