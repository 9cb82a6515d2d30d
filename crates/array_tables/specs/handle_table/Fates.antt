-- What became of a handle, told by the calls of an order.
use Rattle.std.specs.Prelude.{ℕ, ◌+◌, ◌≡◌, ◌⊎◌, ◌==◌, ◌&&◌, true, false, if◌then◌else◌, List, [], ◌∷◌, ◌++◌}
use Rattle.array_tables.specs.operations.Linearizations.{Call}
use Rattle.array_tables.specs.declared.handle_table.told.Outcome.TheVariants as outcomes
use Rattle.array_tables.specs.handle_table.Handles.{Deed, Make, See, Drop, Take, Evict, Answer, Matched, is_matched, outcome_of}

-- its make has not come, or was answered taken; it is kept in slot i; or it was dropped or evicted
pub data Fate : Type 0 where
  Unmade : Fate
  Refused : Fate
  Kept : (i : ℕ) → Fate
  Gone : Fate

-- after slot i was evicted
abbrev pub evicted : Fate → ℕ → Fate
evicted (Kept k) i = if k == i then Gone else Kept k
evicted f i = f

-- what a call makes of the fate of make j of thread t
abbrev pub fate_by : ℕ → ℕ → Fate → Deed → Answer → Fate
fate_by t j f (Make u l h i x) a =
    if (u == t) && (l == j) then (if is_matched a then Kept i else Refused) else f
fate_by t j f (See u l h i) a = f
fate_by t j f (Drop u l h i) a =
    if (u == t) && (l == j) then (if is_matched a then Gone else f) else f
fate_by t j f (Take i) a = f
fate_by t j f (Evict i) a = evicted f i

abbrev pub fate_after : ℕ → ℕ → Fate → List (Call Deed Answer) → Fate
fate_after t j f [] = f
fate_after t j f (d ∷ ds) = fate_after t j (fate_by t j f d.operation d.answer) ds

-- What a see or a drop of a handle with this fate answers: it finds the handle where a slot keeps it,
-- and none where its make was answered taken, or where it was dropped or evicted. Its make comes
-- before it.
abbrev pub AnswersFor : Fate → Answer → Type 0
AnswersFor Unmade a = ⊥
AnswersFor Refused a = a ≡ Matched false
AnswersFor (Kept i) a = a ≡ Matched true
AnswersFor Gone a = a ≡ Matched false

-- each see and each drop of an order answers for the fate that its handle has there
abbrev pub TellFates : List (Call Deed Answer) → Type 0
TellFates order = (before since : List (Call Deed Answer)) (d : Call Deed Answer) (t j h i : ℕ)
    → order ≡ before ++ d ∷ since
    → (d.operation ≡ See t j h i) ⊎ (d.operation ≡ Drop t j h i)
    → AnswersFor (fate_after t j Unmade before) d.answer

-- this call of the order is the make of thread t that filled slot i, with number x
pub record IsMadeBy (past : List (Call Deed Answer)) (i t j x : ℕ) : Type 0 where
  pub before : List (Call Deed Answer)
  pub make : Call Deed Answer
  pub since : List (Call Deed Answer)
  pub order : past ≡ before ++ make ∷ since
  pub h : ℕ
  pub is_make : make.operation ≡ Make t j h i x
  pub made : make.answer ≡ Matched true

-- each handle that a take or an evict of an order shows, as make k of thread t with number x, is of
-- that make, which filled this slot before, with this number
abbrev pub ShowMakes : List (Call Deed Answer) → Type 0
ShowMakes order = (before since : List (Call Deed Answer)) (d : Call Deed Answer) (i t k x : ℕ)
    → order ≡ before ++ d ∷ since
    → (d.operation ≡ Take i) ⊎ (d.operation ≡ Evict i)
    → outcome_of d.operation d.answer ≡ outcomes.Shown t k x
    → (j : ℕ) × (k ≡ j + 1) × IsMadeBy before i t j x
