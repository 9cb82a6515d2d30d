-- Histories of a heap that never frees. A history has its oldest item first.
use Rattle.std.specs.Prelude.{ℕ, zero, suc, ◌+◌, ◌≡◌, ◌==◌, ◌⊎◌, Bool, true, false, if◌then◌else◌, List, [], ◌∷◌, map, slice_index_or}
use Rattle.block_store.specs.declared.Config.{Config}
use Rattle.never_heap.specs.declared.Command.{Command}
use Rattle.never_heap.specs.declared.Entry.{Entry}
use Rattle.never_heap.specs.declared.Reply.{Reply}
use Rattle.never_heap.specs.declared.Reply.TheVariants.{Full, Null, Kind, Range}
use Rattle.never_heap.specs.Graphs.{Graph, start_graph}
use Rattle.never_heap.specs.Steps.{step, makes_object}

-- a cycle starts, or a command is answered. The j-th start is that of cycle j
pub data HistoryItem : Type 0 where
  Started : HistoryItem
  Did : (entry : Entry) → HistoryItem

abbrev pub is_full : Reply → Bool
is_full (Full c) = true
is_full _ = false

-- whether a command was refused: the register was nil or held a number, or the object has no such
-- field
abbrev pub is_refusal : Reply → Bool
is_refusal Null = true
is_refusal Kind = true
is_refusal Range = true
is_refusal _ = false

-- the graph after an item: a start and an entry answered full change nothing
abbrev pub after : Graph → HistoryItem → Graph
after g Started = g
after g (Did e) = if is_full e.reply then g else (step g e.thread e.command).0

abbrev pub replay_from : Graph → List HistoryItem → Graph
replay_from g [] = g
replay_from g (i ∷ is) = replay_from (after g i) is

-- the graph that a history leaves
abbrev pub replay : Config → List HistoryItem → Graph
replay c h = replay_from (start_graph c) h

-- the reply is the one that the step gives here, or the command makes an object and is answered
-- full
abbrev pub IsAnswered : Graph → HistoryItem → Type 0
IsAnswered g Started = Unit {0}
IsAnswered g (Did e) =
    (e.reply ≡ (step g e.thread e.command).1)
    ⊎ ((is_full e.reply ≡ true) × (makes_object e.command ≡ true))

abbrev pub LegalFrom : Graph → List HistoryItem → Type 0
LegalFrom g [] = Unit {0}
LegalFrom g (i ∷ is) = IsAnswered g i × LegalFrom (after g i) is

-- the first item is a start, and each entry is answered on the replay of the items before it
abbrev pub Legal : Config → List HistoryItem → Type 0
Legal c [] = ⊥
Legal c (Started ∷ h) = LegalFrom (start_graph c) h
Legal c (Did e ∷ h) = ⊥

-- the entries of thread t, in the order of the history
abbrev pub part : ℕ → List HistoryItem → List Entry
part t [] = []
part t (Started ∷ h) = part t h
part t (Did e ∷ h) = if e.thread == t then e ∷ part t h else part t h

-- the parts of n threads from thread t on
abbrev pub parts_from : ℕ → ℕ → List HistoryItem → List (List Entry)
parts_from t zero h = []
parts_from t (suc n) h = part t h ∷ parts_from (t + 1) n h

abbrev pub parts : ℕ → List HistoryItem → List (List Entry)
parts n h = parts_from 0 n h

-- how many cycles were started
abbrev pub starts_in : List HistoryItem → ℕ
starts_in [] = 0
starts_in (Started ∷ h) = starts_in h + 1
starts_in (Did e ∷ h) = starts_in h

-- the sum of the works
abbrev pub work_in : List HistoryItem → ℕ
work_in [] = 0
work_in (Started ∷ h) = work_in h
work_in (Did e ∷ h) = e.work + work_in h

-- the commands of each thread's part are its trace, whole and in order, and there is no other
-- thread
abbrev pub HasTraces : List (List Command) → List HistoryItem → Type 0
HasTraces traces h =
    (t : ℕ) → map (λ (e : Entry). e.command) (part t h) ≡ slice_index_or traces t []
