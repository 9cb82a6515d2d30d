-- What a field holds, told by the history: what was last stored there.
use Rattle.std.specs.Prelude.{ℕ, Option, Some, None, ◌≡◌, ◌⊎◌, List, [], ◌∷◌, ◌++◌, map}
use Rattle.block_store.specs.declared.Config.{Config}
use Rattle.block_store.specs.declared.Name.{Name}
use Rattle.block_store.specs.declared.Value.{Value}
use Rattle.block_store.specs.declared.Value.TheVariants.{Nil, Ref}
use Rattle.never_heap.specs.declared.Command.{Command}
use Rattle.never_heap.specs.declared.Command.TheVariants.{Put, Swap, Cas}
use Rattle.never_heap.specs.declared.Entry.{Entry}
use Rattle.never_heap.specs.declared.Reply.{Reply}
use Rattle.never_heap.specs.declared.Reply.TheVariants.{Stored, Val, Yes}
use Rattle.never_heap.specs.Graphs.{Graph, start_graph, register_of}
use Rattle.never_heap.specs.Histories.{HistoryItem, Did, replay, replay_from, part}

-- Where a command with this reply has stored in a field: the register of the object, the field, and
-- the register of the value. A put tells it by stored, a swap by a value, and a cas by yes.
abbrev pub stored_by : Command → Reply → Option (ℕ × (ℕ × ℕ))
stored_by (Put s i v) Stored = Some (s, (i, v))
stored_by (Swap s i v) (Val old) = Some (s, (i, v))
stored_by (Cas s i a v) Yes = Some (s, (i, v))
stored_by _ _ = None

-- On the graph g, the entry is a put, a swap or a cas that has stored v in field i of the object a:
-- its register s refers to a, and its register w holds v.
pub record StoresIn (g : Graph) (store : Entry) (a : Name) (i : ℕ) (v : Value) : Type 0 where
  pub s : ℕ
  pub w : ℕ
  pub stored : stored_by store.command store.reply ≡ Some (s, (i, w))
  pub object : register_of g store.thread s ≡ Ref a
  pub value : register_of g store.thread w ≡ v

-- of these items, from the graph g on, none stores in field i of a
abbrev pub NoneStores : Graph → List HistoryItem → Name → ℕ → Type 0
NoneStores g items a i =
    (before after : List HistoryItem) (e : Entry) (v : Value)
    → items ≡ before ++ Did e ∷ after → ¬ (StoresIn (replay_from g before) e a i v)

-- The last store in field i of a in this history stored v there: the history is what was before it,
-- its entry, and items of which none stores there.
pub record IsLastStore
    (c : Config) (h : List HistoryItem) (a : Name) (i : ℕ) (v : Value)
    : Type 0 where
  pub before : List HistoryItem
  pub store : Entry
  pub since : List HistoryItem
  pub history : h ≡ before ++ Did store ∷ since
  pub stores : StoresIn (replay c before) store a i v
  pub last : NoneStores (replay c (before ++ Did store ∷ [])) since a i

-- v is what was last stored in field i of a; nil where nothing was
abbrev pub IsLastStored : Config → List HistoryItem → Name → ℕ → Value → Type 0
IsLastStored c h a i v =
    IsLastStore c h a i v ⊎ ((v ≡ Nil) × NoneStores (start_graph c) h a i)

-- the commands of a thread, in the order of the history
abbrev pub commands_in : ℕ → List HistoryItem → List Command
commands_in t h = map (λ (e : Entry). e.command) (part t h)

-- A thread's command in a history: the history is what was before, its entry, and what came since;
-- of the thread's other commands it has those of xs before, and those of ys since.
pub record StandsIn
    (h : List HistoryItem) (t : ℕ) (xs : List Command) (x : Command) (ys : List Command)
    : Type 0 where
  pub before : List HistoryItem
  pub entry : Entry
  pub since : List HistoryItem
  pub history : h ≡ before ++ Did entry ∷ since
  pub thread : entry.thread ≡ t
  pub command : entry.command ≡ x
  pub earlier : commands_in t before ≡ xs
  pub later : commands_in t since ≡ ys
