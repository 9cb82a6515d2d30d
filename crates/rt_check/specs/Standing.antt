-- What is known of a history when its items were followed, one after the other.
use Rattle.std.specs.Prelude.{ℕ, Bool, true, false, max, ◌+◌, ◌-◌, ◌*◌, ◌^◌, ◌<◌, ◌≤◌, ◌≡◌, ◌≢◌, List, [], ◌∷◌, ◌++◌, length, drop, slice_index_or, slice_set, Option}
use Rattle.block_store.specs.declared.Config.{Config}
use Rattle.never_heap.specs.declared.Command.{Command}
use Rattle.never_heap.specs.Cycles.{graph_at}
use Rattle.never_heap.specs.declared.Entry.{Entry}
use Rattle.never_heap.specs.Graphs.{WideGraph, with_graph, count_of}
use Rattle.never_heap.specs.Histories.{HistoryItem, Started, part, replay, starts_in, work_in}
use Rattle.never_heap.specs.LiveBlocks.{live_blocks}
use Rattle.never_heap.specs.Steps.{step, blocks_of}
use Rattle.trace_text.specs.Lines.{tokens_of}
use Rattle.trace_text.specs.OrderTexts.{item_text}
use Rattle.trace_text.specs.Reading.{number_at}
use Rattle.rt_check.specs.declared.follower.Follower.{Follower}
use Rattle.rt_check.specs.declared.follower.Verdict.{Verdict}
use Rattle.rt_check.specs.declared.follower.Verdict.TheVariants.{Good, Last, Bad}
use Rattle.rt_check.specs.Good.{IsGood, IsLast, IsBad}

-- The follower has the graph that the items leave, how many entries each thread has, how many
-- blocks were live at each start, and the sum of the works.
pub record Stands (c : Config) (past : List HistoryItem) (f : Follower) : Type 0 where
  pub width : f.graph.width ≡ c.width
  pub graph : f.graph.graph ≡ replay c past
  pub threads : length f.graph.graph.mutators ≡ c.threads
  pub rows : length f.done.items ≡ c.threads
  pub done : (t : ℕ) → slice_index_or f.done.items t 0 ≡ length (part t past)
  pub made : (t : ℕ) → count_of f.graph.graph t ≤ length (part t past)
  pub starts : length f.live.items ≡ starts_in past
  pub begun : past ≢ [] → 1 ≤ starts_in past
  pub live : (z : ℕ) → z < starts_in past
      → slice_index_or f.live.items z 0 ≡ live_blocks c.width (graph_at c past (z + 1))
  pub work : f.work ≡ work_in past
  pub small : f.work ≤ length past * 2 ^ 32

-- what is said of a line after these items, and where the follower then is
abbrev pub Says :
    Config → ℕ → List (List Command) → List HistoryItem → List ℕ → Verdict → Follower → Type 0
Says c rate traces past line Good f =
    (i : HistoryItem) × IsGood c rate traces past line i × Stands c (past ++ i ∷ []) f
Says c rate traces past line Last f = IsLast traces past line
Says c rate traces past line Bad f = IsBad c rate traces past line

-- whether a line is the start of the next cycle, and where the follower then is
abbrev pub StartsHere :
    Config → List HistoryItem → List ℕ → Bool → Follower → Type 0
StartsHere c past line true f =
    (line ≡ item_text (starts_in past) Started) × Stands c (past ++ Started ∷ []) f
StartsHere c past line false f = line ≡ item_text (starts_in past) Started → ⊥

-- some items were followed, fewer than the bytes of an input
abbrev pub HasFollowed : Config → Follower → Type 0
HasFollowed c f = (past : List HistoryItem) × Stands c past f × (length past < 2 ^ 26)

-- the commands that a thread has left where so many of each thread are done
abbrev pub rest_of : List (List Command) → List ℕ → ℕ → List Command
rest_of traces done t = drop (slice_index_or done t 0) (slice_index_or traces t [])

-- the first token of a line is this number, or it is none
abbrev pub Begins : List ℕ → Option ℕ → Type 0
Begins line number =
    (token : List ℕ) × (others : List (List ℕ)) × (tokens_of line ≡ token ∷ others)
    × (number_at token ≡ number)

-- a thread's next command, where it has one left
abbrev pub HasNext : List (List Command) → Follower → ℕ → Command → Type 0
HasNext traces f t command =
    (rest : List Command) × (rest_of traces f.done.items t ≡ command ∷ rest)

-- a full is licensed here: the command takes blocks, and at the start of the cycle before the
-- present one, or of the first, more blocks were live than may be
abbrev pub IsFullHere : Config → Follower → Command → Type 0
IsFullHere c f command =
    (0 < blocks_of c.width command)
    × (c.live < slice_index_or f.live.items (max 1 (length f.live.items - 1) - 1) 0)

-- an entry with the reply of the heap, and the graph after it
abbrev pub entry_here : Follower → Entry → Entry
entry_here f e = record e { reply = (step f.graph.graph e.thread e.command).1 }

abbrev pub graph_here : Follower → Entry → WideGraph
graph_here f e = with_graph f.graph (step f.graph.graph e.thread e.command).0

-- there is room to count an entry
pub record CanCount (f : Follower) (e : Entry) : Type 0 where
  pub thread : e.thread < length f.done.items
  pub done : slice_index_or f.done.items e.thread 0 < 2 ^ 32
  pub work : f.work + e.work < 2 ^ 64

-- the entry was counted, and the graph is this
pub record Counted (old new : Follower) (graph : WideGraph) (e : Entry) : Type 0 where
  pub graph_is : new.graph ≡ graph
  pub done : new.done.items
      ≡ slice_set old.done.items e.thread (slice_index_or old.done.items e.thread 0 + 1)
  pub live : new.live.items ≡ old.live.items
  pub work : new.work ≡ old.work + e.work
