-- The events that the rules see which need the graph, and when each may come. A guard says what
-- the gate, the rules on grey and Free blocks, the sweep's claims and a thread's own row say at
-- that event.
use Rattle.std.specs.Prelude.{ℕ, suc, ◌+◌, ◌<◌, ◌≤◌, ◌≡◌, ◌≢◌, ◌==◌, ◌&&◌, Bool, true, false, Some, None, List, [], ◌∷◌, ◌++◌, ◌^◌}
use Rattle.block_store.specs.declared.Config.{Config}
use Rattle.block_store.specs.declared.TheConstants.{REGISTERS}
use Rattle.block_store.specs.declared.Value.TheVariants.{Ref}
use Rattle.block_store.specs.Colours.{is_free, is_grey, free_word, grey_word, black_word, white_word}
use Rattle.block_store.specs.Payloads.{target, reference_word}
use Rattle.block_store.specs.Registers.{root_block, registers_end}
use Rattle.block_store.specs.Widths.{payloads}
use Rattle.never_heap.specs.declared.Command.{Command}
use Rattle.never_heap.specs.declared.Command.TheVariants as commands
use Rattle.never_heap.specs.declared.Entry.{Entry}
use Rattle.never_heap.specs.declared.Reply.TheVariants as replies
use Rattle.never_heap.specs.Graphs.{Graph, ObjectKind, Record, Array, count_of, next_name, with_object, with_register}
use Rattle.never_heap.specs.Histories.{HistoryItem, Started, Did, IsAnswered, after}
use Rattle.never_heap.specs.Reach.{reachable}
use Rattle.heap_invariant.specs.graph_relation.Layouts.{layout_blocks}
use Rattle.heap_invariant.specs.graph_relation.Made.{new_object, with_blocks}
use Rattle.heap_invariant.specs.graph_relation.Words.{BlockWords, with_payload, with_register_word}
use Rattle.heap_invariant.specs.graph_relation.Events as commanded
use Rattle.heap_invariant.specs.graph_relation.Events.{GraphState, Event, HasValue, IsPrompt, unloaded, value_at}
use Rattle.heap_invariant.specs.graph_relation.Events.Event.{ReadObject, ReadValue, ReadExpected, ReadShape, ReadLink, ReadField, StorePending, StoreValue, StoreConstant, StoreField, ExchangeField, Finish}
use Rattle.heap_invariant.specs.name_invariant.Building.{Build, build_in, build_blocks, build_owner, build_shape, build_payload, with_owner, with_shape, IsHeldOnce}
use Rattle.heap_invariant.specs.name_invariant.Colouring.{IsTricolour}
use Rattle.block_store.specs.Counts.{changed}
use Rattle.heap_invariant.specs.name_invariant.States.{KeptState, with_name}

pub data KeptEvent : Type 0 where
  -- a command loads or stores a word, or is over
  Serve : (e : Event) → KeptEvent
  -- and with that it is decided: the order gets its entry
  Decide : (e : Event) (entry : Entry) → KeptEvent
  -- a command is decided that leaves the graph as it is, with nothing loaded: a refusal, or full
  Answer : (entry : Entry) → KeptEvent
  -- a scan of thread t reads payload j of block x
  ReadWord : (t x j : ℕ) → KeptEvent
  -- the block to which that refers becomes grey, with the link a
  ShadeRead : (t a : ℕ) → KeptEvent
  -- the scan goes on
  PassRead : (t : ℕ) → KeptEvent
  -- a scanned block becomes black
  Blacken : (x : ℕ) → KeptEvent
  -- the write barrier: the block to which the loaded value refers becomes grey, with the link a
  ShadeLoaded : (t a : ℕ) → KeptEvent
  -- the phase becomes Sweep
  Flip : KeptEvent
  -- a white block becomes Free, with the link a
  Free : (x a : ℕ) → KeptEvent
  -- the root of thread t becomes grey for the next cycle, with the link a
  ShadeRoot : (t a : ℕ) → KeptEvent
  -- the next cycle starts
  Start : KeptEvent
  -- thread t begins to build an object of this kind and size
  Reserve : (t : ℕ) (kind : ObjectKind) (size : ℕ) → KeptEvent
  -- it holds block x, for the next ordinal
  Collect : (t x : ℕ) → KeptEvent
  -- it writes a word of ordinal o
  WriteOwner : (t o : ℕ) → KeptEvent
  WriteShape : (t o : ℕ) → KeptEvent
  WritePayload : (t o j : ℕ) → KeptEvent
  WriteColour : (t o : ℕ) → KeptEvent
  -- register d refers to the object, and its command is decided, with this much work
  Publish : (t d work : ℕ) → KeptEvent

-- whose event of a command it is, and whether it leaves the graph as it is
abbrev pub event_thread : Event → ℕ
event_thread (ReadObject t r) = t
event_thread (ReadValue t r) = t
event_thread (ReadExpected t r) = t
event_thread (ReadShape t f) = t
event_thread (ReadLink t j p) = t
event_thread (ReadField t d a i j) = t
event_thread (StorePending t) = t
event_thread (StoreValue t d) = t
event_thread (StoreConstant t d v) = t
event_thread (StoreField t a i j) = t
event_thread (ExchangeField t a i j) = t
event_thread (Finish t) = t

abbrev pub leaves_graph : Event → Bool
leaves_graph (ReadField t d a i j) = false
leaves_graph (StoreValue t d) = false
leaves_graph (StoreConstant t d v) = false
leaves_graph (StoreField t a i j) = false
leaves_graph (ExchangeField t a i j) = false
leaves_graph _ = true

-- what an event of a command makes of the graph, the words and the loads
abbrev pub served : Config → KeptState → Event → GraphState
served c s e = commanded.apply c.width s.seen e

abbrev pub loaded_word : KeptState → ℕ → ℕ
loaded_word s t = (value_at s.seen t).word

abbrev pub build_at : KeptState → ℕ → Build
build_at s t = build_in (s.builds t)

-- the block of ordinal o that thread t holds
abbrev pub held_at : KeptState → ℕ → ℕ → ℕ
held_at s t o = (build_at s t).held o

abbrev pub with_colour : KeptState → ℕ → ℕ → KeptState
with_colour s x v = record s { colour = changed s.colour x v }

abbrev pub with_words : KeptState → BlockWords → KeptState
with_words s w = record s { seen = record s.seen { words = w } }

abbrev pub with_build : KeptState → ℕ → Build → KeptState
with_build s t b = record s { builds = changed s.builds t (Some b) }

abbrev pub with_item : KeptState → HistoryItem → KeptState
with_item s i = record s { order = s.order ++ i ∷ [] }

-- the command that makes an object of this kind and size for register d, and its entry
abbrev pub making : ObjectKind → ℕ → ℕ → Command
making Record d size = commands.New d size
making Array d size = commands.Arr d size

abbrev pub made_entry : KeptState → ℕ → ℕ → ℕ → Entry
made_entry s t d work = record {
  thread = t;
  command = making (build_at s t).kind d (build_at s t).size;
  reply = replies.New (next_name s.seen.graph t);
  work = work;
}

-- what thread t begins to build, with no block held yet
abbrev pub reserved : Config → KeptState → ℕ → ObjectKind → ℕ → Build
reserved c s t kind size = record {
  name = next_name s.seen.graph t;
  kind = kind;
  size = size;
  held = λ o. 0;
  collected = 0;
  left = layout_blocks c.width kind size;
  step = 0;
}

-- the build with block x for the next ordinal
abbrev pub collected : Build → ℕ → Build
collected b x = record b { held = changed b.held b.collected x; collected = b.collected + 1 }

-- the graph with the object that thread t has built, to which its register d refers
abbrev pub published : KeptState → ℕ → ℕ → Graph
published s t d =
    let g = s.seen.graph in
    let b = build_at s t in
    with_register (with_object g t (new_object b.kind b.size)) t d (Ref (next_name g t))

-- the state after an event
abbrev pub apply : Config → KeptState → KeptEvent → KeptState
apply c s (Serve e) = record s { seen = served c s e }
apply c s (Decide e entry) = with_item (record s { seen = served c s e }) (Did entry)
apply c s (Answer entry) = with_item s (Did entry)
apply c s (ReadWord t x j) =
    record s { scans = changed s.scans t (target (s.seen.words.payload x j)) }
apply c s (ShadeRead t a) =
    record (with_colour s (s.scans t) (grey_word a)) { scans = changed s.scans t 0 }
apply c s (PassRead t) = record s { scans = changed s.scans t 0 }
apply c s (Blacken x) = with_colour s x (black_word s.cycle)
apply c s (ShadeLoaded t a) = with_colour s (target (loaded_word s t)) (grey_word a)
apply c s Flip =
    record s {
      sweep = true;
      kept = λ a. s.kept a && (s.colour (s.at a 0) == black_word s.cycle);
      shaded = λ t. false;
    }
apply c s (Free x a) = with_colour s x (free_word a)
apply c s (ShadeRoot t a) =
    record (with_colour s (root_block c.width t) (grey_word a)) {
      shaded = changed s.shaded t true;
    }
apply c s Start =
    record (with_item s Started) {
      sweep = false;
      cycle = s.cycle + 1;
      known = reachable s.seen.graph;
      kept = reachable s.seen.graph;
    }
apply c s (Reserve t kind size) = with_build s t (reserved c s t kind size)
apply c s (Collect t x) = with_build s t (collected (build_at s t) x)
apply c s (WriteOwner t o) =
    with_build
    (with_words s (with_owner s.seen.words (held_at s t o) (build_owner (build_at s t) o)))
    t (record (build_at s t) { step = 1 })
apply c s (WriteShape t o) =
    with_build (with_words s (with_shape s.seen.words (held_at s t o) (build_shape (build_at s t))))
    t (record (build_at s t) { step = 2 })
apply c s (WritePayload t o j) =
    with_build
    (with_words s (with_payload s.seen.words (held_at s t o) j
    (build_payload c.width (build_at s t) o j)))
    t (record (build_at s t) { step = j + 3 })
apply c s (WriteColour t o) =
    with_build (with_colour s (held_at s t o) (black_word s.cycle))
    t (record (build_at s t) { left = o; step = 0 })
apply c s (Publish t d work) =
    let new = next_name s.seen.graph t in
    let block = reference_word (held_at s t 0) in
    record (with_item s (Did (made_entry s t d work))) {
      seen = record {
        graph = published s t d;
        words = with_register_word c.width s.seen.words t d block;
        loads = s.seen.loads;
      };
      at = with_blocks s.at new (build_at s t).held;
      known = with_name s.known new;
      kept = with_name s.kept new;
      builds = changed s.builds t None;
    }

-- nobody is inside the gate, so nothing is loaded, read or held
pub record IsAlone (c : Config) (s : KeptState) : Type 0 where
  pub loads : (t : ℕ) → t < c.threads → s.seen.loads t ≡ unloaded
  pub scans : (t : ℕ) → t < c.threads → s.scans t ≡ 0
  pub builds : (t : ℕ) → t < c.threads → s.builds t ≡ None

-- thread t builds something
abbrev pub IsBuilding : Config → KeptState → ℕ → Type 0
IsBuilding c s t = (t < c.threads) × (s.builds t ≡ Some (build_at s t))

-- it holds all blocks
abbrev pub HasAll : Config → KeptState → ℕ → Type 0
HasAll c s t = (build_at s t).collected ≡ build_blocks c.width (build_at s t)

-- and has written the first words of ordinal o, which nobody else holds
pub record IsWriting (c : Config) (s : KeptState) (t o words : ℕ) : Type 0 where
  pub building : IsBuilding c s t
  pub all : HasAll c s t
  pub next : suc o ≡ (build_at s t).left
  pub step : (build_at s t).step ≡ words
  pub once : IsHeldOnce c.threads s.builds t o (held_at s t o)

-- a Free block after the register arrays
abbrev pub IsFreeBlock : Config → KeptState → ℕ → Type 0
IsFreeBlock c s x =
    (registers_end c.width c.threads < x) × (x ≤ c.blocks) × (is_free (s.colour x) ≡ true)

-- a command of a thread that has no store to come is answered as the graph says, or full
abbrev pub MayDecide : Config → KeptState → Entry → Type 0
MayDecide c s entry =
    (entry.thread < c.threads) × IsPrompt (s.seen.loads entry.thread)
    × IsAnswered s.seen.graph (Did entry)

-- when an event may come
abbrev pub Guard : Config → KeptState → KeptEvent → Type 0
Guard c s (Serve e) =
    commanded.Guard c.width c.threads s.seen e × (leaves_graph e ≡ true)
Guard c s (Decide e entry) =
    commanded.Guard c.width c.threads s.seen e × MayDecide c s entry
    × (entry.thread ≡ event_thread e)
    × ((served c s e).graph ≡ after s.seen.graph (Did entry))
Guard c s (Answer entry) =
    MayDecide c s entry × (after s.seen.graph (Did entry) ≡ s.seen.graph)
Guard c s (ReadWord t x j) =
    (s.sweep ≡ false) × (is_grey (s.colour x) ≡ true) × (j < payloads c.width)
Guard c s (ShadeRead t a) =
    (s.sweep ≡ false) × (t < c.threads) × (s.scans t ≢ 0)
    × (s.colour (s.scans t) ≡ white_word s.cycle)
Guard c s (PassRead t) = Unit {0}
Guard c s (Blacken x) = (s.sweep ≡ false) × (is_grey (s.colour x) ≡ true)
Guard c s (ShadeLoaded t a) =
    (s.sweep ≡ false) × (t < c.threads) × HasValue s.seen t × (target (loaded_word s t) ≢ 0)
    × (s.colour (target (loaded_word s t)) ≡ white_word s.cycle)
Guard c s Flip =
    (s.sweep ≡ false) × IsAlone c s × ((x : ℕ) → is_grey (s.colour x) ≡ false)
    × IsTricolour c.width s.cycle s.colour s.seen.words.payload
Guard c s (Free x a) = (s.sweep ≡ true) × (s.colour x ≡ white_word s.cycle)
Guard c s (ShadeRoot t a) = (s.sweep ≡ true) × (t < c.threads)
Guard c s Start =
    (s.sweep ≡ true) × IsAlone c s × ((x : ℕ) → s.colour x ≢ white_word s.cycle)
    × ((t : ℕ) → t < c.threads → s.shaded t ≡ true)
Guard c s (Reserve t kind size) =
    (t < c.threads) × (s.builds t ≡ None) × (count_of s.seen.graph t + 1 < 2 ^ 43)
    × (layout_blocks c.width kind size ≤ 1024) × (t ≤ 16)
Guard c s (Collect t x) =
    IsBuilding c s t × ((build_at s t).collected < build_blocks c.width (build_at s t))
    × IsFreeBlock c s x
Guard c s (WriteOwner t o) = IsWriting c s t o 0
Guard c s (WriteShape t o) = IsWriting c s t o 1
Guard c s (WritePayload t o j) = IsWriting c s t o (j + 2) × (j < payloads c.width)
Guard c s (WriteColour t o) = IsWriting c s t o (payloads c.width + 2)
Guard c s (Publish t d work) =
    IsBuilding c s t × HasAll c s t × ((build_at s t).left ≡ 0) × (d < REGISTERS)
    × (s.seen.loads t ≡ unloaded)

-- the state after a list of events, and whether each may come where it does
abbrev pub run : Config → KeptState → List KeptEvent → KeptState
run c s [] = s
run c s (e ∷ es) = run c (apply c s e) es

abbrev pub Guarded : Config → KeptState → List KeptEvent → Type 0
Guarded c s [] = Unit {0}
Guarded c s (e ∷ es) = Guard c s e × Guarded c (apply c s e) es
