-- What threads do by commands that allocate nothing, one word at a time: what they have loaded,
-- their events, and when each may come. W is the width of the blocks.
use Rattle.std.specs.Prelude.{ℕ, ◌^◌, ◌<◌, ◌≡◌, ◌≢◌, ◌==◌, ◌&&◌, Bool, true, false, cond, Option, Some, None, IfSome, List, [], ◌∷◌, length}
use Rattle.block_store.specs.declared.Config.{Config}
use Rattle.block_store.specs.declared.Name.{Name}
use Rattle.block_store.specs.declared.Shape.{Shape}
use Rattle.block_store.specs.declared.TheConstants.{REGISTERS}
use Rattle.block_store.specs.declared.Value.{Value}
use Rattle.block_store.specs.declared.Value.TheVariants.{Nil, Int, Ref}
use Rattle.block_store.specs.declared.Width.{Width}
use Rattle.block_store.specs.Registers.{register_block, register_slot}
use Rattle.block_store.specs.Payloads.{target}
use Rattle.block_store.specs.Shapes.{shape_of}
use Rattle.never_heap.specs.Graphs.{Graph, start_graph, object_of, field_of, register_of, with_register, with_field}
use Rattle.object_lists.specs.Parts.{Link, Field}
use Rattle.heap_invariant.specs.graph_relation.Layouts.{object_blocks, kind_shape, shape_part}
use Rattle.heap_invariant.specs.graph_relation.Words.{BlockWords, value_word, with_payload, with_register_word}
use Rattle.heap_invariant.specs.graph_relation.GraphOfWords.{heads, Shows}
use Rattle.never_heap.specs.Steps.{swapped}
use Rattle.heap_invariant.specs.graph_relation.InitialHeaps.{opening_words}

-- the block at which a thread has come in the object that its register source refers to, and the
-- shape where it was read
pub record ObjectLoad : Type 0 where
  pub source : ℕ
  pub block : ℕ
  pub ordinal : ℕ
  pub shape : Option Shape

-- the word of the value in register origin. It is pending where the register has the value already,
-- and its word is older.
pub record ValueLoad : Type 0 where
  pub origin : ℕ
  pub word : ℕ
  pub pending : Bool

-- what a thread has loaded for its command: an object, a value with which one of its fields is to
-- be compared, and a value to be stored
pub record Loading : Type 0 where
  pub object : Option ObjectLoad
  pub expected : Option ValueLoad
  pub value : Option ValueLoad

abbrev pub unloaded : Loading
unloaded = record { object = None; expected = None; value = None }

-- a value that register d has already, whose word is still to be stored
abbrev pub late : ℕ → ℕ → Loading
late d word = record {
  object = None;
  expected = None;
  value = Some (record { origin = d; word = word; pending = true });
}

abbrev pub object_in : Option ObjectLoad → ObjectLoad
object_in None = record { source = 0; block = 0; ordinal = 0; shape = None }
object_in (Some l) = l

abbrev pub value_in : Option ValueLoad → ValueLoad
value_in None = record { origin = 0; word = 0; pending = false }
value_in (Some v) = v

-- the loads with those of thread t changed
abbrev pub with_load : (ℕ → Loading) → ℕ → Loading → ℕ → Loading
with_load ls t l = λ u. cond (t == u) l (ls u)

-- a register is pending where its thread has loaded a pending value for it
abbrev pub is_pending : Option ValueLoad → ℕ → Bool
is_pending None r = false
is_pending (Some v) r = v.pending && (v.origin == r)

abbrev pub pending_registers : (ℕ → Loading) → ℕ → ℕ → Bool
pending_registers ls t r = is_pending (ls t).value r

-- no store of the thread is still to come
abbrev pub IsPrompt : Loading → Type 0
IsPrompt l = (value_in l.value).pending ≡ false

-- the graph, the words of the blocks, and what each thread has loaded
pub record GraphState : Type 0 where
  pub graph : Graph
  pub words : BlockWords
  pub loads : ℕ → Loading

-- the events of thread t
pub data Event : Type 0 where
  ReadObject : (t r : ℕ) → Event  -- register r, for the object to which it refers
  ReadValue : (t r : ℕ) → Event  -- register r, for its value
  ReadExpected : (t r : ℕ) → Event  -- register r, for the value with which a field is compared
  ReadShape : (t : ℕ) (f : Shape) → Event  -- the object's shape
  ReadLink : (t j p : ℕ) → Event  -- payload j, which links to ordinal p
  -- payload j, which is field i of a; register d of the graph has it from now on
  ReadField : (t d : ℕ) (a : Name) (i j : ℕ) → Event
  StorePending : (t : ℕ) → Event  -- the word of that value is stored in its register
  StoreValue : (t d : ℕ) → Event  -- the loaded value is stored in register d
  StoreConstant : (t d : ℕ) (v : Value) → Event  -- nil or a number is stored in register d
  -- the loaded value is stored at payload j, which is field i of a
  StoreField : (t : ℕ) (a : Name) (i j : ℕ) → Event
  -- the loaded value is stored at payload j, which is field i of a; the register that it is of has
  -- what was there from now on
  ExchangeField : (t : ℕ) (a : Name) (i j : ℕ) → Event
  Finish : (t : ℕ) → Event  -- the command is over

abbrev pub object_at : GraphState → ℕ → ObjectLoad
object_at s t = object_in (s.loads t).object

abbrev pub value_at : GraphState → ℕ → ValueLoad
value_at s t = value_in (s.loads t).value

abbrev pub expected_at : GraphState → ℕ → ValueLoad
expected_at s t = value_in (s.loads t).expected

abbrev pub register_word_in : Width → BlockWords → ℕ → ℕ → ℕ
register_word_in W w t r = w.payload (register_block W t r) (register_slot W r)

-- thread t has come to the object, or has loaded the value, beside what it had loaded
abbrev pub load_object : GraphState → ℕ → ObjectLoad → GraphState
load_object s t o =
    record s {
      loads = with_load s.loads t (record (s.loads t) { object = Some o });
    }

abbrev pub load_value : GraphState → ℕ → ValueLoad → GraphState
load_value s t v =
    record s {
      loads = with_load s.loads t (record (s.loads t) { value = Some v });
    }

abbrev pub load_expected : GraphState → ℕ → ValueLoad → GraphState
load_expected s t v =
    record s { loads = with_load s.loads t (record (s.loads t) { expected = Some v }) }

-- the state after thread t's store, with which its command is over
abbrev pub stored : GraphState → ℕ → Graph → BlockWords → GraphState
stored s t g w = record { graph = g; words = w; loads = with_load s.loads t unloaded }

-- the state after an event
abbrev pub apply : Width → GraphState → Event → GraphState
apply W s (ReadObject t r) =
    load_object s t (record {
      source = r;
      block = target (register_word_in W s.words t r);
      ordinal = 0;
      shape = None;
    })
apply W s (ReadValue t r) =
    load_value s t (record { origin = r; word = register_word_in W s.words t r; pending = false })
apply W s (ReadExpected t r) =
    load_expected s t
    (record { origin = r; word = register_word_in W s.words t r; pending = false })
apply W s (ReadShape t f) = load_object s t (record (object_at s t) { shape = Some f })
apply W s (ReadLink t j p) =
    let block = target (s.words.payload (object_at s t).block j) in
    load_object s t (record (object_at s t) { block = block; ordinal = p })
apply W s (ReadField t d a i j) =
    record {
      graph = with_register s.graph t d (field_of (object_of s.graph a) i);
      words = s.words;
      loads = with_load s.loads t (late d (s.words.payload (object_at s t).block j));
    }
apply W s (StorePending t) =
    let v = value_at s t in
    stored s t s.graph (with_register_word W s.words t v.origin v.word)
apply W s (StoreValue t d) =
    let v = value_at s t in
    stored s t (with_register s.graph t d (register_of s.graph t v.origin))
    (with_register_word W s.words t d v.word)
apply W s (StoreConstant t d v) =
    stored s t (with_register s.graph t d v)
    (with_register_word W s.words t d (value_word (λ a. 0) v))
apply W s (StoreField t a i j) =
    let v = value_at s t in
    stored s t (with_field s.graph a i (register_of s.graph t v.origin))
    (with_payload s.words (object_at s t).block j v.word)
apply W s (ExchangeField t a i j) =
    let v = value_at s t in
    let block = (object_at s t).block in
    record {
      graph = swapped s.graph t a i v.origin;
      words = with_payload s.words block j v.word;
      loads = with_load s.loads t (late v.origin (s.words.payload block j));
    }
apply W s (Finish t) = stored s t s.graph s.words

abbrev pub HasObject : GraphState → ℕ → Type 0
HasObject s t = (s.loads t).object ≡ Some (object_at s t)

abbrev pub HasValue : GraphState → ℕ → Type 0
HasValue s t = (s.loads t).value ≡ Some (value_at s t)

abbrev pub HasExpected : GraphState → ℕ → Type 0
HasExpected s t = (s.loads t).expected ≡ Some (expected_at s t)

-- the shape was read, and says of payload j that it is field i of the object of a
pub record IsAtField (W : Width) (s : GraphState) (t : ℕ) (a : Name) (i j : ℕ) : Type 0 where
  pub object : HasObject s t
  pub refers : register_of s.graph t (object_at s t).source ≡ Ref a
  pub shape : Shape
  pub read : (object_at s t).shape ≡ Some shape
  pub field : shape_part W shape (object_at s t).ordinal j ≡ Field i

-- the same for a link to ordinal p
pub record IsAtLink (W : Width) (s : GraphState) (t j p : ℕ) : Type 0 where
  pub object : HasObject s t
  pub shape : Shape
  pub read : (object_at s t).shape ≡ Some shape
  pub link : shape_part W shape (object_at s t).ordinal j ≡ Link p

-- a value that is no reference
abbrev pub IsConstant : Value → Type 0
IsConstant Nil = Unit {0}
IsConstant (Int v) = v < 2 ^ 62
IsConstant (Ref a) = ⊥

-- when an event of one of n threads may come
abbrev pub Guard : Width → ℕ → GraphState → Event → Type 0
Guard W n s (ReadObject t r) =
    (t < n) × (r < REGISTERS) × IsPrompt (s.loads t)
    × (target (register_word_in W s.words t r) ≢ 0)
Guard W n s (ReadValue t r) = (t < n) × (r < REGISTERS) × IsPrompt (s.loads t)
Guard W n s (ReadExpected t r) = (t < n) × (r < REGISTERS) × IsPrompt (s.loads t)
Guard W n s (ReadShape t f) =
    (t < n) × HasObject s t × (shape_of (s.words.shape (object_at s t).block) ≡ Some f)
Guard W n s (ReadLink t j p) = (t < n) × IsAtLink W s t j p
Guard W n s (ReadField t d a i j) =
    (t < n) × (d < REGISTERS) × IsPrompt (s.loads t) × IsAtField W s t a i j
Guard W n s (StorePending t) = (t < n) × HasValue s t × ((value_at s t).pending ≡ true)
Guard W n s (StoreValue t d) = (t < n) × (d < REGISTERS) × IsPrompt (s.loads t) × HasValue s t
Guard W n s (StoreConstant t d v) =
    (t < n) × (d < REGISTERS) × IsPrompt (s.loads t) × IsConstant v
Guard W n s (StoreField t a i j) =
    (t < n) × IsPrompt (s.loads t) × HasValue s t × IsAtField W s t a i j
Guard W n s (ExchangeField t a i j) =
    (t < n) × IsPrompt (s.loads t) × HasValue s t × IsAtField W s t a i j
Guard W n s (Finish t) = (t < n) × IsPrompt (s.loads t)

-- the state after a list of events, and whether each may come where it does
abbrev pub run : Width → GraphState → List Event → GraphState
run W s [] = s
run W s (e ∷ es) = run W (apply W s e) es

abbrev pub Guarded : Width → ℕ → GraphState → List Event → Type 0
Guarded W n s [] = Unit {0}
Guarded W n s (e ∷ es) = Guard W n s e × Guarded W n (apply W s e) es

-- The block is that of the ordinal, of the object to which the graph's register refers. That no
-- other thread changes.
pub record ObjectIs (W : Width) (g : Graph) (at : Name → ℕ → ℕ) (t : ℕ)
    (l : ObjectLoad) : Type 0 where
  pub source : l.source < REGISTERS
  pub name : Name
  pub refers : register_of g t l.source ≡ Ref name
  pub ordinal : l.ordinal < object_blocks W (object_of g name)
  pub block : l.block ≡ at name l.ordinal
  pub shape : IfSome l.shape
      (λ f. f ≡ kind_shape (object_of g name).kind (length (object_of g name).fields))

-- the word is that of the graph's register
pub record ValueIs (g : Graph) (at : Name → ℕ → ℕ) (t : ℕ) (v : ValueLoad) : Type 0 where
  pub origin : v.origin < REGISTERS
  pub word : v.word ≡ value_word (heads at) (register_of g t v.origin)

pub record LoadIs (W : Width) (g : Graph) (at : Name → ℕ → ℕ) (t : ℕ) (l : Loading) : Type 0 where
  pub object : IfSome l.object (λ o. ObjectIs W g at t o)
  pub expected : IfSome l.expected (λ v. ValueIs g at t v)
  pub value : IfSome l.value (λ v. ValueIs g at t v)

-- The words show the graph, and what the threads have loaded is of it.
pub record Follows (W : Width) (n m : ℕ) (K : Name → Type 0) (at : Name → ℕ → ℕ)
    (s : GraphState) : Type 0 where
  pub shows : Shows W n m K s.graph at s.words (pending_registers s.loads)
  pub loads : (t : ℕ) → t < n → LoadIs W s.graph at t (s.loads t)

-- the opening words of the start graph, with nothing loaded
abbrev pub opening_state : Config → GraphState
opening_state c = record { graph = start_graph c; words = opening_words c; loads = λ t. unloaded }
