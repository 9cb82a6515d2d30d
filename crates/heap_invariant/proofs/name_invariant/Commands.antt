-- What a command does: its loads and stores, and the entry with which it is decided.
use Rattle.std.proofs.Common.{◌≡◌, ℕ, ◌+◌, ◌<◌, ◌⊎◌, inl, inr, true, false, [], ◌∷◌, ◌++◌, List, length, set, refl, arith, subst, sym, ap, ◌∙◌, IfSome}
use Rattle.block_store.specs.declared.Config.{Config}
use Rattle.block_store.specs.declared.Name.{Name}
use Rattle.block_store.specs.declared.TheConstants.{REGISTERS}
use Rattle.block_store.specs.declared.Value.{Value}
use Rattle.block_store.specs.Registers.{register_block}
use Rattle.block_store.proofs.Lemmas.{register_low, register_some}
use Rattle.never_heap.specs.declared.Entry.{Entry}
use Rattle.never_heap.specs.Graphs.{Graph, mutator_at, object_of, field_of, register_of, has_name, count_of, next_name, with_register, with_field, start_graph}
use Rattle.never_heap.specs.Histories.{HistoryItem, Did, IsAnswered, after, starts_in}
use Rattle.never_heap.specs.Reach.{reachable}
use Rattle.never_heap.proofs.Lemmas.{count_with_field, graph_at_more, has_name_with_field, has_name_with_register, legal_history_more, object_with_register, objects_with, replay_more, starts_append, threads_with_field}
use Rattle.heap_invariant.specs.graph_relation.Layouts.{object_blocks}
use Rattle.heap_invariant.specs.graph_relation.Words.{BlockWords, value_word, with_payload}
use Rattle.heap_invariant.specs.graph_relation.Events as commanded
use Rattle.heap_invariant.specs.graph_relation.Events.{Loading, GraphState, Event, pending_registers, object_at, value_at, IsConstant, HasValue, IsAtField, Follows}
use Rattle.heap_invariant.specs.graph_relation.Events.Event.{ReadObject, ReadValue, ReadExpected, ReadShape, ReadLink, ReadField, StorePending, StoreValue, StoreConstant, StoreField, ExchangeField, Finish}
use Rattle.heap_invariant.proofs.graph_relation.Blocks.{other_block}
use Rattle.heap_invariant.proofs.graph_relation.ObjectLayouts.{object_layout}
use Rattle.heap_invariant.proofs.graph_relation.CommandEvents.{at_field, step_follows}
use Rattle.heap_invariant.proofs.graph_relation.Stores.{blocks_same}
use Rattle.heap_invariant.specs.name_invariant.Building.{Build, IsBuild, IsBuilt}
use Rattle.heap_invariant.specs.name_invariant.Colouring.{IfRefers, IsBlockOf, Belongs, SweepColours}
use Rattle.heap_invariant.specs.name_invariant.States.{KeptState, sizes, Known, Kept, IsKeptBlock}
use Rattle.heap_invariant.specs.name_invariant.Events.{apply, served, leaves_graph, Guard}
use Rattle.heap_invariant.specs.name_invariant.Events.KeptEvent.{Serve, Decide, Answer}
use Rattle.heap_invariant.specs.name_invariant.Invariant.{IsOrdered, IsOlder, IsPainted, Invariant}
use Rattle.heap_invariant.proofs.name_invariant.Colours.{differ, payload_written}
use Rattle.heap_invariant.proofs.name_invariant.HeldBlocks.{some_case, some_more, build_rewritten}
use Rattle.heap_invariant.proofs.name_invariant.WordTargets.{refers_value, refers_more}
use Rattle.heap_invariant.proofs.name_invariant.PendingRegisters.{older_served, older_decided, older_answered}
use Rattle.heap_invariant.proofs.name_invariant.KeptStates.{shown, build_of, belongs_not_held, kept_black, loaded_kept, value_is}

-- a decided command is the order's last item
pub entered : (c : Config) (g h : Graph) (order : List HistoryItem) (cycle : ℕ) (L : Name → Type 0)
    (entry : Entry) → IsAnswered g (Did entry) → h ≡ after g (Did entry)
    → IsOrdered c g order cycle L → IsOrdered c h (order ++ Did entry ∷ []) cycle L
entered c g h order cycle L entry answered is k = record {
  legal = legal_history_more c order (Did entry) k.legal
      (subst (λ x. IsAnswered x (Did entry)) k.replayed answered);
  replayed = is ∙ ap (λ x. after x (Did entry)) k.replayed
      ∙ sym (replay_more (start_graph c) order (Did entry));
  started = starts_append order (Did entry ∷ []) ∙ same (starts_in order) ∙ k.started;
  some = k.some;
  since = λ a la. subst (λ (x : Graph). (reachable x a ≡ true) ⊎ (has_name x a ≡ false))
      (sym (graph_at_more c order (Did entry ∷ []) cycle k.some (omega (arith, k.started))))
      (k.since a la);
}
  where
    same : (x : ℕ) → x + 0 ≡ x
    same x = omega arith

module _ (c : Config) (s : KeptState) (k : Invariant c s) where
  abbrev g : Graph
  g = s.seen.graph

  abbrev w : BlockWords
  w = s.seen.words

  -- a word is stored in a block of a register array or of a kept object, and refers to one of a
  -- kept object
  data IsStore : BlockWords → Type 0 where
    unwritten : IsStore w
    stored : (x j v : ℕ) → IsKeptBlock c s x → IfRefers (IsBlockOf (Kept s) (sizes c s) s.at) v
        → IsStore (with_payload w x j v)

  -- a move leaves the names and sizes of objects, and stores at most one word
  record Moves (h : Graph) (u : BlockWords) : Type 0 where
    names : (a : Name) → has_name h a ≡ has_name g a
    blocks : (a : Name) → object_blocks c.width (object_of h a) ≡ object_blocks c.width
        (object_of g a)
    counts : (t : ℕ) → count_of h t ≡ count_of g t
    store : IsStore u

  still : (u : BlockWords) → IsStore u → Moves g u
  still u store = record {
    names = λ a. refl;
    blocks = λ a. refl;
    counts = λ t. refl;
    store = store;
  }

  in_graph : (t : ℕ) → t < c.threads → t < length g.mutators
  in_graph t tn = subst (λ n. t < n) (sym (shown c s k).sized.threads) tn

  in_register : (u : BlockWords) (t d : ℕ) (v : Value) → t < c.threads → IsStore u
      → Moves (with_register g t d v) u
  in_register u t d v tn store = record {
    names = λ a. has_name_with_register g t d v a (in_graph t tn);
    blocks = λ a. ap (object_blocks c.width) (object_with_register g t d v a (in_graph t tn));
    counts = λ x. ap length
        (objects_with g t x (record {
          registers = set (mutator_at g t).registers d v;
          objects = (mutator_at g t).objects;
        }) (in_graph t tn) refl);
    store = store;
  }

  in_array : (t r : ℕ) → t < c.threads → r < REGISTERS
      → IsKeptBlock c s (register_block c.width t r)
  in_array t r tn rl = inl (register_some c.width t r, register_low c.width c.threads t r tn rl)

  constant_refers : (v : Value) → IsConstant v
      → IfRefers (IsBlockOf (Kept s) (sizes c s) s.at) (value_word (λ a. 0) v)
  constant_refers v is = refers_value (IsBlockOf (Kept s) (sizes c s) s.at) (λ a. 0) v
      (λ a e. absurd (subst IsConstant e is))

  -- the loaded value is stored in a field
  in_field : (t : ℕ) (a : Name) (i j : ℕ) → t < c.threads → HasValue s.seen t
      → IsAtField c.width s.seen t a i j
      → Moves (with_field g a i (register_of g t (value_at s.seen t).origin))
      (with_payload w (object_at s.seen t).block j (value_at s.seen t).word)
  in_field t a i j tn has q =
      let (ka, block, low, field) = at_field c.width c.threads c.blocks (Kept s) s.at s.seen
      k.follows t a i j tn q in
      let place = (object_layout c.width (object_of g a)).slots (object_at s.seen t).ordinal j i
      field in
      let v = register_of g t (value_at s.seen t).origin in
      let kept = (shown c s k).closed.registers t (value_at s.seen t).origin tn
      (value_is c s k t tn has).origin in
      let named = (shown c s k).names a ka in
      record {
        names = λ b. has_name_with_field g a i _ named b;
        blocks = λ b. blocks_same c.width c.threads c.blocks (Kept s) g s.at w
            (pending_registers s.seen.loads)
            (shown c s k) a i _ ka place.0 kept b;
        counts = λ x. count_with_field g a i _ named x;
        store = stored (object_at s.seen t).block j _
            (inr (record {
              name = a;
              ordinal = (object_at s.seen t).ordinal;
              kept = ka;
              low = low;
              is = block;
            })) (loaded_kept c s k t tn has);
      }

  -- and a register takes what was there
  and_register : (h : Graph) (u : BlockWords) (t d : ℕ) (v : Value) → t < length h.mutators
      → Moves h u → Moves (with_register h t d v) u
  and_register h u t d v tn m = record {
    names = λ a. has_name_with_register h t d v a tn ∙ m.names a;
    blocks = λ a. ap (object_blocks c.width) (object_with_register h t d v a tn) ∙ m.blocks a;
    counts = λ x. ap length
        (objects_with h t x (record {
          registers = set (mutator_at h t).registers d v;
          objects = (mutator_at h t).objects;
        }) tn refl) ∙ m.counts x;
    store = m.store;
  }

  -- each event of a command is such a move
  served_moves : (e : Event) → commanded.Guard c.width c.threads s.seen e
      → Moves (served c s e).graph (served c s e).words
  served_moves (ReadObject t r) q = still w unwritten
  served_moves (ReadValue t r) q = still w unwritten
  served_moves (ReadExpected t r) q = still w unwritten
  served_moves (ReadShape t f) q = still w unwritten
  served_moves (ReadLink t j p) q = still w unwritten
  served_moves (ReadField t d a i j) q = in_register w t d _ q.0 unwritten
  served_moves (StorePending t) q = still _
      (stored (register_block c.width t (value_at s.seen t).origin) _ _
      (in_array t (value_at s.seen t).origin q.0 (value_is c s k t q.0 q.1).origin)
      (loaded_kept c s k t q.0 q.1))
  served_moves (StoreValue t d) q = in_register _ t d _ q.0
      (stored (register_block c.width t d) _ _ (in_array t d q.0 q.1) (loaded_kept c s k t q.0 q.3))
  served_moves (StoreConstant t d v) q = in_register _ t d v q.0
      (stored (register_block c.width t d) _ _ (in_array t d q.0 q.1) (constant_refers v q.3))
  served_moves (StoreField t a i j) q = in_field t a i j q.0 q.2 q.3
  served_moves (ExchangeField t a i j) q =
      and_register (with_field g a i (register_of g t (value_at s.seen t).origin)) _ t
      (value_at s.seen t).origin (field_of (object_of g a) i)
      (subst (λ n. t < n) (sym (threads_with_field g a i _
      ((shown c s k).names a (at_field c.width c.threads c.blocks (Kept s) s.at s.seen k.follows t a
      i j q.0 q.3).0))) (in_graph t q.0))
      (in_field t a i j q.0 q.2 q.3)
  served_moves (Finish t) q = still w unwritten

  builds_moved : (u : BlockWords) → IsStore u → (t : ℕ) → t < c.threads
      → IfSome (s.builds t) (λ b. IsBuild c.width c.threads c.blocks s.cycle s.colour u b)
  builds_moved _ unwritten t tn = k.builds t tn
  builds_moved _ (stored x j v there refers) t tn = some_case
      (λ b. IsBuild c.width c.threads c.blocks s.cycle s.colour (with_payload w x j v) b)
      (s.builds t)
      (λ b is. build_rewritten c.width c.threads c.blocks s.cycle s.colour w b
      (build_of c s k t b tn is)
      (with_payload w x j v)
      (λ o ol. other_block c.width w x j v (b.held o)
      (λ e. belongs_not_held c s k x there t b tn is o ol e)))

  sweep_moved : (u : BlockWords) → IsStore u → s.sweep ≡ true
      → SweepColours c.width c.threads s.cycle (Kept s) (sizes c s) s.at s.colour u.payload s.shaded
  sweep_moved _ unwritten sweep = k.sweeping sweep
  sweep_moved _ (stored x j v there refers) sweep = payload_written c.width c.threads s.cycle
      (Kept s)
      (sizes c s) s.at s.colour w.payload s.shaded (k.sweeping sweep) x j v
      (λ _. refers_more (IsBlockOf (Kept s) (sizes c s) s.at) _ v
      (λ y b. kept_black c s k sweep y b) refers)

  -- so it keeps everything, if it keeps the order
  moved : (now : GraphState) (order : List HistoryItem) → Moves now.graph now.words
      → Follows c.width c.threads c.blocks (Kept s) s.at now → IsOrdered c now.graph order s.cycle
      (Known s)
      → ((u r : ℕ) → u < c.threads → r < REGISTERS → pending_registers now.loads u r ≡ true
      → IsOlder c order now.words (Kept s) s.at u r)
      → Invariant c (record s { seen = now; order = order })
  moved now order m follows ordered older =
      let same : sizes c s ≡ (λ a. object_blocks c.width (object_of now.graph a)) = λ i a. sym
      (m.blocks a) i in
      record {
        ordered = ordered;
        follows = follows;
        older = older;
        known = k.known;
        named = λ a la. m.names a ∙ k.named a la;
        painted = subst (λ f. IsPainted c.width c.threads s.cycle (Known s) (Kept s) f s.at s.colour
            (IsBuilt c.width c.threads s.builds)) same k.painted;
        builds = builds_moved now.words m.store;
        titles = λ t tn. some_more (λ (b : Build). b.name ≡ next_name g t)
            (λ (b : Build). b.name ≡ next_name now.graph t) (s.builds t)
            (λ b is e. e ∙ ap (λ z. record { thread = t; serial = z + 1 }) (sym (m.counts t)))
            (k.titles t tn);
        scans = λ t tn some. subst (λ f. Belongs c.width c.threads (Known s) f s.at (s.scans t))
            same
            (k.scans t tn some);
        marking = k.marking;
        sweeping = λ sweep. subst
            (λ f. SweepColours c.width c.threads s.cycle (Kept s) f s.at s.colour now.words.payload
            s.shaded) same
            (sweep_moved now.words m.store sweep);
      }

  follows_on : (e : Event) → commanded.Guard c.width c.threads s.seen e
      → Follows c.width c.threads c.blocks (Kept s) s.at (served c s e)
  follows_on e q = step_follows c.width c.threads c.blocks (Kept s) s.at s.seen e q k.follows

  graph_left : (e : Event) → leaves_graph e ≡ true → (served c s e).graph ≡ g
  graph_left (ReadObject t r) is = refl
  graph_left (ReadValue t r) is = refl
  graph_left (ReadExpected t r) is = refl
  graph_left (ReadShape t f) is = refl
  graph_left (ReadLink t j p) is = refl
  graph_left (ReadField t d a i j) is = absurd (differ false is refl)
  graph_left (StorePending t) is = refl
  graph_left (StoreValue t d) is = absurd (differ false is refl)
  graph_left (StoreConstant t d v) is = absurd (differ false is refl)
  graph_left (StoreField t a i j) is = absurd (differ false is refl)
  graph_left (ExchangeField t a i j) is = absurd (differ false is refl)
  graph_left (Finish t) is = refl

  pub serves : (e : Event) → Guard c s (Serve e) → Invariant c (apply c s (Serve e))
  serves e q = moved (served c s e) s.order (served_moves e q.0) (follows_on e q.0)
      (subst (λ (g : Graph). IsOrdered c g s.order s.cycle (Known s)) (sym (graph_left e q.1))
      k.ordered) (older_served c s k e q.0 q.1)

  pub decides : (e : Event) (entry : Entry) → Guard c s (Decide e entry)
      → Invariant c (apply c s (Decide e entry))
  decides e entry q = moved (served c s e) (s.order ++ Did entry ∷ []) (served_moves e q.0)
      (follows_on e q.0) (entered c g (served c s e).graph s.order s.cycle
      (Known s) entry q.1.2 q.3 k.ordered) (older_decided c s k e entry q.0 q.1 q.2)

  pub answers : (entry : Entry) → Guard c s (Answer entry) → Invariant c (apply c s (Answer entry))
  answers entry q = moved s.seen (s.order ++ Did entry ∷ []) (still w unwritten) k.follows
      (entered c g g s.order s.cycle (Known s) entry q.0.2 (sym q.1) k.ordered)
      (older_answered c s k entry q.0)
