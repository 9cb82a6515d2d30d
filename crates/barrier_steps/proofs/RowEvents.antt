-- A row is its event: the words, what the thread has loaded and the graph are those after it, and
-- it may come where it does.
use Rattle.std.proofs.Common.{false, ◌≡◌, ◌≢◌, ℕ, ◌+◌, ◌<◌, true, not, cond, Option, None, Some, IfSome, IsSome, refl, sym, ap, ◌∙◌, subst, inl, inr, ltb, eqb, eq-eqb, ltb-true, Bool, length}
use Rattle.barrier_steps.proofs.Common.{cases_Bool, cases_eq, ne_eqb, Config, Name, Shape, Value, Heap, put_at, payload_of, target, white_word, extent, ColourOf, PayloadOf, heap_after, shape_of, Command, Reply, IsCommandInRange, register_of, Graph, object_of, field_of, with_register, with_field, shape_part, register_block, register_slot, block_words, value_word, ValueLoad, Loading, value_in, GraphState, Event, IsPrompt, value_at, Pass, GreyRow, FieldRow, Purpose, FieldStore, TreePath, to_register, from_register, other_register, field_index, constant_word, expected_register, is_say, is_swap, is_cas, takes_field, answers_value, stores_in_field, shape_length, links_to, link_at, field_at, ordinal_at, payload_in, shape_or_empty, shape_in, register_wanted, field_place, before_store, in_barrier, row_want, row_got, after_object, after_shape, after_field, after_said, after_owner, at_block, on_way, way_from, way_on, reads_beside_graph, IsWalk, IsThere, FitsAt, ReadsAt, is_row_of, refers, length_decides, is_deciding, store_loading, wanted_loading, row_loading, constant_set, register_event, row_event, after_event, IsAt, InHandAt, walk_load, object_on, object_load, step, swapped, same_value, graph_after, FieldFound, ShownAt, LoadRegister, LoadShape, LoadLink, LoadField, LoadOwner, Shade, Store, StoreConstant, IdleLook, Answered, Moved, Pending, InField, Exchanged, Compared}
use Rattle.barrier_steps.specs.declared.rows.Purpose.TheVariants as wants
use Rattle.block_store.specs.declared.Value.TheVariants as values
use Rattle.never_heap.specs.declared.Command.TheVariants as commands
use Rattle.never_heap.specs.declared.Reply.TheVariants as replies
use Rattle.heap_invariant.specs.graph_relation.Words.{BlockWords, with_payload}
use Rattle.heap_invariant.specs.graph_relation.Events as events
use Rattle.heap_invariant.specs.graph_relation.Events.{ObjectLoad, unloaded, object_in, with_load, Guard, HasObject, HasValue, object_at, register_word_in, IsAtField, IsAtLink, IsConstant}
use Rattle.grey_steps.specs.declared.rows.GreyRow.TheVariants as greys
use Rattle.barrier_steps.specs.Rows as rows
use Rattle.barrier_steps.proofs.FieldRows.{to_low, from_low, wanted_low, way_is, payload_cases, reference, get_takes, swap_takes, taken_register}
use Rattle.barrier_steps.proofs.Decisions.{before_is, barrier_is, both, field_is, either, graph_is, object_refused, shape_refused, Has, get_is, put_is, swap_is, cas_is, constant_is, mov_is, same_step_is, say_is, idle_is}
use Rattle.barrier_steps.specs.Projection.{carried_load, expected_load, value_load, pending_load}

set_constant : (k : Command) → (value_word (λ b. 0) (constant_set k) ≡ constant_word k) × (IsCommandInRange k → IsConstant (constant_set k))
set_constant (commands.Set d v) = (refl, λ h. h.1)
set_constant _ = (refl, λ h. tt)

-- what a command that stores in a field has loaded is its value, and what `cas` has loaded is the
-- one with which it compares
stores_carries : (k : Command) (w : ℕ) → stores_in_field k ≡ true → carried_load k w ≡ value_load (other_register k) w
stores_carries (commands.Put s i v) w is = refl
stores_carries _ w is = cc

pub cas_expects : (k : Command) (w : ℕ) → is_cas k ≡ true → expected_load k w ≡ value_load (expected_register k) w
cas_expects (commands.Cas s i a v) w is = refl
cas_expects _ w is = absurd cc

-- the register of a `swap` is the one whose word it has loaded
pub swap_register : (k : Command) → is_swap k ≡ true → other_register k ≡ to_register k
swap_register (commands.Swap s i v) is = refl
swap_register _ is = absurd cc

-- the word that a row reads in a block
pub payload_read : (s : GraphState) (h : Heap) (x j w : ℕ) → s.words ≡ block_words h → w ≡ h (PayloadOf x j) → s.words.payload x j ≡ w
payload_read s h x j w is reads = ap (λ b. b.payload x j) is ∙ sym reads

abbrev triple : Option ObjectLoad → Option ValueLoad → Option ValueLoad → Loading
triple o x v = record { object = o; expected = x; value = v }

abbrev pair : Option ObjectLoad → Option ValueLoad → Loading
pair o v = triple o None v

-- what the rows of a command have loaded
module _ (c : Config) (p : Pass) (k : Command) where
  abbrev loading : FieldRow → Loading
  loading row = row_loading (extent c) k row

  -- it stays until the store, at once or after its barrier
  before_loading : (store : FieldStore) → loading (before_store p store) ≡ store_loading (extent c) k store
  before_loading store = before_is (λ row. loading row ≡ store_loading (extent c) k store) p store (λ _. refl) (λ _. refl)

  pub barrier_loading : (r : GreyRow) (store : FieldStore) → loading (in_barrier r store) ≡ store_loading (extent c) k store
  barrier_loading r store = barrier_is (λ row. loading row ≡ store_loading (extent c) k store) r store (λ _. refl) (λ _. refl)

  abbrev on_its_way : TreePath → ℕ → Loading
  on_its_way way word = triple (object_on (extent c) k way) (expected_load k way.expected) (carried_load k word)

  field_loading : (word : ℕ) → takes_field k ≡ true → loading (after_field word (payload_in word)) ≡ pair None (pending_load (to_register k) word)
  field_loading word is = field_is (λ row. loading row ≡ pair None (pending_load (to_register k) word)) word (payload_in word) (λ v. refl)
      (λ i. pair None (Some (record { origin = taken_register k is i; word = word; pending = is i })))

-- what `say` has loaded is what it shows
said_loading : (c : Config) (p : Pass) (k : Command) (w : ℕ) → is_say k ≡ true → loading c p k (LoadOwner w) ≡ pair None (value_load (from_register k) w)
said_loading c p (commands.Say s) w is = refl
said_loading c p _ w is = absurd cc

block_loading : (c : Config) (p : Pass) (k : Command) (way : TreePath) (word : ℕ) → loading c p k (at_block p k way word) ≡ on_its_way c p k way word
block_loading c p (commands.Put s i v) way word = before_loading c p (commands.Put s i v) (InField way word)
block_loading c p (commands.Swap s i v) way word = before_loading c p (commands.Swap s i v) (Exchanged way word)
block_loading c p (commands.Cas s i a v) way word = before_loading c p (commands.Cas s i a v) (Compared way word)
block_loading c p _ way word = refl

way_loading : (c : Config) (p : Pass) (k : Command) (way : TreePath) (word : ℕ) → loading c p k (on_way (extent c) p k way word) ≡ on_its_way c p k way word
way_loading c p k way word = either (λ row. loading c p k row ≡ on_its_way c p k way word)
    (ltb way.level (links_to (extent c) way.shape (field_index k))) _ _ refl (block_loading c p k way word)

-- no load changes where the row has the same
pub unmoved : (ls : ℕ → Loading) (t : ℕ) (l : Loading) (u : ℕ) → ls t ≡ l → ls u ≡ with_load ls t l u
unmoved ls t l u e = elim (cases_eq t u) [
  | inl same ↦ rw (eq-eqb t u same) (ap ls (sym same) ∙ e)
  | inr ne ↦ rw (ne_eqb t u ne) refl
]

-- what is loaded is there
has_object : (s : GraphState) (t : ℕ) (o : ObjectLoad) → (s.loads t).object ≡ Some o → HasObject s t
has_object s t o e = e ∙ ap (λ x. Some (object_in x)) (sym e)

pub has_value : (s : GraphState) (t : ℕ) (v : ValueLoad) → (s.loads t).value ≡ Some v → HasValue s t
has_value s t v e = e ∙ ap (λ x. Some (value_in x)) (sym e)

shape_read : (o : Option Shape) → IsSome o → o ≡ Some (shape_or_empty o)
shape_read None h = absurd cc
shape_read (Some f) h = refl

-- the event of a row at state s
module _ (c : Config) (s : GraphState) (t : ℕ) where
  -- it leaves words and graph
  abbrev Leaves : Option Event → Type 0
  Leaves o = ((after_event (extent c) s o).words ≡ s.words) × ((after_event (extent c) s o).graph ≡ s.graph)

  pub register_leaves : (k : Command) (wanted : Purpose) (w : ℕ) → Leaves (register_event t k wanted w)
  register_leaves k wants.Object w = either Leaves (refers (payload_in w)) _ _ (refl, refl) (refl, refl)
  register_leaves k wants.Shown w = either Leaves (refers (payload_in w)) _ _ (refl, refl) (refl, refl)
  register_leaves k _ w = (refl, refl)

  -- after it the thread has loaded l
  abbrev LoadsTo : Loading → ℕ → Option Event → Type 0
  LoadsTo l u o = (after_event (extent c) s o).loads u ≡ with_load s.loads t l u

  -- a value is read beside what was loaded
  value_moved : (r w u : ℕ) (before l : Loading) → s.loads t ≡ before → register_word_in c.width s.words t r ≡ w
      → l ≡ record before { value = value_load r w } → LoadsTo l u (Some (events.ReadValue t r))
  value_moved r w u before l loads word is =
      (λ i. with_load s.loads t (record (loads i) { value = value_load r (word i) }) u) ∙ ap (λ y. with_load s.loads t y u) (sym is)

  -- the shape of an object, whose way begins, where an index is tried
  index_moved : (p : Pass) (k : Command) (x u i : ℕ) (f : Shape) (row : FieldRow) → s.loads t ≡ pair (object_load (from_register k) x) None
      → loading c p k row ≡ pair (walk_load (extent c) (from_register k) i (way_from f x)) None
      → LoadsTo (loading c p k (cond (ltb i (shape_length f)) row (Answered replies.Range))) u (cond (not (ltb i (shape_length f))) (Some (events.Finish t)) (Some (events.ReadShape t f)))
  index_moved p k x u i f row loads goes = elim (cases_Bool (ltb i (shape_length f))) [
    | inl is ↦ rw is ((λ j. with_load s.loads t (record (loads j) { object = Some (record (object_in (loads j).object) { shape = Some f }) }) u)
        ∙ ap (λ o. with_load s.loads t (pair (Some (record { source = from_register k; block = x; ordinal = o; shape = Some f })) None) u)
        (sym (way_is c f i (ltb-true i (shape_length f) is)).starts)
        ∙ ap (λ y. with_load s.loads t y u) (sym goes))
    | inr is ↦ rw is refl
  ]

  shape_moved : (p : Pass) (k : Command) (x u : ℕ) (f : Shape) → s.loads t ≡ pair (object_load (from_register k) x) None
      → LoadsTo (loading c p k (after_shape (extent c) p k x f)) u (cond (length_decides k (shape_length f)) (Some (events.Finish t)) (Some (events.ReadShape t f)))
  shape_moved p (commands.Get d r i) x u f loads = index_moved p (commands.Get d r i) x u i f _ loads (way_loading c p (commands.Get d r i) (way_from f x) 0)
  shape_moved p (commands.Put r i v) x u f loads = index_moved p (commands.Put r i v) x u i f _ loads refl
  shape_moved p (commands.Swap r i v) x u f loads = index_moved p (commands.Swap r i v) x u i f _ loads refl
  shape_moved p (commands.Cas r i q v) x u f loads = index_moved p (commands.Cas r i q v) x u i f _ loads refl
  shape_moved p _ x u f loads = refl

  -- after a link the thread is at the next block of the way
  link_moved : (p : Pass) (k : Command) (w u : ℕ) (way : TreePath) (word : ℕ) → s.loads t ≡ on_its_way c p k way word
      → s.words.payload way.block (link_at (extent c) way.shape (field_index k) way.level) ≡ w
      → LoadsTo (loading c p k (on_way (extent c) p k (way_on way (target w)) word)) u (Some (events.ReadLink t (link_at (extent c) way.shape (field_index k) way.level) (ordinal_at (extent c) way.shape (field_index k) (way.level + 1))))
  link_moved p k w u way word loads read =
      let j = link_at (extent c) way.shape (field_index k) way.level in
      let next = ordinal_at (extent c) way.shape (field_index k) (way.level + 1) in
      (λ i. with_load s.loads t (record (loads i) { object = Some (record (object_in (loads i).object) { block = target (s.words.payload (object_in (loads i).object).block j); ordinal = next }) }) u)
      ∙ (λ i. with_load s.loads t (on_its_way c p k (record (way_on way (target w)) { block = target (read i) }) word) u)
      ∙ ap (λ y. with_load s.loads t y u) (sym (way_loading c p k (way_on way (target w)) word))

  owner_loads : (p : Pass) (k : Command) (word u : ℕ) (value : Value) → answers_value k ≡ true → s.loads t ≡ loading c p k (LoadOwner word)
      → LoadsTo (loading c p k (after_owner p k word value)) u (cond (takes_field k) None (Some (events.Finish t)))
  owner_loads p (commands.Say r) word u value is loads = refl
  owner_loads p (commands.Get d r i) word u value is loads =
      unmoved s.loads t _ u (loads ∙ sym (before_loading c p (commands.Get d r i) (Pending word value)))
  owner_loads p (commands.Swap r i v) word u value is loads =
      unmoved s.loads t _ u (loads ∙ sym (before_loading c p (commands.Swap r i v) (Pending word value)))
  owner_loads p _ word u value is loads = absurd cc

  -- that event is none, or may come
  abbrev MayCome : Option Event → Type 0
  MayCome o = IfSome o (Guard c.width c.threads s)

  -- the store of the thread is not still to come
  prompt : (l : Loading) → s.loads t ≡ l → IsPrompt l → IsPrompt (s.loads t)
  prompt l e h = ap (λ x. (value_in x.value).pending) e ∙ h

  register_guarded : (k : Command) (wanted : Purpose) (w : ℕ) → t < c.threads → IsCommandInRange k → IsSome (payload_of w)
      → s.loads t ≡ wanted_loading (extent c) k wanted → register_word_in c.width s.words t (register_wanted k wanted) ≡ w
      → MayCome (register_event t k wanted w)
  register_guarded k wants.Object w tn range some loads read = payload_cases w some
      (λ q. MayCome (cond (refers q) (Some (events.ReadObject t (from_register k))) None)) (λ none. tt) (λ v none low. tt)
      (λ x is some. (tn, from_low k range, prompt unloaded loads refl, subst (λ y. target y ≢ 0) (sym read) (reference x w is some)))
  register_guarded k (wants.Second word) w tn range some loads read = (tn, prompt _ loads refl)
  register_guarded k wants.Shown w tn range some loads read =
      either MayCome (refers (payload_in w)) _ _ (tn, from_low k range, prompt unloaded loads refl) tt
  register_guarded k wanted w tn range some loads read = (tn, wanted_low k wanted range, prompt _ loads refl)

  owner_guarded : (b : Bool) → t < c.threads → (value_at s t).pending ≡ b → MayCome (cond b None (Some (events.Finish t)))
  owner_guarded true tn is = tt
  owner_guarded false tn is = (tn, is)

  -- at a link or a field of its way
  module _ (r i : ℕ) (way : TreePath) (loads : (s.loads t).object ≡ walk_load (extent c) r i way) (is : IsWalk c i way) where
    here : object_at s t ≡ object_in (walk_load (extent c) r i way)
    here = ap object_in loads

    at_field : (a : Name) → IsThere c i way → register_of s.graph t r ≡ values.Ref a → IsAtField c.width s t a i (field_at (extent c) way.shape i)
    at_field a there refers = record {
      object = has_object s t (object_in (walk_load (extent c) r i way)) loads;
      refers = ap (λ o. register_of s.graph t o.source) here ∙ refers;
      shape = way.shape;
      read = ap (λ o. o.shape) here;
      field = ap (λ o. shape_part c.width way.shape o.ordinal (field_at (extent c) way.shape i)) here
          ∙ ap (λ l. shape_part c.width way.shape (ordinal_at (extent c) way.shape i l) (field_at (extent c) way.shape i)) there
          ∙ (way_is c way.shape i is.index).ends;
    }

    at_link : way.level < links_to (extent c) way.shape i → IsAtLink c.width s t (link_at (extent c) way.shape i way.level) (ordinal_at (extent c) way.shape i (way.level + 1))
    at_link low = record {
      object = has_object s t (object_in (walk_load (extent c) r i way)) loads;
      shape = way.shape;
      read = ap (λ o. o.shape) here;
      link = ap (λ o. shape_part c.width way.shape o.ordinal (link_at (extent c) way.shape i way.level)) here
          ∙ (way_is c way.shape i is.index).links way.level low;
    }

-- the name of an object that a register refers to
pub one_name : (v : Value) (a b : Name) → v ≡ values.Ref a → v ≡ values.Ref b → a ≡ b
one_name v a b e f = let same : values.Ref a ≡ values.Ref b = sym e ∙ f in cc

-- the object in hand has the field
pub within : (g : Graph) (t : ℕ) (k : Command) (a : Name) (found : FieldFound g t (from_register k) (field_index k)) → register_of g t (from_register k) ≡ values.Ref a → Has g t k a
within g t k a found hand =
    let same = one_name (register_of g t (from_register k)) found.name a found.refers hand in
    (hand, subst (λ b. field_index k < length (object_of g b).fields) same found.within)

-- a row of command k of this pass, where a is the object in hand
module _ (c : Config) (s : GraphState) (a : Name) (p : Pass) (k : Command) where
  abbrev stored_at : TreePath → ℕ
  stored_at way = field_at (extent c) way.shape (field_index k)

  abbrev graph : Option Event → Graph
  graph o = (after_event (extent c) s o).graph

  -- an event that does not decide leaves the graph
  pub graph_stays : (row : FieldRow) (w : ℕ) → is_deciding k row w ≡ false → graph (row_event (extent c) a p.thread k row w) ≡ s.graph
  graph_stays (LoadRegister wanted) w n = (register_leaves c s p.thread k wanted w).1
  graph_stays (LoadShape x) w n = either (λ o. graph o ≡ s.graph) (length_decides k (shape_length (shape_in w))) _ _ refl refl
  graph_stays (LoadOwner word) w n = either (λ o. graph o ≡ s.graph) (takes_field k) _ _ refl refl
  graph_stays (Store (Pending word value)) w n = refl
  graph_stays _ w n = cc

  module _ (head : Name → ℕ) where
    -- the linearization point makes the step
    steps : (x : Graph × Reply) → step s.graph p.thread k ≡ x → x.0 ≡ graph_after s.graph p.thread k
    steps x e = sym (graph_is s.graph p.thread k x e)

    pub graph_steps : (row : FieldRow) (w : ℕ) → is_row_of c p k row ≡ true → is_deciding k row w ≡ true → ShownAt head s.graph p.thread k row w
        → s.loads p.thread ≡ row_loading (extent c) k row → InHandAt s a p.thread k row
        → graph (row_event (extent c) a p.thread k row w) ≡ graph_after s.graph p.thread k
    graph_steps (LoadRegister wants.Object) w is n h loads hand =
        (register_leaves c s p.thread k wants.Object w).1 ∙ steps _ (object_refused head s.graph p.thread w k is h n).2
    graph_steps (LoadRegister (wants.Second word)) w is n h loads hand = steps _ (same_step_is s.graph p.thread k is)
    graph_steps (LoadRegister wants.Shown) w is n h loads hand =
        (register_leaves c s p.thread k wants.Shown w).1 ∙ steps _ (say_is s.graph p.thread k is)
    graph_steps (LoadShape x) w is n h loads hand =
        either (λ o. graph o ≡ s.graph) (length_decides k (shape_length (shape_in w))) (Some (events.Finish p.thread)) _ refl refl
        ∙ steps _ (shape_refused c p s.graph p.thread x w k is h n).2
    graph_steps (LoadField way) w is n h loads hand = steps _ (get_is s.graph p.thread k a is (within s.graph p.thread k a h.0 hand))
    graph_steps (Store (Moved word)) w is n h loads hand =
        (λ i. with_register s.graph p.thread (to_register k) (register_of s.graph p.thread (value_in (loads i).value).origin))
        ∙ steps _ (mov_is s.graph p.thread k is)
    graph_steps (Store (InField way word)) w is n h loads hand =
        (λ i. with_field s.graph a (field_index k) (register_of s.graph p.thread (value_in (loads i).value).origin))
        ∙ steps _ (put_is s.graph p.thread k a is (within s.graph p.thread k a h hand))
    graph_steps (Store (Exchanged way word)) w is n h loads hand =
        (λ i. swapped s.graph p.thread a (field_index k) (value_in (loads i).value).origin)
        ∙ steps _ (swap_is s.graph p.thread k a is (within s.graph p.thread k a h.0 hand))
    graph_steps (Store (Compared way word)) w is n h loads hand =
        both (λ b. graph (cond b (Some (events.StoreField p.thread a (field_index k) (stored_at way))) (Some (events.Finish p.thread)))
        ≡ cond b (with_field s.graph a (field_index k) (register_of s.graph p.thread (other_register k))) s.graph) (eqb w way.expected)
        (λ i. with_field s.graph a (field_index k) (register_of s.graph p.thread (value_in (loads i).value).origin)) refl
        ∙ steps _ (cas_is s.graph p.thread k a (eqb w way.expected) is (within s.graph p.thread k a h.0 hand)
        (subst (λ b. eqb w way.expected ≡ same_value (field_of (object_of s.graph b) (field_index k)) (register_of s.graph p.thread (expected_register k)))
        (one_name (register_of s.graph p.thread (from_register k)) h.0.name a h.0.refers hand) h.1))
    graph_steps StoreConstant w is n h loads hand = steps _ (constant_is s.graph p.thread k is)
    graph_steps IdleLook w is n h loads hand = steps _ (idle_is s.graph p.thread k is)
    graph_steps _ w is n h loads hand = absurd cc

  module _ (h : Heap) where
    -- the words are those that the row's operation leaves; marking writes none of them
    abbrev WordsAre : BlockWords → Option Event → Type 0
    WordsAre words o = (after_event (extent c) s o).words ≡ words

    abbrev tried : TreePath → ℕ → Bool → BlockWords
    tried way word b = block_words (cond b (put_at h (field_place (extent c) k way) word) h)

    pub words_moved : (row : FieldRow) (w : ℕ) → IsAt (extent c) s h p k row w
        → WordsAre (block_words (heap_after h (row_want (extent c) p k row))) (row_event (extent c) a p.thread k row w)
    words_moved (LoadRegister wanted) w at = (register_leaves c s p.thread k wanted w).0 ∙ at.words
    words_moved (LoadShape x) w at = either (WordsAre (block_words h)) (length_decides k (shape_length (shape_in w))) _ _ at.words at.words
    words_moved (LoadOwner word) w at = either (WordsAre (block_words h)) (takes_field k) _ _ at.words at.words
    words_moved (Store (Moved word)) w at =
        λ i. with_payload (at.words i) (register_block c.width p.thread (to_register k)) (register_slot c.width (to_register k)) (value_in (at.loads i).value).word
    words_moved (Store (Pending word value)) w at =
        λ i. let v = value_in (at.loads i).value in
        with_payload (at.words i) (register_block c.width p.thread v.origin) (register_slot c.width v.origin) v.word
    words_moved (Store (InField way word)) w at =
        λ i. with_payload (at.words i) (object_in (at.loads i).object).block (stored_at way) (value_in (at.loads i).value).word
    words_moved (Store (Exchanged way word)) w at =
        λ i. with_payload (at.words i) (object_in (at.loads i).object).block (stored_at way) (value_in (at.loads i).value).word
    words_moved (Store (Compared way word)) w at =
        both (λ b. WordsAre (tried way word b) (cond b (Some (events.StoreField p.thread a (field_index k) (stored_at way))) (Some (events.Finish p.thread))))
        (eqb w way.expected)
        (λ i. with_payload (at.words i) (object_in (at.loads i).object).block (stored_at way) (value_in (at.loads i).value).word) at.words
        ∙ ap (λ x. tried way word (eqb x way.expected)) at.reads
    words_moved StoreConstant w at =
        λ i. with_payload (at.words i) (register_block c.width p.thread (to_register k)) (register_slot c.width (to_register k)) ((set_constant k).0 i)
    words_moved (Shade (greys.Shade x j y b) store) w at =
        either (λ (q : Heap). s.words ≡ block_words q) (eqb (h (ColourOf y)) (white_word p.cycle)) _ _ at.words at.words
    words_moved (Shade (greys.ShadeStored y b) store) w at =
        either (λ (q : Heap). s.words ≡ block_words q) (eqb (h (ColourOf y)) (white_word p.cycle)) _ _ at.words at.words
    words_moved _ w at = at.words

    -- the word of a field that is loaded, or exchanged
    field_read : (way : TreePath) (w : ℕ) (l : Loading) → s.words ≡ block_words h → s.loads p.thread ≡ l → l.object ≡ object_on (extent c) k way
        → w ≡ h (field_place (extent c) k way) → s.words.payload (object_at s p.thread).block (stored_at way) ≡ w
    field_read way w l words loads hand reads = ap (λ y. s.words.payload (object_in y).block (stored_at way)) (ap (λ y. y.object) loads ∙ hand)
        ∙ payload_read s h _ _ w words reads

    has : (l : Loading) → s.loads p.thread ≡ l → l.value ≡ Some (value_in l.value) → HasValue s p.thread
    has l loads is = has_value s p.thread (value_in l.value) (ap (λ y. y.value) loads ∙ is)

    in_field_guarded : (way : TreePath) (word : ℕ) (x : Option ValueLoad) → p.thread < c.threads → IsWalk c (field_index k) way → IsThere c (field_index k) way
        → s.loads p.thread ≡ triple (object_on (extent c) k way) x (value_load (other_register k) word)
        → register_of s.graph p.thread (from_register k) ≡ values.Ref a
        → Guard c.width c.threads s (events.StoreField p.thread a (field_index k) (stored_at way))
    in_field_guarded way word x tn walk there loads hand =
        let field = at_field c s p.thread (from_register k) (field_index k) way (ap (λ l. l.object) loads) walk a there hand in
        (tn, prompt c s p.thread _ loads refl, has _ loads refl, field)

    pub loads_moved : (row : FieldRow) (w : ℕ) → FitsAt c p k row → (reads_beside_graph row ≡ false → ReadsAt c p k row w) → IsAt (extent c) s h p k row w
        → (u : ℕ) → LoadsTo c s p.thread (loading c p k (row_got (extent c) p k row w)) u (row_event (extent c) a p.thread k row w)
    loads_moved (LoadRegister wants.Copied) w fits reads at u =
        value_moved c s p.thread (from_register k) w u unloaded _ at.loads (payload_read s h _ _ w at.words at.reads) (before_loading c p k (Moved w))
    loads_moved (LoadRegister wants.Object) w fits reads at u = payload_cases w (reads refl).0.0
        (λ q. LoadsTo c s p.thread (loading c p k (after_object q)) u (cond (refers q) (Some (events.ReadObject p.thread (from_register k))) None))
        (λ none. unmoved s.loads p.thread unloaded u at.loads) (λ v none low. unmoved s.loads p.thread unloaded u at.loads)
        (λ x to some i. with_load s.loads p.thread (record (at.loads i) { object = object_load (from_register k) ((ap target (payload_read s h _ _ w at.words at.reads) ∙ sym to) i) }) u)
    loads_moved (LoadRegister (wants.Expected way)) w fits reads at u =
        (λ i. with_load s.loads p.thread (record (at.loads i) { expected = value_load (expected_register k) (payload_read s h _ _ w at.words at.reads i) }) u)
        ∙ ap (λ x. with_load s.loads p.thread (triple (object_on (extent c) k way) x None) u) (sym (cas_expects k w fits.belongs))
    loads_moved (LoadRegister (wants.Stored way)) w fits reads at u = value_moved c s p.thread (other_register k) w u _ _ at.loads (payload_read s h _ _ w at.words at.reads)
        (way_loading c p k way w ∙ ap (triple (object_on (extent c) k way) (expected_load k way.expected)) (stores_carries k w fits.belongs))
    loads_moved (LoadRegister wants.First) w fits reads at u = value_moved c s p.thread (from_register k) w u unloaded _ at.loads (payload_read s h _ _ w at.words at.reads) refl
    loads_moved (LoadRegister wants.Shown) w fits reads at u = payload_cases w (reads refl).0.0
        (λ q. LoadsTo c s p.thread (loading c p k (after_said w q)) u (cond (refers q) (Some (events.ReadValue p.thread (from_register k))) None))
        (λ none. unmoved s.loads p.thread unloaded u at.loads) (λ v none low. unmoved s.loads p.thread unloaded u at.loads)
        (λ x to some. value_moved c s p.thread (from_register k) w u unloaded _ at.loads (payload_read s h _ _ w at.words at.reads) (said_loading c p k w fits.belongs))
    loads_moved (LoadShape x) w fits reads at u = shape_moved c s p.thread p k x u (shape_in w) at.loads
    loads_moved (LoadLink way word) w fits reads at u = link_moved c s p.thread p k w u way word at.loads (payload_read s h _ _ w at.words at.reads)
    loads_moved (LoadField way) w fits reads at u =
        ap (λ x. with_load s.loads p.thread (pair None (pending_load (to_register k) x)) u) (field_read way w _ at.words at.loads refl at.reads)
        ∙ ap (λ l. with_load s.loads p.thread l u) (sym (field_loading c p k w (get_takes k fits.belongs)))
    loads_moved (LoadOwner word) w fits reads at u = owner_loads c s p.thread p k word u (rows.object_in w) fits.belongs at.loads
    loads_moved (Shade r store) w fits reads at u = unmoved s.loads p.thread _ u (at.loads ∙ sym (barrier_loading c p k _ store))
    loads_moved (Store (Exchanged way word)) w fits reads at u =
        let origin : (value_at s p.thread).origin ≡ to_register k = ap (λ y. (value_in y.value).origin) at.loads ∙ swap_register k fits.belongs in
        let read = field_read way w _ at.words at.loads refl at.reads in
        (λ i. with_load s.loads p.thread (pair None (pending_load (origin i) (read i))) u)
        ∙ ap (λ l. with_load s.loads p.thread l u) (sym (field_loading c p k w (swap_takes k fits.belongs)))
    loads_moved (Store (Compared way word)) w fits reads at u =
        either (LoadsTo c s p.thread unloaded u) (eqb w way.expected) _ _ refl refl
    loads_moved (Answered reply) w fits reads at u = unmoved s.loads p.thread unloaded u at.loads
    loads_moved _ w fits reads at u = refl

    pub row_guarded : (row : FieldRow) (w : ℕ) → FitsAt c p k row → (reads_beside_graph row ≡ false → ReadsAt c p k row w) → IsAt (extent c) s h p k row w
        → InHandAt s a p.thread k row → MayCome c s p.thread (row_event (extent c) a p.thread k row w)
    row_guarded (LoadRegister wanted) w fits reads at hand =
        register_guarded c s p.thread k wanted w fits.thread.thread fits.command (reads refl).0.0 at.loads (payload_read s h _ _ w at.words at.reads)
    row_guarded (LoadShape x) w fits reads at hand =
        let word : s.words.shape (object_at s p.thread).block ≡ w = ap (λ l. s.words.shape (object_in l.object).block) at.loads ∙ ap (λ b. b.shape x) at.words ∙ sym at.reads in
        either (MayCome c s p.thread) (length_decides k (shape_length (shape_in w))) _ _ (fits.thread.thread, prompt c s p.thread _ at.loads refl)
        (fits.thread.thread, has_object s p.thread _ (ap (λ l. l.object) at.loads), ap shape_of word ∙ shape_read (shape_of w) (reads refl).0)
    row_guarded (LoadLink way word) w fits reads at hand =
        (fits.thread.thread, at_link c s p.thread (from_register k) (field_index k) way (ap (λ l. l.object) at.loads) fits.row.0 fits.row.1)
    row_guarded (LoadField way) w fits reads at hand =
        let field = at_field c s p.thread (from_register k) (field_index k) way (ap (λ l. l.object) at.loads) fits.row.0 a fits.row.1 hand in
        (fits.thread.thread, to_low k fits.command, prompt c s p.thread _ at.loads refl, field)
    row_guarded (LoadOwner word) w fits reads at hand = owner_guarded c s p.thread (takes_field k) fits.thread.thread (ap (λ l. (value_in l.value).pending) at.loads)
    row_guarded (Store (Moved word)) w fits reads at hand = (fits.thread.thread, to_low k fits.command, prompt c s p.thread _ at.loads refl, has _ at.loads refl)
    row_guarded (Store (Pending word value)) w fits reads at hand = (fits.thread.thread, has _ at.loads refl, ap (λ l. (value_in l.value).pending) at.loads)
    row_guarded (Store (InField way word)) w fits reads at hand = in_field_guarded way word _ fits.thread.thread fits.row.0 fits.row.1 at.loads hand
    row_guarded (Store (Exchanged way word)) w fits reads at hand = in_field_guarded way word _ fits.thread.thread fits.row.0 fits.row.1 at.loads hand
    row_guarded (Store (Compared way word)) w fits reads at hand = either (MayCome c s p.thread) (eqb w way.expected) _ _
        (in_field_guarded way word _ fits.thread.thread fits.row.0 fits.row.1 at.loads hand) (fits.thread.thread, prompt c s p.thread _ at.loads refl)
    row_guarded StoreConstant w fits reads at hand =
        (fits.thread.thread, to_low k fits.command, prompt c s p.thread unloaded at.loads refl, (set_constant k).1 fits.command)
    row_guarded IdleLook w fits reads at hand = (fits.thread.thread, prompt c s p.thread unloaded at.loads refl)
    row_guarded _ w fits reads at hand = tt
