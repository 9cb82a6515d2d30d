-- The object that a thread has built gets its name, and a register refers to it.
use Rattle.std.proofs.Common.{Bool, ◌≡◌, ℕ, ◌+◌, ◌-◌, ◌≤◌, ◌<◌, ◌⊎◌, inl, inr, true, false, cond, ◌||◌, [], ◌∷◌, ◌++◌, List, length, set, get_or, refl, arith, subst, sym, ap, ◌∙◌, Some, None, IfSome, eq-eqb, ne_eqb, ◌^◌}
use Rattle.std.proofs.lemmas.Bool.{cases_eq, cases_Bool, or_cases, or_left, or_right}
use Rattle.block_store.specs.declared.Config.{Config}
use Rattle.block_store.specs.declared.Name.{Name}
use Rattle.block_store.specs.declared.TheConstants.{REGISTERS}
use Rattle.block_store.specs.declared.Value.TheVariants.{Nil, Ref}
use Rattle.block_store.specs.Colours.{is_free, black_word}
use Rattle.block_store.specs.Configs.{IsInBounds}
use Rattle.block_store.specs.Payloads.{reference_word}
use Rattle.block_store.specs.Registers.{register_block, register_slot}
use Rattle.block_store.proofs.Lemmas.{black_solid, changed_both, register_low}
use Rattle.never_heap.specs.declared.Reply.TheVariants as replies
use Rattle.never_heap.specs.Graphs.{Graph, Object, ObjectKind, Record, Array, start_graph, mutator_at, object_of, register_of, has_name, same_name, count_of, next_name, with_register, with_object}
use Rattle.never_heap.specs.Histories.{HistoryItem, Started, Did, IsAnswered, after, replay_from}
use Rattle.never_heap.specs.Cycles.{before_start, graph_at}
use Rattle.never_heap.specs.Reach.{reachable}
use Rattle.never_heap.proofs.Lemmas.{count_with_object, graph_at_more, has_name_with_object, has_name_with_register, next_is_new, not_next, object_with_object, object_with_register, objects_with, one_name, registers_with_object, replay_names, same_itself, with_object_threads}
use Rattle.heap_invariant.specs.graph_relation.Layouts.{object_blocks, kind_shape}
use Rattle.heap_invariant.specs.graph_relation.Made.{new_object, with_blocks, and_name, IsMade, IsWritten}
use Rattle.heap_invariant.specs.graph_relation.Words.{BlockWords, value_word, with_payload}
use Rattle.heap_invariant.specs.graph_relation.GraphOfWords.{IsValueOf, heads, Shows}
use Rattle.heap_invariant.specs.graph_relation.Events.{is_pending, ValueLoad, Loading, unloaded, pending_registers, ObjectIs, ValueIs, LoadIs}
use Rattle.heap_invariant.proofs.graph_relation.Blocks.{other_block}
use Rattle.heap_invariant.proofs.graph_relation.Names.{word_stays}
use Rattle.heap_invariant.proofs.graph_relation.ObjectLayouts.{layout_laws}
use Rattle.heap_invariant.proofs.graph_relation.Publish.{blocks_of_new, written_shows, publish, fresh_head}
use Rattle.heap_invariant.proofs.graph_relation.CommandEvents.{some_map}
use Rattle.heap_invariant.proofs.graph_relation.Stores.{same_names, register_store, register_same}
use Rattle.heap_invariant.specs.name_invariant.Building.{Build, build_blocks, IsBuild, IsBuilt}
use Rattle.heap_invariant.specs.name_invariant.Colouring.{NotRoot, Belongs, SweepColours}
use Rattle.block_store.specs.Counts.{changed}
use Rattle.heap_invariant.specs.name_invariant.States.{KeptState, sizes, Known, Kept, IsKnownBlock, with_name}
use Rattle.heap_invariant.specs.name_invariant.Events.{apply, build_at, made_entry, making, published, IsBuilding, HasAll}
use Rattle.heap_invariant.specs.name_invariant.Events.KeptEvent.{Publish}
use Rattle.heap_invariant.specs.name_invariant.Invariant.{IsOrdered, IsOlder, Invariant}
use Rattle.heap_invariant.proofs.name_invariant.Colours.{differ, changed_else, payload_written}
use Rattle.heap_invariant.proofs.name_invariant.HeldBlocks.{some_case, some_more, not_held_array, build_rewritten}
use Rattle.heap_invariant.proofs.name_invariant.WordTargets.{refers_block, behind_roots}
use Rattle.heap_invariant.proofs.name_invariant.PendingRegisters.{older_words, older_item, older_names, not_own, other_register}
use Rattle.heap_invariant.proofs.name_invariant.KeptStates.{shown, build_of, title_of}
use Rattle.heap_invariant.proofs.name_invariant.Commands.{entered}

-- the names at the start of a cycle are names of what the history leaves
pub started_names : (g : Graph) (h : List HistoryItem) (cycle : ℕ) (a : Name)
    → has_name (replay_from g (before_start cycle h)) a ≡ true → has_name (replay_from g h) a ≡ true
started_names g [] cycle a has = has
started_names g (Started ∷ h) cycle a has = elim (cases_eq cycle 1) [
  | inl e ↦ replay_names g h a
      (subst (λ b. has_name (replay_from g (cond b [] (Started ∷ before_start (cycle - 1) h)))
      a ≡ true) (eq-eqb cycle 1 e) has)
  | inr ne ↦ started_names g h (cycle - 1) a
      (subst (λ b. has_name (replay_from g (cond b [] (Started ∷ before_start (cycle - 1) h)))
      a ≡ true) (ne_eqb cycle 1 ne) has)
]
started_names g (Did e ∷ h) cycle a has = started_names (after g (Did e)) h cycle a has

-- the command that makes an object answers its name, and makes that graph
answered_new : (g : Graph) (t d size work : ℕ) (kind : ObjectKind)
    → IsAnswered g (Did (record {
      thread = t;
      command = making kind d size;
      reply = replies.New (next_name g t);
      work = work;
    }))
answered_new g t d size work Record = inl refl
answered_new g t d size work Array = inl refl

graph_new : (g : Graph) (t d size work : ℕ) (kind : ObjectKind)
    → with_register (with_object g t (new_object kind size)) t d (Ref (next_name g t))
    ≡ after g (Did (record {
      thread = t;
      command = making kind d size;
      reply = replies.New (next_name g t);
      work = work;
    }))
graph_new g t d size work Record = refl
graph_new g t d size work Array = refl

module _ (c : Config) (inside : IsInBounds c) (s : KeptState) (k : Invariant c s) (t d work : ℕ)
    (building : IsBuilding c s t) (all : HasAll c s t) (ready : (build_at s t).left ≡ 0)
    (small : d < REGISTERS) (idle : s.seen.loads t ≡ unloaded) where
  abbrev g : Graph
  g = s.seen.graph

  abbrev own : Build
  own = build_at s t

  abbrev new : Name
  new = next_name s.seen.graph t

  abbrev object : Object
  object = new_object (build_at s t).kind (build_at s t).size

  -- the graph with the object, and with the register that refers to it
  abbrev grown : Graph
  grown = with_object s.seen.graph t (new_object (build_at s t).kind (build_at s t).size)

  abbrev after_it : Graph
  after_it = published s t d

  abbrev placed : Name → ℕ → ℕ
  placed = with_blocks s.at (next_name s.seen.graph t) (build_at s t).held

  abbrev More : Name → Type 0
  More a = with_name s.kept (next_name s.seen.graph t) a ≡ true

  abbrev MoreKnown : Name → Type 0
  MoreKnown a = with_name s.known (next_name s.seen.graph t) a ≡ true

  abbrev words : BlockWords
  words = with_payload s.seen.words (register_block c.width t d) (register_slot c.width d)
      (reference_word ((build_at s t).held 0))

  abbrev more_sizes : Name → ℕ
  more_sizes a = object_blocks c.width (object_of (published s t d) a)

  abbrev w : BlockWords
  w = s.seen.words

  abbrev pending : ℕ → ℕ → Bool
  pending = pending_registers s.seen.loads

  mine : IsBuild c.width c.threads c.blocks s.cycle s.colour w own
  mine = build_of c s k t own building.0 building.1

  title : own.name ≡ next_name g t
  title = title_of c s k t own building.0 building.1

  held_is : (o : ℕ) → o < build_blocks c.width own → o < own.collected
  held_is o ol = omega (arith, all)

  made : IsMade c.width c.threads c.blocks g w t own.kind own.size own.held
  made = record {
    thread = building.0;
    few_threads = omega (arith, building.0, inside.threads);
    serial = subst (λ (a : Name). a.serial < 2 ^ 43) title mine.serial;
    ordinals = mine.few_blocks;
    behind = λ o ol. mine.behind o (held_is o ol);
    within = λ o ol. mine.within o (held_is o ol);
    blocks = λ o ol. written_shows c.width (λ a. 0) w new own.kind own.size own.held o
        (subst (λ (a : Name). IsWritten c.width w a own.kind own.size own.held o) title
        (mine.written o (omega (arith, ready)) ol));
  }

  in_graph : t < length g.mutators
  in_graph = subst (λ n. t < n) (sym (shown c s k).sized.threads) building.0

  in_grown : t < length grown.mutators
  in_grown = subst (λ n. t < n) (sym (with_object_threads g t object)) in_graph

  fresh : (a : Name) → has_name g a ≡ true → same_name new a ≡ false
  fresh a has = not_next g t a has

  kept_name : (a : Name) → Kept s a → has_name g a ≡ true
  kept_name a ka = k.named a (k.known a ka)

  -- objects, sizes, places and registers of the grown graph
  object_now : (a : Name) → object_of after_it a ≡ cond (same_name new a) object (object_of g a)
  object_now a = object_with_register grown t d (Ref new) a in_grown
      ∙ object_with_object g t object in_graph a

  object_old : (a : Name) → has_name g a ≡ true → object_of after_it a ≡ object_of g a
  object_old a has = object_now a ∙ ap (λ b. cond b object (object_of g a)) (fresh a has)

  size_old : (a : Name) → has_name g a ≡ true
      → object_blocks c.width (object_of after_it a) ≡ object_blocks c.width (object_of g a)
  size_old a has = ap (object_blocks c.width) (object_old a has)

  size_new : (a : Name) → same_name new a ≡ true
      → object_blocks c.width (object_of after_it a) ≡ build_blocks c.width own
  size_new a is = ap (object_blocks c.width) (object_now a ∙ ap (λ b. cond b object (object_of g a))
      is)
      ∙ blocks_of_new c.width own.kind own.size

  place_old : (a : Name) → has_name g a ≡ true → placed a ≡ s.at a
  place_old a has = ap (λ b. cond b own.held (s.at a)) (fresh a has)

  place_new : (a : Name) → same_name new a ≡ true → placed a ≡ own.held
  place_new a is = ap (λ b. cond b own.held (s.at a)) is

  names_now : (a : Name) → has_name after_it a ≡ same_name new a || has_name g a
  names_now a = has_name_with_register grown t d (Ref new) a in_grown
      ∙ has_name_with_object g t object in_graph a

  count_other : (u : ℕ) → (t ≡ u → ⊥) → count_of after_it u ≡ count_of g u
  count_other u ne = ap length (objects_with grown t u
      (record {
        registers = set (mutator_at grown t).registers d (Ref new);
        objects = (mutator_at grown t).objects;
      }) in_grown refl)
      ∙ count_with_object g t object in_graph u
      ∙ ap (λ b. cond b (count_of g t + 1) (count_of g u)) (ne_eqb t u ne)

  -- the words show the grown graph
  new_kept : with_name s.kept new new ≡ true
  new_kept = or_left _ _ (same_itself new)

  shown_named : Shows c.width c.threads c.blocks More grown placed w pending
  shown_named = same_names c.width c.threads c.blocks (and_name (Kept s) new) grown placed w pending
      (publish c.width c.threads c.blocks (Kept s) g s.at w pending (shown c s k) t own.kind
      own.size own.held made)
      More (λ a h. or_cases _ _ h) (λ a h. from a h)
    where
      from : (a : Name) → and_name (Kept s) new a → with_name s.kept new a ≡ true
      from a (inl is) = or_left _ _ is
      from a (inr ka) = or_right _ _ ka

  shown_new : Shows c.width c.threads c.blocks More after_it placed
      words pending
  shown_new = subst (λ x. Shows c.width c.threads c.blocks More after_it placed
      (with_payload w (register_block c.width t d) (register_slot c.width d) (reference_word x))
      pending)
      (fresh_head c.width c.threads c.blocks (Kept s) g s.at w pending (shown c s k) t own.kind
      own.size own.held made)
      (register_store c.width c.threads c.blocks More grown placed w pending shown_named
      pending t d building.0 small (Ref new) new_kept (λ u q e _. e))

  -- what other threads have loaded stays of the graph
  register_other : (u r : ℕ) → (t ≡ u → ⊥) → register_of after_it u r ≡ register_of g u r
  register_other u r ne = sym (register_same c.width c.threads c.blocks More grown placed w pending
      shown_named
      pending t d building.0 small (Ref new) new_kept u r (λ e _. ne e))
      ∙ ap (λ rs. get_or rs r Nil) (registers_with_object g t object in_graph u)

  load_other : (u : ℕ) → u < c.threads → (t ≡ u → ⊥) → (l : Loading) → LoadIs c.width g s.at u l
      → LoadIs c.width after_it placed u l
  load_other u un ne l is = record {
    object = some_map (λ o. ObjectIs c.width g s.at u o) (λ o. ObjectIs c.width after_it placed u o)
        l.object
        (λ o i.
        (let has = kept_name i.name
        (subst (IsValueOf (Kept s)) i.refers
        ((shown c s k).closed.registers u o.source un i.source)) in
        record {
          source = i.source;
          name = i.name;
          refers = register_other u o.source ne ∙ i.refers;
          ordinal = subst (λ z. o.ordinal < z) (sym (size_old i.name has)) i.ordinal;
          block = i.block ∙ ap (λ (f : ℕ → ℕ). f o.ordinal) (sym (place_old i.name has));
          shape = subst (λ (x : Object). IfSome o.shape
              (λ f. f ≡ kind_shape x.kind (length x.fields))) (sym (object_old i.name has)) i.shape;
        })) is.object;
    expected = some_map (λ v. ValueIs g s.at u v) (λ v. ValueIs after_it placed u v) l.expected
        moved is.expected;
    value = some_map (λ v. ValueIs g s.at u v) (λ v. ValueIs after_it placed u v) l.value moved
        is.value;
  }
    where
      moved : (v : ValueLoad) → ValueIs g s.at u v → ValueIs after_it placed u v
      moved v i = record {
        origin = i.origin;
        word = i.word ∙ sym (word_stays (Kept s) (heads s.at) (heads placed)
            (register_of g u v.origin)
            (λ a ka. ap (λ (f : ℕ → ℕ). f 0) (place_old a (kept_name a ka)))
            ((shown c s k).closed.registers u v.origin un i.origin))
            ∙ ap (value_word (heads placed)) (sym (register_other u v.origin ne));
      }

  loads_now : (u : ℕ) → u < c.threads → LoadIs c.width after_it placed u (s.seen.loads u)
  loads_now u un = elim (cases_eq t u) [
    | inl e ↦ subst (λ (l : Loading). LoadIs c.width after_it placed u l)
        (sym (ap s.seen.loads (sym e) ∙ idle)) (record { object = tt; expected = tt; value = tt })
    | inr ne ↦ load_other u un ne (s.seen.loads u) (k.follows.loads u un)
  ]

  ordered : IsOrdered c after_it (s.order ++ Did (made_entry s t d work) ∷ []) s.cycle MoreKnown
  ordered =
      let o = entered c g after_it s.order s.cycle (Known s) (made_entry s t d work)
      (answered_new g t d own.size work own.kind) (graph_new g t d own.size work own.kind)
      k.ordered in
      record {
        legal = o.legal;
        replayed = o.replayed;
        started = o.started;
        some = o.some;
        since = λ a h. since a (or_cases _ _ h);
      }
    where
      since : (a : Name) → (same_name new a ≡ true) ⊎ Known s a
          → (reachable (graph_at c (s.order ++ Did (made_entry s t d work) ∷ []) s.cycle) a ≡ true)
          ⊎ (has_name (graph_at c (s.order ++ Did (made_entry s t d work) ∷ []) s.cycle) a ≡ false)
      since a (inr ka) = (entered c g after_it s.order s.cycle (Known s) (made_entry s t d work)
          (answered_new g t d own.size work own.kind) (graph_new g t d own.size work own.kind)
          k.ordered).since a ka
      since a (inl is) = inr (subst (λ (h : Graph). has_name h a ≡ false)
          (sym (graph_at_more c s.order (Did (made_entry s t d work) ∷ []) s.cycle k.ordered.some
          (omega (arith, k.ordered.started))))
          (elim (cases_Bool (has_name (graph_at c s.order s.cycle) a)) [
            | inr out ↦ out
            | inl has ↦ absurd (differ _ (subst (λ (h : Graph). has_name h a ≡ true)
                (sym k.ordered.replayed) (started_names (start_graph c) s.order s.cycle a has))
                (subst (λ b. has_name g b ≡ false) (one_name new a is) (next_is_new g t)))
          ]))

  -- the blocks of known names, and those that this builder has coloured, are of known names
  known_old : (x : ℕ) → IsKnownBlock c s x → Belongs c.width c.threads MoreKnown more_sizes placed x
  known_old x (inl r) = inl r
  known_old x (inr b) = inr (record {
    name = b.name;
    ordinal = b.ordinal;
    kept = or_right _ _ b.kept;
    low = subst (λ z. b.ordinal < z) (sym (size_old b.name (k.named b.name b.kept))) b.low;
    is = b.is ∙ ap (λ (f : ℕ → ℕ). f b.ordinal) (sym (place_old b.name (k.named b.name b.kept)));
  })

  known_new : (x : ℕ) (b : Build) (o : ℕ) → s.builds t ≡ Some b → o < build_blocks c.width b
      → x ≡ b.held o → Belongs c.width c.threads MoreKnown more_sizes placed x
  known_new x b o is ol e =
      let one : Some b ≡ Some own = sym is ∙ building.1 in
      let same : b ≡ build_at s t = cc in
      inr (record {
        name = next_name g t;
        ordinal = o;
        kept = or_left _ _ (same_itself new);
        low = subst (λ z. o < z) (sym (size_new new (same_itself new)))
            (subst (λ b. o < build_blocks c.width b) same ol);
        is = e ∙ ap (λ (b : Build). b.held o) same
            ∙ ap (λ (f : ℕ → ℕ). f o) (sym (place_new new (same_itself new)));
      })

  marked_now : (x : ℕ) → IsKnownBlock c s x ⊎ IsBuilt c.width c.threads s.builds x
      → Belongs c.width c.threads MoreKnown more_sizes placed x ⊎ IsBuilt c.width c.threads
      (changed s.builds t None) x
  marked_now x (inl b) = inl (known_old x b)
  marked_now x (inr q) = elim (cases_eq t q.thread) [
    | inl e ↦ inl (known_new x q.build q.ordinal (ap s.builds e ∙ q.builds_it) q.low q.is)
    | inr ne ↦ inr (record {
      thread = q.thread;
      there = q.there;
      build = q.build;
      builds_it = changed_else s.builds t None q.thread ne ∙ q.builds_it;
      ordinal = q.ordinal;
      coloured = q.coloured;
      low = q.low;
      is = q.is;
    })
  ]

  -- the blocks of kept names have a colour that the old ones and the new ones have
  coloured_now : (P : ℕ → Type 0)
      → ((o : ℕ) → o < build_blocks c.width own → P (s.colour (own.held o)))
      → ((a : Name) (o : ℕ) → Kept s a → o < sizes c s a → P (s.colour (s.at a o)))
      → (a : Name) (o : ℕ) → with_name s.kept new a ≡ true
      → o < object_blocks c.width (object_of after_it a) → P (s.colour (placed a o))
  coloured_now P fresh_ones old a o h ol = either (or_cases _ _ h)
    where
      either : (same_name new a ≡ true) ⊎ Kept s a → P (s.colour (placed a o))
      either (inl is) = subst (λ (f : ℕ → ℕ). P (s.colour (f o))) (sym (place_new a is))
          (fresh_ones o (subst (λ z. o < z) (size_new a is) ol))
      either (inr ka) = subst (λ (f : ℕ → ℕ). P (s.colour (f o)))
          (sym (place_old a (kept_name a ka)))
          (old a o ka (subst (λ z. o < z) (size_old a (kept_name a ka)) ol))

  new_black : (o : ℕ) → o < build_blocks c.width own → s.colour (own.held o) ≡ black_word s.cycle
  new_black o ol = mine.black o (omega (arith, ready)) ol

  first : 0 < build_blocks c.width own
  first = (layout_laws c.width own.kind own.size).first

  sweep_now : s.sweep ≡ true → SweepColours c.width c.threads s.cycle More more_sizes placed
      s.colour
      words.payload s.shaded
  sweep_now sweep =
      let q = k.sweeping sweep in
      payload_written c.width c.threads s.cycle More more_sizes placed s.colour w.payload s.shaded
      (record {
        kept = λ a o h ol. coloured_now (λ w. w ≡ black_word s.cycle) new_black q.kept a o h ol;
        arrays = q.arrays;
        greys = q.greys;
        roots = q.roots;
        darks = q.darks;
      })
      (register_block c.width t d) (register_slot c.width d) (reference_word (own.held 0))
      (λ _. refers_block (λ y. (s.colour y ≡ black_word s.cycle) × NotRoot c.width c.threads y)
      (own.held 0)
      (λ _. (
        new_black 0 first,
        behind_roots c.width c.threads (own.held 0)
            (mine.behind 0 (held_is 0 first)),
      )))

  names_known : (a : Name) → (same_name new a ≡ true) ⊎ Known s a → has_name after_it a ≡ true
  names_known a (inl is) = names_now a ∙ or_left _ _ is
  names_known a (inr ka) = names_now a ∙ or_right _ _ (k.named a ka)

  more_known : (a : Name) → (same_name new a ≡ true) ⊎ Kept s a → with_name s.known new a ≡ true
  more_known a (inl is) = or_left _ _ is
  more_known a (inr ka) = or_right _ _ (k.known a ka)

  all_kept : s.sweep ≡ false → (a : Name) → (same_name new a ≡ true) ⊎ Known s a
      → with_name s.kept new a ≡ true
  all_kept mark a (inl is) = or_left _ _ is
  all_kept mark a (inr ka) = or_right _ _ ((k.marking mark).all a ka)

  -- a register of another thread that is pending has its older value
  older_now : (u r : ℕ) → u < c.threads → r < REGISTERS → pending_registers s.seen.loads u r ≡ true
      → IsOlder c (s.order ++ Did (made_entry s t d work) ∷ []) words More placed u r
  older_now u r un rl is = elim (cases_eq t u) [
    | inl e ↦ absurd (differ _ is (ap (λ v. pending_registers s.seen.loads v r) (sym e)
        ∙ ap (λ (l : Loading). is_pending l.value r) idle))
    | inr ne ↦
        older_names c (s.order ++ Did (made_entry s t d work) ∷ []) words (Kept s) s.at u r
        (older_words c (s.order ++ Did (made_entry s t d work) ∷ []) w (Kept s) s.at u r
        (older_item c s.order w (Kept s) s.at u r (k.older u r un rl is)
        (Did (made_entry s t d work)) (not_own u (made_entry s t d work) ne)) words
        (other_register c s k t d (reference_word (own.held 0)) u r small rl ne)) More placed
        (λ a ka. or_right _ _ ka)
        (λ a ka. ap (λ (f : ℕ → ℕ). f 0) (place_old a (kept_name a ka)))
  ]

  pub publishes : Invariant c (apply c s (Publish t d work))
  publishes = record {
    ordered = ordered;
    follows = record { shows = shown_new; loads = loads_now };
    older = older_now;
    known = λ a h. more_known a (or_cases _ _ h);
    named = λ a h. names_known a (or_cases _ _ h);
    painted = record {
      fits = k.painted.fits;
      arrays = k.painted.arrays;
      solid = λ a o h ol. coloured_now (λ w. is_free w ≡ false)
          (λ o ol. black_solid s.cycle _ (new_black o ol)) k.painted.solid a o h ol;
      marked = λ x q. marked_now x (k.painted.marked x q);
    };
    builds = λ u un. changed_both (λ _ o. IfSome o (λ b. IsBuild c.width c.threads c.blocks s.cycle
        s.colour words b))
        s.builds t None u (λ _. tt)
        (λ _. some_case (λ b. IsBuild c.width c.threads c.blocks s.cycle s.colour words b)
        (s.builds u) (λ b is.
        (let q = build_of c s k u b un is in
        build_rewritten c.width c.threads c.blocks s.cycle s.colour w b q _
        (λ o ol. other_block c.width w (register_block c.width t d) (register_slot c.width d) _
        (b.held o)
        (λ e. not_held_array c.width c.threads c.blocks s.cycle s.colour w b q
        (register_block c.width t d)
        (register_low c.width c.threads t d building.0 small) o ol e)))));
    titles = λ u un. changed_both (λ _ o. IfSome o (λ (b : Build). b.name ≡ next_name after_it u))
        s.builds t None u (λ _. tt)
        (λ ne. some_more (λ (b : Build). b.name ≡ next_name g u)
        (λ (b : Build). b.name ≡ next_name after_it u) (s.builds u)
        (λ b is e. e ∙ ap (λ z. record { thread = u; serial = z + 1 }) (sym (count_other u ne)))
        (k.titles u un));
    scans = λ u un some. known_old (s.scans u) (k.scans u un some);
    marking = λ mark. record {
      all = λ a h. all_kept mark a (or_cases _ _ h);
      roots = (k.marking mark).roots;
    };
    sweeping = sweep_now;
  }
