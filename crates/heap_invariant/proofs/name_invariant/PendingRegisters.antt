-- A register that is pending has its older value.
use Rattle.std.proofs.Common.{◌≡◌, ℕ, ◌<◌, inl, inr, true, false, cond, [], ◌∷◌, ◌++◌, List, refl, arith, subst, sym, ap, ◌∙◌, append_assoc, ne_eqb}
use Rattle.std.proofs.lemmas.Bool.{cases_eq}
use Rattle.block_store.specs.declared.Config.{Config}
use Rattle.block_store.specs.declared.Name.{Name}
use Rattle.block_store.specs.declared.TheConstants.{REGISTERS}
use Rattle.block_store.specs.Registers.{register_block, register_slot}
use Rattle.block_store.proofs.Lemmas.{own_array, register_low}
use Rattle.never_heap.specs.declared.Entry.{Entry}
use Rattle.never_heap.specs.Graphs.{Graph, register_of}
use Rattle.never_heap.specs.Histories.{HistoryItem, Did, part, replay}
use Rattle.never_heap.proofs.Lemmas.{part_append}
use Rattle.heap_invariant.specs.graph_relation.Words.{BlockWords, value_word, with_payload}
use Rattle.heap_invariant.specs.graph_relation.GraphOfWords.{IsValueOf, heads}
use Rattle.heap_invariant.specs.graph_relation.Events as commanded
use Rattle.heap_invariant.specs.graph_relation.Events.{Loading, Event, is_pending, pending_registers, object_at, value_at, register_word_in, IsPrompt, IsAtField}
use Rattle.heap_invariant.specs.graph_relation.Events.Event.{ReadObject, ReadValue, ReadExpected, ReadShape, ReadLink, ReadField, StorePending, StoreValue, StoreConstant, StoreField, ExchangeField, Finish}
use Rattle.heap_invariant.proofs.graph_relation.Blocks.{payload_other}
use Rattle.heap_invariant.proofs.graph_relation.Names.{value_stays, word_stays}
use Rattle.heap_invariant.proofs.graph_relation.WordReads.{register_read}
use Rattle.heap_invariant.proofs.graph_relation.CommandEvents.{at_field, load_here, load_other, prompt_register}
use Rattle.heap_invariant.specs.name_invariant.States.{KeptState, Kept}
use Rattle.heap_invariant.specs.name_invariant.Events.{served, event_thread, leaves_graph, MayDecide}
use Rattle.heap_invariant.specs.name_invariant.Invariant.{IsOlder, Invariant}
use Rattle.heap_invariant.proofs.name_invariant.Colours.{differ}
use Rattle.heap_invariant.proofs.name_invariant.KeptStates.{shown, value_is}

module _ (c : Config) (order : List HistoryItem) (w : BlockWords) (K : Name → Type 0)
    (at : Name → ℕ → ℕ) (t r : ℕ) (o : IsOlder c order w K at t r) where
  -- the register's word stays
  pub older_words : (u : BlockWords) → register_word_in c.width u t r ≡ register_word_in c.width w t
      r → IsOlder c order u K at t r
  older_words u same = record {
    before = o.before;
    entry = o.entry;
    behind = o.behind;
    split = o.split;
    own = o.own;
    others = o.others;
    kept = o.kept;
    word = same ∙ o.word;
  }

  -- another thread's command is decided, or a cycle starts
  pub older_item : (i : HistoryItem) → part t (i ∷ []) ≡ [] → IsOlder c (order ++ i ∷ []) w K at t r
  older_item i none = record {
    before = o.before;
    entry = o.entry;
    behind = o.behind ++ i ∷ [];
    split = ap (λ (h : List HistoryItem). h ++ i ∷ []) o.split
        ∙ append_assoc o.before (Did o.entry ∷ o.behind) (i ∷ []);
    own = o.own;
    others = part_append t o.behind (i ∷ []) ∙ ap (λ (h : List Entry). h ++ part t (i ∷ []))
        o.others ∙ none;
    kept = o.kept;
    word = o.word;
  }

  -- more names are kept, and the old ones stay where they are
  pub older_names : (L : Name → Type 0) (other : Name → ℕ → ℕ) → ((a : Name) → K a → L a)
      → ((a : Name) → K a → heads other a ≡ heads at a) → IsOlder c order w L other t r
  older_names L other more same = record {
    before = o.before;
    entry = o.entry;
    behind = o.behind;
    split = o.split;
    own = o.own;
    others = o.others;
    kept = value_stays K L (register_of (replay c o.before) t r) more o.kept;
    word = o.word ∙ sym (word_stays K (heads at) (heads other) (register_of (replay c o.before) t r)
        same o.kept);
  }

-- an entry of another thread is none of this one
pub not_own : (t : ℕ) (e : Entry) → (e.thread ≡ t → ⊥) → part t (Did e ∷ []) ≡ []
not_own t e ne = ap (λ b. cond b (e ∷ []) []) (ne_eqb e.thread t ne)

module _ (c : Config) (s : KeptState) (k : Invariant c s) where
  abbrev w : BlockWords
  w = s.seen.words

  -- an event of a command leaves what other threads have loaded, and their registers' words
  other_loads : (e : Event) (u : ℕ) → (event_thread e ≡ u → ⊥)
      → (served c s e).loads u ≡ s.seen.loads u
  other_loads (ReadObject t r) u ne = load_other s.seen.loads t u _ ne
  other_loads (ReadValue t r) u ne = load_other s.seen.loads t u _ ne
  other_loads (ReadExpected t r) u ne = load_other s.seen.loads t u _ ne
  other_loads (ReadShape t f) u ne = load_other s.seen.loads t u _ ne
  other_loads (ReadLink t j p) u ne = load_other s.seen.loads t u _ ne
  other_loads (ReadField t d a i j) u ne = load_other s.seen.loads t u _ ne
  other_loads (StorePending t) u ne = load_other s.seen.loads t u _ ne
  other_loads (StoreValue t d) u ne = load_other s.seen.loads t u _ ne
  other_loads (StoreConstant t d v) u ne = load_other s.seen.loads t u _ ne
  other_loads (StoreField t a i j) u ne = load_other s.seen.loads t u _ ne
  other_loads (ExchangeField t a i j) u ne = load_other s.seen.loads t u _ ne
  other_loads (Finish t) u ne = load_other s.seen.loads t u _ ne

  other_payload : (x j v u r : ℕ) → (x ≡ register_block c.width u r → ⊥)
      → register_word_in c.width (with_payload s.seen.words x j v) u r ≡ register_word_in c.width
      s.seen.words u r
  other_payload x j v u r ne = payload_other w x j v (register_block c.width u r)
      (register_slot c.width r)
      (rw (ne_eqb x (register_block c.width u r) ne) refl)

  pub other_register : (t d v u r : ℕ) → d < REGISTERS → r < REGISTERS → (t ≡ u → ⊥)
      → register_word_in c.width (with_payload s.seen.words (register_block c.width t d)
      (register_slot c.width d) v) u r ≡ register_word_in c.width s.seen.words u r
  other_register t d v u r dl rl ne = other_payload (register_block c.width t d)
      (register_slot c.width d) v u r
      (λ e. ne (own_array c.width t d u r dl rl e))

  -- a store in a field leaves the words of all registers
  field_apart : (t : ℕ) (a : Name) (i j v : ℕ) → t < c.threads → IsAtField c.width s.seen t a i j
      → (u r : ℕ) → u < c.threads → r < REGISTERS
      → register_word_in c.width (with_payload s.seen.words (object_at s.seen t).block j v) u r
      ≡ register_word_in c.width s.seen.words u r
  field_apart t a i j v tn q u r un rl =
      let (ka, block, low, field) = at_field c.width c.threads c.blocks (Kept s) s.at s.seen
      k.follows t a i j tn q in
      other_payload _ j v u r
      (λ e. omega (
        arith,
        register_low c.width c.threads u r un rl,
        (shown c s k).placed.behind a
            (object_at s.seen t).ordinal ka low,
        block,
      ))

  other_word : (e : Event) → commanded.Guard c.width c.threads s.seen e → (u r : ℕ) → u < c.threads
      → r < REGISTERS → (event_thread e ≡ u → ⊥)
      → register_word_in c.width (served c s e).words u r ≡ register_word_in c.width s.seen.words u
      r
  other_word (ReadObject t q) guard u r un rl ne = refl
  other_word (ReadValue t q) guard u r un rl ne = refl
  other_word (ReadExpected t q) guard u r un rl ne = refl
  other_word (ReadShape t f) guard u r un rl ne = refl
  other_word (ReadLink t j p) guard u r un rl ne = refl
  other_word (ReadField t d a i j) guard u r un rl ne = refl
  other_word (StorePending t) guard u r un rl ne = other_register t _ _ u r
      (value_is c s k t guard.0 guard.1).origin rl ne
  other_word (StoreValue t d) guard u r un rl ne = other_register t d _ u r guard.1 rl ne
  other_word (StoreConstant t d v) guard u r un rl ne = other_register t d _ u r guard.1 rl ne
  other_word (StoreField t a i j) guard u r un rl ne =
      field_apart t a i j _ guard.0 guard.3 u r un rl
  other_word (ExchangeField t a i j) guard u r un rl ne =
      field_apart t a i j _ guard.0 guard.3 u r un rl
  other_word (Finish t) guard u r un rl ne = refl

  -- the thread's own pending register, after an event that leaves the graph
  own_late : (e : Event) → commanded.Guard c.width c.threads s.seen e → leaves_graph e ≡ true
      → (r : ℕ) → is_pending ((served c s e).loads (event_thread e)).value r ≡ true
      → (is_pending (s.seen.loads (event_thread e)).value r ≡ true)
      × (register_word_in c.width (served c s e).words (event_thread e) r ≡ register_word_in
      c.width s.seen.words (event_thread e) r)
  own_late (ReadObject t q) guard is r pending = (
    sym (ap (λ (l : Loading). is_pending l.value r) (load_here s.seen.loads t t _ refl))
        ∙ pending,
    refl,
  )
  own_late (ReadValue t q) guard is r pending = absurd
      (differ false (sym (ap (λ (l : Loading). is_pending l.value r)
      (load_here s.seen.loads t t _ refl)) ∙ pending) refl)
  own_late (ReadExpected t q) guard is r pending = (
    sym (ap (λ (l : Loading). is_pending l.value r) (load_here s.seen.loads t t _ refl))
        ∙ pending,
    refl,
  )
  own_late (ReadShape t f) guard is r pending = (
    sym (ap (λ (l : Loading). is_pending l.value r) (load_here s.seen.loads t t _ refl))
        ∙ pending,
    refl,
  )
  own_late (ReadLink t j p) guard is r pending = (
    sym (ap (λ (l : Loading). is_pending l.value r) (load_here s.seen.loads t t _ refl))
        ∙ pending,
    refl,
  )
  own_late (ReadField t d a i j) guard is r pending = absurd (differ false is refl)
  own_late (StorePending t) guard is r pending = absurd
      (differ false (sym (ap (λ (l : Loading). is_pending l.value r)
      (load_here s.seen.loads t t _ refl)) ∙ pending) refl)
  own_late (StoreValue t d) guard is r pending = absurd (differ false is refl)
  own_late (StoreConstant t d v) guard is r pending = absurd (differ false is refl)
  own_late (StoreField t a i j) guard is r pending = absurd (differ false is refl)
  own_late (ExchangeField t a i j) guard is r pending = absurd (differ false is refl)
  own_late (Finish t) guard is r pending = absurd
      (differ false (sym (ap (λ (l : Loading). is_pending l.value r)
      (load_here s.seen.loads t t _ refl)) ∙ pending) refl)

  -- After a linearization point no register of the thread is pending but that of a `get` or a
  -- `swap`, whose word is as it was.
  decided_late : (e : Event) → commanded.Guard c.width c.threads s.seen e
      → event_thread e < c.threads → IsPrompt (s.seen.loads (event_thread e)) → (r : ℕ)
      → r < REGISTERS → is_pending ((served c s e).loads (event_thread e)).value r ≡ true
      → register_word_in c.width (served c s e).words (event_thread e) r
      ≡ register_word_in c.width s.seen.words (event_thread e) r
  decided_late (ReadObject t q) guard there prompt r rl pending = refl
  decided_late (ReadValue t q) guard there prompt r rl pending = refl
  decided_late (ReadExpected t q) guard there prompt r rl pending = refl
  decided_late (ReadShape t f) guard there prompt r rl pending = refl
  decided_late (ReadLink t j p) guard there prompt r rl pending = refl
  decided_late (ReadField t d a i j) guard there prompt r rl pending = refl
  decided_late (ExchangeField t a i j) guard there prompt r rl pending =
      field_apart t a i j _ guard.0 guard.3 t r there rl
  decided_late (StorePending t) guard there prompt r rl pending = absurd
      (differ false (sym (ap (λ (l : Loading). is_pending l.value r)
      (load_here s.seen.loads t t _ refl)) ∙ pending) refl)
  decided_late (StoreValue t d) guard there prompt r rl pending = absurd
      (differ false (sym (ap (λ (l : Loading). is_pending l.value r)
      (load_here s.seen.loads t t _ refl)) ∙ pending) refl)
  decided_late (StoreConstant t d v) guard there prompt r rl pending = absurd
      (differ false (sym (ap (λ (l : Loading). is_pending l.value r)
      (load_here s.seen.loads t t _ refl)) ∙ pending) refl)
  decided_late (StoreField t a i j) guard there prompt r rl pending = absurd
      (differ false (sym (ap (λ (l : Loading). is_pending l.value r)
      (load_here s.seen.loads t t _ refl)) ∙ pending) refl)
  decided_late (Finish t) guard there prompt r rl pending = absurd
      (differ false (sym (ap (λ (l : Loading). is_pending l.value r)
      (load_here s.seen.loads t t _ refl)) ∙ pending) refl)

  -- a register that was not pending until its thread's command was decided
  now_older : (entry : Entry) (r : ℕ) → entry.thread < c.threads → r < REGISTERS
      → IsPrompt (s.seen.loads entry.thread) → IsOlder c (s.order ++ Did entry ∷ []) s.seen.words
      (Kept s) s.at entry.thread r
  now_older entry r tn rl prompt = record {
    before = s.order;
    entry = entry;
    behind = [];
    split = refl;
    own = refl;
    others = refl;
    kept = subst (λ (h : Graph). IsValueOf (Kept s) (register_of h entry.thread r))
        k.ordered.replayed ((shown c s k).closed.registers entry.thread r tn rl);
    word = register_read c.width c.threads c.blocks (Kept s) s.seen.graph s.at w
        (pending_registers s.seen.loads)
        (shown c s k) entry.thread r tn rl
        (prompt_register (s.seen.loads entry.thread).value r prompt)
        ∙ ap (λ (h : Graph). value_word (heads s.at) (register_of h entry.thread r))
        k.ordered.replayed;
  }

  pub older_served : (e : Event) → commanded.Guard c.width c.threads s.seen e
      → leaves_graph e ≡ true → (u r : ℕ) → u < c.threads → r < REGISTERS
      → pending_registers (served c s e).loads u r ≡ true
      → IsOlder c s.order (served c s e).words (Kept s) s.at u r
  older_served e guard is u r un rl pending = elim (cases_eq (event_thread e) u) [
    | inr ne ↦ older_words c s.order w (Kept s) s.at u r
        (k.older u r un rl (ap (λ (l : Loading). is_pending l.value r) (sym (other_loads e u ne))
        ∙ pending)) (served c s e).words (other_word e guard u r un rl ne)
    | inl same ↦
        let own = own_late e guard is r
        (ap (λ v. pending_registers (served c s e).loads v r) same ∙ pending) in
        older_words c s.order w (Kept s) s.at u r
        (k.older u r un rl (subst (λ v. pending_registers s.seen.loads v r ≡ true) same own.0))
        (served c s e).words
        (subst (λ v. register_word_in c.width (served c s e).words v r ≡ register_word_in c.width
        s.seen.words v r) same own.1)
  ]

  pub older_decided : (e : Event) (entry : Entry) → commanded.Guard c.width c.threads s.seen e
      → MayDecide c s entry → entry.thread ≡ event_thread e → (u r : ℕ) → u < c.threads
      → r < REGISTERS → pending_registers (served c s e).loads u r ≡ true
      → IsOlder c (s.order ++ Did entry ∷ []) (served c s e).words (Kept s) s.at u r
  older_decided e entry guard may own u r un rl pending = elim (cases_eq (event_thread e) u) [
    | inr ne ↦ older_words c (s.order ++ Did entry ∷ []) w (Kept s) s.at u r
        (older_item c s.order w (Kept s) s.at u r
        (k.older u r un rl (ap (λ (l : Loading). is_pending l.value r) (sym (other_loads e u ne))
        ∙ pending)) (Did entry) (not_own u entry (λ z. ne (sym own ∙ z))))
        (served c s e).words (other_word e guard u r un rl ne)
    | inl same ↦
        let word = decided_late e guard (subst (λ v. v < c.threads) own may.0)
        (subst (λ v. IsPrompt (s.seen.loads v)) own may.1) r rl
        (ap (λ v. pending_registers (served c s e).loads v r) same ∙ pending) in
        subst (λ v. IsOlder c (s.order ++ Did entry ∷ []) (served c s e).words (Kept s) s.at v r)
        same
        (older_words c (s.order ++ Did entry ∷ []) w (Kept s) s.at (event_thread e) r
        (subst (λ v. IsOlder c (s.order ++ Did entry ∷ []) w (Kept s) s.at v r) own
        (now_older entry r may.0 rl may.1))
        (served c s e).words word)
  ]

  pub older_answered : (entry : Entry) → MayDecide c s entry → (u r : ℕ) → u < c.threads
      → r < REGISTERS → pending_registers s.seen.loads u r ≡ true
      → IsOlder c (s.order ++ Did entry ∷ []) s.seen.words (Kept s) s.at u r
  older_answered entry may u r un rl pending = elim (cases_eq entry.thread u) [
    | inr ne ↦ older_item c s.order w (Kept s) s.at u r (k.older u r un rl pending) (Did entry)
        (not_own u entry ne)
    | inl same ↦ subst (λ v. IsOlder c (s.order ++ Did entry ∷ []) s.seen.words (Kept s) s.at v r)
        same (now_older entry r may.0 rl may.1)
  ]
