-- What a row owes as its reply: from the linearization point on the answer of the step, by what the
-- events read and as the value of a register of the graph, and that stays until it is given.
use Rattle.std.proofs.Common.{◌≡◌, ℕ, Bool, true, cond, Some, refl, sym, ap, ◌∙◌, subst, inl, inr, eqb, eq-eqb, eqb-true, ◌<◌, false, length, ◌||◌, ◌≤◌, None}
use Rattle.barrier_steps.proofs.Common.{cases_Bool, cases_eq, ne_eqb, Config, Name, Payload, Value, payload_of, payload_code, target, extent, Command, Reply, IsCommandInRange, Graph, register_of, with_register, with_field, step, same_value, swapped, Pass, FieldRow, from_register, other_register, field_index, to_register, answered_register, is_say, takes_field, payload_or_nil, payload_in, row_got, field_reply, after_field, after_said, field_decided, is_row_of, FitsAt, is_deciding, answer, IsWordOf, ShownAt, Promises, NameShown, ShowsAt, due_at, KnownAt, heads, GraphState, value_in, Follows, row_loading, row_event, after_event, InHandAt, IsAt, Heap, mutator_at, LoadRegister, LoadShape, LoadField, LoadOwner, Shade, Store, StoreConstant, IdleLook, Answered, Moved, Pending, InField, Exchanged, Compared, object_or_nil, object_in, IsSized, Object, Second, Shown, Say, false_from_ne_true, payload_reads}
use Rattle.block_store.specs.declared.Payload.TheVariants as payloads
use Rattle.block_store.specs.declared.Value.TheVariants as values
use Rattle.never_heap.specs.declared.Reply.TheVariants as replies
use Rattle.never_heap.proofs.Lemmas.{has_field, one_name, register_with_register, registers_with_field, same_from, threads_with_field}
use Rattle.barrier_steps.proofs.Decisions.{Refused, value_there, answer_is, object_refused, shape_refused, get_is, put_is, swap_is, cas_is, constant_is, mov_is, same_step_is, say_is, idle_is, field_is, before_is, barrier_is, after_owner_is, goes_on, decided_once}
use Rattle.heap_invariant.specs.graph_relation.Read.{value_payload}
use Rattle.barrier_steps.proofs.FieldRows.{to_low, get_takes, swap_takes, taken_register}
use Rattle.barrier_steps.proofs.RowEvents.{swap_register, within, register_leaves, graph_stays}
use Rattle.barrier_steps.proofs.RowReads.{NameIs, name_is, row_shown}

-- values with one payload are the same
one_payload : (head : Name → ℕ) (u v : Value) → value_payload head u ≡ value_payload head v → ((x y : Name) → u ≡ values.Ref x → v ≡ values.Ref y → head x ≡ head y → x ≡ y) → same_value u v ≡ true
one_payload head values.Nil values.Nil e apart = refl
one_payload head (values.Int m) (values.Int n) e apart = let same : m ≡ n = cc in eq-eqb m n same
one_payload head (values.Ref a) (values.Ref b) e apart =
    let one = apart a b refl refl (let same : head a ≡ head b = cc in same) in
    same_from a b (ap (λ (x : Name). x.thread) one) (ap (λ (x : Name). x.serial) one)
one_payload head _ _ e apart = absurd cc

one_value : (u v : Value) → same_value u v ≡ true → u ≡ v
one_value values.Nil values.Nil h = refl
one_value (values.Int m) (values.Int n) h = ap values.Int (eqb-true m n h)
one_value (values.Ref a) (values.Ref b) h = ap values.Ref (one_name a b h)
one_value _ _ h = absurd cc

module _ (head : Name → ℕ) where
  -- what holds of nil, of each number and of each reference holds of the payload in its word
  value_cases : (P : Payload → Value → Type 0) (w : ℕ) (v : Value) → IsWordOf head v w
      → P payloads.Nil values.Nil → ((n : ℕ) → P (payloads.Int n) (values.Int n))
      → ((a : Name) → target w ≡ head a → P (payloads.Block (head a)) (values.Ref a)) → P (payload_in w) v
  value_cases P w values.Nil h nil int ref = subst (λ o. P (payload_or_nil o) values.Nil) (sym h) nil
  value_cases P w (values.Int n) h nil int ref = subst (λ o. P (payload_or_nil o) (values.Int n)) (sym h) (int n)
  value_cases P w (values.Ref a) h nil int ref = subst (λ o. P (payload_or_nil o) (values.Ref a)) (sym h)
      (ref a (sym (payload_reads w (payloads.Block (head a)) h).2))

  -- two registers have one word exactly where they have one value
  same_words : (u v : Value) (x w : ℕ) → IsWordOf head u x → IsWordOf head v w → ((a b : Name) → u ≡ values.Ref a → v ≡ values.Ref b → head a ≡ head b → a ≡ b)
      → eqb x w ≡ same_value u v
  same_words u v x w hu hv apart = elim (cases_eq x w) [
    | inl e ↦
        let payloads_one : Some (value_payload head u) ≡ Some (value_payload head v) = sym hu ∙ ap payload_of e ∙ hv in
        let payload_one : value_payload head u ≡ value_payload head v = cc in
        eq-eqb x w e ∙ sym (one_payload head u v payload_one apart)
    | inr ne ↦ ne_eqb x w ne ∙ sym (false_from_ne_true (same_value u v) (λ is.
        ne (sym (payload_reads x _ hu).1 ∙ ap (λ y. payload_code (value_payload head y)) (one_value u v is) ∙ (payload_reads w _ hv).1)))
  ]

  -- a decided row keeps its promise
  pub kept : (c : Config) (p : Pass) (k : Command) (row : FieldRow) (w : ℕ) (reply : Reply) → Promises head row reply → NameShown head row reply w → Promises head (row_got (extent c) p k row w) reply
  kept c p k (LoadOwner word) w reply h shown =
      let says : reply ≡ replies.Val (object_in w) = h.says ∙ ap (λ o. replies.Val (object_or_nil o)) (sym (shown h.name h.says h.block)) in
      after_owner_is (λ row. Promises head row reply) p k word (object_in w) (λ say. sym says)
      (λ takes same. before_is (λ row. Promises head row reply) p (Pending word (object_in w)) (λ _. says) (λ _. says))
  kept c p k (Shade r store) w reply h shown = barrier_is (λ row. Promises head row reply) _ store (λ _. h) (λ _. h)
  kept c p k (Store (Pending word value)) w reply h shown = sym h
  kept c p k (Answered given) w reply h shown = h
  kept c p k _ w reply h shown = absurd h

  -- and fulfils it
  pub given : (row : FieldRow) (q reply : Reply) → field_reply row ≡ Some q → Promises head row reply → q ≡ reply
  given (Answered r) q reply e p = let same : r ≡ q = cc in sym same ∙ p
  given _ q reply e p = absurd cc

  module _ (c : Config) (g : Graph) (t : ℕ) (p : Pass) (k : Command) where
    -- a refusal is answered
    refused : (row : FieldRow) → Refused g row (step g t k) → Promises head row (answer g t k)
    refused row r = subst (λ x. Promises head x (answer g t k)) (sym r.1) (sym (answer_is g t k _ r.2))

    -- and so is the value of a field
    field_promised : (w : ℕ) (a : Name) (after : Graph) → step g t k ≡ (after, replies.Val (value_there g k a))
        → IsWordOf head (value_there g k a) w → Promises head (after_field w (payload_in w)) (answer g t k)
    field_promised w a after e h = subst (Promises head (after_field w (payload_in w))) (sym (answer_is g t k _ e))
        (value_cases (λ q u. Promises head (after_field w q) (replies.Val u)) w (value_there g k a) h refl (λ n. refl)
        (λ a to. record { name = a; says = refl; block = to }))

    -- a linearization point answers as the step does
    pub promised : (row : FieldRow) (w : ℕ) → is_row_of c p k row ≡ true → is_deciding k row w ≡ true → ShownAt head g t k row w → Promises head (row_got (extent c) p k row w) (answer g t k)
    promised (LoadRegister Object) w is n h = refused _ (object_refused head g t w k is h n)
    promised (LoadRegister (Second word)) w is n h =
        ap (λ y. cond y replies.Yes replies.No) (same_words (register_of g t (from_register k)) (register_of g t (other_register k)) word w h.first h.second h.apart)
        ∙ sym (answer_is g t k _ (same_step_is g t k is))
    promised (LoadRegister Shown) w is n h = subst (Promises head (after_said w (payload_in w))) (sym (answer_is g t k _ (say_is g t k is)))
        (value_cases (λ q u. Promises head (after_said w q) (replies.Val u)) w (register_of g t (from_register k)) h refl (λ n. refl)
        (λ a to. record { name = a; says = refl; block = to }))
    promised (LoadShape x) w is n h = refused _ (shape_refused c p g t x w k is h n)
    promised (LoadField way) w is n h = field_promised w h.0.name _ (get_is g t k h.0.name is (h.0.refers, h.0.within)) h.1
    promised (Store (Moved word)) w is n h = sym (answer_is g t k _ (mov_is g t k is))
    promised (Store (InField way word)) w is n h = sym (answer_is g t k _ (put_is g t k h.name is (h.refers, h.within)))
    promised (Store (Exchanged way word)) w is n h = field_promised w h.0.name _ (swap_is g t k h.0.name is (h.0.refers, h.0.within)) h.1
    promised (Store (Compared way word)) w is n h = sym (answer_is g t k _ (cas_is g t k h.0.name (eqb w way.expected) is (h.0.refers, h.0.within) h.1))
    promised StoreConstant w is n h = sym (answer_is g t k _ (constant_is g t k is))
    promised IdleLook w is n h = sym (answer_is g t k _ (idle_is g t k is))
    promised _ w is n h = absurd cc

-- which register the answer is of
said_register : (k : Command) → is_say k ≡ true → answered_register k ≡ from_register k
said_register (Say s) is = refl
said_register _ is = absurd cc

module _ (g : Graph) (t : ℕ) (k : Command) where
  -- at this row the reply is due
  abbrev Owes : Reply → FieldRow → Type 0
  Owes reply row = (due_at g t k row ≡ Some reply) × KnownAt g t k row

  -- one that is due shows its register
  pub due_shows : (row : FieldRow) (reply : Reply) → due_at g t k row ≡ Some reply → ShowsAt g t k row reply
  due_shows (LoadOwner word) reply e = cc
  due_shows _ reply e = tt

  -- before the linearization point none is due
  pub none_due : (row : FieldRow) → field_decided row ≡ false → (due_at g t k row ≡ None) × KnownAt g t k row
  none_due (Shade r (Pending word value)) e = absurd cc
  none_due (Store (Pending word value)) e = absurd cc
  none_due _ e = (cc, tt)

  pub some_due : (row : FieldRow) → field_decided row ≡ true → (reply : Reply) × (due_at g t k row ≡ Some reply)
  some_due (LoadOwner word) e = (_, refl)
  some_due (Shade r (Pending word value)) e = (_, refl)
  some_due (Store (Pending word value)) e = (_, refl)
  some_due (Answered given) e = (given, refl)
  some_due _ e = absurd cc

  -- a row that promises the reply which is due knows its register's value
  knows : (head : Name → ℕ) (row : FieldRow) (reply : Reply) → Promises head row reply → due_at g t k row ≡ Some reply → KnownAt g t k row
  knows head (Shade r (Pending word value)) reply h due = cc
  knows head (Store (Pending word value)) reply h due = cc
  knows head _ reply h due = tt

  -- a decided row goes on owing it, where a name that it reads is its register's
  still_due : (c : Config) (p : Pass) (row : FieldRow) (w : ℕ) (reply : Reply) → field_decided row ≡ true → due_at g t k row ≡ Some reply → KnownAt g t k row
      → NameIs g t k row w → Owes reply (row_got (extent c) p k row w)
  still_due c p (LoadOwner word) w reply d due known shown =
      after_owner_is (Owes reply) p k word (object_in w) (λ say. (ap (λ x. Some (replies.Val x)) shown ∙ due, tt))
      (λ takes same.
      let owes : Owes reply (Store (Pending word (object_in w))) = (ap (λ r. Some (replies.Val (register_of g t r))) (sym same) ∙ due, shown ∙ ap (register_of g t) same) in
      before_is (Owes reply) p (Pending word (object_in w)) (λ _. owes) (λ _. owes))
  still_due c p (Shade r store) w reply d due known shown = barrier_is (Owes reply) _ store (λ _. (due, known)) (λ _. (due, known))
  still_due c p (Store (Pending word value)) w reply d due known shown = (ap (λ x. Some (replies.Val x)) known ∙ due, tt)
  still_due c p (Answered given) w reply d due known shown = (due, tt)
  still_due c p _ w reply d due known shown = absurd cc

-- at the linearization point the step's answer falls due
module _ (c : Config) (head : Name → ℕ) (s : GraphState) (a : Name) (p : Pass) (k : Command) (w : ℕ) where
  abbrev pub after : FieldRow → Graph
  after row = (after_event (extent c) s (row_event (extent c) a p.thread k row w)).graph

  abbrev Due : Graph → FieldRow → Type 0
  Due g row = due_at g p.thread k row ≡ Some (answer s.graph p.thread k)

  refused_due : (g : Graph) (row : FieldRow) → Refused s.graph row (step s.graph p.thread k) → Due g row
  refused_due g row r = subst (Due g) (sym r.1) (ap Some (sym (answer_is s.graph p.thread k _ r.2)))

  -- where it stores the value of the field in the command's register
  field_due : (g : Graph) → step s.graph p.thread k ≡ (with_register g p.thread (to_register k) (value_there s.graph k a), replies.Val (value_there s.graph k a))
      → IsSized c.threads g → p.thread < c.threads → IsCommandInRange k → takes_field k ≡ true
      → Due (with_register g p.thread (to_register k) (value_there s.graph k a)) (after_field w (payload_in w))
  field_due g e sized low range takes =
      let to = with_register g p.thread (to_register k) (value_there s.graph k a) in
      let threads : p.thread < length g.mutators = subst (λ x. p.thread < x) (sym sized.threads) low in
      let sixteen : to_register k < length (mutator_at g p.thread).registers =
      subst (λ x. to_register k < x) (sym (sized.sixteen p.thread low)) (to_low k range) in
      let is : register_of to p.thread (to_register k) ≡ value_there s.graph k a =
      register_with_register g p.thread (to_register k) p.thread (to_register k) _ threads sixteen
      ∙ rw (eq-eqb p.thread p.thread refl, eq-eqb (to_register k) (to_register k) refl) refl in
      let says : replies.Val (register_of to p.thread (to_register k)) ≡ answer s.graph p.thread k =
      ap replies.Val is ∙ sym (answer_is s.graph p.thread k _ e) in
      field_is (Due to) w (payload_in w) (λ v. ap Some says)
      (ap Some (ap (λ r. replies.Val (register_of to p.thread r)) (taken_register k takes) ∙ says))

  pub row_decides : (row : FieldRow) → IsSized c.threads s.graph → FitsAt c p k row
      → ShownAt head s.graph p.thread k row w → s.loads p.thread ≡ row_loading (extent c) k row
      → InHandAt s a p.thread k row → is_deciding k row w ≡ true → Due (after row) (row_got (extent c) p k row w)
  row_decides (LoadRegister Object) sized fits h loads hand n =
      refused_due (after (LoadRegister Object)) _ (object_refused head s.graph p.thread w k fits.belongs h n)
  row_decides (LoadRegister (Second word)) sized fits h loads hand n = ap Some (promised head c s.graph p.thread p k (LoadRegister (Second word)) w fits.belongs n h)
  row_decides (LoadRegister Shown) sized fits h loads hand n =
      let says = sym (answer_is s.graph p.thread k _ (say_is s.graph p.thread k fits.belongs)) in
      value_cases head (λ q u. replies.Val u ≡ answer s.graph p.thread k → Due (after (LoadRegister Shown)) (after_said w q))
      w (register_of s.graph p.thread (from_register k)) h (λ e. ap Some e) (λ n e. ap Some e)
      (λ b to e. ap Some (ap (λ g. replies.Val (register_of g p.thread (answered_register k))) (register_leaves c s p.thread k Shown w).1
      ∙ ap (λ r. replies.Val (register_of s.graph p.thread r)) (said_register k fits.belongs) ∙ says)) says
  row_decides (LoadShape x) sized fits h loads hand n =
      refused_due (after (LoadShape x)) _ (shape_refused c p s.graph p.thread x w k fits.belongs h n)
  row_decides (LoadField way) sized fits h loads hand n =
      field_due s.graph (get_is s.graph p.thread k a fits.belongs (within s.graph p.thread k a h.0 hand))
      sized fits.thread.thread fits.command (get_takes k fits.belongs)
  row_decides (Store (Exchanged way word)) sized fits h loads hand n =
      let i = field_index k in
      let x = register_of s.graph p.thread (to_register k) in
      let has = within s.graph p.thread k a h.0 hand in
      let there = has_field s.graph a i has.1 in
      let swaps = swap_register k fits.belongs in
      subst (λ d. Due (swapped s.graph p.thread a i d) (after_field w (payload_in w)))
      (sym (ap (λ l. (value_in l.value).origin) loads ∙ swaps))
      (field_due (with_field s.graph a i x)
      (swap_is s.graph p.thread k a fits.belongs has ∙ ap (λ d. (swapped s.graph p.thread a i d, replies.Val (value_there s.graph k a))) swaps)
      (record {
        threads = threads_with_field s.graph a i x there ∙ sized.threads;
        sixteen = λ t tn. ap length (registers_with_field s.graph a i x there t) ∙ sized.sixteen t tn;
      }) fits.thread.thread fits.command (swap_takes k fits.belongs))
  row_decides (Store (Pending word value)) sized fits h loads hand n = absurd cc
  row_decides (Store store) sized fits h loads hand n = ap Some (promised head c s.graph p.thread p k (Store store) w fits.belongs n h)
  row_decides StoreConstant sized fits h loads hand n = ap Some (promised head c s.graph p.thread p k StoreConstant w fits.belongs n h)
  row_decides IdleLook sized fits h loads hand n = ap Some (promised head c s.graph p.thread p k IdleLook w fits.belongs n h)
  row_decides _ sized fits h loads hand n = absurd cc

module _ (c : Config) (m : ℕ) (K : Name → Type 0) (at : Name → ℕ → ℕ) (few : c.blocks ≤ 65535) (low : m ≤ c.blocks) (s : GraphState) (follows : Follows c.width c.threads m K at s) (h : Heap)
    (a : Name) (p : Pass) (k : Command) (row : FieldRow) (w : ℕ) where
  abbrev on : Graph
  on = (after_event (extent c) s (row_event (extent c) a p.thread k row w)).graph

  -- in graph g the reply that is due is the one that was, or at the linearization point the step's
  abbrev IsDue : Bool → Graph → Type 0
  IsDue b g = (due_at g p.thread k (row_got (extent c) p k row w) ≡ cond b (Some (answer s.graph p.thread k)) (due_at s.graph p.thread k row))
      × KnownAt g p.thread k (row_got (extent c) p k row w)

  pub row_due : FitsAt c p k row → IsAt (extent c) s h p k row w → InHandAt s a p.thread k row → KnownAt s.graph p.thread k row
      → IsDue (is_deciding k row w) on
  row_due fits is hand known = elim (cases_Bool (field_decided row)) [
    | inl d ↦
        let quiet : is_deciding k row w ≡ false = decided_once k row w d in
        let due = some_due s.graph p.thread k row d in
        let out = still_due s.graph p.thread k c p row w due.0 d due.1 known (name_is c m K at few low s follows h p k row w fits is) in
        subst (λ b. IsDue b on) (sym quiet) (subst (IsDue false) (sym (graph_stays c s a p k row w quiet)) (out.0 ∙ sym due.1, out.1))
    | inr u ↦ elim (cases_Bool (is_deciding k row w)) [
      | inl n ↦
          let shown = row_shown c m K at few low s follows h p k row w fits is in
          let due = row_decides c (heads at) s a p k w row follows.shows.sized fits shown is.loads hand n in
          subst (λ b. IsDue b on) (sym n) (
            due,
            knows on p.thread k (heads at) (row_got (extent c) p k row w) (answer s.graph p.thread k)
                (promised (heads at) c s.graph p.thread p k row w fits.belongs n shown) due,
          )
      | inr n ↦
          let still : (field_decided row || is_deciding k row w) ≡ false = rw (u, n) refl in
          let out = none_due on p.thread k (row_got (extent c) p k row w) ((goes_on 0 p (extent c) k row w).0 ∙ still) in
          subst (λ b. IsDue b on) (sym n) (out.0 ∙ sym (none_due s.graph p.thread k row u).0, out.1)
    ]
  ]
