-- Where the words show the graph, a row reads what the graph says, and what its places can hold.
use Rattle.std.proofs.Common.{◌≡◌, ◌≢◌, ℕ, ◌+◌, ◌<◌, ◌≤◌, Bool, true, false, None, Some, IfSome, is_some, eqb, length, refl, sym, ap, ◌∙◌, subst, arith}
use Rattle.barrier_steps.proofs.Common.{Config, REGISTERS, Name, Value, Heap, payload_of, target, extent, Phase, shape_of, payloads, payload-code, target-number, target-nil, Command, Reply, ObjectKind, Record, Array, object_of, field_of, register_of, kind_shape, shape_part, block_words, value_word, heads, ValueLoad, Loading, GraphState, Follows, TreePath, Pass, place_of, CanHold, IsHeld, FieldRow, shape_length, links_to, link_at, field_at, ordinal_at, to_register, answered_register, from_register, other_register, field_index, expected_register, register_place, register_wanted, field_place, row_want, field_reply, reads_beside_graph, IsThread, IsWalk, IsThere, FitsAt, ReadsAt, IsWordOf, ShownAt, NameShown, ShowsAt, walk_load, object_on, object_load, IsAt, Graph, LoadRegister, LoadShape, LoadLink, LoadField, LoadOwner, Shade, Store, IdleLook, Answered, InField, Exchanged, Compared}
use Rattle.barrier_steps.specs.declared.rows.Purpose.TheVariants as wants
use Rattle.block_store.specs.declared.Payload.TheVariants as payloads
use Rattle.block_store.specs.declared.Value.TheVariants as values
use Rattle.block_store.specs.WideOwners.{wide_of}
use Rattle.block_store.specs.Payloads.{reference_word}
use Rattle.block_store.proofs.Lemmas.{target-reference}
use Rattle.never_heap.specs.declared.Reply.TheVariants as replies
use Rattle.object_lists.specs.Parts.{Part, Link, Field}
use Rattle.heap_invariant.specs.graph_relation.Layouts.{layout_part, object_part}
use Rattle.heap_invariant.specs.graph_relation.Words.{part_word}
use Rattle.heap_invariant.specs.graph_relation.GraphOfWords.{IsValueOf}
use Rattle.heap_invariant.specs.graph_relation.Events.{pending_registers, is_pending, object_in, ObjectIs, ValueIs, LoadIs}
use Rattle.heap_invariant.proofs.Lemmas.{blocks_apart, length_read, name_shown, object_layout, register_read, value_read, words_tell}
use Rattle.barrier_steps.specs.Rows as rows
use Rattle.barrier_steps.specs.Replies.{FieldShown}
use Rattle.barrier_steps.proofs.FieldRows.{to_low, from_low, other_low, expected_low, wanted_low, way_is, link_low, field_low, IsHeldWord, place_at}
use Rattle.barrier_steps.proofs.RowEvents.{payload_read, cas_expects}
use Rattle.barrier_steps.proofs.Decisions.{kind_length}

-- what is in the blocks of an object's shape is what is in those of the object
same_part : (c : Config) (k : ObjectKind) (n o j : ℕ) → shape_part c.width (kind_shape k n) o j ≡ layout_part c.width k n o j
same_part c Record n o j = refl
same_part c Array n o j = refl

-- the name that a row reads is its register's
abbrev pub NameIs : Graph → ℕ → Command → FieldRow → ℕ → Type 0
NameIs g t k (LoadOwner word) w = rows.object_in w ≡ register_of g t (answered_register k)
NameIs g t k _ w = Unit {0}

module _ (c : Config) (m : ℕ) (K : Name → Type 0) (at : Name → ℕ → ℕ) (few : c.blocks ≤ 65535) (low : m ≤ c.blocks) (s : GraphState) (follows : Follows c.width c.threads m K at s) (h : Heap) where
  abbrev pending : ℕ → ℕ → Bool
  pending = pending_registers s.loads

  read_word : (v : Value) (w : ℕ) → IsValueOf K v → value_word (heads at) v ≡ w → IsWordOf (heads at) v w
  read_word v w kept e = ap payload_of (sym e) ∙ value_read c.width c.threads m K s.graph at s.words pending follows.shows v (omega (arith, few, low)) kept

  -- the word of a kept value is one that a payload place can hold
  value_target : (v : Value) → IsValueOf K v → target (value_word (heads at) v) ≤ c.blocks
  value_target values.Nil kept = omega (arith, target-nil)
  value_target (values.Int n) kept = omega (arith, target-number n)
  value_target (values.Ref a) kept =
      omega (arith, target-reference (at a 0), follows.shows.placed.within a 0 kept (object_layout c.width (object_of s.graph a)).first, low)

  value_held : (v : Value) (w : ℕ) → IsValueOf K v → value_word (heads at) v ≡ w → IsHeldWord c w
  value_held v w kept e = (ap is_some (read_word v w kept e), subst (λ x. target x ≤ c.blocks) e (value_target v kept))

  register_held : (t r w : ℕ) → t < c.threads → r < REGISTERS → s.words ≡ block_words h → w ≡ h (register_place (extent c) t r) → IsHeldWord c w
  register_held t r w tn rl words reads =
      let shown = follows.shows.registers.holds t r tn rl in value_held shown.value w shown.kept (sym shown.reads ∙ payload_read s h _ _ w words reads)

  register_shown : (t r w : ℕ) (l : Loading) → t < c.threads → r < REGISTERS → s.loads t ≡ l → is_pending l.value r ≡ false
      → s.words ≡ block_words h → w ≡ h (register_place (extent c) t r) → IsWordOf (heads at) (register_of s.graph t r) w
  register_shown t r w l tn rl loads now words reads = read_word (register_of s.graph t r) w (follows.shows.closed.registers t r tn rl)
      (sym (register_read c.width c.threads m K s.graph at s.words pending follows.shows t r tn rl (ap (λ x. is_pending x.value r) loads ∙ now))
      ∙ payload_read s h _ _ w words reads)

  -- what is in hand is of the graph
  load_is : (t : ℕ) (l : Loading) → t < c.threads → s.loads t ≡ l → LoadIs c.width s.graph at t l
  load_is t l tn e = subst (LoadIs c.width s.graph at t) e (follows.loads t tn)

  is_kept : (t r : ℕ) (a : Name) → t < c.threads → r < REGISTERS → register_of s.graph t r ≡ values.Ref a → K a
  is_kept t r a tn rl e = subst (IsValueOf K) e (follows.shows.closed.registers t r tn rl)

  -- a register's object has field i, of whose kept value this is the word
  abbrev FieldRead : ℕ → ℕ → ℕ → ℕ → Type 0
  FieldRead t r i w = (shown : FieldShown (heads at) s.graph t r i w) × IsHeldWord c w
      × IsValueOf K (field_of (object_of s.graph shown.0.name) i) × (value_word (heads at) (field_of (object_of s.graph shown.0.name) i) ≡ w)

  module _ (t r i : ℕ) (way : TreePath) (is : ObjectIs c.width s.graph at t (object_in (walk_load (extent c) r i way))) (fits : IsWalk c i way) (tn : t < c.threads) where
    kept : K is.name
    kept = is_kept t r is.name tn is.source is.refers

    abbrev ordinal : ℕ
    ordinal = ordinal_at (extent c) way.shape i way.level

    -- the shape that was read is the object's, and what is there is in the object's block
    part_is : (j : ℕ) (p : Part) → shape_part c.width way.shape ordinal j ≡ p → object_part c.width (object_of s.graph is.name) ordinal j ≡ p
    part_is j p e = sym (ap (λ f. shape_part c.width f ordinal j) is.shape
        ∙ same_part c (object_of s.graph is.name).kind (length (object_of s.graph is.name).fields) ordinal j) ∙ e

    stands : (j : ℕ) (p : Part) → j < payloads c.width → shape_part c.width way.shape ordinal j ≡ p
        → s.words.payload way.block j ≡ part_word (heads at) (at is.name) (field_of (object_of s.graph is.name)) p
    stands j p low e = ap (λ x. s.words.payload x j) is.block
        ∙ (follows.shows.written.blocks is.name ordinal kept is.ordinal).words j low
        ∙ ap (part_word (heads at) (at is.name) (field_of (object_of s.graph is.name))) (part_is j p e)

    -- the object has the field, and its word is that of its value
    field_read : (w : ℕ) → IsThere c i way → s.words.payload way.block (field_at (extent c) way.shape i) ≡ w → FieldRead t r i w
    field_read w there e =
        let value = follows.shows.closed.fields is.name i kept in
        let word : value_word (heads at) (field_of (object_of s.graph is.name) i) ≡ w = sym (stands (field_at (extent c) way.shape i) (Field i) (field_low c way.shape i)
        (ap (λ l. shape_part c.width way.shape (ordinal_at (extent c) way.shape i l) (field_at (extent c) way.shape i)) there ∙ (way_is c way.shape i fits.index).ends)) ∙ e in
        let within = subst (λ n. i < n) (ap shape_length is.shape ∙ kind_length (object_of s.graph is.name).kind (length (object_of s.graph is.name).fields)) fits.index in
        ((record { name = is.name; refers = is.refers; within = within }, read_word _ w value word), value_held _ w value word, value, word)

    -- a link's word is a reference
    link_held : (w : ℕ) → way.level < links_to (extent c) way.shape i → s.words.payload way.block (link_at (extent c) way.shape i way.level) ≡ w
        → IsHeldWord c w × (target w ≢ 0)
    link_held w less e =
        let next = ordinal_at (extent c) way.shape i (way.level + 1) in
        let j = link_at (extent c) way.shape i way.level in
        let links = (way_is c way.shape i fits.index).links way.level less in
        let on = (object_layout c.width (object_of s.graph is.name)).onward _ _ next (part_is j (Link next) links) in
        let behind : 1 ≤ at is.name next = above (follows.shows.placed.behind is.name next kept on.2) in
        let word : w ≡ reference_word (at is.name next) = sym e ∙ stands j (Link next) (link_low c way.shape i way.level) links in
        let goes : target w ≡ at is.name next = ap target word ∙ target-reference (at is.name next) in
        let within : at is.name next ≤ c.blocks = omega (arith, follows.shows.placed.within is.name next kept on.2, low) in
        let reads = ap payload_of word ∙ payload-code (payloads.Block (at is.name next)) (behind, omega (arith, few)) in
        ((ap is_some reads, omega arith), omega arith)
      where
        above : {x y : ℕ} → x < y → 1 ≤ y
        above h = omega arith

  -- a value's word that refers to a block is that of a name, whose first block it is
  refers_to : (t : ℕ) (v : ValueLoad) → ValueIs s.graph at t v → target v.word ≢ 0 → (a : Name) × (register_of s.graph t v.origin ≡ values.Ref a) × (target v.word ≡ at a 0)
  refers_to t v is some = go (register_of s.graph t v.origin) refl
    where
      go : (x : Value) → register_of s.graph t v.origin ≡ x → (a : Name) × (register_of s.graph t v.origin ≡ values.Ref a) × (target v.word ≡ at a 0)
      go values.Nil e = absurd (some (ap target (is.word ∙ ap (value_word (heads at)) e) ∙ target-nil))
      go (values.Int n) e = absurd (some (ap target (is.word ∙ ap (value_word (heads at)) e) ∙ target-number n))
      go (values.Ref a) e = (a, e, ap target (is.word ∙ ap (value_word (heads at)) e) ∙ target-reference (at a 0))

  field_at_end : (p : Pass) (k : Command) (way : TreePath) (w : ℕ) (l : Loading) → IsThread c p.thread
      → IsWalk c (field_index k) way → IsThere c (field_index k) way → s.loads p.thread ≡ l → l.object ≡ object_on (extent c) k way
      → s.words ≡ block_words h → w ≡ h (field_place (extent c) k way) → FieldRead p.thread (from_register k) (field_index k) w
  field_at_end p k way w l thread walk there loads hand words reads =
      let object = subst (λ x. IfSome x (λ y. ObjectIs c.width s.graph at p.thread y)) hand (load_is p.thread l thread.thread loads).object in
      field_read p.thread (from_register k) (field_index k) way object walk thread.thread w there (payload_read s h _ _ w words reads)

  -- where its reply shows a register, a row reads the name of the object to which that refers
  pub row_named : (p : Pass) (k : Command) (row : FieldRow) (w : ℕ) (reply : Reply) → FitsAt c p k row → IsAt (extent c) s h p k row w → ShowsAt s.graph p.thread k row reply → NameShown (heads at) row reply w
  row_named p k (LoadOwner word) w reply fits is shows = λ a says goes.
      let one : replies.Val (register_of s.graph p.thread (answered_register k)) ≡ replies.Val (values.Ref a) = sym shows ∙ says in
      ap wide_of (is.reads ∙ sym (ap (λ b. b.owner (target word)) is.words))
      ∙ name_shown c.width c.threads m K at s follows p.thread fits.thread.thread _ a (load_is p.thread _ fits.thread.thread is.loads).value (cc)
  row_named p k _ w reply fits is shows = tt

  owner_named : (p : Pass) (k : Command) (word w : ℕ) → FitsAt c p k (LoadOwner word) → IsAt (extent c) s h p k (LoadOwner word) w
      → (a : Name) × (register_of s.graph p.thread (answered_register k) ≡ values.Ref a) × (wide_of w ≡ Some (record { thread = a.thread; serial = a.serial; ordinal = 0 }))
  owner_named p k word w fits is =
      let to = refers_to p.thread _ (load_is p.thread _ fits.thread.thread is.loads).value fits.row.1 in
      (to.0, to.1, row_named p k (LoadOwner word) w _ fits is refl to.0 (ap replies.Val to.1) to.2)

  pub name_is : (p : Pass) (k : Command) (row : FieldRow) (w : ℕ) → FitsAt c p k row → IsAt (extent c) s h p k row w → NameIs s.graph p.thread k row w
  name_is p k (LoadOwner word) w fits is = let to = owner_named p k word w fits is in ap rows.object_or_nil to.2 ∙ sym to.1
  name_is p k _ w fits is = tt

  -- what a row has loaded and reads is what the graph says
  pub row_shown : (p : Pass) (k : Command) (row : FieldRow) (w : ℕ) → FitsAt c p k row → IsAt (extent c) s h p k row w → ShownAt (heads at) s.graph p.thread k row w
  row_shown p k (LoadRegister wants.Object) w fits is =
      register_shown p.thread (from_register k) w _ fits.thread.thread (from_low k fits.command) is.loads refl is.words is.reads
  row_shown p k (LoadRegister (wants.Second word)) w fits is =
      let a = from_register k in
      let b = other_register k in
      record {
        first = read_word (register_of s.graph p.thread a) word (follows.shows.closed.registers p.thread a fits.thread.thread (from_low k fits.command))
            (sym (load_is p.thread _ fits.thread.thread is.loads).value.word);
        second = register_shown p.thread b w _ fits.thread.thread (other_low k fits.command) is.loads refl is.words is.reads;
        apart = λ x y ex ey e.
            (blocks_apart c.width c.threads m K s.graph at s.words pending follows.shows x y 0 0 (is_kept p.thread a x fits.thread.thread (from_low k fits.command) ex) (is_kept p.thread b y fits.thread.thread (other_low k fits.command) ey)
            (object_layout c.width (object_of s.graph x)).first (object_layout c.width (object_of s.graph y)).first e).0;
      }
  row_shown p k (LoadRegister wants.Shown) w fits is =
      register_shown p.thread (from_register k) w _ fits.thread.thread (from_low k fits.command) is.loads refl is.words is.reads
  row_shown p k (LoadShape x) w fits is =
      let o : ObjectIs c.width s.graph at p.thread (object_in (object_load (from_register k) x)) = (load_is p.thread _ fits.thread.thread is.loads).object in
      record {
        name = o.name;
        refers = o.refers;
        shape = ap shape_of (is.reads ∙ sym (ap (λ b. b.shape x) is.words) ∙ ap s.words.shape o.block)
            ∙ length_read c.width c.threads m K s.graph at s.words pending follows.shows o.name 0 (is_kept p.thread (from_register k) o.name fits.thread.thread o.source o.refers) (object_layout c.width (object_of s.graph o.name)).first;
      }
  row_shown p k (LoadField way) w fits is = (field_at_end p k way w _ fits.thread fits.row.0 fits.row.1 is.loads refl is.words is.reads).0
  row_shown p k (Store (InField way word)) w fits is = (field_at_end p k way w _ fits.thread fits.row.0 fits.row.1 is.loads refl is.words is.reads).0.0
  row_shown p k (Store (Exchanged way word)) w fits is = (field_at_end p k way w _ fits.thread fits.row.0 fits.row.1 is.loads refl is.words is.reads).0
  row_shown p k (Store (Compared way word)) w fits is =
      let field = field_at_end p k way w _ fits.thread fits.row.0 fits.row.1 is.loads refl is.words is.reads in
      let expected = subst (λ x. IfSome x (λ y. ValueIs s.graph at p.thread y)) (cas_expects k way.expected fits.belongs)
      (load_is p.thread _ fits.thread.thread is.loads).expected in (
        field.0.0,
        ap (λ x. eqb x way.expected) (sym field.3) ∙ ap (eqb (value_word (heads at) _)) expected.word
            ∙ words_tell c.width c.threads m K s.graph at s.words pending follows.shows _ _ field.2
            (follows.shows.closed.registers p.thread (expected_register k) fits.thread.thread (expected_low k fits.command)),
      )
  row_shown p k _ w fits is = tt

  -- the words that a row reads are among those that it may read
  pub row_reads : (p : Pass) (k : Command) (row : FieldRow) (w : ℕ) → FitsAt c p k row
      → IsAt (extent c) s h p k row w → (reads_beside_graph row ≡ true → IsHeld c h)
      → field_reply row ≡ None → ReadsAt c p k row w
  row_reads p k (LoadRegister wanted) w fits is held goes =
      (register_held p.thread (register_wanted k wanted) w fits.thread.thread (wanted_low k wanted fits.command) is.words is.reads, tt)
  row_reads p k (LoadShape x) w fits is held goes = (ap is_some (row_shown p k (LoadShape x) w fits is).shape, tt)
  row_reads p k (LoadLink way word) w fits is held goes =
      link_held p.thread (from_register k) (field_index k) way (load_is p.thread _ fits.thread.thread is.loads).object fits.row.0 fits.thread.thread w fits.row.1 (payload_read s h _ _ w is.words is.reads)
  row_reads p k (LoadField way) w fits is held goes = ((field_at_end p k way w _ fits.thread fits.row.0 fits.row.1 is.loads refl is.words is.reads).1, tt)
  row_reads p k (LoadOwner word) w fits is held goes = (ap is_some (owner_named p k word w fits is).2, tt)
  row_reads p k (Shade r store) w fits is held goes =
      (subst (CanHold (extent c) (place_of (row_want (extent c) p k (Shade r store)))) (sym is.reads) (held refl (place_of (row_want (extent c) p k (Shade r store))) (place_at c p k (Shade r store) fits)), tt)
  row_reads p k (Store (InField way word)) w fits is held goes = ((field_at_end p k way w _ fits.thread fits.row.0 fits.row.1 is.loads refl is.words is.reads).1, tt)
  row_reads p k (Store (Exchanged way word)) w fits is held goes = ((field_at_end p k way w _ fits.thread fits.row.0 fits.row.1 is.loads refl is.words is.reads).1, tt)
  row_reads p k (Store (Compared way word)) w fits is held goes = ((field_at_end p k way w _ fits.thread fits.row.0 fits.row.1 is.loads refl is.words is.reads).1, tt)
  row_reads p k IdleLook w fits is held goes = (subst (CanHold (extent c) Phase) (sym is.reads) (held refl Phase refl), tt)
  row_reads p k (Answered reply) w fits is held goes = absurd cc
  row_reads p k _ w fits is held goes = (register_held p.thread (to_register k) w fits.thread.thread (to_low k fits.command) is.words is.reads, tt)
