-- Each event of a command that allocates nothing keeps that the words show the graph, and that
-- what was loaded is of it.
use Rattle.std.proofs.Common.{◌≡◌, ◌≢◌, ℕ, ◌<◌, inl, inr, false, cond, Option, Some, None, IfSome, List, [], ◌∷◌, length, refl, sym, ap, ◌∙◌, subst, eq-eqb, ne_eqb}
use Rattle.std.proofs.lemmas.Bool.{cases_eq, cases_Bool}
use Rattle.std.proofs.lemmas.List.{length-set}
use Rattle.block_store.specs.Registers.{register_block, register_slot}
use Rattle.block_store.specs.declared.TheConstants.{REGISTERS}
use Rattle.block_store.specs.declared.Width.{Width}
use Rattle.block_store.specs.declared.Config.{Config}
use Rattle.block_store.specs.declared.Name.{Name}
use Rattle.block_store.specs.declared.Shape.{Shape}
use Rattle.block_store.specs.declared.Value.{Value}
use Rattle.block_store.specs.declared.Value.TheVariants.{Nil, Int, Ref}
use Rattle.block_store.specs.Configs.{IsInBounds}
use Rattle.block_store.specs.Payloads.{target}
use Rattle.block_store.specs.Shapes.{shape_of}
use Rattle.block_store.proofs.Lemmas.{target-nil, target-number, target-reference}
use Rattle.never_heap.specs.Graphs.{Graph, Object, ObjectKind, Record, Array, start_graph, object_of, field_of, register_of, same_name, set_field, with_register, with_field}
use Rattle.never_heap.proofs.Lemmas.{one_name}
use Rattle.object_lists.specs.Parts.{Part, Link, Field}
use Rattle.heap_invariant.specs.graph_relation.Layouts.{layout_blocks, layout_part, object_blocks, object_part, object_slot, kind_shape, shape_part}
use Rattle.heap_invariant.specs.graph_relation.Words.{value_word, part_word, with_payload}
use Rattle.heap_invariant.specs.graph_relation.GraphOfWords.{IsValueOf, heads, Shows, every_name}
use Rattle.array_trees.specs.InitialHeaps.{opening_blocks}
use Rattle.heap_invariant.specs.graph_relation.InitialHeaps.{opening_at}
use Rattle.heap_invariant.specs.graph_relation.Events.{ObjectLoad, ValueLoad, Loading, unloaded, late, value_in, with_load, is_pending, pending_registers, IsPrompt, GraphState, Event, object_at, value_at, expected_at, register_word_in, apply, HasObject, HasValue, HasExpected, IsAtField, IsAtLink, IsConstant, Guard, run, Guarded, ObjectIs, ValueIs, LoadIs, Follows, opening_state}
use Rattle.heap_invariant.specs.graph_relation.Events.Event.{ReadObject, ReadValue, ReadExpected, ReadShape, ReadLink, ReadField, StorePending, StoreValue, StoreConstant, StoreField, ExchangeField, Finish}
use Rattle.heap_invariant.proofs.graph_relation.ObjectLayouts.{object_layout}
use Rattle.heap_invariant.proofs.graph_relation.OpeningWords.{opening_shows}
use Rattle.heap_invariant.proofs.graph_relation.WordReads.{length_read, link_read, register_read}
use Rattle.heap_invariant.proofs.graph_relation.Stores.{register_store, register_pending, pending_store, field_store, more_pending, register_same, register_new, object_same, changed_object, register_kept}

pub prompt_register : (v : Option ValueLoad) (r : ℕ) → (value_in v).pending ≡ false
    → is_pending v r ≡ false
prompt_register None r h = refl
prompt_register (Some v) r h = rw h refl

other_register : (v : Option ValueLoad) (r : ℕ) → ((value_in v).origin ≡ r → ⊥)
    → is_pending v r ≡ false
other_register None r h = refl
other_register (Some v) r h =
    elim (cases_Bool v.pending) [ inl e ↦ rw (e, ne_eqb v.origin r h) refl | inr e ↦ rw e refl ]

pub load_here : (ls : ℕ → Loading) (t u : ℕ) (l : Loading) → t ≡ u → with_load ls t l u ≡ l
load_here ls t u l e = ap (λ b. cond b l (ls u)) (eq-eqb t u e)

pub load_other : (ls : ℕ → Loading) (t u : ℕ) (l : Loading) → (t ≡ u → ⊥) → with_load ls t l u
    ≡ ls u
load_other ls t u l n = ap (λ b. cond b l (ls u)) (ne_eqb t u n)

pub each_load : (P : ℕ → Loading → Type 0) (ls : ℕ → Loading) (t : ℕ) (l : Loading) (u : ℕ) → P t l
    → ((t ≡ u → ⊥) → P u (ls u)) → P u (with_load ls t l u)
each_load P ls t l u here others = elim (cases_eq t u) [
  | inl e ↦ subst (λ x. P u x) (sym (load_here ls t u l e)) (subst (λ x. P x l) e here)
  | inr n ↦ subst (λ x. P u x) (sym (load_other ls t u l n)) (others n)
]

-- what is not pending after a load was not pending before, where the thread had nothing pending
was_prompt : (ls : ℕ → Loading) (t : ℕ) (l : Loading) → IsPrompt (ls t) → (u q : ℕ)
    → pending_registers (with_load ls t l) u q ≡ false → pending_registers ls u q ≡ false
was_prompt ls t l prompt u q e = elim (cases_eq t u) [
  | inl same ↦ subst (λ x. pending_registers ls x q ≡ false) same
      (prompt_register (ls t).value q prompt)
  | inr other ↦ ap (λ (x : Loading). is_pending x.value q) (sym (load_other ls t u l other)) ∙ e
]

-- or where the value that it had loaded stays
same_pending : (ls : ℕ → Loading) (t : ℕ) (l : Loading) → l.value ≡ (ls t).value → (u q : ℕ)
    → pending_registers (with_load ls t l) u q ≡ false → pending_registers ls u q ≡ false
same_pending ls t l is u q e = elim (cases_eq t u) [
  | inl same ↦ ap (λ x. pending_registers ls x q) (sym same)
      ∙ ap (λ v. is_pending v q) (sym is)
      ∙ sym (ap (λ (x : Loading). is_pending x.value q) (load_here ls t u l same)) ∙ e
  | inr other ↦ ap (λ (x : Loading). is_pending x.value q) (sym (load_other ls t u l other)) ∙ e
]

pub some_map : {A : Type 0} (P Q : A → Type 0) (o : Option A) → ((x : A) → P x → Q x) → IfSome o P
    → IfSome o Q
some_map P Q None f k = tt
some_map P Q (Some x) f k = f x k

-- what was loaded stays of the graph, while the thread's registers and the sizes of objects stay
pub load_stays : (W : Width) (g h : Graph) (at : Name → ℕ → ℕ) (t : ℕ) (l : Loading)
    → ((r : ℕ) → register_of h t r ≡ register_of g t r)
    → ((a : Name) → ((object_of h a).kind ≡ (object_of g a).kind)
    × (length (object_of h a).fields ≡ length (object_of g a).fields)) → LoadIs W g at t l
    → LoadIs W h at t l
load_stays W g h at t l same sizes k = record {
  object = some_map (λ o. ObjectIs W g at t o) (λ o. ObjectIs W h at t o) l.object (λ o i. record {
    source = i.source;
    name = i.name;
    refers = same o.source ∙ i.refers;
    ordinal = subst (λ b. o.ordinal < b)
        (sym (ap (λ x. layout_blocks W x (length (object_of h i.name).fields)) (sizes i.name).0
        ∙ ap (layout_blocks W (object_of g i.name).kind) (sizes i.name).1)) i.ordinal;
    block = i.block;
    shape = some_map (λ f. f ≡ kind_shape (object_of g i.name).kind
        (length (object_of g i.name).fields))
        (λ f. f ≡ kind_shape (object_of h i.name).kind
        (length (object_of h i.name).fields)) o.shape
        (λ f e. e ∙ sym (ap (λ x. kind_shape x (length (object_of h i.name).fields))
        (sizes i.name).0 ∙ ap (kind_shape (object_of g i.name).kind)
        (sizes i.name).1)) i.shape;
  }) k.object;
  expected = some_map (λ v. ValueIs g at t v) (λ v. ValueIs h at t v) l.expected moved k.expected;
  value = some_map (λ v. ValueIs g at t v) (λ v. ValueIs h at t v) l.value moved k.value;
}
  where
    moved : (v : ValueLoad) → ValueIs g at t v → ValueIs h at t v
    moved v i = record {
      origin = i.origin;
      word = i.word ∙ ap (value_word (heads at)) (sym (same v.origin));
    }

-- a word that refers to a block is of a reference
pub refers_to : (head : Name → ℕ) (v : Value) (word : ℕ) → word ≡ value_word head v
    → target word ≢ 0
    → (a : Name) × (v ≡ Ref a) × (target word ≡ head a)
refers_to head Nil word e h = absurd (h (ap target e ∙ target-nil))
refers_to head (Int k) word e h = absurd (h (ap target e ∙ target-number k))
refers_to head (Ref a) word e h = (a, refl, ap target e ∙ target-reference (head a))

shape_part-kind : (W : Width) (k : ObjectKind) (n o j : ℕ)
    → shape_part W (kind_shape k n) o j ≡ layout_part W k n o j
shape_part-kind W Record n o j = refl
shape_part-kind W Array n o j = refl

pub constant_word : (head : Name → ℕ) (v : Value) → IsConstant v
    → value_word (λ a. 0) v ≡ value_word head v
constant_word head Nil c = refl
constant_word head (Int k) c = refl
constant_word head (Ref a) c = absurd c

pub constant_kept : (K : Name → Type 0) (v : Value) → IsConstant v → IsValueOf K v
constant_kept K Nil c = tt
constant_kept K (Int k) c = c
constant_kept K (Ref a) c = absurd c

module _ (W : Width) (n m : ℕ) (K : Name → Type 0) (at : Name → ℕ → ℕ) (s : GraphState)
    (k : Follows W n m K at s) where
  -- what the thread has loaded
  pub object_is : (t : ℕ) → t < n → HasObject s t → ObjectIs W s.graph at t (object_at s t)
  object_is t tn has = subst (λ o. IfSome o (λ l. ObjectIs W s.graph at t l)) has
      (k.loads t tn).object

  pub value_is : (t : ℕ) → t < n → HasValue s t → ValueIs s.graph at t (value_at s t)
  value_is t tn has = subst (λ o. IfSome o (λ l. ValueIs s.graph at t l)) has (k.loads t tn).value

  pub expected_is : (t : ℕ) → t < n → HasExpected s t → ValueIs s.graph at t (expected_at s t)
  expected_is t tn has = subst (λ o. IfSome o (λ l. ValueIs s.graph at t l)) has
      (k.loads t tn).expected

  pub kept_object : (t : ℕ) (tn : t < n) (l : ObjectLoad) (i : ObjectIs W s.graph at t l) → K i.name
  kept_object t tn l i = subst (λ v. IsValueOf K v) i.refers
      (k.shows.closed.registers t l.source tn i.source)

  -- the part of the object that the read shape names
  part_is : (t : ℕ) (l : ObjectLoad) (i : ObjectIs W s.graph at t l) (f : Shape) (j : ℕ)
      (p : Part) → l.shape ≡ Some f → shape_part W f l.ordinal j ≡ p
      → object_part W (object_of s.graph i.name) l.ordinal j ≡ p
  part_is t l i f j p read e =
      let is : f ≡ kind_shape (object_of s.graph i.name).kind
      (length (object_of s.graph i.name).fields) =
      subst (λ o. IfSome o (λ f. f
      ≡ kind_shape (object_of s.graph i.name).kind
      (length (object_of s.graph i.name).fields))) read i.shape in
      sym (shape_part-kind W (object_of s.graph i.name).kind
      (length (object_of s.graph i.name).fields) l.ordinal j)
      ∙ ap (λ f. shape_part W f l.ordinal j) (sym is) ∙ e

  -- a thread loads, and no word changes
  loads : (t : ℕ) (l : Loading)
      → ((u q : ℕ) → pending_registers (with_load s.loads t l) u q ≡ false
      → pending_registers s.loads u q ≡ false)
      → LoadIs W s.graph at t l
      → Follows W n m K at (record {
        graph = s.graph;
        words = s.words;
        loads = with_load s.loads t l;
      })
  loads t l pending is = record {
    shows = more_pending W n m K s.graph at s.words (pending_registers s.loads) k.shows
        (pending_registers (with_load s.loads t l)) (λ u q un ql e. pending u q e);
    loads = λ u un. each_load (λ u l. LoadIs W s.graph at u l) s.loads t l u is (λ _. k.loads u un);
  }

  nothing : (g : Graph) (t : ℕ) → LoadIs W g at t unloaded
  nothing g t = record { object = tt; expected = tt; value = tt }

  reads_object : (t r : ℕ) → t < n → r < REGISTERS → IsPrompt (s.loads t)
      → target (register_word_in W s.words t r) ≢ 0
      → Follows W n m K at (apply W s (ReadObject t r))
  reads_object t r tn rl prompt some =
      let word : register_word_in W s.words t r
      ≡ value_word (heads at) (register_of s.graph t r) =
      register_read W n m K s.graph at s.words (pending_registers s.loads) k.shows t r tn rl
      (prompt_register (s.loads t).value r prompt) in
      let to = refers_to (heads at) (register_of s.graph t r)
      (register_word_in W s.words t r) word some in
      loads t _ (λ u q e. same_pending s.loads t _ refl u q e) (record {
        expected = (k.loads t tn).expected;
        value = (k.loads t tn).value;
        object = record {
          source = rl;
          name = to.0;
          refers = to.1;
          ordinal = (object_layout W (object_of s.graph to.0)).first;
          block = to.2;
          shape = tt;
        };
      })

  reads_value : (t r : ℕ) → t < n → r < REGISTERS → IsPrompt (s.loads t)
      → Follows W n m K at (apply W s (ReadValue t r))
  reads_value t r tn rl prompt = loads t _ (λ u q e. was_prompt s.loads t _ prompt u q e) (record {
    object = (k.loads t tn).object;
    expected = (k.loads t tn).expected;
    value = record {
      origin = rl;
      word = register_read W n m K s.graph at s.words (pending_registers s.loads) k.shows t r tn rl
          (prompt_register (s.loads t).value r prompt);
    };
  })

  reads_expected : (t r : ℕ) → t < n → r < REGISTERS → IsPrompt (s.loads t)
      → Follows W n m K at (apply W s (ReadExpected t r))
  reads_expected t r tn rl prompt =
      loads t _ (λ u q e. same_pending s.loads t _ refl u q e) (record {
        object = (k.loads t tn).object;
        value = (k.loads t tn).value;
        expected = record {
          origin = rl;
          word = register_read W n m K s.graph at s.words (pending_registers s.loads) k.shows t r tn
              rl (prompt_register (s.loads t).value r prompt);
        };
      })

  reads_shape : (t : ℕ) (f : Shape) → t < n → HasObject s t
      → shape_of (s.words.shape (object_at s t).block) ≡ Some f
      → Follows W n m K at (apply W s (ReadShape t f))
  reads_shape t f tn has read =
      let i = object_is t tn has in
      let is = length_read W n m K s.graph at s.words (pending_registers s.loads) k.shows i.name
      (object_at s t).ordinal (kept_object t tn (object_at s t) i) i.ordinal in
      let one : Some f ≡ Some (kind_shape (object_of s.graph i.name).kind
      (length (object_of s.graph i.name).fields)) =
      sym read ∙ ap (λ x. shape_of (s.words.shape x)) i.block ∙ is in
      loads t _ (λ u q e. same_pending s.loads t _ refl u q e) (record {
        expected = (k.loads t tn).expected;
        value = (k.loads t tn).value;
        object = record {
          source = i.source;
          name = i.name;
          refers = i.refers;
          ordinal = i.ordinal;
          block = i.block;
          shape = cc;
        };
      })

  reads_link : (t j p : ℕ) → t < n → IsAtLink W s t j p
      → Follows W n m K at (apply W s (ReadLink t j p))
  reads_link t j p tn q =
      let i = object_is t tn q.object in
      let link = part_is t (object_at s t) i q.shape j (Link p) q.read q.link in
      let word = link_read W n m K s.graph at s.words (pending_registers s.loads) k.shows i.name
      (object_at s t).ordinal j p (kept_object t tn (object_at s t) i) link in
      loads t _ (λ u q e. same_pending s.loads t _ refl u q e) (record {
        expected = (k.loads t tn).expected;
        value = (k.loads t tn).value;
        object = record {
          source = i.source;
          name = i.name;
          refers = i.refers;
          ordinal = ((object_layout W (object_of s.graph i.name)).onward
              (object_at s t).ordinal j p link).2;
          block = ap (λ x. target (s.words.payload x j)) i.block ∙ ap target word
              ∙ target-reference (at i.name p);
          shape = i.shape;
        };
      })

  finishes : (t : ℕ) → t < n → IsPrompt (s.loads t) → Follows W n m K at (apply W s (Finish t))
  finishes t tn prompt = loads t unloaded (λ u q e. was_prompt s.loads t unloaded prompt u q e)
      (nothing s.graph t)

  -- the load of another thread stays where a register of this one has another value
  other_load : (t d : ℕ) (v : Value) → t < n → d < REGISTERS → IsValueOf K v → (u : ℕ) → u < n
      → (t ≡ u → ⊥) → LoadIs W (with_register s.graph t d v) at u (s.loads u)
  other_load t d v tn dl kept u un ne =
      load_stays W s.graph (with_register s.graph t d v) at u (s.loads u)
      (λ r. sym (register_same W n m K s.graph at s.words (pending_registers s.loads) k.shows
      (pending_registers s.loads) t d tn dl v kept u r (λ e _. ne e)))
      (λ a. let e = object_same W n m K s.graph at s.words (pending_registers s.loads) k.shows
      (pending_registers s.loads) t d tn dl v kept a in
      (ap (λ (x : Object). x.kind) e, ap (λ (x : Object). length x.fields) e)) (k.loads u un)

  -- a kept value is stored in a register, and the command is over
  stores_register : (t d word : ℕ) (v : Value) → t < n → d < REGISTERS → IsPrompt (s.loads t)
      → IsValueOf K v → word ≡ value_word (heads at) v
      → Follows W n m K at (record {
        graph = with_register s.graph t d v;
        words = with_payload s.words (register_block W t d) (register_slot W d) word;
        loads =
            with_load s.loads t unloaded;
      })
  stores_register t d word v tn dl prompt kept e = record {
    shows = subst (λ x. Shows W n m K (with_register s.graph t d v) at
        (with_payload s.words (register_block W t d) (register_slot W d) x)
        (pending_registers (with_load s.loads t unloaded))) (sym e)
        (register_store W n m K s.graph at s.words (pending_registers s.loads) k.shows
        (pending_registers (with_load s.loads t unloaded)) t d tn dl v kept
        (λ u q f _. was_prompt s.loads t unloaded prompt u q f));
    loads = λ u un. each_load
        (λ u l. LoadIs W (with_register s.graph t d v) at u l) s.loads t unloaded u
        (nothing (with_register s.graph t d v) t) (λ ne. other_load t d v tn dl kept u un ne);
  }

  -- the block at which the thread is has field i at this payload
  pub at_field : (t : ℕ) (a : Name) (i j : ℕ) → t < n → IsAtField W s t a i j
      → K a × ((object_at s t).block ≡ at a (object_at s t).ordinal)
      × ((object_at s t).ordinal < object_blocks W (object_of s.graph a))
      × (object_part W (object_of s.graph a) (object_at s t).ordinal j ≡ Field i)
  at_field t a i j tn q =
      let o = object_is t tn q.object in
      let field = part_is t (object_at s t) o q.shape j (Field i) q.read q.field in
      let same : Ref o.name ≡ Ref a = sym o.refers ∙ q.refers in
      let one : o.name ≡ a = cc in
      subst (λ (b : Name). K b × ((object_at s t).block ≡ at b (object_at s t).ordinal)
      × ((object_at s t).ordinal < object_blocks W (object_of s.graph b))
      × (object_part W (object_of s.graph b) (object_at s t).ordinal j ≡ Field i)) one
      (kept_object t tn (object_at s t) o, o.block, o.ordinal, field)

  -- the word of the field at which the thread is
  pub field_word : (t : ℕ) (a : Name) (i j : ℕ) → t < n → IsAtField W s t a i j
      → s.words.payload (object_at s t).block j
      ≡ value_word (heads at) (field_of (object_of s.graph a) i)
  field_word t a i j tn q =
      let (ka, block, low, field) = at_field t a i j tn q in
      let place = (object_layout W (object_of s.graph a)).slots (object_at s t).ordinal j i field in
      ap (λ x. s.words.payload x j) block
      ∙ (k.shows.written.blocks a (object_at s t).ordinal ka low).words j place.2
      ∙ ap (part_word (heads at) (at a) (field_of (object_of s.graph a))) field

  -- a register takes a kept value, whose word is stored later
  takes_late : (t d word : ℕ) (v : Value) → t < n → d < REGISTERS → IsPrompt (s.loads t)
      → IsValueOf K v → word ≡ value_word (heads at) v
      → Follows W n m K at (record {
        graph = with_register s.graph t d v;
        words = s.words;
        loads = with_load s.loads t (late d word);
      })
  takes_late t d word v tn dl prompt kept e = record {
    shows = register_pending W n m K s.graph at s.words (pending_registers s.loads) k.shows
        (pending_registers (with_load s.loads t (late d word))) t d tn dl v kept
        (ap (λ (x : Loading). is_pending x.value d) (load_here s.loads t t (late d word) refl)
        ∙ eq-eqb d d refl) (λ u q e. was_prompt s.loads t (late d word) prompt u q e);
    loads = λ u un. each_load (λ u l. LoadIs W (with_register s.graph t d v) at u l) s.loads t
        (late d word) u
        (record {
          object = tt;
          expected = tt;
          value = record {
            origin = dl;
            word = e ∙ ap (value_word (heads at))
                (register_new W n m K s.graph at s.words (pending_registers s.loads) k.shows
                (pending_registers s.loads) t d tn dl v kept);
          };
        })
        (λ ne. other_load t d v tn dl kept u un ne);
  }

  reads_field : (t d : ℕ) (a : Name) (i j : ℕ) → t < n → d < REGISTERS → IsPrompt (s.loads t)
      → IsAtField W s t a i j → Follows W n m K at (apply W s (ReadField t d a i j))
  reads_field t d a i j tn dl prompt q =
      takes_late t d (s.words.payload (object_at s t).block j) (field_of (object_of s.graph a) i)
      tn dl prompt (k.shows.closed.fields a i (at_field t a i j tn q).0) (field_word t a i j tn q)

  stores_pending : (t : ℕ) → t < n → HasValue s t → Follows W n m K at (apply W s (StorePending t))
  stores_pending t tn has =
      let v = value_is t tn has in
      record {
        shows = subst (λ x. Shows W n m K s.graph at
            (with_payload s.words (register_block W t (value_at s t).origin)
            (register_slot W (value_at s t).origin) x)
            (pending_registers (with_load s.loads t unloaded)))
            (sym v.word)
            (pending_store W n m K s.graph at s.words (pending_registers s.loads) k.shows
            (pending_registers (with_load s.loads t unloaded)) t (value_at s t).origin tn v.origin
            (λ u q e ne. elim (cases_eq t u) [
              | inl same ↦ subst (λ x. pending_registers s.loads x q ≡ false) same
                  (other_register (s.loads t).value q (λ f. ne same f))
              | inr other ↦ ap (λ (x : Loading). is_pending x.value q)
                  (sym (load_other s.loads t u unloaded other)) ∙ e
            ]));
        loads = λ u un. each_load (λ u l. LoadIs W s.graph at u l) s.loads t unloaded u
            (nothing s.graph t) (λ _. k.loads u un);
      }

  -- the state after the loaded value was stored in a field
  abbrev with_put : ℕ → Name → ℕ → ℕ → GraphState
  with_put t a i j = record {
    graph = with_field s.graph a i (register_of s.graph t (value_at s t).origin);
    words = with_payload s.words (object_at s t).block j (value_at s t).word;
    loads = s.loads;
  }

  -- That leaves all that is loaded.
  puts_field : (t : ℕ) (a : Name) (i j : ℕ) → t < n → HasValue s t
      → IsAtField W s t a i j → Follows W n m K at (with_put t a i j)
  puts_field t a i j tn has q =
      let (ka, block, low, field) = at_field t a i j tn q in
      let v = value_is t tn has in
      let x = register_of s.graph t (value_at s t).origin in
      let kept : IsValueOf K (register_of s.graph t (value_at s t).origin) =
      k.shows.closed.registers t (value_at s t).origin tn v.origin in
      let place = (object_layout W (object_of s.graph a)).slots (object_at s t).ordinal j i field in
      let slot : (object_at s t).block ≡ at a (object_slot W (object_of s.graph a) i).0 =
      block ∙ ap (at a) place.3 in
      record {
        shows = subst (λ b. Shows W n m K
            (with_field s.graph a i (register_of s.graph t (value_at s t).origin)) at
            (with_payload s.words b j (value_at s t).word) (pending_registers s.loads)) (sym slot)
            (subst (λ y. Shows W n m K
            (with_field s.graph a i (register_of s.graph t (value_at s t).origin)) at
            (with_payload s.words (at a (object_slot W (object_of s.graph a) i).0) y
            (value_at s t).word) (pending_registers s.loads)) (sym place.4)
            (subst (λ y. Shows W n m K
            (with_field s.graph a i (register_of s.graph t (value_at s t).origin)) at
            (with_payload s.words (at a (object_slot W (object_of s.graph a) i).0)
            (object_slot W (object_of s.graph a) i).1 y) (pending_registers s.loads)) (sym v.word)
            (field_store W n m K s.graph at s.words (pending_registers s.loads) k.shows a i
            (register_of s.graph t (value_at s t).origin) ka place.0 kept)));
        loads = λ u un. load_stays W s.graph
            (with_field s.graph a i (register_of s.graph t (value_at s t).origin)) at u
            (s.loads u)
            (λ r. sym (register_kept W n m K s.graph at s.words (pending_registers s.loads) k.shows
            a i
            (register_of s.graph t (value_at s t).origin) ka place.0 kept u r))
            (λ b. same_size a i (register_of s.graph t (value_at s t).origin) b
            (changed_object W n m K s.graph at s.words (pending_registers s.loads) k.shows a i
            (register_of s.graph t (value_at s t).origin) ka place.0 kept b))
            (k.loads u un);
      }
    where
      same_size : (a : Name) (i : ℕ) (v : Value) (b : Name)
          → object_of (with_field s.graph a i v) b
          ≡ cond (same_name a b) (set_field (object_of s.graph a) i v) (object_of s.graph b)
          → ((object_of (with_field s.graph a i v) b).kind ≡ (object_of s.graph b).kind)
          × (length (object_of (with_field s.graph a i v) b).fields
          ≡ length (object_of s.graph b).fields)
      same_size a i v b e = elim (cases_Bool (same_name a b)) [
        | inl is ↦
            let f : object_of (with_field s.graph a i v) b
            ≡ set_field (object_of s.graph a) i v =
            e ∙ ap (λ c. cond c (set_field (object_of s.graph a) i v)
            (object_of s.graph b)) is in
            let one : a ≡ b = one_name a b is in (
              ap (λ (x : Object). x.kind) f
                  ∙ ap (λ c. (object_of s.graph c).kind) one,
              ap (λ (x : Object). length x.fields) f
                  ∙ length-set (object_of s.graph a).fields i v
                  ∙ ap (λ c. length (object_of s.graph c).fields) one,
            )
        | inr is ↦
            let f : object_of (with_field s.graph a i v) b ≡ object_of s.graph b =
            e ∙ ap (λ c. cond c (set_field (object_of s.graph a) i v)
            (object_of s.graph b)) is in
            (ap (λ (x : Object). x.kind) f, ap (λ (x : Object). length x.fields) f)
      ]

-- a store in a field is over with that, or its register has what was there
module _ (W : Width) (n m : ℕ) (K : Name → Type 0) (at : Name → ℕ → ℕ) (s : GraphState)
    (k : Follows W n m K at s) (t : ℕ) (a : Name) (i j : ℕ) (tn : t < n)
    (prompt : IsPrompt (s.loads t)) (has : HasValue s t) (q : IsAtField W s t a i j) where
  stores_field : Follows W n m K at (apply W s (StoreField t a i j))
  stores_field = finishes W n m K at (with_put W n m K at s k t a i j)
      (puts_field W n m K at s k t a i j tn has q) t tn prompt

  exchanges_field : Follows W n m K at (apply W s (ExchangeField t a i j))
  exchanges_field = takes_late W n m K at (with_put W n m K at s k t a i j)
      (puts_field W n m K at s k t a i j tn has q) t (value_at s t).origin
      (s.words.payload (object_at s t).block j) (field_of (object_of s.graph a) i) tn
      (value_is W n m K at s k t tn has).origin prompt
      (k.shows.closed.fields a i (at_field W n m K at s k t a i j tn q).0)
      (field_word W n m K at s k t a i j tn q)

-- every event that may come keeps it
module _ (W : Width) (n m : ℕ) (K : Name → Type 0) (at : Name → ℕ → ℕ) where
  pub step_follows : (s : GraphState) (e : Event) → Guard W n s e → Follows W n m K at s
      → Follows W n m K at (apply W s e)
  step_follows s (ReadObject t r) q k = reads_object W n m K at s k t r q.0 q.1 q.2 q.3
  step_follows s (ReadValue t r) q k = reads_value W n m K at s k t r q.0 q.1 q.2
  step_follows s (ReadExpected t r) q k = reads_expected W n m K at s k t r q.0 q.1 q.2
  step_follows s (ReadShape t f) q k = reads_shape W n m K at s k t f q.0 q.1 q.2
  step_follows s (ReadLink t j p) q k = reads_link W n m K at s k t j p q.0 q.1
  step_follows s (ReadField t d a i j) q k = reads_field W n m K at s k t d a i j q.0 q.1 q.2 q.3
  step_follows s (StorePending t) q k = stores_pending W n m K at s k t q.0 q.1
  step_follows s (StoreValue t d) q k =
      let v = value_is W n m K at s k t q.0 q.3 in
      stores_register W n m K at s k t d (value_at s t).word
      (register_of s.graph t (value_at s t).origin) q.0 q.1 q.2
      (k.shows.closed.registers t (value_at s t).origin q.0 v.origin) v.word
  step_follows s (StoreConstant t d v) q k =
      stores_register W n m K at s k t d (value_word (λ a. 0) v) v q.0 q.1 q.2
      (constant_kept K v q.3) (constant_word (heads at) v q.3)
  step_follows s (StoreField t a i j) q k = stores_field W n m K at s k t a i j q.0 q.1 q.2 q.3
  step_follows s (ExchangeField t a i j) q k =
      exchanges_field W n m K at s k t a i j q.0 q.1 q.2 q.3
  step_follows s (Finish t) q k = finishes W n m K at s k t q.0 q.1

  pub run_follows : (es : List Event) (s : GraphState) → Guarded W n s es → Follows W n m K at s
      → Follows W n m K at (run W s es)
  run_follows [] s q k = k
  run_follows (e ∷ es) s q k = run_follows es (apply W s e) q.1 (step_follows s e q.0 k)

pub opening_follows : (c : Config) → IsInBounds c
    → Follows c.width c.threads (opening_blocks c) (every_name (start_graph c))
    (opening_at c.width c.threads) (opening_state c)
opening_follows c inside = record {
  shows = opening_shows c inside;
  loads = λ t tn. record { object = tt; expected = tt; value = tt };
}
