-- Where words refer: those of values, of parts of kept objects, and of register arrays.
use Rattle.std.proofs.Common.{◌≡◌, ◌≢◌, ℕ, ◌+◌, ◌-◌, ◌*◌, ◌≤◌, ◌<◌, inl, inr, Bool, ltb, refl, arith, subst, sym, ap, ◌∙◌}
use Rattle.std.proofs.lemmas.Bool.{cases_eq, cases_Bool, ltb-true}
use Rattle.block_store.specs.declared.Name.{Name}
use Rattle.block_store.specs.declared.TheConstants.{REGISTERS}
use Rattle.block_store.specs.declared.Value.{Value}
use Rattle.block_store.specs.declared.Value.TheVariants.{Nil, Int, Ref}
use Rattle.block_store.specs.declared.Width.{Width}
use Rattle.block_store.specs.declared.Width.TheVariants.{Four, Eight}
use Rattle.block_store.specs.Payloads.{target, reference_word}
use Rattle.block_store.specs.Registers.{root_block, register_block, register_slot, registers_end, register_thread, register_ordinal}
use Rattle.block_store.specs.Widths.{payloads, register_blocks}
use Rattle.block_store.proofs.Lemmas.{arrays_small, ordinal_low, ordinal_of, root_low, root_some, target-nil, target-number, target-reference, thread_low}
use Rattle.block_store.proofs.Registers.{block_is}
use Rattle.object_lists.specs.Parts.{Part, Link, Field, Blank, link_in}
use Rattle.never_heap.specs.Graphs.{Graph, object_of, field_of}
use Rattle.heap_invariant.specs.graph_relation.Layouts.{object_blocks, object_part}
use Rattle.heap_invariant.specs.graph_relation.Made.{link_word}
use Rattle.heap_invariant.specs.graph_relation.Words.{BlockWords, value_word, part_word}
use Rattle.heap_invariant.specs.graph_relation.GraphOfWords.{IsValueOf, heads, Shows, root_word, RegisterShows}
use Rattle.heap_invariant.proofs.graph_relation.ObjectLayouts.{object_layout}
use Rattle.heap_invariant.specs.name_invariant.Colouring.{IfRefers, IsRegisterBlock, NotRoot, IsBlockOf, Belongs}

pub refers_nothing : (P : ℕ → Type 0) (word : ℕ) → target word ≡ 0 → IfRefers P word
refers_nothing P word none some = absurd (some none)

pub refers_block : (P : ℕ → Type 0) (x : ℕ) → (x ≢ 0 → P x) → IfRefers P (reference_word x)
refers_block P x is some = subst P (sym (target-reference x))
    (is (λ e. some (target-reference x ∙ e)))

pub refers_value : (P : ℕ → Type 0) (head : Name → ℕ) (v : Value)
    → ((a : Name) → v ≡ Ref a → P (head a)) → IfRefers P (value_word head v)
refers_value P head Nil is = refers_nothing P 0 target-nil
refers_value P head (Int k) is = refers_nothing P _ (target-number k)
refers_value P head (Ref a) is = refers_block P (head a) (λ _. is a refl)

pub refers_part : (P : ℕ → Type 0) (head : Name → ℕ) (block_of : ℕ → ℕ) (field : ℕ → Value)
    (p : Part) → ((o : ℕ) → p ≡ Link o → P (block_of o))
    → ((i : ℕ) (a : Name) → p ≡ Field i → field i ≡ Ref a → P (head a))
    → IfRefers P (part_word head block_of field p)
refers_part P head block_of field (Link o) link is = refers_block P (block_of o) (λ _. link o refl)
refers_part P head block_of field (Field i) link is = refers_value P head (field i)
    (λ a e. is i a refl e)
refers_part P head block_of field Blank link is = refers_nothing P 0 target-nil

-- a word of a new object refers to a block of it
pub refers_link : (P : ℕ → Type 0) (block_of : ℕ → ℕ) (p : Part)
    → ((o : ℕ) → p ≡ Link o → P (block_of o)) → IfRefers P (link_word block_of (link_in p))
refers_link P block_of (Link o) link = refers_block P (block_of o) (λ _. link o refl)
refers_link P block_of (Field i) link = refers_nothing P 0 target-nil
refers_link P block_of Blank link = refers_nothing P 0 target-nil

-- what an equal word says, and what follows of the block
pub refers_same : (P : ℕ → Type 0) (word other : ℕ) → other ≡ word → IfRefers P word
    → IfRefers P other
refers_same P word other e k = subst (IfRefers P) (sym e) k

pub refers_more : (P Q : ℕ → Type 0) (word : ℕ) → ((y : ℕ) → P y → Q y) → IfRefers P word
    → IfRefers Q word
refers_more P Q word f k some = f (target word) (k some)

-- a reference word to a block that there is
pub refers_here : (P : ℕ → Type 0) (word x : ℕ) → word ≡ reference_word x → x ≢ 0 → IfRefers P word
    → P x
refers_here P word x e some k =
    let t : target word ≡ x = ap target e ∙ target-reference x in
    subst P t (k (λ z. some (sym t ∙ z)))

-- the register at a payload of a block after the root
pub register_here : (W : Width) (t o j : ℕ) → 0 < o → o < register_blocks W → j < payloads W
    → (r : ℕ) × (r < REGISTERS) × (register_block W t r ≡ root_block W t + o)
    × (register_slot W r ≡ j)
register_here Four t o j some low jl = (4 * (o - 1) + j, omega arith, omega arith, omega arith)
register_here Eight t o j some low jl = (8 * (o - 1) + j, omega arith, omega arith, omega arith)

pub root_apart : (W : Width) (t u o : ℕ) → 0 < o → o < register_blocks W
    → root_block W t + o ≡ root_block W u → ⊥
root_apart W t u o some low e =
    let a = ordinal_of W t o low in
    let b = ordinal_of W u 0 (omega arith) in
    let same : root_block W t + o ≡ root_block W u + 0 = omega arith in
    let c : register_ordinal W (root_block W t + o) ≡ register_ordinal W (root_block W u + 0) = ap
    (register_ordinal W) same in
    omega arith

pub root_in : (W : Width) (n t : ℕ) → t < n → IsRegisterBlock W n (root_block W t)
root_in W n t tn = (
  omega (arith, root_some W t),
  omega
      (arith, root_low W n t tn, (arrays_small W).0),
)

pub array_in : (W : Width) (n t o : ℕ) → t < n → o < register_blocks W
    → IsRegisterBlock W n (root_block W t + o)
array_in W n t o tn low = (omega (arith, root_some W t), omega (arith, root_low W n t tn))

-- a block after the register arrays is the first of none
pub behind_roots : (W : Width) (n x : ℕ) → registers_end W n < x → NotRoot W n x
behind_roots W n x behind t tn e = omega (arith, (root_in W n t tn).1)

-- what a root refers to is of its array
pub refers_root : (W : Width) (n t j : ℕ) → t < n
    → IfRefers (λ y. IsRegisterBlock W n y × NotRoot W n y) (root_word W t j)
refers_root W n t j tn = elim (cases_Bool (ltb (1 + j) (register_blocks W))) [
  | inl is ↦
      let low : 1 + j < register_blocks W = ltb-true _ _ is in
      rw is (refers_block (λ y. IsRegisterBlock W n y × NotRoot W n y) (root_block W t + (1 + j))
      (λ _. (
        array_in W n t (1 + j) tn low,
        λ u un e. root_apart W t u (1 + j)
            (omega arith) low e,
      )))
  | inr out ↦ rw out (refers_nothing (λ y. IsRegisterBlock W n y × NotRoot W n y) 0 target-nil)
]

module _ (W : Width) (n m : ℕ) (K : Name → Type 0) (g : Graph) (at : Name → ℕ → ℕ) (w : BlockWords)
    (pending : ℕ → ℕ → Bool) (shows : Shows W n m K g at w pending) where
  abbrev blocks : Name → ℕ
  blocks a = object_blocks W (object_of g a)

  abbrev IsOf : ℕ → Type 0
  IsOf x = IsBlockOf K blocks at x

  first : (a : Name) → 0 < blocks a
  first a = (object_layout W (object_of g a)).first

  pub head_of : (a : Name) → K a → IsOf (heads at a)
  head_of a ka = record { name = a; ordinal = 0; kept = ka; low = first a; is = refl }

  pub kept_ref : (v : Value) (a : Name) → IsValueOf K v → v ≡ Ref a → K a
  kept_ref v a kept e = subst (IsValueOf K) e kept

  pub block_behind : (x : ℕ) → IsOf x → registers_end W n < x
  block_behind x b = subst (λ y. registers_end W n < y) (sym b.is)
      (shows.placed.behind b.name b.ordinal b.kept b.low)

  pub block_within : (x : ℕ) → IsOf x → x ≤ m
  block_within x b = subst (λ y. y ≤ m) (sym b.is)
      (shows.placed.within b.name b.ordinal b.kept b.low)

  -- the word of a kept value
  pub kept_value_refers : (v : Value) → IsValueOf K v → IfRefers IsOf (value_word (heads at) v)
  kept_value_refers v kept = refers_value IsOf (heads at) v (λ a e. head_of a (kept_ref v a kept e))

  -- a payload of a kept block
  pub kept_block_refers : (a : Name) (o j : ℕ) → K a → o < blocks a → j < payloads W
      → IfRefers IsOf (w.payload (at a o) j)
  kept_block_refers a o j ka ol jl =
      refers_same IsOf _ _ ((shows.written.blocks a o ka ol).words j jl)
      (refers_part IsOf (heads at) (at a) (field_of (object_of g a))
      (object_part W (object_of g a) o j)
      (λ p e. record {
        name = a;
        ordinal = p;
        kept = ka;
        low = ((object_layout W (object_of g a)).onward o j p e).2;
        is = refl;
      })
      (λ i b e f. head_of b
      (kept_ref (field_of (object_of g a) i) b (shows.closed.fields a i ka) f)))

  register_refers : (word : ℕ) (v : Value) (is_pending : Bool)
      → RegisterShows word (heads at) K v is_pending → IfRefers IsOf word
  register_refers word v is_pending r =
      refers_same IsOf _ _ r.reads (kept_value_refers r.value r.kept)

  -- a payload of a register array's block
  pub array_refers : (x j : ℕ) → IsRegisterBlock W n x → j < payloads W
      → IfRefers (λ y. Belongs W n K blocks at y × NotRoot W n y) (w.payload x j)
  array_refers x j in_array jl =
      let t = register_thread W x in
      let tn : register_thread W x < n = thread_low W n x in_array.0 in_array.1 in
      let is : x ≡ root_block W (register_thread W x) + register_ordinal W x = block_is W x
      in_array.0 in
      elim (cases_eq (register_ordinal W x) 0) [
        | inl z ↦
            let e : x ≡ root_block W (register_thread W x) = omega arith in
            refers_same (λ y. Belongs W n K blocks at y × NotRoot W n y) _ _
            (ap (λ y. w.payload y j) e ∙ shows.registers.roots (register_thread W x) j tn jl)
            (refers_more (λ y. IsRegisterBlock W n y × NotRoot W n y)
            (λ y. Belongs W n K blocks at y × NotRoot W n y)
            (root_word W (register_thread W x) j) (λ y p. (inl p.0, p.1))
            (refers_root W n (register_thread W x) j tn))
        | inr some ↦
            let (r, small, block, slot) = register_here W (register_thread W x)
            (register_ordinal W x) j (omega arith) (ordinal_low W x) jl in
            let e : w.payload x j ≡ w.payload (register_block W (register_thread W x) r)
            (register_slot W r) = ap (λ y. w.payload y j) (is ∙ sym block)
            ∙ ap (λ i. w.payload (register_block W (register_thread W x) r) i) (sym slot) in
            refers_same (λ y. Belongs W n K blocks at y × NotRoot W n y) _ _ e
            (refers_more IsOf (λ y. Belongs W n K blocks at y × NotRoot W n y) _
            (λ y b. (inr b, behind_roots W n y (block_behind y b)))
            (register_refers _ _ _ (shows.registers.holds (register_thread W x) r tn small)))
      ]

  pub belongs_refers : (x j : ℕ) → Belongs W n K blocks at x → j < payloads W
      → IfRefers (λ y. Belongs W n K blocks at y × NotRoot W n y) (w.payload x j)
  belongs_refers x j (inl r) jl = array_refers x j r jl
  belongs_refers x j (inr b) jl =
      refers_same (λ y. Belongs W n K blocks at y × NotRoot W n y) _ _
      (ap (λ y. w.payload y j) b.is)
      (refers_more IsOf (λ y. Belongs W n K blocks at y × NotRoot W n y) _
      (λ y c. (inr c, behind_roots W n y (block_behind y c)))
      (kept_block_refers b.name b.ordinal j b.kept b.low jl))
