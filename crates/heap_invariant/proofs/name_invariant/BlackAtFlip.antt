-- At the flip no block is grey: what the words of the kept graph reach from black blocks is black.
use Rattle.std.proofs.Common.{◌≡◌, ◌≢◌, ℕ, zero, suc, ◌+◌, ◌-◌, ◌<◌, inl, inr, Bool, false, cond, refl, arith, subst, ap, ◌∙◌}
use Rattle.std.proofs.lemmas.Bool.{cases_eq, lt-ltb}
use Rattle.block_store.specs.declared.Name.{Name}
use Rattle.block_store.specs.declared.TheConstants.{REGISTERS}
use Rattle.block_store.specs.declared.Value.{Value}
use Rattle.block_store.specs.declared.Value.TheVariants.{Nil, Int, Ref}
use Rattle.block_store.specs.declared.Width.{Width}
use Rattle.block_store.specs.Colours.{is_free, is_grey, black_word}
use Rattle.block_store.specs.Payloads.{target, reference_word}
use Rattle.block_store.specs.Registers.{root_block, register_block, register_slot, register_thread, register_ordinal}
use Rattle.block_store.specs.Widths.{payloads, register_blocks}
use Rattle.block_store.proofs.Lemmas.{arrays_small, ordinal_low, register_low, register_some, slot_low, thread_low, wide}
use Rattle.block_store.proofs.Registers.{block_is}
use Rattle.never_heap.specs.Graphs.{Graph, object_of, field_of, register_of}
use Rattle.never_heap.proofs.Lemmas.{field_there}
use Rattle.heap_invariant.specs.graph_relation.Layouts.{object_blocks, object_slot}
use Rattle.heap_invariant.specs.graph_relation.Words.{BlockWords, value_word}
use Rattle.heap_invariant.specs.graph_relation.GraphOfWords.{IsValueOf, heads, Closed, Shows}
use Rattle.heap_invariant.proofs.graph_relation.ObjectLayouts.{object_layout}
use Rattle.heap_invariant.proofs.graph_relation.WordReads.{field_read, link_read, register_read}
use Rattle.heap_invariant.specs.name_invariant.Colouring.{IfRefers, IsDark, IsColoured, IsRegisterBlock, NotRoot, Belongs, IsTricolour, SweepColours}
use Rattle.heap_invariant.proofs.name_invariant.Colours.{differ, must_be_black}
use Rattle.heap_invariant.proofs.name_invariant.WordTargets.{refers_here, belongs_refers}

-- a value of fewer names
pub value_kept : (K L : Name → Type 0) (v : Value) → ((a : Name) → v ≡ Ref a → K a → L a)
    → IsValueOf K v → IsValueOf L v
value_kept K L Nil f k = tt
value_kept K L (Int i) f k = k
value_kept K L (Ref a) f k = f a refl k

module _ (W : Width) (n m cycle : ℕ) (K L : Name → Type 0) (g : Graph) (at : Name → ℕ → ℕ)
    (w : BlockWords) (pending : ℕ → ℕ → Bool) (colour : ℕ → ℕ)
    (shows : Shows W n m K g at w pending)
    (fits : (x : ℕ) → IsColoured cycle (colour x))
    (solid : (x : ℕ) → Belongs W n K (λ a. object_blocks W (object_of g a)) at x
    → is_free (colour x) ≡ false)
    (marked : (x : ℕ) → IsDark cycle (colour x)
    → Belongs W n K (λ a. object_blocks W (object_of g a)) at x)
    (prompt : (t r : ℕ) → t < n → r < REGISTERS → pending t r ≡ false)
    (none : (x : ℕ) → is_grey (colour x) ≡ false)
    (tricolour : IsTricolour W cycle colour w.payload)
    (roots : (t : ℕ) → t < n → IsDark cycle (colour (root_block W t)))
    (down : (a : Name) → L a → K a × (colour (at a 0) ≡ black_word cycle))
    (up : (a : Name) → K a → colour (at a 0) ≡ black_word cycle → L a) where
  abbrev blocks : Name → ℕ
  blocks a = object_blocks W (object_of g a)

  abbrev IsBlack : ℕ → Type 0
  IsBlack y = (colour y ≡ black_word cycle) × NotRoot W n y

  -- black refers to black
  pub black_refers : (x j : ℕ) → colour x ≡ black_word cycle → j < payloads W
      → IfRefers IsBlack (w.payload x j)
  black_refers x j black jl some =
      let b = belongs_refers W n m K g at w pending shows x j (marked x (inr black)) jl some in (
        must_be_black cycle _ (fits (target (w.payload x j))) (solid _ b.0) (none _)
            (tricolour x j black jl some),
        b.1,
      )

  to_black : (x j y : ℕ) → colour x ≡ black_word cycle → j < payloads W
      → w.payload x j ≡ reference_word y → y ≢ 0 → colour y ≡ black_word cycle
  to_black x j y black jl e some = (refers_here IsBlack _ y e some (black_refers x j black jl)).0

  root_black : (t : ℕ) → t < n → colour (root_block W t) ≡ black_word cycle
  root_black t tn = either (roots t tn)
    where
      either : IsDark cycle (colour (root_block W t)) → colour (root_block W t) ≡ black_word cycle
      either (inl grey) = absurd (differ _ grey (none (root_block W t)))
      either (inr black) = black

  -- the register arrays are black
  pub array_black : (x : ℕ) → IsRegisterBlock W n x → colour x ≡ black_word cycle
  array_black x r =
      let is : x ≡ root_block W (register_thread W x) + register_ordinal W x = block_is W x r.0 in
      let tn : register_thread W x < n = thread_low W n x r.0 r.1 in
      let low : register_ordinal W x < register_blocks W = ordinal_low W x in
      elim (cases_eq (register_ordinal W x) 0) [
        | inl z ↦ let e : root_block W (register_thread W x) ≡ x = omega arith in subst
            (λ y. colour y ≡ black_word cycle) e (root_black (register_thread W x) tn)
        | inr some ↦
            let j = register_ordinal W x - 1 in
            let jl : register_ordinal W x - 1 < payloads W = omega
            (arith, (arrays_small W).1, (wide W).0) in
            let next : 1 + (register_ordinal W x - 1) < register_blocks W = omega arith in
            let there : root_block W (register_thread W x) + (1 + (register_ordinal W x - 1)) ≡ x =
            omega arith in
            to_black (root_block W (register_thread W x)) (register_ordinal W x - 1) x
            (root_black (register_thread W x) tn) jl
            (shows.registers.roots (register_thread W x) (register_ordinal W x - 1) tn jl
            ∙ ap (λ b. cond b (reference_word
            (root_block W (register_thread W x) + (1 + (register_ordinal W x - 1)))) 0)
            (lt-ltb _ _ next) ∙ ap reference_word there)
            (λ z. omega (arith, r.0))
      ]

  not_zero : (a : Name) (o : ℕ) → K a → o < blocks a → at a o ≢ 0
  not_zero a o ka ol z = omega (arith, shows.placed.behind a o ka ol)

  -- all blocks of an object whose first block is black
  pub whole : (fuel o : ℕ) (a : Name) → o < fuel → K a → colour (at a 0) ≡ black_word cycle
      → o < blocks a → colour (at a o) ≡ black_word cycle
  whole zero o a f ka black low = absurd (omega arith)
  whole (suc fuel) zero a f ka black low = black
  whole (suc fuel) (suc o) a f ka black low =
      let laws = object_layout W (object_of g a) in
      let (q, j, link) = laws.linked (suc o) (omega arith) low in
      let on = laws.onward q j (suc o) link in
      let above = whole fuel q a (omega (arith, on.1)) ka black (omega (arith, on.1)) in
      to_black (at a q) j (at a (suc o)) above on.0
      (link_read W n m K g at w pending shows a q j (suc o) ka link) (not_zero a (suc o) ka low)

  -- what black registers and objects refer to is of the fewer names
  head_black : (x j : ℕ) (d : Name) (v : Value) → colour x ≡ black_word cycle → j < payloads W
      → w.payload x j ≡ value_word (heads at) v → v ≡ Ref d → K d → L d
  head_black x j d v black jl e refers kd = up d kd
      (to_black x j (at d 0) black jl (e ∙ ap (value_word (heads at)) refers)
      (not_zero d 0 kd (object_layout W (object_of g d)).first))

  pub flip_closed : Closed n L (object_of g) (register_of g)
  flip_closed = record {
    fields = λ a i la. (let k = down a la in value_kept K L (field_of (object_of g a) i) (λ d e kd.
        (let il = field_there g a d i e in
        let laws = object_layout W (object_of g a) in
        let slot = laws.slots _ _ i (laws.fields i il) in
        head_black (at a (object_slot W (object_of g a) i).0) (object_slot W (object_of g a) i).1 d
        (field_of (object_of g a) i)
        (whole (suc (object_slot W (object_of g a) i).0) (object_slot W (object_of g a) i).0 a
        (omega arith) k.0 k.1 slot.1) slot.2
        (field_read W n m K g at w pending shows a i k.0 il) e kd))
        (shows.closed.fields a i k.0));
    registers = λ t r tn rl. value_kept K L (register_of g t r) (λ d e kd.
        head_black (register_block W t r) (register_slot W r) d (register_of g t r)
        (array_black (register_block W t r) (register_some W t r, register_low W n t r tn rl))
        (slot_low W r)
        (register_read W n m K g at w pending shows t r tn rl (prompt t r tn rl)) e kd)
        (shows.closed.registers t r tn rl);
  }

  pub flip_colours : SweepColours W n cycle L blocks at colour w.payload (λ t. false)
  flip_colours = record {
    kept = λ a o la ol. (let k = down a la in whole (suc o) o a (omega arith) k.0 k.1 ol);
    arrays = λ x r. inr (array_black x r);
    greys = λ x grey. absurd (differ _ grey (none x));
    roots = λ t tn e. cc;
    darks = λ x j d jl. of_dark x j d jl;
  }
    where
      of_dark : (x j : ℕ) → IsDark cycle (colour x) → j < payloads W
          → IfRefers IsBlack (w.payload x j)
      of_dark x j (inl grey) jl = absurd (differ _ grey (none x))
      of_dark x j (inr black) jl = black_refers x j black jl
