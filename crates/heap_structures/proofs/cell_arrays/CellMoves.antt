-- What a command on an array does to the graph.
use Rattle.std.proofs.Common.{◌≡◌, ◌≢◌, ℕ, zero, suc, ◌<◌, true, false, List, [], ◌∷◌, length, slice_index_or, slice_set, sym, refl, ap, ◌∙◌, subst, arith}
use Rattle.std.specs.Prelude.{replicate}
use Rattle.std.proofs.lemmas.List.{length-set, length-replicate}
use Rattle.block_store.specs.declared.Name.{Name}
use Rattle.block_store.specs.declared.Value.{Value}
use Rattle.block_store.specs.declared.Value.TheVariants.{Nil, Int, Ref}
use Rattle.never_heap.specs.declared.Command.{Command}
use Rattle.never_heap.specs.declared.Command.TheVariants as commands
use Rattle.never_heap.specs.declared.Reply.{Reply}
use Rattle.never_heap.specs.declared.Reply.TheVariants as replies
use Rattle.never_heap.specs.Graphs.{Graph, Object, Array, has_name, mutator_at, next_name, nil_object, object_of, set_field, with_field, with_register}
use Rattle.never_heap.specs.Steps.{made, step}
use Rattle.never_heap.proofs.Lemmas.{Effect, gets, has_name_with_field, makes, next_is_new, puts, puts_is, step_names, stores}
use Rattle.saved_heap.specs.heap_pictures.Following.{HasOneThread}
use Rattle.heap_structures.specs.declared.cells.Cells.{Cells}
use Rattle.heap_structures.specs.Cells.{IsCells, IsNone, IsPlaced, Saves, Spares, held}

-- a step that stores in one register, and changes one object
spared : (g z : Graph) (k : Command) (d : ℕ) (v : Value) (a : Name) (o : Object) (more : ℕ)
    → z ≡ (step g 0 k).0 → Effect g z 0 d v a o more → Spares (d ∷ []) a g z
spared g z k d v a o more is e = record {
  registers = λ q none. e.own q (λ same. none.0 (sym same));
  objects = λ b ne. e.objects b (λ same. ne (sym same));
  names = λ b has. ap (λ h. has_name h b) is ∙ step_names g 0 k b has;
}

pub spares_none : (a : Name) (g : Graph) → Spares [] a g g
spares_none a g = record {
  registers = λ q none. refl;
  objects = λ b ne. refl;
  names = λ b has. has;
}

-- what spares some registers spares fewer
pub spares_wider : (rs ws : List ℕ) (a : Name) (g z : Graph)
    → ((q : ℕ) → IsNone ws q → IsNone rs q) → Spares rs a g z → Spares ws a g z
spares_wider rs ws a g z fewer s = record {
  registers = λ q none. s.registers q (fewer q none);
  objects = s.objects;
  names = s.names;
}

pub spares_both : (rs : List ℕ) (a : Name) (g m z : Graph) → Spares rs a g m → Spares rs a m z
    → Spares rs a g z
spares_both rs a g m z s t = record {
  registers = λ q none. t.registers q none ∙ s.registers q none;
  objects = λ b ne. t.objects b ne ∙ s.objects b ne;
  names = λ b has. t.names b (s.names b has);
}

pub saves_of : (rs ws : List ℕ) (a : Name) (g z : Graph)
    → ((q : ℕ) → IsNone ws q → IsNone rs q) → Spares rs a g z → Saves ws a g z
saves_of rs ws a g z fewer s = record {
  registers = λ q none. s.registers q (fewer q none);
  objects = λ b has ne. s.objects b ne;
  names = s.names;
}

-- an array that is spared
pub cells_spared : (rs : List ℕ) (a : Name) (g z : Graph) (c : Cells) (vs : List Value)
    → Saves rs a g z → c.array ≢ a → IsNone rs c.base → IsCells g c vs → IsCells z c vs
cells_spared rs a g z c vs s apart none is = record {
  base = s.registers c.base none ∙ is.base;
  named = s.names c.array is.named;
  values = ap (λ (o : Object). o.fields) (s.objects c.array is.named apart) ∙ is.values;
  size = is.size;
  placed = is.placed;
}

module _ (g : Graph) (c : Cells) (vs : List Value) (lone : HasOneThread g) (is : IsCells g c vs) where
  there : 0 < length g.mutators
  there = omega (arith, lone.threads)

  room : (d : ℕ) → d < 16 → d < length (mutator_at g 0).registers
  room d low =
      let sixteen : length (mutator_at g 0).registers ≡ 16 = lone.registers in
      omega (arith, sixteen)

  inside : (i : ℕ) → i < length vs → i < length (object_of g c.array).fields
  inside i low = subst (λ fs. i < length fs) (sym is.values) low

  -- a store in a register
  pub record Stored (z : Graph) (d : ℕ) (v : Value) : Type 0 where
    pub cells : IsCells z c vs
    pub spares : Spares (d ∷ []) c.array g z
    pub value : held z d ≡ v

  stored : (k : Command) (d : ℕ) (v : Value) → with_register g 0 d v ≡ (step g 0 k).0
      → d < 16 → d ≢ c.base → Stored (with_register g 0 d v) d v
  stored k d v said low apart =
      let e = stores g 0 d v there (room d low) c.array in
      let s = spared g (with_register g 0 d v) k d v c.array (object_of g c.array) 0 said e in
      record {
        cells = record {
          base = e.own c.base apart ∙ is.base;
          named = s.names c.array is.named;
          values = ap (λ (o : Object). o.fields) e.object ∙ is.values;
          size = is.size;
          placed = is.placed;
        };
        spares = s;
        value = e.stored;
      }

  pub set_stores : (d n : ℕ) → d < 16 → d ≢ c.base
      → Stored (step g 0 (commands.Set d n)).0 d (Int n)
  set_stores d n low apart = stored (commands.Set d n) d (Int n) refl low apart

  pub nil_stores : (d : ℕ) → d < 16 → d ≢ c.base
      → Stored (step g 0 (commands.Nil d)).0 d Nil
  nil_stores d low apart = stored (commands.Nil d) d Nil refl low apart

  abbrev loaded : ℕ → Value
  loaded i = slice_index_or vs i Nil

  pub get_step : (d i : ℕ) → i < length vs → step g 0 (commands.Get d c.base i)
      ≡ (with_register g 0 d (loaded i), replies.Val (loaded i))
  get_step d i low =
      gets g 0 c.base i c.array is.base (inside i low) d
      ∙ ap (λ fs. (with_register g 0 d (slice_index_or fs i Nil), replies.Val (slice_index_or fs i Nil)))
      is.values

  pub get_stores : (d i : ℕ) → i < length vs → d < 16 → d ≢ c.base
      → Stored (step g 0 (commands.Get d c.base i)).0 d (loaded i)
  get_stores d i low few apart =
      let is_step = sym (ap (λ (p : Graph × Reply). p.0) (get_step d i low)) in
      subst (λ z. Stored z d (loaded i)) is_step
      (stored (commands.Get d c.base i) d (loaded i) is_step few apart)

  pub put_step : (i v : ℕ) → i < length vs → step g 0 (commands.Put c.base i v)
      ≡ (with_field g c.array i (held g v), replies.Stored)
  put_step i v low = puts_is g 0 c.base i c.array is.base (inside i low) v

  -- a store in a field
  pub record Put (z : Graph) (i : ℕ) (v : Value) : Type 0 where
    pub cells : IsCells z c (slice_set vs i v)
    pub spares : Spares [] c.array g z

  pub put_puts : (i v : ℕ) → i < length vs
      → Put (step g 0 (commands.Put c.base i v)).0 i (held g v)
  put_puts i v low =
      let e = puts g c.array i (held g v) is.named 0 0 in
      subst (λ z. Put z i (held g v)) (sym (ap (λ (p : Graph × Reply). p.0) (put_step i v low)))
      (record {
        cells = record {
          base = all c.base e ∙ is.base;
          named = has_name_with_field g c.array i (held g v) is.named c.array ∙ is.named;
          values = ap (λ (o : Object). o.fields) e.object
              ∙ ap (λ fs. slice_set fs i (held g v)) is.values;
          size = length-set vs i (held g v) ∙ is.size;
          placed = is.placed;
        };
        spares = record {
          registers = λ q none. all q e;
          objects = λ b ne. e.objects b (λ same. ne (sym same));
          names = λ b has. has_name_with_field g c.array i (held g v) is.named b ∙ has;
        };
      })
    where
      all : (q : ℕ) → Effect g (with_field g c.array i (held g v)) 0 0 (held g 0) c.array
          (set_field (object_of g c.array) i (held g v)) 0
          → held (with_field g c.array i (held g v)) q ≡ held g q
      all zero e = e.stored
      all (suc q) e = e.own (suc q) (λ same. absurd (omega (arith, same)))

-- a new array in a register
pub record Made (g z : Graph) (b n : ℕ) : Type 0 where
  pub cells : (c : Cells) → c.array ≡ next_name g 0 → c.base ≡ b → c.size ≡ n → IsPlaced c
      → IsCells z c (replicate n Nil)
  pub spares : Spares (b ∷ []) (next_name g 0) g z
  pub fresh : has_name g (next_name g 0) ≡ false

pub makes_cells : (g : Graph) (b n : ℕ) → HasOneThread g → b < 16
    → has_name (made g 0 b (nil_object Array n)).0 (next_name g 0) ≡ true
    → Made g (step g 0 (commands.Arr b n)).0 b n
makes_cells g b n lone low named =
    let sixteen : length (mutator_at g 0).registers ≡ 16 = lone.registers in
    let e = makes g 0 b (nil_object Array n) (omega (arith, lone.threads)) (omega (arith, sixteen, low)) in
    let z : Graph = (made g 0 b (nil_object Array n)).0 in
    record {
      cells = λ c array base size placed. record {
        base = ap (held z) base ∙ e.stored ∙ ap Ref (sym array);
        named = ap (has_name z) array ∙ named;
        values = ap (λ a. (object_of z a).fields) array ∙ ap (λ (o : Object). o.fields) e.object;
        size = length-replicate n Nil ∙ sym size;
        placed = placed;
      };
      spares = spared g z (commands.Arr b n) b (Ref (next_name g 0)) (next_name g 0)
          (nil_object Array n) 1 refl e;
      fresh = next_is_new g 0;
    }
