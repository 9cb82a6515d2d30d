-- The graph after an object was made.
use Rattle.std.proofs.Common.{ℕ, ◌+◌, ◌≡◌, ◌<◌, List, [], ◌∷◌, ◌++◌, length, set, get_or, ap, sym, ◌∙◌}
use Rattle.std.proofs.lemmas.List.{get_or-set_same, get_or_default, set-set}
use Rattle.block_store.specs.declared.Name.{Name}
use Rattle.block_store.specs.declared.Value.{Value}
use Rattle.block_store.specs.declared.Value.TheVariants.{Ref}
use Rattle.never_heap.specs.declared.Reply.TheVariants.{New}
use Rattle.never_heap.specs.Graphs.{Graph, WideGraph, with_graph, Mutator, Object, ObjectKind, no_mutator, mutator_at, with_mutator, next_name}
use Rattle.never_heap.specs.Steps.{made}

same_mutator : (m : Mutator) (rs : List Value) (os : List Object) → m.registers ≡ rs
    → m.objects ≡ os → m ≡ record { registers = rs; objects = os }
same_mutator m rs os r o =
    ap (λ (x : List Value). let k : Mutator = record { registers = x; objects = m.objects } in k) r
    ∙ ap (λ (x : List Object). let k : Mutator = record { registers = rs; objects = x } in k) o

same_object : (o : Object) (k : ObjectKind) (fs : List Value) → o.kind ≡ k → o.fields ≡ fs
    → o ≡ record { kind = k; fields = fs }
same_object o k fs e f =
    ap (λ (x : ObjectKind). let q : Object = record { kind = x; fields = o.fields } in q) e
    ∙ ap (λ (x : List Value). let q : Object = record { kind = k; fields = x } in q) f

-- one change of a thread to which the object was added and in whose register it was stored
made_of : (g : Graph) (t d : ℕ) (o : Object) (m : Mutator) → t < length g.mutators
    → m.registers ≡ set (mutator_at g t).registers d (Ref (next_name g t))
    → m.objects ≡ (mutator_at g t).objects ++ o ∷ []
    → with_mutator g t m ≡ (made g t d o).0
made_of g t d o m there r os =
    let old : Mutator = mutator_at g t in
    let grown : Mutator = record { registers = old.registers; objects = old.objects ++ o ∷ [] } in
    let last : Mutator = record {
      registers = set old.registers d (Ref (next_name g t));
      objects = old.objects ++ o ∷ [];
    } in
    ap (λ k. with_mutator g t k) (same_mutator m last.registers last.objects r os)
    ∙ ap (λ ms. let h : Graph = record { shared = g.shared; mutators = ms } in h)
    (sym (set-set g.mutators t grown last))
    ∙ sym (ap (λ (x : Mutator). with_mutator (with_mutator g t grown) t
    (record { registers = set x.registers d (Ref (next_name g t)); objects = x.objects }))
    (get_or-set_same g.mutators t grown no_mutator there))

made_steps : (g : Graph) (t d n : ℕ) (k : ObjectKind) (fs : List Value) (o : Object)
    (old grown last : Mutator) → t < length g.mutators
    → old ≡ get_or g.mutators t old → n ≡ length old.objects → (o.kind ≡ k) × (o.fields ≡ fs)
    → grown.objects ≡ old.objects ++ o ∷ [] → grown.registers ≡ old.registers
    → last.registers ≡ set grown.registers d (Ref (record { thread = t; serial = n + 1 }))
    → last.objects ≡ grown.objects
    → (New (record { thread = t; serial = n + 1 })
    ≡ (made g t d (record { kind = k; fields = fs })).1)
    × (with_mutator g t last ≡ (made g t d (record { kind = k; fields = fs })).0)
made_steps g t d n k fs o old grown last there is count made_as added kept stored objects =
    let here : old ≡ mutator_at g t = is ∙ get_or_default g.mutators t old no_mutator there in
    let few : n ≡ length (mutator_at g t).objects =
    count ∙ ap (λ (m : Mutator). length m.objects) here in
    let name : record { thread = t; serial = n + 1 } ≡ next_name g t =
    ap (λ (j : ℕ). let x : Name = record { thread = t; serial = j + 1 } in x) few in (
      ap New name,
      made_of g t d (record { kind = k; fields = fs }) last there
          (stored ∙ ap (λ x. set grown.registers d (Ref x)) name
          ∙ ap (λ rs. set rs d (Ref (next_name g t)))
          (kept ∙ ap (λ (m : Mutator). m.registers) here))
          (objects ∙ added ∙ ap (λ x. old.objects ++ x ∷ [])
          (same_object o k fs made_as.0 made_as.1)
          ∙ ap (λ (m : Mutator). m.objects ++ (record { kind = k; fields = fs }) ∷ []) here),
    )

-- the steps of the program: it adds the object, and stores its name in the register
pub made_seen : (g seen : Graph) (t d n : ℕ) (k : ObjectKind) (fs : List Value) (o : Object)
    (old grown last : Mutator) → seen ≡ g → t < length g.mutators
    → old ≡ get_or seen.mutators t old → n ≡ length old.objects → (o.kind ≡ k) × (o.fields ≡ fs)
    → grown.objects ≡ old.objects ++ o ∷ [] → grown.registers ≡ old.registers
    → last.registers ≡ set grown.registers d (Ref (record { thread = t; serial = n + 1 }))
    → last.objects ≡ grown.objects
    → (New (record { thread = t; serial = n + 1 })
    ≡ (made g t d (record { kind = k; fields = fs })).1)
    × (with_mutator seen t last ≡ (made g t d (record { kind = k; fields = fs })).0)
made_seen g seen t d n k fs o old grown last same there is count made_as added kept stored objects =
    let steps = made_steps g t d n k fs o old grown last there
    (is ∙ ap (λ (h
    : Graph). get_or h.mutators t old) same) count made_as added kept stored objects in
    (steps.0, ap (λ (h : Graph). with_mutator h t last) same ∙ steps.1)

-- the same on blocks of some width
pub with_both : (seen now : WideGraph) (h k : Graph) → seen ≡ now → h ≡ k
    → with_graph seen h ≡ with_graph now k
with_both seen now h k s e =
    ap (λ (x : WideGraph). with_graph x h) s ∙ ap (λ (x : Graph). with_graph now x) e
