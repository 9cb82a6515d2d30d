-- How many blocks can be live where references are in one array, in a few registers, and in the
-- objects to which these refer, and no deeper.
use Rattle.std.proofs.Common.{◌≡◌, ℕ, zero, suc, ◌+◌, ◌*◌, ◌<◌, ◌≤◌, ◌⊎◌, inl, inr, true, List, [], ◌∷◌, ◌++◌, length, slice_index_or, sym, refl, ap, ◌∙◌, subst, arith}
use Rattle.std.specs.Prelude.{flat_map}
use Rattle.std.specs.List.{sum_by}
use Rattle.std.proofs.lemmas.Bool.{or_cases, or_left, or_right}
use Rattle.std.proofs.lemmas.List.Sums.{sum_by-append}
use Rattle.block_store.specs.declared.Name.{Name}
use Rattle.block_store.specs.declared.Value.{Value}
use Rattle.block_store.specs.declared.Value.TheVariants.{Nil, Int, Ref}
use Rattle.block_store.specs.declared.Width.{Width}
use Rattle.block_store.specs.Registers.{registers_end}
use Rattle.never_heap.specs.Graphs.{Graph, shared_name, register_of, object_of, field_of, same_name}
use Rattle.never_heap.specs.LiveBlocks.{live_blocks, object_blocks}
use Rattle.never_heap.specs.Reach.{is_among, IsClosed}
use Rattle.never_heap.proofs.Lemmas.{one_name, refs, refs_weigh, register_in, registers_at, registers_long, same_itself, thread_of, within}

-- nil or a number
abbrev pub IsPlain : Value → Type 0
IsPlain Nil = Unit {0}
IsPlain (Int n) = Unit {0}
IsPlain (Ref a) = ⊥

pub no_ref : (v : Value) (a : Name) → IsPlain v → v ≡ Ref a → ⊥
no_ref Nil a p e = absurd cc
no_ref (Int n) a p e = absurd cc
no_ref (Ref b) a p e = p

-- the names in values, and in the objects of these names
abbrev pub inner_refs : Graph → Name → List Name
inner_refs g a = refs (object_of g a).fields

abbrev pub deep : Graph → List Value → List Name
deep g vs = refs vs ++ flat_map (inner_refs g) (refs vs)

-- An object takes at most this many blocks with those to which it refers, and those refer to none.
pub record Carries (w : Width) (g : Graph) (a : Name) (most : ℕ) : Type 0 where
  pub inner : (i : ℕ) (c : Name) → field_of (object_of g a) i ≡ Ref c
      → (j : ℕ) → IsPlain (field_of (object_of g c) j)
  pub weight : object_blocks w (object_of g a)
      + sum_by (λ (c : Name). object_blocks w (object_of g c)) (inner_refs g a) ≤ most

-- ---- what is in a list

abbrev pub IsIn : {X : Type 0} → X → List X → Type 0
IsIn d [] = ⊥
IsIn d (x ∷ xs) = (x ≡ d) ⊎ IsIn d xs

in_among : (xs : List Name) (a : Name) → IsIn a xs → is_among xs a ≡ true
in_among [] a i = absurd i
in_among (x ∷ xs) a (inl is) = or_left (same_name a x) (is_among xs a)
    (subst (λ (y : Name). same_name a y ≡ true) (sym is) (same_itself a))
in_among (x ∷ xs) a (inr i) = or_right (same_name a x) (is_among xs a) (in_among xs a i)

among_in : (xs : List Name) (a : Name) → is_among xs a ≡ true → IsIn a xs
among_in [] a e = absurd cc
among_in (x ∷ xs) a e = elim (or_cases (same_name a x) (is_among xs a) e) [
  | inl same ↦ inl (sym (one_name a x same))
  | inr more ↦ inr (among_in xs a more)
]

in_refs : (vs : List Value) (i : ℕ) (a : Name) → slice_index_or vs i Nil ≡ Ref a → IsIn a (refs vs)
in_refs [] i a e = absurd cc
in_refs (Ref b ∷ vs) zero a e = inl cc
in_refs (Ref b ∷ vs) (suc i) a e = inr (in_refs vs i a e)
in_refs (_ ∷ vs) zero a e = absurd cc
in_refs (_ ∷ vs) (suc i) a e = in_refs vs i a e

refs_at : (vs : List Value) (a : Name) → IsIn a (refs vs)
    → (i : ℕ) × (slice_index_or vs i Nil ≡ Ref a)
refs_at [] a i = absurd i
refs_at (Ref b ∷ vs) a (inl is) = (0, ap Ref is)
refs_at (Ref b ∷ vs) a (inr i) = let found = refs_at vs a i in (suc found.0, found.1)
refs_at (_ ∷ vs) a i = let found = refs_at vs a i in (suc found.0, found.1)

in_append : {X : Type 0} (xs ys : List X) (a : X) → IsIn a xs ⊎ IsIn a ys → IsIn a (xs ++ ys)
in_append [] ys a (inr i) = i
in_append (x ∷ xs) ys a (inl (inl is)) = inl is
in_append (x ∷ xs) ys a (inl (inr i)) = inr (in_append xs ys a (inl i))
in_append (x ∷ xs) ys a (inr i) = inr (in_append xs ys a (inr i))
in_append [] ys a (inl i) = absurd i

in_either : {X : Type 0} (xs ys : List X) (a : X) → IsIn a (xs ++ ys) → IsIn a xs ⊎ IsIn a ys
in_either [] ys a i = inr i
in_either (x ∷ xs) ys a (inl is) = inl (inl is)
in_either (x ∷ xs) ys a (inr i) = elim (in_either xs ys a i) [
  | inl first ↦ inl (inr first)
  | inr second ↦ inr second
]

flat_in : {X Y : Type 0} (f : X → List Y) (xs : List X) (x : X) (a : Y) → IsIn x xs
    → IsIn a (f x) → IsIn a (flat_map f xs)
flat_in f [] x a i e = absurd i
flat_in f (y ∷ ys) x a (inl is) e =
    in_append (f y) (flat_map f ys) a (inl (subst (λ z. IsIn a (f z)) (sym is) e))
flat_in f (y ∷ ys) x a (inr more) e =
    in_append (f y) (flat_map f ys) a (inr (flat_in f ys x a more e))

flat_has : {X Y : Type 0} (f : X → List Y) (xs : List X) (b : Y) → IsIn b (flat_map f xs)
    → (x : X) × IsIn x xs × IsIn b (f x)
flat_has f [] b i = absurd i
flat_has f (x ∷ xs) b i = elim (in_either (f x) (flat_map f xs) b i) [
  | inl here ↦ (x, inl refl, here)
  | inr more ↦ (let found = flat_has f xs b more in (found.0, inr found.1, found.2))
]

flat_weight : (f : Name → ℕ) (h : Name → List Name) (xs : List Name)
    → sum_by f (xs ++ flat_map h xs) ≡ sum_by (λ (x : Name). f x + sum_by f (h x)) xs
flat_weight f h xs = sum_by-append f xs (flat_map h xs) ∙ go xs
  where
    go : (ys : List Name) → sum_by f ys + sum_by f (flat_map h ys)
        ≡ sum_by (λ (x : Name). f x + sum_by f (h x)) ys
    go [] = refl
    go (y ∷ ys) =
        let rest = go ys in
        let a = sum_by-append f (y ∷ []) ys in
        let b = sum_by-append f (h y) (flat_map h ys) in
        let c = sum_by-append (λ (x : Name). f x + sum_by f (h x)) (y ∷ []) ys in
        omega arith

module _ (w : Width) (g : Graph) where
  abbrev blocks : Name → ℕ
  blocks a = object_blocks w (object_of g a)

  deep_first : (vs : List Value) (i : ℕ) (a : Name) → slice_index_or vs i Nil ≡ Ref a
      → IsIn a (deep g vs)
  deep_first vs i a e =
      in_append (refs vs) (flat_map (inner_refs g) (refs vs)) a (inl (in_refs vs i a e))

  module _ (vs : List Value) (most : ℕ)
      (carries : (i : ℕ) (a : Name) → slice_index_or vs i Nil ≡ Ref a → Carries w g a most) where
    deep_next : (b a : Name) (i : ℕ) → IsIn b (deep g vs) → field_of (object_of g b) i ≡ Ref a
        → IsIn a (deep g vs)
    deep_next b a i is e = elim (in_either (refs vs) (flat_map (inner_refs g) (refs vs)) b is) [
      | inl first ↦ in_append (refs vs) (flat_map (inner_refs g) (refs vs)) a
          (inr (flat_in (inner_refs g) (refs vs) b a first (in_refs (object_of g b).fields i a e)))
      | inr second ↦
          let by = flat_has (inner_refs g) (refs vs) b second in
          let outer = refs_at vs by.0 by.1 in
          let field = refs_at (object_of g by.0).fields b by.2 in
          absurd (no_ref (field_of (object_of g b) i) a
          ((carries outer.0 by.0 outer.1).inner field.0 b field.1 i) e)
    ]

    deep_weight : sum_by blocks (deep g vs) ≤ length vs * most
    deep_weight =
        let same = flat_weight blocks (inner_refs g) (refs vs) in
        let few = refs_weigh (λ (a : Name). blocks a + sum_by blocks (inner_refs g a)) vs most
        (λ i a e. (carries i a e).weight) in
        omega arith

-- what n threads hold by these registers
abbrev pub total : (ℕ → ℕ) → ℕ → List ℕ → ℕ
total most n [] = 0
total most n (d ∷ ds) = n * most d + total most n ds

module _ (w : Width) (n : ℕ) (g : Graph) (cell_most : ℕ) (ds : List ℕ) (most : ℕ → ℕ)
    (threads : length g.mutators ≡ n)
    (zeros : (t : ℕ) → t < n → register_of g t 0 ≡ Ref (shared_name n))
    (others : (t d : ℕ) (a : Name) → 1 ≤ d → register_of g t d ≡ Ref a → IsIn d ds)
    (by_cells : (i : ℕ) (a : Name) → field_of (object_of g (shared_name n)) i ≡ Ref a
    → Carries w g a cell_most)
    (by_registers : (t d : ℕ) (a : Name) → IsIn d ds → register_of g t d ≡ Ref a
    → Carries w g a (most d)) where
  abbrev cells : List Value
  cells = (object_of g (shared_name n)).fields

  abbrev at_register : ℕ → List Name
  at_register d = deep g (registers_at g d)

  abbrev held : List ℕ → List Name
  held xs = flat_map at_register xs

  abbrev some : List Name
  some = shared_name n ∷ (deep g cells ++ held ds)

  in_register : (d : ℕ) → IsIn d ds → (i : ℕ) (a : Name)
      → slice_index_or (registers_at g d) i Nil ≡ Ref a → Carries w g a (most d)
  in_register d is_in i a e = by_registers i d a is_in (sym (register_in g i d) ∙ e)

  held_weight : (xs : List ℕ) → ((d : ℕ) → IsIn d xs → IsIn d ds)
      → sum_by (blocks w g) (held xs) ≤ total most n xs
  held_weight [] within_ds = omega arith
  held_weight (x ∷ xs) within_ds =
      let rest = held_weight xs (λ d i. within_ds d (inr i)) in
      let here : sum_by (blocks w g) (deep g (registers_at g x)) ≤ n * most x =
      subst (λ (k : ℕ). sum_by (blocks w g) (deep g (registers_at g x)) ≤ k * most x)
      (registers_long g x ∙ threads)
      (deep_weight w g (registers_at g x) (most x)
      (λ i a e. in_register x (within_ds x (inl refl)) i a e)) in
      let split = sum_by-append (blocks w g) (deep g (registers_at g x)) (held xs) in
      omega arith

  in_some : (a : Name) → IsIn a (deep g cells) ⊎ IsIn a (held ds) → IsIn a some
  in_some a i = inr (in_append (deep g cells) (held ds) a i)

  by_register : (t r : ℕ) (a : Name) → register_of g t r ≡ Ref a → IsIn a some
  by_register t zero a e =
      let same : Ref (shared_name n) ≡ Ref a =
      sym (zeros t (omega (arith, thread_of g t 0 a e, threads))) ∙ e in inl cc
  by_register t (suc r) a e =
      in_some a (inr (flat_in at_register ds (suc r) a (others t (suc r) a (omega arith) e)
      (deep_first w g (registers_at g (suc r)) t a (register_in g t (suc r) ∙ e))))

  by_field : (b a : Name) (i : ℕ) → IsIn b some → field_of (object_of g b) i ≡ Ref a → IsIn a some
  by_field b a i (inl is) e =
      in_some a (inl (deep_first w g cells i a (ap (λ c. field_of (object_of g c) i) is ∙ e)))
  by_field b a i (inr more) e = in_some a (elim (in_either (deep g cells) (held ds) b more) [
    | inl cell ↦ inl (deep_next w g cells cell_most by_cells b a i cell e)
    | inr reg ↦ (let found = flat_has at_register ds b reg in
        inr (flat_in at_register ds found.0 a found.1 (deep_next w g (registers_at g found.0)
        (most found.0) (in_register found.0 found.1) b a i found.2 e)))
  ])

  closed : IsClosed g (is_among some)
  closed = record {
    registers = λ t r a e. in_among some a (by_register t r a e);
    fields = λ b a i among e. in_among some a (by_field b a i (among_in some b among) e);
  }

  -- the blocks of registers, of the array, of what its places carry, and of what registers carry
  pub few : live_blocks w g ≤ registers_end w n
      + (blocks w g (shared_name n) + (length cells * cell_most + total most n ds))
  few =
      let all = within w g some closed in
      let first = sum_by-append (blocks w g) (shared_name n ∷ []) (deep g cells ++ held ds) in
      let both = sum_by-append (blocks w g) (deep g cells) (held ds) in
      let in_array = deep_weight w g cells cell_most by_cells in
      let in_threads = held_weight ds (λ d i. i) in
      let same : registers_end w (length g.mutators) ≡ registers_end w n =
      ap (registers_end w) threads in
      omega (arith, all, first, both, in_array, in_threads, same)
