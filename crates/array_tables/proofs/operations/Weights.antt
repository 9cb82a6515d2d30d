-- How many blocks are live at most, read off what a table says of registers and objects.
use Rattle.std.proofs.Common.{◌≡◌, ℕ, zero, suc, ◌+◌, ◌*◌, ◌<◌, ◌≤◌, ◌&&◌, inl, inr, cond, ltb, leb, Bool, true, false, List, [], ◌∷◌, length, map, get_or, slice_index_or, eq-eqb, ne_eqb, sym, refl, ap, ◌∙◌, subst, arith}
use Rattle.std.specs.List.{sum_by}
use Rattle.std.proofs.lemmas.Bool.{cases_eq, cases_lt, and_parts, ltb-true, leb-true}
use Rattle.std.proofs.lemmas.List.{get_or_past, length-map}
use Rattle.std.proofs.lemmas.List.Sums.{sum_by-append}
use Rattle.block_store.specs.declared.Name.{Name}
use Rattle.block_store.specs.declared.Value.{Value}
use Rattle.block_store.specs.declared.Value.TheVariants.{Nil, Ref}
use Rattle.block_store.specs.declared.Width.TheVariants.{Eight}
use Rattle.array_trees.specs.Trees.{array_blocks}
use Rattle.object_lists.specs.Records.{record_blocks}
use Rattle.never_heap.specs.Graphs.{Graph, Object, shared_name, register_of, object_of, field_of}
use Rattle.never_heap.specs.LiveBlocks.{live_blocks, object_blocks, blocks_of_kind}
use Rattle.never_heap.proofs.Lemmas.{refs, thread_of}
use Rattle.array_tables.specs.operations.Applications.{Progress}
use Rattle.array_tables.proofs.operations.LiveBound.{IsPlain, no_ref, Carries, IsIn, total, few as few_of}
use Rattle.array_tables.proofs.operations.Turns.{HoldsBy, Thread}
use Rattle.array_tables.proofs.operations.Tables.{Sym, Own, Lasting, Plain, Shown, Any, Meant, Hold, Is, Has, Spot, Table, own_name, value_of, record_of, held, spot_of, IsProper, Lasts, Meets}

-- fields that refer to no object in the making; and an object of one block that has such fields
abbrev pub all_plain : List Sym → Bool
all_plain [] = true
all_plain (Own k ∷ fs) = false
all_plain (_ ∷ fs) = all_plain fs

abbrev pub is_one : List Sym → Bool
is_one fs = leb (record_blocks Eight (length fs)) 1

abbrev pub is_slim : List Sym → Bool
is_slim fs = all_plain fs && is_one fs

-- the k-th object in the making is there, and of this kind
abbrev pub has_made : (List Sym → Bool) → List (List Sym) → ℕ → Bool
has_made kind made k = ltb k (length made) && kind (get_or made k [])

-- an object refers to such objects alone
abbrev pub refers_slim : List (List Sym) → List Sym → Bool
refers_slim made [] = true
refers_slim made (Own j ∷ fs) = has_made is_slim made j && refers_slim made fs
refers_slim made (_ ∷ fs) = refers_slim made fs

-- the blocks of an object with those to which it refers
abbrev pub weight : List Sym → ℕ
weight [] = 1
weight (Own j ∷ fs) = suc (weight fs)
weight (_ ∷ fs) = weight fs

-- that takes at most m blocks
abbrev pub is_light : List (List Sym) → ℕ → List Sym → Bool
is_light made m fs = is_one fs && (refers_slim made fs && leb (weight fs) m)

abbrev pub light_own : List (List Sym) → ℕ → ℕ → Bool
light_own made m k = has_made (is_light made m) made k

plain_fields : (t o : ℕ) (fs : List Sym) → all_plain fs ≡ true → (i : ℕ)
    → IsPlain (get_or (map (value_of t o) fs) i Nil)
plain_fields t o [] e i = tt
plain_fields t o (Own k ∷ fs) e i = absurd cc
plain_fields t o (_ ∷ fs) e zero = tt
plain_fields t o (_ ∷ fs) e (suc i) = plain_fields t o fs e i

each_field : (P : Value → Type 0) (v : Value) (vs : List Value) → P v
    → ((i : ℕ) → P (get_or vs i Nil)) → (i : ℕ) → P (get_or (v ∷ vs) i Nil)
each_field P v vs here rest zero = here
each_field P v vs here rest (suc i) = rest i

module _ (t o : ℕ) (g : Graph) (made : List (List Sym))
    (own : (k : ℕ) → k < length made
    → object_of g (own_name t o k) ≡ record_of t o (get_or made k []))
  where
    abbrev blocks : Name → ℕ
    blocks c = object_blocks Eight (object_of g c)

    abbrev values : List Sym → List Value
    values fs = map (value_of t o) fs

    one_block : (j : ℕ) → j < length made → is_one (get_or made j []) ≡ true
        → blocks (own_name t o j) ≤ 1
    one_block j low s = subst (λ (x : Object). object_blocks Eight x ≤ 1) (sym (own j low))
        (subst (λ (k : ℕ). record_blocks Eight k ≤ 1)
        (sym (length-map (get_or made j []) (value_of t o)))
        (leb-true (record_blocks Eight (length (get_or made j []))) 1 s))

    -- where a value refers to an object, that refers to none
    abbrev LeadsTo : Value → Type 0
    LeadsTo v = (c : Name) → v ≡ Ref c → (q : ℕ) → IsPlain (field_of (object_of g c) q)

    -- so do the fields of an object, and this is what it takes with those to which it refers
    fields_lead : (fs : List Sym) → refers_slim made fs ≡ true
        → (sum_by blocks (refs (values fs)) + 1 ≤ weight fs)
        × ((i : ℕ) → LeadsTo (get_or (values fs) i Nil))
    fields_lead [] s = (omega arith, λ i c e. absurd cc)
    fields_lead (Own j ∷ fs) s =
        let ds : List Sym = get_or made j [] in
        let parts = and_parts (has_made is_slim made j) (refers_slim made fs) s in
        let there = and_parts (ltb j (length made)) (is_slim ds) parts.0 in
        let slim = and_parts (all_plain ds) (is_one ds) there.1 in
        let low = ltb-true j (length made) there.0 in
        let rest = fields_lead fs parts.1 in
        let one = one_block j low slim.1 in
        let split = sum_by-append blocks (own_name t o j ∷ []) (refs (values fs)) in (
          omega (arith, rest.0, one, split),
          each_field LeadsTo (Ref (own_name t o j)) (values fs) (λ c e q.
              let same : own_name t o j ≡ c = cc in
              subst (λ (x : Name). IsPlain (field_of (object_of g x) q)) same
              (subst (λ (x : Object). IsPlain (field_of x q)) (sym (own j low))
              (plain_fields t o ds slim.0 q))) rest.1,
        )
    fields_lead (f ∷ fs) s =
        let rest = fields_lead fs s in
        (rest.0, each_field LeadsTo (value_of t o f) (values fs) (λ c e. absurd cc) rest.1)

    pub carries_own : (m k : ℕ) → light_own made m k ≡ true → Carries Eight g (own_name t o k) m
    carries_own m k s =
        let fs : List Sym = get_or made k [] in
        let there = and_parts (ltb k (length made)) (is_light made m fs) s in
        let light = and_parts (is_one fs) (refers_slim made fs && leb (weight fs) m) there.1 in
        let few = and_parts (refers_slim made fs) (leb (weight fs) m) light.1 in
        let low = ltb-true k (length made) there.0 in
        let lead = fields_lead fs few.0 in
        record {
          inner = λ i c e. lead.1 i c (ap (λ (x : Object). field_of x i) (sym (own k low)) ∙ e);
          weight = omega (
            arith,
            one_block k low light.0,
            lead.0,
            leb-true (weight fs) m few.1,
            ap (λ (x : Object). sum_by blocks (refs x.fields)) (own k low),
          );
        }

-- registers from a on
abbrev pub upto : ℕ → ℕ → List ℕ
upto a zero = []
upto a (suc k) = a ∷ upto (a + 1) k

pub in_upto : (a k d : ℕ) → a ≤ d → d < a + k → IsIn d (upto a k)
in_upto a zero d low high = absurd (omega arith)
in_upto a (suc k) d low high = elim (cases_eq a d) [
  | inl is ↦ inl is
  | inr ne ↦ inr (in_upto (a + 1) k d (omega arith) (omega arith))
]

pub upto_has : (a k d : ℕ) → IsIn d (upto a k) → (a ≤ d) × (d < a + k)
upto_has a zero d i = absurd i
upto_has a (suc k) d (inl is) = (omega arith, omega arith)
upto_has a (suc k) d (inr i) =
    let u = upto_has (a + 1) k d i in (omega (arith, u.0), omega (arith, u.1))

module _ {Cell K : Type 0} (most : ℕ) (weigh : K → ℕ) where
  abbrev pub light_lasting : ℕ → Lasting Cell K → Bool
  light_lasting m Plain = true
  light_lasting m (Meant y) = leb (weigh y) m
  light_lasting m _ = leb most m

  abbrev pub light_hold : List (List Sym) → ℕ → Hold Cell K → Bool
  light_hold made m (Is (Own k)) = light_own made m k
  light_hold made m (Is _) = true
  light_hold made m (Has y) = light_lasting m y

  abbrev pub all_light : (ℕ → ℕ) → List (List Sym) → List (ℕ × Hold Cell K) → Bool
  all_light limit made [] = true
  all_light limit made (p ∷ ps) = light_hold made (limit p.0) p.1 && all_light limit made ps

  light_held : (limit : ℕ → ℕ) (made : List (List Sym)) (rest : ℕ → Lasting Cell K) (q : ℕ)
      → light_lasting (limit q) (rest q) ≡ true → (puts : List (ℕ × Hold Cell K))
      → all_light limit made puts ≡ true → light_hold made (limit q) (held rest puts q) ≡ true
  light_held limit made rest q r [] s = r
  light_held limit made rest q r (p ∷ ps) s =
      let parts = and_parts (light_hold made (limit p.0) p.1) (all_light limit made ps) s in
      let P : Bool → Type 0 = λ z.
      light_hold made (limit q) (cond z p.1 (held rest ps q)) ≡ true in
      elim (cases_eq p.0 q) [
        | inl is ↦ subst P (sym (eq-eqb p.0 q is))
            (subst (λ (z : ℕ). light_hold made (limit z) p.1 ≡ true) is parts.0)
        | inr ne ↦ subst P (sym (ne_eqb p.0 q ne)) (light_held limit made rest q r ps parts.1)
      ]

module _ {Op Row Answer Cell K L : Type 0} (a : Table Op Row Answer Cell K L) where
  -- what an application has to give: the most blocks of a cell, a register and another value
  pub record Weights : Type 0 where
    pub most : ℕ
    pub weigh : K → ℕ
    pub limit : ℕ → ℕ
    pub shown : (g : Graph) (out : ℕ → ℕ) (v : Value) (c : Cell) (x : Name)
        → a.Shows (object_of g) out v c → v ≡ Ref x → Carries Eight g x most
    pub meant : (g : Graph) (out : ℕ → ℕ) (v : Value) (y : K) (x : Name)
        → a.Means (object_of g) out v y → v ≡ Ref x → Carries Eight g x (weigh y)
    pub rests : (t : ℕ) (l : L) (q : ℕ) → light_lasting most weigh (limit q) (a.rest t l q) ≡ true
    pub rows : (t : ℕ) (l : L) (row : Row) (c : Cell) → a.Fits t l row
        → all_light most weigh limit (a.before row c).made (a.before row c).puts ≡ true

  more : (g : Graph) (x : Name) (m k : ℕ) → leb m k ≡ true → Carries Eight g x m
      → Carries Eight g x k
  more g x m k low c =
      let le = leb-true m k low in record { inner = c.inner; weight = omega (arith, c.weight) }

  module _ (w : Weights) (n : ℕ) (g : Graph) (at : ℕ → Progress Row Answer) (cells : List Cell)
      (out : ℕ → ℕ) (h : HoldsBy a n g at cells out) where
    of_lasting : (m : ℕ) (y : Lasting Cell K) (v : Value) (x : Name)
        → light_lasting w.most w.weigh m y ≡ true → Lasts a (object_of g) out y v → v ≡ Ref x
        → Carries Eight g x m
    of_lasting m Plain v x s p e = absurd (no_ref v x p e)
    of_lasting m (Shown c) v x s p e = more g x w.most m s (w.shown g out v c x p e)
    of_lasting m Any v x s p e = more g x w.most m s (w.shown g out v p.0 x p.1 e)
    of_lasting m (Meant y) v x s p e = more g x (w.weigh y) m s (w.meant g out v y x p e)

    of_hold : (t m : ℕ) (made : List (List Sym)) (y : Hold Cell K) (v : Value) (x : Name)
        → ((k : ℕ) → k < length made
        → object_of g (own_name t (out t) k) ≡ record_of t (out t) (get_or made k []))
        → light_hold w.most w.weigh made m y ≡ true → Meets a (object_of g) out t y v → v ≡ Ref x
        → Carries Eight g x m
    of_hold t m made (Is (Own k)) v x own s p e =
        let same : own_name t (out t) k ≡ x = cc in
        subst (λ (z : Name). Carries Eight g z m) same (carries_own t (out t) g made own m k s)
    of_hold t m made (Has y) v x own s p e = of_lasting m y v x s p e
    of_hold t m made (Is _) v x own s p e = absurd cc

    one_of : (t d : ℕ) (x : Name) → register_of g t d ≡ Ref x
        → Thread a n g out (at t) t
    one_of t d x e = h.each t (omega (arith, thread_of g t d x e, h.threads))

    light_todo : (t : ℕ) (l : L) (rows : List Row) (c : Cell) → IsProper a t l rows
        → all_light w.most w.weigh w.limit (spot_of a rows c).made (spot_of a rows c).puts ≡ true
    light_todo t l [] c p = refl
    light_todo t l (row ∷ rows) c p = w.rows t l row c p.0.0

    by_register : (t d : ℕ) (x : Name) → 1 ≤ d → register_of g t d ≡ Ref x
        → Carries Eight g x (w.limit d)
    by_register t d x some e =
        let p = (one_of t d x e).place in
        let s : Spot Answer Cell K = spot_of a (at t).todo p.cell in
        of_hold t (w.limit d) s.made (held (a.rest t p.state) s.puts d) (register_of g t d) x
        p.spot.own
        (light_held w.most w.weigh w.limit s.made (a.rest t p.state) d (w.rests t p.state d) s.puts
        (light_todo t p.state (at t).todo p.cell p.proper)) (p.spot.regs d some) e

    by_cell : (i : ℕ) (x : Name) → field_of (object_of g (shared_name n)) i ≡ Ref x
        → Carries Eight g x w.most
    by_cell i x e = elim (cases_lt i a.size) [
      | inl low ↦ w.shown g out (field_of (object_of g (shared_name n)) i)
          (slice_index_or cells i a.none) x (h.shared.slots i low) e
      | inr high ↦ (let is_none : Nil ≡ Ref x =
          sym (get_or_past (object_of g (shared_name n)).fields i Nil
          (omega (arith, h.shared.long))) ∙ e in absurd cc)
    ]

    register_low : (t d : ℕ) (x : Name) → register_of g t d ≡ Ref x → d < 16
    register_low t d x e = elim (cases_lt d 16) [
      | inl low ↦ low
      | inr high ↦ (let is_none : Nil ≡ Ref x =
          sym (get_or_past (Rattle.never_heap.specs.Graphs.mutator_at g t).registers d Nil
          (omega (arith, (one_of t d x e).sixteen))) ∙ e in absurd cc)
    ]

    pub few : live_blocks Eight g
        ≤ 3 * n + (array_blocks Eight a.size + (a.size * w.most + total w.limit n (upto 1 15)))
    few =
        let all = few_of Eight n g w.most (upto 1 15) w.limit h.threads
        (λ t low. (h.each t low).zero)
        (λ t d x some e. in_upto 1 15 d some (omega (arith, register_low t d x e)))
        by_cell (λ t d x is e. by_register t d x (upto_has 1 15 d is).0 e) in
        let array : object_blocks Eight (object_of g (shared_name n)) ≡ array_blocks Eight a.size =
        (λ i. blocks_of_kind Eight (h.shared.kind i) (h.shared.long i)) in
        let long : length (object_of g (shared_name n)).fields * w.most ≡ a.size * w.most =
        ap (λ (k : ℕ). k * w.most) h.shared.long in
        omega (arith, all, array, long)
