-- A plan in turns.
use Rattle.std.proofs.Common.{◌≡◌, ℕ, zero, suc, ◌+◌, ◌*◌, ◌-◌, ◌<◌, ◌≤◌, true, cond, List, [], ◌∷◌, ◌++◌, length, take, get_or, sym, ap, ◌∙◌, subst, arith}
use Rattle.std.proofs.lemmas.Bool.{le-ltb, lt-ltb}
use Rattle.std.proofs.lemmas.List.{append-nil, take_all}
use Rattle.never_heap.specs.declared.Command.{Command}
use Rattle.never_heap.specs.Graphs.{Object}
use Rattle.saved_heap.specs.declared.heap_pictures.picture.Item.{Item}
use Rattle.saved_heap.specs.declared.heap_pictures.picture.Picture.{Picture}
use Rattle.saved_heap.specs.heap_pictures.Pictures.{Content, content_of, is_sound, view}
use Rattle.saved_heap.specs.heap_pictures.Plans.{all_loads, filled, fills, made, make_table, makes, plan_of, planned, turns}
use Rattle.saved_heap.proofs.heap_pictures.Building.{sound_is}
use Rattle.saved_heap.proofs.heap_pictures.Lists.{get_map, length_map}
use Rattle.saved_heap.proofs.heap_pictures.PlanLists.{each_short, more_fills, more_makes}

module _ (p : Content) where
  abbrev os : List Object
  os = p.objects

  abbrev n : ℕ
  n = length p.objects

  -- a plan where so many objects are made and so many are filled
  abbrev so_far : ℕ → ℕ → List Command
  so_far made filled = make_table n ∷ makes 1 (take made os) ++ fills 1 (take filled os)

  before_loads : (d : ℕ) → d ≤ 2 * n → planned p (suc d) ≡ so_far d (d - n)
  before_loads d low =
      ap (λ b. so_far d (d - n) ++ cond b (all_loads p.registers) []) (le-ltb (2 * n) d low)
      ∙ append-nil (so_far d (d - n))

  pub while_making : (d : ℕ) → d ≤ n → planned p (suc d) ≡ make_table n ∷ makes 1 (take d os)
  while_making d low =
      before_loads d (omega (arith, low))
      ∙ ap (so_far d) (let e : d - n ≡ 0 = omega (arith, low) in e)
      ∙ append-nil (make_table n ∷ makes 1 (take d os))

  pub while_filling : (d : ℕ) → n ≤ d → d ≤ 2 * n → planned p (suc d) ≡ so_far n (d - n)
  while_filling d more low =
      before_loads d low
      ∙ ap (λ xs. make_table n ∷ makes 1 xs ++ fills 1 (take (d - n) os)) (take_all d os more ∙ sym (take_all n os (omega arith)))

  pub whole : planned p (turns n) ≡ plan_of p
  whole =
      let e : turns n ≡ suc (suc (2 * n)) = omega arith in
      ap (planned p) e
      ∙ ap (λ b. so_far (suc (2 * n)) (suc (2 * n) - n) ++ cond b (all_loads p.registers) []) (lt-ltb (2 * n) (suc (2 * n)) (omega arith))
      ∙ (λ i. make_table n ∷ makes 1 (take_all (suc (2 * n)) os (omega arith) i) ++ fills 1 (take_all (suc (2 * n) - n) os (omega arith) i) ++ all_loads p.registers)

  -- the next turn
  pub table_next : (d : ℕ) → d ≡ 0 → (old new : List Command) → new ≡ old ++ make_table n ∷ [] → old ≡ planned p d → new ≡ planned p (d + 1)
  table_next d none old new is before =
      is ∙ ap (λ l. l ++ make_table n ∷ []) (before ∙ ap (planned p) none)
      ∙ sym (while_making 0 (omega arith)) ∙ ap (planned p) (let e : 1 ≡ d + 1 = omega (arith, none) in e)

  pub object_next : (d : ℕ) (o : Object) → 0 < d → d ≤ n → o ≡ get_or os (d - 1) o → (old new : List Command) → new ≡ old ++ made d o
      → old ≡ planned p d → new ≡ planned p (d + 1)
  object_next zero o some low at old new is before = absurd (omega (arith, some))
  object_next (suc d) o some low at old new is before =
      let same : o ≡ get_or os d o = at ∙ ap (λ j. get_or os j o) (let e : suc d - 1 ≡ d = omega arith in e) in
      is ∙ ap (λ x. old ++ made (suc d) x) same
      ∙ more_makes (make_table n ∷ []) old d os o (omega (arith, low)) (before ∙ while_making d (omega (arith, low)))
      ∙ sym (while_making (suc d) low) ∙ ap (planned p) (let e : suc (suc d) ≡ suc d + 1 = omega arith in e)

  pub content_next : (d k : ℕ) (o : Object) → n < d → d ≤ 2 * n → k ≡ d - n → o ≡ get_or os (k - 1) o → (old new : List Command) → new ≡ old ++ filled k o
      → old ≡ planned p d → new ≡ planned p (d + 1)
  content_next zero k o more low is_k at old new is before = absurd (omega (arith, more))
  content_next (suc d) k o more low is_k at old new is before =
      let j : k ≡ suc (d - n) = omega (arith, is_k, more) in
      let same : o ≡ get_or os (d - n) o = at ∙ ap (λ j. get_or os j o) (let e : k - 1 ≡ d - n = omega (arith, j) in e) in
      let next : suc (d - n) ≡ suc d - n = omega (arith, more) in
      is ∙ (λ i. old ++ filled (j i) (same i))
      ∙ more_fills (make_table n ∷ makes 1 (take n os)) old (d - n) os o (omega (arith, low, more)) (before ∙ while_filling d (omega (arith, more)) (omega (arith, low)))
      ∙ ap (so_far n) next
      ∙ sym (while_filling (suc d) (omega (arith, more)) low) ∙ ap (planned p) (let e : suc (suc d) ≡ suc d + 1 = omega arith in e)

  pub registers_next : (d : ℕ) → 2 * n < d → d < turns n → (old new : List Command) → new ≡ old ++ all_loads p.registers
      → old ≡ planned p d → new ≡ planned p (d + 1)
  registers_next d more low old new is before =
      let e : d ≡ suc (2 * n) = omega (arith, more, low) in
      let f : turns n ≡ d + 1 = omega (arith, e) in
      is ∙ ap (λ l. l ++ all_loads p.registers) (before ∙ ap (planned p) e ∙ while_filling (2 * n) (omega arith) (omega arith)
      ∙ (λ i. make_table n ∷ makes 1 (take_all n os (omega arith) i) ++ fills 1 (take_all (2 * n - n) os (omega arith) i)))
      ∙ sym whole ∙ ap (planned p) f

-- of the objects as they are stored
pub count_is : (p : Picture) → length (content_of p).objects ≡ length p.objects.items
count_is p = length_map view p.objects.items

pub object_at : (p : Picture) (i : ℕ) (o : Item) → o ≡ get_or p.objects.items i o → view o ≡ get_or (content_of p).objects i (view o)
object_at p i o is = ap view is ∙ sym (get_map view o p.objects.items i)

pub object_short : (p : Picture) → is_sound (content_of p) ≡ true → (i : ℕ) (o : Item) → i < length p.objects.items → o ≡ get_or p.objects.items i o → length o.fields.items ≤ 65535
object_short p sound i o low is =
    subst (λ (x : Item). length x.fields.items ≤ 65535) (sym is) (each_short _ p.objects.items o i (sound_is (content_of p) sound).objects low)
