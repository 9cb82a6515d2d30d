-- What keeps the rule of the grey blocks: an event that writes no word of it, one that writes a
-- list word, one that writes a colour; and what the rule says of a block.
use Rattle.std.proofs.Common.{◌≡◌, ℕ, ◌≤◌, ◌<◌, ◌+◌, ◌-◌, true, false, cond, eqb, refl, arith, subst, sym, ap, ◌∙◌, List, [], ◌∷◌, inl, inr, eq-eqb, ne_eqb, Option, Some, None}
use Rattle.std.proofs.lemmas.Bool.{cases_eq, cases_Bool}
use Rattle.block_store.specs.Places.{Place, Phase, Cursor, FreeCount, GreyList, FreeList, ColourOf, OwnerOf, ShapeOf, PayloadOf}
use Rattle.block_store.specs.Colours.{is_grey}
use Rattle.block_store.specs.Heaps.{Heap, put_at}
use Rattle.block_store.specs.Phases.{bit}
use Rattle.heap_machine.specs.Chains.{Chain}
use Rattle.block_store.specs.Counts.{changed, times, total}
use Rattle.heap_machine.specs.Grey.{GreyInHand, GreyKept, Stands, is_of_grey}
use Rattle.heap_machine.specs.Operations.{Operation, Load, Exchange, CompareExchange, FetchAdd, FetchSub, place_of, heap_after}
use Rattle.heap_machine.proofs.ChainLaws.{Chain-zero, Chain-step, Chain-outside}
use Rattle.block_store.proofs.Lemmas.{bit_le, bit_one, bit_zero, changed_both, colours, total_changed, total_none, total_part, total_parts}

pub Stands-outside : (c : ℕ → ℕ) (y v : ℕ) (o : Option ℕ) (a : ℕ) (xs : List ℕ) → times y xs ≡ 0 → Stands c o a xs → Stands (λ x. cond (eqb y x) v (c x)) o a xs
Stands-outside c y v None a xs out k = Chain-outside c y v xs a out k
Stands-outside c y v (Some x) a [] out k = k
Stands-outside c y v (Some x) a (z ∷ zs) out k = (k.0, Chain-outside c y v zs a (omega arith) k.1)

-- the block under scan is the first
pub Stands-scan : (c : ℕ → ℕ) (x a : ℕ) (xs : List ℕ) → Stands c (Some x) a xs → (zs : List ℕ) × (xs ≡ x ∷ zs) × Chain c a zs
Stands-scan c x a [] k = absurd k
Stands-scan c x a (y ∷ ys) k = (ys, ap (λ z. z ∷ ys) (sym k.0), k.1)

module _ (n : ℕ) (h : Heap) (hs : ℕ → GreyInHand) (k : GreyKept n h hs) (t : ℕ) (low : t < n) where
  -- an event that writes nothing, after which thread t holds w
  pub kept_held : (w : GreyInHand) → Stands (colours h) w.scan w.list (k.private_lists t) → (w.emptied ≡ true → h (GreyList t) ≡ 0) → GreyKept n h (changed hs t w)
  kept_held w stands empty = record {
    lists = k.lists;
    private_lists = k.private_lists;
    list_chain = k.list_chain;
    private_chain = λ u l. changed_both (λ s (v : GreyInHand). Stands (colours h) v.scan v.list (k.private_lists s)) hs t w u (λ e. subst (λ s. Stands (colours h) w.scan w.list (k.private_lists s)) e stands) (λ ne. k.private_chain u l);
    once = k.once;
    emptied = λ u l. changed_both (λ s (v : GreyInHand). v.emptied ≡ true → h (GreyList s) ≡ 0) hs t w u (λ e. subst (λ s. w.emptied ≡ true → h (GreyList s) ≡ 0) e empty) (λ ne. k.emptied u l);
  }

  -- an event that writes a into the list of u: no block is lost between that list and what t holds,
  -- and another thread's list is emptied
  pub kept_list : (u a : ℕ) (w : GreyInHand) (L H : List ℕ) → u < n → Chain (colours h) a L → Stands (colours h) w.scan w.list H
      → ((x : ℕ) → times x L + times x H ≡ times x (k.lists u) + times x (k.private_lists t))
      → (w.emptied ≡ true → put_at h (GreyList u) a (GreyList t) ≡ 0)
      → ((u ≡ t → ⊥) → a ≡ 0)
      → GreyKept n (put_at h (GreyList u) a) (changed hs t w)
  kept_list u a w L H ulow chain stands same empty mine = record {
    lists = changed k.lists u L;
    private_lists = changed k.private_lists t H;
    list_chain = λ s l. elim (cases_eq u s) [
      | inl e ↦ rw (eq-eqb u s e) chain
      | inr ne ↦ rw (ne_eqb u s ne) (k.list_chain s l)
    ];
    private_chain = λ s l. elim (cases_eq t s) [
      | inl e ↦ rw (eq-eqb t s e) stands
      | inr ne ↦ rw (ne_eqb t s ne) (k.private_chain s l)
    ];
    once = λ x.
        let p = total_changed (times x) n k.lists u L ulow in
        let q = total_changed (times x) n k.private_lists t H low in
        let r = k.once x in
        let s = same x in
        omega arith;
    emptied = λ s l. elim (cases_eq t s) [
      | inl e ↦ rw (eq-eqb t s e) (λ is. subst (λ z. put_at h (GreyList u) a (GreyList z) ≡ 0) e (empty is))
      | inr ne ↦ rw (ne_eqb t s ne) (λ is. elim (cases_eq u s) [
        | inl e ↦ rw (eq-eqb u s e) (mine (λ v. ne (sym v ∙ e)))
        | inr away ↦ rw (ne_eqb u s away) (k.emptied s l is)
      ])
    ];
  }

  -- an event that writes v as the colour of block y, which is not grey or is in the private
  -- lists of t
  pub kept_colour : (y v : ℕ) (w : GreyInHand) (H : List ℕ) → bit (is_grey (h (ColourOf y))) ≤ times y (k.private_lists t)
      → Stands (colours (put_at h (ColourOf y) v)) w.scan w.list H
      → ((x : ℕ) → times x H + bit (is_grey (h (ColourOf x))) ≡ times x (k.private_lists t) + bit (is_grey (put_at h (ColourOf y) v (ColourOf x))))
      → (w.emptied ≡ true → h (GreyList t) ≡ 0)
      → GreyKept n (put_at h (ColourOf y) v) (changed hs t w)
  kept_colour y v w H own stands same empty = record {
    lists = k.lists;
    private_lists = changed k.private_lists t H;
    list_chain = λ s l.
        let p = total_part n (λ u. times y (k.lists u)) s l in
        let q = total_part n (λ u. times y (k.private_lists u)) t low in
        let r = k.once y in
        Chain-outside (colours h) y v (k.lists s) (h (GreyList s)) (omega arith) (k.list_chain s l);
    private_chain = λ s l. elim (cases_eq t s) [
      | inl e ↦ rw (eq-eqb t s e) stands
      | inr ne ↦
          let p = total_parts n (λ u. times y (k.private_lists u)) t s low l ne in
          let r = k.once y in
          rw (ne_eqb t s ne) (Stands-outside (colours h) y v (hs s).scan (hs s).list (k.private_lists s) (omega arith) (k.private_chain s l))
    ];
    once = λ x.
        let q = total_changed (times x) n k.private_lists t H low in
        let r = k.once x in
        let s = same x in
        omega arith;
    emptied = λ s l. elim (cases_eq t s) [
      | inl e ↦ rw (eq-eqb t s e) (λ is. subst (λ z. h (GreyList z) ≡ 0) e (empty is))
      | inr ne ↦ rw (ne_eqb t s ne) (k.emptied s l)
    ];
  }

-- a block that is not grey gets another colour that is not
pub kept_other_colour : (n : ℕ) (h : Heap) (hs : ℕ → GreyInHand) (y v : ℕ) → is_grey (h (ColourOf y)) ≡ false → is_grey v ≡ false → GreyKept n h hs → GreyKept n (put_at h (ColourOf y) v) hs
kept_other_colour n h hs y v old new k =
    let none : total n (λ t. times y (k.lists t)) + total n (λ t. times y (k.private_lists t)) ≡ 0 = k.once y ∙ ap bit old in
    record {
      lists = k.lists;
      private_lists = k.private_lists;
      list_chain = λ s l. let p = total_part n (λ t. times y (k.lists t)) s l in Chain-outside (colours h) y v (k.lists s) (h (GreyList s)) (omega arith) (k.list_chain s l);
      private_chain = λ s l. let p = total_part n (λ t. times y (k.private_lists t)) s l in Stands-outside (colours h) y v (hs s).scan (hs s).list (k.private_lists s) (omega arith) (k.private_chain s l);
      once = λ x. k.once x ∙ elim (cases_eq y x) [
        | inl e ↦ rw (eq-eqb y x e, new, ← e, old) refl
        | inr ne ↦ rw (ne_eqb y x ne) refl
      ];
      emptied = k.emptied;
    }

-- a write of any other place
other_write : (n : ℕ) (h : Heap) (hs : ℕ → GreyInHand) (p : Place) (v : ℕ) → is_of_grey p ≡ false → GreyKept n h hs → GreyKept n (put_at h p v) hs
other_write n h hs Phase v o k = k
other_write n h hs Cursor v o k = k
other_write n h hs FreeCount v o k = k
other_write n h hs (GreyList t) v o k = absurd (let z : true ≡ false = o in cc)
other_write n h hs (FreeList t) v o k = k
other_write n h hs (ColourOf x) v o k = absurd (let z : true ≡ false = o in cc)
other_write n h hs (OwnerOf x) v o k = k
other_write n h hs (ShapeOf x) v o k = k
other_write n h hs (PayloadOf x j) v o k = k

pub kept_other : (n : ℕ) (h : Heap) (hs : ℕ → GreyInHand) (o : Operation) → is_of_grey (place_of o) ≡ false → GreyKept n h hs → GreyKept n (heap_after h o) hs
kept_other n h hs (Load p) away k = k
kept_other n h hs (Exchange p v) away k = other_write n h hs p v away k
kept_other n h hs (CompareExchange p old v) away k = elim (cases_Bool (eqb (h p) old)) [
  | inl is ↦ rw is (other_write n h hs p v away k)
  | inr is ↦ rw is k
]
kept_other n h hs (FetchAdd p v) away k = other_write n h hs p (h p + v) away k
kept_other n h hs (FetchSub p v) away k = other_write n h hs p (h p - v) away k

-- the first block of a chain is in it
pub first_stands : (c : ℕ → ℕ) (a : ℕ) (xs : List ℕ) → (a ≡ 0 → ⊥) → Chain c a xs → 1 ≤ times a xs
first_stands c a xs ne k = let s = Chain-step c a xs k ne in rw s.1 (rw (eq-eqb a a refl) (omega arith))

-- and so does the block under scan, or else the first of the private list
scan_stands : (c : ℕ → ℕ) (o : Option ℕ) (a x : ℕ) (xs : List ℕ) → o ≡ Some x → Stands c o a xs → 1 ≤ times x xs
scan_stands c None a x xs e k = absurd (let z : None ≡ Some x = e in cc)
scan_stands c (Some y) a x xs e k =
    let s = Stands-scan c y a xs k in
    let same : y ≡ x = (let z : Some y ≡ Some x = e in cc) in
    let b : bit (eqb x y) ≡ 1 = ap bit (eq-eqb x y (sym same)) in
    rw s.1 (omega arith)

private_stands : (c : ℕ → ℕ) (o : Option ℕ) (a : ℕ) (xs : List ℕ) → (a ≡ 0 → ⊥) → Stands c o a xs → 1 ≤ times a xs
private_stands c None a xs ne k = first_stands c a xs ne k
private_stands c (Some y) a xs ne k =
    let s = Stands-scan c y a xs k in
    let some = first_stands c a s.0 ne s.2 in
    rw s.1 (omega arith)

-- a thread that holds nothing has no block
pub none_stands : (c : ℕ → ℕ) (o : Option ℕ) (a : ℕ) (xs : List ℕ) → o ≡ None → a ≡ 0 → Stands c o a xs → xs ≡ []
none_stands c None a xs e z k = Chain-zero c xs (subst (λ b. Chain c b xs) z k)
none_stands c (Some y) a xs e z k = absurd (let p : Some y ≡ None = e in cc)

module _ (n : ℕ) (h : Heap) (hs : ℕ → GreyInHand) (k : GreyKept n h hs) where
  pub stands_once : (x : ℕ) → is_grey (h (ColourOf x)) ≡ true → total n (λ t. times x (k.lists t)) + total n (λ t. times x (k.private_lists t)) ≡ 1
  stands_once x is = k.once x ∙ ap bit is

  pub in_list : (t x : ℕ) → t < n → times x (k.lists t) ≤ bit (is_grey (h (ColourOf x)))
  in_list t x low = let p = total_part n (λ u. times x (k.lists u)) t low in omega (arith, k.once x)

  pub in_hand : (t x : ℕ) → t < n → times x (k.private_lists t) ≤ bit (is_grey (h (ColourOf x)))
  in_hand t x low = let p = total_part n (λ u. times x (k.private_lists u)) t low in omega (arith, k.once x)

  -- two places of one block are one
  pub one_list : (t u x : ℕ) → t < n → u < n → 1 ≤ times x (k.lists t) → 1 ≤ times x (k.lists u) → t ≡ u
  one_list t u x low ulow a b = elim (cases_eq t u) [
    | inl e ↦ e
    | inr ne ↦ absurd (let p = total_parts n (λ v. times x (k.lists v)) t u low ulow ne in omega (arith, k.once x, bit_le (is_grey (h (ColourOf x)))))
  ]

  pub one_private_list : (t u x : ℕ) → t < n → u < n → 1 ≤ times x (k.private_lists t) → 1 ≤ times x (k.private_lists u) → t ≡ u
  one_private_list t u x low ulow a b = elim (cases_eq t u) [
    | inl e ↦ e
    | inr ne ↦ absurd (let p = total_parts n (λ v. times x (k.private_lists v)) t u low ulow ne in omega (arith, k.once x, bit_le (is_grey (h (ColourOf x)))))
  ]

  pub own_or_private : (t u x : ℕ) → t < n → u < n → 1 ≤ times x (k.lists t) → times x (k.private_lists u) ≡ 0
  own_or_private t u x low ulow a =
      let p = total_part n (λ v. times x (k.lists v)) t low in
      let q = total_part n (λ v. times x (k.private_lists v)) u ulow in
      omega (arith, k.once x, bit_le (is_grey (h (ColourOf x))))

  pub first_is_grey : (t : ℕ) → t < n → (h (GreyList t) ≡ 0 → ⊥) → is_grey (h (ColourOf (h (GreyList t)))) ≡ true
  first_is_grey t low ne =
      let some = first_stands (colours h) (h (GreyList t)) (k.lists t) ne (k.list_chain t low) in
      bit_one (is_grey (h (ColourOf (h (GreyList t))))) (omega (arith, in_list t (h (GreyList t)) low))

  pub private_is_grey : (t : ℕ) → t < n → ((hs t).list ≡ 0 → ⊥) → is_grey (h (ColourOf (hs t).list)) ≡ true
  private_is_grey t low ne =
      let some = private_stands (colours h) (hs t).scan (hs t).list (k.private_lists t) ne (k.private_chain t low) in
      bit_one (is_grey (h (ColourOf (hs t).list))) (omega (arith, in_hand t (hs t).list low))

  pub scan_is_grey : (t x : ℕ) → t < n → (hs t).scan ≡ Some x → is_grey (h (ColourOf x)) ≡ true
  scan_is_grey t x low e =
      let some = scan_stands (colours h) (hs t).scan (hs t).list x (k.private_lists t) e (k.private_chain t low) in
      bit_one (is_grey (h (ColourOf x))) (omega (arith, in_hand t x low))

  -- where all lists are empty and no thread holds a block, none is grey
  pub none_is_grey : ((t : ℕ) → t < n → (h (GreyList t) ≡ 0) × ((hs t).list ≡ 0) × ((hs t).scan ≡ None)) → (x : ℕ) → is_grey (h (ColourOf x)) ≡ false
  none_is_grey empty x =
      let a : total n (λ t. times x (k.lists t)) ≡ 0 = total_none n (λ t. times x (k.lists t)) (λ t low. (let nil : k.lists t ≡ [] = Chain-zero (colours h) (k.lists t) (subst (λ b. Chain (colours h) b (k.lists t)) (empty t low).0 (k.list_chain t low)) in rw nil refl)) in
      let b : total n (λ t. times x (k.private_lists t)) ≡ 0 = total_none n (λ t. times x (k.private_lists t)) (λ t low. (let nil : k.private_lists t ≡ [] = none_stands (colours h) (hs t).scan (hs t).list (k.private_lists t) (empty t low).2 (empty t low).1 (k.private_chain t low) in rw nil refl)) in
      bit_zero (is_grey (h (ColourOf x))) (omega (arith, k.once x))
