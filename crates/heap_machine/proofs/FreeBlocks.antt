-- What keeps the rule of the Free blocks, by the kind of write; and what it says of a block.
use Rattle.std.proofs.Common.{◌≡◌, ◌≢◌, ℕ, zero, suc, ◌+◌, ◌-◌, ◌≤◌, ◌<◌, ◌&&◌, Bool, true, false, cond, eqb, refl, arith, subst, sym, ap, ◌∙◌, List, [], ◌∷◌, length, inl, inr, eq-eqb, ne_eqb}
use Rattle.std.proofs.lemmas.Bool.{cases_eq, cases_Bool, and_from}
use Rattle.block_store.specs.Colours.{is_free, link, free_word}
use Rattle.block_store.proofs.Lemmas.{bit_le, bit_one, changed_both, colours, free_free, link-free, total_bits, total_changed, total_part, total_parts, total_same}
use Rattle.block_store.specs.Heaps.{Heap, put_at}
use Rattle.block_store.specs.Phases.{bit}
use Rattle.block_store.specs.Places.{Extent, Place, Phase, Cursor, FreeCount, GreyList, FreeList, ColourOf, OwnerOf, ShapeOf, PayloadOf, is_block}
use Rattle.heap_machine.specs.Chains.{Chain}
use Rattle.block_store.specs.Counts.{changed, times, total}
use Rattle.heap_machine.specs.FreeBlocks.{FreeInHand, FreeOf, FreeKept, is_of_free}
use Rattle.heap_machine.specs.Operations.{Operation, Load, Exchange, CompareExchange, FetchAdd, FetchSub, place_of, heap_after}
use Rattle.heap_machine.proofs.ChainLaws.{Chain-zero, Chain-step, Chain-outside, Chain-front}
use Rattle.heap_machine.proofs.GreyBlocks.{first_stands}
use Rattle.block_store.proofs.Indexes.{block_is}

abbrev free_lists : Heap → ℕ → ℕ
free_lists h t = h (FreeList t)

and_bit : (a b : Bool) → b ≡ false → bit (a && b) ≡ 0
and_bit true b e = ap bit e
and_bit false b e = refl

and_le : (a b : Bool) → bit (a && b) ≤ bit b
and_le true b = omega arith
and_le false b = omega arith

-- how the colour of block y changes the number of Free blocks
count_above : (colour : ℕ → ℕ) (n y v : ℕ) → n < y
    → total n (λ x. bit (is_free (cond (eqb y (suc x)) v (colour (suc x)))))
    ≡ total n (λ x. bit (is_free (colour (suc x))))
count_above colour zero y v h = refl
count_above colour (suc n) y v h =
    let e = count_above colour n y v (omega arith) in
    let ne : y ≡ suc n → ⊥ = λ q. omega arith in
    rw (ne_eqb y (suc n) ne) (omega arith)

count_one : (colour : ℕ → ℕ) (n y v : ℕ) → 1 ≤ y → y ≤ n
    → total n (λ x. bit (is_free (cond (eqb y (suc x)) v (colour (suc x))))) + bit
    (is_free (colour y))
    ≡ total n (λ x. bit (is_free (colour (suc x)))) + bit (is_free v)
count_one colour zero y v some low = absurd (omega arith)
count_one colour (suc n) y v some low = elim (cases_eq y (suc n)) [
  | inl e ↦
      let above = count_above colour n y v (omega arith) in
      let same : bit (is_free (colour y)) ≡ bit (is_free (colour (suc n))) =
      ap (λ z. bit (is_free (colour z))) e in
      rw (eq-eqb y (suc n) e) (omega arith)
  | inr ne ↦
      let below = count_one colour n y v some (omega arith) in
      rw (ne_eqb y (suc n) ne) (omega arith)
]

-- and whether one block is Free
one_colour : (ex : Extent) (colour : ℕ → ℕ) (x y v : ℕ) → is_block ex y ≡ true
    → bit (is_block ex x && is_free (cond (eqb y x) v (colour x))) + bit
    (eqb y x && is_free (colour y))
    ≡ bit (is_block ex x && is_free (colour x)) + bit (eqb y x && is_free v)
one_colour ex colour x y v here = elim (cases_eq y x) [
  | inl e ↦
      let there : is_block ex x ≡ true = subst (λ z. is_block ex z ≡ true) e here in
      let same : bit (is_free (colour y)) ≡ bit (is_free (colour x)) =
      ap (λ z. bit (is_free (colour z))) e in
      rw (eq-eqb y x e, there) (omega arith)
  | inr ne ↦ rw (ne_eqb y x ne) (omega arith)
]

same_free : (colour : ℕ → ℕ) (y v : ℕ) → is_free (colour y) ≡ false → is_free v ≡ false → (x : ℕ)
    → is_free (colour x) ≡ is_free (cond (eqb y x) v (colour x))
same_free colour y v old new x = elim (cases_eq y x) [
  | inl e ↦ rw (eq-eqb y x e) (ap (λ z. is_free (colour z)) (sym e) ∙ old ∙ sym new)
  | inr ne ↦ rw (ne_eqb y x ne) refl
]

-- thread t goes on to hold w
module _ (ex : Extent) (heads colour : ℕ → ℕ) (count : ℕ) (fs : ℕ → FreeInHand)
    (k : FreeOf ex heads colour count fs) (t : ℕ) (low : t < ex.threads) where
  -- no list and no colour is written
  goes : (v : ℕ) (w : FreeInHand) (H : List ℕ) → Chain colour w.list H
      → ((x : ℕ) → times x H + times x w.held ≡ times x (k.private_lists t) + times x (fs t).held)
      → v + w.reserved + w.freed ≡ count + (fs t).reserved + (fs t).freed
      → length w.held ≤ w.reserved
      → (w.emptied ≡ true → heads t ≡ 0)
      → FreeOf ex heads colour v (changed fs t w)
  goes v w H chain same sums room empty = record {
    lists = k.lists;
    private_lists = changed k.private_lists t H;
    list_chain = k.list_chain;
    private_chain = λ s l. elim (cases_eq t s) [
      | inl e ↦ rw (eq-eqb t s e) chain
      | inr ne ↦ rw (ne_eqb t s ne) (k.private_chain s l)
    ];
    once = λ x.
        let q = total_changed (times x) ex.threads k.private_lists t H low in
        let r = total_changed (λ (z : FreeInHand). times x z.held) ex.threads fs t w low in
        omega (arith, k.once x, same x);
    credit =
        let q = total_changed (λ (z : FreeInHand). z.reserved) ex.threads fs t w low in
        let r = total_changed (λ (z : FreeInHand). z.freed) ex.threads fs t w low in
        omega (arith, k.credit);
    room = λ s l. changed_both (λ _ (z : FreeInHand). length z.held ≤ z.reserved) fs t w s
        (λ _. room) (λ _. k.room s l);
    emptied = λ s l. changed_both (λ u (z : FreeInHand). z.emptied ≡ true → heads u ≡ 0) fs t w s
        (λ e. subst (λ u. w.emptied ≡ true → heads u ≡ 0) e empty) (λ _. k.emptied s l);
  }

  -- a is written into the list of u: no block is lost between that list and what t holds, and
  -- another thread's list is emptied
  lists_goes : (u a : ℕ) (w : FreeInHand) (L H : List ℕ) → u < ex.threads → Chain colour a L
      → Chain colour w.list H
      → ((x : ℕ) → times x L + times x H ≡ times x (k.lists u) + times x (k.private_lists t))
      → w.held ≡ (fs t).held → w.reserved ≡ (fs t).reserved → w.freed ≡ (fs t).freed
      → (w.emptied ≡ true → cond (eqb u t) a (heads t) ≡ 0)
      → ((u ≡ t → ⊥) → a ≡ 0)
      → FreeOf ex (λ s. cond (eqb u s) a (heads s)) colour count (changed fs t w)
  lists_goes u a w L H ulow chain list same held reserved freed empty mine = record {
    lists = changed k.lists u L;
    private_lists = changed k.private_lists t H;
    list_chain = λ s l. elim (cases_eq u s) [
      | inl e ↦ rw (eq-eqb u s e) chain
      | inr ne ↦ rw (ne_eqb u s ne) (k.list_chain s l)
    ];
    private_chain = λ s l. elim (cases_eq t s) [
      | inl e ↦ rw (eq-eqb t s e) list
      | inr ne ↦ rw (ne_eqb t s ne) (k.private_chain s l)
    ];
    once = λ x.
        let p = total_changed (times x) ex.threads k.lists u L ulow in
        let q = total_changed (times x) ex.threads k.private_lists t H low in
        let r = total_changed (λ (z : FreeInHand). times x z.held) ex.threads fs t w low in
        let i : times x w.held ≡ times x (fs t).held = ap (times x) held in
        omega (arith, k.once x, same x);
    credit =
        let q = total_changed (λ (z : FreeInHand). z.reserved) ex.threads fs t w low in
        let r = total_changed (λ (z : FreeInHand). z.freed) ex.threads fs t w low in
        omega (arith, k.credit, reserved, freed);
    room = λ s l. changed_both (λ _ (z : FreeInHand). length z.held ≤ z.reserved) fs t w s
        (λ _. (let i : length w.held ≡ length (fs t).held = ap length held in
        omega (arith, k.room t low, reserved)))
        (λ _. k.room s l);
    emptied = λ s l. elim (cases_eq t s) [
      | inl e ↦ rw (eq-eqb t s e) (λ is. subst (λ z. cond (eqb u z) a (heads z) ≡ 0) e (empty is))
      | inr ne ↦ rw (ne_eqb t s ne) (λ is. elim (cases_eq u s) [
        | inl e ↦ rw (eq-eqb u s e) (mine (λ v. ne (sym v ∙ e)))
        | inr away ↦ rw (ne_eqb u s away) (k.emptied s l is)
      ])
    ];
  }

  -- v is written as the colour of block y, which is Free exactly where t holds it
  colour_goes : (y v : ℕ) (w : FreeInHand) (H : List ℕ) → is_block ex y ≡ true
      → times y (k.private_lists t) + times y (fs t).held ≡ bit (is_free (colour y))
      → Chain (λ x. cond (eqb y x) v (colour x)) w.list H
      → ((x : ℕ) → times x H + times x w.held + bit (eqb y x && is_free (colour y))
      ≡ times x (k.private_lists t) + times x (fs t).held + bit (eqb y x && is_free v))
      → w.reserved + w.freed + bit (is_free (colour y))
      ≡ (fs t).reserved + (fs t).freed + bit (is_free v)
      → length w.held ≤ w.reserved
      → (w.emptied ≡ true → heads t ≡ 0)
      → (1 ≤ y) → (y ≤ ex.blocks)
      → FreeOf ex heads (λ x. cond (eqb y x) v (colour x)) count (changed fs t w)
  colour_goes y v w H here own chain same sums room empty some high =
      let all = k.once y ∙ ap (λ b. bit (b && is_free (colour y))) here in
      let pt = total_part ex.threads (λ s. times y (k.private_lists s)) t low in
      let qt = total_part ex.threads (λ s. times y (fs s).held) t low in
      record {
        lists = k.lists;
        private_lists = changed k.private_lists t H;
        list_chain = λ s l.
            let p = total_part ex.threads (λ u. times y (k.lists u)) s l in
            Chain-outside colour y v (k.lists s) (heads s) (omega arith) (k.list_chain s l);
        private_chain = λ s l. elim (cases_eq t s) [
          | inl e ↦ rw (eq-eqb t s e) chain
          | inr ne ↦
              let p = total_parts ex.threads (λ u. times y (k.private_lists u)) t s low l ne in
              rw (ne_eqb t s ne) (Chain-outside colour y v (k.private_lists s) (fs s).list (omega arith)
              (k.private_chain s l))
        ];
        once = λ x.
            let q = total_changed (times x) ex.threads k.private_lists t H low in
            let r = total_changed (λ (z : FreeInHand). times x z.held) ex.threads fs t w low in
            let o = one_colour ex colour x y v here in
            omega (arith, k.once x, same x);
        credit =
            let q = total_changed (λ (z : FreeInHand). z.reserved) ex.threads fs t w low in
            let r = total_changed (λ (z : FreeInHand). z.freed) ex.threads fs t w low in
            let c = count_one colour ex.blocks y v some high in
            omega (arith, k.credit);
        room = λ s l. changed_both (λ _ (z : FreeInHand). length z.held ≤ z.reserved) fs t w s
            (λ _. room) (λ _. k.room s l);
        emptied = λ s l. changed_both
            (λ u (z : FreeInHand). z.emptied ≡ true → heads u ≡ 0) fs t w s
            (λ e. subst (λ u. w.emptied ≡ true → heads u ≡ 0) e empty) (λ _. k.emptied s l);
      }

-- a block that is not Free gets another colour that is not
pub free_other_colour : (ex : Extent) (h : Heap) (fs : ℕ → FreeInHand) (y v : ℕ)
    → is_free (h (ColourOf y)) ≡ false → is_free v ≡ false
    → FreeKept ex h fs → FreeKept ex (put_at h (ColourOf y) v) fs
free_other_colour ex h fs y v old new k =
    let none = k.once y ∙ and_bit (is_block ex y) (is_free (h (ColourOf y))) old in
    record {
      lists = k.lists;
      private_lists = k.private_lists;
      room = k.room;
      emptied = k.emptied;
      list_chain = λ s l.
          let p = total_part ex.threads (λ u. times y (k.lists u)) s l in
          Chain-outside (colours h) y v (k.lists s) (h (FreeList s)) (omega arith)
          (k.list_chain s l);
      private_chain = λ s l.
          let p = total_part ex.threads (λ u. times y (k.private_lists u)) s l in
          Chain-outside (colours h) y v (k.private_lists s) (fs s).list (omega arith) (k.private_chain s l);
      once = λ x. k.once x ∙ ap (λ b. bit (is_block ex x && b))
          (same_free (colours h) y v old new x);
      credit = k.credit ∙ total_same ex.blocks (λ x. bit (is_free (h (ColourOf (suc x)))))
          (λ x. bit (is_free (cond (eqb y (suc x)) v (h (ColourOf (suc x))))))
          (λ x _. ap bit (same_free (colours h) y v old new (suc x)));
    }

-- a write of any other place
other_write : (ex : Extent) (h : Heap) (fs : ℕ → FreeInHand) (p : Place) (v : ℕ)
    → is_of_free p ≡ false
    → FreeKept ex h fs → FreeKept ex (put_at h p v) fs
other_write ex h fs Phase v o k = k
other_write ex h fs Cursor v o k = k
other_write ex h fs FreeCount v o k = absurd (let z : true ≡ false = o in cc)
other_write ex h fs (GreyList t) v o k = k
other_write ex h fs (FreeList t) v o k = absurd (let z : true ≡ false = o in cc)
other_write ex h fs (ColourOf x) v o k = absurd (let z : true ≡ false = o in cc)
other_write ex h fs (OwnerOf x) v o k = k
other_write ex h fs (ShapeOf x) v o k = k
other_write ex h fs (PayloadOf x j) v o k = k

pub free_other : (ex : Extent) (h : Heap) (fs : ℕ → FreeInHand) (o : Operation)
    → is_of_free (place_of o) ≡ false
    → FreeKept ex h fs → FreeKept ex (heap_after h o) fs
free_other ex h fs (Load p) away k = k
free_other ex h fs (Exchange p v) away k = other_write ex h fs p v away k
free_other ex h fs (CompareExchange p old v) away k = elim (cases_Bool (eqb (h p) old)) [
  | inl is ↦ rw is (other_write ex h fs p v away k)
  | inr is ↦ rw is k
]
free_other ex h fs (FetchAdd p v) away k = other_write ex h fs p (h p + v) away k
free_other ex h fs (FetchSub p v) away k = other_write ex h fs p (h p - v) away k

module _ (ex : Extent) (h : Heap) (fs : ℕ → FreeInHand) (k : FreeKept ex h fs) (t : ℕ)
    (low : t < ex.threads) (old : FreeInHand) (is : fs t ≡ old) where
  list : Chain (colours h) old.list (k.private_lists t)
  list = subst (λ (w : FreeInHand). Chain (colours h) w.list (k.private_lists t)) is (k.private_chain t low)

  held : (x : ℕ) → times x (fs t).held ≡ times x old.held
  held x = ap (λ (w : FreeInHand). times x w.held) is

  held_is : (fs t).held ≡ old.held
  held_is = ap (λ (w : FreeInHand). w.held) is

  reserved_is : (fs t).reserved ≡ old.reserved
  reserved_is = ap (λ (w : FreeInHand). w.reserved) is

  freed_is : (fs t).freed ≡ old.freed
  freed_is = ap (λ (w : FreeInHand). w.freed) is

  room_is : length old.held ≤ old.reserved
  room_is = subst (λ (w : FreeInHand). length w.held ≤ w.reserved) is (k.room t low)

  -- its own list is empty, where it was taken and none was put
  pub free_empty : old.emptied ≡ true → h (FreeList t) ≡ 0
  free_empty e = k.emptied t low (ap (λ (w : FreeInHand). w.emptied) is ∙ e)

  -- what it holds stays
  pub free_stays : FreeKept ex h (changed fs t old)
  free_stays = goes ex (free_lists h) (colours h) (h FreeCount) fs k t low (h FreeCount) old
      (k.private_lists t) list
      (λ x. omega (arith, held x)) (omega (arith, reserved_is, freed_is)) room_is free_empty

  -- a list is taken into an empty private list
  pub free_takes : (v : ℕ) (emptied : Bool) → v < ex.threads → old.list ≡ 0
      → (emptied ≡ true → put_at h (FreeList v) 0 (FreeList t) ≡ 0)
      → FreeKept ex (put_at h (FreeList v) 0)
      (changed fs t (record old { list = h (FreeList v); emptied = emptied }))
  free_takes v emptied vlow none empty =
      let nil : k.private_lists t ≡ [] =
      Chain-zero (colours h) (k.private_lists t)
      (subst (λ a. Chain (colours h) a (k.private_lists t)) none list) in
      lists_goes ex (free_lists h) (colours h) (h FreeCount) fs k t low v 0
      (record old { list = h (FreeList v); emptied = emptied }) [] (k.lists v)
      vlow refl (k.list_chain v vlow) (λ x. rw nil (omega arith)) (sym held_is)
      (sym reserved_is) (sym freed_is) empty (λ _. refl)

  -- the private list is put in the own list, which is empty
  pub free_puts : old.emptied ≡ true
      → FreeKept ex (put_at h (FreeList t) old.list)
      (changed fs t (record old { list = 0; emptied = false }))
  free_puts e =
      let nil : k.lists t ≡ [] =
      Chain-zero (colours h) (k.lists t)
      (subst (λ a. Chain (colours h) a (k.lists t)) (free_empty e) (k.list_chain t low)) in
      lists_goes ex (free_lists h) (colours h) (h FreeCount) fs k t low t old.list
      (record old { list = 0; emptied = false }) (k.private_lists t) []
      low list refl (λ x. rw nil (omega arith)) (sym held_is) (sym reserved_is) (sym freed_is)
      (λ z. absurd (let y : false ≡ true = z in cc)) (λ away. absurd (away refl))

  -- the free count changes as what is reserved or freed does
  pub free_counts : (v reserved freed : ℕ)
      → v + reserved + freed ≡ h FreeCount + old.reserved + old.freed
      → length old.held ≤ reserved
      → FreeKept ex (put_at h FreeCount v)
      (changed fs t (record old { reserved = reserved; freed = freed }))
  free_counts v reserved freed sums room =
      goes ex (free_lists h) (colours h) (h FreeCount) fs k t low v
      (record old { reserved = reserved; freed = freed }) (k.private_lists t) list
      (λ x. omega (arith, held x)) (omega (arith, reserved_is, freed_is)) room free_empty

  -- an empty private list is let go
  pub free_lets_go : old.list ≡ 0
      → FreeKept ex h (changed fs t (record old { list = 0; emptied = false }))
  free_lets_go none =
      goes ex (free_lists h) (colours h) (h FreeCount) fs k t low (h FreeCount)
      (record old { list = 0; emptied = false }) (k.private_lists t)
      (subst (λ a. Chain (colours h) a (k.private_lists t)) none list)
      (λ x. omega (arith, held x)) (omega (arith, reserved_is, freed_is)) room_is
      (λ z. absurd (let y : false ≡ true = z in cc))

  -- the first block of the private list is held
  pub free_collects : (xs : List ℕ) → old.list ≢ 0
      → ((x : ℕ) → times x xs ≡ bit (eqb x old.list) + times x old.held)
      → length xs ≤ old.reserved
      → FreeKept ex h (changed fs t (record old { list = link (h (ColourOf old.list)); held = xs }))
  free_collects xs ne same room =
      let s = Chain-step (colours h) old.list (k.private_lists t) list ne in
      goes ex (free_lists h) (colours h) (h FreeCount) fs k t low (h FreeCount)
      (record old { list = link (h (ColourOf old.list)); held = xs }) s.0 s.2
      (λ x. (let q : times x (k.private_lists t)
      ≡ bit (eqb x old.list) + times x s.0 = ap (times x) s.1 in
      omega (arith, held x, same x)))
      (omega (arith, reserved_is, freed_is)) room free_empty

  front_count : (y x a : ℕ) (b : Bool) → b ≡ false
      → bit (eqb x y) + a + bit (eqb y x && b) ≡ a + bit (eqb y x && is_free (free_word old.list))
  front_count y x a b live = elim (cases_eq y x) [
    | inl e ↦ rw (eq-eqb y x e, eq-eqb x y (sym e), live, free_free old.list) (omega arith)
    | inr ne ↦ rw (ne_eqb y x ne, ne_eqb x y (λ q. ne (sym q))) (omega arith)
  ]

  -- a block that is not Free is freed, and is the first of the private list
  pub free_frees : (y : ℕ) → 1 ≤ y → y ≤ ex.blocks → is_free (h (ColourOf y)) ≡ false
      → FreeKept ex (put_at h (ColourOf y) (free_word old.list))
      (changed fs t (record old { list = y; freed = old.freed + 1 }))
  free_frees y some high live =
      let b0 : bit (is_free (h (ColourOf y))) ≡ 0 = ap bit live in
      let b1 : bit (is_free (free_word old.list)) ≡ 1 = ap bit (free_free old.list) in
      let none = k.once y ∙ and_bit (is_block ex y) (is_free (h (ColourOf y))) live in
      let pt = total_part ex.threads (λ u. times y (k.private_lists u)) t low in
      let ph = total_part ex.threads (λ u. times y (fs u).held) t low in
      colour_goes ex (free_lists h) (colours h) (h FreeCount) fs k t low y (free_word old.list)
      (record old { list = y; freed = old.freed + 1 }) (y ∷ k.private_lists t) (block_is ex y some high)
      (omega arith)
      (Chain-front (colours h) y (free_word old.list) old.list (k.private_lists t) (λ z. omega arith)
      (link-free old.list) (omega arith) list)
      (λ x. (let q = front_count y x (times x (k.private_lists t) + times x old.held)
      (is_free (h (ColourOf y))) live in omega (arith, held x)))
      (omega (arith, reserved_is, freed_is)) room_is free_empty some high

  gone_count : (y x v a b : ℕ) (c d : Bool) → b ≡ bit (eqb x y) + a → c ≡ true → d ≡ false
      → a + bit (eqb y x && c) ≡ b + bit (eqb y x && d)
  gone_count y x v a b c d same free live = elim (cases_eq y x) [
    | inl e ↦ rw (eq-eqb y x e, free, live)
        (let p : bit (eqb x y) ≡ 1 = ap bit (eq-eqb x y (sym e)) in omega arith)
    | inr ne ↦ rw (ne_eqb y x ne)
        (let p : bit (eqb x y) ≡ 0 = ap bit (ne_eqb x y (λ q. ne (sym q))) in omega arith)
  ]

  -- a Free block that it holds gets a colour that is not
  pub free_builds : (y v reserved : ℕ) (xs : List ℕ) → 1 ≤ y → y ≤ ex.blocks
      → is_free (h (ColourOf y)) ≡ true → is_free v ≡ false
      → ((x : ℕ) → times x old.held ≡ bit (eqb x y) + times x xs)
      → suc reserved ≡ old.reserved → length xs ≤ reserved
      → FreeKept ex (put_at h (ColourOf y) v)
      (changed fs t (record old { held = xs; reserved = reserved }))
  free_builds y v reserved xs some high free live same less room =
      let b1 : bit (is_free (h (ColourOf y))) ≡ 1 = ap bit free in
      let b0 : bit (is_free v) ≡ 0 = ap bit live in
      let all = k.once y ∙ ap (λ b. bit (b && is_free (h (ColourOf y))))
      (block_is ex y some high) in
      let here : times y old.held ≡ 1 + times y xs =
      same y ∙ ap (λ b. bit b + times y xs) (eq-eqb y y refl) in
      let ph = total_part ex.threads (λ u. times y (fs u).held) t low in
      let pt = total_part ex.threads (λ u. times y (k.private_lists u)) t low in
      let at = held y in
      colour_goes ex (free_lists h) (colours h) (h FreeCount) fs k t low y v
      (record old { held = xs; reserved = reserved }) (k.private_lists t) (block_is ex y some high)
      (omega arith)
      (Chain-outside (colours h) y v (k.private_lists t) old.list (omega arith) list)
      (λ x. (let q = gone_count y x v (times x xs) (times x old.held) (is_free (h (ColourOf y)))
      (is_free v) (same x) free live in omega (arith, held x)))
      (omega (arith, reserved_is, freed_is)) room free_empty some high

-- what the rule says of a block
module _ (ex : Extent) (h : Heap) (fs : ℕ → FreeInHand) (k : FreeKept ex h fs) where
  -- whether x is a Free block of the heap
  abbrev free_at : ℕ → Bool
  free_at x = is_block ex x && is_free (h (ColourOf x))

  pub free_once : (x : ℕ) → is_block ex x ≡ true → is_free (h (ColourOf x)) ≡ true
      → total ex.threads (λ t. times x (k.lists t)) + total ex.threads (λ t. times x (k.private_lists t))
      + total ex.threads (λ t. times x (fs t).held) ≡ 1
  free_once x block free =
      k.once x ∙ ap bit (and_from (is_block ex x) (is_free (h (ColourOf x))) block free)

  pub free_list : (t x : ℕ) → t < ex.threads → times x (k.lists t) ≤ bit (free_at x)
  free_list t x low = let p = total_part ex.threads (λ u. times x (k.lists u)) t low in
      omega (arith, k.once x)

  pub free_private : (t x : ℕ) → t < ex.threads → times x (k.private_lists t) ≤ bit (free_at x)
  free_private t x low = let p = total_part ex.threads (λ u. times x (k.private_lists u)) t low in
      omega (arith, k.once x)

  pub free_held : (t x : ℕ) → t < ex.threads → times x (fs t).held ≤ bit (free_at x)
  free_held t x low = let p = total_part ex.threads (λ u. times x (fs u).held) t low in
      omega (arith, k.once x)

  -- the first block of a list, and of a private list
  pub free_first : (t : ℕ) → t < ex.threads → h (FreeList t) ≢ 0 → free_at (h (FreeList t)) ≡ true
  free_first t low ne =
      let some = first_stands (colours h) (h (FreeList t)) (k.lists t) ne (k.list_chain t low) in
      bit_one (free_at (h (FreeList t))) (omega (arith, free_list t (h (FreeList t)) low))

  pub free_in_hand : (t : ℕ) → t < ex.threads → (fs t).list ≢ 0 → free_at (fs t).list ≡ true
  free_in_hand t low ne =
      let some = first_stands (colours h) (fs t).list (k.private_lists t) ne (k.private_chain t low) in
      bit_one (free_at (fs t).list) (omega (arith, free_private t (fs t).list low))

  -- two threads hold no block both
  pub free_one_held : (t u x : ℕ) → t < ex.threads → u < ex.threads → 1 ≤ times x (fs t).held
      → 1 ≤ times x (fs u).held → t ≡ u
  free_one_held t u x low ulow a b = elim (cases_eq t u) [
    | inl e ↦ e
    | inr ne ↦ absurd (let p = total_parts ex.threads
        (λ v. times x (fs v).held) t u low ulow ne in omega (arith, k.once x, bit_le (free_at x)))
  ]

  -- the free count and what one thread has of it
  pub free_few : (t : ℕ) → t < ex.threads → h FreeCount + (fs t).reserved + (fs t).freed ≤ ex.blocks
  free_few t low =
      let p = total_part ex.threads (λ u. (fs u).reserved) t low in
      let q = total_part ex.threads (λ u. (fs u).freed) t low in
      let r = total_bits ex.blocks (λ x. is_free (h (ColourOf (suc x)))) in
      omega (arith, k.credit)
