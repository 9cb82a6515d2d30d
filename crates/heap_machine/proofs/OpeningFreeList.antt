-- A heap whose last blocks are Free, in one ascending list, keeps where Free blocks are.
use Rattle.std.proofs.Common.{◌≡◌, ℕ, zero, suc, ◌+◌, ◌-◌, ◌≤◌, ◌<◌, ◌&&◌, true, false, cond, leb, ltb, refl, arith, subst, sym, ap, ◌∙◌, List, [], ◌∷◌, length, inl, inr, eq-eqb, ne_eqb, le-ltb}
use Rattle.std.proofs.lemmas.Bool.{cases_eq, cases_lt, cases_Bool, and_parts, lt-ltb, leb-true}
use Rattle.block_store.specs.Colours.{is_free, link}
use Rattle.block_store.proofs.Lemmas.{colours, free_free, link-free, total_changed, total_none}
use Rattle.block_store.specs.Heaps.{Heap}
use Rattle.block_store.specs.Phases.{bit}
use Rattle.block_store.specs.Places.{Extent, FreeList, ColourOf, is_block}
use Rattle.heap_machine.specs.Chains.{Chain}
use Rattle.block_store.specs.Counts.{changed, times, total}
use Rattle.heap_machine.specs.FreeBlocks.{FreeInHand, no_free, FreeKept, FreeFrom}
use Rattle.block_store.proofs.Indexes.{block_is}

-- n blocks from x on
abbrev ascending : ℕ → ℕ → List ℕ
ascending x zero = []
ascending x (suc n) = x ∷ ascending (x + 1) n

ascending_chain : (c : ℕ → ℕ) (last n x : ℕ) → 1 ≤ x → x + n ≡ last + 1
    → ((y : ℕ) → x ≤ y → y ≤ last → link (c y) ≡ cond (ltb y last) (y + 1) 0)
    → Chain c (cond (ltb last x) 0 x) (ascending x n)
ascending_chain c last zero x some sum links = rw (lt-ltb last x (omega arith)) refl
ascending_chain c last (suc n) x some sum links =
    let rest = ascending_chain c last n (x + 1) (omega arith) (omega arith)
    (λ y a b. links y (omega arith) b) in
    let at : link (c x) ≡ cond (ltb last (x + 1)) 0 (x + 1) =
    links x (omega arith) (omega arith) ∙ elim (cases_lt x last) [
      | inl less ↦ rw (lt-ltb x last less, le-ltb last (x + 1) (omega arith)) refl
      | inr not_less ↦ rw (le-ltb x last not_less, lt-ltb last (x + 1) (omega arith)) refl
    ] in
    rw (le-ltb last x (omega arith))
    (refl, (λ z. omega arith), subst (λ a. Chain c a (ascending (x + 1) n)) (sym at) rest)

outside : (n x y : ℕ) → (x ≤ y → y < x + n → ⊥) → times y (ascending x n) ≡ 0
outside zero x y none = refl
outside (suc n) x y none =
    let ne : y ≡ x → ⊥ = λ e. none (omega arith) (omega arith) in
    rw (ne_eqb y x ne) (let r = outside n (x + 1) y (λ a b. none (omega arith) (omega arith)) in
    omega arith)

inside : (n x y : ℕ) → x ≤ y → y < x + n → times y (ascending x n) ≡ 1
inside zero x y a b = absurd (omega arith)
inside (suc n) x y a b = elim (cases_eq y x) [
  | inl e ↦ rw (eq-eqb y x e) (let r = outside n (x + 1) y (λ c d. omega arith) in omega arith)
  | inr ne ↦ rw (ne_eqb y x ne)
      (let r = inside n (x + 1) y (omega arith) (omega arith) in omega arith)
]

-- of the first n blocks those after b are Free
count_behind : (colour : ℕ → ℕ) (b n : ℕ) → b ≤ n
    → ((x : ℕ) → 1 ≤ x → x ≤ b → is_free (colour x) ≡ false)
    → ((x : ℕ) → b < x → x ≤ n → is_free (colour x) ≡ true)
    → total n (λ x. bit (is_free (colour (suc x)))) ≡ n - b
count_behind colour b zero high live free = omega arith
count_behind colour b (suc n) high live free = elim (cases_lt n b) [
  | inl last ↦
      let r = total_none (suc n) (λ x. bit (is_free (colour (suc x))))
      (λ u low. ap bit (live (suc u) (omega arith) (omega arith))) in
      omega arith
  | inr more ↦
      let r = count_behind colour b n more live (λ x from to. free x from (omega arith)) in
      let one : bit (is_free (colour (suc n))) ≡ 1 =
      ap bit (free (suc n) (omega arith) (omega arith)) in
      omega arith
]

module _ (e : Extent) (h : Heap) (fs : ℕ → FreeInHand) (a : ℕ) (k : FreeFrom e h a)
    (none : (t : ℕ) → t < e.threads → fs t ≡ no_free) where
  abbrev all : List ℕ
  all = ascending a (e.blocks + 1 - a)

  abbrev lists : ℕ → List ℕ
  lists = changed (λ t. []) 0 all

  free_is : (x : ℕ) → a ≤ x → x ≤ e.blocks → is_free (h (ColourOf x)) ≡ true
  free_is x from to = ap is_free (k.free x from to) ∙ free_free (cond (ltb x e.blocks) (x + 1) 0)

  all_chain : Chain (colours h) a all
  all_chain =
      let c = ascending_chain (colours h) e.blocks (e.blocks + 1 - a) a k.some
      (let z = k.last in omega arith)
      (λ y from to. ap link (k.free y from to) ∙ link-free (cond (ltb y e.blocks) (y + 1) 0)) in
      let z : cond (ltb e.blocks a) 0 a ≡ a = rw (le-ltb e.blocks a k.last) refl in
      subst (λ b. Chain (colours h) b all) z c

  all_times : (x : ℕ) → times x all ≡ bit (is_block e x && is_free (h (ColourOf x)))
  all_times x = elim (cases_lt x a) [
    | inl below ↦ outside (e.blocks + 1 - a) a x (λ p q. omega arith)
        ∙ sym (elim (cases_Bool (is_block e x)) [
          | inl is ↦
              let some = leb-true 1 x (and_parts (leb 1 x) (leb x e.blocks) is).0 in
              rw (is, k.live x some below) refl
          | inr is ↦ rw is refl
        ])
    | inr from ↦ elim (cases_lt e.blocks x) [
      | inl above ↦ outside (e.blocks + 1 - a) a x (λ p q. (let z = k.last in omega arith))
          ∙ sym (elim (cases_Bool (is_block e x)) [
            | inl is ↦
                let high = leb-true x e.blocks (and_parts (leb 1 x) (leb x e.blocks) is).1 in
                absurd (omega arith)
            | inr is ↦ rw is refl
          ])
      | inr to ↦
          let some = k.some in
          let one = inside (e.blocks + 1 - a) a x from (omega arith) in
          rw (block_is e x (omega arith) to, free_is x from to) one
    ]
  ]

  pub free_opens : FreeKept e h fs
  free_opens = record {
    lists = lists;
    private_lists = λ t. [];
    list_chain = λ t low. elim (cases_eq 0 t) [
      | inl z ↦ rw (eq-eqb 0 t z)
          (subst (λ b. Chain (colours h) b all)
          (sym (ap (λ u. h (FreeList u)) (sym z) ∙ k.first)) all_chain)
      | inr nz ↦ rw (ne_eqb 0 t nz) (k.others t (omega arith) low)
    ];
    private_chain = λ t low. ap (λ (w : FreeInHand). w.list) (none t low);
    once = λ x.
        let p = total_changed (times x) e.threads (λ t. []) 0 all k.threads in
        let q = total_none e.threads (λ t. times x []) (λ u low. refl) in
        let r = total_none e.threads (λ t. times x (fs t).held)
        (λ u low. ap (λ (w : FreeInHand). times x w.held) (none u low)) in
        omega (arith, all_times x);
    credit =
        let p = total_none e.threads (λ t. (fs t).reserved)
        (λ u low. ap (λ (w : FreeInHand). w.reserved) (none u low)) in
        let q = total_none e.threads (λ t. (fs t).freed)
        (λ u low. ap (λ (w : FreeInHand). w.freed) (none u low)) in
        let some = k.some in
        let last = k.last in
        let c = count_behind (colours h) (a - 1) e.blocks (omega arith)
        (λ x is low. k.live x is (omega arith)) (λ x from to. free_is x (omega arith) to) in
        omega (arith, k.count);
    room = λ t low. subst (λ (w : FreeInHand). length w.held ≤ w.reserved) (sym (none t low))
        (omega arith);
    emptied = λ t low is. absurd
        (let z : false ≡ true = sym (ap (λ (w : FreeInHand). w.emptied) (none t low)) ∙ is in
        cc);
  }
