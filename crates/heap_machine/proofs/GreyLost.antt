-- A hand that is put on a list that is not empty loses the blocks of that list.
use Rattle.std.proofs.Common.{◌≡◌, ℕ, ◌≤◌, ◌<◌, refl, arith, subst, sym, ap, ◌∙◌, List, [], ◌∷◌, inl, inr, eq-eqb, ne_eqb, Option, Some, None}
use Rattle.std.proofs.lemmas.Bool.{cases_eq, cases_lt}
use Rattle.block_store.specs.Places.{GreyList}
use Rattle.block_store.specs.Heaps.{Heap, put_at}
use Rattle.heap_machine.specs.Chains.{Chain}
use Rattle.block_store.specs.Counts.{changed, times}
use Rattle.heap_machine.specs.Grey.{GreyInHand, no_grey, GreyKept, Stands}
use Rattle.heap_machine.proofs.ChainLaws.{Chain-zero, Chain-one}
use Rattle.block_store.proofs.Lemmas.{colours, total_none}
use Rattle.heap_machine.proofs.GreyBlocks.{Stands-scan, stands_once, one_list, own_or_private, first_is_grey, first_stands}

Stands-one : (c : ℕ → ℕ) (o : Option ℕ) (a : ℕ) (xs ys : List ℕ) → Stands c o a xs → Stands c o a ys → xs ≡ ys
Stands-one c None a xs ys k l = Chain-one c a xs ys k l
Stands-one c (Some x) a xs ys k l =
    let p = Stands-scan c x a xs k in
    let q = Stands-scan c x a ys l in
    p.1 ∙ ap (λ zs. x ∷ zs) (Chain-one c a p.0 q.0 p.2 q.2) ∙ sym q.1

module _ (n : ℕ) (h : Heap) (hs : ℕ → GreyInHand) (k : GreyKept n h hs) (t : ℕ) (low : t < n) (scan : (hs t).scan ≡ None) (some : h (GreyList t) ≡ 0 → ⊥) (new : GreyKept n (put_at h (GreyList t) (hs t).list) (changed hs t no_grey)) where
  -- the first block of the list
  abbrev lost : ℕ
  lost = h (GreyList t)

  was_there : 1 ≤ times lost (k.lists t)
  was_there = first_stands (colours h) lost (k.lists t) some (k.list_chain t low)

  not_in_list : (u : ℕ) → u < n → times lost (new.lists u) ≡ 0
  not_in_list u ulow = elim (cases_eq t u) [
    | inl e ↦
        let chain : Chain (colours h) (put_at h (GreyList t) (hs t).list (GreyList t)) (new.lists t) = new.list_chain t low in
        let head : put_at h (GreyList t) (hs t).list (GreyList t) ≡ (hs t).list = rw (eq-eqb t t refl) refl in
        let old : Chain (colours h) (hs t).list (k.private_lists t) = subst (λ o. Stands (colours h) o (hs t).list (k.private_lists t)) scan (k.private_chain t low) in
        let same : new.lists t ≡ k.private_lists t = Chain-one (colours h) (hs t).list (new.lists t) (k.private_lists t) (subst (λ a. Chain (colours h) a (new.lists t)) head chain) old in
        subst (λ v. times lost (new.lists v) ≡ 0) e (ap (times lost) same ∙ own_or_private n h hs k t t lost low low was_there)
    | inr ne ↦
        let head : put_at h (GreyList t) (hs t).list (GreyList u) ≡ h (GreyList u) = rw (ne_eqb t u ne) refl in
        let same : new.lists u ≡ k.lists u = Chain-one (colours h) (h (GreyList u)) (new.lists u) (k.lists u) (subst (λ a. Chain (colours h) a (new.lists u)) head (new.list_chain u ulow)) (k.list_chain u ulow) in
        ap (times lost) same ∙ elim (cases_lt (times lost (k.lists u)) 1) [
          | inl none ↦ omega arith
          | inr is ↦ absurd (ne (one_list n h hs k t u lost low ulow was_there is))
        ]
  ]

  not_in_hand : (u : ℕ) → u < n → times lost (new.private_lists u) ≡ 0
  not_in_hand u ulow = elim (cases_eq t u) [
    | inl e ↦
        let held : changed hs t no_grey u ≡ no_grey = rw (eq-eqb t u e) refl in
        let none : new.private_lists u ≡ [] = Chain-zero (colours h) (new.private_lists u) (subst (λ (w : GreyInHand). Stands (colours h) w.scan w.list (new.private_lists u)) held (new.private_chain u ulow)) in
        ap (times lost) none
    | inr ne ↦
        let held : changed hs t no_grey u ≡ hs u = rw (ne_eqb t u ne) refl in
        let same : new.private_lists u ≡ k.private_lists u = Stands-one (colours h) (hs u).scan (hs u).list (new.private_lists u) (k.private_lists u) (subst (λ (w : GreyInHand). Stands (colours h) w.scan w.list (new.private_lists u)) held (new.private_chain u ulow)) (k.private_chain u ulow) in
        ap (times lost) same ∙ own_or_private n h hs k t u lost low ulow was_there
  ]

  pub put_loses : ⊥
  put_loses =
      let once = stands_once n (put_at h (GreyList t) (hs t).list) (changed hs t no_grey) new lost (first_is_grey n h hs k t low some) in
      let a = total_none n (λ u. times lost (new.lists u)) not_in_list in
      let b = total_none n (λ u. times lost (new.private_lists u)) not_in_hand in
      omega arith
