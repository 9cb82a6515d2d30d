-- A hand that is put on a free list that is not empty loses the blocks of that list.
use Rattle.std.proofs.Common.{◌≡◌, ℕ, ◌≤◌, ◌<◌, ◌&&◌, false, refl, arith, subst, ap, ◌∙◌, inl, inr, eq-eqb, ne_eqb}
use Rattle.std.proofs.lemmas.Bool.{cases_eq}
use Rattle.block_store.specs.Colours.{is_free}
use Rattle.block_store.specs.Heaps.{Heap, put_at}
use Rattle.block_store.specs.Phases.{bit}
use Rattle.block_store.specs.Places.{Extent, FreeList, ColourOf, is_block}
use Rattle.heap_machine.specs.Chains.{Chain}
use Rattle.block_store.specs.Counts.{changed, times}
use Rattle.heap_machine.specs.FreeBlocks.{FreeInHand, FreeKept}
use Rattle.heap_machine.proofs.ChainLaws.{Chain-zero, Chain-one}
use Rattle.heap_machine.proofs.FreeBlocks.{free_first}
use Rattle.block_store.proofs.Lemmas.{bit_le, colours, total_none, total_part, total_parts}
use Rattle.heap_machine.proofs.GreyBlocks.{first_stands}

module _ (ex : Extent) (h : Heap) (fs : ℕ → FreeInHand) (k : FreeKept ex h fs) (t : ℕ)
    (low : t < ex.threads) (some : h (FreeList t) ≡ 0 → ⊥) where
  -- the first block of the list
  abbrev lost : ℕ
  lost = h (FreeList t)

  was_there : 1 ≤ times lost (k.lists t)
  was_there = first_stands (colours h) lost (k.lists t) some (k.list_chain t low)

  no_list : (u : ℕ) → u < ex.threads → (t ≡ u → ⊥) → times lost (k.lists u) ≡ 0
  no_list u ul ne =
      let p = total_parts ex.threads (λ v. times lost (k.lists v)) t u low ul ne in
      omega (
        arith,
        k.once lost,
        was_there,
        bit_le (is_block ex lost && is_free (h (ColourOf lost))),
      )

  no_private_list : (u : ℕ) → u < ex.threads → times lost (k.private_lists u) ≡ 0
  no_private_list u ul =
      let p = total_part ex.threads (λ v. times lost (k.lists v)) t low in
      let q = total_part ex.threads (λ v. times lost (k.private_lists v)) u ul in
      omega (
        arith,
        k.once lost,
        was_there,
        bit_le (is_block ex lost && is_free (h (ColourOf lost))),
      )

  no_held : (u : ℕ) → u < ex.threads → times lost (fs u).held ≡ 0
  no_held u ul =
      let p = total_part ex.threads (λ v. times lost (k.lists v)) t low in
      let q = total_part ex.threads (λ v. times lost (fs v).held) u ul in
      omega (
        arith,
        k.once lost,
        was_there,
        bit_le (is_block ex lost && is_free (h (ColourOf lost))),
      )

  module _ (new : FreeKept ex (put_at h (FreeList t) (fs t).list)
      (changed fs t (record (fs t) { list = 0; emptied = false }))) where
    abbrev w : FreeInHand
    w = record (fs t) { list = 0; emptied = false }

    new_list : (u : ℕ) → u < ex.threads → times lost (new.lists u) ≡ 0
    new_list u ul = elim (cases_eq t u) [
      | inl e ↦
          let head : put_at h (FreeList t) (fs t).list (FreeList t) ≡ (fs t).list =
          rw (eq-eqb t t refl) refl in
          let same : new.lists t ≡ k.private_lists t =
          Chain-one (colours h) (fs t).list (new.lists t) (k.private_lists t)
          (subst (λ a. Chain (colours h) a (new.lists t)) head (new.list_chain t low))
          (k.private_chain t low) in
          subst (λ v. times lost (new.lists v) ≡ 0) e (ap (times lost) same ∙ no_private_list t low)
      | inr ne ↦
          let head : put_at h (FreeList t) (fs t).list (FreeList u) ≡ h (FreeList u) =
          rw (ne_eqb t u ne) refl in
          let same : new.lists u ≡ k.lists u =
          Chain-one (colours h) (h (FreeList u)) (new.lists u) (k.lists u)
          (subst (λ a. Chain (colours h) a (new.lists u)) head (new.list_chain u ul))
          (k.list_chain u ul) in
          ap (times lost) same ∙ no_list u ul ne
    ]

    new_private_list : (u : ℕ) → u < ex.threads → times lost (new.private_lists u) ≡ 0
    new_private_list u ul = elim (cases_eq t u) [
      | inl e ↦
          let is : changed fs t w u ≡ w = rw (eq-eqb t u e) refl in
          ap (times lost) (Chain-zero (colours h) (new.private_lists u)
          (subst (λ (v : FreeInHand). Chain (colours h) v.list (new.private_lists u)) is
          (new.private_chain u ul)))
      | inr ne ↦
          let is : changed fs t w u ≡ fs u = rw (ne_eqb t u ne) refl in
          let same : new.private_lists u ≡ k.private_lists u =
          Chain-one (colours h) (fs u).list (new.private_lists u) (k.private_lists u)
          (subst (λ (v : FreeInHand). Chain (colours h) v.list (new.private_lists u)) is
          (new.private_chain u ul)) (k.private_chain u ul) in
          ap (times lost) same ∙ no_private_list u ul
    ]

    new_held : (u : ℕ) → u < ex.threads → times lost (changed fs t w u).held ≡ 0
    new_held u ul = elim (cases_eq t u) [
      | inl e ↦ rw (eq-eqb t u e) (no_held t low)
      | inr ne ↦ rw (ne_eqb t u ne) (no_held u ul)
    ]

    pub free_put_loses : ⊥
    free_put_loses =
        let free : bit (is_block ex lost && is_free (h (ColourOf lost))) ≡ 1 =
        ap bit (free_first ex h fs k t low some) in
        let a = total_none ex.threads (λ u. times lost (new.lists u)) new_list in
        let b = total_none ex.threads (λ u. times lost (new.private_lists u)) new_private_list in
        let d = total_none ex.threads (λ u. times lost (changed fs t w u).held) new_held in
        omega (arith, new.once lost)
