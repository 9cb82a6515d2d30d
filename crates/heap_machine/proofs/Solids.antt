-- What keeps that no block that is not Free refers to a Free one, and that the root blocks are
-- marked.
use Rattle.std.proofs.Common.{◌≡◌, ℕ, ◌<◌, ◌+◌, ◌-◌, ◌&&◌, true, false, cond, eqb, refl, subst, sym, ap, ◌∙◌, inl, inr, eq-eqb, ne_eqb, eqb-true}
use Rattle.std.proofs.lemmas.Bool.{cases_eq, cases_Bool, and_parts}
use Rattle.block_store.specs.Colours.{is_free}
use Rattle.block_store.specs.Heaps.{Heap, put_at}
use Rattle.block_store.specs.Payloads.{target}
use Rattle.block_store.specs.Registers.{root_block}
use Rattle.block_store.specs.Widths.{payloads}
use Rattle.block_store.specs.Places.{Extent, Place, Phase, Cursor, FreeCount, GreyList, FreeList, ColourOf, OwnerOf, ShapeOf, PayloadOf}
use Rattle.block_store.proofs.Lemmas.{colours}
use Rattle.heap_machine.specs.Operations.{Operation, Load, Exchange, CompareExchange, FetchAdd, FetchSub, place_of, heap_after}
use Rattle.heap_machine.specs.Tricolour.{is_of_tricolour}
use Rattle.heap_machine.specs.Solid.{NotFree, IsMarked, SolidKept}

-- block x gets colour v
put_colour : (P : ℕ → Type 0) (h : Heap) (x v y : ℕ) → (x ≡ y → P v) → P (h (ColourOf y)) → P (put_at h (ColourOf x) v (ColourOf y))
put_colour P h x v y new old = elim (cases_eq x y) [ inl e ↦ rw (eq-eqb x y e) (new e) | inr away ↦ rw (ne_eqb x y away) old ]

still : (h : Heap) (x v y : ℕ) → is_free v ≡ false → NotFree (colours h) y → NotFree (colours (put_at h (ColourOf x) v)) y
still h x v y ok k ne = put_colour (λ w. is_free w ≡ false) h x v y (λ _. ok) (k ne)

pub solid_colour : (ex : Extent) (cycle : ℕ) (h : Heap) (x v : ℕ) → is_free v ≡ false
    → (is_free (h (ColourOf x)) ≡ true → (j : ℕ) → j < payloads ex.width → NotFree (colours h) (target (h (PayloadOf x j))))
    → ((t : ℕ) → t < ex.threads → x ≡ root_block ex.width t → IsMarked cycle v)
    → SolidKept ex cycle h → SolidKept ex cycle (put_at h (ColourOf x) v)
solid_colour ex cycle h x v ok all marked k = record {
  solid = λ y j is low. still h x v (target (h (PayloadOf y j))) ok (elim (cases_eq x y) [
    | inl e ↦ subst (λ z. NotFree (colours h) (target (h (PayloadOf z j)))) e (elim (cases_Bool (is_free (h (ColourOf x)))) [
      | inl free ↦ all free j low
      | inr old ↦ k.solid x j old low
    ])
    | inr away ↦ k.solid y j (let q : cond (eqb x y) v (h (ColourOf y)) ≡ h (ColourOf y) = rw (ne_eqb x y away) refl in ap is_free (sym q) ∙ is) low
  ]);
  roots = λ t low. put_colour (IsMarked cycle) h x v (root_block ex.width t) (marked t low) (k.roots t low);
}

-- payload j of block x becomes w
pub solid_payload : (ex : Extent) (cycle : ℕ) (h : Heap) (x j w : ℕ) → (is_free (h (ColourOf x)) ≡ false → NotFree (colours h) (target w)) → SolidKept ex cycle h → SolidKept ex cycle (put_at h (PayloadOf x j) w)
solid_payload ex cycle h x j w ok k = record {
  solid = λ y i is low. elim (cases_Bool (eqb x y && eqb j i)) [
    | inl hit ↦
        let parts = and_parts (eqb x y) (eqb j i) hit in
        rw hit (ok (subst (λ z. is_free (h (ColourOf z)) ≡ false) (sym (eqb-true x y parts.0)) is))
    | inr miss ↦ rw miss (k.solid y i is low)
  ];
  roots = k.roots;
}

-- a write of any other place
pub solid_place : (ex : Extent) (cycle : ℕ) (h : Heap) (p : Place) (v : ℕ) → is_of_tricolour p ≡ false → SolidKept ex cycle h → SolidKept ex cycle (put_at h p v)
solid_place ex cycle h Phase v away k = k
solid_place ex cycle h Cursor v away k = k
solid_place ex cycle h FreeCount v away k = k
solid_place ex cycle h (GreyList t) v away k = k
solid_place ex cycle h (FreeList t) v away k = k
solid_place ex cycle h (ColourOf x) v away k = absurd (let z : true ≡ false = away in cc)
solid_place ex cycle h (OwnerOf x) v away k = k
solid_place ex cycle h (ShapeOf x) v away k = k
solid_place ex cycle h (PayloadOf x j) v away k = absurd (let z : true ≡ false = away in cc)

pub solid_other : (ex : Extent) (cycle : ℕ) (h : Heap) (o : Operation) → is_of_tricolour (place_of o) ≡ false → SolidKept ex cycle h → SolidKept ex cycle (heap_after h o)
solid_other ex cycle h (Load p) away k = k
solid_other ex cycle h (Exchange p v) away k = solid_place ex cycle h p v away k
solid_other ex cycle h (CompareExchange p old v) away k = elim (cases_Bool (eqb (h p) old)) [
  | inl is ↦ rw is (solid_place ex cycle h p v away k)
  | inr is ↦ rw is k
]
solid_other ex cycle h (FetchAdd p v) away k = solid_place ex cycle h p (h p + v) away k
solid_other ex cycle h (FetchSub p v) away k = solid_place ex cycle h p (h p - v) away k
