-- How a field is found: in the first block of its object at once, and an element by shifts.
use Rattle.std.proofs.Common.{◌≡◌, ℕ, zero, suc, ◌+◌, ◌-◌, ◌*◌, ◌/◌, ◌%◌, ◌^◌, ◌<◌, ◌≤◌, if◌then◌else◌, Ok, Err, refl, sym, ap, ◌∙◌, arith}
use Rattle.std.proofs.Math.Nat.{pow-suc, pow-zero}
use Rattle.std.proofs.lemmas.Nat.{pow-add}
use Rattle.std.proofs.lemmas.Bool.{lt-ltb}
use Rattle.block_store.specs.declared.Shape.TheVariants as shapes
use Rattle.block_store.specs.declared.Width.{Width}
use Rattle.block_store.specs.declared.Width.TheVariants.{Four, Eight}
use Rattle.block_store.specs.Heaps.{Heap}
use Rattle.block_store.specs.Places.{Extent, PayloadOf}
use Rattle.block_store.specs.Widths.{payloads}
use Rattle.object_lists.specs.Records.{record_slot}
use Rattle.array_trees.specs.Levels.{array_depth, array_turn}
use Rattle.array_trees.proofs.Depths.{at_root}
use Rattle.control_heap.specs.declared.faults.Fault.TheVariants as faults
use Rattle.control_heap.specs.Peeks.{missed, object_field}
use Rattle.control_heap.specs.Readings.{field_read, walked}

-- an array of one block has no level above its leaf, where its elements stand in order
pub flat_depth : (w : Width) (e : ℕ) → e ≤ payloads w → array_depth w e ≡ 0
flat_depth Four e few = sym (at_root Four e 0 (omega arith) (omega arith))
flat_depth Eight e few = sym (at_root Eight e 0 (omega arith) (omega arith))

only_turn : (w : Width) (i : ℕ) → i < payloads w → i / payloads w ^ 0 % payloads w ≡ i
only_turn Four i less = omega arith
only_turn Eight i less = omega arith

pub flat_turn : (w : Width) (e i : ℕ) → e ≤ payloads w → i < e → array_turn w e i (array_depth w e) ≡ i
flat_turn w e i few less =
    let none : array_depth w e - array_depth w e ≡ 0 = omega arith in
    ap (λ k. i / payloads w ^ k % payloads w) none ∙ only_turn w i (omega arith)

-- powers of the widths are powers of two
power : (b n h : ℕ) → 2 ^ n ≡ b → 2 ^ (n * h) ≡ b ^ h
power b n zero is = let none : n * 0 ≡ 0 = omega arith in ap (λ k. 2 ^ k) none ∙ sym (pow-zero b)
power b n (suc h) is =
    let more : n * suc h ≡ n * h + n = omega arith in
    ap (λ k. 2 ^ k) more ∙ pow-add 2 (n * h) n ∙ (λ i. power b n h is i * is i) ∙ sym (pow-suc b h)

pub four_turn : (w : Width) (i h : ℕ) → w ≡ Four → i / 2 ^ (2 * h) % 4 ≡ i / payloads w ^ h % payloads w
four_turn w i h is = ap (λ p. i / p % 4) (power 4 2 h refl) ∙ ap (λ x. i / payloads x ^ h % payloads x) (sym is)

pub eight_turn : (w : Width) (i h : ℕ) → w ≡ Eight → i / 2 ^ (3 * h) % 8 ≡ i / payloads w ^ h % payloads w
eight_turn w i h is = ap (λ p. i / p % 8) (power 8 3 h refl) ∙ ap (λ x. i / payloads x ^ h % payloads x) (sym is)

-- a field in the first block of its record
pub near_record : (e : Extent) (h : Heap) (f x i w : ℕ) (p : ℕ × ℕ) → i < f → p ≡ record_slot e.width i → p.0 ≡ 0 → w ≡ h (PayloadOf x p.1) → object_field e h (shapes.List f) x i ≡ Ok w
near_record e h f x i w p less slot none is =
    ap (λ b. if b then Ok (field_read e h (shapes.List f) i x) else Err (missed i faults.Range)) (lt-ltb i f less)
    ∙ ap (λ (q : ℕ × ℕ). Ok (h (PayloadOf (walked e h (shapes.List f) i x q.0) q.1))) (sym slot)
    ∙ ap (λ l. Ok (h (PayloadOf (walked e h (shapes.List f) i x l) p.1))) none
    ∙ ap Ok (sym is)
