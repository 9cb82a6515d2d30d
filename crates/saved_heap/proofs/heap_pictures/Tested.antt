-- A test of pictures of objects, by a test of the objects.
use Rattle.std.proofs.Common.{◌≡◌, ℕ, Bool, ◌&&◌, eqb, List, [], ◌∷◌, length, map, refl, ap, ◌∙◌}
use Rattle.block_store.specs.declared.TheConstants.{REGISTERS}
use Rattle.block_store.specs.declared.Value.{Value}
use Rattle.std.specs.List.{list_all}
use Rattle.saved_heap.specs.declared.heap_pictures.picture.Item.{Item}
use Rattle.saved_heap.specs.heap_pictures.Pictures.{Content, are_within, is_item, is_sound, view}

pub items_tested : (n : ℕ) (xs : List Item) → list_all (is_item n) (map view xs) ≡ list_all (λ o. is_item n (view o)) xs
items_tested n [] = refl
items_tested n (x ∷ xs) = ap (λ b. is_item n (view x) && b) (items_tested n xs)

-- what is tested of registers and of objects is that the picture is sound
pub sound_by : (p : Content) (rs : List Value) (os : List Item) (n : ℕ) (a b c : Bool) → rs ≡ p.registers → map view os ≡ p.objects → n ≡ length p.objects
    → a ≡ (eqb (length rs) REGISTERS && are_within n rs) → b ≡ list_all (is_item n) (map view os) → c ≡ (a && b) → c ≡ is_sound p
sound_by p rs os n a b c r o e is_a is_b is_c =
    is_c ∙ (λ i. is_a i && is_b i) ∙ (λ i. (eqb (length (r i)) REGISTERS && are_within (e i) (r i)) && list_all (is_item (e i)) (o i))
