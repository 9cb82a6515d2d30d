-- Which events of a part make a unit, have a reply, or go in.
use Rattle.std.proofs.Common.{◌≡◌, ℕ, ◌-◌, true, false, None, Some, refl}
use Rattle.block_store.specs.declared.Config.{Config}
use Rattle.never_heap.specs.declared.Reply.{Reply}
use Rattle.heap_machine.specs.Gating.{is_inside}
use Rattle.heap_system.specs.Parts.{Part, Rest, Enter, Access, Mark, Sweep, Build}
use Rattle.heap_system.specs.Locals.{effect}
use Rattle.heap_system.specs.Pictures.{stand_of}

-- a thread that makes a unit or has a reply is inside, and does not go in
pub unit_inside : (c : Config) (p : Part) (w : ℕ) → (effect c p w).unit ≡ true
    → is_inside (stand_of c p) ≡ true
unit_inside c (Mark m) w e = refl
unit_inside c (Sweep s) w e = refl
unit_inside c _ w e = absurd cc

pub reply_inside : (c : Config) (p : Part) (w : ℕ) (r : Reply) → (effect c p w).reply ≡ Some r
    → is_inside (stand_of c p) ≡ true
reply_inside c (Access f) w r e = refl
reply_inside c (Build b) w r e = refl
reply_inside c _ w r e = absurd cc

pub reply_no_unit : (c : Config) (p : Part) (w : ℕ) (r : Reply) → (effect c p w).reply ≡ Some r
    → (effect c p w).unit ≡ false
reply_no_unit c (Access f) w r e = refl
reply_no_unit c (Build b) w r e = refl
reply_no_unit c _ w r e = absurd cc

pub inside_is_in : (c : Config) (p : Part) (w : ℕ) → is_inside (stand_of c p) ≡ true
    → (effect c p w).entered ≡ None
inside_is_in c Rest w e = absurd cc
inside_is_in c (Enter g) w e = absurd cc
inside_is_in c _ w e = refl
