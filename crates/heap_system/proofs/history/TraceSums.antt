-- Sums over the commands of a trace, with one command more.
use Rattle.std.proofs.Common.{◌≡◌, ℕ, ◌+◌, List, [], ◌∷◌, ◌++◌, length, map, refl, sym, arith, subst}
use Rattle.never_heap.specs.declared.Command.{Command}
use Rattle.never_heap.specs.RightWork.{units_owed}
use Rattle.never_heap.specs.declared.Entry.{Entry}
use Rattle.block_store.specs.declared.Width.{Width}
use Rattle.heap_system.specs.Lives.{sum_after}
use Rattle.heap_system.specs.Locals.{works}
use Rattle.heap_system.specs.Units.{IsRight}

-- the sum over all, and what the last command adds
pub sum_more : (f : Command → ℕ) (xs : List Command) (k : Command) → sum_after f 0 (xs ++ k ∷ []) ≡ sum_after f 0 xs + f k
sum_more f [] k = omega arith
sum_more f (x ∷ xs) k = omega (arith, sum_more f xs k)

pub sum_at : (f : Command → ℕ) (xs : List Command) (k : Command) → sum_after f (length xs) (xs ++ k ∷ []) ≡ f k
sum_at f [] k = omega arith
sum_at f (x ∷ xs) k = sum_at f xs k

pub sum_last : (f : Command → ℕ) (xs : List Command) (k : Command) (n : ℕ) → n ≡ length xs → sum_after f n (xs ++ k ∷ []) ≡ f k
sum_last f xs k n e = subst (λ m. sum_after f m (xs ++ k ∷ []) ≡ f k) (sym e) (sum_at f xs k)

-- what the commands of a log owe are its works
pub owed_works : (w : Width) (rate : ℕ) (log : List Entry) → IsRight w rate log → sum_after (units_owed w rate) 0 (map (λ (e : Entry). e.command) log) ≡ works log
owed_works w rate [] is = refl
owed_works w rate (e ∷ log) is = omega (arith, is.0, owed_works w rate log is.1)
