-- Which turns wait.
use Rattle.std.proofs.Common.{◌≡◌, ℕ, true, cond, ltb, refl, inl, inr}
use Rattle.std.proofs.lemmas.Bool.{cases_Bool}
use Rattle.block_store.specs.declared.Config.{Config}
use Rattle.heap_system.specs.Parts.{Part}
use Rattle.heap_system.specs.declared.Turn.TheVariants as turns
use Rattle.heap_system.specs.Locals.{is_done, part_step, turn_of, waits}
use Rattle.heap_system.proofs.step_rows.LawsOfParts.{laws_of}
use Rattle.heap_system.specs.Machines.{State, local_at, turned}

pub part_waits : (c : Config) (p : Part) (w : ℕ) → turn_of (part_step c p w) ≡ cond (waits p w) turns.Waited turns.Went
part_waits c p w = (laws_of c p).turn w

pub done_stays : (c : Config) (t : ℕ) (s : State) → is_done (local_at c s t) ≡ true → turned c t s ≡ s
done_stays c t s e = elim (cases_Bool (ltb t c.threads)) [
  | inl low ↦ rw (low, e) refl
  | inr out ↦ rw out refl
]
