-- The place of a thread's next event is one of the heap's words.
use Rattle.std.proofs.Common.{◌≡◌, ℕ, ◌<◌, true, length, ap, arith, refl}
use Rattle.block_store.specs.declared.Config.{Config}
use Rattle.block_store.specs.Places.{extent, index, in_range, words_count}
use Rattle.block_store.proofs.Lemmas.{below}
use Rattle.heap_machine.specs.declared.op.Op.{Op}
use Rattle.heap_machine.specs.declared.pass.Pass.{Pass}
use Rattle.heap_machine.specs.Operations.{op_at, op_place, place_of}
use Rattle.heap_machine.proofs.Lemmas.{gate_place, op_place-at}
use Rattle.barrier_steps.proofs.FieldRows as fields
use Rattle.grey_steps.proofs.RowsFit as marking
use Rattle.sweep_steps.proofs.RowsFit as sweeping
use Rattle.build_steps.proofs.WantedPlaces as building
use Rattle.heap_system.specs.Parts.{Part, Rest, Enter, Access, Mark, Sweep, Build, Retry, LeaveToChangePhase, PhaseChange, Leave}
use Rattle.heap_system.specs.Locals.{LocalState, IsLocal, PartFits, part_want}
use Rattle.heap_system.proofs.accounting.OwedAndPaid.{going_at}

-- the place of a part's next event is one of the heap
pub place_at : (c : Config) (done all : ℕ) (q : Pass) (p : Part) → PartFits c done all q p
    → in_range (extent c) (place_of (part_want c p)) ≡ true
place_at c done all q Rest f = refl
place_at c done all q (Enter g) f = gate_place c g f.0 (going_at c g f.1)
place_at c done all q (Access s) f = fields.place_at c s.pass s.command s.row f.0
place_at c done all q (Mark m) f = marking.place_fits c m f.0
place_at c done all q (Sweep s) f = sweeping.place_fits c s f.0
place_at c done all q (Build b) f = building.place_fits c b f.0
place_at c done all q Retry f = refl
place_at c done all q LeaveToChangePhase f = refl
place_at c done all q (PhaseChange g) f = gate_place c g f.0 f.1
place_at c done all q Leave f = refl

pub want_low : (l : LocalState) → IsLocal l → (o : Op)
    → o ≡ op_at (extent l.config) (part_want l.config l.part)
    → op_place o < words_count (extent l.config)
want_low l k o wants =
    let e = extent l.config in
    let w = part_want l.config l.part in
    let low : index e (place_of w) < words_count e =
    below e (place_of w) (place_at l.config (length l.log) (length l.trace) l.pass l.part k.part) in
    let at : op_place (op_at e w) ≡ index e (place_of w) = op_place-at e w in
    let same : op_place o ≡ op_place (op_at e w) = ap op_place wants in
    omega arith
