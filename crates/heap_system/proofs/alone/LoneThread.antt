-- Where a thread is that alone has turns, what it knows of the heap there, and what one of its
-- turns is to do.
use Rattle.std.proofs.Common.{◌≡◌, ℕ, zero, suc, ◌+◌, ◌-◌, ◌<◌, Bool, true, false, not, cond, eqb, ltb, ◌||◌, length, is_some}
use Rattle.block_store.specs.declared.Config.{Config}
use Rattle.block_store.specs.declared.Width.{Width}
use Rattle.block_store.specs.Heaps.{Heap}
use Rattle.block_store.specs.Phases.{is_sweep, cycle_of}
use Rattle.block_store.specs.Places.{Phase, Cursor, GreyList, FreeCount, FreeList}
use Rattle.block_store.specs.Widths.{payloads}
use Rattle.never_heap.specs.declared.Command.{Command}
use Rattle.never_heap.specs.Steps.{blocks_of}
use Rattle.heap_machine.specs.Gating.{is_outside}
use Rattle.heap_machine.specs.Operations.{heap_after}
use Rattle.heap_machine.specs.declared.gate.GateRow.{GateRow}
use Rattle.heap_machine.specs.declared.gate.GateRow.TheVariants as gates
use Rattle.heap_machine.specs.declared.pass.Pass.{Pass}
use Rattle.grey_steps.specs.Rows as marks
use Rattle.grey_steps.specs.declared.rows.GreyRow.{GreyRow}
use Rattle.grey_steps.specs.declared.rows.GreyRow.TheVariants as greys
use Rattle.barrier_steps.specs.Rows.{first_row}
use Rattle.sweep_steps.specs.declared.rows.SweepRow.{SweepRow}
use Rattle.sweep_steps.specs.declared.rows.SweepRow.TheVariants as sweeps
use Rattle.build_steps.specs.Rows as making
use Rattle.build_steps.specs.Rows.{BuildState}
use Rattle.build_steps.specs.declared.rows.BuildRow.{BuildRow}
use Rattle.build_steps.specs.declared.rows.BuildRow.TheVariants as builds
use Rattle.rate_plan.specs.solo_bound.Moves.{Spot, Lone, Terms, Moves}
use Rattle.heap_system.specs.Parts.{Part, Rest, Enter, Access, Mark, Sweep, Build, Retry, LeaveToChangePhase, PhaseChange, Leave}
use Rattle.heap_system.specs.Locals.{effect, part_want, part_got, pass_got, spent_got, waits}
use Rattle.heap_system.proofs.step_rows.PartLaws.{AtPart, PartEvent, word_at}
use Rattle.heap_system.proofs.invariant.SeenAndKept.{Seen, errand}
use Rattle.heap_system.proofs.alone.FieldsLeft.{field_left}
use Rattle.heap_system.proofs.alone.ObjectSizes.{ObjectsAreLow}

-- what a command is
abbrev pub terms_of : Config → Command → Terms
terms_of c k = record {
  threads = c.threads;
  payloads = payloads c.width;
  allocates = ltb 0 (blocks_of c.width k);
  blocks = blocks_of c.width k;
  most = field_left c k (first_row k);
}

-- where the rows are
abbrev pub gate_spot : GateRow → Spot
gate_spot gates.Look = Spot.Look
gate_spot (gates.Enter seen) = Spot.Enter
gate_spot (gates.CloseLook p) = Spot.CloseLook
gate_spot (gates.Close p seen) = Spot.Close
gate_spot (gates.CheckList p u) = Spot.Check u
gate_spot (gates.SetCursor p) = Spot.SetCursor
gate_spot (gates.Flip p) = Spot.Flip
gate_spot (gates.ShadeRoot p u list) = Spot.ShadeRoot u
gate_spot (gates.PutRoots p list) = Spot.PutRoots
gate_spot (gates.Start p) = Spot.Start
gate_spot _ = Spot.Over

abbrev pub grey_spot : GreyRow → Spot
grey_spot (greys.Take u) = Spot.Take u
grey_spot (greys.Pop list) = Spot.Pop
grey_spot (greys.ScanWord x j list) = Spot.Scan j
grey_spot (greys.Shade x j y list) = Spot.Shade j
grey_spot (greys.Blacken x list) = Spot.Blacken
grey_spot (greys.Put list) = Spot.PutGrey
grey_spot _ = Spot.Over

abbrev pub sweep_spot : SweepRow → Spot
sweep_spot sweeps.ReadCursor = Spot.ReadCursor
sweep_spot (sweeps.ClaimRange x high) = Spot.Claim (high - x)
sweep_spot (sweeps.PassBlock x high passed list freed) = Spot.Pass (high - x) (ltb 0 freed)
sweep_spot (sweeps.TakeFree x high passed) = Spot.TakeFree (high - x)
sweep_spot (sweeps.FreeBlock x high passed list freed) = Spot.Free (high - x)
sweep_spot (sweeps.PutFree list passed freed) = Spot.PutFree
sweep_spot (sweeps.Credit passed freed) = Spot.Credit
sweep_spot _ = Spot.Over

-- with so many blocks held. The words of a block are its owner, its shape, its payload words and
-- its colour
abbrev pub build_spot : Width → ℕ → BuildRow → Spot
build_spot w h builds.ReadCount = Spot.Count
build_spot w h (builds.Reserve seen) = Spot.Reserve
build_spot w h (builds.TakeFree u) = Spot.Grab u h
build_spot w h (builds.Collect list u) = Spot.Collect u h
build_spot w h (builds.PutRest list) = Spot.PutRest
build_spot w h (builds.WriteOwner o) = Spot.Write o 0
build_spot w h (builds.WriteShape o) = Spot.Write o 1
build_spot w h (builds.WritePayload o j) = Spot.Write o (j + 2)
build_spot w h (builds.WriteColour o) = Spot.Write o (payloads w + 2)
build_spot w h builds.Publish = Spot.Publish
build_spot w h _ = Spot.Over

abbrev pub spot_of : Config → Part → Spot
spot_of c Rest = Spot.Look
spot_of c (Enter g) = gate_spot g
spot_of c (Access f) = Spot.Access (field_left c f.command f.row)
spot_of c (Mark m) = grey_spot m.row
spot_of c (Sweep s) = sweep_spot s.row
spot_of c (Build b) = build_spot c.width (length b.held) b.row
spot_of c Retry = Spot.Leave
spot_of c LeaveToChangePhase = Spot.LeaveNone
spot_of c (PhaseChange g) = gate_spot g
spot_of c Leave = Spot.LeaveDone

-- of the n numbers f i, f (i + 1), .., some is not 0
abbrev pub some : (ℕ → ℕ) → ℕ → ℕ → Bool
some f i zero = false
some f i (suc n) = not (eqb (f i) 0) || some f (i + 1) n

-- the grey lists and the free lists, as thread t takes them, its own first
abbrev pub grey_heads : Config → Heap → ℕ → ℕ → ℕ
grey_heads c h t u = h (GreyList (marks.list_of t c.threads u))

abbrev pub free_heads : Config → Heap → ℕ → ℕ → ℕ
free_heads c h t u = h (FreeList (making.list_of t c.threads u))

-- a pass of the present phase finds something
abbrev pub ready_now : Config → Heap → ℕ → Bool
ready_now c h t =
    cond (is_sweep (h Phase)) (not (ltb c.blocks (h Cursor)))
    (some (grey_heads c h t) 0 c.threads)

-- from list u on, where those before it were taken
abbrev pub grey_ready : Config → Heap → ℕ → GreyRow → Bool
grey_ready c h t (greys.Take u) = some (grey_heads c h t) u (c.threads - u)
grey_ready c h t _ = ready_now c h t

abbrev pub ready_of : Config → Heap → ℕ → Part → Bool
ready_of c h t (Mark m) = grey_ready c h t m.row
ready_of c h t _ = ready_now c h t

-- thread t at part p, with so many units owed
abbrev pub lone_of : Config → Heap → ℕ → ℕ → Part → Lone
lone_of c h t owed p = record {
  spot = spot_of c p;
  owed = owed;
  sweep = is_sweep (h Phase);
  ready = ready_of c h t p;
}

-- the phase word has the cycle and the phase of the pass
abbrev pub IsOfPass : Heap → Pass → Type 0
IsOfPass h q = (cycle_of (h Phase) ≡ q.cycle) × (is_sweep (h Phase) ≡ q.sweep)

-- no grey list has a block, after a Mark pass that found nothing
abbrev pub NoGrey : Config → Heap → Type 0
NoGrey c h = (v : ℕ) → v < c.threads → h (GreyList v) ≡ 0

abbrev pub IsDry : Config → Heap → Pass → Type 0
IsDry c h q = q.sweep ≡ false → NoGrey c h

-- nor has one of another thread
abbrev pub OthersDry : Config → Heap → ℕ → Type 0
OthersDry c h t = (v : ℕ) → v < c.threads → (t ≡ v → ⊥) → h (GreyList v) ≡ 0

-- What a lone thread knows at its rows, since nobody else has turns. From a pass that found nothing
-- to the change of phase it owes a unit.
abbrev pub GateKnows : Config → Heap → ℕ → Pass → ℕ → ℕ → GateRow → Type 0
GateKnows c h t q due paid (gates.Enter seen) = seen ≡ h Phase
GateKnows c h t q due paid (gates.CloseLook p) = (paid < due) × IsDry c h q × IsOfPass h q
GateKnows c h t q due paid (gates.Close p seen) =
    (paid < due) × IsDry c h q × IsOfPass h q × (seen ≡ h Phase)
GateKnows c h t q due paid (gates.CheckList p u) = (paid < due) × NoGrey c h
GateKnows c h t q due paid (gates.SetCursor p) = paid < due
GateKnows c h t q due paid (gates.Flip p) = paid < due
GateKnows c h t q due paid (gates.Reopen p) = ⊥
GateKnows c h t q due paid (gates.ShadeRoot p u list) = (paid < due) × NoGrey c h
GateKnows c h t q due paid (gates.PutRoots p list) = (paid < due) × (0 < list) × NoGrey c h
GateKnows c h t q due paid (gates.Start p) =
    (paid < due) × (0 < h (GreyList t)) × OthersDry c h t
GateKnows c h t q due paid _ = Unit {0}

abbrev pub GreyKnows : Config → Heap → ℕ → GreyRow → Type 0
GreyKnows c h t (greys.Take u) = (v : ℕ) → v < u → grey_heads c h t v ≡ 0
GreyKnows c h t _ = Unit {0}

abbrev pub SweepKnows : Heap → SweepRow → Type 0
SweepKnows h (sweeps.ClaimRange x high) = x ≡ h Cursor
SweepKnows h _ = Unit {0}

abbrev pub BuildKnows : Config → Heap → ℕ → BuildRow → Type 0
BuildKnows c h t (builds.Reserve seen) = seen ≡ h FreeCount
BuildKnows c h t (builds.TakeFree u) = (v : ℕ) → v < u → free_heads c h t v ≡ 0
BuildKnows c h t (builds.Collect list u) = (v : ℕ) → v < u + 1 → free_heads c h t v ≡ 0
BuildKnows c h t _ = Unit {0}

abbrev pub LoneKnows : Config → Heap → ℕ → Pass → ℕ → ℕ → Part → Type 0
LoneKnows c h t q due paid (Enter g) = GateKnows c h t q due paid g
LoneKnows c h t q due paid (Mark m) = GreyKnows c h t m.row
LoneKnows c h t q due paid (Sweep s) = SweepKnows h s.row
LoneKnows c h t q due paid (Build b) = BuildKnows c h t b.row
LoneKnows c h t q due paid LeaveToChangePhase = (paid < due) × IsDry c h q
LoneKnows c h t q due paid (PhaseChange g) = GateKnows c h t q due paid g
LoneKnows c h t q due paid _ = Unit {0}

-- the thread goes out with its reply
abbrev pub is_out : Part → Bool
is_out Leave = true
is_out _ = false

-- every other thread is outside, and has not closed the gate; and no record is larger than the
-- largest object
pub record Alone (c : Config) (s : Seen c) : Type 0 where
  pub others : (u : ℕ) → u < c.threads → (s.thread ≡ u → ⊥) → is_outside (s.gatings u).stand ≡ true
  pub low : ObjectsAreLow c s.graph

-- what the event at part p leaves: the heap, the pass, the units paid and the part
abbrev pub heap_left : (c : Config) → Seen c → Part → Heap
heap_left c s p = heap_after s.heap (part_want c p)

abbrev pub pass_left : (c : Config) → Seen c → Part → Pass
pass_left c s p = pass_got (effect c p (word_at c s p)).entered s.thread c.threads s.pass

abbrev pub paid_left : (c : Config) → Seen c → Part → ℕ
paid_left c s p =
    spent_got (effect c p (word_at c s p)).reply (effect c p (word_at c s p)).unit s.spent

abbrev pub part_left : (c : Config) → Seen c → Part → Part
part_left c s p = part_got c s.thread (errand c s) s.pass p (word_at c s p)

-- One turn of a lone thread: it does not wait; it brings a reply exactly where the thread then goes
-- out; what the thread knows holds at its next row; and it is a move.
pub record LoneStep (c : Config) (s : Seen c) (p : Part) : Type 0 where
  pub goes : waits p (word_at c s p) ≡ false
  pub out : is_out (part_left c s p) ≡ is_some (effect c p (word_at c s p)).reply
  pub knows : LoneKnows c (heap_left c s p) s.thread (pass_left c s p) s.due (paid_left c s p)
      (part_left c s p)
  pub moves : Moves (terms_of c s.command) (spot_of c p)
      (lone_of c s.heap s.thread (s.due - s.spent) p)
      (lone_of c (heap_left c s p) s.thread (s.due - paid_left c s p) (part_left c s p))

-- what is to be proved of a part
abbrev pub LoneLaw : Config → Part → Type 0
LoneLaw c p = (s : Seen c) → AtPart c s p → Alone c s → PartEvent c s p
    → LoneKnows c s.heap s.thread s.pass s.due s.spent p → LoneStep c s p
