-- A turn of a lone thread in a command that allocates nothing.
use Rattle.std.proofs.Common.{◌≡◌, ℕ, ◌-◌, ◌<◌, ◌≤◌, inl, inr, Option, Some, None, is_some, length, refl, sym, ap, ◌∙◌, subst, arith}
use Rattle.block_store.specs.declared.Config.{Config}
use Rattle.block_store.specs.declared.Name.{Name}
use Rattle.block_store.specs.declared.Shape.TheVariants as shapes
use Rattle.block_store.specs.Heaps.{Heap}
use Rattle.block_store.specs.Places.{extent}
use Rattle.object_lists.specs.Records.{record_blocks}
use Rattle.never_heap.specs.declared.Command.{Command}
use Rattle.never_heap.specs.declared.Reply.{Reply}
use Rattle.never_heap.specs.Graphs.{Graph, ObjectKind, Record, Array, object_of}
use Rattle.heap_invariant.specs.graph_relation.Layouts.{kind_shape}
use Rattle.heap_invariant.specs.graph_relation.GraphOfWords.{heads}
use Rattle.heap_invariant.specs.name_invariant.Pictures.{Task, picture}
use Rattle.heap_invariant.specs.name_invariant.States.{KeptState, Kept}
use Rattle.heap_machine.specs.Operations.{place_of}
use Rattle.heap_machine.specs.declared.pass.Pass.{Pass}
use Rattle.barrier_steps.specs.declared.rows.FieldRow.{FieldRow}
use Rattle.barrier_steps.specs.declared.rows.FieldRow.TheVariants as rows
use Rattle.barrier_steps.specs.Fits.{FieldFits}
use Rattle.barrier_steps.specs.Operands.{field_index}
use Rattle.barrier_steps.specs.Projection.{loading_of}
use Rattle.barrier_steps.specs.Replies.{ShownAt, ShapeShown}
use Rattle.barrier_steps.specs.Rows.{FieldState, field_want, field_got, field_reply, shape_in, shape_or_empty}
use Rattle.barrier_steps.specs.Walks.{shape_length, links_to}
use Rattle.barrier_steps.proofs.RowReads.{row_shown}
use Rattle.rate_plan.specs.solo_bound.Moves.{Spot, Lone, Terms, Moves}
use Rattle.heap_system.specs.Alone.{longest_array, most_links}
use Rattle.heap_system.specs.Parts.{Access}
use Rattle.heap_system.specs.Locals.{if_replied}
use Rattle.heap_system.proofs.step_rows.PartLaws.{AtPart}
use Rattle.heap_system.proofs.invariant.SeenAndKept.{Seen}
use Rattle.heap_system.proofs.alone.FieldsLeft.{field_left, field_falls, ways_are_short, IsWayShort}
use Rattle.heap_system.proofs.alone.ObjectSizes.{ObjectsAreLow}
use Rattle.heap_system.proofs.alone.LoneThread.{Alone, LoneLaw, LoneKnows, terms_of, lone_of, heap_left, pass_left, paid_left, is_out}

record_low : (c : Config) (g : Graph) (a : Name) (kind : ObjectKind) (n : ℕ) → ObjectsAreLow c g → (object_of g a).kind ≡ kind → length (object_of g a).fields ≡ n → (m : ℕ) → kind_shape kind n ≡ shapes.List m → record_blocks c.width m ≤ c.object
record_low c g a Record n low is long m e = (let same : n ≡ m = (let z : shapes.List n ≡ shapes.List m = e in cc) in subst (λ x. record_blocks c.width x ≤ c.object) (long ∙ same) ((low a).0 is))
record_low c g a Array n low is long m e = absurd (let z : shapes.Tree n ≡ shapes.List m = e in cc)

array_low : (c : Config) (g : Graph) (a : Name) (kind : ObjectKind) (n : ℕ) → ObjectsAreLow c g → (object_of g a).kind ≡ kind → length (object_of g a).fields ≡ n → (m : ℕ) → kind_shape kind n ≡ shapes.Tree m → m ≤ longest_array c
array_low c g a Record n low is long m e = absurd (let z : shapes.List n ≡ shapes.Tree m = e in cc)
array_low c g a Array n low is long m e = (let same : n ≡ m = (let z : shapes.Tree n ≡ shapes.Tree m = e in cc) in subst (λ x. x ≤ longest_array c) (long ∙ same) ((low a).1 is))

-- the way in the object that is shown is short
shown_short : (c : Config) (g : Graph) (t i w : ℕ) (r : ℕ) → ObjectsAreLow c g → ShapeShown g t r w → i < shape_length (shape_in w) → links_to (extent c) (shape_in w) i ≤ most_links c i
shown_short c g t i w r low shown =
    let kind = (object_of g shown.name).kind in
    let n = length (object_of g shown.name).fields in
    let shape : shape_in w ≡ kind_shape kind n = ap shape_or_empty shown.shape in
    subst (λ f. i < shape_length f → links_to (extent c) f i ≤ most_links c i) (sym shape)
    (λ il. ways_are_short c (kind_shape kind n) i il (record_low c g shown.name kind n low refl refl) (array_low c g shown.name kind n low refl refl))

row_short : (c : Config) (g : Graph) (head : Name → ℕ) (t w : ℕ) (k : Command) (r : FieldRow) → ObjectsAreLow c g → ShownAt head g t k r w → IsWayShort c k r w
row_short c g head t w k (rows.LoadShape x) low shown = shown_short c g t (field_index k) w _ low shown
row_short c g head t w k _ low shown = tt

-- after its event it is in the command with fewer events left, or goes out
serves_out : (f : FieldState) (o : Option Reply) → is_out (if_replied o (Access f)) ≡ is_some o
serves_out f None = refl
serves_out f (Some reply) = refl

serves_on : (c : Config) (h : Heap) (t : ℕ) (q : Pass) (due paid : ℕ) (f : FieldState) (o : Option Reply) → LoneKnows c h t q due paid (if_replied o (Access f))
serves_on c h t q due paid f None = tt
serves_on c h t q due paid f (Some reply) = tt

serves_less : (c : Config) (e : Terms) (left : ℕ) (x : Lone) (h : Heap) (t owed : ℕ) (f : FieldState) (o : Option Reply) → field_left c f.command f.row < left → Moves e (Spot.Access left) x (lone_of c h t owed (if_replied o (Access f)))
serves_less c e left x h t owed f None less = inr (field_left c f.command f.row, less, refl)
serves_less c e left x h t owed f (Some reply) less = inl (omega (arith, less), refl)

module _ (c : Config) (s : Seen c) (f : FieldState) (at : AtPart c s (Access f)) (alone : Alone c s) where
  abbrev w : ℕ
  w = s.heap (place_of (field_want (extent c) f))

  abbrev now : KeptState
  now = picture s.graph s.order s.heap s.names s.tasks

  fits : FieldFits c f
  fits = at.fits.0

  loaded : now.seen.loads f.pass.thread ≡ loading_of (extent c) f
  loaded = ap (λ t. (s.tasks t).loading) at.part.thread ∙ ap (λ (x : Task). x.loading) at.task

  whole : c.blocks ≤ c.blocks
  whole = omega arith

  short : IsWayShort c f.command f.row w
  short = row_short c s.graph (heads s.names.at) f.pass.thread w f.command f.row alone.low
      (row_shown c c.blocks (Kept now) s.names.at fits.blocks whole now.seen s.kept.follows s.heap f.pass f.command f.row w fits (record { words = refl; loads = loaded; reads = refl }))

  pub less : field_left c f.command (field_got (extent c) f w).row < field_left c f.command f.row
  less = field_falls c f.pass f.command f.row w fits.row at.part.going short

pub serve_lone : (c : Config) (f : FieldState) → LoneLaw c (Access f)
serve_lone c f s at alone event knows =
    let n : FieldState = field_got (extent c) f (w c s f at alone) in
    record {
      goes = refl;
      out = serves_out n (field_reply n.row);
      knows = serves_on c (heap_left c s (Access f)) s.thread (pass_left c s (Access f)) s.due (paid_left c s (Access f)) n (field_reply n.row);
      moves = serves_less c (terms_of c s.command) (field_left c f.command f.row) (lone_of c s.heap s.thread (s.due - s.spent) (Access f)) (heap_left c s (Access f)) s.thread (s.due - paid_left c s (Access f)) n (field_reply n.row) (less c s f at alone);
    }
