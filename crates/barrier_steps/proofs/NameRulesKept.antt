-- Each event of a command keeps what the graph reaches, or changes nothing that this names.
use Rattle.std.proofs.Common.{◌≡◌, ℕ, Bool, true, false, not, cond, Option, None, Some, IfSome, List, [], ◌∷◌, ◌++◌, refl, arith, sym, ap, ◌∙◌, subst, inl, inr, eqb}
use Rattle.barrier_steps.proofs.Common.{unloaded, cases_Bool, Config, Name, changed, Heap, target, is_sweep, cycle_of, Extent, extent, Phase, ColourOf, changed_map, changed_self, target-nil, Command, Graph, Loading, Event, GraphState, IsPrompt, value_in, heads, place_of, heap_after, IsHeld, NotFree, Pass, FieldRow, FieldStore, refers, length_decides, is_deciding, FitsAt, FieldFits, FieldReads, store_loading, row_loading, row_event, after_event, InHandAt, answer, graph_after, ShownAt, FieldState, payload_in, shape_in, stored_word, shades, reads_beside_graph, word_stored, row_want, field_want, field_got, field_reply, shape_length, takes_field, LoadRegister, LoadShape, LoadField, LoadOwner, Shade, Store, Answered, Moved, InField, Exchanged, Compared}
use Rattle.barrier_steps.specs.declared.rows.Purpose.TheVariants as wants
use Rattle.std.proofs.lemmas.Bool.{both_ways}
use Rattle.block_store.specs.Colours.{is_free}
use Rattle.block_store.proofs.Lemmas.{funext}
use Rattle.never_heap.specs.declared.Entry.{Entry}
use Rattle.never_heap.specs.Histories.{HistoryItem, Did, after}
use Rattle.never_heap.proofs.Lemmas.{step_not_full}
use Rattle.heap_invariant.specs.graph_relation.Events as commanded
use Rattle.heap_invariant.specs.name_invariant.Events.{event_thread, leaves_graph, loaded_word, MayDecide}
use Rattle.heap_invariant.specs.name_invariant.Invariant.{Invariant}
use Rattle.heap_invariant.specs.name_invariant.Pictures.{Task, Names, no_task, picture}
use Rattle.heap_invariant.specs.name_invariant.States.{KeptState, Kept}
use Rattle.heap_invariant.proofs.Lemmas.{answers, decides, loaded_kept, serves}
use Rattle.grey_steps.proofs.Pictures.{shading_keeps_names}
use Rattle.barrier_steps.specs.Decided.{field_task, entry_on, graph_on, order_on}
use Rattle.barrier_steps.specs.Projection.{event_of, IsAtRow, IsInHand}
use Rattle.barrier_steps.specs.Replies.{Shown, reply_due, IsKnown}
use Rattle.barrier_steps.proofs.RepliesDue.{row_due}
use Rattle.barrier_steps.proofs.FieldRows.{barrier_shades}
use Rattle.barrier_steps.proofs.PhaseRulesKept.{row_colour, field_phase}
use Rattle.barrier_steps.proofs.RowEvents.{has_value, words_moved, loads_moved, row_guarded, barrier_loading, graph_stays, graph_steps}
use Rattle.barrier_steps.proofs.RowReads.{row_reads, row_shown}
use Rattle.barrier_steps.proofs.Decisions.{either}

-- the event of a row is of its thread, and leaves the graph where it does not decide; one that
-- decides comes with no store due
module _ (e : Extent) (a : Name) (t : ℕ) (k : Command) where
  abbrev IsOwn : Bool → Loading → Option Event → Type 0
  IsOwn decides l o = IfSome o (λ x. (t ≡ event_thread x) × (decides ≡ false → leaves_graph x ≡ true)) × (decides ≡ true → IsPrompt l)

  own_event : (row : FieldRow) (w : ℕ) → IsOwn (is_deciding k row w) (row_loading e k row) (row_event e a t k row w)
  own_event (LoadRegister wants.Object) w =
      either (IsOwn (not (refers (payload_in w))) unloaded) (refers (payload_in w)) _ _ ((refl, λ _. refl), λ _. refl) (tt, λ _. refl)
  own_event (LoadRegister wants.Shown) w =
      either (IsOwn true unloaded) (refers (payload_in w)) _ _ ((refl, λ _. refl), λ _. refl) (tt, λ _. refl)
  own_event (LoadShape x) w = let b = length_decides k (shape_length (shape_in w)) in
      either (IsOwn b (row_loading e k (LoadShape x))) b _ _ ((refl, λ _. refl), λ _. refl) ((refl, λ _. refl), λ _. refl)
  own_event (LoadOwner word) w =
      either (IsOwn false (row_loading e k (LoadOwner word))) (takes_field k) _ _ (tt, λ n. absurd cc) ((refl, λ _. refl), λ n. absurd cc)
  own_event (Store (Compared way word)) w = either (IsOwn true (row_loading e k (Store (Compared way word)))) (eqb w way.expected) _ _
      ((refl, λ n. absurd cc), λ _. refl) ((refl, λ _. refl), λ _. refl)
  own_event (Shade r store) w = (tt, λ n. absurd cc)
  own_event (Answered reply) w = (tt, λ n. absurd cc)
  own_event _ w = ((refl, λ n. cc), λ n. cc)

-- the object in which a row loads or stores a field
pub in_hand : (s : GraphState) (at : Name → ℕ → ℕ) (t : ℕ) (k : Command) (r : FieldRow) (w : ℕ)
    → ShownAt (heads at) s.graph t k r w → (a : Name) × InHandAt s a t k r
in_hand s at t k (LoadField way) w shown = (shown.0.name, shown.0.refers)
in_hand s at t k (Store (InField way word)) w shown = (shown.name, shown.refers)
in_hand s at t k (Store (Exchanged way word)) w shown = (shown.0.name, shown.0.refers)
in_hand s at t k (Store (Compared way word)) w shown = (shown.0.name, shown.0.refers)
in_hand s at t k _ w shown = (record { thread = 0; serial = 0 }, tt)

-- an event, or none, of a command, with which it is decided or is not
module _ (c : Config) (s : KeptState) (k : Invariant c s) (entry : Entry) where
  moved : (o : Option Event) (d : Bool) → IfSome o (commanded.Guard c.width c.threads s.seen)
      → IfSome o (λ x. (entry.thread ≡ event_thread x) × (d ≡ false → leaves_graph x ≡ true))
      → (d ≡ true → MayDecide c s entry)
      → (d ≡ true → (after_event (extent c) s.seen o).graph ≡ after s.seen.graph (Did entry))
      → Invariant c (record s { seen = after_event (extent c) s.seen o; order = cond d (s.order ++ Did entry ∷ []) s.order })
  moved None false guard own may graph = k
  moved None true guard own may graph = answers c s k entry (may refl, sym (graph refl))
  moved (Some x) false guard own may graph = serves c s k x (guard, own.1 refl)
  moved (Some x) true guard own may graph =
      decides c s k x entry (guard, may refl, own.0, graph refl)

-- what is loaded before a store is its word
store_value : (c : Config) (k : Command) (store : FieldStore)
    → ((store_loading (extent c) k store).value ≡ Some (value_in (store_loading (extent c) k store).value))
    × ((value_in (store_loading (extent c) k store).value).word ≡ stored_word store)
store_value c k (Moved word) = (refl, refl)
store_value c k _ = (refl, refl)

module _ (c : Config) (g : Graph) (order : List HistoryItem) (h : Heap) (names : Names) (tasks : ℕ → Task) where
  abbrev now : KeptState
  now = picture g order h names tasks

  -- the picture of the words and the part after the event of a row
  abbrev later : FieldState → KeptState
  later f = let w = h (place_of (field_want (extent c) f)) in
      picture (graph_on g f w) (order_on g order f w) (heap_after h (field_want (extent c) f)) names
      (changed tasks f.pass.thread (field_task (extent c) (field_got (extent c) f w)))

  module _ (f : FieldState) (fits : FieldFits c f) (is : tasks f.pass.thread ≡ field_task (extent c) f) (k : Invariant c now) where
    abbrev t : ℕ
    t = f.pass.thread

    abbrev w : ℕ
    w = h (place_of (field_want (extent c) f))

    abbrev next : Task
    next = field_task (extent c) (field_got (extent c) f w)

    at_row : IsAtRow (extent c) now.seen h f w
    at_row = record { words = refl; loads = ap (λ (x : Task). x.loading) is; reads = refl }

    shown : Shown (heads names.at) g f w
    shown = row_shown c c.blocks (Kept now) names.at fits.blocks (omega arith) now.seen k.follows h f.pass
        f.command f.row w fits at_row

    reads : (reads_beside_graph f.row ≡ true → IsHeld c h) → field_reply f.row ≡ None → FieldReads c f w
    reads = row_reads c c.blocks (Kept now) names.at fits.blocks (omega arith) now.seen k.follows h f.pass f.command f.row w fits at_row

    hand : (a : Name) × IsInHand now.seen a f
    hand = in_hand now.seen names.at t f.command f.row w shown

    abbrev event : Option Event
    event = event_of (extent c) hand.0 f w

    graph_is : (after_event (extent c) now.seen event).graph ≡ graph_on g f w
    graph_is = elim (cases_Bool (is_deciding f.command f.row w)) [
      | inl d ↦ rw d (graph_steps c now.seen hand.0 f.pass f.command (heads names.at) f.row w fits.belongs d shown at_row.loads hand.1)
      | inr d ↦ rw d (graph_stays c now.seen hand.0 f.pass f.command f.row w d)
    ]

    -- from the linearization point on the step's answer is due
    abbrev IsDueOn : Graph → Type 0
    IsDueOn x = (reply_due x (field_got (extent c) f w) ≡ cond (is_deciding f.command f.row w) (Some (answer g t f.command)) (reply_due g f))
        × IsKnown x (field_got (extent c) f w)

    pub due_on : IsKnown g f → IsDueOn (graph_on g f w)
    due_on known = subst IsDueOn graph_is (row_due c c.blocks (Kept now) names.at fits.blocks (omega arith) now.seen k.follows h hand.0 f.pass
        f.command f.row w fits at_row hand.1 known)

    pub reads_on : IsHeld c h → field_reply f.row ≡ None → FieldReads c f w
    reads_on held = reads (λ _. held)

    decided : is_deciding f.command f.row w ≡ true → MayDecide c now (entry_on g f)
    decided d = (fits.thread.thread, subst IsPrompt (sym at_row.loads) ((own_event (extent c) hand.0 t f.command f.row w).1 d), inl refl)

    steps : is_deciding f.command f.row w ≡ true
        → (after_event (extent c) now.seen event).graph ≡ after g (Did (entry_on g f))
    steps d = graph_is ∙ ap (λ b. cond b (graph_after g t f.command) g) d
        ∙ ap (λ b. cond b g (graph_after g t f.command)) (sym (step_not_full g t f.command))

    -- rows that are no part of a barrier
    module _ (plain : shades f.row ≡ false) (going : field_reply f.row ≡ None) where
      reads_in : reads_beside_graph f.row ≡ false → FieldReads c f w
      reads_in within = reads (λ beside. absurd (both_ways (reads_beside_graph f.row) within beside)) going

      is_picture : record now { seen = after_event (extent c) now.seen event; order = order_on g order f w } ≡ later f
      is_picture = λ i. record now {
        seen = record {
          graph = graph_is i;
          words = words_moved c now.seen hand.0 f.pass f.command h f.row w at_row i;
          loads = (funext _ _ (loads_moved c now.seen hand.0 f.pass f.command h f.row w fits reads_in at_row)
              ∙ sym (changed_map (λ (x : Task). x.loading) tasks t next)) i;
        };
        order = order_on g order f w;
        cycle = cycle_of (sym (field_phase c h f) i);
        sweep = is_sweep (sym (field_phase c h f) i);
        colour = λ x. sym (row_colour c h x f.pass f.command f.row plain) i;
        builds = sym (changed_map (λ (x : Task). x.build) tasks t next ∙ changed_self (λ u. (tasks u).build) t None (ap (λ (x : Task). x.build) is)) i;
        scans = sym (changed_map (λ (x : Task). x.scan) tasks t next ∙ changed_self (λ u. (tasks u).scan) t 0 (ap (λ (x : Task). x.scan) is)) i;
      }

      pub plain_names : Invariant c (later f)
      plain_names = subst (λ (s : KeptState). Invariant c s) is_picture (moved c now k (entry_on g f) event (is_deciding f.command f.row w)
          (row_guarded c now.seen hand.0 f.pass f.command h f.row w fits reads_in at_row hand.1)
          (own_event (extent c) hand.0 t f.command f.row w).0 decided steps)

  abbrev at : Pass → Command → FieldRow → FieldState
  at p k row = record { pass = p; command = k; row = row }

  -- a row of the barrier
  shade_names : (p : Pass) (k : Command) (row : FieldRow) → shades row ≡ true → FitsAt c p k row
      → is_sweep (h Phase) ≡ p.sweep → cycle_of (h Phase) ≡ p.cycle → tasks p.thread ≡ field_task (extent c) (at p k row)
      → Invariant c now → Invariant c (later (at p k row))
  shade_names p k (Shade r store) part fits sweep cycle is kept =
      let b = fits.row.0 in
      subst (λ (ts : ℕ → Task). Invariant c (picture g order (heap_after h (row_want (extent c) p k (Shade r store))) names ts))
      (sym (changed_self tasks p.thread _ (is ∙ ap (λ (l : Loading). record no_task { loading = l }) (sym (barrier_loading c p k _ store)))))
      (shading_keeps_names c g order h names tasks (record { pass = p; row = r }) b.fits (sweep ∙ b.mark) cycle
      (barrier_shades c p r store b)
      (has_value now.seen p.thread _ (ap (λ (x : Task). x.loading.value) is ∙ (store_value c k store).0))
      (ap (λ (x : Task). target (value_in x.loading.value).word) is ∙ ap target (store_value c k store).1 ∙ sym b.stores) kept)
  shade_names p k _ part fits sweep cycle is kept = absurd cc

  pub keeps_names : (f : FieldState) → FieldFits c f → field_reply f.row ≡ None
      → is_sweep (h Phase) ≡ f.pass.sweep → cycle_of (h Phase) ≡ f.pass.cycle
      → tasks f.pass.thread ≡ field_task (extent c) f → Invariant c now → Invariant c (later f)
  keeps_names f fits going sweep cycle is kept = elim (cases_Bool (shades f.row)) [
    | inl part ↦ shade_names f.pass f.command f.row part fits sweep cycle is kept
    | inr plain ↦ plain_names f fits is kept plain going
  ]

  -- what is loaded is of a kept name, and its block is not Free
  pub loaded_solid : (f : FieldState) → FieldFits c f → tasks f.pass.thread ≡ field_task (extent c) f
      → Invariant c now → NotFree (λ x. h (ColourOf x)) (target (word_stored f.row))
  loaded_solid f fits is k = go f.row (ap (λ (x : Task). x.loading) is)
    where
      go : (row : FieldRow) → (tasks f.pass.thread).loading ≡ row_loading (extent c) f.command row
          → NotFree (λ x. h (ColourOf x)) (target (word_stored row))
      go (Store store) e = λ some.
          let value = ap (λ (l : Loading). l.value) e ∙ (store_value c f.command store).0 in
          let word : loaded_word now f.pass.thread ≡ stored_word store = ap (λ o. (value_in o).word) value ∙ (store_value c f.command store).1 in
          let block = loaded_kept c now k f.pass.thread fits.thread.thread (has_value now.seen f.pass.thread _ value)
          (λ none. some (sym (ap target word) ∙ none)) in
          ap (λ y. is_free (h (ColourOf y))) (sym (ap target word) ∙ block.is)
          ∙ k.painted.solid block.name block.ordinal block.kept block.low
      go _ e = λ some. absurd (some target-nil)
