-- What a thread has loaded is of kept objects, which register is pending in which command, and that
-- the shaded roots are grey.
use Rattle.std.proofs.Common.{◌≡◌, ℕ, ◌<◌, ◌⊎◌, inl, inr, true, false, eqb-true, List, length, Option, Some, IfSome, refl, sym, ap, ◌∙◌, subst}
use Rattle.block_store.specs.declared.Config.{Config}
use Rattle.block_store.specs.Colours.{is_free, is_grey, black_word}
use Rattle.block_store.specs.Places.{Extent, extent}
use Rattle.heap_machine.specs.declared.pass.Pass.{Pass}
use Rattle.block_store.specs.Widths.{payloads}
use Rattle.never_heap.specs.declared.Command.{Command}
use Rattle.never_heap.specs.declared.Command.TheVariants as commands
use Rattle.never_heap.specs.Graphs.{register_of}
use Rattle.never_heap.specs.Histories.{replay}
use Rattle.heap_invariant.specs.graph_relation.Events.{ObjectLoad, ValueLoad, ObjectIs, ValueIs, is_pending}
use Rattle.heap_invariant.specs.graph_relation.GraphOfWords.{IsValueOf}
use Rattle.heap_invariant.specs.name_invariant.Building.{Build, NotHeld}
use Rattle.heap_invariant.specs.name_invariant.Colouring.{IfRefers, IsBlockOf, IsShadedRoot}
use Rattle.heap_invariant.specs.name_invariant.Invariant.{Invariant}
use Rattle.heap_invariant.specs.name_invariant.States.{KeptState, sizes, Kept as KeptNames}
use Rattle.heap_invariant.specs.name_invariant.Reached.{IsReachedBlock}
use Rattle.heap_invariant.proofs.Lemmas.{dark_refers, kept_not_held, reached_black, some_is, value_refers}
use Rattle.barrier_steps.specs.Fits.{is_store_of, is_row_of}
use Rattle.barrier_steps.specs.Operands.{to_register, takes_field, answers_value}
use Rattle.barrier_steps.specs.Projection.{store_loading, row_loading, carried_load}
use Rattle.barrier_steps.specs.Rows.{FieldState, is_taken, field_decided}
use Rattle.barrier_steps.specs.declared.rows.FieldRow.{FieldRow}
use Rattle.barrier_steps.specs.declared.rows.FieldRow.TheVariants as fields
use Rattle.barrier_steps.specs.declared.rows.FieldStore.{FieldStore}
use Rattle.barrier_steps.specs.declared.rows.FieldStore.TheVariants as stores
use Rattle.barrier_steps.specs.declared.rows.Purpose.{Purpose}
use Rattle.barrier_steps.specs.declared.rows.Purpose.TheVariants as wants
use Rattle.heap_system.specs.Parts.{Part, Access}
use Rattle.heap_system.specs.Loaded.{IsLoadedBlock, IsOfValue, IsTaking}
use Rattle.heap_system.specs.Locals.{PartFits, task, command_of}
use Rattle.heap_system.specs.Machines.{Run, local_at}
use Rattle.heap_system.proofs.invariant.Invariant.{Kept}
use Rattle.heap_system.proofs.invariant.SeenAndKept.{PartKept, RowKept}

module _ (c : Config) (s : KeptState) (k : Invariant c s) where
  abbrev IsOfKept : ℕ → Type 0
  IsOfKept x = IsBlockOf (KeptNames s) (sizes c s) s.at x

  -- the block to which a loaded value refers
  value_block : (t : ℕ) → t < c.threads → (o : Option ValueLoad) → IfSome o (λ v. ValueIs s.seen.graph s.at t v) → (x : ℕ) → IsOfValue o x → IsOfKept x
  value_block t tl o all x of =
      let v : ValueIs s.seen.graph s.at t of.load = some_is (λ l. ValueIs s.seen.graph s.at t l) o of.load of.there all in
      let kept = value_refers c s k (register_of s.seen.graph t of.load.origin) (k.follows.shows.closed.registers t of.load.origin tl v.origin) in
      subst IsOfKept (sym of.is) (subst (λ y. IfRefers IsOfKept y) (sym v.word) kept of.refers)

  -- and the one of a loaded object
  object_block : (t : ℕ) → t < c.threads → (o : ObjectLoad) → (s.seen.loads t).object ≡ Some o → IsOfKept o.block
  object_block t tl o e =
      let is = some_is (λ l. ObjectIs c.width s.seen.graph s.at t l) (s.seen.loads t).object o e (k.follows.loads t tl).object in
      record {
        name = is.name;
        ordinal = o.ordinal;
        kept = subst (IsValueOf (KeptNames s)) is.refers (k.follows.shows.closed.registers t o.source tl is.source);
        low = is.ordinal;
        is = is.block;
      }

  loaded_block : (t : ℕ) → t < c.threads → (x : ℕ) → IsLoadedBlock (s.seen.loads t) x → IsOfKept x
  loaded_block t tl x (inl o) = subst IsOfKept (sym o.is) (object_block t tl o.load o.there)
  loaded_block t tl x (inr (inl v)) = value_block t tl (s.seen.loads t).expected (k.follows.loads t tl).expected x v
  loaded_block t tl x (inr (inr v)) = value_block t tl (s.seen.loads t).value (k.follows.loads t tl).value x v

  -- neither is Free, or held
  pub loaded_safe : (t x : ℕ) → t < c.threads → IsLoadedBlock (s.seen.loads t) x
      → (is_free (s.colour x) ≡ false) × ((u : ℕ) (b : Build) → u < c.threads → s.builds u ≡ Some b → NotHeld b x)
  loaded_safe t x tl loaded =
      let q = loaded_block t tl x loaded in
      (ap (λ y. is_free (s.colour y)) q.is ∙ k.painted.solid q.name q.ordinal q.kept q.low, λ u b ul is. kept_not_held c s k x q u b ul is)

  -- a shaded root is grey
  shaded_grey : s.sweep ≡ true → (x : ℕ) → IsShadedRoot c.width c.threads s.shaded x → is_grey (s.colour x) ≡ true
  shaded_grey sweep x q = ap (λ y. is_grey (s.colour y)) q.2 ∙ (k.sweeping sweep).roots q.0 q.1 q.3

  abbrev Black : ℕ → Type 0
  Black x = s.colour x ≡ black_word s.cycle

  abbrev ShadedRoot : ℕ → Type 0
  ShadedRoot x = IsShadedRoot c.width c.threads s.shaded x

  pub or_grey : s.sweep ≡ true → (x : ℕ) → Black x ⊎ ShadedRoot x → Black x ⊎ (ShadedRoot x × (is_grey (s.colour x) ≡ true))
  or_grey sweep x (inl black) = inl black
  or_grey sweep x (inr root) = inr (root, shaded_grey sweep x root)

  pub reached_or_grey : s.sweep ≡ true → (x : ℕ) → IsReachedBlock c s x → Black x ⊎ (ShadedRoot x × (is_grey (s.colour x) ≡ true))
  reached_or_grey sweep x reached = or_grey sweep x (reached_black c s k sweep x reached)

  -- no black block, and no shaded root, refers to a block that is not black
  pub spared_refers : s.sweep ≡ true → (x j : ℕ) → Black x ⊎ ShadedRoot x → j < payloads c.width → IfRefers Black (s.seen.words.payload x j)
  spared_refers sweep x j (inl black) jl = dark_refers c s k sweep x j (inr black) jl
  spared_refers sweep x j (inr root) jl = dark_refers c s k sweep x j (inl (shaded_grey sweep x root)) jl

-- A pending register is the one that a `get` or a `swap` is about to store, after its linearization
-- point.
carries_none : (k : Command) (word q : ℕ) → is_pending (carried_load k word) q ≡ false
carries_none (commands.Put s i v) word q = refl
carries_none (commands.Swap s i v) word q = refl
carries_none (commands.Cas s i a v) word q = refl
carries_none _ word q = refl

abbrev Gets : Command → FieldRow → ℕ → Type 0
Gets k row q = (takes_field k ≡ true) × (to_register k ≡ q) × (field_decided row ≡ true)

register_gets : (e : Extent) (k : Command) (wanted : Purpose) (q : ℕ) → is_pending (row_loading e k (fields.LoadRegister wanted)).value q ≡ true → Gets k (fields.LoadRegister wanted) q
register_gets e k (wants.Second word) q is = absurd cc
register_gets e k _ q is = absurd cc

owner_gets : (e : Extent) (k : Command) (word q : ℕ) → is_pending (row_loading e k (fields.LoadOwner word)).value q ≡ true → answers_value k ≡ true → Gets k (fields.LoadOwner word) q
owner_gets e (commands.Get d s i) word q is of = (refl, eqb-true d q is, refl)
owner_gets e (commands.Swap s i v) word q is of = (refl, eqb-true v q is, refl)
owner_gets e (commands.Say s) word q is of = absurd cc
owner_gets e _ word q is of = absurd cc

store_gets : (e : Extent) (k : Command) (store : FieldStore) (q : ℕ) → is_pending (store_loading e k store).value q ≡ true → is_store_of k store ≡ true → (takes_field k ≡ true) × (to_register k ≡ q) × (is_taken store ≡ true)
store_gets e k (stores.Pending word value) q is of = (of, eqb-true (to_register k) q is, refl)
store_gets e k _ q is of = absurd cc

row_gets : (e : Extent) (c : Config) (p : Pass) (k : Command) (row : FieldRow) (q : ℕ) → is_pending (row_loading e k row).value q ≡ true → is_row_of c p k row ≡ true → Gets k row q
row_gets e c p k (fields.LoadRegister wanted) q is of = register_gets e k wanted q is
row_gets e c p k (fields.LoadOwner word) q is of = owner_gets e k word q is of
row_gets e c p k (fields.Shade r store) q is of = store_gets e k store q is of
row_gets e c p k (fields.Store store) q is of = store_gets e k store q is of
row_gets e c p k (fields.LoadLink way word) q is of = absurd (cc (is, carries_none k word q))
row_gets e c p k _ q is of = absurd cc

module _ (c : Config) (traces : List (List Command)) (r : Run) (k : Kept c traces r) (t : ℕ) (tl : t < c.threads) where
  in_get : (f : FieldState) → (local_at c r.state t).part ≡ Access f → (q : ℕ) → Gets f.command f.row q → IsTaking (local_at c r.state t) q
  in_get f is q gets =
      let row : RowKept c (replay c r.order) t (local_at c r.state t).pass (command_of (local_at c r.state t)) f =
      subst (λ p. PartKept c (replay c r.order) t (local_at c r.state t).pass (command_of (local_at c r.state t)) p) is (k.locals t tl).stands in
      record {
        field = f;
        serves = is;
        takes = ap takes_field (sym row.command) ∙ gets.0;
        register = ap to_register (sym row.command) ∙ gets.1;
        own = row.command;
        decided = gets.2;
      }

  at_part : (p : Part) → (local_at c r.state t).part ≡ p → (q : ℕ) → is_pending (task c p).loading.value q ≡ true → IsTaking (local_at c r.state t) q
  at_part (Access f) is q e =
      let fits = subst (λ p. PartFits (local_at c r.state t).config (length (local_at c r.state t).log) (length (local_at c r.state t).trace) (local_at c r.state t).pass p) is (k.locals t tl).fits.part in
      in_get f is q (row_gets (extent c) (local_at c r.state t).config f.pass f.command f.row q e fits.0.belongs)
  at_part _ is q e = absurd cc

  pub pending_get : (q : ℕ) → is_pending (task c (local_at c r.state t).part).loading.value q ≡ true → IsTaking (local_at c r.state t) q
  pending_get q e = at_part (local_at c r.state t).part refl q e
