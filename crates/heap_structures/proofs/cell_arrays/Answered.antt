-- A call of one command that makes neither an object nor a unit, where the graph says its reply.
use Rattle.std.proofs.Common.{◌≡◌, ◌≢◌, ℕ, ◌+◌, ◌^◌, ◌<◌, ◌≤◌, Result, Ok, Err, Bool, true, false, List, [], ◌∷◌, length, slice_index_or, slice_set, sym, refl, ap, ◌∙◌, subst, arith}
use Rattle.std.specs.Prelude.{IsOkAnd}
use Rattle.std.proofs.lemmas.Bool.{both_ways}
use Rattle.block_store.specs.declared.Value.{Value}
use Rattle.block_store.specs.declared.Value.TheVariants.{Nil, Int}
use Rattle.never_heap.specs.declared.Command.{Command}
use Rattle.never_heap.specs.declared.Command.TheVariants as commands
use Rattle.never_heap.specs.declared.Reply.{Reply}
use Rattle.never_heap.specs.declared.Reply.TheVariants as replies
use Rattle.never_heap.specs.Bounds.{IsCommandInBounds}
use Rattle.never_heap.specs.Graphs.{Graph}
use Rattle.never_heap.specs.Steps.{step}
use Rattle.never_heap.proofs.Lemmas.{others_have_none, owes_told}
use Rattle.heap_machine.specs.Memories.{Acts}
use Rattle.heap_system.specs.Lives.{objects_of, most_objects, most_units}
use Rattle.control_heap.specs.Calls.{HasAsked, HasReturned, stored}
use Rattle.control_heap.specs.Controls.{Control, HasLeft}
use Rattle.control_heap.specs.declared.faults.Fault.{Fault}
use Rattle.control_heap.specs.declared.faults.Fault.TheVariants as faults
use Rattle.control_heap.specs.graph_view.RunsOfCommands.{HasDone}
use Rattle.saved_heap.specs.heap_pictures.Following.{HasOneThread}
use Rattle.heap_structures.specs.declared.cells.Cells.{Cells}
use Rattle.heap_structures.specs.Cells.{IsCells, held}
use Rattle.heap_structures.specs.Heaps.{Does, Has, HasRoom, IsQuiet, Ready, Sight, Took}
use Rattle.heap_structures.proofs.cell_arrays.CellMoves.{Stored, Put, get_step, get_stores, nil_stores, put_puts, put_step, set_stores}
use Rattle.heap_structures.proofs.cell_arrays.NoAllocation.{lone_of}

-- such a command is done where there is room for one
pub left_for : (h : Control) (k : Command) (n : ℕ) → IsQuiet k → 1 ≤ n → HasRoom n h → HasLeft h k
left_for h k n quiet some room = (
  omega (arith, room.commands, some),
  subst (λ m. h.objects + m ≤ most_objects) (sym none) (omega (arith, room.objects)),
  λ rate planned.
      let owed = owes_told h.config.width rate k (others_have_none h.config.width k quiet.0) in
      let low = room.units rate planned in
      omega (arith, owed, quiet.1, low),
)
  where
    none : objects_of k ≡ 0
    none = rw quiet.0 refl

pub room_less : (n m : ℕ) (h : Control) → m ≤ n → HasRoom n h → HasRoom m h
room_less n m h less room = record {
  commands = omega (arith, room.commands, less);
  objects = room.objects;
  units = room.units;
}

-- what is left after some commands
pub room_after : (n m : ℕ) (h z : Control) → Took n h z → HasRoom (n + m) h → HasRoom m z
room_after n m h z took room = record {
  commands = omega (arith, room.commands, took.commands);
  objects = subst (λ k. k ≤ most_objects) (sym took.objects) room.objects;
  units = λ rate planned.
      subst (λ k. k ≤ most_units) (sym took.units)
      (room.units rate (subst (λ c. Rattle.rate_plan.specs.Rates.IsRate c rate) took.config planned));
}

pub took_both : (n m : ℕ) (h y z : Control) → Took n h y → Took m y z → Took (n + m) h z
took_both n m h y z a b = record {
  config = b.config ∙ a.config;
  commands = omega (arith, a.commands, b.commands);
  objects = b.objects ∙ a.objects;
  units = b.units ∙ a.units;
}

-- a reply that is a fault
abbrev is_fault : Reply → Bool
is_fault replies.Null = true
is_fault replies.Kind = true
is_fault replies.Range = true
is_fault _ = false

abbrev pub value_in : Reply → Value
value_in (replies.Val v) = v
value_in _ = Nil

-- the law of such commands
abbrev pub QuietLaw : Type 0
QuietLaw = (s : Sight) (h z : Control) (g : Graph) (k : Command)
    → IsQuiet k → Has s h g → (d : HasDone h k z)
    → (d.reply ≡ (step g 0 k).1) × Has s z (step g 0 k).0 × Took 1 h z

module _ (law : QuietLaw) {T : Type 0} (says : T → Reply)
    (s : Sight) (h z : Control) (g : Graph) (k : Command) (quiet : IsQuiet k) (has : Has s h g)
    (room : HasRoom 1 h) (bounds : IsCommandInBounds h.config k) (same : z.config ≡ h.config)
    (said : Reply) (is : (step g 0 k).1 ≡ said) (right : is_fault said ≡ false) where
  abbrev done_of : {acts : Acts (List ℕ) (Unit {0})} (a : Reply) → HasAsked acts h k a z
      → HasDone h k z
  done_of a x = record {
    config = same;
    can = (x.bounds, x.left);
    count = x.one_more;
    objects = x.objects;
    reply = a;
    answered = x.answered;
  }

  no_fault : {acts : Acts (List ℕ) (Unit {0})} (a : Reply) → is_fault a ≡ true
      → HasAsked acts h k a z → ⊥
  no_fault a wrong x =
      both_ways (is_fault said) right
      (ap is_fault (sym ((law s h z g k quiet has (done_of a x)).0 ∙ is)) ∙ wrong)

  pub told_ok : (acts : Acts (List ℕ) (Unit {0})) (x : Result T Fault) → HasReturned says acts h k z x
      → IsOkAnd x (λ v. (says v ≡ said) × Has s z (step g 0 k).0 × Took 1 h z)
  told_ok acts (Ok v) told =
      let by = law s h z g k quiet has (done_of (says v) told) in (by.0 ∙ is, by.1, by.2)
  told_ok acts (Err (faults.Full c)) told = both_ways _ quiet.0 told.0
  told_ok acts (Err faults.Null) told = no_fault replies.Null refl told.1
  told_ok acts (Err faults.Kind) told = no_fault replies.Kind refl told.1
  told_ok acts (Err faults.Range) told = no_fault replies.Range refl told.1
  told_ok acts (Err faults.OutOfBounds) told = told.0 bounds
  told_ok acts (Err faults.NoLifeLeft) told = told.0.1 (left_for h k 1 quiet (omega arith) room)

-- ---- the four commands

pub ok_map : {T E : Type 0} (P Q : T → Type 0) (x : Result T E) → ((v : T) → P v → Q v)
    → IsOkAnd x P → IsOkAnd x Q
ok_map P Q (Ok v) f p = f v p
ok_map P Q (Err e) f p = p

module _ (law : QuietLaw) (s : Sight) (h z : Control) (c : Cells) (g : Graph) (vs : List Value)
    (ready : Ready s 1 h c g vs) (same : z.config ≡ h.config) where
  abbrev lone : HasOneThread g
  lone = lone_of s h g ready.has

  abbrev loaded : ℕ → Value
  loaded i = slice_index_or vs i Nil

  bounds_of : (k : Command) → Rattle.never_heap.specs.Bounds.IsCommandInRange k → IsQuiet k
      → Rattle.never_heap.specs.Signatures.IsOfVersion
      (Rattle.never_heap.specs.Signatures.signature k).version h.config.width
      → IsCommandInBounds h.config k
  bounds_of k range quiet version = record {
    range = range;
    blocks = let none = others_have_none h.config.width k quiet.0 in omega (arith, none);
    units = omega (arith, quiet.1);
    version = version;
  }

  low_of : (i : ℕ) → i < length vs → i < 2 ^ 62
  low_of i low = omega (arith, low, ready.cells.size, ready.cells.placed.size)

  -- a register stored
  abbrev pub Holds : ℕ → Value → Type 0
  Holds d v = Does s 1 h z (d ∷ []) c.array g (λ y. IsCells y c vs × (held y d ≡ v))

  holds_by : (k : Command) (d : ℕ) (v : Value) → Stored g c vs lone ready.cells (step g 0 k).0 d v
      → Has s z (step g 0 k).0 → Took 1 h z → Holds d v
  holds_by k d v st has took = record {
    graph = (step g 0 k).0;
    has = has;
    took = took;
    spares = st.spares;
    holds = (st.cells, st.value);
  }

  pub got : (acts : Acts (List ℕ) (Unit {0})) (i d : ℕ) (x : Result Value Fault)
      → i < length vs → d < 16 → d ≢ c.base
      → HasReturned replies.Val acts h (commands.Get d c.base i) z x
      → IsOkAnd x (λ v. (v ≡ loaded i) × Holds d (loaded i))
  got acts i d x low few apart told =
      let k : Command = commands.Get d c.base i in
      ok_map _ _ x
      (λ v p. (
        ap value_in p.0,
        holds_by k d (loaded i) (get_stores g c vs lone ready.cells d i low few apart) p.1 p.2,
      ))
      (told_ok law replies.Val s h z g k (refl, refl) ready.has ready.room
      (bounds_of k (few, ready.cells.placed.base, low_of i low) (refl, refl) tt) same
      (replies.Val (loaded i)) (ap (λ p. p.1) (get_step g c vs lone ready.cells d i low)) refl acts
      x told)

  pub set_to : (acts : Acts (List ℕ) (Unit {0})) (d n : ℕ) (x : Result (Unit {0}) Fault)
      → d < 16 → d ≢ c.base → n < 2 ^ 62
      → HasReturned stored acts h (commands.Set d n) z x → IsOkAnd x (λ v. Holds d (Int n))
  set_to acts d n x few apart low told =
      let k : Command = commands.Set d n in
      ok_map _ _ x
      (λ v p. holds_by k d (Int n) (set_stores g c vs lone ready.cells d n few apart) p.1 p.2)
      (told_ok law stored s h z g k (refl, refl) ready.has ready.room
      (bounds_of k (few, low) (refl, refl) tt) same replies.Stored refl refl acts x told)

  pub blanked : (acts : Acts (List ℕ) (Unit {0})) (d : ℕ) (x : Result (Unit {0}) Fault) → d < 16 → d ≢ c.base
      → HasReturned stored acts h (commands.Nil d) z x → IsOkAnd x (λ v. Holds d Nil)
  blanked acts d x few apart told =
      let k : Command = commands.Nil d in
      ok_map _ _ x
      (λ v p. holds_by k d Nil (nil_stores g c vs lone ready.cells d few apart) p.1 p.2)
      (told_ok law stored s h z g k (refl, refl) ready.has ready.room
      (bounds_of k few (refl, refl) tt) same replies.Stored refl refl acts x told)

  pub put_at : (acts : Acts (List ℕ) (Unit {0})) (i v : ℕ) (x : Result (Unit {0}) Fault) → i < length vs → v < 16
      → HasReturned stored acts h (commands.Put c.base i v) z x
      → IsOkAnd x (λ u. Does s 1 h z [] c.array g (λ y. IsCells y c (slice_set vs i (held g v))))
  put_at acts i v x low few told =
      let k : Command = commands.Put c.base i v in
      let p : Put g c vs lone ready.cells (step g 0 k).0 i (held g v) =
      put_puts g c vs lone ready.cells i v low in
      ok_map _ _ x
      (λ u by. record {
        graph = (step g 0 k).0;
        has = by.1;
        took = by.2;
        spares = p.spares;
        holds = p.cells;
      })
      (told_ok law stored s h z g k (refl, refl) ready.has ready.room
      (bounds_of k (ready.cells.placed.base, low_of i low, few) (refl, refl) tt) same
      replies.Stored (ap (λ q. q.1) (put_step g c vs lone ready.cells i v low)) refl acts x told)
