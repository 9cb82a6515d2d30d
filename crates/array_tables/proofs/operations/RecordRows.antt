-- Applications whose cells are shown by records of numbers, which register 1 holds: their table,
-- what is left to show of each kind of row, and how many blocks registers carry.
use Rattle.std.proofs.Common.{◌≡◌, ℕ, ◌<◌, ◌==◌, ◌&&◌, not, cond, Bool, true, false, Option, Some, None, List, [], ◌∷◌, ◌++◌, length, map, get_or, sym, refl, ap, ◌∙◌, subst, arith}
use Rattle.std.proofs.lemmas.Bool.{and_parts, eqb-true}
use Rattle.block_store.specs.declared.Name.{Name}
use Rattle.block_store.specs.declared.Value.{Value}
use Rattle.block_store.specs.declared.Value.TheVariants.{Nil}
use Rattle.never_heap.specs.declared.Command.{Command}
use Rattle.never_heap.specs.declared.Command.TheVariants as commands
use Rattle.never_heap.specs.declared.Reply.{Reply}
use Rattle.never_heap.specs.Graphs.{Object, register_of, object_of}
use Rattle.array_tables.proofs.operations.LiveBound.{IsPlain}
use Rattle.array_tables.proofs.operations.Records.{IsShown, IsSlim, HasField, shown_move, shown_own, shown_nil, carries_shown, reply_by, value_by, slim_value, tell_field}
use Rattle.array_tables.proofs.operations.RowRules.{Finish, Still, Told, IsRegister, in_range, AllSettle, left, now, value_is, tells_on, tells_last}
use Rattle.array_tables.proofs.operations.Turns.{Before, Goes, place}
use Rattle.array_tables.proofs.operations.Tables.{Frame, same_frame, Sym, Empty, Number, Own, Lasting, Plain, Shown, Any, Meant, Hold, Is, Has, Spot, Table, value_of, record_of, held, behind, Lasts, Meets}
use Rattle.array_tables.proofs.operations.Weights.{Weights, light_lasting, all_light}

-- At rest register 1 shows some cell, and no other register holds a reference.
abbrev pub at_rest : {Cell : Type 0} → ℕ → Lasting Cell (Unit {0})
at_rest q = cond (q == 1) Any Plain

abbrev pub limit : ℕ → ℕ
limit q = cond (q == 1) 1 0

pub record RecordRows (Op Row Answer Cell : Type 0) : Type 1 where
  pub size : ℕ
  pub command_at : Row → Command
  pub decides : Row → Option Op
  pub ends : Row → Option (List Reply → Answer)
  pub say : Op → List Cell → Answer
  pub act : Op → List Cell → List Cell
  -- the cell of an empty place, and the fields of the record that shows a cell
  pub none : Cell
  pub shape : Cell → Option (List Value)
  pub slim : (c : Cell) → IsSlim (shape c)
  pub no_shape : shape none ≡ None
  pub before : Row → Cell → Spot Answer Cell (Unit {0})
  pub follow : Row → Option Row
  pub Fits : Row → Type 0
  -- how many records a thread has finished after a row
  pub next : ℕ → Row → ℕ
  pub same_made : (row : Row) (c e : Cell) → length (before row c).made ≡ length (before row e).made
  pub light : (row : Row) (c : Cell)
      → all_light 1 (λ (x : Unit {0}). 0) limit (before row c).made (before row c).puts ≡ true

module _ {Op Row Answer Cell : Type 0} (r : RecordRows Op Row Answer Cell) where
  -- the state of a thread is the number of records that it has finished
  abbrev pub recorded : Table Op Row Answer Cell (Unit {0}) ℕ
  recorded = record {
    size = r.size;
    command_at = r.command_at;
    decides = r.decides;
    ends = r.ends;
    say = r.say;
    act = r.act;
    none = r.none;
    Shows = λ obj out v c. IsShown obj out v (r.shape c);
    Means = λ obj out v x. ⊥;
    before = r.before;
    follow = r.follow;
    rest = λ t l q. at_rest q;
    Fits = λ t l row. r.Fits row;
    next = r.next;
    finished = λ l. l;
    same_made = r.same_made;
    shows_move = λ obj new out more frame v c s. shown_move frame v (r.shape c) s;
    means_move = λ obj new out more frame v x s. absurd s;
  }

  pub rests_light : (q : ℕ)
      → light_lasting {Cell = Cell} 1 (λ (x : Unit {0}). 0) (limit q) (at_rest q) ≡ true
  rests_light q = grind arith

  abbrev pub weights : Weights recorded
  weights = record {
    most = 1;
    weigh = λ x. 0;
    limit = limit;
    shown = λ g out v c x s e. carries_shown g out v (r.shape c) x s (r.slim c) e;
    meant = λ g out v y x s e. absurd s;
    rests = λ t l q. rests_light q;
    rows = λ t l row c fits. r.light row c;
  }

  pub nil_shown : (obj : Name → Object) (out : ℕ → ℕ) → IsShown obj out Nil (r.shape r.none)
  nil_shown obj out = subst (IsShown obj out Nil) (sym r.no_shape) tt

  pub nil_rests : (obj : Name → Object) (out : ℕ → ℕ) (t q : ℕ)
      → Lasts recorded obj out (at_rest q) Nil
  nil_rests obj out t q = chosen (q == 1)
    where
      chosen : (z : Bool) → Lasts recorded obj out (cond z Any Plain) Nil
      chosen true = (r.none, nil_shown obj out)
      chosen false = tt

  -- a register that is at rest; register 1 may have the first object in the making
  abbrev pub settled : Bool → Bool → Hold Cell (Unit {0}) → Bool
  settled z one (Is Empty) = true
  settled z one (Is (Number n)) = not one
  settled z one (Is (Own k)) = (z && one) && (k == 0)
  settled z one (Has Plain) = not one
  settled z one (Has (Meant x)) = false
  settled z one (Has _) = one

  abbrev pub settles : Bool → List (ℕ × Hold Cell (Unit {0})) → Bool
  settles z [] = true
  settles z (p ∷ ps) = settled z (p.0 == 1) p.1 && settles z ps

  module _ {obj : Name → Object} {out more : ℕ → ℕ} (frame : Frame obj obj out more) (t l m : ℕ)
      (z : Bool)
      (own : z ≡ true → (x : Value) → x ≡ value_of t (out t) (Own 0)
      → (c : Cell) × IsShown obj more x (r.shape c)) where
    one_settles : (h : Hold Cell (Unit {0})) (y : Bool) → settled z y h ≡ true → (x : Value)
        → Meets recorded obj out t h x → Lasts recorded obj more (cond y Any Plain) x
    one_settles (Is Empty) true e x s =
        (r.none, subst (λ v. IsShown obj more v (r.shape r.none)) (sym s) (nil_shown obj more))
    one_settles (Is Empty) false e x s = subst IsPlain (sym s) tt
    one_settles (Is (Number n)) false e x s = subst IsPlain (sym s) tt
    one_settles (Is (Own k)) y e x s =
        let parts = and_parts (z && y) (k == 0) e in
        let both = and_parts z y parts.0 in
        let zero : k ≡ 0 = eqb-true k 0 parts.1 in
        subst (λ (w : Bool). Lasts recorded obj more (cond w Any Plain) x) (sym both.1)
        (own both.0 x (s ∙ ap (λ (j : ℕ). value_of t (out t) (Own j)) zero))
    one_settles (Has Plain) false e x s = s
    one_settles (Has (Shown c)) true e x s = (c, shown_move frame x (r.shape c) s)
    one_settles (Has Any) true e x s = (s.0, shown_move frame x (r.shape s.0) s.1)
    one_settles _ _ e x s = absurd cc

    pub all_settle : (puts : List (ℕ × Hold Cell (Unit {0}))) → settles z puts ≡ true
        → AllSettle recorded frame t l m puts
    all_settle [] e = tt
    all_settle (p ∷ ps) e =
        let parts = and_parts (settled z (p.0 == 1) p.1) (settles z ps) e in
        (λ x s. one_settles p.1 (p.0 == 1) parts.0 x s, all_settle ps parts.1)

  module _ {row : Row} (b : Before recorded row) where
    -- the object in the making is in register 1, and shows a cell
    pub finish_own : (cell : Cell) (fs : List Sym) → ((c : Cell) → (r.before row c).made ≡ fs ∷ [])
        → ((c : Cell) → settles true (r.before row c).puts ≡ true)
        → ((rest : ℕ → Lasting Cell (Unit {0})) (c : Cell)
        → held rest (r.before row c).puts 1 ≡ Is (Own 0))
        → ((t o : ℕ) → r.shape cell ≡ Some (map (value_of t o) fs))
        → Finish b 1 cell
    finish_own cell fs made again refers shape obj frame s =
        let p = place b in
        let low : 0 < left b = omega (arith, ap length (made p.cell)) in
        let own : (x : Value) → x ≡ value_of b.t (b.out b.t) (Own 0)
        → IsShown obj (now b) x (r.shape cell) = λ x e.
        subst (IsShown obj (now b) x) (sym (shape b.t (b.out b.t)))
        (shown_own obj b.out b.t (left b) 0 fs x low (s.own 0 low
        ∙ ap (λ m. record_of b.t (b.out b.t) (get_or m 0 [])) (made p.cell)) e) in (
          own (register_of b.g b.t 1) (value_is b 1 (Own 0) (omega arith) refers),
          all_settle frame b.t p.state (r.next p.state row) true (λ z x e. (cell, own x e)) _
              (again p.cell),
          λ q no. refl,
        )

    -- nil is in register 1
    pub finish_nil : (cell : Cell) → ((c : Cell) → settles false (r.before row c).puts ≡ true)
        → ((rest : ℕ → Lasting Cell (Unit {0})) (c : Cell)
        → held rest (r.before row c).puts 1 ≡ Is Empty)
        → r.shape cell ≡ None → Finish b 1 cell
    finish_nil cell again empty shape obj frame s =
        let p = place b in (
          subst (IsShown obj (now b) (register_of b.g b.t 1)) (sym shape)
              (shown_nil obj (now b) _ (value_is b 1 Empty (omega arith) empty)),
          all_settle frame b.t p.state (r.next p.state row) false (λ z. absurd cc) _ (again p.cell),
          λ q no. refl,
        )

    -- a get of field i of the record that register 1 shows
    module _ (d i : ℕ) (range : IsRegister d) (command : r.command_at row ≡ commands.Get d 1 i)
        (has : (c : Cell) → HasField (r.shape c) i)
        (shows : (rest : ℕ → Lasting Cell (Unit {0})) (c : Cell)
        → held rest (r.before row c).puts 1 ≡ Has (Shown c))
        (plain : (c : Cell) → held at_rest (r.before row c).puts d ≡ Has Plain) where
      abbrev pub value : Value
      value = value_by (r.shape (place b).cell) i (register_of b.g b.t d)

      pub field_told : Told b d value (reply_by (r.shape (place b).cell) i)
      field_told = tell_field b d 1 i range command r.shape (λ v c s. s) has (omega arith) shows

      told_plain : IsPlain value
      told_plain =
          let p = place b in
          slim_value (r.shape p.cell) i (register_of b.g b.t d) (r.slim p.cell)
          (subst (λ (h : Hold Cell (Unit {0})). Meets recorded (object_of b.g) b.out b.t h
          (register_of b.g b.t d)) (plain p.cell) (p.spot.regs d (in_range d range).0))

      -- the next row has its reply
      pub field_on : Still b → ((c : Cell) → behind recorded row c
          ≡ record (r.before row c) {
            heard = (r.before row c).heard ++ reply_by (r.shape c) i ∷ [];
          })
          → Goes b
      field_on still is =
          let p = place b in
          tells_on b d value _ field_told (in_range d range).0 still (r.before row p.cell).puts
          (is p.cell) (subst (λ h. Meets recorded (object_of b.g) b.out b.t h value)
          (sym (plain p.cell)) told_plain) (λ q ne x s. s)

      -- or the get is the last row of its operation
      pub field_last : r.decides row ≡ None → (f : List Reply → Answer) → r.ends row ≡ Some f
          → r.follow row ≡ None → ((l : ℕ) → r.next l row ≡ l)
          → ((c : Cell) → length (r.before row c).made ≡ 0) → (d == 1) ≡ false
          → ((c : Cell) → settles false (r.before row c).puts ≡ true) → Goes b
      field_last none f ends last next no_more other again =
          let p = place b in
          tells_last b d value _ field_told (in_range d range).0 none f ends last next
          (no_more p.cell)
          (subst (λ z. Lasts recorded (object_of b.g) b.out (cond z Any Plain) value) (sym other)
          told_plain) (all_settle (same_frame (object_of b.g) b.out) b.t p.state p.state false
          (λ z. absurd cc) _ (again p.cell))
