-- An application's table: as data, what is known before each row of the registers of its thread and
-- of the objects that the thread is making. What such a table means, and that this stays true as
-- long as finished objects, and those that the thread is making, are not written.
use Rattle.std.proofs.Common.{◌≡◌, ◌≢◌, ℕ, ◌+◌, ◌<◌, ◌≤◌, ◌==◌, cond, Bool, eq-eqb, ne_eqb, Option, Some, None, List, [], ◌∷◌, ◌++◌, length, map, get_or, sym, refl, ap, ◌∙◌, subst, arith}
use Rattle.block_store.specs.declared.Name.{Name}
use Rattle.block_store.specs.declared.Value.{Value}
use Rattle.block_store.specs.declared.Value.TheVariants.{Nil, Int, Ref}
use Rattle.never_heap.specs.declared.Command.{Command}
use Rattle.never_heap.specs.declared.Reply.{Reply}
use Rattle.never_heap.specs.Graphs.{Object, Record}
use Rattle.array_tables.specs.operations.Applications.{Progress}
use Rattle.array_tables.proofs.operations.LiveBound.{IsPlain}

-- finished objects stay, and there may be more of them
pub record Frame (obj new : Name → Object) (out more : ℕ → ℕ) : Type 0 where
  pub grows : (t : ℕ) → out t ≤ more t
  pub kept : (a : Name) → 1 ≤ a.serial → a.serial ≤ out a.thread → new a ≡ obj a

pub same_frame : (obj : Name → Object) (out : ℕ → ℕ) → Frame obj obj out out
same_frame obj out = record { grows = λ t. omega arith; kept = λ x some low. refl }

-- an object that thread t is making
abbrev pub IsMade : (ℕ → ℕ) → ℕ → Name → Type 0
IsMade out t a = (a.thread ≡ t) × (out t < a.serial)

-- a value that is known: nil, a number, or the k-th of the objects that the thread is making
pub data Sym : Type 0 where
  Empty : Sym
  Number : (n : ℕ) → Sym
  Own : (k : ℕ) → Sym

-- what is known of a value for good: it is no reference, it shows this cell, it shows some cell, or
-- what the application says of it
pub data Lasting (Cell K : Type 0) : Type 0 where
  Plain : Lasting Cell K
  Shown : (c : Cell) → Lasting Cell K
  Any : Lasting Cell K
  Meant : (x : K) → Lasting Cell K

-- what is known of a register until the next row
pub data Hold (Cell K : Type 0) : Type 0 where
  Is : (s : Sym) → Hold Cell K
  Has : (y : Lasting Cell K) → Hold Cell K

-- the objects that thread t makes after the first o, and the values and the records of symbols
abbrev pub name_at : ℕ → ℕ → Name
name_at t serial = record { thread = t; serial = serial }

abbrev pub own_name : ℕ → ℕ → ℕ → Name
own_name t o k = name_at t (o + k + 1)

abbrev pub value_of : ℕ → ℕ → Sym → Value
value_of t o Empty = Nil
value_of t o (Number n) = Int n
value_of t o (Own k) = Ref (own_name t o k)

abbrev pub record_with : List Value → Object
record_with fields = record { kind = Record; fields = fields }

abbrev pub record_of : ℕ → ℕ → List Sym → Object
record_of t o fields = record_with (map (value_of t o) fields)

-- what is known of register q: the first entry for it in the list, or else what is known at rest
abbrev pub held : {Cell K : Type 0} → (ℕ → Lasting Cell K) → List (ℕ × Hold Cell K) → ℕ
    → Hold Cell K
held rest [] q = Has (rest q)
held rest (p ∷ ps) q = cond (p.0 == q) p.1 (held rest ps q)

pub held_here : {Cell K : Type 0} (rest : ℕ → Lasting Cell K) (ps : List (ℕ × Hold Cell K)) (d : ℕ)
    (h : Hold Cell K) → held rest ((d, h) ∷ ps) d ≡ h
held_here rest ps d h = ap (λ (z : Bool). cond z h (held rest ps d)) (eq-eqb d d refl)

pub held_past : {Cell K : Type 0} (rest : ℕ → Lasting Cell K) (ps : List (ℕ × Hold Cell K))
    (d q : ℕ) (h : Hold Cell K) → d ≢ q → held rest ((d, h) ∷ ps) q ≡ held rest ps q
held_past rest ps d q h ne = ap (λ (z : Bool). cond z h (held rest ps q)) (ne_eqb d q ne)

-- What is known before a row: the registers that are not at rest, the objects in the making, the
-- answer that is decided and not yet given, and the last replies.
pub record Spot (Answer Cell K : Type 0) : Type 0 where
  pub puts : List (ℕ × Hold Cell K)
  pub made : List (List Sym)
  pub pend : List Answer
  pub heard : List Reply

-- before an operation, while it makes objects, and once it is decided
abbrev pub nowhere : {Answer Cell K : Type 0} → Spot Answer Cell K
nowhere = record { puts = []; made = []; pend = []; heard = [] }

abbrev pub making : {Answer Cell K : Type 0} → List (ℕ × Hold Cell K) → List (List Sym)
    → Spot Answer Cell K
making puts made = record { puts = puts; made = made; pend = []; heard = [] }

abbrev pub telling : {Answer Cell K : Type 0} → List (ℕ × Hold Cell K) → Answer → List Reply
    → Spot Answer Cell K
telling puts answer heard = record { puts = puts; made = []; pend = answer ∷ []; heard = heard }

-- An application's table. K is what it knows of values besides cells, L what it keeps of a thread.
pub record Table (Op Row Answer Cell K L : Type 0) : Type 1 where
  pub size : ℕ
  pub command_at : Row → Command
  pub decides : Row → Option Op
  pub ends : Row → Option (List Reply → Answer)
  pub say : Op → List Cell → Answer
  pub act : Op → List Cell → List Cell
  -- the cell of an empty place, and what a value shows and means
  pub none : Cell
  pub Shows : (Name → Object) → (ℕ → ℕ) → Value → Cell → Type 0
  pub Means : (Name → Object) → (ℕ → ℕ) → Value → K → Type 0
  -- what is known before a row, where the thread fetched this cell; and the row after one, if that
  -- does not end its operation
  pub before : Row → Cell → Spot Answer Cell K
  pub follow : Row → Option Row
  -- of a thread: its registers at rest, what fits a row, and how many objects it finished
  pub rest : ℕ → L → ℕ → Lasting Cell K
  pub Fits : ℕ → L → Row → Type 0
  pub next : L → Row → L
  pub finished : L → ℕ
  -- how many objects are in the making depends on the row alone
  pub same_made : (row : Row) (c e : Cell) → length (before row c).made ≡ length (before row e).made
  -- what is known for good stays
  pub shows_move : (obj new : Name → Object) (out more : ℕ → ℕ) → Frame obj new out more
      → (v : Value) (c : Cell) → Shows obj out v c → Shows new more v c
  pub means_move : (obj new : Name → Object) (out more : ℕ → ℕ) → Frame obj new out more
      → (v : Value) (x : K) → Means obj out v x → Means new more v x

module _ {Op Row Answer Cell K L : Type 0} (a : Table Op Row Answer Cell K L) where
  -- what is known before the first of these rows, and after a row
  abbrev pub spot_of : List Row → Cell → Spot Answer Cell K
  spot_of [] c = nowhere
  spot_of (row ∷ rows) c = a.before row c

  abbrev pub spot_by : Option Row → Cell → Spot Answer Cell K
  spot_by None c = nowhere
  spot_by (Some row) c = a.before row c

  abbrev pub behind : Row → Cell → Spot Answer Cell K
  behind row c = spot_by (a.follow row) c

  -- how many objects a thread has made besides those that it finished
  abbrev pub owed : List Row → ℕ
  owed rows = length (spot_of rows a.none).made

  pub owed_is : (rows : List Row) (c : Cell) → owed rows ≡ length (spot_of rows c).made
  owed_is [] c = refl
  owed_is (row ∷ rows) c = a.same_made row a.none c

  -- the rows that thread t has left fit, and follow each other as the table says
  abbrev pub IsProper : ℕ → L → List Row → Type 0
  IsProper t l [] = Unit {0}
  IsProper t l (row ∷ rows) =
      (a.Fits t l row × ((c : Cell) → spot_of rows c ≡ behind row c))
      × IsProper t (a.next l row) rows

  abbrev pub Lasts : (Name → Object) → (ℕ → ℕ) → Lasting Cell K → Value → Type 0
  Lasts obj out Plain v = IsPlain v
  Lasts obj out (Shown c) v = a.Shows obj out v c
  Lasts obj out Any v = (c : Cell) × a.Shows obj out v c
  Lasts obj out (Meant x) v = a.Means obj out v x

  abbrev pub Meets : (Name → Object) → (ℕ → ℕ) → ℕ → Hold Cell K → Value → Type 0
  Meets obj out t (Is s) v = v ≡ value_of t (out t) s
  Meets obj out t (Has y) v = Lasts obj out y v

  -- the registers and the objects in the making are as the table says
  pub record InSpot (obj : Name → Object) (out : ℕ → ℕ) (t : ℕ) (l : L) (s : Spot Answer Cell K)
      (r : ℕ → Value) : Type 0 where
    pub regs : (q : ℕ) → 1 ≤ q → Meets obj out t (held (a.rest t l) s.puts q) (r q)
    pub own : (k : ℕ) → k < length s.made
        → obj (own_name t (out t) k) ≡ record_of t (out t) (get_or s.made k [])

  -- how far a thread is, and what is known there
  pub record Place (obj : Name → Object) (out : ℕ → ℕ) (t : ℕ) (m : Progress Row Answer)
      (r : ℕ → Value) : Type 0 where
    pub state : L
    pub cell : Cell
    pub replies : List Reply
    pub proper : IsProper t state m.todo
    pub counts : out t ≡ a.finished state
    pub spot : InSpot obj out t state (spot_of m.todo cell) r
    pub pending : m.pending ≡ (spot_of m.todo cell).pend
    pub seen : m.seen ≡ replies ++ (spot_of m.todo cell).heard

  -- ---- all this stays true

  module _ {obj new : Name → Object} {out more : ℕ → ℕ} (frame : Frame obj new out more) where
    pub lasts_move : (y : Lasting Cell K) (v : Value) → Lasts obj out y v → Lasts new more y v
    lasts_move Plain v s = s
    lasts_move (Shown c) v s = a.shows_move obj new out more frame v c s
    lasts_move Any v s = (s.0, a.shows_move obj new out more frame v s.0 s.1)
    lasts_move (Meant x) v s = a.means_move obj new out more frame v x s

    module _ (t : ℕ) (still : more t ≡ out t) where
      pub meets_move : (h : Hold Cell K) (v : Value) → Meets obj out t h v → Meets new more t h v
      meets_move (Is s) v e = e ∙ ap (λ (o : ℕ). value_of t o s) (sym still)
      meets_move (Has y) v s = lasts_move y v s

      pub spot_move : ((b : Name) → IsMade out t b → new b ≡ obj b)
          → (l : L) (s : Spot Answer Cell K) (r : ℕ → Value)
          → InSpot obj out t l s r → InSpot new more t l s r
      spot_move own l s r i = record {
        regs = λ q one. meets_move (held (a.rest t l) s.puts q) (r q) (i.regs q one);
        own = λ k low. subst (λ (o : ℕ). new (own_name t o k) ≡ record_of t o (get_or s.made k []))
            (sym still) (own (own_name t (out t) k) (refl, omega arith) ∙ i.own k low);
      }

      pub place_move : ((b : Name) → IsMade out t b → new b ≡ obj b)
          → (m : Progress Row Answer) (r : ℕ → Value) → Place obj out t m r → Place new more t m r
      place_move own m r p = record {
        state = p.state;
        cell = p.cell;
        replies = p.replies;
        proper = p.proper;
        counts = still ∙ p.counts;
        spot = spot_move own p.state (spot_of m.todo p.cell) r p.spot;
        pending = p.pending;
        seen = p.seen;
      }
