-- One turn of a thread by a table. What holds before its row holds again after it, if the row
-- changed one register of the thread and one object, which is the array or one in the making. An
-- object that a thread has finished is never written again.
use Rattle.std.proofs.Common.{◌≡◌, ◌≢◌, ℕ, ◌+◌, ◌<◌, ◌≤◌, ◌==◌, ◌⊎◌, inl, inr, cond, eqb, Bool, List, [], ◌∷◌, ◌++◌, length, slice_index_or, eq-eqb, ne_eqb, sym, refl, ap, ◌∙◌, subst, arith}
use Rattle.std.specs.Prelude.{slice_set}
use Rattle.std.proofs.lemmas.Bool.{cases_eq, cases_lt}
use Rattle.std.proofs.lemmas.List.{length-set}
use Rattle.std.proofs.Math.Path.{subst₂}
use Rattle.block_store.specs.declared.Name.{Name}
use Rattle.block_store.specs.declared.Value.{Value}
use Rattle.block_store.specs.declared.Value.TheVariants.{Nil, Ref}
use Rattle.never_heap.specs.declared.Reply.{Reply}
use Rattle.never_heap.specs.Graphs.{Graph, Object, Array, shared_name, mutator_at, count_of, register_of, object_of, field_of, set_field}
use Rattle.never_heap.specs.Steps.{step}
use Rattle.never_heap.proofs.Lemmas.{Effect, get_or_set}
use Rattle.array_tables.specs.operations.Applications.{Progress, moved, acted, said, kept_next}
use Rattle.array_tables.specs.operations.Linearizations.{seen_next}
use Rattle.array_tables.proofs.operations.Tables.{Frame, IsMade, Spot, Table, spot_of, behind, owed, owed_is, InSpot, Place, place_move}

-- thread t has finished j more objects, and the others as many as before
pub record Finishes (out now : ℕ → ℕ) (t j : ℕ) : Type 0 where
  pub own : now t ≡ out t + j
  pub others : (u : ℕ) → t ≢ u → now u ≡ out u

pub finishes_none : (out : ℕ → ℕ) (t : ℕ) → Finishes out out t 0
finishes_none out t = record { own = omega arith; others = λ u ne. refl }

abbrev pub out_after : (ℕ → ℕ) → ℕ → ℕ → ℕ → ℕ
out_after out t j u = cond (t == u) (out u + j) (out u)

pub out_same : (out : ℕ → ℕ) (t j : ℕ) → out_after out t j t ≡ out t + j
out_same out t j = rw (eq-eqb t t refl)

pub finishes_more : (out : ℕ → ℕ) (t j : ℕ) → Finishes out (out_after out t j) t j
finishes_more out t j = record { own = out_same out t j; others = λ u ne. rw (ne_eqb t u ne) }

pub grown : (out now : ℕ → ℕ) (t j : ℕ) → Finishes out now t j → (u : ℕ) → out u ≤ now u
grown out now t j f u = grind arith

module _ {Op Row Answer Cell K L : Type 0} (a : Table Op Row Answer Cell K L) where
  -- thread t: its registers, how many objects it made, and how far it is
  pub record Thread (n : ℕ) (g : Graph) (out : ℕ → ℕ) (m : Progress Row Answer) (t : ℕ)
      : Type 0 where
    pub zero : register_of g t 0 ≡ Ref (shared_name n)
    pub counted : count_of g t ≡ out t + owed a m.todo
    pub place : Place a (object_of g) out t m (register_of g t)
    pub sixteen : length (mutator_at g t).registers ≡ 16

  -- the shared array shows the state
  pub record Shared (n : ℕ) (g : Graph) (out : ℕ → ℕ) (cells : List Cell) : Type 0 where
    pub kind : (object_of g (shared_name n)).kind ≡ Array
    pub long : length (object_of g (shared_name n)).fields ≡ a.size
    pub places : length cells ≡ a.size
    pub slots : (i : ℕ) → i < a.size
        → a.Shows (object_of g) out (field_of (object_of g (shared_name n)) i)
        (slice_index_or cells i a.none)

  pub record HoldsBy (n : ℕ) (g : Graph) (at : ℕ → Progress Row Answer) (cells : List Cell)
      (out : ℕ → ℕ) : Type 0 where
    pub threads : length g.mutators ≡ n
    pub shared : Shared n g out cells
    pub each : (t : ℕ) → t < n → Thread n g out (at t) t
    pub beyond : (t : ℕ) → n ≤ t → ((at t).todo ≡ []) × ((at t).pending ≡ [])

  -- the invariant
  abbrev pub Kept : ℕ → Graph → (ℕ → Progress Row Answer) → List Cell → Type 0
  Kept n g at cells = (out : ℕ → ℕ) × HoldsBy n g at cells out

  -- all that is known before a row of some thread
  pub record Before (row : Row) : Type 0 where
    pub n : ℕ
    pub g : Graph
    pub at : ℕ → Progress Row Answer
    pub cells : List Cell
    pub out : ℕ → ℕ
    pub holds : HoldsBy n g at cells out
    pub t : ℕ
    pub rows : List Row
    pub next : (at t).todo ≡ row ∷ rows

module _ {Op Row Answer Cell K L : Type 0} {a : Table Op Row Answer Cell K L} {row : Row}
    (b : Before a row) where
  abbrev pub shared : Name
  shared = shared_name b.n

  abbrev pub array : Object
  array = object_of b.g shared

  pub there : b.t < b.n
  there = elim (cases_lt b.t b.n) [
    | inl low ↦ low
    | inr high ↦
        let bad : [] ≡ row ∷ b.rows = sym (b.holds.beyond b.t high).0 ∙ b.next in absurd cc
  ]

  pub thread : Thread a b.n b.g b.out (b.at b.t) b.t
  thread = b.holds.each b.t there

  pub inside : b.t < length b.g.mutators
  inside = omega (arith, there, b.holds.threads)

  pub room : (d : ℕ) → d < 16 → d < length (mutator_at b.g b.t).registers
  room d low = omega (arith, thread.sixteen)

  -- how far the thread is, which has this row next, and what is known there
  pub place : Place a (object_of b.g) b.out b.t
      (record { todo = row ∷ b.rows; seen = (b.at b.t).seen; pending = (b.at b.t).pending })
      (register_of b.g b.t)
  place = subst (λ (rows : List Row). Place a (object_of b.g) b.out b.t
      (record { todo = rows; seen = (b.at b.t).seen; pending = (b.at b.t).pending })
      (register_of b.g b.t)) b.next thread.place

  abbrev pub known : Spot Answer Cell K
  known = a.before row place.cell

  pub owes : owed a (b.at b.t).todo ≡ length known.made
  owes = ap (owed a) b.next ∙ a.same_made row a.none place.cell

  abbrev pub reply : Reply
  reply = (step b.g b.t (a.command_at row)).1

  abbrev pub after : Progress Row Answer
  after = moved a.decides a.ends a.say (b.at b.t) row b.rows reply b.cells

  abbrev pub acts : List Cell
  acts = acted a.act (a.decides row) b.cells

  abbrev pub told : List Answer
  told = said a.say (a.decides row) b.cells

  -- the row keeps the invariant
  abbrev pub Goes : Type 0
  Goes = (new : ℕ → Progress Row Answer) → ((u : ℕ) → b.t ≢ u → new u ≡ b.at u)
      → new b.t ≡ after → Kept a b.n (step b.g b.t (a.command_at row)).0 new acts

  -- what holds of the thread at its next row, if it has finished so many objects
  pub record Arrives (now : ℕ → ℕ) : Type 0 where
    pub state : L
    pub cell : Cell
    pub spot : Spot Answer Cell K
    pub replies : List Reply
    pub state_is : a.next place.state row ≡ state
    pub spot_is : behind a row cell ≡ spot
    pub counts : now b.t ≡ a.finished state
    pub pending : kept_next (a.ends row) ((b.at b.t).pending ++ told) ≡ spot.pend
    pub seen : seen_next (a.ends row) ((b.at b.t).seen ++ reply ∷ []) ≡ replies ++ spot.heard

  -- ---- one register and one object changed

  module _ {k : Graph} {d : ℕ} {v : Value} {x : Name} {o : Object} {more : ℕ}
      (e : Effect b.g k b.t d v x o more) (safe : (x ≡ shared) ⊎ IsMade b.out b.t x)
      {now : ℕ → ℕ} {j : ℕ} (f : Finishes b.out now b.t j) where
    -- the object that changed is no finished one, and no other thread's
    apart : (y : Name) → 1 ≤ y.serial → (y.thread ≡ b.t → y.serial ≤ b.out b.t) → x ≢ y
    apart y some low = grind arith

    pub frame : Frame (object_of b.g) (object_of k) b.out now
    frame = record {
      grows = grown b.out now b.t j f;
      kept = λ y some low. e.objects y (apart y some
          (λ is. subst (λ (u : ℕ). y.serial ≤ b.out u) is low));
    }

    other : (u : ℕ) → b.t ≢ u → (m : Progress Row Answer) → Thread a b.n b.g b.out m u
        → Thread a b.n k now m u
    other u ne m th = record {
      zero = e.others u 0 ne ∙ th.zero;
      counted = e.counts u ne ∙ th.counted ∙ ap (λ (y : ℕ). y + owed a m.todo)
          (sym (f.others u ne));
      place = subst (λ (r : ℕ → Value). Place a (object_of k) now u m r)
          (sym (λ i q. e.others u q ne i))
          (place_move a frame u (f.others u ne) (λ y made_by. e.objects y
          (apart y (omega (arith, made_by.1)) (λ is. absurd (ne (sym is ∙ made_by.0))))) m
          (register_of b.g u) th.place);
      sixteen = e.sixteen u ∙ th.sixteen;
    }

    -- the invariant holds again
    pub leaves : 1 ≤ d → (step b.g b.t (a.command_at row)).0 ≡ k → Shared a b.n k now acts
        → (s : Arrives now) → length known.made + more ≡ j + length s.spot.made
        → InSpot a (object_of k) now b.t s.state s.spot (register_of k b.t) → Goes
    leaves one stepped shows s counted holds new same is =
        subst (λ (y : Graph). Kept a b.n y new acts) (sym stepped) (
          now,
          record {
            threads = e.threads ∙ b.holds.threads;
            shared = shows;
            each = λ u low. elim (cases_eq b.t u) [
              | inl here_u ↦ subst (λ (y : ℕ). Thread a b.n k now (new y) y) here_u
                  (subst (λ (m : Progress Row Answer). Thread a b.n k now m b.t) (sym is) mine)
              | inr ne ↦ subst (λ (m : Progress Row Answer). Thread a b.n k now m u)
                  (sym (same u ne)) (other u ne (b.at u) (b.holds.each u low))
            ];
            beyond = λ u high. subst (λ (m : Progress Row Answer). (m.todo ≡ []) × (m.pending ≡ []))
                (sym (same u (λ here_u. omega (arith, there)))) (b.holds.beyond u high);
          },
        )
      where
        spot_is : s.spot ≡ spot_of a b.rows s.cell
        spot_is = sym (place.proper.0.1 s.cell ∙ s.spot_is)

        mine : Thread a b.n k now after b.t
        mine = record {
          zero = e.own 0 (λ z. omega arith) ∙ thread.zero;
          counted = omega (
            arith,
            e.count,
            thread.counted,
            owes,
            counted,
            f.own,
            owed_is a b.rows s.cell,
            ap (λ (y : Spot Answer Cell K). length y.made) spot_is,
          );
          place = record {
            state = a.next place.state row;
            cell = s.cell;
            replies = s.replies;
            proper = place.proper.1;
            counts = s.counts ∙ ap a.finished (sym s.state_is);
            spot = subst₂ (λ (l : L) (y : Spot Answer Cell K).
                InSpot a (object_of k) now b.t l y (register_of k b.t))
                (sym s.state_is) spot_is holds;
            pending = s.pending ∙ ap (λ (y : Spot Answer Cell K). y.pend) spot_is;
            seen = s.seen ∙ ap (λ (y : Spot Answer Cell K). s.replies ++ y.heard) spot_is;
          };
          sixteen = e.sixteen b.t ∙ thread.sixteen;
        }

    -- what places showed they still show
    still_shown : (i : ℕ) → i < a.size
        → a.Shows (object_of k) now (field_of array i) (slice_index_or b.cells i a.none)
    still_shown i low =
        a.shows_move (object_of b.g) (object_of k) b.out now frame _ _ (b.holds.shared.slots i low)

    -- the array and the state as they were
    pub shared_stays : object_of k shared ≡ array → acts ≡ b.cells → Shared a b.n k now acts
    shared_stays is same = subst (Shared a b.n k now) (sym same) (record {
      kind = ap (λ (y : Object). y.kind) is ∙ b.holds.shared.kind;
      long = ap (λ (y : Object). length y.fields) is ∙ b.holds.shared.long;
      places = b.holds.shared.places;
      slots = λ i low. subst (λ (y : Object). a.Shows (object_of k) now (field_of y i)
          (slice_index_or b.cells i a.none)) (sym is) (still_shown i low);
    })

    -- place i of the array has another value, which shows another cell
    pub shared_changes : (i : ℕ) (y : Value) (cell : Cell)
        → object_of k shared ≡ set_field array i y → i < a.size → acts ≡ slice_set b.cells i cell
        → a.Shows (object_of k) now y cell → Shared a b.n k now acts
    shared_changes i y cell is low same shows_y = subst (Shared a b.n k now) (sym same) (record {
      kind = ap (λ (z : Object). z.kind) is ∙ b.holds.shared.kind;
      long = ap (λ (z : Object). length z.fields) is ∙ length-set array.fields i y
          ∙ b.holds.shared.long;
      places = length-set b.cells i cell ∙ b.holds.shared.places;
      slots = λ q below.
          let both : Bool → Type 0 = λ z. a.Shows (object_of k) now (cond z y (field_of array q))
          (cond z cell (slice_index_or b.cells q a.none)) in
          subst₂ (a.Shows (object_of k) now)
          (sym (ap (λ (z : Object). field_of z q) is
          ∙ get_or_set array.fields i q y Nil (omega (arith, low, b.holds.shared.long))))
          (sym (get_or_set b.cells i q cell a.none (omega (arith, low, b.holds.shared.places))))
          (elim (cases_eq i q) as (λ z. both (eqb i q)) [
            | inl yes_q ↦ subst both (sym (eq-eqb i q yes_q)) shows_y
            | inr ne ↦ subst both (sym (ne_eqb i q ne)) (still_shown q below)
          ]);
    })
