-- From a table to an application: what has to be shown of the table (`Owes`), and what is then
-- shown of its runs (`applied`).
use Rattle.std.proofs.Common.{◌≡◌, ℕ, ◌+◌, ◌*◌, ◌<◌, ◌≤◌, inl, inr, cond, List, [], ◌∷◌, ◌++◌, length, map, replicate, slice_index_or, ne_eqb, sym, refl, ap, ◌∙◌, subst, arith}
use Rattle.std.specs.Prelude.{flat_map}
use Rattle.std.proofs.lemmas.Bool.{cases_lt}
use Rattle.std.proofs.lemmas.List.{get_or_past, get_or-replicate, length-map, length-replicate}
use Rattle.std.proofs.Math.ListN.{get_or-map}
use Rattle.std.proofs.Math.Path.{subst₂}
use Rattle.array_trees.specs.Trees.{array_blocks}
use Rattle.block_store.specs.declared.Config.{Config}
use Rattle.block_store.specs.declared.Name.{Name}
use Rattle.block_store.specs.declared.Value.TheVariants.{Nil, Ref}
use Rattle.block_store.specs.declared.Width.TheVariants.{Eight}
use Rattle.never_heap.specs.Graphs.{Graph, Object, Array, nils, shared_name, start_graph, mutator_at, register_of, object_of, field_of}
use Rattle.never_heap.specs.LiveBlocks.{live_blocks}
use Rattle.never_heap.proofs.Lemmas.{count_of_start, has_shared, object_of_start, register_of_start, registers_of_start, threads_of_start}
use Rattle.never_heap.specs.declared.Command.{Command}
use Rattle.never_heap.specs.declared.Entry.{Entry}
use Rattle.never_heap.specs.Histories.{HistoryItem, part}
use Rattle.never_heap.specs.Runs.{IsRun}
use Rattle.array_tables.specs.operations.Linearizations.{replies_in, traces_of}
use Rattle.array_tables.specs.operations.Applications.{Progress, Application, fresh, ops_in}
use Rattle.array_tables.proofs.operations.LiveBound.{total}
use Rattle.array_tables.proofs.operations.Tables.{Spot, nowhere, Table, spot_of, IsProper, Lasts, InSpot}
use Rattle.array_tables.proofs.operations.RowRules.{Says}
use Rattle.array_tables.proofs.operations.Turns.{Kept, Before, Goes}
use Rattle.array_tables.proofs.operations.Weights.{Weights, few, upto}

module _ {Op Row Answer Cell K L : Type 0} (a : Table Op Row Answer Cell K L) (c : Config)
    (rows_of : Op → List Row) (scripts : List (List Op)) where
  -- what has to be shown of an application with a table
  pub record Owes : Type 0 where
    pub eight : c.width ≡ Eight
    pub shared : c.shared ≡ a.size
    pub count : length scripts ≡ c.threads
    -- one row of each operation decides it
    pub whole : (op : Op) (rows : List Row)
        → ops_in a.decides (rows_of op ++ rows) ≡ op ∷ ops_in a.decides rows
    -- the first state of a thread, and the rows of its script
    pub first : L
    pub none_finished : a.finished first ≡ 0
    pub at_first : (t : ℕ) (cell : Cell)
        → spot_of a (flat_map rows_of (slice_index_or scripts t [])) cell ≡ nowhere
    pub proper : (t : ℕ) → IsProper a t first (flat_map rows_of (slice_index_or scripts t []))
    -- at first each register fits what is known at rest, and each place is empty
    pub nil_shown : (obj : Name → Object) (out : ℕ → ℕ) → a.Shows obj out Nil a.none
    pub nil_rests : (obj : Name → Object) (out : ℕ → ℕ) (t q : ℕ)
        → Lasts a obj out (a.rest t first q) Nil
    pub weights : Weights a
    pub fits : 3 * c.threads + (array_blocks Eight a.size
        + (a.size * weights.most + total weights.limit c.threads (upto 1 15)))
        ≤ c.live
    -- each row keeps the invariant, and the last one answers what was decided
    pub goes : (row : Row) (b : Before a row) → Goes b
    pub tells : (row : Row) (b : Before a row) → Says b

  module _ (owes : Owes) where
    abbrev n : ℕ
    n = c.threads

    array_at_start : object_of (start_graph c) (shared_name n)
        ≡ record { kind = Array; fields = nils c.shared }
    array_at_start = object_of_start c (shared_name n) (has_shared c)

    nil_register : (t q : ℕ) → t < n → 1 ≤ q → register_of (start_graph c) t q ≡ Nil
    nil_register t q low some = elim (cases_lt q 16) [
      | inl few_enough ↦ register_of_start c t q low few_enough
          ∙ ap (λ b. cond b (Ref (shared_name n)) Nil) (ne_eqb q 0 (λ z. omega arith))
      | inr high ↦ get_or_past (mutator_at (start_graph c) t).registers q Nil
          (omega (arith, registers_of_start c t low))
    ]

    none_beyond : (t : ℕ) → n ≤ t → slice_index_or scripts t [] ≡ []
    none_beyond t high = get_or_past scripts t [] (omega (arith, owes.count))

    nil_field : (i : ℕ) → field_of (object_of (start_graph c) (shared_name n)) i ≡ Nil
    nil_field i = ap (λ (o : Object). field_of o i) array_at_start ∙ elim (cases_lt i c.shared) [
      | inl low ↦ get_or-replicate c.shared i Nil Nil low
      | inr high ↦ get_or_past (nils c.shared) i Nil (omega (arith, length-replicate c.shared Nil))
    ]

    starts : Kept a n (start_graph c) (fresh rows_of scripts) (replicate a.size a.none)
    starts = (
      λ t. 0,
      record {
        threads = threads_of_start c;
        shared = record {
          kind = ap (λ (o : Object). o.kind) array_at_start;
          long = ap (λ (o : Object). length o.fields) array_at_start
              ∙ length-replicate c.shared Nil ∙ owes.shared;
          places = length-replicate a.size a.none;
          slots = λ i low. subst₂ (a.Shows (object_of (start_graph c)) (λ t. 0)) (sym (nil_field i))
              (sym (get_or-replicate a.size i a.none a.none low))
              (owes.nil_shown (object_of (start_graph c)) (λ t. 0));
        };
        each = λ t low. record {
          zero = register_of_start c t 0 low (omega arith);
          counted = count_of_start c t
              ∙ sym (ap (λ (s : Spot Answer Cell K). 0 + length s.made) (owes.at_first t a.none));
          place = record {
            state = owes.first;
            cell = a.none;
            replies = [];
            proper = owes.proper t;
            counts = sym owes.none_finished;
            spot = subst (λ (s : Spot Answer Cell K).
                InSpot a (object_of (start_graph c)) (λ u. 0) t owes.first s
                (register_of (start_graph c) t)) (sym (owes.at_first t a.none)) (record {
                  regs = λ q some. subst (Lasts a (object_of (start_graph c)) (λ u. 0)
                      (a.rest t owes.first q)) (sym (nil_register t q low some))
                      (owes.nil_rests (object_of (start_graph c)) (λ u. 0) t q);
                  own = λ k few. absurd (omega arith);
                });
            pending = ap (λ (s : Spot Answer Cell K). s.pend) (sym (owes.at_first t a.none));
            seen = ap (λ (s : Spot Answer Cell K). s.heard) (sym (owes.at_first t a.none));
          };
          sixteen = registers_of_start c t low;
        };
        beyond = λ t high. (ap (flat_map rows_of) (none_beyond t high), refl);
      },
    )

    rests : (g : Graph) (at : ℕ → Progress Row Answer) (cells : List Cell) (t : ℕ)
        → Kept a n g at cells → (at t).todo ≡ [] → (at t).pending ≡ []
    rests g at cells t h none = elim (cases_lt t n) [
      | inr high ↦ (h.1.beyond t high).1
      | inl low ↦ (h.1.each t low).place.pending
          ∙ ap (λ (rows : List Row). (spot_of a rows (h.1.each t low).place.cell).pend) none
    ]

    abbrev before : (g : Graph) (at : ℕ → Progress Row Answer) (cells : List Cell) (t : ℕ)
        (row : Row) (rows : List Row) → Kept a n g at cells → (at t).todo ≡ row ∷ rows
        → Before a row
    before g at cells t row rows h next = record {
      n = n;
      g = g;
      at = at;
      cells = cells;
      out = h.0;
      holds = h.1;
      t = t;
      rows = rows;
      next = next;
    }

    pub applied : Application c rows_of a.command_at a.decides a.ends a.say a.act
        (replicate a.size a.none) scripts (Kept a c.threads)
    applied = record {
      whole = owes.whole;
      starts = starts;
      few = λ g at cells h. subst (λ w. live_blocks w g ≤ c.live)
          (sym owes.eight) (omega (arith, few a owes.weights n g at cells h.0 h.1, owes.fits));
      rests = rests;
      tells = λ g at cells t row rows h next.
          owes.tells row (before g at cells t row rows h next);
      goes = λ g at new cells t row rows h next same is.
          owes.goes row (before g at cells t row rows h next) new same is;
    }

-- the replies of a run are as many as its rows
pub as_many_replies : {Op Row : Type 0} (c : Config) (rate : ℕ) (rows_of : Op → List Row)
    (command_at : Row → Command) (scripts : List (List Op)) (h : List HistoryItem)
    → IsRun c rate (traces_of rows_of command_at scripts) h → (t : ℕ)
    → length (replies_in t h) ≡ length (flat_map rows_of (slice_index_or scripts t []))
as_many_replies {Op} c rate rows_of command_at scripts h run t =
    let traced : List Op → List Command = λ ops. map command_at (flat_map rows_of ops) in
    let same = ap length (run.traces_whole t ∙ get_or-map traced scripts t []) in
    omega (
      arith,
      same,
      length-map (part t h) (λ (e : Entry). e.command),
      length-map (part t h) (λ (e : Entry). e.reply),
      length-map (flat_map rows_of (slice_index_or scripts t [])) command_at,
    )
