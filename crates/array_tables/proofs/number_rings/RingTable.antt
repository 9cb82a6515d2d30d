-- The table of the rings: what is known before each row, and that each row keeps it.
use Rattle.std.proofs.Common.{◌≡◌, ℕ, ◌+◌, ◌<◌, true, Option, Some, None, List, [], ◌∷◌, ◌++◌, length, refl, ap, ◌∙◌, arith}
use Rattle.std.specs.Prelude.{flat_map, slice_index_or}
use Rattle.block_store.specs.declared.Value.{Value}
use Rattle.block_store.specs.declared.Value.TheVariants.{Int}
use Rattle.never_heap.specs.declared.Reply.{Reply}
use Rattle.never_heap.specs.Steps.{step}
use Rattle.array_tables.specs.number_rings.Rings.{Operation, Keep, Recall, Cell, answer, cells_after, Row, Make, SetNumber, PutNumber, Store, Fetch, Tell, rows_of, command_at, decides, ends, number_of, last_of, number_told, nothing_told, AreInCells, cell_config}
use Rattle.array_tables.specs.operations.Applications.{ops_in}
use Rattle.array_tables.proofs.operations.Applied.{Owes}
use Rattle.array_tables.proofs.operations.Pairs.{◌▸◌}
use Rattle.array_tables.proofs.operations.RecordRows.{RecordRows, recorded, limit, weights, nil_shown, nil_rests, finish_own, field_told, field_last}
use Rattle.array_tables.proofs.operations.Records.{IsSlim, HasField, plain_numbers, reply_by}
use Rattle.array_tables.proofs.operations.RowRules.{Says, news, sets, puts_in, fetches, stores_last, tells_what}
use Rattle.array_tables.proofs.operations.Turns.{Before, Goes, place}
use Rattle.array_tables.proofs.operations.Tables.{Empty, Number, Own, Shown, Is, Has, Spot, nowhere, making, telling, Table, spot_of, IsProper}
use Rattle.array_tables.proofs.operations.Weights.{all_light}

-- a cell is shown by a record of its number
abbrev pub shape : Cell → Option (List Value)
shape None = None
shape (Some v) = Some (Int v ∷ [])

pub slim : (c : Cell) → IsSlim (shape c)
slim None = tt
slim (Some v) = (omega arith, plain_numbers (v ∷ []))

has_number : (c : Cell) → HasField (shape c) 0
has_number None = tt
has_number (Some v) = omega arith

-- ---- the table

abbrev follow : Row → Option Row
follow (Make i v) = Some (SetNumber i v)
follow (SetNumber i v) = Some (PutNumber i v)
follow (PutNumber i v) = Some (Store i v)
follow (Fetch i) = Some Tell
follow _ = None

abbrev before : Row → Cell → Spot Cell Cell (Unit {0})
before (SetNumber i v) c = making ((1, Is (Own 0)) ∷ []) ((Empty ∷ []) ∷ [])
before (PutNumber i v) c =
    making ((2, Is (Number v)) ∷ (1, Is (Own 0)) ∷ []) ((Empty ∷ []) ∷ [])
before (Store i v) c =
    making ((2, Is (Number v)) ∷ (1, Is (Own 0)) ∷ []) ((Number v ∷ []) ∷ [])
before Tell c = telling ((1, Has (Shown c)) ∷ []) c []
before _ c = nowhere

abbrev next : ℕ → Row → ℕ
next l (Store i v) = l + 1
next l _ = l

abbrev Fits : ℕ → Row → Type 0
Fits size (Store i v) = i < size
Fits size (Fetch i) = i < size
Fits size _ = Unit {0}

pub light : (row : Row) (c : Cell)
    → all_light 1 (λ (x : Unit {0}). 0) limit (before row c).made (before row c).puts ≡ true
light (Make i v) c = refl
light _ c = refl

pub same_made : (row : Row) (c e : Cell) → length (before row c).made ≡ length (before row e).made
same_made (Make i v) c e = refl
same_made _ c e = refl

abbrev pub table : ℕ → RecordRows Operation Row Cell Cell
table size = record {
  size = size;
  command_at = command_at;
  decides = decides;
  ends = ends;
  say = answer;
  act = cells_after;
  none = None;
  shape = shape;
  slim = slim;
  no_shape = refl;
  before = before;
  follow = follow;
  Fits = Fits size;
  next = next;
  same_made = same_made;
  light = light;
}

abbrev pub rings : ℕ → Table Operation Row Cell Cell (Unit {0}) ℕ
rings size = recorded (table size)

-- ---- the rows

last_again : (a r : Reply) (before : List Reply) → last_of a (before ++ r ∷ []) ≡ r
last_again a r [] = refl
last_again a r (b ∷ before) = last_again b r before

told_again : (before : List Reply) (r : Reply) → number_told (before ++ r ∷ []) ≡ number_of r
told_again [] r = refl
told_again (a ∷ before) r = ap number_of (last_again a r before)

number_again : (c : Cell) → number_of (reply_by (shape c) 0) ≡ c
number_again None = refl
number_again (Some v) = refl

module _ (size : ℕ) where
  goes : (row : Row) (b : Before (rings size) row) → Goes b
  goes (Make i v) b = news b 1 1 refl refl (λ c. refl) (refl, refl, λ l. refl)
  goes (SetNumber i v) b =
      sets b 2 (Number v) refl (λ g t o. refl) (λ c. refl) (refl, refl, λ l. refl)
  goes (PutNumber i v) b =
      puts_in b 1 0 2 0 (Number v) (omega arith) (omega arith) refl (λ r c. refl)
      (λ r c. refl) (λ c. refl) (λ c. refl) (refl, refl, λ l. refl)
  goes (Store i v) b =
      stores_last b i 1 (Some v) nothing_told (place b).proper.0.0 refl refl refl refl (λ l c. refl)
      (finish_own (table size) b (Some v) (Number v ∷ []) (λ c. refl) (λ c. refl) (λ r c. refl)
      (λ t o. refl))
  goes (Fetch i) b = fetches b 1 i refl (place b).proper.0.0 refl refl refl (λ l. refl) (λ c. refl)
  goes Tell b =
      field_last (table size) b 2 0 refl refl has_number (λ r c. refl) (λ c. refl)
      refl number_told refl refl (λ l. refl) (λ c. refl) refl (λ c. refl)

  tells : (row : Row) (b : Before (rings size) row) → Says b
  tells (Store i v) b = tells_what b nothing_told None refl refl refl
  tells Tell b =
      let p = place b in
      let heard = field_told (table size) b 2 0 refl refl has_number (λ r c. refl)
      (λ c. refl) in
      tells_what b number_told p.cell refl refl
      (told_again (p.replies ++ []) (step b.g b.t (command_at Tell)).1
      ∙ ap (λ r. number_of r.1) heard.stepped ∙ number_again p.cell)
  tells _ b = tt

-- ---- scripts

pub whole : (op : Operation) (rows : List Row)
    → ops_in decides (rows_of op ++ rows) ≡ op ∷ ops_in decides rows
whole (Keep i v) rows = refl
whole (Recall i) rows = refl

at_first : (size : ℕ) (ops : List Operation) (c : Cell)
    → spot_of (rings size) (flat_map rows_of ops) c ≡ nowhere
at_first size [] c = refl
at_first size (Keep i v ∷ ops) c = refl
at_first size (Recall i ∷ ops) c = refl

proper : (size l : ℕ) (ops : List Operation) → AreInCells size ops → (t : ℕ)
    → IsProper (rings size) t l (flat_map rows_of ops)
proper size l [] low t = tt
proper size l (Keep i v ∷ ops) low t =
    (tt, λ c. refl) ▸ (tt, λ c. refl) ▸ (tt, λ c. refl) ▸ (low.0, at_first size ops)
    ▸ proper size (l + 1) ops low.1 t
proper size l (Recall i ∷ ops) low t =
    (low.0, λ c. refl) ▸ (tt, at_first size ops) ▸ proper size l ops low.1 t

pub rings_owe : (n size blocks : ℕ) (scripts : List (List Operation)) → length scripts ≡ n
    → ((t : ℕ) → AreInCells size (slice_index_or scripts t []))
    → Owes (rings size) (cell_config n size blocks) rows_of scripts
rings_owe n size blocks scripts count low = record {
  eight = refl;
  shared = refl;
  count = count;
  whole = whole;
  first = 0;
  none_finished = refl;
  at_first = λ t c. at_first size (slice_index_or scripts t []) c;
  proper = λ t. proper size 0 (slice_index_or scripts t []) (low t) t;
  nil_shown = nil_shown (table size);
  nil_rests = nil_rests (table size);
  weights = weights (table size);
  fits = omega arith;
  goes = goes size;
  tells = tells size;
}
