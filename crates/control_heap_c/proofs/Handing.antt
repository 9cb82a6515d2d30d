-- The first of a group's workers, and the others, are of its heap.
use Rattle.std.proofs.Common.{◌≡◌, ◌<◌, ◌++◌, ℕ, zero, suc, List, [], ◌∷◌, length, slice_index_or, sym, ap, ◌∙◌, subst, arith}
use Rattle.atomic_table.specs.Seated.{TableId, table_id_coded}
use Rattle.std.specs.Arc.{arc_value}
use Rattle.std.specs.Coded.{Coded-set}
use Rattle.std.specs.Prelude.{Option, Some, None}
use Rattle.shared_heap.specs.Workers.{HeapState, WorkerState}
use Rattle.control_heap_c.specs.declared.owned.Resting.{Resting}

abbrev AllOf : TableId → List WorkerState → Type 0
AllOf t ws = (i : ℕ) (d : WorkerState) → i < length ws → (slice_index_or ws i d).heap ≡ t

pub first_of : (t : TableId) (w : WorkerState) (rest ws : List WorkerState) → w ∷ rest ≡ ws → AllOf t ws → w.heap ≡ t
first_of t w rest ws e all = (subst (λ (xs : List WorkerState). AllOf t xs) (sym e) all) 0 w (omega (arith))

pub others_of : (t : TableId) (w : WorkerState) (rest ws : List WorkerState) → w ∷ rest ≡ ws → AllOf t ws → AllOf t rest
others_of t w rest ws e all i d lt = (subst (λ (xs : List WorkerState). AllOf t xs) (sym e) all) (suc i) d (omega (arith, lt))

abbrev home_or : HeapState → Option HeapState → HeapState
home_or d None = d
home_or d (Some h) = h

pub same_home : (h s : HeapState) → Some h ≡ Some s → h.id ≡ s.id
same_home h s e = ap (λ o. (home_or h o).id) e

all_more : (t : TableId) (ws : List WorkerState) (w : WorkerState) → AllOf t ws → w.heap ≡ t → AllOf t (ws ++ w ∷ [])
all_more t [] w all is zero d lt = is
all_more t [] w all is (suc i) d lt = absurd (omega (arith, lt))
all_more t (x ∷ ws) w all is zero d lt = all 0 d (omega arith)
all_more t (x ∷ ws) w all is (suc i) d lt =
    all_more t ws w (λ j e low. all (suc j) e (omega (arith, low))) is i d (omega (arith, lt))

pub more_of : (t : TableId) (ws new : List WorkerState) (w : WorkerState) → new ≡ ws ++ w ∷ [] → AllOf t ws → w.heap ≡ t → AllOf t new
more_of t ws new w e all is = subst (λ (xs : List WorkerState). AllOf t xs) (sym e) (all_more t ws w all is)

pub same_of : (t : TableId) (ws new : List WorkerState) → new ≡ ws → AllOf t ws → AllOf t new
same_of t ws new e all = subst (λ (xs : List WorkerState). AllOf t xs) (sym e) all

-- a worker that is put back where it was
pub same_resting : (r : Resting) (w : WorkerState) (own : w.heap ≡ (arc_value r.heap).id) → w ≡ r.worker
    → ◌≡◌ {A = Resting} (record { heap = r.heap; worker = w; own = own }) r
same_resting r w own e =
    subst (λ (v : WorkerState). (o : v.heap ≡ (arc_value r.heap).id) → ◌≡◌ {A = Resting} (record { heap = r.heap; worker = v; own = o }) r)
    (sym e) (λ o i. record { heap = r.heap; worker = r.worker; own = Coded-set table_id_coded _ _ o r.own i }) own
