-- The workers of a shared heap, and the commands that they have begun.
use Rattle.std.proofs.Common.{◌≡◌, ◌<◌, ◌≤◌, ◌+◌, ℕ, List, [], ◌∷◌, ◌++◌, length, get_or, sym, subst, arith, ⊎_elim, ◌⊎◌, inl, inr}
use Rattle.std.specs.Prelude.{slice_index_or, remove}
use Rattle.std.specs.List.{All}
use Rattle.std.proofs.lemmas.Bool.{cases_lt}
use Rattle.std.proofs.lemmas.List.Edits.{length-remove, get_or-remove_below, get_or-remove_above}
use Rattle.std.proofs.lemmas.List.Elements.{All-push}
use Rattle.atomic_table.specs.Seated.{TableId}
use Rattle.shared_heap.specs.Workers.{AreEachOnce, AreInOrder, AreSome, HasWorker, HeapState, WorkerState}
use Rattle.heapsh.specs.declared.crew.Begun.{Begun}
use Rattle.heapsh.specs.Seats.{IsBegunOn, IsOf}

-- what holds of each still does when one is removed
all_removed : {X : Type 0} (P : X → Type 0) (xs : List X) (n : ℕ) → n < length xs → All P xs → All P (remove xs n)
all_removed P xs n low all i d lt =
    let long = length-remove xs n low in
    ⊎_elim
    (λ below. rw (get_or-remove_below xs n d i below low) (all i d (omega arith)))
    (λ above. rw (get_or-remove_above xs n d i above low) (all (i + 1) d (omega arith)))
    (cases_lt i n)

-- the workers of an opened heap are its own
pub own : (h : HeapState) (ws : List WorkerState) → AreInOrder h ws → All (IsOf h.id) ws
own h ws order = λ t d low. (order.each t d low).0

-- a worker is removed, or one is added
pub worker_removed : (id : TableId) (ws rest : List WorkerState) (i : ℕ) → rest ≡ remove ws i → i < length ws → All (IsOf id) ws → All (IsOf id) rest
worker_removed id ws rest i are low all = subst (All (IsOf id)) (sym are) (all_removed (IsOf id) ws i low all)

pub worker_at : (id : TableId) (ws : List WorkerState) (i : ℕ) (w : WorkerState) → w ≡ slice_index_or ws i w → i < length ws → All (IsOf id) ws → IsOf id w
worker_at id ws i w is low all = subst (IsOf id) (sym is) (all i w low)

pub worker_added : (id : TableId) (ws more : List WorkerState) (w : WorkerState) → more ≡ ws ++ w ∷ [] → All (IsOf id) ws → IsOf id w → All (IsOf id) more
worker_added id ws more w are all is = subst (All (IsOf id)) (sym are) (All-push (IsOf id) ws w all is)

-- the same of commands
pub begun_removed : (id : TableId) (bs rest : List Begun) (i : ℕ) → rest ≡ remove bs i → i < length bs → All (IsBegunOn id) bs → All (IsBegunOn id) rest
begun_removed id bs rest i are low all = subst (All (IsBegunOn id)) (sym are) (all_removed (IsBegunOn id) bs i low all)

pub begun_at : (id : TableId) (bs : List Begun) (i : ℕ) (b : Begun) → b ≡ slice_index_or bs i b → i < length bs → All (IsBegunOn id) bs → IsBegunOn id b
begun_at id bs i b is low all = subst (IsBegunOn id) (sym is) (all i b low)

pub begun_added : (id : TableId) (bs more : List Begun) (b : Begun) → more ≡ bs ++ b ∷ [] → All (IsBegunOn id) bs → IsBegunOn id b → All (IsBegunOn id) more
begun_added id bs more b are all is = subst (All (IsBegunOn id)) (sym are) (All-push (IsBegunOn id) bs b all is)

-- a worker of this thread
pub has : (ws : List WorkerState) (t j : ℕ) → j < length ws → ((d : WorkerState) → (slice_index_or ws j d).thread.thread ≡ t) → HasWorker t ws
has ws t j low is = (j, low, is)

pub each_more : (ws : List WorkerState) (t : ℕ) → ((u : ℕ) → u < t → HasWorker u ws) → HasWorker t ws → (u : ℕ) → u < t + 1 → HasWorker u ws
each_more ws t each one u low =
    ⊎_elim
    (λ below. each u below)
    (λ above. (let same : t ≡ u = omega arith in subst (λ v. HasWorker v ws) same one))
    (cases_lt u t)

-- all workers of a heap
pub each_once : (h : HeapState) (ws : List WorkerState) → length ws ≡ h.config.threads → All (IsOf h.id) ws → ((t : ℕ) → t < h.config.threads → HasWorker t ws) → AreEachOnce h ws
each_once h ws count own each = record { count = count; own = own; each = each }
