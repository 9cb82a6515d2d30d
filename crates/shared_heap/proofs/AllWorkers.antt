-- The workers of a heap: when it is opened, and when it is closed.
use Rattle.std.proofs.Common.{◌≡◌, ℕ, zero, suc, ◌<◌, true, refl, arith, subst, sym, ap, ◌∙◌, List, [], ◌∷◌, ◌++◌, length, get_or, map}
use Rattle.std.specs.Prelude.{remove}
use Rattle.std.proofs.lemmas.List.{length-map}
use Rattle.atomic_table.specs.Table as table
use Rattle.atomic_table.specs.Seated.{TableId}
use Rattle.block_store.specs.declared.Config.{Config}
use Rattle.never_heap.specs.declared.Command.{Command}
use Rattle.heap_system.specs.Locals.{is_done}
use Rattle.heap_system.specs.Machines.{State, IsJob, IsOpening, no_local}
use Rattle.heap_system.proofs.Lemmas.{start_count}
use Rattle.atom_board.proofs.AllMutators.{get_or_map}
use Rattle.shared_heap.specs.declared.rules.ThreadView.{ThreadView}
use Rattle.shared_heap.specs.declared.rules.Moment.{Moment}
use Rattle.shared_heap.specs.declared.rules.View.{View}
use Rattle.shared_heap.specs.Shared.{joined, one_view}
use Rattle.shared_heap.specs.Workers.{AreOnes, HeapState, WorkerState, AreInOrder, AreFresh, AreOfWorkers, AreSome, IsOfWorker, IsSame, KnowsAll, start_worker, worker_of}
use Rattle.shared_heap.proofs.InitialHeaps.{config_at, thread_at}

-- the first is removed
pub taken_first : (xs ys : List WorkerState) (x : WorkerState) → 0 < length xs → x ≡ get_or xs 0 x → ys ≡ remove xs 0 → x ∷ ys ≡ xs
taken_first [] ys x low is are = absurd (omega arith)
taken_first (z ∷ xs) ys x low is are = ap (λ u. u ∷ ys) is ∙ ap (λ us. z ∷ us) are

-- what is known of each of several workers
pub own_of : (h : HeapState) (who ws : List WorkerState) (id : TableId) → ws ≡ who → h.id ≡ id → AreSome h who → (i : ℕ) (d : WorkerState) → i < length ws → (get_or ws i d).heap ≡ id
own_of h who ws id same named are i d low =
    let il : i < length who = omega (arith, low, ap length same) in
    ap (λ (xs : List WorkerState). (get_or xs i d).heap) same ∙ are.1 i d il ∙ named

-- the threads of workers, and one more
pub of_more : (ws : List WorkerState) (hs : List ThreadView) (w : WorkerState) (h : ThreadView) → AreOfWorkers ws hs → IsOfWorker w h → AreOfWorkers (ws ++ w ∷ []) (hs ++ h ∷ [])
of_more [] [] w h all one = (one, tt)
of_more [] (g ∷ hs) w h all one = absurd all
of_more (u ∷ ws) [] w h all one = absurd all
of_more (u ∷ ws) (g ∷ hs) w h all one = (all.0, of_more ws hs w h all.1 one)

pub of_long : (ws : List WorkerState) (hs : List ThreadView) → AreOfWorkers ws hs → length hs ≡ length ws
of_long [] [] all = refl
of_long [] (h ∷ hs) all = absurd all
of_long (w ∷ ws) [] all = absurd all
of_long (w ∷ ws) (h ∷ hs) all = ap suc (of_long ws hs all.1)

pub of_at : (ws : List WorkerState) (hs : List ThreadView) (i : ℕ) (d : WorkerState) (e : ThreadView) → AreOfWorkers ws hs → i < length ws → IsOfWorker (get_or ws i d) (get_or hs i e)
of_at [] hs i d e all low = absurd (omega arith)
of_at (w ∷ ws) [] i d e all low = absurd all
of_at (w ∷ ws) (h ∷ hs) zero d e all low = all.0
of_at (w ∷ ws) (h ∷ hs) (suc i) d e all low = of_at ws hs i d e all.1 (omega arith)

module _ (c : Config) (traces : List (List Command)) (job : IsJob c traces) (s : State) (start : IsOpening c traces s) (ones : AreOnes traces) (id : TableId) (ws : List WorkerState) (are : ws ≡ map (start_worker id) s.locals) where
  pub in_order : (h : HeapState) → h ≡ record { id = id; config = c } → AreInOrder h ws
  in_order h is = subst (λ x. AreInOrder x ws) (sym is) (subst (λ xs. AreInOrder (record { id = id; config = c }) xs) (sym are) (record {
    count = length-map s.locals (start_worker id) ∙ start_count c traces job s start;
    each = λ t d low.
        (let tl : t < length s.locals = omega (arith, low, length-map s.locals (start_worker id)) in
        let e = get_or_map (start_worker id) s.locals t d (no_local c) tl in
        (ap (λ (w : WorkerState). w.heap) e, ap (λ (w : WorkerState). w.thread.thread) e ∙ thread_at c traces job s start ones t (no_local c) tl));
  }))

  pub fresh : AreFresh c ws
  fresh = subst (λ xs. AreFresh c xs) (sym are) (λ t d low.
      (let tl : t < length s.locals = omega (arith, low, length-map s.locals (start_worker id)) in
      let e = get_or_map (start_worker id) s.locals t d (no_local c) tl in
      record {
        config = ap (λ (w : WorkerState). w.thread.config) e ∙ config_at c traces job s start ones t (no_local c) tl;
        asked = ap (λ (w : WorkerState). w.thread.trace) e;
        told = ap (λ (w : WorkerState). w.thread.log) e;
        timeline = ap (λ (w : WorkerState). w.timeline) e;
        seen = ap (λ (w : WorkerState). w.seen) e;
        notes = ap (λ (w : WorkerState). w.notes) e;
      }))

-- a worker's thread is that of its value
pub of_worker : (id : TableId) (h : ThreadView) (ns : List (List Moment)) (w : WorkerState) → worker_of id h ns ≡ w → is_done h.local ≡ true → IsOfWorker w h
of_worker id h ns w seen done = (sym (ap (λ (x : WorkerState). x.thread) seen), sym (ap (λ (x : WorkerState). x.seen) seen), done, sym (ap (λ (x : WorkerState). x.timeline) seen))

pub one_knows : (me : table.Me Command View) (id : TableId) (h : ThreadView) (ns : List (List Moment)) (w : WorkerState) → me ≡ (one_view h ns, []) → worker_of id h ns ≡ w → is_done h.local ≡ true → KnowsAll me (w ∷ [])
one_knows me id h ns w knows seen done = record { threads = h ∷ []; notes = ns; knows = knows; all = (of_worker id h ns w seen done, tt) }

-- a seat that takes over another's threads
pub one_more_knows : (me other after : table.Me Command View) (first : WorkerState) (ws : List WorkerState) (w : WorkerState) (h : ThreadView) (ns : List (List Moment)) → KnowsAll me (first ∷ ws) → other ≡ (one_view h ns, []) → IsOfWorker w h
    → after ≡ (joined me.0 other.0, me.1) → KnowsAll after (first ∷ ws ++ w ∷ [])
one_more_knows me other after first ws w h ns mine theirs one is = record {
  threads = mine.threads ++ h ∷ [];
  notes = mine.notes ++ ns;
  knows = is ∙ (λ i. (joined (mine.knows i).0 (theirs i).0, (mine.knows i).1));
  all = of_more (first ∷ ws) mine.threads w h mine.all one;
}

-- the same worker, after none and after more commands
pub same_here : (w : WorkerState) → IsSame w w
same_here w = record { heap = refl; config = refl; thread = refl }

pub same_on : (a b d : WorkerState) → IsSame a b → IsSame b d → IsSame a d
same_on a b d f g = record { heap = g.heap ∙ f.heap; config = g.config ∙ f.config; thread = g.thread ∙ f.thread }
