-- The live blocks of the opening heap.
use Rattle.std.proofs.Common.{ℕ, zero, suc, ◌+◌, ◌≡◌, true, cond, List, [], ◌∷◌, ◌++◌, length, ap, ◌∙◌, arith}
use Rattle.std.specs.List.{sum_by}
use Rattle.std.proofs.lemmas.List.{length-replicate}
use Rattle.std.proofs.lemmas.List.Sums.{sum_by-cons}
use Rattle.block_store.specs.declared.Config.{Config}
use Rattle.block_store.specs.declared.Name.{Name}
use Rattle.block_store.specs.declared.Value.TheVariants.{Nil}
use Rattle.block_store.specs.Configs.{IsInBounds}
use Rattle.block_store.specs.Registers.{registers_end}
use Rattle.array_trees.specs.Trees.{array_blocks}
use Rattle.array_trees.specs.InitialHeaps.{opening_blocks}
use Rattle.never_heap.specs.Graphs.{start_graph, shared_name, object_of}
use Rattle.never_heap.specs.LiveBlocks.{object_blocks, live_of, live_blocks}
use Rattle.never_heap.specs.Reach.{names, names_below, thread_names, reachable}
use Rattle.never_heap.proofs.StartGraph.{count_of_start, threads_of_start, object_of_start, has_shared, register_of_start}
use Rattle.never_heap.proofs.ReachableNames.{reachable_closed}

-- the shared array has the one name
one_below : (c : Config) (u : ℕ) → names_below (start_graph c) u ≡ shared_name c.threads ∷ []
one_below c zero = ap (λ n. shared_name n ∷ []) (threads_of_start c)
one_below c (suc u) =
    ap (λ k. names_below (start_graph c) u ++ thread_names u k) (count_of_start c u)
    ∙ ap (λ (l : List Name). l ++ []) (one_below c u)

shared_reached : (c : Config) → IsInBounds c
    → reachable (start_graph c) (shared_name c.threads) ≡ true
shared_reached c bounds =
    (reachable_closed (start_graph c)).registers 0 0 (shared_name c.threads)
    (register_of_start c 0 0 bounds.some_thread (omega arith))

pub opening_live : (c : Config) → IsInBounds c
    → live_blocks c.width (start_graph c) ≡ opening_blocks c
unfolding live_blocks
opening_live c bounds =
    let g = start_graph c in
    let shared : Name = shared_name c.threads in
    let blocks : live_of c.width g shared ≡ array_blocks c.width c.shared =
    ap (λ b. cond b (object_blocks c.width (object_of g shared)) 0) (shared_reached c bounds)
    ∙ ap (object_blocks c.width) (object_of_start c shared (has_shared c))
    ∙ ap (array_blocks c.width) (length-replicate c.shared Nil) in
    let sum : sum_by (live_of c.width g) (names g) ≡ array_blocks c.width c.shared + 0 =
    ap (sum_by (live_of c.width g)) (one_below c (length g.mutators))
    ∙ sum_by-cons (live_of c.width g) shared [] ∙ ap (λ k. k + 0) blocks in
    let registers : registers_end c.width (length g.mutators) ≡ registers_end c.width c.threads =
    ap (registers_end c.width) (threads_of_start c) in
    omega (arith, sum, registers)
