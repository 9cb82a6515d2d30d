-- The picture of a heap after a thread is at something else.
use Rattle.std.proofs.Common.{◌≡◌, ℕ, Option, List, refl, ◌∙◌}
use Rattle.block_store.specs.Counts.{changed}
use Rattle.block_store.specs.Heaps.{Heap}
use Rattle.block_store.proofs.Lemmas.{changed_map, changed_self}
use Rattle.never_heap.specs.Graphs.{Graph}
use Rattle.never_heap.specs.Histories.{HistoryItem}
use Rattle.heap_invariant.specs.graph_relation.Events.{Loading}
use Rattle.heap_invariant.specs.name_invariant.Building.{Build}
use Rattle.heap_invariant.specs.name_invariant.Pictures.{Task, Names, picture}
use Rattle.heap_invariant.specs.name_invariant.States.{KeptState}

module _ (g : Graph) (order : List HistoryItem) (h : Heap) (names : Names) (tasks : ℕ → Task)
    (t : ℕ) where
  abbrev now : KeptState
  now = picture g order h names tasks

  abbrev loads : ℕ → Loading
  loads = λ u. (tasks u).loading

  abbrev builds : ℕ → Option Build
  builds = λ u. (tasks u).build

  abbrev scans : ℕ → ℕ
  scans = λ u. (tasks u).scan

  -- a part of what the threads are at, where thread t is at w, and where this part of it is as
  -- before
  part : {A : Type 0} (f : Task → A) (w : Task)
      → (λ u. f (changed tasks t w u)) ≡ changed (λ u. f (tasks u)) t (f w)
  part f w = changed_map f tasks t w

  same : {A : Type 0} (f : Task → A) (w : Task) → f (tasks t) ≡ f w
      → ◌≡◌ {A = ℕ → A} (λ u. f (changed tasks t w u)) (λ u. f (tasks u))
  same f w is = part f w ∙ changed_self (λ u. f (tasks u)) t (f w) is

  pub task_changed : (w : Task) → picture g order h names (changed tasks t w) ≡ record now {
    seen = record now.seen { loads = changed loads t w.loading };
    builds = changed builds t w.build;
    scans = changed scans t w.scan;
  }
  task_changed w = λ i. record now {
    seen = record now.seen { loads = part (λ (v : Task). v.loading) w i };
    builds = part (λ (v : Task). v.build) w i;
    scans = part (λ (v : Task). v.scan) w i;
  }

  pub loading_changed : (l : Loading)
      → picture g order h names (changed tasks t (record (tasks t) { loading = l }))
      ≡ record now { seen = record now.seen { loads = changed loads t l } }
  loading_changed l = let w : Task = record (tasks t) { loading = l } in λ i. record now {
    seen = record now.seen { loads = part (λ (v : Task). v.loading) w i };
    builds = same (λ (v : Task). v.build) w refl i;
    scans = same (λ (v : Task). v.scan) w refl i;
  }

  pub build_changed : (b : Option Build)
      → picture g order h names (changed tasks t (record (tasks t) { build = b }))
      ≡ record now { builds = changed builds t b }
  build_changed b = let w : Task = record (tasks t) { build = b } in λ i. record now {
    seen = record now.seen { loads = same (λ (v : Task). v.loading) w refl i };
    builds = part (λ (v : Task). v.build) w i;
    scans = same (λ (v : Task). v.scan) w refl i;
  }

  pub scan_changed : (x : ℕ)
      → picture g order h names (changed tasks t (record (tasks t) { scan = x }))
      ≡ record now { scans = changed scans t x }
  scan_changed x = let w : Task = record (tasks t) { scan = x } in λ i. record now {
    seen = record now.seen { loads = same (λ (v : Task). v.loading) w refl i };
    builds = same (λ (v : Task). v.build) w refl i;
    scans = part (λ (v : Task). v.scan) w i;
  }
