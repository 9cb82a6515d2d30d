-- The picture of a heap after the events of a builder, over plain variables: what thread t builds,
-- and the words, change as the event of the rules says.
use Rattle.std.proofs.Common.{◌≡◌, ℕ, suc, ◌+◌, ◌<◌, ◌≤◌, refl, subst, sym, ap, ◌∙◌, Option, Some, None, List, [], ◌∷◌, ◌++◌, ◌^◌}
use Rattle.block_store.specs.declared.Config.{Config}
use Rattle.block_store.specs.declared.Name.{Name}
use Rattle.block_store.specs.declared.TheConstants.{REGISTERS}
use Rattle.block_store.specs.declared.Value.TheVariants.{Ref}
use Rattle.block_store.specs.Colours.{black_word}
use Rattle.block_store.specs.Configs.{IsInBounds}
use Rattle.block_store.specs.Counts.{changed}
use Rattle.block_store.specs.Heaps.{Heap, put_at}
use Rattle.block_store.specs.Phases.{cycle_of}
use Rattle.block_store.specs.Payloads.{reference_word}
use Rattle.block_store.specs.Places.{Place, Phase, FreeCount, ColourOf, OwnerOf, ShapeOf, PayloadOf}
use Rattle.block_store.specs.Registers.{register_block, register_slot}
use Rattle.block_store.specs.Widths.{payloads}
use Rattle.block_store.proofs.Lemmas.{changed_self}
use Rattle.never_heap.specs.declared.Entry.{Entry}
use Rattle.never_heap.specs.declared.Reply.TheVariants as replies
use Rattle.never_heap.specs.Graphs.{Graph, ObjectKind, count_of, next_name, with_object, with_register}
use Rattle.never_heap.specs.Histories.{HistoryItem, Did, IsAnswered, after}
use Rattle.heap_invariant.specs.graph_relation.Events.{Loading, IsPrompt, unloaded}
use Rattle.heap_invariant.specs.graph_relation.Layouts.{layout_blocks}
use Rattle.heap_invariant.specs.graph_relation.Made.{new_object}
use Rattle.heap_invariant.specs.name_invariant.Building.{Build, build_in, build_blocks, build_owner, build_shape, build_payload, IsHeldOnce}
use Rattle.heap_invariant.specs.name_invariant.Events.{KeptEvent, apply, Guard, collected, making, reserved, IsBuilding, IsFreeBlock, IsWriting}
use Rattle.heap_invariant.specs.name_invariant.Events.KeptEvent.{Answer, Reserve, Collect, WriteOwner, WriteShape, WritePayload, WriteColour, Publish}
use Rattle.heap_invariant.specs.name_invariant.Invariant.{Invariant}
use Rattle.heap_invariant.specs.name_invariant.Pictures.{Names, Task, picture}
use Rattle.heap_invariant.specs.name_invariant.States.{KeptState}
use Rattle.heap_invariant.proofs.Lemmas.{build_changed}
use Rattle.heap_invariant.proofs.name_invariant.Steps.{step_kept}
use Rattle.build_steps.specs.Naming.{names_made, with_task_build}

-- to picture a thread at the build that it is at changes nothing
pub pictured_self : (g : Graph) (order : List HistoryItem) (h : Heap) (names : Names)
    (tasks : ℕ → Task) (t : ℕ) (o : Option Build) → (tasks t).build ≡ o
    → picture g order h names tasks ≡ picture g order h names (with_task_build tasks t o)
pictured_self g order h names tasks t o is =
    ap (λ (bs : ℕ → Option Build). record (picture g order h names tasks) { builds = bs })
    (sym (changed_self (λ u. (tasks u).build) t o is))
    ∙ sym (build_changed g order h names tasks t o)

module _ (c : Config) (s : KeptState) (t : ℕ) (b : Build) (low : t < c.threads)
    (is : s.builds t ≡ Some b) where
  at_build : b ≡ build_in (s.builds t)
  at_build = sym (ap build_in is)

  builds_it : IsBuilding c s t
  builds_it = (low, is ∙ ap Some at_build)

  writing : (o words : ℕ) → b.collected ≡ build_blocks c.width b → suc o ≡ b.left
      → b.step ≡ words → IsHeldOnce c.threads s.builds t o (b.held o) → IsWriting c s t o words
  writing o words all next step once = record {
    building = builds_it;
    all = subst (λ (x : Build). x.collected ≡ build_blocks c.width x) at_build all;
    next = subst (λ (x : Build). suc o ≡ x.left) at_build next;
    step = subst (λ (x : Build). x.step ≡ words) at_build step;
    once = subst (λ (x : Build). IsHeldOnce c.threads s.builds t o (x.held o)) at_build once;
  }

module _ (c : Config) (inside : IsInBounds c) (g : Graph) (order : List HistoryItem) (h : Heap)
    (names : Names) (tasks : ℕ → Task) (t : ℕ) (low : t < c.threads)
    (k : Invariant c (picture g order h names tasks)) where
  abbrev now : KeptState
  now = picture g order h names tasks

  -- the picture after an event of the rules, with which thread t is at build o
  goes : (g' : Graph) (order' : List HistoryItem) (j : Heap) (names' : Names) (o : Option Build)
      (e : KeptEvent) → Guard c now e
      → apply c now e
      ≡ record (picture g' order' j names' tasks) { builds = changed (λ u. (tasks u).build) t o }
      → Invariant c (picture g' order' j names' (with_task_build tasks t o))
  goes g' order' j names' o e guard same =
      subst (λ s. Invariant c s) (same ∙ sym (build_changed g' order' j names' tasks t o))
      (step_kept c inside now e k guard)

  pub reserves : (v : ℕ) (kind : ObjectKind) (size : ℕ) → (tasks t).build ≡ None
      → count_of g t + 1 < 2 ^ 43 → layout_blocks c.width kind size ≤ 1024 → t ≤ 16
      → Invariant c (picture g order (put_at h FreeCount v) names
      (with_task_build tasks t (Some (reserved c now t kind size))))
  reserves v kind size none few most thread =
      goes g order (put_at h FreeCount v) names (Some (reserved c now t kind size))
      (Reserve t kind size) (low, none, few, most, thread) refl

  -- a command is answered that changes nothing
  pub answered : (entry : Entry) → entry.thread < c.threads → (tasks entry.thread).loading ≡ unloaded
      → IsAnswered g (Did entry) → after g (Did entry) ≡ g
      → Invariant c (picture g (order ++ Did entry ∷ []) h names tasks)
  answered entry there idle legal same = step_kept c inside now (Answer entry) k (
    (there, subst (λ (l : Loading). IsPrompt l) (sym idle) refl, legal),
    same,
  )

  module _ (b : Build) (is : (tasks t).build ≡ Some b) where
    at_it : build_in ((tasks t).build) ≡ b
    at_it = ap build_in is

    pub collects : (x : ℕ) → b.collected < build_blocks c.width b → IsFreeBlock c now x
        → Invariant c (picture g order h names (with_task_build tasks t (Some (collected b x))))
    collects x few free = goes g order h names (Some (collected b x)) (Collect t x) (
      builds_it c now t b low is,
      subst (λ (y : Build). y.collected < build_blocks c.width y) (sym at_it) few,
      free,
    )
        (ap (λ (y : Build). record now {
          builds = changed (λ u. (tasks u).build) t (Some (collected y x));
        }) at_it)

    module _ (o : ℕ) (all : b.collected ≡ build_blocks c.width b) (next : suc o ≡ b.left)
        (once : IsHeldOnce c.threads (λ u. (tasks u).build) t o (b.held o)) where
      guard : (words : ℕ) → b.step ≡ words → IsWriting c now t o words
      guard words step = writing c now t b low is o words all next step once

      pub writes_owner : b.step ≡ 0
          → Invariant c (picture g order (put_at h (OwnerOf (b.held o)) (build_owner b o)) names
          (with_task_build tasks t (Some (record b { step = 1 }))))
      writes_owner step =
          goes g order (put_at h (OwnerOf (b.held o)) (build_owner b o)) names
          (Some (record b { step = 1 }))
          (WriteOwner t o) (guard 0 step)
          (ap (λ (y : Build). record
          (picture g order (put_at h (OwnerOf (y.held o)) (build_owner y o)) names tasks) {
            builds = changed (λ u. (tasks u).build) t (Some (record y { step = 1 }));
          }) at_it)

      pub writes_shape : b.step ≡ 1
          → Invariant c (picture g order (put_at h (ShapeOf (b.held o)) (build_shape b)) names
          (with_task_build tasks t (Some (record b { step = 2 }))))
      writes_shape step =
          goes g order (put_at h (ShapeOf (b.held o)) (build_shape b)) names
          (Some (record b { step = 2 }))
          (WriteShape t o) (guard 1 step)
          (ap (λ (y : Build). record
          (picture g order (put_at h (ShapeOf (y.held o)) (build_shape y)) names tasks) {
            builds = changed (λ u. (tasks u).build) t (Some (record y { step = 2 }));
          }) at_it)

      pub writes_payload : (j : ℕ) → j < payloads c.width → b.step ≡ j + 2
          → Invariant c (picture g order
          (put_at h (PayloadOf (b.held o) j) (build_payload c.width b o j)) names
          (with_task_build tasks t (Some (record b { step = j + 3 }))))
      writes_payload j few step =
          goes g order (put_at h (PayloadOf (b.held o) j) (build_payload c.width b o j)) names
          (Some (record b { step = j + 3 })) (WritePayload t o j) (guard (j + 2) step, few)
          (ap (λ (y : Build). record (picture g order
          (put_at h (PayloadOf (y.held o) j) (build_payload c.width y o j)) names tasks) {
            builds = changed (λ u. (tasks u).build) t (Some (record y { step = j + 3 }));
          }) at_it)

      pub writes_colour : b.step ≡ payloads c.width + 2
          → Invariant c (picture g order
          (put_at h (ColourOf (b.held o)) (black_word (cycle_of (h Phase)))) names
          (with_task_build tasks t (Some (record b { left = o; step = 0 }))))
      writes_colour step =
          goes g order (put_at h (ColourOf (b.held o)) (black_word (cycle_of (h Phase)))) names
          (Some (record b { left = o; step = 0 })) (WriteColour t o)
          (guard (payloads c.width + 2) step)
          (ap (λ (y : Build). record (picture g order
          (put_at h (ColourOf (y.held o)) (black_word (cycle_of (h Phase)))) names tasks) {
            builds = changed (λ u. (tasks u).build) t (Some (record y { left = o; step = 0 }));
          }) at_it)

    pub publishes : (d work : ℕ) → b.collected ≡ build_blocks c.width b → b.left ≡ 0
        → d < REGISTERS → (tasks t).loading ≡ unloaded
        → Invariant c (picture
        (with_register (with_object g t (new_object b.kind b.size)) t d (Ref (next_name g t)))
        (order ++ Did (record {
          thread = t;
          command = making b.kind d b.size;
          reply = replies.New (next_name g t);
          work = work;
        }) ∷ [])
        (put_at h (PayloadOf (register_block c.width t d) (register_slot c.width d))
        (reference_word (b.held 0)))
        (names_made names (next_name g t) b.held) (with_task_build tasks t None))
    publishes d work all written fits idle =
        let a : Name = next_name g t in
        let p : Place = PayloadOf (register_block c.width t d) (register_slot c.width d) in
        goes (with_register (with_object g t (new_object b.kind b.size)) t d (Ref a))
        (order ++ Did (record {
          thread = t;
          command = making b.kind d b.size;
          reply = replies.New a;
          work = work;
        }) ∷ [])
        (put_at h p (reference_word (b.held 0))) (names_made names a b.held) None
        (Publish t d work) (
          builds_it c now t b low is,
          subst (λ (y : Build). y.collected ≡ build_blocks c.width y) (sym at_it) all,
          subst (λ (y : Build). y.left ≡ 0) (sym at_it) written,
          fits,
          idle,
        )
        (ap (λ (y : Build). record (picture
        (with_register (with_object g t (new_object y.kind y.size)) t d (Ref a))
        (order ++ Did (record {
          thread = t;
          command = making y.kind d y.size;
          reply = replies.New a;
          work = work;
        }) ∷ [])
        (put_at h p (reference_word (y.held 0))) (names_made names a y.held) tasks) {
          builds = changed (λ u. (tasks u).build) t None;
        }) at_it)
