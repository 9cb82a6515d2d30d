-- The event that decides a command which makes an object keeps the rules of kept names: it is
-- answered full, or the object is published.
use Rattle.std.proofs.Common.{◌≡◌, ℕ, ◌<◌, ◌≤◌, ◌&&◌, true, false, Option, Some, None, refl, subst, sym, ap, ◌∙◌, inr, ltb, List, [], ◌∷◌, ◌++◌}
use Rattle.block_store.specs.declared.Config.{Config}
use Rattle.block_store.specs.declared.Width.{Width}
use Rattle.block_store.specs.Configs.{IsInBounds}
use Rattle.block_store.specs.Heaps.{Heap}
use Rattle.block_store.specs.Places.{extent}
use Rattle.never_heap.specs.declared.Reply.{Reply}
use Rattle.never_heap.specs.declared.Reply.TheVariants as answers
use Rattle.never_heap.specs.Graphs.{Graph, next_name}
use Rattle.never_heap.specs.Histories.{HistoryItem, Did}
use Rattle.never_heap.specs.Steps.{blocks_of, step}
use Rattle.never_heap.proofs.Lemmas.{blocks_answer, blocks_make}
use Rattle.heap_invariant.specs.name_invariant.Invariant.{Invariant}
use Rattle.heap_invariant.specs.name_invariant.Pictures.{Names, Task, picture}
use Rattle.heap_machine.specs.WorkInHand.{WorkInHand}
use Rattle.heap_machine.specs.Operations.{place_of, heap_after}
use Rattle.build_steps.specs.declared.rows.BuildRow.{BuildRow}
use Rattle.build_steps.specs.declared.rows.BuildRow.TheVariants.{ReadCount, Publish}
use Rattle.build_steps.specs.LinearizationPoints.{is_counting, is_publishing}
use Rattle.build_steps.specs.Fits.{RowFits}
use Rattle.build_steps.specs.Naming.{
  IsPictured,
  built_entry,
  built_object,
  names_made,
  row_build,
  with_task_build,
  word_read,
}
use Rattle.build_steps.specs.Objects.{made_register}
use Rattle.build_steps.specs.Rows.{
  BuildState,
  build_got,
  build_reply,
  build_want,
  built_at,
  full_cycle,
  held_got,
  row_got,
  row_reply,
  row_want,
}
use Rattle.build_steps.proofs.BuildOfState.{sized, thread_low}
use Rattle.build_steps.proofs.Pictures.{answered, pictured_self, publishes}
use Rattle.build_steps.proofs.Parts.{has_blocks}
use Rattle.build_steps.proofs.Shapes.{command_made, graph_made}
use Rattle.build_steps.proofs.WantedPlaces.{register_in_range}

module _ (c : Config) (g : Graph) (order : List HistoryItem) (h : Heap) (names : Names)
    (tasks : ℕ → Task) (hs : ℕ → WorkInHand) (s : BuildState)
    (p : IsPictured c g order h names tasks hs s) where
  abbrev W : Width
  W = c.width

  low : s.thread < c.threads
  low = thread_low c s p.fits

  some : 1 ≤ blocks_of W s.command
  some = has_blocks c s p.fits

  new_reply : (step g s.thread s.command).1 ≡ answers.New (next_name g s.thread)
  new_reply = blocks_answer W g s.thread s.command some

  -- the reply after the event of row r, which read v
  abbrev answer : BuildRow → ℕ → Option Reply
  answer r v = row_reply (record s { held = held_got s.held r; row = row_got W s r v })
      (row_got W s r v)

  made_row : (r : BuildRow) (v : ℕ) → is_publishing r ≡ true
      → answer r v ≡ Some (step g s.thread s.command).1
  made_row Publish v e =
      ap (λ a. Some (answers.New a)) (sym p.title) ∙ sym (ap Some new_reply)
  made_row _ v e = absurd (let z : false ≡ true = e in cc)

  pub replies : (v : ℕ) → is_publishing s.row ≡ true
      → (build_reply (build_got (extent c) s v) ≡ Some (step g s.thread s.command).1)
      × ((step g s.thread s.command).1 ≡ answers.New (next_name g s.thread))
  replies v e = (made_row s.row v e, new_reply)

  module _ (inside : IsInBounds c) (work : ℕ) where
    abbrev read : BuildRow → ℕ
    read r = h (place_of (row_want W s r))

    -- the rules hold where the order has one entry more, with this reply
    abbrev DecidedAt : Graph → Heap → Names → Reply → Type 0
    DecidedAt g' j names' reply = Invariant c (picture g'
        (order ++ Did (built_entry s reply work) ∷ []) j names'
        (with_task_build tasks s.thread None))

    full_row : (r : BuildRow) → (tasks s.thread).build ≡ row_build W s r
        → (is_counting r && ltb (read r) s.blocks) ≡ true
        → DecidedAt g (heap_after h (row_want W s r)) names (answers.Full (full_cycle s.cycle))
    full_row ReadCount build e =
        let entry = built_entry s (answers.Full (full_cycle s.cycle)) work in
        subst (λ k. Invariant c k)
        (pictured_self g (order ++ Did entry ∷ []) h names tasks s.thread None build)
        (answered c inside g order h names tasks s.thread low p.kept entry low p.loading
        (inr (refl, blocks_make W s.command some)) refl)
    full_row _ build e = absurd (let z : false ≡ true = e in cc)

    publish_row : (r : BuildRow) → RowFits c s.blocks s.held r
        → (tasks s.thread).build ≡ row_build W s r → is_publishing r ≡ true
        → DecidedAt (step g s.thread s.command).0 (heap_after h (row_want W s r))
        (names_made names (next_name g s.thread) (built_at s)) (step g s.thread s.command).1
    publish_row Publish all build e =
        subst (λ k. Invariant c k) (λ i. picture (graph_made W g s.thread s.command some i)
        (order ++ Did (record {
          thread = s.thread;
          command = command_made W s.command some i;
          reply = sym new_reply i;
          work = work;
        }) ∷ [])
        (heap_after h (row_want W s Publish))
        (names_made names (next_name g s.thread) (built_at s))
        (with_task_build tasks s.thread None))
        (publishes c inside g order h names tasks s.thread low p.kept (built_object s 0 0) build
        (made_register s.command) work (all ∙ sym (sized c s p.fits 0 0)) refl
        (register_in_range s.command p.fits.range) p.loading)
    publish_row _ all build e = absurd (let z : false ≡ true = e in cc)

    pub full : (is_counting s.row && ltb (word_read c h s) s.blocks) ≡ true
        → DecidedAt g (heap_after h (build_want (extent c) s)) names
        (answers.Full (full_cycle s.cycle))
    full e = full_row s.row p.build e

    pub published : is_publishing s.row ≡ true
        → DecidedAt (step g s.thread s.command).0 (heap_after h (build_want (extent c) s))
        (names_made names (next_name g s.thread) (built_at s)) (step g s.thread s.command).1
    published e = publish_row s.row p.fits.row p.build e
