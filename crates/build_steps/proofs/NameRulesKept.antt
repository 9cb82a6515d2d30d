-- Each event of a thread that builds keeps the rules of kept names on the picture of the heap.
use Rattle.std.proofs.Common.{◌≡◌, ℕ, zero, suc, ◌<◌, ◌≤◌, ◌+◌, ◌-◌, ◌&&◌, ◌||◌, true, false, Option, Some, None, refl, arith, subst, sym, ap, ◌∙◌, inl, inr, eqb, ltb, eq-eqb, ne_eqb, ltb-false, List, [], ◌∷◌, ◌++◌, length, take, ◌^◌}
use Rattle.std.proofs.lemmas.Bool.{cases_Bool, cases_eq, cases_lt, and_parts}
use Rattle.block_store.specs.declared.Config.{Config}
use Rattle.block_store.specs.declared.Name.{Name}
use Rattle.block_store.specs.declared.Width.{Width}
use Rattle.block_store.specs.Colours.{is_free, link, black_word}
use Rattle.block_store.specs.Configs.{IsInBounds}
use Rattle.block_store.specs.Counts.{changed, times}
use Rattle.block_store.specs.Heaps.{Heap, put_at}
use Rattle.block_store.specs.Phases.{bit}
use Rattle.block_store.specs.Places.{FreeCount, FreeList, ColourOf, ShapeOf, PayloadOf, extent, is_block}
use Rattle.block_store.specs.Registers.{registers_end}
use Rattle.block_store.specs.Widths.{payloads}
use Rattle.block_store.proofs.Lemmas.{bit_le, funext}
use Rattle.never_heap.specs.Graphs.{Graph, count_of}
use Rattle.never_heap.specs.Histories.{HistoryItem}
use Rattle.never_heap.specs.Steps.{length_made}
use Rattle.heap_invariant.specs.graph_relation.Layouts.{layout_blocks}
use Rattle.heap_invariant.specs.name_invariant.Building.{Build, IsHeldOnce}
use Rattle.heap_invariant.specs.name_invariant.Events.{reserved, IsFreeBlock}
use Rattle.heap_invariant.specs.name_invariant.Invariant.{Invariant}
use Rattle.heap_invariant.specs.name_invariant.Pictures.{Names, Task, picture}
use Rattle.heap_invariant.proofs.Lemmas.{some_is}
use Rattle.heap_machine.specs.FreeBlocks.{FreeInHand}
use Rattle.heap_machine.specs.WorkInHand.{WorkInHand, free_held}
use Rattle.heap_machine.specs.Operations.{place_of, heap_after}
use Rattle.heap_machine.proofs.Lemmas.{free_in_hand, free_one_held}
use Rattle.heap_machine.proofs.FreeBlocks.{free_held as held_is_free}
use Rattle.build_steps.specs.declared.rows.BuildRow.{BuildRow}
use Rattle.build_steps.specs.declared.rows.BuildRow.TheVariants.{
  ReadCount,
  Reserve,
  TakeFree,
  Collect,
  PutRest,
  WriteOwner,
  WriteShape,
  WritePayload,
  WriteColour,
  Publish,
  Built,
  Refused,
}
use Rattle.build_steps.specs.LinearizationPoints.{decides, is_counting, is_publishing}
use Rattle.build_steps.specs.Fits.{RowFits}
use Rattle.build_steps.specs.Naming.{IsPictured, build_of, built_object, made_kind, row_build, with_task_build, word_read}
use Rattle.build_steps.specs.Objects.{block_at}
use Rattle.build_steps.specs.Rows.{BuildState, after_collect, after_colour, after_payload, after_take, build_got, build_want, built_at, held_got, holds_first, list_of, row_got, row_in_hand, row_want}
use Rattle.build_steps.proofs.BuildOfState.{sized, thread_low}
use Rattle.build_steps.proofs.LinearizationPoints.{either}
use Rattle.build_steps.proofs.Held.{first_has, times_first}
use Rattle.build_steps.proofs.Pictures.{
  collects,
  pictured_self,
  reserves,
  writes_colour,
  writes_owner,
  writes_payload,
  writes_shape,
}
use Rattle.build_steps.proofs.RowsFit.{at_last, at_more, length_more}
use Rattle.build_steps.proofs.Parts.{has_blocks}
use Rattle.build_steps.proofs.Shapes.{payload_made, shape_made}

none_beyond : (xs : List ℕ) (o : ℕ) → length xs ≤ o → block_at xs o ≡ 0
none_beyond [] o high = refl
none_beyond (x ∷ xs) zero high = absurd (omega arith)
none_beyond (x ∷ xs) (suc o) high = none_beyond xs o (omega arith)

-- one more block is held, for the next ordinal
held_more : (xs : List ℕ) (x : ℕ)
    → ◌≡◌ {A = ℕ → ℕ} (changed (block_at xs) (length xs) x) (block_at (xs ++ x ∷ []))
held_more xs x = funext _ _ (λ o. elim (cases_eq (length xs) o) [
  | inl e ↦ rw (eq-eqb (length xs) o e) (sym (at_last xs x o (sym e)))
  | inr ne ↦ rw (ne_eqb (length xs) o ne) (elim (cases_lt o (length xs)) [
    | inl low ↦ sym (at_more xs x o low)
    | inr high ↦ none_beyond xs o high
        ∙ sym (none_beyond (xs ++ x ∷ []) o (omega (arith, length_more xs x)))
  ])
])

-- a block that occurs once in a list is that of one ordinal
once_at : (xs : List ℕ) (o p : ℕ) → o < length xs → p < suc o
    → times (block_at xs o) (take (suc o) xs) ≤ 1 → block_at xs o ≡ block_at xs p → o ≡ p
once_at xs o p low plow one same = elim (cases_eq o p) [
  | inl e ↦ e
  | inr ne ↦ absurd (
      let there : 1 ≤ times (block_at xs p) (take o xs) =
      first_has o xs p (omega arith) (omega arith) in
      let here : times (block_at xs o) (take o xs) ≡ times (block_at xs p) (take o xs) =
      ap (λ x. times x (take o xs)) same in
      let self : bit (eqb (block_at xs o) (block_at xs o)) ≡ 1 =
      ap bit (eq-eqb (block_at xs o) (block_at xs o) refl) in
      omega (arith, times_first xs o (block_at xs o) low)
      )
]

-- the rows in which blocks are collected, and the first that writes
module _ (W : Width) (s : BuildState) where
  abbrev gathers : BuildRow → Type 0
  gathers r = row_build W s r ≡ Some (built_object s s.blocks 0)

  gathers_take : (n u v : ℕ) → gathers (after_take n u v)
  gathers_take n u v = either gathers (eqb v 0) _ _ refl refl

  gathers_first : 1 ≤ s.blocks → gathers (WriteOwner (s.blocks - 1))
  gathers_first some =
      let e : s.blocks - 1 + 1 ≡ s.blocks = omega arith in
      ap (λ n. Some (built_object s n 0)) e

  gathers_collect : (count a u : ℕ) → 1 ≤ s.blocks
      → gathers (after_collect s.blocks s.threads count a u)
  gathers_collect count a u some = either gathers (eqb count s.blocks) _ _
      (either gathers (eqb a 0) _ _ (gathers_first some) refl)
      (either gathers (eqb a 0) _ _ refl refl)

  next_payload : (o j : ℕ) → j < payloads W
      → row_build W s (after_payload (payloads W) o j) ≡ Some (built_object s (o + 1) (j + 3))
  next_payload o j low = elim (cases_Bool (ltb (j + 1) (payloads W))) [
    | inl more ↦ rw more
        (let e : j + 1 + 2 ≡ j + 3 = omega arith in ap (λ n. Some (built_object s (o + 1) n)) e)
    | inr last ↦
        let q = ltb-false (j + 1) (payloads W) last in
        let e : payloads W + 2 ≡ j + 3 = omega arith in
        rw last (ap (λ n. Some (built_object s (o + 1) n)) e)
  ]

  next_ordinal : (o : ℕ) → row_build W s (after_colour o) ≡ Some (built_object s o 0)
  next_ordinal o = elim (cases_eq o 0) [
    | inl z ↦ rw (eq-eqb o 0 z) (ap (λ n. Some (built_object s n 0)) (sym z))
    | inr nz ↦ rw (ne_eqb o 0 nz)
        (let e : o - 1 + 1 ≡ o = omega arith in ap (λ n. Some (built_object s n 0)) e)
  ]

module _ (c : Config) (inside : IsInBounds c) (g : Graph) (order : List HistoryItem) (h : Heap)
    (names : Names) (tasks : ℕ → Task) (hs : ℕ → WorkInHand) (s : BuildState)
    (p : IsPictured c g order h names tasks hs s) where
  abbrev W : Width
  W = c.width

  abbrev t : ℕ
  t = s.thread

  low : s.thread < c.threads
  low = thread_low c s p.fits

  -- the rules hold of the picture of a heap in which the thread is at build o
  abbrev KeptAt : Heap → Option Build → Type 0
  KeptAt j o = Invariant c (picture g order j names (with_task_build tasks s.thread o))

  -- what the thread builds stays
  stays : (o : Option Build) → (tasks s.thread).build ≡ o → KeptAt h o
  stays o is = subst (λ k. Invariant c k) (pictured_self g order h names tasks s.thread o is) p.kept

  few_names : count_of g s.thread + 1 < 2 ^ 43
  few_names =
      let same : count_of g s.thread + 1 ≡ s.serial = ap (λ (a : Name). a.serial) p.title in
      let few = p.fits.serial in
      omega arith

  few_threads : s.thread ≤ 16
  few_threads =
      let low = p.fits.thread in
      let few = p.fits.few in
      omega arith

  few_blocks : layout_blocks W (made_kind s.command) (length_made s.command) ≤ 1024
  few_blocks =
      let same = sized c s p.fits 0 0 in
      let most = p.fits.most in
      omega arith

  reserved_object : s.held ≡ []
      → reserved c (picture g order h names tasks) s.thread (made_kind s.command)
      (length_made s.command)
      ≡ built_object s s.blocks 0
  reserved_object none = λ i. record {
    name = p.title i;
    kind = made_kind s.command;
    size = length_made s.command;
    held = λ o. block_at (sym none i) o;
    collected = length (sym none i);
    left = sized c s p.fits 0 0 i;
    step = 0;
  }

  reserve_row : (v : ℕ) → s.held ≡ [] → (tasks s.thread).build ≡ None
      → KeptAt (put_at h FreeCount v) (Some (built_object s s.blocks 0))
  reserve_row v none build =
      subst (λ b. KeptAt (put_at h FreeCount v) (Some b)) (reserved_object none)
      (reserves c inside g order h names tasks s.thread low p.kept v (made_kind s.command)
      (length_made s.command) build few_names few_blocks few_threads)

  -- the first block of the private list is a Free one after the registers
  private_is_free : (a u : ℕ) → 1 ≤ a → a ≤ c.blocks → hs s.thread ≡ row_in_hand s.blocks s.held (Collect a u)
      → IsFreeBlock c (picture g order h names tasks) a
  private_is_free a u some high hold =
      let fs : ℕ → FreeInHand = λ v. free_held (hs v) in
      let list : (fs s.thread).list ≡ a = ap (λ (w : WorkInHand). w.free_list) hold in
      let there = free_in_hand (extent c) h fs p.reuse.free s.thread low (λ z. omega arith) in
      let at : (is_block (extent c) a && is_free (h (ColourOf a))) ≡ true =
      subst (λ x. (is_block (extent c) x && is_free (h (ColourOf x))) ≡ true) list there in
      let free = (and_parts (is_block (extent c) a) (is_free (h (ColourOf a))) at).1 in (
        elim (cases_lt (registers_end W c.threads) a) [
          | inl behind ↦ behind
          | inr in_array ↦ absurd (let z : true ≡ false = sym free
              ∙ p.kept.painted.arrays a (omega arith, in_array) in cc)
        ],
        high,
        free,
      )

  collect_row : (a u : ℕ) → 1 ≤ a → a ≤ c.blocks → length s.held < s.blocks
      → hs s.thread ≡ row_in_hand s.blocks s.held (Collect a u)
      → (tasks s.thread).build ≡ Some (built_object s s.blocks 0)
      → KeptAt h (Some (built_object (record s { held = s.held ++ a ∷ [] }) s.blocks 0))
  collect_row a u some high few hold build =
      let b : Build = built_object s s.blocks 0 in
      subst (λ x. KeptAt h (Some x)) (λ i. record {
        name = b.name;
        kind = b.kind;
        size = b.size;
        held = held_more s.held a i;
        collected = sym (length_more s.held a) i;
        left = s.blocks;
        step = 0;
      })
      (collects c inside g order h names tasks s.thread low p.kept b build a
      (omega (arith, sized c s p.fits s.blocks 0)) (private_is_free a u some high hold))

  -- of the blocks that are held and not coloured yet, only that of ordinal o is its block
  held_once : (o step : ℕ) → o < length s.held → hs s.thread ≡ holds_first (o + 1) s.held
      → (tasks s.thread).build ≡ Some (built_object s (o + 1) step)
      → IsHeldOnce c.threads (λ u. (tasks u).build) s.thread o (built_at s o)
  held_once o step here hold build u q b ulow is qlow left same =
      let fs : ℕ → FreeInHand = λ v. free_held (hs v) in
      let x = built_at s o in
      let next : o + 1 ≡ suc o = omega arith in
      let held : (fs s.thread).held ≡ take (suc o) s.held =
      ap (λ (w : WorkInHand). w.held) hold ∙ ap (λ n. take n s.held) next in
      let count : times x (fs s.thread).held ≡ times x (take (suc o) s.held) =
      ap (λ ys. times x ys) held in
      let mine : 1 ≤ times x (fs s.thread).held =
      omega (arith, first_has (suc o) s.held o (omega arith) here) in
      let other : 1 ≤ times (b.held q) (hs u).held =
      some_is (λ (b : Build). (o : ℕ) → o < b.collected → o < b.left
      → 1 ≤ times (b.held o) (hs u).held) (tasks u).build b is (p.builds u ulow) q qlow left in
      let theirs : 1 ≤ times x (fs u).held =
      subst (λ y. 1 ≤ times y (hs u).held) (sym same) other in
      let one : s.thread ≡ u =
      free_one_held (extent c) h fs p.reuse.free s.thread u x low ulow mine theirs in
      let own : b ≡ built_object s (o + 1) step =
      (let z : Some b ≡ Some (built_object s (o + 1) step) =
      sym is ∙ ap (λ v. (tasks v).build) (sym one) ∙ build in cc) in
      let most : times x (take (suc o) s.held) ≤ 1 =
      omega (
        arith,
        held_is_free (extent c) h fs p.reuse.free s.thread x low,
        bit_le (is_block (extent c) x && is_free (h (ColourOf x))),
      ) in (
        one,
        once_at s.held o q here
            (omega (arith, subst (λ (y : Build). q < y.left) own left)) most
            (same ∙ ap (λ (y : Build). y.held q) own),
      )

  -- the thread writes the block of ordinal o
  module _ (o : ℕ) (all : length s.held ≡ s.blocks) (here : o < s.blocks)
      (hold : hs s.thread ≡ holds_first (o + 1) s.held) where
    owner_row : (tasks s.thread).build ≡ Some (built_object s (o + 1) 0)
        → KeptAt (heap_after h (row_want W s (WriteOwner o))) (Some (built_object s (o + 1) 1))
    owner_row build =
        writes_owner c inside g order h names tasks s.thread low p.kept
        (built_object s (o + 1) 0) build o (all ∙ sym (sized c s p.fits (o + 1) 0)) (omega arith)
        (held_once o 0 (omega arith) hold build) refl

    shape_row : (tasks s.thread).build ≡ Some (built_object s (o + 1) 1)
        → KeptAt (heap_after h (row_want W s (WriteShape o))) (Some (built_object s (o + 1) 2))
    shape_row build =
        subst (λ v. KeptAt (put_at h (ShapeOf (built_at s o)) v) (Some (built_object s (o + 1) 2)))
        (shape_made W s.command (has_blocks c s p.fits))
        (writes_shape c inside g order h names tasks s.thread low p.kept
        (built_object s (o + 1) 1) build o (all ∙ sym (sized c s p.fits (o + 1) 1)) (omega arith)
        (held_once o 1 (omega arith) hold build) refl)

    payload_row : (j : ℕ) → j < payloads W
        → (tasks s.thread).build ≡ Some (built_object s (o + 1) (j + 2))
        → KeptAt (heap_after h (row_want W s (WritePayload o j)))
        (Some (built_object s (o + 1) (j + 3)))
    payload_row j few build =
        subst (λ v. KeptAt (put_at h (PayloadOf (built_at s o) j) v)
        (Some (built_object s (o + 1) (j + 3))))
        (payload_made W s.command s.held o j (has_blocks c s p.fits))
        (writes_payload c inside g order h names tasks s.thread low p.kept
        (built_object s (o + 1) (j + 2)) build o (all ∙ sym (sized c s p.fits (o + 1) (j + 2)))
        (omega arith) (held_once o (j + 2) (omega arith) hold build) j few refl)

    colour_row : (tasks s.thread).build ≡ Some (built_object s (o + 1) (payloads W + 2))
        → KeptAt (heap_after h (row_want W s (WriteColour o))) (Some (built_object s o 0))
    colour_row build =
        subst (λ n. KeptAt (put_at h (ColourOf (built_at s o)) (black_word n))
        (Some (built_object s o 0))) p.cycle
        (writes_colour c inside g order h names tasks s.thread low p.kept
        (built_object s (o + 1) (payloads W + 2)) build o
        (all ∙ sym (sized c s p.fits (o + 1) (payloads W + 2))) (omega arith)
        (held_once o (payloads W + 2) (omega arith) hold build) refl)

  -- the state after the event of row r, which read v
  abbrev next : BuildRow → ℕ → BuildState
  next r v = record s { held = held_got s.held r; row = row_got W s r v }

  abbrev read : BuildRow → ℕ
  read r = h (place_of (row_want W s r))

  goes_row : (r : BuildRow) → RowFits c s.blocks s.held r
      → hs s.thread ≡ row_in_hand s.blocks s.held r
      → (tasks s.thread).build ≡ row_build W s r
      → (is_publishing r || (is_counting r && ltb (read r) s.blocks)) ≡ false
      → KeptAt (heap_after h (row_want W s r))
      (row_build W (next r (read r)) (row_got W s r (read r)))
  goes_row ReadCount f hold build e = rw e (stays None build)
  goes_row (Reserve seen) f hold build e = elim (cases_Bool (eqb (h FreeCount) seen)) [
    | inl won ↦ rw won (reserve_row (seen - s.blocks) f.0 build)
    | inr lost ↦ rw lost (stays None build)
  ]
  goes_row (TakeFree u) f hold build e =
      let v = list_of s.thread s.threads u in
      subst (λ o. KeptAt (put_at h (FreeList v) 0) o)
      (sym (gathers_take W s s.threads u (h (FreeList v))))
      (stays (Some (built_object s s.blocks 0)) build)
  goes_row (Collect a u) f hold build e =
      let v = h (ColourOf a) in
      subst (λ o. KeptAt h o)
      (sym (gathers_collect W (next (Collect a u) v) (length s.held + 1) (link v) u p.fits.some))
      (collect_row a u f.0.0 f.0.1 f.2 hold build)
  goes_row (PutRest a) f hold build e =
      subst (λ o. KeptAt (put_at h (FreeList s.thread) a) o)
      (sym (gathers_first W s p.fits.some))
      (stays (Some (built_object s s.blocks 0)) build)
  goes_row (WriteOwner o) f hold build e = owner_row o f.0 f.1 hold build
  goes_row (WriteShape o) f hold build e = shape_row o f.0 f.1 hold build
  goes_row (WritePayload o j) f hold build e =
      subst (λ b. KeptAt (heap_after h (row_want W s (WritePayload o j))) b)
      (sym (next_payload W s o j f.1)) (payload_row o f.0.0 f.0.1 hold j f.1 build)
  goes_row (WriteColour o) f hold build e =
      subst (λ b. KeptAt (heap_after h (row_want W s (WriteColour o))) b)
      (sym (next_ordinal W s o)) (colour_row o f.0 f.1 hold build)
  goes_row Publish f hold build e = absurd (let z : true ≡ false = e in cc)
  goes_row Built f hold build e = stays None build
  goes_row Refused f hold build e = stays None build

  pub goes_on : decides s (word_read c h s) ≡ false
      → KeptAt (heap_after h (build_want (extent c) s))
      (build_of W (build_got (extent c) s (word_read c h s)))
  goes_on e = goes_row s.row p.fits.row p.work_in_hand p.build e
