-- What is published, and to what it links.
use Rattle.std.proofs.Common.{
  ◌≡◌,
  ◌≢◌,
  ℕ,
  suc,
  ◌<◌,
  ◌≤◌,
  ◌+◌,
  true,
  false,
  Option,
  Some,
  None,
  refl,
  arith,
  subst,
  sym,
  ap,
  inl,
  inr,
  eq-eqb,
  ne_eqb,
  List,
  [],
  ◌∷◌,
}
use Rattle.std.proofs.lemmas.Bool.{cases_Bool}
use Rattle.block_store.specs.declared.Config.{Config}
use Rattle.block_store.specs.declared.Width.{Width}
use Rattle.block_store.specs.Colours.{black_word}
use Rattle.block_store.specs.Heaps.{Heap, put_at}
use Rattle.block_store.specs.Payloads.{target, reference_word}
use Rattle.block_store.specs.Registers.{register_block, register_slot, registers_end}
use Rattle.block_store.proofs.Lemmas.{register_low, target-nil, target-reference, times_more}
use Rattle.block_store.specs.Places.{Extent, extent, ColourOf, PayloadOf}
use Rattle.object_lists.specs.Parts.{Link, Field, Blank, link_in}
use Rattle.never_heap.specs.declared.Command.{Command}
use Rattle.never_heap.specs.Steps.{blocks_of}
use Rattle.block_store.specs.Counts.{times}
use Rattle.heap_machine.specs.Operations.{Exchange, heap_after}
use Rattle.build_steps.specs.declared.rows.BuildRow.{BuildRow}
use Rattle.build_steps.specs.declared.rows.BuildRow.TheVariants.{
  Collect,
  WritePayload,
  Publish,
  Built,
}
use Rattle.build_steps.specs.Objects.{made_register, made_part, block_at, link_word}
use Rattle.build_steps.specs.Rows.{
  BuildState,
  built_at,
  built_payload,
  made_place,
  row_want,
  row_got,
  held_got,
  build_want,
  build_got,
  building,
}
use Rattle.build_steps.specs.Fits.{BuildFits}
use Rattle.build_steps.specs.LinearizationPoints.{is_publishing, is_built}
use Rattle.build_steps.specs.Standing.{
  IsWhole,
  left_of,
  Stands,
  HeldOnce,
  is_of_block,
  AllRead,
  build_after,
  heap_written,
}
use Rattle.build_steps.proofs.Parts.{links_onward}
use Rattle.build_steps.proofs.RowsFit.{fits_next}
use Rattle.build_steps.proofs.WrittenBlocks.{whole_elsewhere, keeps_standing, first_stands}
use Rattle.build_steps.proofs.WantedPlaces.{register_in_range}

link_black : (h : Heap) (held : List ℕ) (b : ℕ) (r : Option ℕ)
    → ((p : ℕ) → r ≡ Some p → h (ColourOf (block_at held p)) ≡ b)
    → target (link_word held r) ≢ 0 → h (ColourOf (target (link_word held r))) ≡ b
link_black h held b None black ne = absurd (ne target-nil)
link_black h held b (Some p) black ne =
    subst (λ x. h (ColourOf x) ≡ b) (sym (target-reference (block_at held p))) (black p refl)

-- to whatever ordinal o links, its block is black already
pub links_black : (w : Width) (h : Heap) (s : BuildState) (o j : ℕ)
    → s.blocks ≡ blocks_of w s.command
    → Stands w h s → left_of s.blocks s.row ≤ suc o → target (built_payload w s o j) ≢ 0
    → h (ColourOf (target (built_payload w s o j))) ≡ black_word s.cycle
links_black w h s o j size k left ne =
    link_black h s.held (black_word s.cycle) (link_in (made_part w s.command o j))
    (λ p e. (let on = links_onward w s.command o j p e in
    let onward = on.0 in
    let low = on.1 in
    (k.whole p (omega arith) (omega arith)).black)) ne

row_links_black : (w : Width) (h : Heap) (s : BuildState) (o j : ℕ)
    → s.blocks ≡ blocks_of w s.command
    → Stands w h s → s.row ≡ WritePayload o j → target (built_payload w s o j) ≢ 0
    → h (ColourOf (target (built_payload w s o j))) ≡ black_word s.cycle
row_links_black w h s o j size k e ne =
    let left : left_of s.blocks s.row ≡ o + 1 = ap (left_of s.blocks) e in
    links_black w h s o j size k (omega arith) ne

pub written_links_black : (c : Config) (h : Heap) (s : BuildState) (o j : ℕ) → BuildFits c s
    → Stands c.width h s → s.row ≡ WritePayload o j → target (built_payload c.width s o j) ≢ 0
    → h (ColourOf (target (built_payload c.width s o j))) ≡ black_word s.cycle
written_links_black c h s o j f k e ne = row_links_black c.width h s o j f.size k e ne

pub links_as_laid : (w : Width) (s : BuildState) (o j p : ℕ) → made_part w s.command o j ≡ Link p
    → built_payload w s o j ≡ reference_word (built_at s p)
links_as_laid w s o j p e = ap (λ q. link_word s.held (link_in q)) e

pub fields_are_nil : (w : Width) (s : BuildState) (o j i : ℕ) → made_part w s.command o j ≡ Field i
    → built_payload w s o j ≡ 0
fields_are_nil w s o j i e = ap (λ q. link_word s.held (link_in q)) e

pub blanks_are_nil : (w : Width) (s : BuildState) (o j : ℕ) → made_part w s.command o j ≡ Blank
    → built_payload w s o j ≡ 0
blanks_are_nil w s o j e = ap (λ q. link_word s.held (link_in q)) e

row_publishes : (k : ℕ) (r : BuildRow) → is_publishing r ≡ true → r ≡ Publish
row_publishes k Publish e = refl
row_publishes k _ e = absurd (let z : false ≡ true = e in cc)

pub publishes_whole : (w : Width) (h : Heap) (s : BuildState) → Stands w h s
    → is_publishing s.row ≡ true → (o : ℕ) → o < s.blocks → IsWhole w h s o
publishes_whole w h s k e o low =
    let left : left_of s.blocks s.row ≡ 0 = ap (left_of s.blocks) (row_publishes 0 s.row e) in
    k.whole o (omega arith) low

pub publish_event : (c : Config) (s : BuildState) → is_publishing s.row ≡ true
    → build_want (extent c) s ≡ Exchange (made_place c.width s) (reference_word (built_at s 0))
publish_event c s e = ap (row_want c.width s) (row_publishes 0 s.row e)

-- the register is in no block after the registers
register_off : (c : Config) (s : BuildState) (x : ℕ) → BuildFits c s
    → registers_end c.width (s.thread + 1) < x
    → is_of_block x (made_place c.width s) ≡ false
register_off c s x f behind =
    let low = register_in_range s.command f.range in
    let high = register_low c.width (s.thread + 1) s.thread (made_register s.command) (omega arith)
    low in
    ne_eqb (register_block c.width s.thread (made_register s.command)) x (λ e. omega arith)

put_whole : (c : Config) (h : Heap) (s : BuildState) (o : ℕ) → BuildFits c s
    → registers_end c.width (s.thread + 1) < built_at s o → IsWhole c.width h s o
    → IsWhole c.width (put_at h (made_place c.width s) (reference_word (built_at s 0))) s o
put_whole c h s o f behind k =
    whole_elsewhere c.width h s (made_place c.width s) (reference_word (built_at s 0)) o
    (register_off c s (built_at s o) f behind) k

pub published_whole : (c : Config) (h : Heap) (s : BuildState) → BuildFits c s
    → Stands c.width h s → is_publishing s.row ≡ true → (o : ℕ) → o < s.blocks
    → registers_end c.width (s.thread + 1) < built_at s o
    → IsWhole c.width (heap_after h (build_want (extent c) s)) s o
published_whole c h s f k e o low behind =
    subst (λ op. IsWhole c.width (heap_after h op) s o) (sym (publish_event c s e))
    (put_whole c h s o f behind (publishes_whole c.width h s k e o low))

here : (h : Heap) (x j v : ℕ) → put_at h (PayloadOf x j) v (PayloadOf x j) ≡ v
here h x j v = rw (eq-eqb x x refl, eq-eqb j j refl) refl

pub register_refers : (c : Config) (h : Heap) (s : BuildState) → is_publishing s.row ≡ true
    → heap_after h (build_want (extent c) s) (made_place c.width s)
    ≡ reference_word (built_at s 0)
register_refers c h s e =
    subst (λ op. heap_after h op (made_place c.width s) ≡ reference_word (built_at s 0))
    (sym (publish_event c s e))
    (here h (register_block c.width s.thread (made_register s.command))
    (register_slot c.width (made_register s.command)) (reference_word (built_at s 0)))

-- what is held stays held
row_grows : (held : List ℕ) (r : BuildRow) (x : ℕ) → times x held ≤ times x (held_got held r)
row_grows held (Collect a u) x = omega (arith, times_more held a x)
row_grows held _ x = omega arith

pub held_grows : (e : Extent) (s : BuildState) (vs : List ℕ) (x : ℕ)
    → times x s.held ≤ times x (build_after e s vs).held
held_grows e s [] x = omega arith
held_grows e s (v ∷ vs) x =
    omega (arith, row_grows s.held s.row x, held_grows e (build_got e s v) vs x)

built_row : (w : Width) (s : BuildState) (r : BuildRow) (v : ℕ) → is_built r ≡ true
    → is_built (row_got w s r v) ≡ true
built_row w s Built v e = refl
built_row w s _ v e = absurd (let z : false ≡ true = e in cc)

built_stays : (e : Extent) (s : BuildState) (vs : List ℕ) → is_built s.row ≡ true
    → is_built (build_after e s vs).row ≡ true
built_stays e s [] is = is
built_stays e s (v ∷ vs) is = built_stays e (build_got e s v) vs (built_row e.width s s.row v is)

not_both : (r : BuildRow) → is_built r ≡ true → is_publishing r ≡ true → ⊥
not_both Built a b = let z : false ≡ true = b in cc
not_both _ a b = let z : false ≡ true = a in cc

publish_builds : (w : Width) (s : BuildState) (r : BuildRow) (v : ℕ) → is_publishing r ≡ true
    → is_built (row_got w s r v) ≡ true
publish_builds w s Publish v e = refl
publish_builds w s _ v e = absurd (let z : false ≡ true = e in cc)

-- a part that is about to publish has not published
not_yet : (e : Extent) (s : BuildState) (v : ℕ) (vs : List ℕ)
    → is_publishing (build_after e (build_got e s v) vs).row ≡ true → is_publishing s.row ≡ false
not_yet e s v vs last = elim (cases_Bool (is_publishing s.row)) [
  | inl is ↦ absurd (not_both (build_after e (build_got e s v) vs).row
      (built_stays e (build_got e s v) vs (publish_builds e.width s s.row v is)) last)
  | inr is ↦ is
]

through : (c : Config) (h : Heap) (s : BuildState) (vs : List ℕ) → BuildFits c s → AllRead c s vs
    → HeldOnce (build_after (extent c) s vs).held
    → is_publishing (build_after (extent c) s vs).row ≡ true → Stands c.width h s
    → Stands c.width (heap_written (extent c) h s vs) (build_after (extent c) s vs)
through c h s [] f reads once last k = k
through c h s (v ∷ vs) f reads once last k =
    through c (heap_after h (build_want (extent c) s)) (build_got (extent c) s v) vs
    (fits_next c s v f reads.0) reads.1 once last
    (keeps_standing c h s v f
    (λ x. omega (arith, once x, held_grows (extent c) s (v ∷ vs) x))
    (not_yet (extent c) s v vs last) k)

pub events_build : (c : Config) (h : Heap) (t n cycle serial : ℕ) (k : Command) (capacity : ℕ)
    (vs : List ℕ) (s : BuildState)
    → s ≡ build_after (extent c) (building c.width t n cycle serial k capacity) vs
    → BuildFits c (building c.width t n cycle serial k capacity)
    → AllRead c (building c.width t n cycle serial k capacity) vs
    → HeldOnce s.held → is_publishing s.row ≡ true → (o : ℕ) → o < s.blocks
    → IsWhole c.width
    (heap_written (extent c) h (building c.width t n cycle serial k capacity) vs) s o
events_build c h t n cycle serial k capacity vs s e f reads once last =
    let first = building c.width t n cycle serial k capacity in
    let g = heap_written (extent c) h first vs in
    let same : build_after (extent c) first vs ≡ s = sym e in
    let stands = through c h first vs f reads
    (subst (λ (z : BuildState). HeldOnce z.held) e once)
    (subst (λ (z : BuildState). is_publishing z.row ≡ true) e last)
    (first_stands c.width h t n cycle serial k capacity) in
    publishes_whole c.width g s (subst (λ z. Stands c.width g z) same stands) last
