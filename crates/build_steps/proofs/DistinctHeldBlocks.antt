-- No block is held twice, and what is held and not black yet is Free.
use Rattle.std.proofs.Common.{
  ◌≡◌,
  ℕ,
  ◌<◌,
  ◌≤◌,
  ◌+◌,
  ◌&&◌,
  true,
  arith,
  subst,
  ap,
  inl,
  inr,
  List,
  [],
  ◌∷◌,
  ◌++◌,
  length,
}
use Rattle.std.proofs.lemmas.Bool.{cases_eq, and_parts}
use Rattle.block_store.specs.declared.Config.{Config}
use Rattle.block_store.specs.Colours.{is_free, link}
use Rattle.block_store.specs.Heaps.{Heap}
use Rattle.block_store.specs.Places.{extent, is_block, ColourOf}
use Rattle.block_store.specs.Counts.{changed, times}
use Rattle.heap_machine.specs.FreeBlocks.{FreeInHand}
use Rattle.heap_machine.specs.WorkInHand.{WorkInHand, free_held}
use Rattle.heap_machine.specs.Operations.{place_of}
use Rattle.heap_machine.specs.ReuseKept.{ReuseKept}
use Rattle.heap_machine.proofs.FreeBlocks.{free_held as held_is_free}
use Rattle.block_store.proofs.Lemmas.{bit_le, bit_one, changed_here}
use Rattle.build_steps.specs.declared.rows.BuildRow.{BuildRow}
use Rattle.build_steps.specs.declared.rows.BuildRow.TheVariants.{
  ReadCount,
  Reserve,
  TakeFree,
  Collect,
  PutRest,
  WriteOwner,
  WriteShape,
  WritePayload,
  WriteColour,
  Publish,
  Built,
  Refused,
}
use Rattle.build_steps.specs.Objects.{block_at}
use Rattle.build_steps.specs.Rows.{
  BuildState,
  built_at,
  held_got,
  build_want,
  build_got,
  row_in_hand,
  build_in_hand,
}
use Rattle.build_steps.specs.Fits.{RowFits, BuildFits}
use Rattle.build_steps.specs.Standing.{HeldOnce, left_of}
use Rattle.build_steps.proofs.Held.{stands_once, first_has}
use Rattle.build_steps.proofs.ReuseRulesKept.{collected}
use Rattle.build_steps.proofs.WrittenBlocks.{one_ordinal}

pub one_place : (held : List ℕ) (i j : ℕ) → HeldOnce held → i < length held → j < length held
    → block_at held i ≡ block_at held j → i ≡ j
one_place held i j once ilow jlow e = elim (cases_eq i j) [
  | inl q ↦ q
  | inr ne ↦ absurd (one_ordinal held i j once ilow jlow ne e)
]

module _ (c : Config) (h : Heap) (hs : ℕ → WorkInHand) (s : BuildState) (f : BuildFits c s)
    (k : ReuseKept (extent c) h hs) where
  low : s.thread < c.threads
  low = subst (λ n. s.thread < n) f.threads f.thread

  once_more : (a u : ℕ) → 1 ≤ a → length s.held < s.blocks
      → hs s.thread ≡ row_in_hand s.blocks s.held (Collect a u) → HeldOnce (s.held ++ a ∷ [])
  once_more a u pos few e x =
      let fs : ℕ → FreeInHand = λ v. free_held (hs v) in
      let w : FreeInHand = record {
        list = link (h (ColourOf a));
        emptied = true;
        held = s.held ++ a ∷ [];
        reserved = s.blocks;
        freed = 0;
      } in
      let free = collected (extent c) h hs k s f.threads f.some f.thread low a u pos few e in
      let there = held_is_free (extent c) h (changed fs s.thread w) free s.thread x low in
      let same : times x (changed fs s.thread w s.thread).held ≡ times x (s.held ++ a ∷ []) =
      ap (λ (z : FreeInHand). times x z.held) (changed_here fs s.thread w) in
      omega (arith, bit_le (is_block (extent c) x && is_free (h (ColourOf x))))

  row_once : (r : BuildRow) → RowFits c s.blocks s.held r
      → hs s.thread ≡ row_in_hand s.blocks s.held r
      → HeldOnce s.held → HeldOnce (held_got s.held r)
  row_once (Collect a u) g e once = once_more a u g.0.0 g.2 e
  row_once _ g e once = once

  pub keeps_once : hs s.thread ≡ build_in_hand s → HeldOnce s.held
      → HeldOnce (build_got (extent c) s (h (place_of (build_want (extent c) s)))).held
  keeps_once e once = row_once s.row f.row e once

pub row_holds : (c : Config) (k : ℕ) (held : List ℕ) (r : BuildRow) (o : ℕ) → RowFits c k held r
    → o < length held → o < left_of k r
    → 1 ≤ times (block_at held o) (row_in_hand k held r).held
row_holds c k held ReadCount o f low left =
    absurd (let none : length held ≡ 0 = ap length f in omega arith)
row_holds c k held (Reserve seen) o f low left =
    absurd (let none : length held ≡ 0 = ap length f.0 in omega arith)
row_holds c k held (TakeFree u) o f low left = stands_once held o low
row_holds c k held (Collect a u) o f low left = stands_once held o low
row_holds c k held (PutRest a) o f low left = stands_once held o low
row_holds c k held (WriteOwner p) o f low left = first_has (p + 1) held o left low
row_holds c k held (WriteShape p) o f low left = first_has (p + 1) held o left low
row_holds c k held (WritePayload p j) o f low left = first_has (p + 1) held o left low
row_holds c k held (WriteColour p) o f low left = first_has (p + 1) held o left low
row_holds c k held Publish o f low left = absurd (omega arith)
row_holds c k held Built o f low left = absurd (omega arith)
row_holds c k held Refused o f low left =
    absurd (let none : length held ≡ 0 = ap length f in omega arith)

pub holds_left : (c : Config) (s : BuildState) (o : ℕ) → BuildFits c s → o < length s.held
    → o < left_of s.blocks s.row → 1 ≤ times (built_at s o) (build_in_hand s).held
holds_left c s o f low left = row_holds c s.blocks s.held s.row o f.row low left

pub left_free : (c : Config) (h : Heap) (hs : ℕ → WorkInHand) (s : BuildState) (o : ℕ)
    → BuildFits c s → ReuseKept (extent c) h hs → hs s.thread ≡ build_in_hand s
    → o < length s.held → o < left_of s.blocks s.row
    → is_free (h (ColourOf (built_at s o))) ≡ true
left_free c h hs s o f k e low left =
    let x = built_at s o in
    let mine : s.thread < c.threads = subst (λ n. s.thread < n) f.threads f.thread in
    let there = held_is_free (extent c) h (λ u. free_held (hs u)) k.free s.thread x mine in
    let same : times x (hs s.thread).held ≡ times x (build_in_hand s).held =
    ap (λ (w : WorkInHand). times x w.held) e in
    let both = bit_one (is_block (extent c) x && is_free (h (ColourOf x)))
    (omega (arith, holds_left c s o f low left)) in
    (and_parts (is_block (extent c) x) (is_free (h (ColourOf x))) both).1
