-- What a row wants: a place of the heap, and a word that the place can hold.
use Rattle.std.proofs.Common.{
  ◌≡◌,
  ℕ,
  ◌<◌,
  ◌≤◌,
  ◌+◌,
  true,
  Option,
  Some,
  None,
  is_some,
  IsSome,
  arith,
  refl,
  ap,
  sym,
  subst,
  leb,
  List,
  length,
  mod-lt,
  mod-eq_of_lt,
}
use Rattle.std.proofs.lemmas.Bool.{lt-ltb}
use Rattle.block_store.specs.declared.Config.{Config}
use Rattle.block_store.specs.declared.TheConstants.{REGISTERS}
use Rattle.block_store.specs.declared.Width.{Width}
use Rattle.block_store.specs.declared.Payload.TheVariants.{Nil, Block}
use Rattle.block_store.specs.declared.Shape.TheVariants as shapes
use Rattle.block_store.specs.WideOwners.{wide_of, wide_word}
use Rattle.block_store.specs.Payloads.{reference_word}
use Rattle.block_store.specs.Shapes.{shape_of}
use Rattle.block_store.specs.Widths.{payloads}
use Rattle.block_store.specs.Registers.{register_block, register_slot}
use Rattle.block_store.specs.Places.{extent, in_range, is_block, IsBlock, PayloadOf}
use Rattle.block_store.proofs.Lemmas.{block_in, colour-black, link-black, payload-code, read_wide, register_low, register_some, shape-code, slot_low, target-nil, target-reference}
use Rattle.object_lists.specs.Parts.{link_in}
use Rattle.never_heap.specs.declared.Command.{Command}
use Rattle.never_heap.specs.declared.Command.TheVariants.{New, Arr}
use Rattle.never_heap.specs.Bounds.{IsCommandInRange}
use Rattle.never_heap.specs.Steps.{blocks_of}
use Rattle.heap_machine.specs.Operations.{place_of, Fits}
use Rattle.heap_machine.specs.Readings.{CanHold, StoresHeld}
use Rattle.build_steps.specs.declared.rows.BuildRow.{BuildRow}
use Rattle.build_steps.specs.declared.rows.BuildRow.TheVariants.{
  ReadCount,
  Reserve,
  TakeFree,
  Collect,
  PutRest,
  WriteOwner,
  WriteShape,
  WritePayload,
  WriteColour,
  Publish,
  Built,
  Refused,
}
use Rattle.build_steps.specs.Objects.{made_register, made_shape, made_part, block_at, link_word}
use Rattle.build_steps.specs.Rows.{BuildState, list_of, row_want, build_want}
use Rattle.build_steps.specs.Fits.{RowFits, BuildFits}
use Rattle.build_steps.proofs.Parts.{has_blocks, links_onward}

pub own_first : (t n : ℕ) → t < n → list_of t n 0 ≡ t
unfolding list_of
own_first t n low = let e : t + 0 ≡ t = omega arith in rw e (mod-eq_of_lt low)

pub list_low : (t n u : ℕ) → t < n → list_of t n u < n
unfolding list_of
list_low t n u low = mod-lt (t + u) (omega arith)

payload_in : (c : Config) (x j : ℕ) → IsBlock c x → j < payloads c.width
    → in_range (extent c) (PayloadOf x j) ≡ true
payload_in c x j block low =
    let there : is_block (extent c) x ≡ true = block_in c x block in
    rw there (lt-ltb j (payloads c.width) low)

pub register_in_range : (k : Command) → IsCommandInRange k → made_register k < REGISTERS
register_in_range (New d f) range = range.0
register_in_range (Arr d e) range = range.0
register_in_range _ range = omega arith

reference_held : (c : Config) (x j p : ℕ) → c.blocks ≤ 65535 → IsBlock c p
    → CanHold (extent c) (PayloadOf x j) (reference_word p)
reference_held c x j p few block =
    let high = block.1 in (
      ap is_some (payload-code (Block p) (block.0, omega arith)),
      subst (λ z. z ≤ c.blocks) (sym (target-reference p)) high,
    )

-- what is in a new object: nil, and references to its own blocks
link_held : (c : Config) (held : List ℕ) (x j : ℕ) (r : Option ℕ) → c.blocks ≤ 65535
    → ((p : ℕ) → r ≡ Some p → IsBlock c (block_at held p))
    → CanHold (extent c) (PayloadOf x j) (link_word held r)
link_held c held x j None few blocks =
    (ap is_some (payload-code Nil tt), subst (λ z. z ≤ c.blocks) (sym target-nil) (omega arith))
link_held c held x j (Some p) few blocks =
    reference_held c x j (block_at held p) few (blocks p refl)

shape_held : (w : Width) (k : Command) → IsCommandInRange k → 1 ≤ blocks_of w k
    → IsSome (shape_of (made_shape k))
shape_held w (New d f) range some = ap is_some (shape-code (shapes.List f) range.1)
shape_held w (Arr d e) range some = ap is_some (shape-code (shapes.Tree e) range.1)
shape_held w _ range some = absurd (omega arith)

owner_held : (t serial o : ℕ) → t ≤ 16 → o ≤ 1023 → IsSome (wide_of (wide_word t serial o))
owner_held t serial o few low = ap is_some (read_wide t serial o few low)

module _ (c : Config) (s : BuildState) (f : BuildFits c s) where
  -- ordinal o is held
  at : (o : ℕ) → length s.held ≡ s.blocks → o < s.blocks → IsBlock c (block_at s.held o)
  at o all low = f.held o (omega arith)

  thread_low : s.thread < c.threads
  thread_low = subst (λ n. s.thread < n) f.threads f.thread

  register_block_in : IsBlock c (register_block c.width s.thread (made_register s.command))
  register_block_in =
      let r = made_register s.command in
      let low = register_in_range s.command f.range in
      let high = register_low c.width (s.thread + 1) s.thread r (omega arith) low in
      let all = f.registers in
      (register_some c.width s.thread r, omega arith)

  list_in : (u : ℕ) → list_of s.thread s.threads u < c.threads
  list_in u = subst (λ n. list_of s.thread s.threads u < n) f.threads
      (list_low s.thread s.threads u f.thread)

  row_place : (r : BuildRow) → RowFits c s.blocks s.held r
      → in_range (extent c) (place_of (row_want c.width s r)) ≡ true
  row_place ReadCount g = refl
  row_place (Reserve seen) g = refl
  row_place (TakeFree u) g = lt-ltb (list_of s.thread s.threads u) c.threads (list_in u)
  row_place (Collect a u) g = block_in c a g.0
  row_place (PutRest a) g = lt-ltb s.thread c.threads thread_low
  row_place (WriteOwner o) g = block_in c (block_at s.held o) (at o g.0 g.1)
  row_place (WriteShape o) g = block_in c (block_at s.held o) (at o g.0 g.1)
  row_place (WritePayload o j) g = payload_in c (block_at s.held o) j (at o g.0.0 g.0.1) g.1
  row_place (WriteColour o) g = block_in c (block_at s.held o) (at o g.0 g.1)
  row_place Publish g =
      payload_in c (register_block c.width s.thread (made_register s.command))
      (register_slot c.width (made_register s.command)) register_block_in
      (slot_low c.width (made_register s.command))
  row_place Built g = refl
  row_place Refused g = refl

  linked : (o j p : ℕ) → length s.held ≡ s.blocks
      → link_in (made_part c.width s.command o j) ≡ Some p → IsBlock c (block_at s.held p)
  linked o j p all e =
      let on = links_onward c.width s.command o j p e in
      let low = on.1 in
      let size = f.size in
      at p all (omega arith)

  row_stores : (r : BuildRow) → RowFits c s.blocks s.held r → StoresHeld c (row_want c.width s r)
  row_stores ReadCount g = tt
  row_stores (Reserve seen) g = let high = g.2 in omega arith
  row_stores (TakeFree u) g = omega arith
  row_stores (Collect a u) g = tt
  row_stores (PutRest a) g = g.0.1
  row_stores (WriteOwner o) g =
      let low = f.thread in
      let few = f.few in
      let most = f.most in
      let here = g.1 in
      owner_held s.thread s.serial o (omega arith) (omega arith)
  row_stores (WriteShape o) g = shape_held c.width s.command f.range (has_blocks c s f)
  row_stores (WritePayload o j) g =
      link_held c s.held (block_at s.held o) j (link_in (made_part c.width s.command o j))
      f.blocks (λ p e. linked o j p g.0.0 e)
  row_stores (WriteColour o) g = (
    ap is_some (colour-black s.cycle),
    subst (λ z. z ≤ c.blocks) (sym (link-black s.cycle)) (omega arith),
  )
  row_stores Publish g =
      reference_held c (register_block c.width s.thread (made_register s.command))
      (register_slot c.width (made_register s.command)) (block_at s.held 0) f.blocks
      (at 0 g f.some)
  row_stores Built g = tt
  row_stores Refused g = tt

row_sum : (w : Width) (s : BuildState) (r : BuildRow) (v : ℕ) → Fits (row_want w s r) v
row_sum w s ReadCount v = tt
row_sum w s (Reserve seen) v = tt
row_sum w s (TakeFree u) v = tt
row_sum w s (Collect a u) v = tt
row_sum w s (PutRest a) v = tt
row_sum w s (WriteOwner o) v = tt
row_sum w s (WriteShape o) v = tt
row_sum w s (WritePayload o j) v = tt
row_sum w s (WriteColour o) v = tt
row_sum w s Publish v = tt
row_sum w s Built v = tt
row_sum w s Refused v = tt

pub place_fits : (c : Config) (s : BuildState) → BuildFits c s
    → in_range (extent c) (place_of (build_want (extent c) s)) ≡ true
place_fits c s f = row_place c s f s.row f.row

pub sum_fits : (c : Config) (s : BuildState) (v : ℕ) → Fits (build_want (extent c) s) v
sum_fits c s v = row_sum c.width s s.row v

pub stores_held : (c : Config) (s : BuildState) → BuildFits c s
    → StoresHeld c (build_want (extent c) s)
stores_held c s f = row_stores c s f s.row f.row
