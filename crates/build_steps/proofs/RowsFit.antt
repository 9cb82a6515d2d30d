-- What holds of the rows: their places are in range, and a row that fits becomes one that fits.
use Rattle.std.proofs.Common.{
  ◌≡◌,
  ℕ,
  zero,
  suc,
  ◌<◌,
  ◌≤◌,
  ◌+◌,
  arith,
  refl,
  ap,
  sym,
  subst,
  inl,
  inr,
  eqb,
  ltb,
  eq-eqb,
  ne_eqb,
  ltb-true,
  ltb-false,
  List,
  [],
  ◌∷◌,
  ◌++◌,
  length,
  ◌^◌,
}
use Rattle.std.proofs.lemmas.Bool.{cases_Bool, cases_eq}
use Rattle.block_store.specs.declared.Config.{Config}
use Rattle.block_store.specs.Widths.{payloads}
use Rattle.block_store.proofs.Lemmas.{hand_block, wide}
use Rattle.block_store.specs.Colours.{link}
use Rattle.block_store.specs.Places.{extent, IsBlock}
use Rattle.never_heap.specs.declared.Command.{Command}
use Rattle.never_heap.specs.Bounds.{IsCommandInRange}
use Rattle.never_heap.specs.Steps.{blocks_of}
use Rattle.block_store.specs.Registers.{registers_end}
use Rattle.heap_machine.specs.Operations.{place_of}
use Rattle.heap_machine.specs.Readings.{CanHold}
use Rattle.build_steps.specs.declared.rows.BuildRow.{BuildRow}
use Rattle.build_steps.specs.declared.rows.BuildRow.TheVariants.{
  ReadCount,
  Reserve,
  TakeFree,
  Collect,
  PutRest,
  WriteOwner,
  WriteShape,
  WritePayload,
  WriteColour,
  Publish,
  Built,
  Refused,
}
use Rattle.build_steps.specs.Objects.{block_at}
use Rattle.build_steps.specs.Rows.{
  BuildState,
  row_want,
  row_got,
  held_got,
  build_got,
  building,
  next_list,
  after_collect,
}
use Rattle.build_steps.specs.Fits.{RowFits, BuildFits, BuildReads}

pub first_fits : (c : Config) (t cycle serial : ℕ) (k : Command) (capacity : ℕ) → t < c.threads
    → c.threads ≤ 16 → c.blocks ≤ 65535 → registers_end c.width (t + 1) ≤ c.blocks
    → serial < 2 ^ 43 → IsCommandInRange k → 1 ≤ blocks_of c.width k
    → blocks_of c.width k ≤ 1024 → blocks_of c.width k ≤ capacity
    → BuildFits c (building c.width t c.threads cycle serial k capacity)
first_fits c t cycle serial k capacity low few blocks registers last range some most space =
    record {
      threads = refl;
      few = few;
      blocks = blocks;
      thread = low;
      registers = registers;
      serial = last;
      range = range;
      size = refl;
      some = some;
      most = most;
      space = space;
      held = λ o none. absurd (omega arith);
      row = refl;
    }

pub length_more : (xs : List ℕ) (x : ℕ) → length (xs ++ x ∷ []) ≡ length xs + 1
length_more [] x = refl
length_more (y ∷ xs) x = omega (arith, length_more xs x)

-- a block that is held was held, or is the last
pub at_more : (xs : List ℕ) (x o : ℕ) → o < length xs → block_at (xs ++ x ∷ []) o ≡ block_at xs o
at_more [] x o low = absurd (omega arith)
at_more (y ∷ xs) x zero low = refl
at_more (y ∷ xs) x (suc o) low = at_more xs x o (omega arith)

pub at_last : (xs : List ℕ) (x o : ℕ) → o ≡ length xs → block_at (xs ++ x ∷ []) o ≡ x
at_last [] x zero e = refl
at_last [] x (suc o) e = absurd (omega arith)
at_last (y ∷ xs) x zero e = absurd (omega arith)
at_last (y ∷ xs) x (suc o) e = at_last xs x o (omega arith)

more_blocks : (c : Config) (xs : List ℕ) (x : ℕ) → IsBlock c x
    → ((o : ℕ) → o < length xs → IsBlock c (block_at xs o))
    → (o : ℕ) → o < length (xs ++ x ∷ []) → IsBlock c (block_at (xs ++ x ∷ []) o)
more_blocks c xs x block held o low = elim (cases_eq o (length xs)) [
  | inl e ↦ subst (λ y. IsBlock c y) (sym (at_last xs x o e)) block
  | inr ne ↦
      let many = length_more xs x in
      let less : o < length xs = omega arith in
      subst (λ y. IsBlock c y) (sym (at_more xs x o less)) (held o less)
]

next_low : (n u : ℕ) → u < n → next_list n u < n
next_low n u low = elim (cases_Bool (ltb (u + 1) n)) [
  | inl is ↦ rw is (ltb-true (u + 1) n is)
  | inr is ↦ rw is (omega arith)
]

collect_fits : (c : Config) (k u a x : ℕ) (held : List ℕ) → 1 ≤ k → u < c.threads
    → length held < k → a ≤ c.blocks
    → RowFits c k (held ++ x ∷ []) (after_collect k c.threads (length held + 1) a u)
collect_fits c k u a x held some low few high =
    let many = length_more held x in
    elim (cases_eq (length held + 1) k) [
      | inl last ↦ elim (cases_eq a 0) [
        | inl z ↦ rw (eq-eqb (length held + 1) k last, eq-eqb a 0 z) (omega arith, omega arith)
        | inr nz ↦ rw (eq-eqb (length held + 1) k last, ne_eqb a 0 nz)
            (hand_block c a nz high, omega arith)
      ]
      | inr more ↦ elim (cases_eq a 0) [
        | inl z ↦ rw (ne_eqb (length held + 1) k more, eq-eqb a 0 z)
            (next_low c.threads u low, omega arith)
        | inr nz ↦ rw (ne_eqb (length held + 1) k more, ne_eqb a 0 nz)
            (hand_block c a nz high, low, omega arith)
      ]
    ]

module _ (c : Config) (s : BuildState) (same : s.threads ≡ c.threads) (some : 1 ≤ s.blocks)
    (many : 0 < c.threads) where
  row_fits : (r : BuildRow) (v : ℕ) → RowFits c s.blocks s.held r
      → CanHold (extent c) (place_of (row_want c.width s r)) v
      → RowFits c s.blocks (held_got s.held r) (row_got c.width s r v)
  row_fits ReadCount v f reads = elim (cases_Bool (ltb v s.blocks)) [
    | inl is ↦ rw is f
    | inr is ↦ rw is (f, ltb-false v s.blocks is, reads)
  ]
  row_fits (Reserve seen) v f reads = elim (cases_Bool (eqb v seen)) [
    | inl is ↦ let none : length s.held ≡ 0 = ap length f.0 in rw is (many, omega arith)
    | inr is ↦ rw is f.0
  ]
  row_fits (TakeFree u) v f reads = elim (cases_eq v 0) [
    | inl z ↦ rw (eq-eqb v 0 z, same) (next_low c.threads u f.0, f.1)
    | inr nz ↦ rw (ne_eqb v 0 nz) (hand_block c v nz reads, f.0, f.1)
  ]
  row_fits (Collect a u) v f reads =
      rw same (collect_fits c s.blocks u (link v) a s.held some f.1 f.2 reads.1)
  row_fits (PutRest a) v f reads = (f.1, omega arith)
  row_fits (WriteOwner o) v f reads = f
  row_fits (WriteShape o) v f reads = (f, omega (arith, (wide c.width).0))
  row_fits (WritePayload o j) v f reads = elim (cases_Bool (ltb (j + 1) (payloads c.width))) [
    | inl is ↦ rw is (f.0, ltb-true (j + 1) (payloads c.width) is)
    | inr is ↦ rw is f.0
  ]
  row_fits (WriteColour o) v f reads = elim (cases_eq o 0) [
    | inl z ↦ rw (eq-eqb o 0 z) f.0
    | inr nz ↦ rw (ne_eqb o 0 nz) (f.0, omega (arith, f.1))
  ]
  row_fits Publish v f reads = f
  row_fits Built v f reads = f
  row_fits Refused v f reads = f

  row_held : (r : BuildRow) → RowFits c s.blocks s.held r
      → ((o : ℕ) → o < length s.held → IsBlock c (block_at s.held o))
      → (o : ℕ) → o < length (held_got s.held r) → IsBlock c (block_at (held_got s.held r) o)
  row_held (Collect a u) f held = more_blocks c s.held a f.0 held
  row_held _ f held = held

pub fits_next : (c : Config) (s : BuildState) (v : ℕ) → BuildFits c s → BuildReads c s v
    → BuildFits c (build_got (extent c) s v)
fits_next c s v f reads =
    let same = f.threads in
    let low = f.thread in
    let many : 0 < c.threads = omega arith in
    record {
      threads = f.threads;
      few = f.few;
      blocks = f.blocks;
      thread = f.thread;
      registers = f.registers;
      serial = f.serial;
      range = f.range;
      size = f.size;
      some = f.some;
      most = f.most;
      space = f.space;
      held = row_held c s same f.some many s.row f.row f.held;
      row = row_fits c s same f.some many s.row v f.row reads;
    }
