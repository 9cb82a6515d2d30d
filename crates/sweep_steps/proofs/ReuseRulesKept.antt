-- Each event of the sweep keeps where Free blocks are, what is claimed and what was passed.
use Rattle.std.proofs.Common.{◌≡◌, ◌≢◌, ℕ, ◌<◌, ◌≤◌, ◌+◌, true, false, [], refl, arith, subst, sym, ap, ◌∙◌, inl, inr, ⊎_elim, eqb, ltb, eq-eqb, ne_eqb, eqb-true}
use Rattle.std.proofs.lemmas.Bool.{cases_Bool, cases_eq, lt-ltb, eqb-false}
use Rattle.block_store.specs.declared.Config.{Config}
use Rattle.block_store.specs.Colours.{is_free, white_word, free_word}
use Rattle.block_store.proofs.Lemmas.{free-white, not_free_white}
use Rattle.block_store.specs.Heaps.{Heap, put_at}
use Rattle.block_store.specs.Phases.{is_sweep, cycle_of}
use Rattle.block_store.specs.Places.{Extent, extent, Phase, Cursor, FreeCount, FreeList, ColourOf}
use Rattle.block_store.specs.Counts.{changed}
use Rattle.heap_machine.specs.FreeBlocks.{FreeInHand, FreeKept}
use Rattle.heap_machine.specs.WorkInHand.{WorkInHand, holds_nothing, free_held, sweep_held}
use Rattle.heap_machine.specs.Operations.{Exchange, FetchAdd, place_of, heap_after}
use Rattle.heap_machine.specs.ReuseKept.{ReuseKept}
use Rattle.heap_machine.specs.Sweeping.{SweepInHand, SweepKept, rest_of}
use Rattle.heap_machine.proofs.Lemmas.{free_counts, free_empty, free_frees, free_other, free_puts, free_stays, free_takes, reuse_goes, reuse_stays, sweep_claims, sweep_dooms, sweep_frees, sweep_other, sweep_passes, sweep_stays}
use Rattle.sweep_steps.specs.declared.rows.SweepRow.{SweepRow}
use Rattle.sweep_steps.specs.declared.rows.SweepRow.TheVariants.{ReadCursor, ClaimRange, PassBlock, TakeFree, FreeBlock, PutFree, Credit, Swept, NothingLeft}
use Rattle.sweep_steps.specs.Rows.{SweepState, row_want, row_got, after_read, after_claim, after_range, next_block, before_free, sweep_want, sweep_got, sweep_over, sweep_in_hand}
use Rattle.sweep_steps.specs.SweepUnits.{is_putting}
use Rattle.sweep_steps.specs.Fits.{IsLeft, IsFreed, RowFits, SweepFits, IsSweeping}

-- what a thread holds that has freed so many blocks, which are in its private list
abbrev frees_so_far : ℕ → ℕ → FreeInHand
frees_so_far a f = record { list = a; emptied = ltb 0 f; held = []; reserved = 0; freed = f }

abbrev in_range : ℕ → ℕ → ℕ → SweepInHand
in_range x high d = record { low = x; high = high; doomed = d }

-- where none was freed the private list is empty
abbrev Hand : ℕ → ℕ → Type 0
Hand a f = f ≡ 0 → a ≡ 0

free_of : SweepRow → FreeInHand
free_of r = free_held (sweep_in_hand r)

read_nothing : (m owed w : ℕ) → sweep_in_hand (after_read m owed w) ≡ holds_nothing
read_nothing m owed w = elim (cases_Bool (ltb m w)) [ inl is ↦ rw is refl | inr is ↦ rw is refl ]

range_free : (p a f : ℕ) → Hand a f
    → free_held (sweep_in_hand (after_range p a f)) ≡ frees_so_far a f
range_free p a f none = elim (cases_eq f 0) [
  | inl z ↦
      let a0 : a ≡ 0 = none z in
      rw (eq-eqb f 0 z) (subst (λ g. free_held holds_nothing ≡ frees_so_far a g) (sym z)
      (subst (λ b. free_held holds_nothing ≡ frees_so_far b 0) (sym a0) refl))
  | inr nz ↦ rw (ne_eqb f 0 nz, lt-ltb 0 f (omega arith)) refl
]

range_claim : (p a f : ℕ) → sweep_held (sweep_in_hand (after_range p a f)) ≡ in_range 0 0 0
range_claim p a f = elim (cases_Bool (eqb f 0)) [ inl is ↦ rw is refl | inr is ↦ rw is refl ]

next_free : (x high p a f : ℕ) → Hand a f
    → free_held (sweep_in_hand (next_block x high p a f)) ≡ frees_so_far a f
next_free x high p a f none = elim (cases_Bool (ltb (x + 1) high)) [
  | inl more ↦ rw more refl
  | inr last ↦ rw last (range_free (p + 1) a f none)
]

next_claim : (x high p a f d : ℕ)
    → sweep_held (sweep_in_hand (next_block x high p a f)) ≡ rest_of (in_range x high d)
next_claim x high p a f d = elim (cases_Bool (ltb (x + 1) high)) [
  | inl more ↦ rw more refl
  | inr last ↦ rw last (range_claim (p + 1) a f)
]

in_hand_before : (x high p a f : ℕ) → Hand a f
    → free_held (sweep_in_hand (before_free x high p a f)) ≡ frees_so_far a f
in_hand_before x high p a f none = elim (cases_eq f 0) [
  | inl z ↦
      let a0 : a ≡ 0 = none z in
      rw (eq-eqb f 0 z) (subst (λ g. frees_so_far 0 0 ≡ frees_so_far a g) (sym z)
      (subst (λ b. frees_so_far 0 0 ≡ frees_so_far b 0) (sym a0) refl))
  | inr nz ↦ rw (ne_eqb f 0 nz, lt-ltb 0 f (omega arith)) refl
]

before_claim : (x high p a f : ℕ)
    → sweep_held (sweep_in_hand (before_free x high p a f)) ≡ in_range x high x
before_claim x high p a f =
    elim (cases_Bool (eqb f 0)) [ inl is ↦ rw is refl | inr is ↦ rw is refl ]

hand_of : (m p a f : ℕ) → IsFreed m p a f → Hand a f
hand_of m p a f freed z = ⊎_elim (λ n. n.1) (λ s. absurd (let q = s.0 in omega arith)) freed

module _ (ex : Extent) (h : Heap) (hs : ℕ → WorkInHand) (k : ReuseKept ex h hs) (t c owed : ℕ)
    (low : t < ex.threads) (phase : is_sweep (h Phase) ≡ true)
    (cycle : cycle_of (h Phase) ≡ c) where
  abbrev fs : ℕ → FreeInHand
  fs u = free_held (hs u)

  abbrev cs : ℕ → SweepInHand
  cs u = sweep_held (hs u)

  -- the thread goes on to row r, in which it holds this
  goes : (g : Heap) (r : SweepRow) (f : FreeInHand) (w : SweepInHand)
      → free_held (sweep_in_hand r) ≡ f → sweep_held (sweep_in_hand r) ≡ w
      → FreeKept ex g (changed fs t f) → SweepKept ex g (changed cs t w)
      → ReuseKept ex g (changed hs t (sweep_in_hand r))
  goes g r f w is_free_held is_claim free sweep = reuse_goes ex g hs t (sweep_in_hand r)
      (subst (λ (v : FreeInHand). FreeKept ex g (changed fs t v)) (sym is_free_held) free)
      (subst (λ (v : SweepInHand). SweepKept ex g (changed cs t v)) (sym is_claim) sweep)

  stays : (r : SweepRow) → hs t ≡ sweep_in_hand r → (w : WorkInHand) → w ≡ sweep_in_hand r
      → ReuseKept ex h (changed hs t w)
  stays r e w same = reuse_stays ex h hs k t w low (ap free_held (e ∙ sym same))
      (ap sweep_held (e ∙ sym same))

  white_is : (x : ℕ) → h (ColourOf x) ≡ white_word c
      → h (ColourOf x) ≡ white_word (cycle_of (h Phase))
  white_is x e = e ∙ ap white_word (sym cycle)

  claim_step : (x high : ℕ) → IsLeft ex.blocks owed x high 0 → hs t ≡ holds_nothing
      → ReuseKept ex (heap_after h (row_want t c (ClaimRange x high)))
      (changed hs t (sweep_in_hand (after_claim x high (h Cursor))))
  claim_step x high f e = elim (cases_Bool (eqb (h Cursor) x)) [
    | inl is ↦
        let at : h Cursor ≡ x = eqb-true (h Cursor) x is in
        let left = f.left in
        let sweep : SweepKept ex (put_at h Cursor high)
        (changed cs t (in_range (h Cursor) high 0)) =
        sweep_claims ex h cs k.sweep t low (sweep_held holds_nothing) (ap sweep_held e) high
        (omega arith) f.last refl in
        rw is (goes (put_at h Cursor high) (PassBlock x high 0 0 0) (free_held holds_nothing)
        (in_range x high 0) refl refl
        (free_other ex h (changed fs t (free_held holds_nothing)) (Exchange Cursor high) refl
        (free_stays ex h fs k.free t low (free_held holds_nothing) (ap free_held e)))
        (subst (λ y. SweepKept ex (put_at h Cursor high)
        (changed cs t (in_range y high 0))) at sweep))
    | inr is ↦ rw is (stays ReadCursor e holds_nothing refl)
  ]

  pass_step : (x high p a f : ℕ) → IsLeft ex.blocks owed x high p → Hand a f
      → hs t ≡ sweep_in_hand (PassBlock x high p a f)
      → ReuseKept ex h (changed hs t
      (sweep_in_hand (row_got c ex.blocks owed (PassBlock x high p a f) (h (ColourOf x)))))
  pass_step x high p a f left none e =
      let free : FreeKept ex h (changed fs t (frees_so_far a f)) =
      free_stays ex h fs k.free t low (frees_so_far a f) (ap free_held e) in
      let some = left.left in
      elim (cases_Bool (eqb (h (ColourOf x)) (white_word c))) [
        | inl is ↦
            let white = white_is x (eqb-true (h (ColourOf x)) (white_word c) is) in
            rw is (goes h (before_free x high p a f) (frees_so_far a f) (in_range x high x)
            (in_hand_before x high p a f none) (before_claim x high p a f) free
            (sweep_dooms ex h cs k.sweep t low (in_range x high 0) (ap sweep_held e) x phase
            (omega arith) some white))
        | inr is ↦
            let dark : h (ColourOf x) ≢ white_word (cycle_of (h Phase)) =
            λ q. eqb-false (h (ColourOf x)) (white_word c) is (q ∙ ap white_word cycle) in
            rw is (goes h (next_block x high p a f) (frees_so_far a f)
            (rest_of (in_range x high 0)) (next_free x high p a f none)
            (next_claim x high p a f 0) free
            (sweep_passes ex h cs k.sweep t low (in_range x high 0) (ap sweep_held e) some dark))
      ]

  -- the block that is about to be freed is white
  pub doomed_white : (x high p a f : ℕ) → 1 ≤ x → hs t ≡ sweep_in_hand (FreeBlock x high p a f)
      → h (ColourOf x) ≡ white_word c
  doomed_white x high p a f some e =
      let d = k.sweep.doomed t low
      (λ z. (let q : (sweep_held (hs t)).doomed ≡ x = ap (λ (w : WorkInHand). w.doomed) e in
      omega arith)) in
      subst (λ y. h (ColourOf y) ≡ white_word (cycle_of (h Phase)))
      (ap (λ (w : WorkInHand). w.doomed) e) d.2 ∙ ap white_word cycle

  free_step : (x high p a f : ℕ) → IsLeft ex.blocks owed x high p
      → hs t ≡ sweep_in_hand (FreeBlock x high p a f)
      → ReuseKept ex (put_at h (ColourOf x) (free_word a))
      (changed hs t (sweep_in_hand (next_block x high p x (f + 1))))
  free_step x high p a f left e =
      let some = left.some in
      let less = left.left in
      let last = left.last in
      let live : is_free (h (ColourOf x)) ≡ false =
      ap is_free (doomed_white x high p a f some e) ∙ not_free_white c in
      let emptied : ltb 0 (f + 1) ≡ true = lt-ltb 0 (f + 1) (omega arith) in
      let freed : FreeInHand =
      record { list = x; emptied = true; held = []; reserved = 0; freed = f + 1 } in
      let same : frees_so_far x (f + 1) ≡ freed = rw emptied refl in
      goes (put_at h (ColourOf x) (free_word a)) (next_block x high p x (f + 1)) freed
      (rest_of (in_range x high x))
      (next_free x high p x (f + 1) (λ z. absurd (omega arith)) ∙ same)
      (next_claim x high p x (f + 1) x)
      (free_frees ex h fs k.free t low (free_held (sweep_in_hand (FreeBlock x high p a f)))
      (ap free_held e) x some (omega arith) live)
      (sweep_frees ex h cs k.sweep t low (in_range x high x) (ap sweep_held e)
      (free_word a) less (free-white a (cycle_of (h Phase))))

  -- an operation on a word of which the rule of the sweep does not speak
  claims_stay : (r : SweepRow) → hs t ≡ sweep_in_hand r
      → SweepKept ex h (changed cs t (sweep_held (sweep_in_hand r)))
  claims_stay r e = sweep_stays ex h cs k.sweep t low (sweep_held (sweep_in_hand r))
      (ap sweep_held e)

  take_step : (x high p : ℕ) → hs t ≡ sweep_in_hand (TakeFree x high p)
      → ReuseKept ex (put_at h (FreeList t) 0)
      (changed hs t (sweep_in_hand (FreeBlock x high p (h (FreeList t)) 0)))
  take_step x high p e = goes (put_at h (FreeList t) 0) (FreeBlock x high p (h (FreeList t)) 0)
      (record { list = h (FreeList t); emptied = true; held = []; reserved = 0; freed = 0 })
      (in_range x high x) refl refl
      (free_takes ex h fs k.free t low (free_held holds_nothing) (ap free_held e) t true low refl
      (λ _. rw (eq-eqb t t refl) refl))
      (sweep_other ex h (changed cs t (in_range x high x)) (Exchange (FreeList t) 0) refl
      (claims_stay (TakeFree x high p) e))

  put_step : (a p f : ℕ) → hs t ≡ sweep_in_hand (PutFree a p f)
      → ReuseKept ex (put_at h (FreeList t) a) (changed hs t (sweep_in_hand (Credit p f)))
  put_step a p f e = goes (put_at h (FreeList t) a) (Credit p f)
      (free_held (sweep_in_hand (Credit p f))) (in_range 0 0 0) refl refl
      (free_puts ex h fs k.free t low (free_held (sweep_in_hand (PutFree a p f)))
      (ap free_held e) refl)
      (sweep_other ex h (changed cs t (in_range 0 0 0)) (Exchange (FreeList t) a) refl
      (claims_stay (PutFree a p f) e))

  credit_step : (p f : ℕ) → hs t ≡ sweep_in_hand (Credit p f)
      → ReuseKept ex (put_at h FreeCount (h FreeCount + f))
      (changed hs t (sweep_in_hand (Swept p f)))
  credit_step p f e = goes (put_at h FreeCount (h FreeCount + f)) (Swept p f)
      (free_held holds_nothing) (in_range 0 0 0) refl refl
      (free_counts ex h fs k.free t low (free_held (sweep_in_hand (Credit p f))) (ap free_held e)
      (h FreeCount + f) 0 0 (omega arith) (omega arith))
      (sweep_other ex h (changed cs t (in_range 0 0 0)) (FetchAdd FreeCount f) refl
      (claims_stay (Credit p f) e))

  row_keeps : (r : SweepRow) → RowFits ex.blocks owed r → hs t ≡ sweep_in_hand r
      → ReuseKept ex (heap_after h (row_want t c r))
      (changed hs t (sweep_in_hand
      (row_got c ex.blocks owed r (h (place_of (row_want t c r))))))
  row_keeps ReadCursor f e =
      stays ReadCursor e (sweep_in_hand (after_read ex.blocks owed (h Cursor)))
      (read_nothing ex.blocks owed (h Cursor))
  row_keeps (ClaimRange x high) f e = claim_step x high f e
  row_keeps (PassBlock x high p a g) f e =
      pass_step x high p a g f.0 (hand_of ex.blocks p a g f.1) e
  row_keeps (TakeFree x high p) f e = take_step x high p e
  row_keeps (FreeBlock x high p a g) f e = free_step x high p a g f.0 e
  row_keeps (PutFree a p g) f e = put_step a p g e
  row_keeps (Credit p g) f e = credit_step p g e
  row_keeps (Swept p g) f e = stays (Swept p g) e holds_nothing refl
  row_keeps NothingLeft f e = stays NothingLeft e holds_nothing refl

pub keeps_reuse : (c : Config) (h : Heap) (hs : ℕ → WorkInHand) (s : SweepState) → SweepFits c s
    → IsSweeping h s
    → ReuseKept (extent c) h hs → hs s.thread ≡ sweep_in_hand s.row
    → ReuseKept (extent c) (heap_after h (sweep_want s))
    (changed hs s.thread (sweep_in_hand (sweep_got s (h (place_of (sweep_want s)))).row))
keeps_reuse c h hs s f is k e =
    subst (λ m. ReuseKept (extent c) (heap_after h (sweep_want s))
    (changed hs s.thread (sweep_in_hand
    (row_got s.cycle m s.owed s.row (h (place_of (sweep_want s))))))) (sym f.blocks)
    (row_keeps (extent c) h hs k s.thread s.cycle s.owed f.thread is.phase is.cycle s.row f.row e)

-- an end holds nothing
pub over_holds_none : (r : SweepRow) → sweep_over r ≡ true → sweep_in_hand r ≡ holds_nothing
over_holds_none (Swept p f) e = refl
over_holds_none NothingLeft e = refl
over_holds_none _ e = absurd cc

-- what is put is the private list, and the list there is empty
put_row : (ex : Extent) (h : Heap) (hs : ℕ → WorkInHand) (k : ReuseKept ex h hs) (t c : ℕ)
    → t < ex.threads → (r : SweepRow) → hs t ≡ sweep_in_hand r → is_putting r ≡ true
    → (row_want t c r ≡ Exchange (FreeList t) (sweep_in_hand r).free_list) × (h (FreeList t) ≡ 0)
put_row ex h hs k t c low (PutFree a p f) e is = (
  refl,
  free_empty ex h (λ u. free_held (hs u)) k.free t low
      (free_held (sweep_in_hand (PutFree a p f))) (ap free_held e) refl,
)
put_row ex h hs k t c low _ e is = absurd cc

pub puts_on_empty : (c : Config) (h : Heap) (hs : ℕ → WorkInHand) (s : SweepState) → SweepFits c s
    → ReuseKept (extent c) h hs → hs s.thread ≡ sweep_in_hand s.row → is_putting s.row ≡ true
    → (sweep_want s ≡ Exchange (FreeList s.thread) (sweep_in_hand s.row).free_list)
    × (h (FreeList s.thread) ≡ 0)
puts_on_empty c h hs s f k e is = put_row (extent c) h hs k s.thread s.cycle f.thread s.row e is
