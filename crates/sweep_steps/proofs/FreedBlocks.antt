-- Which block is freed, and what the events of the sweep leave as it was.
use Rattle.std.proofs.Common.{◌≡◌, ℕ, ◌<◌, ◌≤◌, ◌+◌, ◌⊎◌, ⊎_elim, true, false, is_some, refl, arith, subst, sym, ap, ◌∙◌, inl, inr, eqb, eq-eqb, ne_eqb}
use Rattle.std.proofs.lemmas.Bool.{cases_Bool, cases_eq}
use Rattle.block_store.specs.declared.Config.{Config}
use Rattle.block_store.specs.declared.Colour.TheVariants.{Free}
use Rattle.block_store.specs.Colours.{is_free, is_grey, white_word, free_word}
use Rattle.block_store.proofs.Lemmas.{colour-code, free_free, link-free, not_grey_free, not_grey_white, one_place}
use Rattle.block_store.specs.Heaps.{Heap, put_at}
use Rattle.block_store.specs.Phases.{is_sweep, cycle_of}
use Rattle.block_store.specs.Places.{Extent, extent, Place, Phase, Cursor, FreeCount, FreeList, ColourOf, same_place}
use Rattle.block_store.specs.Counts.{changed}
use Rattle.heap_machine.specs.Grey.{GreyInHand, no_grey, GreyKept}
use Rattle.heap_machine.specs.WorkInHand.{WorkInHand, grey_held, free_held}
use Rattle.heap_machine.specs.Operations.{Exchange, CompareExchange, FetchAdd, place_of, heap_after}
use Rattle.heap_machine.specs.Readings.{IsHeld}
use Rattle.heap_machine.specs.PhaseKept.{PhaseKept}
use Rattle.heap_machine.specs.ReuseKept.{ReuseKept}
use Rattle.heap_machine.proofs.Lemmas.{free_few, from_sweep, held_after, held_put, kept_other, kept_other_colour, part_changed, stays}
use Rattle.sweep_steps.specs.declared.rows.SweepRow.{SweepRow}
use Rattle.sweep_steps.specs.declared.rows.SweepRow.TheVariants.{ReadCursor, ClaimRange, PassBlock, TakeFree, FreeBlock, PutFree, Credit, Swept, NothingLeft}
use Rattle.sweep_steps.specs.Rows.{SweepState, row_want, sweep_want, sweep_got, sweep_in_hand}
use Rattle.sweep_steps.specs.SweepUnits.{is_freeing, is_unswept}
use Rattle.sweep_steps.specs.Fits.{RowFits, SweepFits, IsSweeping}
use Rattle.sweep_steps.proofs.ReuseRulesKept.{doomed_white, keeps_reuse}

-- what the thread holds of the grey blocks
none_grey : (r : SweepRow) → grey_held (sweep_in_hand r) ≡ no_grey
none_grey ReadCursor = refl
none_grey (ClaimRange x high) = refl
none_grey (PassBlock x high p a g) = refl
none_grey (TakeFree x high p) = refl
none_grey (FreeBlock x high p a g) = refl
none_grey (PutFree a p g) = refl
none_grey (Credit p g) = refl
none_grey (Swept p g) = refl
none_grey NothingLeft = refl

-- where block y gets colour v, each colour stays or that of y was white
one_colour : (h : Heap) (y v c x : ℕ) → h (ColourOf y) ≡ white_word c → is_free v ≡ true
    → (put_at h (ColourOf y) v (ColourOf x) ≡ h (ColourOf x)) ⊎ (h (ColourOf x) ≡ white_word c)
    × (is_free (put_at h (ColourOf y) v (ColourOf x)) ≡ true)
one_colour h y v c x white free = elim (cases_eq y x) [
  | inl e ↦ rw (eq-eqb y x e) (inr (subst (λ z. h (ColourOf z) ≡ white_word c) e white, free))
  | inr ne ↦ rw (ne_eqb y x ne) (inl refl)
]

-- a compare-exchange of a word that is none of these
cas_other : (h : Heap) (p q : Place) (old v : ℕ) → same_place p q ≡ false
    → heap_after h (CompareExchange p old v) q ≡ h q
cas_other h p q old v away =
    elim (cases_Bool (eqb (h p) old)) [ inl is ↦ rw (is, away) refl | inr is ↦ rw is refl ]

module _ (ex : Extent) (h : Heap) (hs : ℕ → WorkInHand) (k : ReuseKept ex h hs) (t c owed : ℕ)
    (low : t < ex.threads) (phase : is_sweep (h Phase) ≡ true)
    (cycle : cycle_of (h Phase) ≡ c) where
  row_colours : (r : SweepRow) → RowFits ex.blocks owed r → hs t ≡ sweep_in_hand r → (x : ℕ)
      → (heap_after h (row_want t c r) (ColourOf x) ≡ h (ColourOf x))
      ⊎ (is_freeing r ≡ true) × (h (ColourOf x) ≡ white_word c)
      × (is_free (heap_after h (row_want t c r) (ColourOf x)) ≡ true)
  row_colours ReadCursor f e x = inl refl
  row_colours (ClaimRange y high) f e x = inl (cas_other h Cursor (ColourOf x) y high refl)
  row_colours (PassBlock y high p a g) f e x = inl refl
  row_colours (TakeFree y high p) f e x = inl refl
  row_colours (FreeBlock y high p a g) f e x =
      ⊎_elim (λ s. inl s) (λ s. inr (refl, s.0, s.1))
      (one_colour h y (free_word a) c x
      (doomed_white ex h hs k t c owed low phase cycle y high p a g f.0.some e)
      (free_free a))
  row_colours (PutFree a p g) f e x = inl refl
  row_colours (Credit p g) f e x = inl refl
  row_colours (Swept p g) f e x = inl refl
  row_colours NothingLeft f e x = inl refl

  row_frees : (r : SweepRow) → RowFits ex.blocks owed r → hs t ≡ sweep_in_hand r
      → is_freeing r ≡ true
      → (x : ℕ) × (place_of (row_want t c r) ≡ ColourOf x) × (h (ColourOf x) ≡ white_word c)
      × (is_free (heap_after h (row_want t c r) (ColourOf x)) ≡ true)
  row_frees (FreeBlock y high p a g) f e is = (
    y,
    refl,
    doomed_white ex h hs k t c owed low phase cycle y high p a g f.0.some e,
    rw (eq-eqb y y refl) (free_free a),
  )
  row_frees _ f e is = absurd cc

  row_grey : (r : SweepRow) → RowFits ex.blocks owed r → hs t ≡ sweep_in_hand r
      → (gs : ℕ → GreyInHand) → GreyKept ex.threads h gs
      → GreyKept ex.threads (heap_after h (row_want t c r)) gs
  row_grey ReadCursor f e gs g = g
  row_grey (ClaimRange y high) f e gs g =
      kept_other ex.threads h gs (CompareExchange Cursor y high) refl g
  row_grey (PassBlock y high p a v) f e gs g = g
  row_grey (TakeFree y high p) f e gs g =
      kept_other ex.threads h gs (Exchange (FreeList t) 0) refl g
  row_grey (FreeBlock y high p a v) f e gs g =
      let white = doomed_white ex h hs k t c owed low phase cycle y high p a v f.0.some e in
      kept_other_colour ex.threads h gs y (free_word a) (ap is_grey white ∙ not_grey_white c)
      (not_grey_free a) g
  row_grey (PutFree a p v) f e gs g = kept_other ex.threads h gs (Exchange (FreeList t) a) refl g
  row_grey (Credit p v) f e gs g = kept_other ex.threads h gs (FetchAdd FreeCount v) refl g
  row_grey (Swept p v) f e gs g = g
  row_grey NothingLeft f e gs g = g

row_words : (cf : Config) (h : Heap) (hs : ℕ → WorkInHand) (k : ReuseKept (extent cf) h hs)
    (t c owed : ℕ) → t < cf.threads → cf.blocks ≤ 65535 → (r : SweepRow)
    → RowFits cf.blocks owed r → hs t ≡ sweep_in_hand r → IsHeld cf h
    → IsHeld cf (heap_after h (row_want t c r))
row_words cf h hs k t c owed low few ReadCursor f e g = g
row_words cf h hs k t c owed low few (ClaimRange y high) f e g =
    held_after cf h (CompareExchange Cursor y high)
    (let a = f.left in let b = f.last in (omega arith, b)) g
row_words cf h hs k t c owed low few (PassBlock y high p a v) f e g = g
row_words cf h hs k t c owed low few (TakeFree y high p) f e g =
    held_put cf h (FreeList t) 0 (omega arith) g
row_words cf h hs k t c owed low few (FreeBlock y high p a v) f e g =
    let list = f.1 in
    held_put cf h (ColourOf y) (free_word a)
    (ap is_some (colour-code (Free a) (omega arith)), omega (arith, link-free a)) g
row_words cf h hs k t c owed low few (PutFree a p v) f e g = held_put cf h (FreeList t) a f.1 g
row_words cf h hs k t c owed low few (Credit p v) f e g =
    let all = free_few (extent cf) h (λ u. free_held (hs u)) k.free t low in
    let mine : (hs t).freed ≡ v = ap (λ (w : WorkInHand). w.freed) e in
    held_put cf h FreeCount (h FreeCount + v) (omega arith) g
row_words cf h hs k t c owed low few (Swept p v) f e g = g
row_words cf h hs k t c owed low few NothingLeft f e g = g

-- a word that the sweep writes is none of the others
apart : (q p : Place) → is_unswept q ≡ false → is_unswept p ≡ true → same_place q p ≡ false
apart q p swept is = elim (cases_Bool (same_place q p)) [
  | inl one ↦ absurd (let e : false ≡ true = sym swept ∙ ap is_unswept (one_place q p one)
      ∙ is in cc)
  | inr two ↦ two
]

row_leaves : (h : Heap) (t c : ℕ) (r : SweepRow) (p : Place) → is_unswept p ≡ true
    → heap_after h (row_want t c r) p ≡ h p
row_leaves h t c ReadCursor p is = refl
row_leaves h t c (ClaimRange y high) p is = cas_other h Cursor p y high (apart Cursor p refl is)
row_leaves h t c (PassBlock y high q a g) p is = refl
row_leaves h t c (TakeFree y high q) p is = rw (apart (FreeList t) p refl is) refl
row_leaves h t c (FreeBlock y high q a g) p is = rw (apart (ColourOf y) p refl is) refl
row_leaves h t c (PutFree a q g) p is = rw (apart (FreeList t) p refl is) refl
row_leaves h t c (Credit q g) p is = rw (apart FreeCount p refl is) refl
row_leaves h t c (Swept q g) p is = refl
row_leaves h t c NothingLeft p is = refl

pub leaves_others : (h : Heap) (s : SweepState) (p : Place) → is_unswept p ≡ true
    → heap_after h (sweep_want s) p ≡ h p
leaves_others h s p is = row_leaves h s.thread s.cycle s.row p is

pub colours_stay : (c : Config) (h : Heap) (hs : ℕ → WorkInHand) (s : SweepState) → SweepFits c s
    → IsSweeping h s
    → ReuseKept (extent c) h hs → hs s.thread ≡ sweep_in_hand s.row → (x : ℕ)
    → (heap_after h (sweep_want s) (ColourOf x) ≡ h (ColourOf x))
    ⊎ (is_freeing s.row ≡ true) × (h (ColourOf x) ≡ white_word s.cycle)
    × (is_free (heap_after h (sweep_want s) (ColourOf x)) ≡ true)
colours_stay c h hs s f is k e =
    row_colours (extent c) h hs k s.thread s.cycle s.owed f.thread is.phase is.cycle s.row f.row e

pub frees_white : (c : Config) (h : Heap) (hs : ℕ → WorkInHand) (s : SweepState) → SweepFits c s
    → IsSweeping h s
    → ReuseKept (extent c) h hs → hs s.thread ≡ sweep_in_hand s.row → is_freeing s.row ≡ true
    → (x : ℕ) × (place_of (sweep_want s) ≡ ColourOf x) × (h (ColourOf x) ≡ white_word s.cycle)
    × (is_free (heap_after h (sweep_want s) (ColourOf x)) ≡ true)
frees_white c h hs s f is k e =
    row_frees (extent c) h hs k s.thread s.cycle s.owed f.thread is.phase is.cycle s.row f.row e

pub keeps_grey : (c : Config) (h : Heap) (hs : ℕ → WorkInHand) (s : SweepState) → SweepFits c s
    → IsSweeping h s
    → ReuseKept (extent c) h hs → hs s.thread ≡ sweep_in_hand s.row
    → GreyKept c.threads h (λ u. grey_held (hs u))
    → GreyKept c.threads (heap_after h (sweep_want s))
    (λ u. grey_held (changed hs s.thread
    (sweep_in_hand (sweep_got s (h (place_of (sweep_want s)))).row) u))
keeps_grey c h hs s f is k e g =
    let next = (sweep_got s (h (place_of (sweep_want s)))).row in
    let gs : ℕ → GreyInHand = λ u. grey_held (hs u) in
    let same : grey_held (hs s.thread) ≡ grey_held (sweep_in_hand next) =
    ap grey_held e ∙ none_grey s.row ∙ sym (none_grey next) in
    subst (λ (ws : ℕ → GreyInHand). GreyKept c.threads (heap_after h (sweep_want s)) ws)
    (part_changed grey_held hs s.thread (sweep_in_hand next))
    (row_grey (extent c) h hs k s.thread s.cycle s.owed f.thread is.phase is.cycle s.row f.row e
    (changed gs s.thread (grey_held (sweep_in_hand next)))
    (stays c.threads h gs g s.thread f.thread (grey_held (sweep_in_hand next)) same))

pub keeps_words : (c : Config) (h : Heap) (hs : ℕ → WorkInHand) (s : SweepState) → SweepFits c s
    → ReuseKept (extent c) h hs → hs s.thread ≡ sweep_in_hand s.row → IsHeld c h
    → IsHeld c (heap_after h (sweep_want s))
keeps_words c h hs s f k e g =
    row_words c h hs k s.thread s.cycle s.owed f.thread f.few s.row f.row e g

-- the phase word stays
pub keeps_sweeping : (h : Heap) (s : SweepState) (w : ℕ) → IsSweeping h s
    → IsSweeping (heap_after h (sweep_want s)) (sweep_got s w)
keeps_sweeping h s w k =
    let same : heap_after h (sweep_want s) Phase ≡ h Phase = leaves_others h s Phase refl in
    record { phase = ap is_sweep same ∙ k.phase; cycle = ap cycle_of same ∙ k.cycle }

-- all that is kept in Sweep
pub keeps_phase : (c : Config) (h : Heap) (hs : ℕ → WorkInHand) (s : SweepState) → SweepFits c s
    → IsSweeping h s
    → PhaseKept (extent c) h hs → hs s.thread ≡ sweep_in_hand s.row
    → PhaseKept (extent c) (heap_after h (sweep_want s))
    (changed hs s.thread (sweep_in_hand (sweep_got s (h (place_of (sweep_want s)))).row))
keeps_phase c h hs s f is k e =
    let w = h (place_of (sweep_want s)) in
    from_sweep (extent c) (heap_after h (sweep_want s))
    (changed hs s.thread (sweep_in_hand (sweep_got s w).row))
    (keeps_sweeping h s w is).phase (keeps_grey c h hs s f is k.reuse e k.grey)
    (keeps_reuse c h hs s f is k.reuse e)
