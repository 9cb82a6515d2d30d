-- Each event of a command keeps all that a heap keeps in either phase, and leaves the phase, the
-- cursor and the grey blocks as they are.
use Rattle.std.proofs.Common.{◌≡◌, ℕ, true, false, eqb, refl, sym, ap, ◌∙◌, eqb-true, ◌<◌, cond, IsSome, subst}
use Rattle.barrier_steps.proofs.Common.{Config, white_word, Heap, put_at, extent, Phase, ColourOf, PayloadOf, Extent, payloads, Command, holds_nothing, heap_after, place_of, Pass, GreyRow, is_shading, block_stored, grey_over, FieldRow, FitsAt, FieldFits, ReadsAt, FieldReads, FieldState, shades, row_want, field_want, row_in_hand, payload_in, shape_in, at_first_row, stored_word, field_place, way_on, after_field, row_got, word_stored, field_got, field_reply, changed, payload_of, target, is_sweep, cycle_of, changed_map, changed_self, target-number, target-nil, IsHeld, NotFree, block_stays, constant_word, is_grey, Cursor, sweep_held, WorkInHand, grey_held, tricolour_held, free_held, Exchange, grey_in_hand, Shade, Store, LoadRegister, LoadShape, LoadLink, LoadField, LoadOwner, StoreConstant, Answered, Compared, Exchanged, field_in_hand, object_in, held_before_store, shading_goes_on, Set, New, ShadeStored, marking_got}
use Rattle.block_store.proofs.Lemmas.{not_grey_white}
use Rattle.heap_machine.specs.Sweeping.{no_claim}
use Rattle.grey_steps.specs.declared.rows.GreyRow.TheVariants as greys
use Rattle.barrier_steps.proofs.FieldRows.{barrier_shades, stores_at, payload_cases}
use Rattle.heap_machine.specs.Grey.{GreyInHand, GreyKept}
use Rattle.heap_machine.specs.HeapKept.{CanRefer}
use Rattle.heap_machine.specs.PhaseKept.{PhaseKept}
use Rattle.heap_machine.specs.Tricolour.{TricolourInHand, NotWhite, TricolourKept}
use Rattle.heap_machine.proofs.Lemmas.{held_after, kept_other, kept_payload, part_changed, reuse_other, reuse_stays, solid_payload}
use Rattle.heap_machine.proofs.Tricolours.{lets_go}
use Rattle.grey_steps.specs.declared.rows.GreyRow.TheVariants.{Shaded}
use Rattle.grey_steps.proofs.Reuses as reuses
use Rattle.barrier_steps.proofs.Decisions.{way_quiet, shape_quiet, register_quiet, owner_quiet, barrier_is, either, either_is}

module _ (h : Heap) where
  -- phase and cursor are as they were
  abbrev IsGate : Heap → Type 0
  IsGate q = (q Phase ≡ h Phase) × (q Cursor ≡ h Cursor)

  row_gate : (e : Extent) (p : Pass) (k : Command) (row : FieldRow) → IsGate (heap_after h (row_want e p k row))
  row_gate e p k (Shade (greys.Shade x j y a) store) = either IsGate (eqb (h (ColourOf y)) (white_word p.cycle)) _ h (refl, refl) (refl, refl)
  row_gate e p k (Shade (ShadeStored y a) store) = either IsGate (eqb (h (ColourOf y)) (white_word p.cycle)) _ h (refl, refl) (refl, refl)
  row_gate e p k (Store (Compared way word)) = either IsGate (eqb (h (field_place e k way)) way.expected) _ h (refl, refl) (refl, refl)
  row_gate e p k _ = (refl, refl)

pub field_phase : (c : Config) (h : Heap) (f : FieldState) → heap_after h (field_want (extent c) f) Phase ≡ h Phase
field_phase c h f = (row_gate h (extent c) f.pass f.command f.row).0

pub field_cursor : (c : Config) (h : Heap) (f : FieldState) → heap_after h (field_want (extent c) f) Cursor ≡ h Cursor
field_cursor c h f = (row_gate h (extent c) f.pass f.command f.row).1

module _ (c : Config) (h : Heap) (x : ℕ) (p : Pass) (k : Command) where
  abbrev Stays : FieldRow → Type 0
  Stays row = heap_after h (row_want (extent c) p k row) (ColourOf x) ≡ h (ColourOf x)

  -- but by the barrier no colour changes
  pub row_colour : (row : FieldRow) → shades row ≡ false → Stays row
  row_colour (Shade r store) none = absurd cc
  row_colour (Store (Compared way word)) none =
      either (λ (q : Heap). q (ColourOf x) ≡ h (ColourOf x)) (eqb (h (field_place (extent c) k way)) way.expected) _ _ refl refl
  row_colour _ none = refl

  -- and there a white block alone becomes grey
  pub row_grey : (row : FieldRow) → FitsAt c p k row → is_grey (h (ColourOf x)) ≡ true → Stays row
  row_grey (Shade (ShadeStored y a) store) fits grey =
      either_is (λ (q : Heap). q (ColourOf x) ≡ h (ColourOf x)) (eqb (h (ColourOf y)) (white_word p.cycle)) _ _
      (λ is. either_is (λ v. v ≡ h (ColourOf x)) (eqb y x) _ _ (λ e.
      let white : h (ColourOf x) ≡ white_word p.cycle = ap (λ z. h (ColourOf z)) (sym (eqb-true y x e)) ∙ eqb-true _ _ is in
      absurd (let z : true ≡ false = sym grey ∙ ap is_grey white ∙ not_grey_white p.cycle in cc)) (λ _. refl)) (λ _. refl)
  row_grey (Shade (greys.Shade z j y a) store) fits grey = absurd (fits.row.0.refers (sym fits.row.0.stores))
  row_grey (Shade (greys.Blacken y a) store) fits grey = absurd (fits.row.0.refers (sym fits.row.0.stores))
  row_grey (Store store) fits grey = row_colour (Store store) refl
  row_grey _ fits grey = refl

-- a command scans nothing and has claimed nothing
pub row_found : (c : Config) (p : Pass) (k : Command) (row : FieldRow) → FitsAt c p k row
    → (row_in_hand (payloads c.width) p row).found ≡ 0
row_found c p k (Shade (greys.Shade x j y a) store) fits = absurd (fits.row.0.refers (sym fits.row.0.stores))
row_found c p k _ fits = refl

pub row_claims : (m : ℕ) (p : Pass) (row : FieldRow) → sweep_held (row_in_hand m p row) ≡ no_claim
row_claims m p (Shade (greys.Take u) store) = refl
row_claims m p _ = refl

-- thread t goes on where it holds nothing but a block that it has shaded, and then nothing
module _ (e : Extent) (h : Heap) (hs : ℕ → WorkInHand) (k : PhaseKept e h hs) (t y : ℕ)
    (low : t < e.threads) (is : hs t ≡ record holds_nothing { shaded = y }) where
  pub lets_shaded_go : PhaseKept e h (changed hs t holds_nothing)
  lets_shaded_go = record {
    grey = subst (λ (ws : ℕ → GreyInHand). GreyKept e.threads h ws)
        (sym (changed_map grey_held hs t holds_nothing
        ∙ changed_self (λ u. grey_held (hs u)) t (grey_held holds_nothing) (ap grey_held is))) k.grey;
    reuse = reuse_stays e h hs k.reuse t holds_nothing low (ap free_held is) (ap sweep_held is);
    tricolour = λ mark. subst (λ (ws : ℕ → TricolourInHand).
        TricolourKept e (cycle_of (h Phase)) h ws) (part_changed tricolour_held hs t holds_nothing)
        (lets_go e (cycle_of (h Phase)) h (λ u. tricolour_held (hs u)) t (k.tricolour mark));
    solid = k.solid;
  }

-- a payload is overwritten, in Mark by a word that may be stored anywhere
stored_kept : (e : Extent) (h : Heap) (hs : ℕ → WorkInHand) (x j w : ℕ)
    → (is_sweep (h Phase) ≡ false → CanRefer (cycle_of (h Phase)) h (target w))
    → PhaseKept e h hs → PhaseKept e (put_at h (PayloadOf x j) w) hs
stored_kept e h hs x j w can k = record {
  grey = kept_other e.threads h (λ t. grey_held (hs t)) (Exchange (PayloadOf x j) w) refl k.grey;
  reuse = reuse_other e h hs k.reuse (Exchange (PayloadOf x j) w) refl;
  tricolour = λ mark. kept_payload (cycle_of (h Phase)) h x j w (can mark).dark e
      (λ t. tricolour_held (hs t)) (k.tricolour mark);
  solid = λ mark. solid_payload e (cycle_of (h Phase)) h x j w (λ _. (can mark).solid)
      (k.solid mark);
}

-- nil and numbers refer to no block
field_nothing : (m : ℕ) (p : Pass) (w : ℕ) → IsSome (payload_of w)
    → row_in_hand m p (after_field w (payload_in w)) ≡ holds_nothing
field_nothing m p w some =
    let none : target w ≡ 0 → held_before_store p w ≡ holds_nothing =
    λ is. ap (λ y. record holds_nothing { shaded = y }) (either (λ y. y ≡ 0) p.sweep 0 (target w) refl is) in
    payload_cases w some (λ q. row_in_hand m p (after_field w q) ≡ holds_nothing) none (λ v is low. none is) (λ x to some. refl)

-- at its end a barrier holds that its block was shaded
over_holds : (m : ℕ) (p : Pass) (word : ℕ) (r : GreyRow) → p.sweep ≡ false → grey_over r ≡ true → is_shading r ≡ true
    → block_stored r ≡ target word → grey_in_hand m r ≡ held_before_store p word
over_holds m p word (Shaded y) mark over shading stores =
    ap (λ y. record holds_nothing { shaded = y }) (stores ∙ ap (λ b. cond b 0 (target word)) (sym mark))
over_holds m p word _ mark over shading stores = absurd cc

-- the constant that is stored refers to no block
constant_target : (k : Command) → target (constant_word k) ≡ 0
constant_target (Set d v) = target-number v
constant_target _ = target-nil

module _ (c : Config) (h : Heap) (hs : ℕ → WorkInHand) (p : Pass) (k : Command)
    (sweep : is_sweep (h Phase) ≡ p.sweep) (cycle : cycle_of (h Phase) ≡ p.cycle)
    (kept : PhaseKept (extent c) h hs) (low : p.thread < c.threads) where
  abbrev m : ℕ
  m = payloads c.width

  abbrev After : Heap → FieldRow → Type 0
  After q row = PhaseKept (extent c) q (changed hs p.thread (row_in_hand m p row))

  -- the word that a row reads, and the row after it
  abbrev read : FieldRow → ℕ
  read row = h (place_of (row_want (extent c) p k row))

  abbrev next : FieldRow → FieldRow
  next row = row_got (extent c) p k row (read row)

  -- where the row after it holds nothing
  goes : (q : Heap) (row : FieldRow) → row_in_hand m p row ≡ holds_nothing
      → PhaseKept (extent c) q (changed hs p.thread holds_nothing) → After q row
  goes q row e = subst (λ (w : WorkInHand). PhaseKept (extent c) q (changed hs p.thread w)) (sym e)

  -- a load, before which and after which the thread holds nothing
  loads : (row : FieldRow) → hs p.thread ≡ holds_nothing → row_in_hand m p (next row) ≡ holds_nothing → After h (next row)
  loads row is e = goes h (next row) e (lets_shaded_go (extent c) h hs kept p.thread 0 low is)

  -- a store, with which the command is over
  stores : (x j w y : ℕ) → hs p.thread ≡ record holds_nothing { shaded = y }
      → (is_sweep (h Phase) ≡ false → CanRefer (cycle_of (h Phase)) h (target w))
      → PhaseKept (extent c) (put_at h (PayloadOf x j) w) (changed hs p.thread holds_nothing)
  stores x j w y is can = lets_shaded_go (extent c) (put_at h (PayloadOf x j) w) hs
      (stored_kept (extent c) h hs x j w can kept) p.thread y low is

  -- in Mark the loaded word refers to a block that was shaded
  can_store : (w : ℕ) → hs p.thread ≡ held_before_store p w → NotFree (λ x. h (ColourOf x)) (target w)
      → is_sweep (h Phase) ≡ false → CanRefer (cycle_of (h Phase)) h (target w)
  can_store w is solid mark = record {
    dark =
        let shaded : (hs p.thread).shaded ≡ target w = ap (λ (v : WorkInHand). v.shaded) is ∙ ap (λ b. cond b 0 (target w)) (sym sweep ∙ mark) in
        subst (NotWhite (cycle_of (h Phase)) (λ x. h (ColourOf x))) shaded ((kept.tricolour mark).shaded p.thread low);
    solid = solid;
  }

  row_keeps : (row : FieldRow) → FitsAt c p k row → ReadsAt c p k row (read row)
      → NotFree (λ x. h (ColourOf x)) (target (word_stored row)) → hs p.thread ≡ row_in_hand m p row
      → After (heap_after h (row_want (extent c) p k row)) (next row)
  row_keeps (LoadRegister wanted) fits reads solid is =
      loads (LoadRegister wanted) is (register_quiet m p (extent c) k wanted (read (LoadRegister wanted))).2
  row_keeps (LoadShape x) fits reads solid is = loads (LoadShape x) is (shape_quiet m p (extent c) k x (shape_in (read (LoadShape x)))).2
  row_keeps (LoadLink way word) fits reads solid is =
      loads (LoadLink way word) is (way_quiet m p (extent c) k (way_on way (target (read (LoadLink way word)))) word).2
  row_keeps (LoadField way) fits reads solid is = loads (LoadField way) is (field_nothing m p (read (LoadField way)) reads.0.0)
  row_keeps (LoadOwner word) fits reads solid is =
      loads (LoadOwner word) is (owner_quiet m p (extent c) k word (object_in (read (LoadOwner word)))).2
  row_keeps (Shade r store) fits reads solid holds =
      let is = fits.row.0 in
      let w : ℕ = read (Shade r store) in
      let q : Heap = heap_after h (row_want (extent c) p k (Shade r store)) in
      let on : GreyRow = marking_got m p.threads p.cycle r w in
      let shading = barrier_shades c p r store is in
      let goes = reuses.keeps_phase c h hs (record { pass = p; row = r }) is.fits (sweep ∙ is.mark) cycle kept holds in
      barrier_is (After q) on store
      (λ over. subst (λ (v : WorkInHand). PhaseKept (extent c) q (changed hs p.thread v))
      (over_holds m p (stored_word store) on is.mark over (shading_goes_on m p.threads p.cycle r w shading)
      (block_stays m p.threads p.cycle r w shading ∙ is.stores)) goes)
      (λ _. goes)
  row_keeps (Store (Exchanged way word)) fits reads solid is = goes _ (next (Store (Exchanged way word)))
      (field_nothing m p (read (Store (Exchanged way word))) reads.0.0) (stores _ _ word _ is (can_store word is solid))
  row_keeps (Store (Compared way word)) fits reads solid is = either (λ q. PhaseKept (extent c) q (changed hs p.thread holds_nothing))
      (eqb (h (field_place (extent c) k way)) way.expected) _ _ (stores _ _ word _ is (can_store word is solid))
      (lets_shaded_go (extent c) h hs kept p.thread _ low is)
  row_keeps (Store store) fits reads solid is = stores _ _ (stored_word store) _ is (can_store (stored_word store) is solid)
  row_keeps StoreConstant fits reads solid is = stores _ _ (constant_word k) 0 is
      (λ _. record { dark = λ some. absurd (some (constant_target k)); solid = λ some. absurd (some (constant_target k)) })
  row_keeps row fits reads solid is = loads row is refl

pub keeps_phase : (c : Config) (h : Heap) (hs : ℕ → WorkInHand) (f : FieldState) → FieldFits c f
    → FieldReads c f (h (place_of (field_want (extent c) f)))
    → is_sweep (h Phase) ≡ f.pass.sweep → cycle_of (h Phase) ≡ f.pass.cycle
    → NotFree (λ x. h (ColourOf x)) (target (word_stored f.row))
    → PhaseKept (extent c) h hs → hs f.pass.thread ≡ field_in_hand (extent c) f
    → PhaseKept (extent c) (heap_after h (field_want (extent c) f)) (changed hs f.pass.thread
    (field_in_hand (extent c) (field_got (extent c) f (h (place_of (field_want (extent c) f))))))
keeps_phase c h hs f fits reads sweep cycle solid kept is =
    row_keeps c h hs f.pass f.command sweep cycle kept fits.thread.thread f.row fits reads solid is

-- a command begins and ends with nothing in hand
pub first_nothing : (e : Extent) (p : Pass) (k : Command) → field_in_hand e (at_first_row p k) ≡ holds_nothing
first_nothing e p (New d f) = refl
first_nothing e p _ = refl

pub over_nothing : (m : ℕ) (p : Pass) (row : FieldRow) → IsSome (field_reply row) → row_in_hand m p row ≡ holds_nothing
over_nothing m p (Answered reply) over = refl
over_nothing m p _ over = absurd cc

pub keeps_words : (c : Config) (h : Heap) (f : FieldState) → FieldFits c f → IsHeld c h → IsHeld c (heap_after h (field_want (extent c) f))
keeps_words c h f fits k = held_after c h (field_want (extent c) f) (stores_at c f.pass f.command f.row fits) k
