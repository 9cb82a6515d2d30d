-- Each event of building keeps the rules of marking.
use Rattle.std.proofs.Common.{
  ◌≡◌,
  ◌≢◌,
  ℕ,
  ◌<◌,
  ◌+◌,
  true,
  false,
  refl,
  arith,
  subst,
  sym,
  ap,
  ◌∙◌,
  inl,
  inr,
  eqb-true,
  eq-eqb,
  ne_eqb,
  List,
}
use Rattle.block_store.specs.declared.Config.{Config}
use Rattle.block_store.specs.Colours.{is_free, black_word}
use Rattle.block_store.proofs.Lemmas.{black-white, changed_self, free_is, free_not_grey, not_free_black, not_grey_black, not_grey_free, target-reference}
use Rattle.block_store.specs.Heaps.{Heap, put_at}
use Rattle.block_store.specs.Payloads.{target, reference_word}
use Rattle.block_store.specs.Widths.{payloads}
use Rattle.block_store.specs.Registers.{register_block, register_slot}
use Rattle.block_store.specs.Places.{extent, ColourOf, PayloadOf}
use Rattle.block_store.specs.Counts.{changed}
use Rattle.heap_machine.specs.Grey.{GreyInHand, no_grey, GreyKept}
use Rattle.heap_machine.specs.HeapKept.{CanRefer, CanColour}
use Rattle.heap_machine.specs.WorkInHand.{WorkInHand, grey_held, tricolour_held}
use Rattle.heap_machine.specs.Operations.{Operation, place_of, heap_after}
use Rattle.heap_machine.specs.ReuseKept.{ReuseKept}
use Rattle.heap_machine.specs.Solid.{SolidKept}
use Rattle.heap_machine.specs.Tricolour.{
  TricolourInHand,
  no_tricolour,
  TricolourKept,
  is_of_tricolour,
}
use Rattle.heap_machine.proofs.Lemmas.{kept_colour, kept_other, kept_other_colour, kept_payload, solid_colour, solid_other, solid_payload, tricolour_other}
use Rattle.build_steps.specs.declared.rows.BuildRow.{BuildRow}
use Rattle.build_steps.specs.declared.rows.BuildRow.TheVariants.{
  ReadCount,
  Reserve,
  TakeFree,
  Collect,
  PutRest,
  WriteOwner,
  WriteShape,
  WritePayload,
  WriteColour,
  Publish,
  Built,
  Refused,
}
use Rattle.build_steps.specs.Objects.{made_register}
use Rattle.build_steps.specs.Rows.{
  BuildState,
  built_at,
  built_payload,
  row_want,
  build_want,
  build_got,
  row_in_hand,
  build_in_hand,
}
use Rattle.build_steps.specs.Fits.{RowFits, BuildFits}
use Rattle.build_steps.specs.Standing.{left_of, begun_of, Stands}
use Rattle.build_steps.proofs.ReuseRulesKept.{still_free}
use Rattle.build_steps.proofs.PublishedObject.{links_black}

-- a black block is neither white nor Free
black_refers : (c : ℕ) (h : Heap) (y : ℕ) → (y ≢ 0 → h (ColourOf y) ≡ black_word c)
    → CanRefer c h y
black_refers c h y black = record {
  dark = λ ne z. black-white c (sym (black ne) ∙ z);
  solid = λ ne. ap is_free (black ne) ∙ not_free_black c;
}

module _ (c : Config) (h : Heap) (s : BuildState) (f : BuildFits c s) (k : Stands c.width h s) where
  payload_refers : (o j : ℕ) → s.row ≡ WritePayload o j
      → CanRefer s.cycle h (target (built_payload c.width s o j))
  payload_refers o j e =
      let left : left_of s.blocks s.row ≡ o + 1 = ap (left_of s.blocks) e in
      black_refers s.cycle h (target (built_payload c.width s o j))
      (λ ne. links_black c.width h s o j f.size k (omega arith) ne)

  publish_refers : s.row ≡ Publish → CanRefer s.cycle h (target (reference_word (built_at s 0)))
  publish_refers e =
      let left : left_of s.blocks s.row ≡ 0 = ap (left_of s.blocks) e in
      subst (λ y. CanRefer s.cycle h y) (sym (target-reference (built_at s 0)))
      (black_refers s.cycle h (built_at s 0) (λ _. (k.whole 0 (omega arith) f.some).black))

  -- what block o refers to once all its payloads are written
  written_refers : (o j : ℕ) → s.row ≡ WriteColour o → j < payloads c.width
      → CanRefer s.cycle h (target (h (PayloadOf (built_at s o) j)))
  written_refers o j e low =
      let left : left_of s.blocks s.row ≡ o + 1 = ap (left_of s.blocks) e in
      let words : begun_of (payloads c.width) s.row ≡ payloads c.width + 2 =
      ap (begun_of (payloads c.width)) e in
      let is = (k.begun o (omega arith)).links j low (omega arith) in
      subst (λ v. CanRefer s.cycle h (target v)) (sym is)
      (black_refers s.cycle h (target (built_payload c.width s o j))
      (λ ne. links_black c.width h s o j f.size k (omega arith) ne))

  pub can_colour : (o : ℕ) → s.row ≡ WriteColour o
      → is_free (h (ColourOf (built_at s o))) ≡ true
      → CanColour (extent c) s.cycle h (built_at s o) (black_word s.cycle)
  can_colour o e free = record {
    was = free_not_grey (h (ColourOf (built_at s o))) free;
    not_grey = not_grey_black s.cycle;
    not_white = black-white s.cycle;
    not_free = not_free_black s.cycle;
    dark = λ _ j low. (written_refers o j e low).dark;
    solid = λ _ j low. (written_refers o j e low).solid;
    root = λ t low is. inr refl;
  }

-- a rule that speaks of colours and payloads alone is kept by each row, where it is kept by a
-- reference to a black block and by the colour of a written one
module _ (c : Config) (h : Heap) (s : BuildState) (P : Heap → Type 0) where
  row_rule : (r : BuildRow) → s.row ≡ r
      → ((o : Operation) → is_of_tricolour (place_of o) ≡ false → P (heap_after h o))
      → ((x j v : ℕ) → CanRefer s.cycle h (target v) → P (put_at h (PayloadOf x j) v))
      → ((x : ℕ) → CanColour (extent c) s.cycle h x (black_word s.cycle)
      → P (put_at h (ColourOf x) (black_word s.cycle)))
      → BuildFits c s → Stands c.width h s
      → ((o : ℕ) → s.row ≡ WriteColour o → is_free (h (ColourOf (built_at s o))) ≡ true)
      → P h
      → P (heap_after h (row_want c.width s r))
  row_rule ReadCount e other refer colour f k free p = p
  row_rule (Reserve seen) e other refer colour f k free p =
      other (row_want c.width s (Reserve seen)) refl
  row_rule (TakeFree u) e other refer colour f k free p =
      other (row_want c.width s (TakeFree u)) refl
  row_rule (Collect a u) e other refer colour f k free p = p
  row_rule (PutRest a) e other refer colour f k free p = other (row_want c.width s (PutRest a)) refl
  row_rule (WriteOwner o) e other refer colour f k free p =
      other (row_want c.width s (WriteOwner o)) refl
  row_rule (WriteShape o) e other refer colour f k free p =
      other (row_want c.width s (WriteShape o)) refl
  row_rule (WritePayload o j) e other refer colour f k free p =
      refer (built_at s o) j (built_payload c.width s o j) (payload_refers c h s f k o j e)
  row_rule (WriteColour o) e other refer colour f k free p =
      colour (built_at s o) (can_colour c h s f k o e (free o e))
  row_rule Publish e other refer colour f k free p =
      refer (register_block c.width s.thread (made_register s.command))
      (register_slot c.width (made_register s.command)) (reference_word (built_at s 0))
      (publish_refers c h s f k e)
  row_rule Built e other refer colour f k free p = p
  row_rule Refused e other refer colour f k free p = p

no_grey_row : (k : ℕ) (held : List ℕ) (r : BuildRow) → grey_held (row_in_hand k held r) ≡ no_grey
no_grey_row k held (TakeFree u) = refl
no_grey_row k held (Collect a u) = refl
no_grey_row k held (PutRest a) = refl
no_grey_row k held (WriteOwner o) = refl
no_grey_row k held (WriteShape o) = refl
no_grey_row k held (WritePayload o j) = refl
no_grey_row k held (WriteColour o) = refl
no_grey_row k held _ = refl

no_tricolour_row : (k : ℕ) (held : List ℕ) (r : BuildRow)
    → tricolour_held (row_in_hand k held r) ≡ no_tricolour
no_tricolour_row k held (TakeFree u) = refl
no_tricolour_row k held (Collect a u) = refl
no_tricolour_row k held (PutRest a) = refl
no_tricolour_row k held (WriteOwner o) = refl
no_tricolour_row k held (WriteShape o) = refl
no_tricolour_row k held (WritePayload o j) = refl
no_tricolour_row k held (WriteColour o) = refl
no_tricolour_row k held _ = refl

pub holds_no_grey : (s : BuildState) → grey_held (build_in_hand s) ≡ no_grey
holds_no_grey s = no_grey_row s.blocks s.held s.row

pub holds_no_tricolour : (s : BuildState) → tricolour_held (build_in_hand s) ≡ no_tricolour
holds_no_tricolour s = no_tricolour_row s.blocks s.held s.row

-- the rule of the grey blocks speaks of no payload: no row needs what is
grey_row : (c : Config) (h : Heap) (s : BuildState) (gs : ℕ → GreyInHand) (r : BuildRow)
    → ((o : ℕ) → r ≡ WriteColour o → is_free (h (ColourOf (built_at s o))) ≡ true)
    → GreyKept c.threads h gs → GreyKept c.threads (heap_after h (row_want c.width s r)) gs
grey_row c h s gs (WriteColour o) free k =
    kept_other_colour c.threads h gs (built_at s o) (black_word s.cycle)
    (free_not_grey (h (ColourOf (built_at s o))) (free o refl)) (not_grey_black s.cycle) k
grey_row c h s gs ReadCount free k = k
grey_row c h s gs (Collect a u) free k = k
grey_row c h s gs Built free k = k
grey_row c h s gs Refused free k = k
grey_row c h s gs (Reserve seen) free k =
    kept_other c.threads h gs (row_want c.width s (Reserve seen)) refl k
grey_row c h s gs (TakeFree u) free k =
    kept_other c.threads h gs (row_want c.width s (TakeFree u)) refl k
grey_row c h s gs (PutRest a) free k =
    kept_other c.threads h gs (row_want c.width s (PutRest a)) refl k
grey_row c h s gs (WriteOwner o) free k =
    kept_other c.threads h gs (row_want c.width s (WriteOwner o)) refl k
grey_row c h s gs (WriteShape o) free k =
    kept_other c.threads h gs (row_want c.width s (WriteShape o)) refl k
grey_row c h s gs (WritePayload o j) free k =
    kept_other c.threads h gs (row_want c.width s (WritePayload o j)) refl k
grey_row c h s gs Publish free k =
    kept_other c.threads h gs (row_want c.width s Publish) refl k

-- the state after the event holds of a rule what the state before did
module _ (c : Config) (h : Heap) (hs : ℕ → WorkInHand) (s : BuildState) (f : BuildFits c s)
    (reuse : ReuseKept (extent c) h hs) (e : hs s.thread ≡ build_in_hand s) where
  abbrev next : BuildState
  next = build_got (extent c) s (h (place_of (build_want (extent c) s)))

  free_here : (o : ℕ) → s.row ≡ WriteColour o → is_free (h (ColourOf (built_at s o))) ≡ true
  free_here o is =
      let g = subst (λ r. RowFits c s.blocks s.held r) is f.row in
      let all = g.0 in
      let low = g.1 in
      still_free (extent c) h hs reuse s f.threads f.some f.thread
      (subst (λ n. s.thread < n) f.threads f.thread) o (WriteColour o) (omega arith)
      (e ∙ ap (λ r. row_in_hand s.blocks s.held r) is) refl

  grey_same : changed (λ u. grey_held (hs u)) s.thread (grey_held (build_in_hand next))
      ≡ (λ u. grey_held (hs u))
  grey_same = changed_self (λ u. grey_held (hs u)) s.thread (grey_held (build_in_hand next))
      (ap grey_held e ∙ holds_no_grey s ∙ sym (holds_no_grey next))

  tricolour_same : changed (λ u. tricolour_held (hs u)) s.thread
      (tricolour_held (build_in_hand next))
      ≡ (λ u. tricolour_held (hs u))
  tricolour_same =
      changed_self (λ u. tricolour_held (hs u)) s.thread (tricolour_held (build_in_hand next))
      (ap tricolour_held e ∙ holds_no_tricolour s ∙ sym (holds_no_tricolour next))

  pub keeps_grey : GreyKept c.threads h (λ u. grey_held (hs u))
      → GreyKept c.threads (heap_after h (build_want (extent c) s))
      (changed (λ u. grey_held (hs u)) s.thread (grey_held (build_in_hand next)))
  keeps_grey k =
      subst (λ gs. GreyKept c.threads (heap_after h (build_want (extent c) s)) gs) (sym grey_same)
      (grey_row c h s (λ u. grey_held (hs u)) s.row free_here k)

  pub keeps_tricolour : Stands c.width h s
      → TricolourKept (extent c) s.cycle h (λ u. tricolour_held (hs u))
      → TricolourKept (extent c) s.cycle (heap_after h (build_want (extent c) s))
      (changed (λ u. tricolour_held (hs u)) s.thread (tricolour_held (build_in_hand next)))
  keeps_tricolour stands k =
      let ts : ℕ → TricolourInHand = λ u. tricolour_held (hs u) in
      subst (λ gs. TricolourKept (extent c) s.cycle (heap_after h (build_want (extent c) s)) gs)
      (sym tricolour_same)
      (row_rule c h s (λ g. TricolourKept (extent c) s.cycle g ts) s.row refl
      (λ o away. tricolour_other (extent c) s.cycle h ts o away k)
      (λ x j v can. kept_payload s.cycle h x j v can.dark (extent c) ts k)
      (λ x can. kept_colour (extent c) s.cycle h ts x (black_word s.cycle) can.not_white can.dark k)
      f stands free_here k)

  pub keeps_solid : Stands c.width h s → SolidKept (extent c) s.cycle h
      → SolidKept (extent c) s.cycle (heap_after h (build_want (extent c) s))
  keeps_solid stands k =
      row_rule c h s (λ g. SolidKept (extent c) s.cycle g) s.row refl
      (λ o away. solid_other (extent c) s.cycle h o away k)
      (λ x j v can. solid_payload (extent c) s.cycle h x j v (λ _. can.solid) k)
      (λ x can. solid_colour (extent c) s.cycle h x (black_word s.cycle) can.not_free can.solid
      can.root k) f stands free_here k
