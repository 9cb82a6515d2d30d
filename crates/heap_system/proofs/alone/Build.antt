-- A turn of a lone thread that builds.
use Rattle.std.proofs.Common.{◌≡◌, ℕ, ◌+◌, ◌-◌, ◌<◌, ◌≤◌, ◌⊎◌, inl, inr, false, cond, eqb, ltb, eq-eqb, ne_eqb, lt-ltb, le-ltb, Option, Some, None, is_some, [], ◌∷◌, ◌++◌, length, length-append, refl, sym, ap, ◌∙◌, subst, arith}
use Rattle.std.proofs.lemmas.Bool.{cases_eq, cases_lt, cases_Bool}
use Rattle.block_store.specs.declared.Config.{Config}
use Rattle.block_store.specs.declared.Width.{Width}
use Rattle.block_store.specs.Colours.{link}
use Rattle.block_store.specs.Heaps.{Heap}
use Rattle.block_store.specs.Places.{FreeCount, FreeList, ColourOf, extent}
use Rattle.block_store.specs.Widths.{payloads}
use Rattle.never_heap.specs.declared.Reply.{Reply}
use Rattle.never_heap.specs.Steps.{blocks_of}
use Rattle.heap_machine.specs.FreeBlocks.{FreeKept}
use Rattle.heap_machine.specs.WorkInHand.{WorkInHand, free_held}
use Rattle.heap_machine.specs.Operations.{heap_after, place_of}
use Rattle.heap_machine.specs.declared.pass.Pass.{Pass}
use Rattle.build_steps.specs.declared.rows.BuildRow.{BuildRow}
use Rattle.build_steps.specs.declared.rows.BuildRow.TheVariants.{ReadCount, Reserve, TakeFree, Collect, PutRest, WriteOwner, WriteShape, WritePayload, WriteColour, Publish, Built, Refused}
use Rattle.build_steps.specs.Fits.{BuildFits, RowFits}
use Rattle.build_steps.specs.Rows.{BuildState, build_got, build_over, build_reply, held_got, list_of, row_got, row_in_hand, row_reply, row_want}
use Rattle.rate_plan.specs.solo_bound.Moves.{Spot, Lone, Terms, Moves}
use Rattle.heap_system.specs.Parts.{Build}
use Rattle.heap_system.specs.Locals.{build_waits, if_replied}
use Rattle.heap_system.proofs.step_rows.PartLaws.{AtPart, word_at}
use Rattle.heap_system.proofs.invariant.SeenAndKept.{Seen}
use Rattle.heap_system.proofs.alone.NeverDry.{all_lists, chain_of_none, chain_of_one, never_dry}
use Rattle.heap_system.proofs.alone.LoneThread.{Alone, BuildKnows, LoneKnows, LoneLaw, build_spot, free_heads, heap_left, is_out, lone_of, paid_left, part_left, pass_left, spot_of, terms_of}

-- the free lists, as the builder takes them
abbrev heads : BuildState → Heap → ℕ → ℕ
heads b h u = h (FreeList (list_of b.thread b.threads u))

-- what it knows of them, and of the free count
abbrev pub Known : BuildState → Heap → BuildRow → Type 0
Known b h (Reserve seen) = seen ≡ h FreeCount
Known b h (TakeFree u) = (v : ℕ) → v < u → heads b h v ≡ 0
Known b h (Collect list u) = (v : ℕ) → v < u + 1 → heads b h v ≡ 0
Known b h _ = Unit {0}

-- where it takes a list, or has the last block of one in hand, the lists are not all empty
abbrev AllEmpty : BuildState → Heap → Type 0
AllEmpty b h = (v : ℕ) → v < b.threads → heads b h v ≡ 0

abbrev pub Finds : BuildState → Heap → BuildRow → Type 0
Finds b h (TakeFree u) = AllEmpty b h → ⊥
Finds b h (Collect list u) = length b.held + 1 < b.blocks → link (h (ColourOf list)) ≡ 0 → AllEmpty b h → ⊥
Finds b h _ = Unit {0}

-- where the thread comes after an event: at the next row, or going out
abbrev pub next_spot : Width → ℕ → BuildRow → Spot
next_spot w held Built = Spot.LeaveDone
next_spot w held Refused = Spot.LeaveDone
next_spot w held r = build_spot w held r

abbrev MovesTo : Terms → Spot → Spot → Type 0
MovesTo e x y = (s z : Lone) → z.spot ≡ y → Moves e x s z

-- list l was taken, so it is empty, and so is one that was
taken : (h : Heap) (l m : ℕ) → (l ≡ m → ⊥) × (h (FreeList m) ≡ 0) ⊎ (l ≡ m) → cond (eqb l m) 0 (h (FreeList m)) ≡ 0
taken h l m (inl other) = rw (ne_eqb l m other.0) other.1
taken h l m (inr same) = rw (eq-eqb l m same) refl

taken_all : (b : BuildState) (h : Heap) (u : ℕ) → ((v : ℕ) → v < u → heads b h v ≡ 0) → (v : ℕ) → v < u + 1
    → cond (eqb (list_of b.thread b.threads u) (list_of b.thread b.threads v)) 0 (heads b h v) ≡ 0
taken_all b h u known v low = elim (cases_eq (list_of b.thread b.threads u) (list_of b.thread b.threads v)) [
  | inl same ↦ taken h (list_of b.thread b.threads u) (list_of b.thread b.threads v) (inr same)
  | inr other ↦ taken h (list_of b.thread b.threads u) (list_of b.thread b.threads v)
      (inl (other, known v (let less : v < u = elim (cases_eq v u) [ inl e ↦ absurd (other (ap (list_of b.thread b.threads) (sym e))) | inr ne ↦ omega arith ] in less)))
]

module _ (c : Config) (b : BuildState) (e : Terms) (h : Heap) (threads : e.threads ≡ b.threads) (same : b.threads ≡ c.threads) (blocks : e.blocks ≡ b.blocks) (wide : e.payloads ≡ payloads c.width) where
  abbrev word : BuildRow → ℕ
  word r = h (place_of (row_want c.width b r))

  -- the event at row r leads to row q and leaves so many blocks held
  abbrev To : BuildRow → ℕ → BuildRow → Type 0
  To r held q = (build_waits b.threads r (word r) ≡ false) × Known b (heap_after h (row_want c.width b r)) q × MovesTo e (build_spot c.width (length b.held) r) (next_spot c.width held q)

  counts : To ReadCount (length b.held) (row_got c.width b ReadCount (h FreeCount))
  counts = elim (cases_Bool (ltb (h FreeCount) b.blocks)) [
    | inl few ↦ rw few (refl, tt, λ s z q. inr q)
    | inr enough ↦ rw enough (refl, refl, λ s z q. inl q)
  ]

  reserves : (seen : ℕ) → seen ≡ h FreeCount → b.held ≡ [] → To (Reserve seen) (length b.held) (row_got c.width b (Reserve seen) (h FreeCount))
  reserves seen known none = rw (eq-eqb (h FreeCount) seen (sym known)) (refl, (λ v low. absurd (omega arith)), λ s z q. q ∙ ap (λ n. Spot.Grab 0 n) (ap length none))

  takes : (u : ℕ) → u < b.threads → Known b h (TakeFree u) → Finds b h (TakeFree u) → To (TakeFree u) (length b.held) (row_got c.width b (TakeFree u) (heads b h u))
  takes u ul known finds = elim (cases_eq (heads b h u) 0) [
    | inl none ↦ elim (cases_lt (u + 1) b.threads) [
      | inl low ↦ rw (eq-eqb (heads b h u) 0 none, lt-ltb (u + 1) b.threads low) (refl, taken_all b h u known, λ s z q. (omega (arith, threads, ul), inr (omega (arith, threads, low), q)))
      | inr last ↦ absurd (finds (λ v vl. elim (cases_eq v u) [ inl at ↦ ap (heads b h) at ∙ none | inr ne ↦ known v (omega arith) ]))
    ]
    | inr some ↦ rw (ne_eqb (heads b h u) 0 some) (refl, taken_all b h u known, λ s z q. (omega (arith, threads, ul), inl q))
  ]

  -- one block more is held
  longer : (list : ℕ) → length (b.held ++ list ∷ []) ≡ length b.held + 1
  longer list = length-append b.held (list ∷ [])

  collects : (list u : ℕ) → u < b.threads → length b.held < b.blocks → Known b h (Collect list u) → Finds b h (Collect list u) → To (Collect list u) (length (b.held ++ list ∷ [])) (row_got c.width b (Collect list u) (h (ColourOf list)))
  collects list u ul few known finds = elim (cases_eq (length b.held + 1) b.blocks) [
    | inl all ↦ elim (cases_eq (link (h (ColourOf list))) 0) [
      | inl none ↦ rw (eq-eqb (length b.held + 1) b.blocks all, eq-eqb (link (h (ColourOf list))) 0 none)
          (refl, tt, λ s z q. (omega (arith, blocks, few), inl (omega (arith, blocks, all), inr (b.blocks - 1, omega (arith, blocks, few), q))))
      | inr some ↦ rw (eq-eqb (length b.held + 1) b.blocks all, ne_eqb (link (h (ColourOf list))) 0 some)
          (refl, tt, λ s z q. (omega (arith, blocks, few), inl (omega (arith, blocks, all), inl q)))
    ]
    | inr more ↦ elim (cases_eq (link (h (ColourOf list))) 0) [
      | inl none ↦ elim (cases_lt (u + 1) b.threads) [
        | inl low ↦ rw (ne_eqb (length b.held + 1) b.blocks more, eq-eqb (link (h (ColourOf list))) 0 none, lt-ltb (u + 1) b.threads low)
            (refl, known, λ s z q. (omega (arith, blocks, few), inr (omega (arith, blocks, few, more), inr (omega (arith, threads, low), q ∙ ap (λ n. Spot.Grab (u + 1) n) (longer list)))))
        | inr last ↦ absurd (finds (omega (arith, few, more)) none (λ v vl. known v (omega arith)))
      ]
      | inr some ↦ rw (ne_eqb (length b.held + 1) b.blocks more, ne_eqb (link (h (ColourOf list))) 0 some)
          (refl, known, λ s z q. (omega (arith, blocks, few), inr (omega (arith, blocks, few, more), inl (q ∙ ap (λ n. Spot.Collect u n) (longer list)))))
    ]
  ]

  puts : (list : ℕ) → 1 ≤ b.blocks → To (PutRest list) (length b.held) (row_got c.width b (PutRest list) (word (PutRest list)))
  puts list some = (refl, tt, λ s z q. (b.blocks - 1, omega (arith, blocks, some), q))

  writes_owner : (o : ℕ) → To (WriteOwner o) (length b.held) (row_got c.width b (WriteOwner o) (word (WriteOwner o)))
  writes_owner o = (refl, tt, λ s z q. inl (omega arith, q))

  writes_shape : (o : ℕ) → To (WriteShape o) (length b.held) (row_got c.width b (WriteShape o) (word (WriteShape o)))
  writes_shape o = (refl, tt, λ s z q. inl (omega arith, q))

  writes_payload : (o j : ℕ) → j < payloads c.width → To (WritePayload o j) (length b.held) (row_got c.width b (WritePayload o j) (word (WritePayload o j)))
  writes_payload o j low = elim (cases_lt (j + 1) (payloads c.width)) [
    | inl more ↦ rw (lt-ltb (j + 1) (payloads c.width) more) (refl, tt, λ s z q. inl (omega (arith, wide, more), q ∙ ap (λ n. Spot.Write o n) (let on : j + 1 + 2 ≡ j + 2 + 1 = omega arith in on)))
    | inr last ↦ rw (le-ltb (j + 1) (payloads c.width) last) (refl, tt, λ s z q. inl (omega (arith, wide, last), q ∙ ap (λ n. Spot.Write o n) (let on : payloads c.width + 2 ≡ j + 2 + 1 = omega (arith, low, last) in on)))
  ]

  writes_colour : (o : ℕ) → To (WriteColour o) (length b.held) (row_got c.width b (WriteColour o) (word (WriteColour o)))
  writes_colour o = elim (cases_eq o 0) [
    | inl first ↦ rw (eq-eqb o 0 first) (refl, tt, λ s z q. inr (omega (arith, wide), inl (first, q)))
    | inr ne ↦ rw (ne_eqb o 0 ne) (refl, tt, λ s z q. inr (omega (arith, wide), inr (o - 1, omega arith, q)))
  ]

  builds_on : (r : BuildRow) → RowFits c b.blocks b.held r → 1 ≤ b.blocks → Known b h r → Finds b h r → build_over r ≡ false → To r (length (held_got b.held r)) (row_got c.width b r (word r))
  builds_on ReadCount fits some known finds going = counts
  builds_on (Reserve seen) fits some known finds going = reserves seen known fits.0
  builds_on (TakeFree u) fits some known finds going = takes u (omega (arith, fits.0, same)) known finds
  builds_on (Collect list u) fits some known finds going = collects list u (omega (arith, fits.1, same)) fits.2 known finds
  builds_on (PutRest list) fits some known finds going = puts list some
  builds_on (WriteOwner o) fits some known finds going = writes_owner o
  builds_on (WriteShape o) fits some known finds going = writes_shape o
  builds_on (WritePayload o j) fits some known finds going = writes_payload o j fits.1
  builds_on (WriteColour o) fits some known finds going = writes_colour o
  builds_on Publish fits some known finds going = (refl, tt, λ s z q. q)
  builds_on Built fits some known finds going = absurd cc
  builds_on Refused fits some known finds going = absurd cc

-- after its event it builds on, or goes out
builds_out : (b : BuildState) (o : Option Reply) → is_out (if_replied o (Build b)) ≡ is_some o
builds_out b None = refl
builds_out b (Some reply) = refl

knows_on : (c : Config) (h : Heap) (t : ℕ) (q : Pass) (due paid : ℕ) (g b : BuildState) (r : BuildRow) → b.row ≡ r → BuildKnows c h t r → LoneKnows c h t q due paid (if_replied (row_reply g r) (Build b))
knows_on c h t q due paid g b Built is known = tt
knows_on c h t q due paid g b Refused is known = tt
knows_on c h t q due paid g b _ is known = subst (BuildKnows c h t) (sym is) known

stands_on : (c : Config) (g b : BuildState) (r : BuildRow) → b.row ≡ r → spot_of c (if_replied (row_reply g r) (Build b)) ≡ next_spot c.width (length b.held) r
stands_on c g b Built is = refl
stands_on c g b Refused is = refl
stands_on c g b _ is = ap (build_spot c.width (length b.held)) is

module _ (c : Config) (s : Seen c) (b : BuildState) (at : AtPart c s (Build b)) (alone : Alone c s) where
  fits : BuildFits c b
  fits = at.fits.0

  heads_are : (h : Heap) (u : ℕ) → free_heads c h s.thread u ≡ heads b h u
  heads_are h u = ap (λ t. h (FreeList (list_of t c.threads u))) (sym at.part.thread) ∙ ap (λ n. h (FreeList (list_of b.thread n u))) (sym at.part.threads)

  known_in : (h : Heap) (r : BuildRow) → BuildKnows c h s.thread r → Known b h r
  known_in h (TakeFree u) k = λ v low. sym (heads_are h v) ∙ k v low
  known_in h (Collect list u) k = λ v low. sym (heads_are h v) ∙ k v low
  known_in h (Reserve seen) k = k
  known_in h _ k = tt

  known_out : (h : Heap) (r : BuildRow) → Known b h r → BuildKnows c h s.thread r
  known_out h (TakeFree u) k = λ v low. heads_are h v ∙ k v low
  known_out h (Collect list u) k = λ v low. heads_are h v ∙ k v low
  known_out h (Reserve seen) k = k
  known_out h _ k = tt

  -- nobody else holds anything, so the lists are not all empty
  free : FreeKept (extent c) s.heap (λ t. free_held (s.holds t))
  free = s.rules.reuse.free

  rest : AllEmpty b s.heap → length (free.private_lists s.thread) + length (s.holds s.thread).held < (s.holds s.thread).reserved → ⊥
  rest dry = never_dry (extent c) s.heap (λ t. free_held (s.holds t)) free s.thread s.low
      (λ u ul ne. ap free_held (s.empty u ul (alone.others u ul ne)))
      (λ v vl. all_lists s.heap b.thread b.threads fits.thread dry v (omega (arith, vl, at.part.threads)))

  in_hand : length (free.private_lists s.thread) ≡ 0 ⊎ (link (s.heap (ColourOf (s.holds s.thread).free_list)) ≡ 0) → length (free.private_lists s.thread) ≤ 1
  in_hand (inl none) = omega (arith, none)
  in_hand (inr last) = chain_of_one (λ x. s.heap (ColourOf x)) (s.holds s.thread).free_list (free.private_lists s.thread) (free.private_chain s.thread s.low) last

  finds : (r : BuildRow) → s.holds s.thread ≡ row_in_hand b.blocks b.held r → RowFits c b.blocks b.held r → Finds b s.heap r
  finds (TakeFree u) is row = λ dry. (
      let none : length (free.private_lists s.thread) ≡ 0 = chain_of_none (λ x. s.heap (ColourOf x)) (s.holds s.thread).free_list (free.private_lists s.thread) (free.private_chain s.thread s.low) (ap (λ (w : WorkInHand). w.free_list) is) in
      let held : length (s.holds s.thread).held ≡ length b.held = ap (λ (w : WorkInHand). length w.held) is in
      let reserved : (s.holds s.thread).reserved ≡ b.blocks = ap (λ (w : WorkInHand). w.reserved) is in
      rest dry (omega (arith, none, held, reserved, row.1)))
  finds (Collect list u) is row = λ few last dry. (
      let one : length (free.private_lists s.thread) ≤ 1 = in_hand (inr (ap (λ (w : WorkInHand). link (s.heap (ColourOf w.free_list))) is ∙ last)) in
      let held : length (s.holds s.thread).held ≡ length b.held = ap (λ (w : WorkInHand). length w.held) is in
      let reserved : (s.holds s.thread).reserved ≡ b.blocks = ap (λ (w : WorkInHand). w.reserved) is in
      rest dry (omega (arith, one, held, reserved, few)))
  finds _ is row = tt

  steps : BuildKnows c s.heap s.thread b.row → To c b (terms_of c s.command) s.heap (sym at.part.threads) at.part.threads (sym (fits.size ∙ ap (blocks_of c.width) at.part.command)) refl b.row (length (held_got b.held b.row)) (row_got c.width b b.row (s.heap (place_of (row_want c.width b b.row))))
  steps knows = builds_on c b (terms_of c s.command) s.heap (sym at.part.threads) at.part.threads (sym (fits.size ∙ ap (blocks_of c.width) at.part.command)) refl b.row fits.row fits.some (known_in s.heap b.row knows) (finds b.row at.holds fits.row) at.part.going

pub build_lone : (c : Config) (b : BuildState) → LoneLaw c (Build b)
build_lone c b s at alone event knows =
    let n : BuildState = build_got (extent c) b (word_at c s (Build b)) in
    let step = steps c s b at alone knows in
    record {
      goes = step.0;
      out = builds_out n (build_reply n);
      knows = knows_on c (heap_left c s (Build b)) s.thread (pass_left c s (Build b)) s.due (paid_left c s (Build b)) n n n.row refl (known_out c s b at alone (heap_left c s (Build b)) n.row step.1);
      moves = step.2 (lone_of c s.heap s.thread (s.due - s.spent) (Build b)) (lone_of c (heap_left c s (Build b)) s.thread (s.due - paid_left c s (Build b)) (part_left c s (Build b))) (stands_on c n n n.row refl);
    }
