-- Each event of building keeps where Free blocks are, what is claimed and what was passed.
use Rattle.std.proofs.Common.{
  ◌≡◌,
  ◌≢◌,
  ℕ,
  suc,
  ◌<◌,
  ◌≤◌,
  ◌+◌,
  ◌-◌,
  ◌&&◌,
  Bool,
  true,
  false,
  refl,
  arith,
  subst,
  sym,
  ap,
  ◌∙◌,
  inl,
  inr,
  eqb,
  ltb,
  eq-eqb,
  ne_eqb,
  eqb-true,
  List,
  [],
  ◌∷◌,
  ◌++◌,
  length,
  take,
}
use Rattle.std.proofs.lemmas.Bool.{cases_Bool, cases_eq, lt-ltb, and_parts}
use Rattle.block_store.specs.declared.Config.{Config}
use Rattle.block_store.specs.Colours.{is_free, link, white_word, black_word}
use Rattle.block_store.proofs.Lemmas.{bit_one, black-white, changed_here, funext, not_free_black, not_free_white, times_more}
use Rattle.block_store.specs.Heaps.{Heap, put_at}
use Rattle.block_store.specs.Phases.{bit, cycle_of}
use Rattle.block_store.specs.Widths.{payloads}
use Rattle.block_store.specs.Places.{
  Extent,
  extent,
  is_block,
  IsBlock,
  Phase,
  FreeCount,
  FreeList,
  ColourOf,
}
use Rattle.block_store.specs.Counts.{changed, times}
use Rattle.heap_machine.specs.FreeBlocks.{FreeInHand, FreeKept}
use Rattle.heap_machine.specs.WorkInHand.{WorkInHand, holds_nothing, free_held, sweep_held}
use Rattle.heap_machine.specs.Operations.{Operation, Exchange, place_of, heap_after}
use Rattle.heap_machine.specs.ReuseKept.{ReuseKept, is_of_reuse}
use Rattle.heap_machine.specs.Sweeping.{SweepInHand, SweepKept, no_claim}
use Rattle.heap_machine.proofs.Lemmas.{free_builds, free_collects, free_counts, free_empty, free_lets_go, free_puts, free_takes, reuse_goes, reuse_other, reuse_stays, sweep_colour, sweep_other, sweep_stays}
use Rattle.heap_machine.proofs.FreeBlocks.{free_held as held_is_free}
use Rattle.build_steps.specs.declared.rows.BuildRow.{BuildRow}
use Rattle.build_steps.specs.declared.rows.BuildRow.TheVariants.{
  ReadCount,
  Reserve,
  TakeFree,
  Collect,
  PutRest,
  WriteOwner,
  WriteShape,
  WritePayload,
  WriteColour,
  Publish,
  Built,
  Refused,
}
use Rattle.build_steps.specs.Objects.{block_at}
use Rattle.build_steps.specs.Rows.{
  BuildState,
  list_of,
  row_want,
  row_got,
  held_got,
  next_list,
  after_count,
  after_take,
  after_collect,
  after_payload,
  after_colour,
  build_want,
  build_got,
  build_over,
  row_in_hand,
  holds_first,
  build_in_hand,
}
use Rattle.build_steps.specs.Fits.{RowFits, BuildFits}
use Rattle.build_steps.proofs.Held.{times_first, first_few, first_all}
use Rattle.build_steps.proofs.RowsFit.{length_more}
use Rattle.build_steps.proofs.WantedPlaces.{own_first, list_low}

-- a thread that builds claims nothing
no_sweep : (k : ℕ) (held : List ℕ) (r : BuildRow) → sweep_held (row_in_hand k held r) ≡ no_claim
no_sweep k held ReadCount = refl
no_sweep k held (TakeFree u) = refl
no_sweep k held (Collect a u) = refl
no_sweep k held (PutRest a) = refl
no_sweep k held (WriteOwner o) = refl
no_sweep k held (WriteShape o) = refl
no_sweep k held (WritePayload o j) = refl
no_sweep k held (WriteColour o) = refl
no_sweep k held _ = refl

-- what a thread holds of the Free blocks that collects, and that writes
abbrev collects : ℕ → ℕ → Bool → List ℕ → FreeInHand
collects k a emptied held = record {
  list = a;
  emptied = emptied;
  held = held;
  reserved = k;
  freed = 0;
}

abbrev writes : ℕ → List ℕ → FreeInHand
writes n held = collects n 0 false (take n held)

count_nothing : (k b : ℕ) (held : List ℕ) (v : ℕ)
    → row_in_hand b held (after_count k v) ≡ holds_nothing
count_nothing k b held v = elim (cases_Bool (ltb v k)) [ inl is ↦ rw is refl | inr is ↦ rw is refl ]

payload_in_hand : (k many o j : ℕ) (held : List ℕ)
    → row_in_hand k held (after_payload many o j) ≡ holds_first (o + 1) held
payload_in_hand k many o j held = elim (cases_Bool (ltb (j + 1) many)) [
  | inl is ↦ rw is refl
  | inr is ↦ rw is refl
]

colour_in_hand : (k o : ℕ) (held : List ℕ)
    → free_held (row_in_hand k held (after_colour o)) ≡ writes o held
colour_in_hand k o held = elim (cases_eq o 0) [
  | inl z ↦ rw (eq-eqb o 0 z) (subst (λ n. free_held holds_nothing ≡ writes n held) (sym z) refl)
  | inr nz ↦
      let same : o - 1 + 1 ≡ o = omega arith in
      rw (ne_eqb o 0 nz) (ap (λ n. writes n held) same)
]

changed_twice : (fs : ℕ → FreeInHand) (t : ℕ) (v w : FreeInHand)
    → changed (changed fs t v) t w ≡ changed fs t w
changed_twice fs t v w = funext _ _ (λ u. elim (cases_eq t u) [
  | inl e ↦ rw (eq-eqb t u e) refl
  | inr ne ↦ rw (ne_eqb t u ne) refl
])

module _ (ex : Extent) (h : Heap) (hs : ℕ → WorkInHand) (k : ReuseKept ex h hs) (s : BuildState)
    (same : s.threads ≡ ex.threads) (some : 1 ≤ s.blocks) (lown : s.thread < s.threads)
    (low : s.thread < ex.threads) where
  abbrev fs : ℕ → FreeInHand
  fs u = free_held (hs u)

  abbrev cs : ℕ → SweepInHand
  cs u = sweep_held (hs u)

  abbrev work_in_hand : BuildRow → WorkInHand
  work_in_hand r = row_in_hand s.blocks s.held r

  goes : (g : Heap) (held : List ℕ) (r : BuildRow) (f : FreeInHand)
      → free_held (row_in_hand s.blocks held r) ≡ f
      → FreeKept ex g (changed fs s.thread f)
      → SweepKept ex g (changed cs s.thread no_claim)
      → ReuseKept ex g (changed hs s.thread (row_in_hand s.blocks held r))
  goes g held r f e free sweep = reuse_goes ex g hs s.thread (row_in_hand s.blocks held r)
      (subst (λ w. FreeKept ex g (changed fs s.thread w)) (sym e) free)
      (subst (λ w. SweepKept ex g (changed cs s.thread w)) (sym (no_sweep s.blocks held r)) sweep)

  -- no word of which a rule speaks is written, and the thread holds what it held
  keeps_on : (o : Operation) (w v : WorkInHand) → is_of_reuse (place_of o) ≡ false
      → hs s.thread ≡ w → v ≡ w → ReuseKept ex (heap_after h o) (changed hs s.thread v)
  keeps_on o w v away e q =
      reuse_stays ex (heap_after h o) hs (reuse_other ex h hs k o away) s.thread v low
      (ap free_held (e ∙ sym q)) (ap sweep_held (e ∙ sym q))

  stays : (w v : WorkInHand) → hs s.thread ≡ w → v ≡ w → ReuseKept ex h (changed hs s.thread v)
  stays w v e q = reuse_stays ex h hs k s.thread v low
      (ap free_held (e ∙ sym q)) (ap sweep_held (e ∙ sym q))

  claims_none : (r : BuildRow) → hs s.thread ≡ work_in_hand r
      → SweepKept ex h (changed cs s.thread no_claim)
  claims_none r e = sweep_stays ex h cs k.sweep s.thread low no_claim
      (ap sweep_held e ∙ no_sweep s.blocks s.held r)

  reserve_step : (seen : ℕ) → s.held ≡ [] → s.blocks ≤ seen → hs s.thread ≡ work_in_hand (Reserve seen)
      → h FreeCount ≡ seen
      → ReuseKept ex (put_at h FreeCount (seen - s.blocks))
      (changed hs s.thread (work_in_hand (TakeFree 0)))
  reserve_step seen none fits e is =
      goes (put_at h FreeCount (seen - s.blocks)) s.held (TakeFree 0) (collects s.blocks 0 false [])
      (subst (λ (xs : List ℕ). free_held (row_in_hand s.blocks xs (TakeFree 0))
      ≡ collects s.blocks 0 false []) (sym none) refl)
      (free_counts ex h fs k.free s.thread low (free_held holds_nothing) (ap free_held e)
      (seen - s.blocks) s.blocks 0 (omega arith) (omega arith))
      (sweep_other ex h (changed cs s.thread no_claim) (Exchange FreeCount (seen - s.blocks)) refl
      (claims_none (Reserve seen) e))

  -- its own list is the first that it takes
  took : (u : ℕ) → hs s.thread ≡ work_in_hand (TakeFree u)
      → put_at h (FreeList (list_of s.thread s.threads u)) 0 (FreeList s.thread) ≡ 0
  took u e = elim (cases_eq (list_of s.thread s.threads u) s.thread) [
    | inl here ↦ rw (eq-eqb (list_of s.thread s.threads u) s.thread here) refl
    | inr away ↦
        let pos : u ≡ 0 → ⊥ = λ z. away
        (ap (list_of s.thread s.threads) z ∙ own_first s.thread s.threads lown) in
        rw (ne_eqb (list_of s.thread s.threads u) s.thread away)
        (free_empty ex h fs k.free s.thread low (free_held (work_in_hand (TakeFree u)))
        (ap free_held e) (lt-ltb 0 (u + length s.held) (omega arith)))
  ]

  take_goes : (u : ℕ) (r : BuildRow) (emptied : Bool) → hs s.thread ≡ work_in_hand (TakeFree u)
      → free_held (work_in_hand r)
      ≡ collects s.blocks (h (FreeList (list_of s.thread s.threads u))) emptied s.held
      → ReuseKept ex (put_at h (FreeList (list_of s.thread s.threads u)) 0)
      (changed hs s.thread (work_in_hand r))
  take_goes u r emptied e q =
      let v = list_of s.thread s.threads u in
      let vlow : v < ex.threads = subst (λ n. v < n) same (list_low s.thread s.threads u lown) in
      goes (put_at h (FreeList v) 0) s.held r (collects s.blocks (h (FreeList v)) emptied s.held) q
      (free_takes ex h fs k.free s.thread low (free_held (work_in_hand (TakeFree u))) (ap free_held e)
      v emptied vlow refl (λ _. took u e))
      (sweep_other ex h (changed cs s.thread no_claim) (Exchange (FreeList v) 0) refl
      (claims_none (TakeFree u) e))

  take_step : (u : ℕ) → hs s.thread ≡ work_in_hand (TakeFree u)
      → ReuseKept ex (put_at h (FreeList (list_of s.thread s.threads u)) 0)
      (changed hs s.thread (work_in_hand (after_take s.threads u
      (h (FreeList (list_of s.thread s.threads u))))))
  take_step u e =
      let a = h (FreeList (list_of s.thread s.threads u)) in
      elim (cases_eq a 0) [
        | inl z ↦ rw (eq-eqb a 0 z) (take_goes u (TakeFree (next_list s.threads u))
            (ltb 0 (next_list s.threads u + length s.held)) e
            (ap (λ b. collects s.blocks b (ltb 0 (next_list s.threads u + length s.held)) s.held)
            (sym z)))
        | inr nz ↦ rw (ne_eqb a 0 nz) (take_goes u (Collect a u) true e refl)
      ]

  -- the first block of the private list is held, and the rest is in the private list
  pub collected : (a u : ℕ) → 1 ≤ a → length s.held < s.blocks → hs s.thread ≡ work_in_hand (Collect a u)
      → FreeKept ex h (changed fs s.thread
      (collects s.blocks (link (h (ColourOf a))) true (s.held ++ a ∷ [])))
  collected a u pos few e = free_collects ex h fs k.free s.thread low
      (free_held (work_in_hand (Collect a u))) (ap free_held e) (s.held ++ a ∷ []) (λ z. omega arith)
      (times_more s.held a) (omega (arith, length_more s.held a))

  -- and where that is empty it is let go
  let_go : (a u : ℕ) → 1 ≤ a → length s.held < s.blocks → hs s.thread ≡ work_in_hand (Collect a u)
      → link (h (ColourOf a)) ≡ 0
      → FreeKept ex h (changed fs s.thread (collects s.blocks 0 false (s.held ++ a ∷ [])))
  let_go a u pos few e none =
      let w = collects s.blocks (link (h (ColourOf a))) true (s.held ++ a ∷ []) in
      subst (λ gs. FreeKept ex h gs)
      (changed_twice fs s.thread w (collects s.blocks 0 false (s.held ++ a ∷ [])))
      (free_lets_go ex h (changed fs s.thread w) (collected a u pos few e) s.thread low w
      (changed_here fs s.thread w) none)

  collect_goes : (a u : ℕ) → 1 ≤ a → length s.held < s.blocks → hs s.thread ≡ work_in_hand (Collect a u)
      → (r : BuildRow)
      → free_held (row_in_hand s.blocks (s.held ++ a ∷ []) r)
      ≡ collects s.blocks (link (h (ColourOf a))) true (s.held ++ a ∷ [])
      → ReuseKept ex h (changed hs s.thread (row_in_hand s.blocks (s.held ++ a ∷ []) r))
  collect_goes a u pos few e r q =
      goes h (s.held ++ a ∷ []) r
      (collects s.blocks (link (h (ColourOf a))) true (s.held ++ a ∷ [])) q
      (collected a u pos few e) (claims_none (Collect a u) e)

  collect_step : (a u : ℕ) → 1 ≤ a → length s.held < s.blocks → hs s.thread ≡ work_in_hand (Collect a u)
      → ReuseKept ex h (changed hs s.thread (row_in_hand s.blocks (s.held ++ a ∷ [])
      (after_collect s.blocks s.threads (length s.held + 1) (link (h (ColourOf a))) u)))
  collect_step a u pos few e =
      let b = link (h (ColourOf a)) in
      let held = s.held ++ a ∷ [] in
      let many : length held ≡ length s.held + 1 = length_more s.held a in
      elim (cases_eq (length s.held + 1) s.blocks) [
        | inl last ↦ elim (cases_eq b 0) [
          | inl z ↦
              let all : take (s.blocks - 1 + 1) held ≡ held = first_all _ held (omega arith) in
              let count : s.blocks - 1 + 1 ≡ s.blocks = omega arith in
              rw (eq-eqb (length s.held + 1) s.blocks last, eq-eqb b 0 z)
              (goes h held (WriteOwner (s.blocks - 1)) (collects s.blocks 0 false held)
              (ap (λ (xs : List ℕ). collects (s.blocks - 1 + 1) 0 false xs) all
              ∙ ap (λ n. collects n 0 false held) count)
              (let_go a u pos few e z) (claims_none (Collect a u) e))
          | inr nz ↦ rw (eq-eqb (length s.held + 1) s.blocks last, ne_eqb b 0 nz)
              (collect_goes a u pos few e (PutRest b) refl)
        ]
        | inr more ↦ elim (cases_eq b 0) [
          | inl z ↦
              let next = next_list s.threads u in
              let is : ltb 0 (next + length held) ≡ true = lt-ltb 0 _ (omega arith) in
              rw (ne_eqb (length s.held + 1) s.blocks more, eq-eqb b 0 z)
              (collect_goes a u pos few e (TakeFree next)
              (ap (λ (x : Bool). collects s.blocks 0 x held) is
              ∙ ap (λ x. collects s.blocks x true held) (sym z)))
          | inr nz ↦ rw (ne_eqb (length s.held + 1) s.blocks more, ne_eqb b 0 nz)
              (collect_goes a u pos few e (Collect b u) refl)
        ]
      ]

  put_step : (a : ℕ) → length s.held ≡ s.blocks → hs s.thread ≡ work_in_hand (PutRest a)
      → ReuseKept ex (put_at h (FreeList s.thread) a)
      (changed hs s.thread (work_in_hand (WriteOwner (s.blocks - 1))))
  put_step a all e =
      let these : take (s.blocks - 1 + 1) s.held ≡ s.held = first_all _ s.held (omega arith) in
      let count : s.blocks - 1 + 1 ≡ s.blocks = omega arith in
      goes (put_at h (FreeList s.thread) a) s.held (WriteOwner (s.blocks - 1))
      (collects s.blocks 0 false s.held)
      (ap (λ (xs : List ℕ). collects (s.blocks - 1 + 1) 0 false xs) these
      ∙ ap (λ n. collects n 0 false s.held) count)
      (free_puts ex h fs k.free s.thread low (free_held (work_in_hand (PutRest a)))
      (ap free_held e) refl)
      (sweep_other ex h (changed cs s.thread no_claim) (Exchange (FreeList s.thread) a) refl
      (claims_none (PutRest a) e))

  -- the block of ordinal o is still Free
  pub still_free : (o : ℕ) (r : BuildRow) → o < length s.held → hs s.thread ≡ work_in_hand r
      → work_in_hand r ≡ holds_first (o + 1) s.held
      → is_free (h (ColourOf (block_at s.held o))) ≡ true
  still_free o r fits e is =
      let x = block_at s.held o in
      let here : times x (fs s.thread).held ≡ times x (take (o + 1) s.held) =
      ap (λ (w : WorkInHand). times x w.held) (e ∙ is) in
      let next : take (o + 1) s.held ≡ take (suc o) s.held =
      ap (λ n. take n s.held) (let q : o + 1 ≡ suc o = omega arith in q) in
      let count : times x (take (o + 1) s.held) ≡ times x (take (suc o) s.held) =
      ap (times x) next in
      let one : bit (eqb x x) ≡ 1 = ap bit (eq-eqb x x refl) in
      let there = held_is_free ex h fs k.free s.thread x low in
      let both = bit_one (is_block ex x && is_free (h (ColourOf x)))
      (omega (arith, times_first s.held o x fits)) in
      (and_parts (is_block ex x) (is_free (h (ColourOf x))) both).1

  colour_step : (o : ℕ) → o < length s.held
      → (1 ≤ block_at s.held o) × (block_at s.held o ≤ ex.blocks)
      → cycle_of (h Phase) ≡ s.cycle → hs s.thread ≡ work_in_hand (WriteColour o)
      → ReuseKept ex (put_at h (ColourOf (block_at s.held o)) (black_word s.cycle))
      (changed hs s.thread (work_in_hand (after_colour o)))
  colour_step o fits block cycle e =
      let x = block_at s.held o in
      let c = cycle_of (h Phase) in
      let free = still_free o (WriteColour o) fits e refl in
      let next : o + 1 ≡ suc o = omega arith in
      let dark : black_word s.cycle ≢ white_word c =
      subst (λ d. black_word s.cycle ≢ white_word d) (sym cycle) (black-white s.cycle) in
      let live : h (ColourOf x) ≢ white_word c =
      λ z. absurd (let q : true ≡ false = sym free ∙ ap is_free z ∙ not_free_white c in cc) in
      goes (put_at h (ColourOf x) (black_word s.cycle)) s.held (after_colour o) (writes o s.held)
      (colour_in_hand s.blocks o s.held)
      (free_builds ex h fs k.free s.thread low (free_held (holds_first (o + 1) s.held))
      (ap free_held e) x (black_word s.cycle) o (take o s.held) block.0 block.1 free
      (not_free_black s.cycle)
      (λ y. subst (λ n. times y (take n s.held) ≡ bit (eqb y x) + times y (take o s.held))
      (sym next)
      (times_first s.held o y fits))
      (sym next) (first_few o s.held))
      (sweep_colour ex h (changed cs s.thread no_claim) x (black_word s.cycle) (λ _. (dark, live))
      (claims_none (WriteColour o) e))

  row_keeps : (c : Config) → extent c ≡ ex → (r : BuildRow) → RowFits c s.blocks s.held r
      → ((o : ℕ) → o < length s.held → IsBlock c (block_at s.held o))
      → cycle_of (h Phase) ≡ s.cycle → hs s.thread ≡ work_in_hand r
      → ReuseKept ex (heap_after h (row_want ex.width s r)) (changed hs s.thread
      (row_in_hand s.blocks (held_got s.held r)
      (row_got ex.width s r (h (place_of (row_want ex.width s r))))))
  row_keeps c is ReadCount f blocks cycle e =
      stays holds_nothing (work_in_hand (after_count s.blocks (h FreeCount))) e
      (count_nothing s.blocks s.blocks s.held (h FreeCount))
  row_keeps c is (Reserve seen) f blocks cycle e = elim (cases_Bool (eqb (h FreeCount) seen)) [
    | inl won ↦ rw won (reserve_step seen f.0 f.1 e (eqb-true (h FreeCount) seen won))
    | inr lost ↦ rw lost (stays holds_nothing (work_in_hand ReadCount) e refl)
  ]
  row_keeps c is (TakeFree u) f blocks cycle e = take_step u e
  row_keeps c is (Collect a u) f blocks cycle e = collect_step a u f.0.0 f.2 e
  row_keeps c is (PutRest a) f blocks cycle e = put_step a f.1 e
  row_keeps c is (WriteOwner o) f blocks cycle e =
      keeps_on (row_want ex.width s (WriteOwner o)) (work_in_hand (WriteOwner o))
      (work_in_hand (WriteShape o))
      refl e refl
  row_keeps c is (WriteShape o) f blocks cycle e =
      keeps_on (row_want ex.width s (WriteShape o)) (work_in_hand (WriteShape o))
      (work_in_hand (WritePayload o 0)) refl e refl
  row_keeps c is (WritePayload o j) f blocks cycle e =
      keeps_on (row_want ex.width s (WritePayload o j)) (work_in_hand (WritePayload o j))
      (work_in_hand (after_payload (payloads ex.width) o j)) refl e
      (payload_in_hand s.blocks (payloads ex.width) o j s.held)
  row_keeps c is (WriteColour o) f blocks cycle e =
      let all = f.0 in
      let low = f.1 in
      colour_step o (omega arith) (subst (λ (z : Extent). (1 ≤ block_at s.held o)
      × (block_at s.held o ≤ z.blocks)) is (blocks o (omega arith))) cycle e
  row_keeps c is Publish f blocks cycle e =
      keeps_on (row_want ex.width s Publish) holds_nothing (work_in_hand Built) refl e refl
  row_keeps c is Built f blocks cycle e = stays holds_nothing (work_in_hand Built) e refl
  row_keeps c is Refused f blocks cycle e = stays holds_nothing (work_in_hand Refused) e refl

pub keeps_reuse : (c : Config) (h : Heap) (hs : ℕ → WorkInHand) (s : BuildState) → BuildFits c s
    → cycle_of (h Phase) ≡ s.cycle
    → ReuseKept (extent c) h hs → hs s.thread ≡ build_in_hand s
    → ReuseKept (extent c) (heap_after h (build_want (extent c) s))
    (changed hs s.thread
    (build_in_hand (build_got (extent c) s (h (place_of (build_want (extent c) s))))))
keeps_reuse c h hs s f cycle k e =
    row_keeps (extent c) h hs k s f.threads f.some f.thread
    (subst (λ n. s.thread < n) f.threads f.thread) c refl s.row f.row f.held cycle e

-- an end holds nothing
over_row : (k : ℕ) (held : List ℕ) (r : BuildRow) → build_over r ≡ true
    → row_in_hand k held r ≡ holds_nothing
over_row k held Built e = refl
over_row k held Refused e = refl
over_row k held _ e = absurd (let z : false ≡ true = e in cc)

pub over_holds_none : (s : BuildState) → build_over s.row ≡ true → build_in_hand s ≡ holds_nothing
over_holds_none s e = over_row s.blocks s.held s.row e
