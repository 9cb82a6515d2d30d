-- Each event of marking keeps the tricolour rule.
use Rattle.std.proofs.Common.{◌≡◌, ◌≢◌, ℕ, ◌<◌, ◌+◌, eqb, ltb, refl, arith, subst, sym, ap, ◌∙◌, inl, inr, ⊎_elim, Some, true, false, eq-eqb, ne_eqb, ltb-false, List}
use Rattle.std.proofs.lemmas.Bool.{cases_eq, cases_Bool, eqb-false}
use Rattle.block_store.specs.declared.Config.{Config}
use Rattle.block_store.specs.Colours.{grey_word, white_word, black_word}
use Rattle.block_store.proofs.Lemmas.{black-white, colours, grey-black, grey-white}
use Rattle.block_store.specs.Heaps.{Heap, put_at}
use Rattle.block_store.specs.Payloads.{target}
use Rattle.block_store.specs.Widths.{payloads}
use Rattle.block_store.specs.Places.{Extent, extent, GreyList, ColourOf, PayloadOf, IsBlock}
use Rattle.block_store.specs.Counts.{changed}
use Rattle.heap_machine.specs.declared.pass.Pass.{Pass}
use Rattle.heap_machine.specs.WorkInHand.{tricolour_held}
use Rattle.heap_machine.specs.Operations.{place_of, heap_after}
use Rattle.heap_machine.specs.Tricolour.{TricolourInHand, no_tricolour, NotWhite, TricolourKept}
use Rattle.heap_machine.proofs.Lemmas.{HeldAt, goes_on, held_as, held_colour, kept_colour}
use Rattle.heap_machine.proofs.Tricolours.{lets_go}
use Rattle.grey_steps.specs.declared.rows.GreyRow.{GreyRow}
use Rattle.grey_steps.specs.declared.rows.GreyRow.TheVariants.{Take, Pop, ScanWord, Shade, Blacken, Put, Scanned, NothingGrey, TakeOwn, ShadeStored, PutOwn, Shaded}
use Rattle.grey_steps.specs.MarkUnits.{is_blackening, is_shading, grey_after}
use Rattle.grey_steps.proofs.MarkUnits.{shade_is_over, scan_is_over}
use Rattle.grey_steps.specs.Rows.{GreyState, list_of, row_want, row_got, after_word, after_take, after_scan, after_black, after_stored, shaded_list, grey_want, grey_got, grey_over, grey_in_hand, marking_in_hand, scanning, shading}
use Rattle.grey_steps.specs.Fits.{RowFits, GreyFits}
use Rattle.grey_steps.proofs.GreyRuleKept.{low_thread}

-- a thread that has dealt with j payloads of x, one that has found z in the next, and one that has
-- shaded y
abbrev scans : ℕ → ℕ → TricolourInHand
scans x j = record no_tricolour { scan = x; dealt = j }

abbrev refers : ℕ → ℕ → ℕ → TricolourInHand
refers x j z = record no_tricolour { scan = x; dealt = j; found = z }

abbrev stores : ℕ → TricolourInHand
stores y = record no_tricolour { shaded = y }

-- what it holds of the rule, where a block has m payloads
abbrev held_tri : ℕ → GreyRow → TricolourInHand
held_tri m r = tricolour_held (grey_in_hand m r)

take_none : (m n u w : ℕ) → held_tri m (after_take n u w) ≡ no_tricolour
take_none m n u w = elim (cases_Bool (eqb w 0)) [
  | inl z ↦ elim (cases_Bool (ltb (u + 1) n))
      [ inl more ↦ rw (z, more) refl | inr last ↦ rw (z, last) refl ]
  | inr nz ↦ rw nz refl
]

black_none : (m a : ℕ) → held_tri m (after_black a) ≡ no_tricolour
black_none m a = elim (cases_Bool (eqb a 0)) [ inl z ↦ rw z refl | inr nz ↦ rw nz refl ]

stored_shaded : (m y a : ℕ) → held_tri m (after_stored y a) ≡ stores y
stored_shaded m y a = elim (cases_Bool (eqb a 0)) [ inl z ↦ rw z refl | inr nz ↦ rw nz refl ]

-- what the payloads of x below j refer to is not white
abbrev Dealt : ℕ → Heap → ℕ → ℕ → Type 0
Dealt c h x j = (i : ℕ) → i < j → NotWhite c (colours h) (target (h (PayloadOf x i)))

scans_held : (c : ℕ) (h : Heap) (x j : ℕ) → Dealt c h x j → HeldAt c h (scans x j)
scans_held c h x j all =
    record { dealt = all; found = λ ne. absurd (ne refl); shaded = λ ne. absurd (ne refl) }

stores_held : (c : ℕ) (h : Heap) (y : ℕ) → NotWhite c (colours h) y → HeldAt c h (stores y)
stores_held c h y dark =
    record { dealt = λ i low. absurd (omega arith); found = λ ne. absurd (ne refl); shaded = dark }

one_more : (c : ℕ) (h : Heap) (x j : ℕ) → Dealt c h x j
    → NotWhite c (colours h) (target (h (PayloadOf x j))) → Dealt c h x (j + 1)
one_more c h x j below here i low = elim (cases_eq i j) [
  | inl e ↦ subst (λ q. NotWhite c (colours h) (target (h (PayloadOf x q)))) (sym e) here
  | inr ne ↦ below i (omega arith)
]

-- payload j of x was dealt with
word_held : (m c : ℕ) (h : Heap) (x j a : ℕ) → j < m → Dealt c h x (j + 1)
    → HeldAt c h (held_tri m (after_word m x j a))
word_held m c h x j a low all = elim (cases_Bool (ltb (j + 1) m)) [
  | inl is ↦ rw is (scans_held c h x (j + 1) all)
  | inr is ↦ rw is
      (scans_held c h x m (λ i l. all i (let b = ltb-false (j + 1) m is in omega arith)))
]

scan_held : (m c : ℕ) (h : Heap) (x j a : ℕ) → j < m → HeldAt c h (scans x j)
    → HeldAt c h (held_tri m (after_scan m x j a (target (h (PayloadOf x j)))))
scan_held m c h x j a low k = elim (cases_eq (target (h (PayloadOf x j))) 0) [
  | inl z ↦ rw (eq-eqb (target (h (PayloadOf x j))) 0 z)
      (word_held m c h x j a low (one_more c h x j k.dealt (λ ne. absurd (ne z))))
  | inr nz ↦ rw (ne_eqb (target (h (PayloadOf x j))) 0 nz)
      (record { dealt = k.dealt; found = λ _. inl refl; shaded = λ ne. absurd (ne refl) })
]

-- the block that was found is not white now, so payload j of x is dealt with
found_dealt : (c : ℕ) (h : Heap) (x j z : ℕ) → z ≢ 0 → HeldAt c h (refers x j z)
    → h (ColourOf z) ≢ white_word c → Dealt c h x (j + 1)
found_dealt c h x j z some k dark = one_more c h x j k.dealt
    (⊎_elim (λ same. subst (NotWhite c (colours h)) (sym same) (λ _. dark)) (λ nw. nw)
    (k.found some))

grey_now : (c : ℕ) (h : Heap) (z a : ℕ) → put_at h (ColourOf z) (grey_word a) (ColourOf z) ≢
    white_word c
grey_now c h z a = rw (eq-eqb z z refl) (grey-white a c)

module _ (g : Config) (n c : ℕ) (h : Heap) (hs : ℕ → TricolourInHand)
    (k : TricolourKept (extent g) c h hs) (t : ℕ) (low : t < g.threads) where
  abbrev ex : Extent
  ex = extent g

  abbrev m : ℕ
  m = payloads ex.width

  -- a block becomes grey
  greys : (z a : ℕ) → TricolourKept ex c (put_at h (ColourOf z) (grey_word a)) hs
  greys z a =
      kept_colour ex c h hs z (grey_word a) (grey-white a c) (λ g. absurd (grey-black a c g)) k

  shade_step : (x j z a : ℕ) → j < m → z ≢ 0 → hs t ≡ refers x j z
      → TricolourKept ex c (heap_after h (row_want t n c (Shade x j z a)))
      (changed hs t (held_tri m (after_word m x j (shaded_list c z a (h (ColourOf z))))))
  shade_step x j z a few some e =
      let held : HeldAt c h (refers x j z) = held_as ex c h hs k t (refers x j z) low e in
      elim (cases_Bool (eqb (h (ColourOf z)) (white_word c))) [
        | inl is ↦
            let new : HeldAt c (put_at h (ColourOf z) (grey_word a)) (refers x j z) =
            held_colour c h z (grey_word a) (refers x j z) (grey-white a c) held in
            rw is (goes_on ex c (put_at h (ColourOf z) (grey_word a)) hs t
            (held_tri m (after_word m x j z))
            (word_held m c (put_at h (ColourOf z) (grey_word a)) x j z few
            (found_dealt c (put_at h (ColourOf z) (grey_word a)) x j z some new
            (grey_now c h z a))) (greys z a))
        | inr is ↦ rw is
            (goes_on ex c h hs t (held_tri m (after_word m x j a))
            (word_held m c h x j a few
            (found_dealt c h x j z some held (eqb-false (h (ColourOf z)) (white_word c) is))) k)
      ]

  stored_step : (z a : ℕ) → TricolourKept ex c (heap_after h (row_want t n c (ShadeStored z a)))
      (changed hs t (held_tri m (after_stored z (shaded_list c z a (h (ColourOf z))))))
  stored_step z a = rw (stored_shaded m z (shaded_list c z a (h (ColourOf z))))
      (elim (cases_Bool (eqb (h (ColourOf z)) (white_word c))) [
        | inl is ↦ rw is
            (goes_on ex c (put_at h (ColourOf z) (grey_word a)) hs t (stores z)
            (stores_held c (put_at h (ColourOf z) (grey_word a)) z (λ _. grey_now c h z a)) (greys z a))
        | inr is ↦ rw is
            (goes_on ex c h hs t (stores z)
            (stores_held c h z (λ _. eqb-false (h (ColourOf z)) (white_word c) is)) k)
      ])

  black_step : (x a : ℕ) → hs t ≡ scans x m → TricolourKept ex c
      (put_at h (ColourOf x) (black_word c)) (changed hs t (held_tri m (after_black a)))
  black_step x a e =
      let held : HeldAt c h (scans x m) = held_as ex c h hs k t (scans x m) low e in
      rw (black_none m a)
      (lets_go ex c (put_at h (ColourOf x) (black_word c)) hs t
      (kept_colour ex c h hs x (black_word c) (black-white c) (λ _. held.dealt) k))

  row_keeps : (r : GreyRow) → RowFits g r → hs t ≡ held_tri m r
      → TricolourKept ex c (heap_after h (row_want t n c r))
      (changed hs t (held_tri m (row_got m n c r (h (place_of (row_want t n c r))))))
  row_keeps (Take u) f e = rw (take_none m n u (h (GreyList (list_of t n u))))
      (lets_go ex c (put_at h (GreyList (list_of t n u)) 0) hs t k)
  row_keeps (Pop a) f e =
      goes_on ex c h hs t (scans a 0) (scans_held c h a 0 (λ i l. absurd (omega arith))) k
  row_keeps (ScanWord x j a) f e = goes_on ex c h hs t
      (held_tri m (after_scan m x j a (target (h (PayloadOf x j)))))
      (scan_held m c h x j a f.1 (held_as ex c h hs k t (scans x j) low e)) k
  row_keeps (Shade x j z a) f e = shade_step x j z a f.1 (λ q. omega (arith, f.2.0)) e
  row_keeps (Blacken x a) f e = black_step x a e
  row_keeps (Put a) f e = lets_go ex c (put_at h (GreyList t) a) hs t k
  row_keeps Scanned f e = lets_go ex c h hs t k
  row_keeps NothingGrey f e = lets_go ex c h hs t k
  row_keeps (TakeOwn z) f e = lets_go ex c (put_at h (GreyList t) 0) hs t k
  row_keeps (ShadeStored z a) f e = stored_step z a
  row_keeps (PutOwn y a) f e = goes_on ex c (put_at h (GreyList t) a) hs t (stores y)
      (held_as ex c h hs k t (stores y) low e) k
  row_keeps (Shaded y) f e =
      goes_on ex c h hs t (stores y) (held_as ex c h hs k t (stores y) low e) k

  -- at the blackening no payload refers to a white block
  black_all : (r : GreyRow) → is_blackening r ≡ true → hs t ≡ held_tri m r → (x : ℕ)
      → (grey_in_hand m r).scan ≡ Some x → Dealt c h x m
  black_all (Blacken z a) is e x o =
      let held : HeldAt c h (scans z m) = held_as ex c h hs k t (scans z m) low e in
      let same : z ≡ x = (let b : Some z ≡ Some x = o in cc) in
      subst (λ q. Dealt c h q m) same held.dealt
  black_all _ is e x o = absurd cc

pub keeps_tricolour : (c : Config) (h : Heap) (hs : ℕ → TricolourInHand) (s : GreyState)
    → GreyFits c s → TricolourKept (extent c) s.pass.cycle h hs
    → hs s.pass.thread ≡ tricolour_held (marking_in_hand (extent c) s)
    → TricolourKept (extent c) s.pass.cycle (heap_after h (grey_want s))
    (changed hs s.pass.thread
    (tricolour_held
    (marking_in_hand (extent c) (grey_got (extent c) s (h (place_of (grey_want s)))))))
keeps_tricolour c h hs s f k e =
    row_keeps c s.pass.threads s.pass.cycle h hs k s.pass.thread (low_thread c s f) s.row f.row e

-- an end that is no shading's
over_none : (m : ℕ) (r : GreyRow) → grey_over r ≡ true → is_shading r ≡ false
    → held_tri m r ≡ no_tricolour
over_none m Scanned e is = refl
over_none m NothingGrey e is = refl
over_none m (Shaded y) e is = absurd cc
over_none m _ e is = absurd cc

-- after the shading before a store the block is not white
pub shaded_dark : (c : Config) (h : Heap) (hs : ℕ → TricolourInHand) (s : GreyState) (y : ℕ)
    → GreyFits c s → TricolourKept (extent c) s.pass.cycle h hs
    → hs s.pass.thread ≡ tricolour_held (marking_in_hand (extent c) s) → s.row ≡ Shaded y
    → h (ColourOf y) ≢ white_word s.pass.cycle
shaded_dark c h hs s y f k e is =
    let same : (hs s.pass.thread).shaded ≡ y =
    ap (λ (w : TricolourInHand). w.shaded) e
    ∙ ap (λ (r : GreyRow). (held_tri (payloads c.width) r).shaded) is in
    let block : IsBlock c y = subst (RowFits c) is f.row in
    subst (NotWhite s.pass.cycle (colours h)) same (k.shaded s.pass.thread (low_thread c s f))
    (λ z. omega (arith, block.0))

-- and so at the end of a part that began with its shading
pub shade_dark : (c : Config) (h : Heap) (hs : ℕ → TricolourInHand) (p : Pass) (y : ℕ)
    (ws : List ℕ) (s : GreyState) → s ≡ grey_after (extent c) (shading p y) ws → GreyFits c s
    → TricolourKept (extent c) s.pass.cycle h hs
    → hs s.pass.thread ≡ tricolour_held (marking_in_hand (extent c) s) → grey_over s.row ≡ true
    → h (ColourOf y) ≢ white_word s.pass.cycle
shade_dark c h hs p y ws s began f k e over =
    let is : s.row ≡ Shaded y = subst (λ (z : GreyState). grey_over z.row ≡ true → z.row ≡ Shaded y)
    (sym began) (shade_is_over (extent c) y (shading p y) refl ws) over in
    shaded_dark c h hs s y f k e is

pub blackened_whole : (c : Config) (h : Heap) (hs : ℕ → TricolourInHand) (s : GreyState) (x j : ℕ)
    → GreyFits c s → TricolourKept (extent c) s.pass.cycle h hs
    → hs s.pass.thread ≡ tricolour_held (marking_in_hand (extent c) s) → is_blackening s.row ≡ true
    → (marking_in_hand (extent c) s).scan ≡ Some x → j < (payloads c.width)
    → target (h (PayloadOf x j)) ≢ 0 → h (ColourOf (target (h (PayloadOf x j)))) ≢ white_word
    s.pass.cycle
blackened_whole c h hs s x j f k e is scan low =
    black_all c s.pass.threads s.pass.cycle h hs k s.pass.thread (low_thread c s f) s.row is e x
    scan j low

-- a scan that is over holds nothing
pub scan_over_none : (e : Extent) (p : Pass) (ws : List ℕ)
    → grey_over (grey_after e (scanning p) ws).row ≡ true
    → tricolour_held (marking_in_hand e (grey_after e (scanning p) ws)) ≡ no_tricolour
scan_over_none e p ws over = over_none (payloads e.width) (grey_after e (scanning p) ws).row over
    (scan_is_over e (scanning p) refl ws)
