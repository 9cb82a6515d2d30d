-- Each event of marking is one of those that keep what the graph reaches, or changes nothing that
-- these see.
use Rattle.std.proofs.Common.{◌≡◌, ℕ, ◌<◌, ◌+◌, true, false, eqb, ltb, refl, arith, subst, sym, ap, ◌∙◌, inl, inr, List, eqb-true}
use Rattle.std.proofs.lemmas.Bool.{cases_Bool}
use Rattle.block_store.specs.declared.Config.{Config}
use Rattle.block_store.specs.Colours.{grey_word, white_word, black_word}
use Rattle.block_store.specs.Counts.{changed}
use Rattle.block_store.specs.Heaps.{Heap, put_at}
use Rattle.block_store.specs.Payloads.{target}
use Rattle.block_store.specs.Phases.{is_sweep, cycle_of}
use Rattle.block_store.specs.Places.{extent, Phase, GreyList, ColourOf, PayloadOf}
use Rattle.block_store.specs.Widths.{payloads}
use Rattle.heap_machine.specs.Grey.{GreyKept}
use Rattle.heap_machine.specs.WorkInHand.{WorkInHand, grey_held}
use Rattle.heap_machine.specs.Operations.{place_of, heap_after}
use Rattle.heap_machine.proofs.Lemmas.{scan_is_grey}
use Rattle.never_heap.specs.Graphs.{Graph}
use Rattle.never_heap.specs.Histories.{HistoryItem}
use Rattle.heap_invariant.specs.graph_relation.Events.{HasValue}
use Rattle.heap_invariant.specs.name_invariant.Events.{loaded_word}
use Rattle.heap_invariant.specs.name_invariant.Invariant.{Invariant}
use Rattle.heap_invariant.specs.name_invariant.Pictures.{Task, Names, picture}
use Rattle.heap_invariant.specs.name_invariant.States.{KeptState}
use Rattle.heap_invariant.proofs.Lemmas.{blackens, reads_word, scan_changed, scanned, shades_loaded, shades_read}
use Rattle.grey_steps.specs.declared.rows.GreyRow.{GreyRow}
use Rattle.grey_steps.specs.declared.rows.GreyRow.TheVariants.{Take, Pop, ScanWord, Shade, Blacken, Put, Scanned, NothingGrey, TakeOwn, ShadeStored, PutOwn, Shaded}
use Rattle.grey_steps.specs.MarkUnits.{is_shading, block_stored}
use Rattle.grey_steps.specs.Fits.{RowFits, GreyFits}
use Rattle.grey_steps.specs.Rows.{GreyState, list_of, row_want, row_got, after_take, after_word, after_scan, after_black, shaded_list, grey_want, grey_got, grey_in_hand, marking_in_hand}
use Rattle.grey_steps.proofs.GreyRuleKept.{low_thread}

-- the block that a row has found in a payload
abbrev found_at : ℕ → GreyRow → ℕ
found_at m r = (grey_in_hand m r).found

take_found : (m n u w : ℕ) → found_at m (after_take n u w) ≡ 0
take_found m n u w = elim (cases_Bool (eqb w 0)) [
  | inl z ↦ elim (cases_Bool (ltb (u + 1) n)) [
    | inl more ↦ rw (z, more) refl
    | inr last ↦ rw (z, last) refl
  ]
  | inr nz ↦ rw nz refl
]

black_found : (m a : ℕ) → found_at m (after_black a) ≡ 0
black_found m a = elim (cases_Bool (eqb a 0)) [ inl z ↦ rw z refl | inr nz ↦ rw nz refl ]

word_found : (m x j a : ℕ) → found_at m (after_word m x j a) ≡ 0
word_found m x j a =
    elim (cases_Bool (ltb (j + 1) m)) [ inl more ↦ rw more refl | inr last ↦ rw last refl ]

scan_found : (m x j a z : ℕ) → found_at m (after_scan m x j a z) ≡ z
scan_found m x j a z = elim (cases_Bool (eqb z 0)) [
  | inl none ↦ rw none (word_found m x j a ∙ sym (eqb-true z 0 none))
  | inr some ↦ rw some refl
]

module _ (c : Config) (g : Graph) (order : List HistoryItem) (names : Names) (tasks : ℕ → Task)
    (h : Heap) (mark : is_sweep (h Phase) ≡ false) (t : ℕ) (low : t < c.threads)
    (k : Invariant c (picture g order h names tasks)) where
  abbrev now : KeptState
  now = picture g order h names tasks

  abbrev y : ℕ
  y = cycle_of (h Phase)

  abbrev m : ℕ
  m = payloads c.width

  -- the rules with these words, where the scan of thread t has read x, or 0
  abbrev With : Heap → ℕ → Type 0
  With q x = Invariant c (picture g order q names (changed tasks t (record (tasks t) { scan = x })))

  reads : (q : Heap) (x z : ℕ) → x ≡ z
      → Invariant c (record (picture g order q names tasks) { scans = changed now.scans t z })
      → With q x
  reads q x z is kept = subst (With q) (sym is)
      (subst (λ (s : KeptState). Invariant c s) (sym (scan_changed g order q names tasks t z)) kept)

  -- the scan goes on
  passes : (x : ℕ) → x ≡ 0 → With h x
  passes x none = reads h x 0 none (scanned c now k t 0 (λ some. absurd (some refl)))

  shades : (x z a : ℕ) → (tasks t).scan ≡ z → (z ≡ 0 → ⊥) → x ≡ 0
      → With (heap_after h (row_want t 0 y (Shade 0 0 z a))) x
  shades x z a is some none = elim (cases_Bool (eqb (h (ColourOf z)) (white_word y))) [
    | inl white ↦ rw white (reads (put_at h (ColourOf z) (grey_word a)) x 0 none
        (subst (λ v. Invariant c (record now {
          colour = changed now.colour v (grey_word a);
          scans = changed now.scans t 0;
        })) is
        (shades_read c now k t a mark low (λ e. some (sym is ∙ e))
        (ap now.colour is ∙ eqb-true (h (ColourOf z)) (white_word y) white))))
    | inr dark ↦ rw dark (passes x none)
  ]

  scan_names : (n : ℕ) (hs : ℕ → WorkInHand) → GreyKept c.threads h (λ u. grey_held (hs u))
      → (r : GreyRow) → RowFits c r → is_shading r ≡ false → hs t ≡ grey_in_hand m r
      → (tasks t).scan ≡ found_at m r
      → With (heap_after h (row_want t n y r))
      (found_at m (row_got m n y r (h (place_of (row_want t n y r)))))
  scan_names n hs grey (Take u) f scan e is =
      passes _ (take_found m n u (h (GreyList (list_of t n u))))
  scan_names n hs grey (Pop a) f scan e is = passes 0 refl
  scan_names n hs grey (ScanWord x j a) f scan e is =
      let under = scan_is_grey c.threads h (λ u. grey_held (hs u)) grey t x low
      (ap (λ (w : WorkInHand). w.scan) e) in
      reads h _ (target (h (PayloadOf x j))) (scan_found m x j a (target (h (PayloadOf x j))))
      (reads_word c now k t x j mark under f.1)
  scan_names n hs grey (Shade x j z a) f scan e is =
      shades _ z a is (λ none. omega (arith, f.2.0))
      (word_found m x j (shaded_list y z a (h (ColourOf z))))
  scan_names n hs grey (Blacken x a) f scan e is =
      let under = scan_is_grey c.threads h (λ u. grey_held (hs u)) grey t x low
      (ap (λ (w : WorkInHand). w.scan) e) in
      reads (put_at h (ColourOf x) (black_word y)) _ 0 (black_found m a)
      (scanned c _ (blackens c now k x mark under) t 0 (λ some. absurd (some refl)))
  scan_names n hs grey (Put a) f scan e is = passes 0 refl
  scan_names n hs grey Scanned f scan e is = passes 0 refl
  scan_names n hs grey NothingGrey f scan e is = passes 0 refl
  scan_names n hs grey _ f scan e is = absurd cc

  -- a shading before a store, where the thread has loaded a value that refers to its block
  shading_names : (n : ℕ) (r : GreyRow) → RowFits c r → is_shading r ≡ true → HasValue now.seen t
      → target (loaded_word now t) ≡ block_stored r
      → Invariant c (picture g order (heap_after h (row_want t n y r)) names tasks)
  shading_names n (TakeOwn z) f shading has is = k
  shading_names n (ShadeStored z a) f shading has is =
      elim (cases_Bool (eqb (h (ColourOf z)) (white_word y))) [
        | inl white ↦ rw white (subst
            (λ v. Invariant c (record now { colour = changed now.colour v (grey_word a) })) is
            (shades_loaded c now k t a mark low has (λ none. omega (arith, f.0, sym is ∙ none))
            (ap now.colour is ∙ eqb-true (h (ColourOf z)) (white_word y) white)))
        | inr dark ↦ rw dark k
      ]
  shading_names n (PutOwn z a) f shading has is = k
  shading_names n (Shaded z) f shading has is = k
  shading_names n _ f shading has is = absurd cc

module _ (c : Config) (g : Graph) (order : List HistoryItem) (h : Heap) (names : Names)
    (tasks : ℕ → Task) (s : GreyState) (f : GreyFits c s) (mark : is_sweep (h Phase) ≡ false)
    (cycle : cycle_of (h Phase) ≡ s.pass.cycle) where
  pub scan_keeps_names : (hs : ℕ → WorkInHand) → GreyKept c.threads h (λ u. grey_held (hs u))
      → hs s.pass.thread ≡ marking_in_hand (extent c) s → is_shading s.row ≡ false
      → (tasks s.pass.thread).scan ≡ (marking_in_hand (extent c) s).found
      → Invariant c (picture g order h names tasks)
      → Invariant c (picture g order (heap_after h (grey_want s)) names
      (changed tasks s.pass.thread (record (tasks s.pass.thread) {
        scan =
            (marking_in_hand (extent c) (grey_got (extent c) s (h (place_of (grey_want s))))).found;
      })))
  scan_keeps_names hs grey e scan is k =
      let t = s.pass.thread in
      let n = s.pass.threads in
      let r = s.row in
      let m = payloads c.width in
      subst (λ y. Invariant c (picture g order (heap_after h (row_want t n y r)) names
      (changed tasks t (record (tasks t) {
        scan = found_at m (row_got m n y r (h (place_of (row_want t n y r))));
      })))) cycle
      (scan_names c g order names tasks h mark t (low_thread c s f) k n hs grey r f.row scan e is)

  pub shading_keeps_names : is_shading s.row ≡ true
      → HasValue (picture g order h names tasks).seen s.pass.thread
      → target (loaded_word (picture g order h names tasks) s.pass.thread) ≡ block_stored s.row
      → Invariant c (picture g order h names tasks)
      → Invariant c (picture g order (heap_after h (grey_want s)) names tasks)
  shading_keeps_names shading has is k =
      let t = s.pass.thread in
      let n = s.pass.threads in
      subst (λ y. Invariant c (picture g order (heap_after h (row_want t n y s.row)) names tasks))
      cycle
      (shading_names c g order names tasks h mark t (low_thread c s f) k n s.row f.row shading has
      is)
