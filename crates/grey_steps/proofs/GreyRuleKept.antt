-- One event of marking keeps the rule of the grey blocks, while the other threads hold what they
-- held.
use Rattle.std.proofs.Common.{◌≡◌, ℕ, ◌<◌, ◌+◌, true, false, eqb, ltb, refl, arith, subst, sym, ap, ◌∙◌, inl, inr, eq-eqb, ne_eqb, eqb-true, mod-lt, mod-eq_of_lt, Some, None}
use Rattle.std.proofs.lemmas.Bool.{cases_eq, cases_Bool, lt-ltb}
use Rattle.block_store.specs.declared.Config.{Config}
use Rattle.block_store.specs.Colours.{is_grey, white_word, black_word}
use Rattle.block_store.proofs.Lemmas.{not_grey_black, not_grey_white}
use Rattle.block_store.specs.Heaps.{Heap, put_at}
use Rattle.block_store.specs.Payloads.{target}
use Rattle.block_store.specs.Widths.{payloads}
use Rattle.block_store.specs.Places.{extent, GreyList, ColourOf, PayloadOf}
use Rattle.block_store.specs.Counts.{changed}
use Rattle.heap_machine.specs.Grey.{GreyInHand, no_grey, GreyKept}
use Rattle.heap_machine.specs.WorkInHand.{grey_held}
use Rattle.heap_machine.specs.Operations.{place_of, heap_after}
use Rattle.heap_machine.proofs.Lemmas.{blackens, own_empty, pops, puts, shades, stays, takes}
use Rattle.heap_machine.proofs.GreyEvents.{lets_go}
use Rattle.grey_steps.specs.declared.rows.GreyRow.{GreyRow}
use Rattle.grey_steps.specs.declared.rows.GreyRow.TheVariants.{Take, Pop, ScanWord, Shade, Blacken, Put, Scanned, NothingGrey, TakeOwn, ShadeStored, PutOwn, Shaded}
use Rattle.grey_steps.specs.Rows.{GreyState, list_of, row_want, row_got, after_word, after_take, after_scan, after_black, after_stored, shaded_list, grey_want, grey_got, grey_in_hand, marking_in_hand}
use Rattle.grey_steps.specs.Fits.{RowFits, GreyFits}

pub own_first : (t n : ℕ) → t < n → list_of t n 0 ≡ t
unfolding list_of
own_first t n low = let e : t + 0 ≡ t = omega arith in rw e (mod-eq_of_lt low)

pub list_low : (t n u : ℕ) → t < n → list_of t n u < n
unfolding list_of
list_low t n u low = mod-lt (t + u) (omega arith)

-- the thread is one of the heap's
pub low_thread : (c : Config) (s : GreyState) → GreyFits c s → s.pass.thread < c.threads
low_thread c s f = subst (λ n. s.pass.thread < n) f.threads f.thread

-- a thread that scans x with this private list
abbrev scans : ℕ → ℕ → GreyInHand
scans x a = record { list = a; scan = Some x; emptied = true }

abbrev holds : ℕ → GreyInHand
holds a = record { list = a; scan = None; emptied = true }

-- what it holds of the grey blocks, where a block has m payloads
abbrev pub held_grey : ℕ → GreyRow → GreyInHand
held_grey m r = grey_held (grey_in_hand m r)

word_in_hand : (m x j a : ℕ) → held_grey m (after_word m x j a) ≡ scans x a
word_in_hand m x j a =
    elim (cases_Bool (ltb (j + 1) m)) [ inl is ↦ rw is refl | inr is ↦ rw is refl ]

scan_in_hand : (m x j a y : ℕ) → held_grey m (after_scan m x j a y) ≡ scans x a
scan_in_hand m x j a y =
    elim (cases_Bool (eqb y 0)) [ inl is ↦ rw is (word_in_hand m x j a) | inr is ↦ rw is refl ]

module _ (m n : ℕ) (h : Heap) (hs : ℕ → GreyInHand) (k : GreyKept n h hs) (t c : ℕ) (low : t < n)
  where
    -- its own list is the first that it takes
    took : (u : ℕ) (w : GreyInHand) → hs t ≡ held_grey m (Take u) → w.emptied ≡ true
        → put_at h (GreyList (list_of t n u)) 0 (GreyList t) ≡ 0
    took u w e is = elim (cases_eq (list_of t n u) t) [
      | inl same ↦ rw (eq-eqb (list_of t n u) t same) refl
      | inr away ↦
          let pos : u ≡ 0 → ⊥ = λ z. away (ap (list_of t n) z ∙ own_first t n low) in
          let some : ltb 0 u ≡ true = lt-ltb 0 u (omega arith) in
          rw (ne_eqb (list_of t n u) t away) (own_empty n h hs k t low (held_grey m (Take u)) e some)
    ]

    takes_on : (u : ℕ) (r : GreyRow) → hs t ≡ held_grey m (Take u) → (held_grey m r).scan ≡ None
        → (held_grey m r).list ≡ h (GreyList (list_of t n u))
        → GreyKept n (put_at h (GreyList (list_of t n u)) 0) (changed hs t (held_grey m r))
    takes_on u r e scan list = takes n h hs k t low (list_of t n u) (held_grey m (Take u))
        (held_grey m r) (list_low t n u low) e refl refl scan list (took u (held_grey m r) e)

    take_step : (u : ℕ) → hs t ≡ held_grey m (Take u)
        → GreyKept n (put_at h (GreyList (list_of t n u)) 0)
        (changed hs t (held_grey m (after_take n u (h (GreyList (list_of t n u))))))
    take_step u e = elim (cases_Bool (eqb (h (GreyList (list_of t n u))) 0)) [
      | inl none ↦
          let z = sym (eqb-true (h (GreyList (list_of t n u))) 0 none) in
          elim (cases_Bool (ltb (u + 1) n)) [
            | inl more ↦ rw (none, more) (takes_on u (Take (u + 1)) e refl z)
            | inr last ↦ rw (none, last) (takes_on u NothingGrey e refl z)
          ]
      | inr some ↦ rw some (takes_on u (Pop (h (GreyList (list_of t n u)))) e refl refl)
    ]

    white_is_not_grey : (y : ℕ) → eqb (h (ColourOf y)) (white_word c) ≡ true
        → is_grey (h (ColourOf y)) ≡ false
    white_is_not_grey y is =
        ap is_grey (eqb-true (h (ColourOf y)) (white_word c) is) ∙ not_grey_white c

    shade_step : (x j y a : ℕ) → (y ≡ 0 → ⊥) → hs t ≡ scans x a
        → GreyKept n (heap_after h (row_want t n c (Shade x j y a)))
        (changed hs t (held_grey m (after_word m x j (shaded_list c y a (h (ColourOf y))))))
    shade_step x j y a ne e = rw (word_in_hand m x j (shaded_list c y a (h (ColourOf y))))
        (elim (cases_Bool (eqb (h (ColourOf y)) (white_word c))) [
          | inl is ↦ rw is (shades n h hs k t low (Some x) y a ne (white_is_not_grey y is) e)
          | inr is ↦ rw is (stays n h hs k t low (scans x a) e)
        ])

    stored_step : (y a : ℕ) → (y ≡ 0 → ⊥) → hs t ≡ holds a
        → GreyKept n (heap_after h (row_want t n c (ShadeStored y a)))
        (changed hs t (held_grey m (after_stored y (shaded_list c y a (h (ColourOf y))))))
    stored_step y a ne e = elim (cases_Bool (eqb (h (ColourOf y)) (white_word c))) [
      | inl is ↦
          (let g = shades n h hs k t low None y a ne (white_is_not_grey y is) e in
          rw (is, ne_eqb y 0 ne) g)
      | inr is ↦ elim (cases_eq a 0) [
        | inl z ↦ (let g = lets_go n h hs k t low a z e in rw (is, eq-eqb a 0 z) g)
        | inr nz ↦ (let g = stays n h hs k t low (holds a) e in rw (is, ne_eqb a 0 nz) g)
      ]
    ]

    black_step : (x a : ℕ) → hs t ≡ scans x a → GreyKept n (put_at h (ColourOf x) (black_word c))
        (changed hs t (held_grey m (after_black a)))
    black_step x a e = elim (cases_eq a 0) [
      | inl z ↦
          (let g = blackens n h hs k t low x a (black_word c) no_grey (not_grey_black c) e refl
          (sym z) in rw (eq-eqb a 0 z) g)
      | inr nz ↦
          (let g = blackens n h hs k t low x a (black_word c) (holds a) (not_grey_black c) e refl
          refl in rw (ne_eqb a 0 nz) g)
    ]

    own_step : (y : ℕ) → hs t ≡ no_grey → GreyKept n (put_at h (GreyList t) 0)
        (changed hs t (holds (h (GreyList t))))
    own_step y e = takes n h hs k t low t no_grey (holds (h (GreyList t))) low e refl refl refl refl
        (λ _. rw (eq-eqb t t refl) refl)

    row_keeps : (g : Config) (r : GreyRow) → RowFits g r → hs t ≡ held_grey m r
        → GreyKept n (heap_after h (row_want t n c r))
        (changed hs t (held_grey m (row_got m n c r (h (place_of (row_want t n c r))))))
    row_keeps g (Take u) f e = take_step u e
    row_keeps g (Pop a) f e = pops n h hs k t low a (λ z. omega (arith, f.0)) e
    row_keeps g (ScanWord x j a) f e =
        rw (scan_in_hand m x j a (target (h (PayloadOf x j)))) (stays n h hs k t low (scans x a) e)
    row_keeps g (Shade x j y a) f e = shade_step x j y a (λ z. omega (arith, f.2.0)) e
    row_keeps g (Blacken x a) f e = black_step x a e
    row_keeps g (Put a) f e = puts n h hs k t low a e
    row_keeps g Scanned f e = stays n h hs k t low no_grey e
    row_keeps g NothingGrey f e = stays n h hs k t low no_grey e
    row_keeps g (TakeOwn y) f e = own_step y e
    row_keeps g (ShadeStored y a) f e = stored_step y a (λ z. omega (arith, f.0.0)) e
    row_keeps g (PutOwn y a) f e = puts n h hs k t low a e
    row_keeps g (Shaded y) f e = stays n h hs k t low no_grey e

pub keeps : (c : Config) (h : Heap) (hs : ℕ → GreyInHand) (s : GreyState) → GreyFits c s
    → GreyKept c.threads h hs → hs s.pass.thread ≡ grey_held (marking_in_hand (extent c) s)
    → GreyKept c.threads (heap_after h (grey_want s))
    (changed hs s.pass.thread
    (grey_held (marking_in_hand (extent c) (grey_got (extent c) s (h (place_of (grey_want s)))))))
keeps c h hs s f k e =
    let old : GreyKept s.pass.threads h hs = subst (λ n. GreyKept n h hs) (sym f.threads) k in
    subst (λ n. GreyKept n (heap_after h (grey_want s))
    (changed hs s.pass.thread
    (grey_held (marking_in_hand (extent c) (grey_got (extent c) s (h (place_of (grey_want s))))))))
    f.threads
    (row_keeps (payloads c.width) s.pass.threads h hs old s.pass.thread s.pass.cycle f.thread c
    s.row f.row e)
