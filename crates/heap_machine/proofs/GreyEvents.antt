-- The events on grey blocks keep the rule: a list is taken or put, a block goes from the private
-- list under scan, a block becomes grey or black.
use Rattle.std.proofs.Common.{◌≡◌, ℕ, ◌<◌, ◌+◌, true, false, cond, eqb, refl, arith, subst, sym, ap, ◌∙◌, List, [], ◌∷◌, inl, inr, eq-eqb, ne_eqb, Option, Some, None}
use Rattle.std.proofs.lemmas.Bool.{cases_eq}
use Rattle.block_store.specs.Places.{GreyList, ColourOf}
use Rattle.block_store.specs.Colours.{is_grey, link, grey_word}
use Rattle.block_store.proofs.Lemmas.{bit_le, colours, grey_grey, link-grey, total_part}
use Rattle.block_store.specs.Heaps.{Heap, put_at}
use Rattle.block_store.specs.Phases.{bit}
use Rattle.heap_machine.specs.Chains.{Chain}
use Rattle.block_store.specs.Counts.{changed, times, total}
use Rattle.heap_machine.specs.Grey.{GreyInHand, no_grey, GreyKept, Stands}
use Rattle.heap_machine.proofs.ChainLaws.{Chain-zero, Chain-step, Chain-outside, Chain-front}
use Rattle.heap_machine.proofs.GreyBlocks.{Stands-scan, none_stands, kept_held, kept_list, kept_colour}

-- the private list with y in front, after the block under scan
with_front : (c : ℕ → ℕ) (o : Option ℕ) (a y v : ℕ) (xs : List ℕ) → (y ≡ 0 → ⊥) → link v ≡ a → times y xs ≡ 0 → Stands c o a xs
    → (ys : List ℕ) × Stands (λ x. cond (eqb y x) v (c x)) o y ys × ((z : ℕ) → times z ys ≡ times z xs + bit (eqb z y))
with_front c None a y v xs ne l out k = (y ∷ xs, Chain-front c y v a xs ne l out k, λ z. omega arith)
with_front c (Some x) a y v [] ne l out k = absurd k
with_front c (Some x) a y v (z ∷ zs) ne l out k =
    let rest : times y zs ≡ 0 = omega arith in
    (z ∷ y ∷ zs, (k.0, Chain-front c y v a zs ne l rest k.1), λ w. omega arith)

module _ (n : ℕ) (h : Heap) (hs : ℕ → GreyInHand) (k : GreyKept n h hs) (t : ℕ) (low : t < n) where
  -- what is in the private lists of t, where it holds w
  stands : (w : GreyInHand) → hs t ≡ w → Stands (colours h) w.scan w.list (k.private_lists t)
  stands w e = subst (λ (v : GreyInHand). Stands (colours h) v.scan v.list (k.private_lists t)) e (k.private_chain t low)

  -- its own list is empty, where it was taken and none was put
  pub own_empty : (w : GreyInHand) → hs t ≡ w → w.emptied ≡ true → h (GreyList t) ≡ 0
  own_empty w e is = k.emptied t low (ap (λ (v : GreyInHand). v.emptied) e ∙ is)

  -- what it holds stays
  pub stays : (w : GreyInHand) → hs t ≡ w → GreyKept n h (changed hs t w)
  stays w e = kept_held n h hs k t low w (stands w e) (own_empty w e)

  -- an empty private list is let go
  pub lets_go : (a : ℕ) → a ≡ 0 → hs t ≡ record { list = a; scan = None; emptied = true } → GreyKept n h (changed hs t no_grey)
  lets_go a z e =
      let w : GreyInHand = record { list = a; scan = None; emptied = true } in
      kept_held n h hs k t low no_grey (subst (λ b. Chain (colours h) b (k.private_lists t)) z (stands w e)) (λ y. absurd (let q : false ≡ true = y in cc))

  -- a list is taken into an empty private list
  pub takes : (v : ℕ) (old w : GreyInHand) → v < n → hs t ≡ old → old.scan ≡ None → old.list ≡ 0 → w.scan ≡ None → w.list ≡ h (GreyList v)
      → (w.emptied ≡ true → put_at h (GreyList v) 0 (GreyList t) ≡ 0) → GreyKept n (put_at h (GreyList v) 0) (changed hs t w)
  takes v old w vlow e scan list wscan whand empty =
      let nil : k.private_lists t ≡ [] = none_stands (colours h) old.scan old.list (k.private_lists t) scan list (stands old e) in
      kept_list n h hs k t low v 0 w [] (k.lists v) vlow refl (rw (wscan, whand) (k.list_chain v vlow)) (λ x. rw nil (omega arith)) empty (λ _. refl)

  -- the private list is put in the own list, which is empty
  pub puts : (a : ℕ) → hs t ≡ record { list = a; scan = None; emptied = true } → GreyKept n (put_at h (GreyList t) a) (changed hs t no_grey)
  puts a e =
      let w : GreyInHand = record { list = a; scan = None; emptied = true } in
      let nil : k.lists t ≡ [] = Chain-zero (colours h) (k.lists t) (subst (λ b. Chain (colours h) b (k.lists t)) (own_empty w e refl) (k.list_chain t low)) in
      kept_list n h hs k t low t a no_grey (k.private_lists t) [] low (stands w e) refl (λ x. rw nil (omega arith)) (λ z. absurd (let y : false ≡ true = z in cc)) (λ away. absurd (away refl))

  -- the first block of the private list comes under scan
  pub pops : (a : ℕ) → (a ≡ 0 → ⊥) → hs t ≡ record { list = a; scan = None; emptied = true } → GreyKept n h (changed hs t (record { list = link (h (ColourOf a)); scan = Some a; emptied = true }))
  pops a ne e =
      let w : GreyInHand = record { list = a; scan = None; emptied = true } in
      let s = Chain-step (colours h) a (k.private_lists t) (stands w e) ne in
      kept_held n h hs k t low (record { list = link (h (ColourOf a)); scan = Some a; emptied = true }) (subst (Stands (colours h) (Some a) (link (h (ColourOf a)))) (sym s.1) (refl, s.2)) (λ _. own_empty w e refl)

  -- a block that is not grey becomes grey, and is the first of the private list
  pub shades : (o : Option ℕ) (y a : ℕ) → (y ≡ 0 → ⊥) → is_grey (h (ColourOf y)) ≡ false → hs t ≡ record { list = a; scan = o; emptied = true }
      → GreyKept n (put_at h (ColourOf y) (grey_word a)) (changed hs t (record { list = y; scan = o; emptied = true }))
  shades o y a ne not_grey e =
      let w : GreyInHand = record { list = a; scan = o; emptied = true } in
      let part = total_part n (λ u. times y (k.private_lists u)) t low in
      let once : total n (λ u. times y (k.lists u)) + total n (λ u. times y (k.private_lists u)) ≡ 0 = k.once y ∙ ap bit not_grey in
      let out : times y (k.private_lists t) ≡ 0 = omega arith in
      let new = with_front (colours h) o a y (grey_word a) (k.private_lists t) ne (link-grey a) out (stands w e) in
      kept_colour n h hs k t low y (grey_word a) (record { list = y; scan = o; emptied = true }) new.0
      (rw not_grey (omega arith))
      new.1
      (λ z. elim (cases_eq y z) [
        | inl same ↦
            let g : is_grey (h (ColourOf z)) ≡ false = subst (λ v. is_grey (h (ColourOf v)) ≡ false) same not_grey in
            let c = new.2 z in
            rw (eq-eqb y z same, g, grey_grey a) (let b : bit (eqb z y) ≡ 1 = ap bit (eq-eqb z y (sym same)) in omega arith)
        | inr away ↦
            let c = new.2 z in
            let b : bit (eqb z y) ≡ 0 = ap bit (ne_eqb z y (λ v. away (sym v))) in
            rw (ne_eqb y z away) (omega arith)
      ])
      (λ _. own_empty w e refl)

  blackens_at : (x a v : ℕ) (w : GreyInHand) (zs : List ℕ) → is_grey v ≡ false → hs t ≡ record { list = a; scan = Some x; emptied = true } → w.scan ≡ None → w.list ≡ a → k.private_lists t ≡ x ∷ zs → Chain (colours h) a zs → GreyKept n (put_at h (ColourOf x) v) (changed hs t w)
  blackens_at x a v w zs dark e scan list is chain =
      let part = total_part n (λ u. times x (k.private_lists u)) t low in
      let once = k.once x in
      let here : times x (k.private_lists t) ≡ 1 + times x zs = ap (times x) is ∙ rw (eq-eqb x x refl) refl in
      let most = bit_le (is_grey (h (ColourOf x))) in
      let out : times x zs ≡ 0 = omega arith in
      let one : bit (is_grey (h (ColourOf x))) ≡ 1 = omega arith in
      kept_colour n h hs k t low x v w zs
      (omega arith)
      (rw (scan, list) (Chain-outside (colours h) x v zs a out chain))
      (λ z. rw is (elim (cases_eq x z) [
        | inl same ↦
            let g : bit (is_grey (h (ColourOf z))) ≡ 1 = subst (λ y. bit (is_grey (h (ColourOf y))) ≡ 1) same one in
            rw (eq-eqb x z same, eq-eqb z x (sym same), dark) (omega arith)
        | inr away ↦ rw (ne_eqb x z away, ne_eqb z x (λ y. away (sym y))) (omega arith)
      ]))
      (λ _. own_empty (record { list = a; scan = Some x; emptied = true }) e refl)

  -- the block under scan is no longer grey, and the private list stays
  pub blackens : (x a v : ℕ) (w : GreyInHand) → is_grey v ≡ false → hs t ≡ record { list = a; scan = Some x; emptied = true } → w.scan ≡ None → w.list ≡ a → GreyKept n (put_at h (ColourOf x) v) (changed hs t w)
  blackens x a v w dark e scan list =
      let s = Stands-scan (colours h) x a (k.private_lists t) (stands (record { list = a; scan = Some x; emptied = true }) e) in
      blackens_at x a v w s.0 dark e scan list s.1 s.2
