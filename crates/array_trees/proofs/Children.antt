-- What a walk down the levels finds, where a level g is right above a level h.
use Rattle.std.proofs.Common.{◌≡◌, ℕ, suc, ◌+◌, ◌-◌, ◌*◌, ◌<◌, ◌≤◌, refl, sym, ap, ◌∙◌, subst, arith, inl, inr, Option, nat_lt}
use Rattle.std.specs.Bool.{then_some}
use Rattle.std.proofs.lemmas.Bool.{cases_lt, lt-ltb, le-ltb}
use Rattle.block_store.specs.declared.Width.{Width}
use Rattle.block_store.specs.Widths.{payloads}
use Rattle.block_store.proofs.Lemmas.{many}
use Rattle.object_lists.specs.Parts.{link_in, link_below}
use Rattle.array_trees.specs.Trees.{leaves}
use Rattle.array_trees.specs.Levels.{level_size, level_start, part_from, array_part, array_depth}
use Rattle.array_trees.proofs.Counts.{le-tree, tree_few}
use Rattle.array_trees.proofs.Parts.{IsLevels, stop_le, at_here, at_below}
use Rattle.array_trees.proofs.Arrays.{array_levels}

link_in_below : (p n : ℕ) → link_in (link_below p n) ≡ then_some (nat_lt p n) p
link_in_below p n = elim (cases_lt p n) [
  | inl h ↦ rw (lt-ltb p n h) refl
  | inr h ↦ rw (le-ltb p n h) refl
]

module _ (w : Width) (e : ℕ) where
  levels : IsLevels (payloads w) e (array_depth w e) (level_start (payloads w) e)
      (level_size (payloads w) e)
  levels = array_levels (payloads w) e (many w)

  -- what the calls ask of a block, from a level on
  abbrev pub link_from : ℕ → ℕ → ℕ → Option ℕ
  link_from g o j = link_in
      (part_from (payloads w) e (level_start (payloads w) e) (level_size (payloads w) e) g o j)

  -- a level ends where the next one begins
  pub next_start : (g h k s u : ℕ) → g ≡ suc h → k ≡ g → g ≤ array_depth w e
      → s ≡ level_start (payloads w) e g → u ≡ level_size (payloads w) e k
      → s + u ≡ level_start (payloads w) e h
  next_start g h k s u above same deep start size =
      let join : level_start (payloads w) e (suc h) + level_size (payloads w) e (suc h)
      ≡ level_start (payloads w) e h = levels.joins h (omega arith) in
      let from : s ≡ level_start (payloads w) e (suc h) =
      subst (λ x. s ≡ level_start (payloads w) e x) above start in
      let many : u ≡ level_size (payloads w) e (suc h) =
      subst (λ x. u ≡ level_size (payloads w) e x) (same ∙ above) size in
      omega arith

  pub end_few : (h : ℕ) → e ≤ 65535 → h ≤ array_depth w e
      → level_start (payloads w) e h + level_size (payloads w) e h ≤ 21845
  end_few h few deep =
      omega (
        arith,
        stop_le (payloads w) e (array_depth w e) (level_start (payloads w) e)
            (level_size (payloads w) e) levels h deep,
        le-tree (payloads w) (leaves (payloads w) e) (many w),
        tree_few w e few,
      )

  -- a child of a block in the level g
  pub child_here : (g h o j s b n p : ℕ) → p ≡ payloads w → g ≡ suc h
      → s ≡ level_start (payloads w) e g → b ≡ level_start (payloads w) e h
      → n ≡ level_size (payloads w) e h → o < b
      → then_some (nat_lt (b + (o - s) * p + j) (b + n)) (b + (o - s) * p + j) ≡ link_from g o j
  child_here g h o j s b n p wide above start next size low =
      let from : s ≡ level_start (payloads w) e (suc h) =
      subst (λ x. s ≡ level_start (payloads w) e x) above start in
      let inside : o < level_start (payloads w) e h = omega arith in
      let row : (o - s) * p ≡ (o - level_start (payloads w) e (suc h)) * payloads w =
      ap (λ x. (o - s) * x) wide ∙ ap (λ x. (o - x) * payloads w) from in
      let place : b + (o - s) * p + j
      ≡ level_start (payloads w) e h +
      ((o - level_start (payloads w) e (suc h)) * payloads w + j) = omega arith in
      let end : b + n ≡ level_start (payloads w) e h + level_size (payloads w) e h = omega arith in
      ap (λ x. then_some (nat_lt x (b + n)) x) place
      ∙ ap (λ x. then_some (nat_lt
      (level_start (payloads w) e h +
      ((o - level_start (payloads w) e (suc h)) * payloads w + j)) x)
      (level_start (payloads w) e h +
      ((o - level_start (payloads w) e (suc h)) * payloads w + j))) end
      ∙ sym (link_in_below (level_start (payloads w) e h +
      ((o - level_start (payloads w) e (suc h)) * payloads w + j))
      (level_start (payloads w) e h + level_size (payloads w) e h))
      ∙ ap (λ x. link_in x) (sym
      (at_here (payloads w) e (array_depth w e) (level_start (payloads w) e)
      (level_size (payloads w) e) levels h o j inside))
      ∙ ap (λ x. link_from x o j) (sym above)

  -- and of one further down
  pub child_below : (g h o j b : ℕ) → g ≡ suc h → b ≡ level_start (payloads w) e h → b ≤ o
      → link_from g o j ≡ link_from h o j
  child_below g h o j b above next low =
      ap (λ x. link_from x o j) above
      ∙ ap (λ x. link_in x) (at_below (payloads w) e (array_depth w e)
      (level_start (payloads w) e) (level_size (payloads w) e) levels h o j (omega arith))

  -- the walk begins at the root
  pub child_root : (d o j : ℕ) → d ≡ array_depth w e → j < payloads w
      → link_from d o j ≡ link_in (array_part w e o j)
  child_root d o j deep low =
      ap (λ x. link_from x o j) deep ∙ rw (lt-ltb j (payloads w) low) refl

  pub root_start : (d : ℕ) → d ≡ array_depth w e → 0 ≡ level_start (payloads w) e d
  root_start d deep = sym (ap (λ x. level_start (payloads w) e x) deep ∙ levels.origin)
