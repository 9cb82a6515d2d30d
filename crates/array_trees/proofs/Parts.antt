-- What is in the blocks of levels of which each begins where the one above it ends.
use Rattle.std.proofs.Common.{◌≡◌, ℕ, zero, suc, ◌+◌, ◌-◌, ◌*◌, ◌/◌, ◌%◌, ◌^◌, ◌<◌, ◌≤◌, refl, sym, ◌∙◌, subst, arith, inl, inr}
use Rattle.std.proofs.Math.Nat.{div-div-eq-div-mul, pow-suc, pow-zero}
use Rattle.std.proofs.lemmas.Bool.{cases_lt, lt-ltb, le-ltb}
use Rattle.std.proofs.lemmas.Nat.{div-add-mod', div-mul-add, mod-mul-add, mod_below, div_below, same_from_place}
use Rattle.object_lists.specs.Parts.{Link, Field, link_below, field_below}
use Rattle.object_lists.proofs.PartLemmas.{field_below-in, link_below-in, field_below-field, link_below-link, field_below-link, link_below-field}
use Rattle.array_trees.specs.Levels.{part_from}

-- the levels of a tree with a root of one block, d levels above the leaves
pub record IsLevels (w e d : ℕ) (start size : ℕ → ℕ) : Type 0 where
  pub wide : 1 < w
  pub origin : start d ≡ 0
  pub root : size d ≡ 1
  pub joins : (h : ℕ) → h < d → start (suc h) + size (suc h) ≡ start h
  pub under : (h : ℕ) → h < d → size h ≤ size (suc h) * w
  pub leaves : e ≤ size 0 * w

module _ (w e d : ℕ) (start size : ℕ → ℕ) (levels : IsLevels w e d start size) where
  -- a level ends no later than the leaves
  pub stop_le : (h : ℕ) → h ≤ d → start h + size h ≤ start 0 + size 0
  stop_le zero h = omega arith
  stop_le (suc g) h = omega (arith, levels.joins g h, stop_le g (omega arith))

  -- the higher a level, the sooner it begins
  start_le : (g h : ℕ) → h ≤ g → g ≤ d → start g ≤ start h
  start_le zero h low high = let leaf : h ≡ 0 = omega arith in
      subst (λ x. start 0 ≤ start x) (sym leaf) (omega arith)
  start_le (suc g) h low high = elim (cases_lt h (suc g)) [
    | inl less ↦ omega (arith, levels.joins g high, start_le g h (omega arith) (omega arith))
    | inr same ↦ let level : h ≡ suc g = omega arith in
        subst (λ x. start (suc g) ≤ start x) (sym level) (omega arith)
  ]

  -- the two cases of a level that has one below it
  pub at_here : (h o j : ℕ) → o < start h
      → part_from w e start size (suc h) o j
      ≡ link_below (start h + ((o - start (suc h)) * w + j)) (start h + size h)
  at_here h o j here = rw (lt-ltb o (start h) here) refl

  pub at_below : (h o j : ℕ) → start h ≤ o
      → part_from w e start size (suc h) o j ≡ part_from w e start size h o j
  at_below h o j below = rw (le-ltb o (start h) below) refl

  -- links from a level go to the next one, and links from below it further
  links_past : (h o j p : ℕ) → h ≤ d → part_from w e start size h o j ≡ Link p
      → start h + size h ≤ p
  links_past zero o j p hd at = absurd (field_below-link ((o - start 0) * w + j) e p at)
  links_past (suc h) o j p hd at = elim (cases_lt o (start h)) [
    | inl here ↦
        let both = link_below-link (start h + ((o - start (suc h)) * w + j)) (start h + size h) p
        (sym (at_here h o j here) ∙ at) in
        omega (arith, levels.joins h hd, both.1)
    | inr below ↦ omega (
      arith,
      levels.joins h hd,
      links_past h o j p (omega arith) (sym (at_below h o j below) ∙ at),
    )
  ]

  pub links_onward : (h o j p : ℕ) → h ≤ d → part_from w e start size h o j ≡ Link p
      → (o < p) × (p < start 0 + size 0)
  links_onward zero o j p hd at = absurd (field_below-link ((o - start 0) * w + j) e p at)
  links_onward (suc h) o j p hd at = elim (cases_lt o (start h)) [
    | inl here ↦
        let both = link_below-link (start h + ((o - start (suc h)) * w + j)) (start h + size h) p
        (sym (at_here h o j here) ∙ at) in
        (omega (arith, both.1), omega (arith, both.0, both.1, stop_le h (omega arith)))
    | inr below ↦ links_onward h o j p (omega arith) (sym (at_below h o j below) ∙ at)
  ]

  -- a place of a field
  pub slots_from : (h o j i : ℕ) → h ≤ d → start h ≤ o → j < w
      → part_from w e start size h o j ≡ Field i
      → (i < e) × (o < start 0 + size 0) × (o ≡ start 0 + i / w) × (j ≡ i % w)
  slots_from zero o j i hd low jw at =
      let both = field_below-field ((o - start 0) * w + j) e i at in
      let row : ((o - start 0) * w + j) / w ≡ o - start 0 = div-mul-add (o - start 0) w j jw in
      let column : ((o - start 0) * w + j) % w ≡ j = mod-mul-add (o - start 0) w j jw in
      let row_is : i / w ≡ o - start 0 = subst (λ x. x / w ≡ o - start 0) both.1 row in
      let column_is : i % w ≡ j = subst (λ x. x % w ≡ j) both.1 column in
      let fits : i / w < size 0 =
      div_below i w (size 0) (omega (arith, levels.wide))
      (omega (arith, levels.leaves, both.0, both.1)) in
      (omega (arith, both.0, both.1), omega arith, omega arith, sym column_is)
  slots_from (suc h) o j i hd low jw at = elim (cases_lt o (start h)) [
    | inl here ↦ absurd (link_below-field (start h + ((o - start (suc h)) * w + j))
        (start h + size h) i (sym (at_here h o j here) ∙ at))
    | inr below ↦ slots_from h o j i (omega arith) below jw (sym (at_below h o j below) ∙ at)
  ]

  -- the leaves are found from each level above them
  pub leaf_from : (h o j : ℕ) → h ≤ d → start 0 ≤ o
      → part_from w e start size h o j ≡ part_from w e start size 0 o j
  leaf_from zero o j hd low = refl
  leaf_from (suc h) o j hd low =
      let below : start h ≤ o = omega (arith, start_le h 0 (omega arith) (omega arith)) in
      at_below h o j below ∙ leaf_from h o j (omega arith) low

  -- and likewise each other level
  pub level_from : (g h o j : ℕ) → h < g → g ≤ d → start (suc h) ≤ o → o < start h
      → part_from w e start size g o j
      ≡ link_below (start h + ((o - start (suc h)) * w + j)) (start h + size h)
  level_from zero h o j hg gd low high = absurd (omega arith)
  level_from (suc g) h o j hg gd low high = elim (cases_lt h g) [
    | inl less ↦
        let below : start g ≤ o = omega (arith, start_le g (suc h) less (omega arith)) in
        at_below g o j below ∙ level_from g h o j less (omega arith) low high
    | inr same ↦
        let level : h ≡ g = omega arith in
        subst (λ x. part_from w e start size (suc g) o j
        ≡ link_below (start x + ((o - start (suc x)) * w + j)) (start x + size x)) (sym level)
        (at_here g o j (subst (λ x. o < start x) level high))
  ]

  -- the link to block p of a level below
  pub linked_from : (h p : ℕ) → h ≤ d → start h + size h ≤ p → p < start 0 + size 0
      → (o : ℕ) × (j : ℕ) × (start h ≤ o) × (j < w) × (part_from w e start size h o j ≡ Link p)
  linked_from zero p hd low high = absurd (omega arith)
  linked_from (suc h) p hd low high = elim (cases_lt p (start h + size h)) [
    | inl here ↦
        let join : start (suc h) + size (suc h) ≡ start h = levels.joins h hd in
        let under : size h ≤ size (suc h) * w = levels.under h hd in
        let positive : 0 < w = omega (arith, levels.wide) in
        let row : (p - start h) / w < size (suc h) =
        div_below (p - start h) w (size (suc h)) positive (omega arith) in
        let column : (p - start h) % w < w = mod_below (p - start h) w positive in
        let whole : (p - start h) / w * w + (p - start h) % w ≡ p - start h =
        div-add-mod' (p - start h) w in
        let back : start (suc h) + (p - start h) / w - start (suc h) ≡ (p - start h) / w =
        omega arith in
        let same : start h + ((start (suc h) + (p - start h) / w - start (suc h)) * w +
        (p - start h) % w) ≡ p =
        subst (λ x. start h + (x * w + (p - start h) % w) ≡ p) (sym back) (omega arith) in (
          start (suc h) + (p - start h) / w,
          (p - start h) % w,
          omega arith,
          column,
          at_here h (start (suc h) + (p - start h) / w) ((p - start h) % w) (omega arith)
              ∙ subst (λ x. link_below x (start h + size h) ≡ Link p) (sym same)
              (link_below-in p (start h + size h) here),
        )
    | inr past ↦
        let (o, j, from, column, at) = linked_from h p (omega arith) past high in
        (o, j, omega (arith, levels.joins h hd), column, at_below h o j from ∙ at)
  ]

  -- is the only one
  pub once_from : (h o j q k p : ℕ) → h ≤ d → start h ≤ o → start h ≤ q → j < w → k < w
      → part_from w e start size h o j ≡ Link p → part_from w e start size h q k ≡ Link p
      → (o ≡ q) × (j ≡ k)
  once_from zero o j q k p hd lo lq jw kw at bt =
      absurd (field_below-link ((o - start 0) * w + j) e p at)
  once_from (suc h) o j q k p hd lo lq jw kw at bt = elim (cases_lt o (start h)) [
    | inl o_here ↦
        let o_link = link_below-link (start h + ((o - start (suc h)) * w + j))
        (start h + size h) p (sym (at_here h o j o_here) ∙ at) in
        elim (cases_lt q (start h)) [
          | inl q_here ↦
              let q_link = link_below-link (start h + ((q - start (suc h)) * w + k))
              (start h + size h) p (sym (at_here h q k q_here) ∙ bt) in
              let both = same_from_place (o - start (suc h)) j (q - start (suc h)) k w jw kw
              (omega (arith, o_link.1, q_link.1)) in
              (omega (arith, both.0), both.1)
          | inr q_below ↦
              absurd (omega (
                arith,
                o_link.0,
                o_link.1,
                links_past h q k p (omega arith) (sym (at_below h q k q_below) ∙ bt),
              ))
        ]
    | inr o_below ↦ elim (cases_lt q (start h)) [
      | inl q_here ↦
          let q_link = link_below-link (start h + ((q - start (suc h)) * w + k))
          (start h + size h) p (sym (at_here h q k q_here) ∙ bt) in
          absurd (omega (
            arith,
            q_link.0,
            q_link.1,
            links_past h o j p (omega arith) (sym (at_below h o j o_below) ∙ at),
          ))
      | inr q_below ↦
          once_from h o j q k p (omega arith) o_below q_below jw kw
          (sym (at_below h o j o_below) ∙ at) (sym (at_below h q k q_below) ∙ bt)
    ]
  ]

  -- the block of a level under which field i is
  pub in_level : (i h : ℕ) → i < e → h ≤ d → i / w ^ suc h < size h
  in_level i zero fits hd =
      let zeroth : w ^ 0 ≡ 1 = pow-zero w in
      let first : w ^ 1 ≡ w ^ 0 * w = pow-suc w 0 in
      let one : w ^ 1 ≡ w = rw zeroth at first ∙ omega arith in
      subst (λ x. i / x < size 0) (sym one)
      (div_below i w (size 0) (omega (arith, levels.wide)) (omega (arith, levels.leaves)))
  in_level i (suc h) fits hd =
      let lower : i / w ^ suc h < size h = in_level i h fits (omega arith) in
      let under : size h ≤ size (suc h) * w = levels.under h hd in
      let twice : i / w ^ suc h / w ≡ i / (w ^ suc h * w) = div-div-eq-div-mul i (w ^ suc h) w in
      let power : w ^ suc (suc h) ≡ w ^ suc h * w = pow-suc w (suc h) in
      subst (λ x. i / x < size (suc h)) (sym power)
      (subst (λ x. x < size (suc h)) twice
      (div_below (i / w ^ suc h) w (size (suc h)) (omega (arith, levels.wide)) (omega arith)))

  -- leads on to the block of the level below
  pub way_on : (i h : ℕ) → i < e → h < d
      → part_from w e start size d (start (suc h) + i / w ^ suc (suc h)) (i / w ^ suc h % w)
      ≡ Link (start h + i / w ^ suc h)
  way_on i h fits hd =
      let join : start (suc h) + size (suc h) ≡ start h = levels.joins h hd in
      let here : i / w ^ suc (suc h) < size (suc h) = in_level i (suc h) fits hd in
      let low : i / w ^ suc h < size h = in_level i h fits (omega arith) in
      let twice : i / w ^ suc h / w ≡ i / (w ^ suc h * w) = div-div-eq-div-mul i (w ^ suc h) w in
      let power : w ^ suc (suc h) ≡ w ^ suc h * w = pow-suc w (suc h) in
      let row : i / w ^ suc (suc h) ≡ i / w ^ suc h / w =
      subst (λ x. i / x ≡ i / w ^ suc h / w) (sym power) (sym twice) in
      let whole : i / w ^ suc h / w * w + i / w ^ suc h % w ≡ i / w ^ suc h =
      div-add-mod' (i / w ^ suc h) w in
      let back : start (suc h) + i / w ^ suc (suc h) - start (suc h) ≡ i / w ^ suc h / w =
      omega arith in
      let same : start h + ((start (suc h) + i / w ^ suc (suc h) - start
      (suc h)) * w + i / w ^ suc h % w) ≡ start h + i / w ^ suc h =
      subst (λ x. start h + (x * w + i / w ^ suc h % w) ≡ start h + i / w ^ suc h) (sym back)
      (omega arith) in
      level_from d h (start (suc h) + i / w ^ suc (suc h)) (i / w ^ suc h % w) hd (omega arith)
      (omega arith) (omega arith)
      ∙ subst (λ x. link_below x (start h + size h) ≡ Link (start h + i / w ^ suc h)) (sym same)
      (link_below-in (start h + i / w ^ suc h) (start h + size h) (omega arith))

  -- and in the end to the field
  pub way_end : (i : ℕ) → i < e → part_from w e start size d (start 0 + i / w) (i % w) ≡ Field i
  way_end i fits =
      let whole : i / w * w + i % w ≡ i = div-add-mod' i w in
      let back : start 0 + i / w - start 0 ≡ i / w = omega arith in
      let same : (start 0 + i / w - start 0) * w + i % w ≡ i =
      subst (λ x. x * w + i % w ≡ i) (sym back) whole in
      leaf_from d (start 0 + i / w) (i % w) (omega arith) (omega arith)
      ∙ subst (λ x. field_below x e ≡ Field i) (sym same) (field_below-in i e fits)
