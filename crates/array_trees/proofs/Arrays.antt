-- Arrays have a layout.
use Rattle.std.proofs.Common.{◌≡◌, ℕ, zero, suc, ◌+◌, ◌-◌, ◌*◌, ◌/◌, ◌%◌, ◌^◌, ◌<◌, ◌≤◌, refl, sym, ap, ◌∙◌, subst, arith, inl, inr}
use Rattle.std.proofs.Math.Nat.{lt-div-mul-add, mul-le-mul_right, pow-suc, pow-zero}
use Rattle.std.proofs.lemmas.Bool.{cases_lt, lt-ltb, le-ltb}
use Rattle.std.proofs.lemmas.Nat.{div-add-mod', mod_below}
use Rattle.object_lists.specs.Parts.{Part, Link, Field, Blank, link_below, field_below}
use Rattle.object_lists.specs.Layouts.{IsLayout, IsWay}
use Rattle.array_trees.specs.Trees.{blocks_over, leaves, tree}
use Rattle.array_trees.specs.Levels.{level, depth_within, tree_depth, IsDepth, IsByLevels, level_size, level_start, part_from, tree_part, tree_slot, tree_way, tree_turn}
use Rattle.array_trees.proofs.Counts.{over_less, over_some, tree-one, tree-more, le-tree}
use Rattle.array_trees.proofs.Parts.{IsLevels, slots_from, links_onward, linked_from, once_from, way_on, way_end, in_level, level_from, leaf_from}

-- the first power is the number itself
pub pow_one : (w : ℕ) → w ^ 1 ≡ w
pow_one w =
    let zeroth : w ^ 0 ≡ 1 = pow-zero w in
    let first : w ^ 1 ≡ w ^ 0 * w = pow-suc w 0 in
    rw zeroth at first ∙ omega arith

-- a level is found from the level below it or from the one above
pub level-suc : (w q h : ℕ) → level w q (suc h) ≡ level w (blocks_over w q) h
level-suc w q zero = refl
level-suc w q (suc h) = ap (λ x. blocks_over w x) (level-suc w q h)

depth_is_within : (w n q : ℕ) → 1 < w → q ≤ suc n → 0 < q
    → (level w q (depth_within w n q) ≡ 1) × ((h : ℕ) → h < depth_within w n q → 1 < level w q h)
depth_is_within w zero q hw hn hq = (omega arith, λ h low. absurd (omega arith))
depth_is_within w (suc n) q hw hn hq = elim (cases_lt 1 q) [
  | inl some ↦
      let less : blocks_over w q < q = over_less w q hw some in
      let above = depth_is_within w n (blocks_over w q) hw (omega arith) (over_some w q hw hq) in
      let root : level w q (suc (depth_within w n (blocks_over w q))) ≡ 1 =
      level-suc w q (depth_within w n (blocks_over w q)) ∙ above.0 in
      let more : (h : ℕ) → h < suc (depth_within w n (blocks_over w q)) → 1 < level w q h =
      λ h low. more_levels w q (depth_within w n (blocks_over w q)) some above.1 h low in
      rw (lt-ltb 1 q some) (root, more)
  | inr few ↦ rw (le-ltb 1 q few) (omega arith, λ h low. absurd (omega arith))
]
  where
    more_levels : (w q d : ℕ) → 1 < q → ((h : ℕ) → h < d → 1 < level w (blocks_over w q) h)
        → (h : ℕ) → h < suc d → 1 < level w q h
    more_levels w q d some above zero low = some
    more_levels w q d some above (suc h) low =
        subst (λ x. 1 < x) (sym (level-suc w q h)) (above h (omega arith))

pub some_leaf : (w e : ℕ) → 0 < leaves w e
some_leaf w e = omega arith

pub depth_is : (w e : ℕ) → 1 < w → IsDepth w e (tree_depth w e)
unfolding tree_depth
depth_is w e hw =
    let both = depth_is_within w (leaves w e) (leaves w e) hw (omega arith) (some_leaf w e) in
    record { root = both.0; more = both.1 }

-- the blocks above have room for all blocks of a level
over_times : (w q : ℕ) → 1 < w → q ≤ blocks_over w q * w
over_times w q hw =
    let less : q + (w - 1) < (q + (w - 1)) / w * w + w =
    lt-div-mul-add {a = q + (w - 1)} {b = w} (omega arith) in
    omega arith

pub array_levels : (w e : ℕ) → 1 < w
    → IsLevels w e (tree_depth w e) (level_start w e) (level_size w e)
array_levels w e hw = record {
  wide = hw;
  origin = subst (λ x. tree w x - x ≡ 0) (sym depth.root) (omega (arith, tree-one w));
  root = depth.root;
  joins = λ h low.
      omega (
        arith,
        tree-more w (level_size w e h) hw (depth.more h low),
        le-tree w (level_size w e (suc h)) hw,
      );
  under = λ h low. over_times w (level_size w e h) hw;
  leaves =
      let most : blocks_over w e * w ≤ leaves w e * w = mul-le-mul_right w (omega arith) in
      omega (arith, over_times w e hw);
}
  where
    depth : IsDepth w e (tree_depth w e)
    depth = depth_is w e hw

module _ (w e : ℕ) (hw : 1 < w) where
  whole_part : ℕ → ℕ → Part
  whole_part o j = part_from w e (level_start w e) (level_size w e) (tree_depth w e) o j

  tree_at : (o j : ℕ) → j < w → tree_part w e o j ≡ whole_part o j
  unfolding whole_part
  tree_at o j h = rw (lt-ltb j w h) refl

  tree_link : (o j p : ℕ) → tree_part w e o j ≡ Link p → (j < w) × (whole_part o j ≡ Link p)
  unfolding whole_part
  tree_link o j p at = elim (cases_lt j w) [
    | inl h ↦ (h, rw (lt-ltb j w h) at at)
    | inr h ↦ absurd (let same : Blank ≡ Link p = rw (le-ltb j w h) at at in cc)
  ]

  tree_field : (o j i : ℕ) → tree_part w e o j ≡ Field i → (j < w) × (whole_part o j ≡ Field i)
  unfolding whole_part
  tree_field o j i at = elim (cases_lt j w) [
    | inl h ↦ (h, rw (lt-ltb j w h) at at)
    | inr h ↦ absurd (let same : Blank ≡ Field i = rw (le-ltb j w h) at at in cc)
  ]

  levels : IsLevels w e (tree_depth w e) (level_start w e) (level_size w e)
  levels = array_levels w e hw

  -- the leaves are the last blocks
  all_blocks : level_start w e 0 + level_size w e 0 ≡ tree w (leaves w e)
  all_blocks = omega (arith, le-tree w (leaves w e) hw)

  from_root : (o : ℕ) → level_start w e (tree_depth w e) ≤ o
  from_root o = subst (λ x. x ≤ o) (sym levels.origin) (omega arith)

  tree_fields : (i : ℕ) → i < e → tree_part w e (level_start w e 0 + i / w) (i % w) ≡ Field i
  unfolding whole_part
  tree_fields i fits =
      tree_at (level_start w e 0 + i / w) (i % w) (mod_below i w (omega arith))
      ∙ way_end w e (tree_depth w e) (level_start w e) (level_size w e) levels i fits

  tree_slots : (o j i : ℕ) → tree_part w e o j ≡ Field i
      → (i < e) × (o < tree w (leaves w e)) × (j < w) × (o ≡ level_start w e 0 + i / w)
      × (j ≡ i % w)
  unfolding whole_part
  tree_slots o j i at =
      let inside = tree_field o j i at in
      let (fits, low, row, column) =
      slots_from w e (tree_depth w e) (level_start w e) (level_size w e) levels
      (tree_depth w e) o j i (omega arith) (from_root o) inside.0 inside.1 in
      (fits, omega (arith, all_blocks, low), inside.0, row, column)

  tree_onward : (o j p : ℕ) → tree_part w e o j ≡ Link p
      → (j < w) × (o < p) × (p < tree w (leaves w e))
  unfolding whole_part
  tree_onward o j p at =
      let inside = tree_link o j p at in
      let both = links_onward w e (tree_depth w e) (level_start w e) (level_size w e) levels
      (tree_depth w e) o j p (omega arith) inside.1 in
      (inside.0, both.0, omega (arith, all_blocks, both.1))

  -- a link of the whole tree
  tree_found : (p : ℕ) → (o : ℕ) × (j : ℕ) × (level_start w e (tree_depth w e) ≤ o) × (j < w)
      × (whole_part o j ≡ Link p)
      → (o : ℕ) × (j : ℕ) × (tree_part w e o j ≡ Link p)
  tree_found p (o, j, from, column, at) = (o, j, tree_at o j column ∙ at)

  tree_linked : (p : ℕ) → 0 < p → p < tree w (leaves w e)
      → (o : ℕ) × (j : ℕ) × (tree_part w e o j ≡ Link p)
  unfolding whole_part
  tree_linked p low high =
      tree_found p (linked_from w e (tree_depth w e) (level_start w e) (level_size w e) levels
      (tree_depth w e) p (omega arith)
      (omega (arith, levels.origin, levels.root)) (omega (arith, all_blocks)))

  tree_once : (o j q k p : ℕ) → tree_part w e o j ≡ Link p → tree_part w e q k ≡ Link p
      → (o ≡ q) × (j ≡ k)
  unfolding whole_part
  tree_once o j q k p at bt =
      let here = tree_link o j p at in
      let there = tree_link q k p bt in
      once_from w e (tree_depth w e) (level_start w e) (level_size w e) levels
      (tree_depth w e) o j q k p (omega arith)
      (from_root o) (from_root q) here.0 there.0 here.1 there.1

  pub tree_layout : IsLayout w e (tree w (leaves w e)) (tree_part w e) (tree_slot w e)
  tree_layout = record {
    first = omega (arith, le-tree w (leaves w e) hw);
    fields = tree_fields;
    slots = tree_slots;
    apart = λ i k hi hk row column.
        let own : i / w * w + i % w ≡ i = div-add-mod' i w in
        let other : k / w * w + k % w ≡ k = div-add-mod' k w in
        let rows : i / w ≡ k / w = omega arith in
        let products : i / w * w ≡ k / w * w = ap (λ x. x * w) rows in
        omega arith;
    onward = tree_onward;
    linked = tree_linked;
    once = tree_once;
  }

  -- a block by its number in its level
  level_links : (h r j : ℕ) → h < tree_depth w e → r < level_size w e (suc h) → j < w
      → tree_part w e (level_start w e (suc h) + r) j
      ≡ link_below (level_start w e h + (r * w + j)) (level_start w e h + level_size w e h)
  unfolding whole_part
  level_links h r j low inside column =
      let join : level_start w e (suc h) + level_size w e (suc h) ≡ level_start w e h =
      levels.joins h low in
      let back : level_start w e (suc h) + r - level_start w e (suc h) ≡ r = omega arith in
      tree_at (level_start w e (suc h) + r) j column
      ∙ level_from w e (tree_depth w e) (level_start w e) (level_size w e) levels
      (tree_depth w e) h (level_start w e (suc h) + r) j low (omega arith) (omega arith)
      (omega arith)
      ∙ ap (λ x. link_below (level_start w e h + (x * w + j))
      (level_start w e h + level_size w e h)) back

  level_elements : (r j : ℕ) → j < w
      → tree_part w e (level_start w e 0 + r) j ≡ field_below (r * w + j) e
  unfolding whole_part
  level_elements r j column =
      let back : level_start w e 0 + r - level_start w e 0 ≡ r = omega arith in
      tree_at (level_start w e 0 + r) j column
      ∙ leaf_from w e (tree_depth w e) (level_start w e) (level_size w e) levels (tree_depth w e)
      (level_start w e 0 + r) j (omega arith) (omega arith)
      ∙ ap (λ x. field_below (x * w + j) e) back

  pub by_levels : IsByLevels w e
  by_levels = record {
    root = levels.origin;
    next = λ h low. sym (levels.joins h low);
    last = sym all_blocks;
    links = level_links;
    elements = level_elements;
  }

  -- the step from a level to the next one, by the numbers of levels below them
  step_on : (i h a b : ℕ) → i < e → h < tree_depth w e → a ≡ suc h → b ≡ h
      → tree_part w e (level_start w e a + i / w ^ (a + 1)) (i / w ^ a % w)
      ≡ Link (level_start w e b + i / w ^ (b + 1))
  unfolding whole_part
  step_on i h a b fits low here next =
      let above : suc (suc h) ≡ a + 1 = omega arith in
      let below : suc h ≡ b + 1 = omega arith in
      let on : tree_part w e (level_start w e (suc h) + i / w ^ suc (suc h)) (i / w ^ suc h % w)
      ≡ Link (level_start w e h + i / w ^ suc h) =
      tree_at (level_start w e (suc h) + i / w ^ suc (suc h)) (i / w ^ suc h % w)
      (mod_below (i / w ^ suc h) w (omega arith))
      ∙ way_on w e (tree_depth w e) (level_start w e) (level_size w e) levels i h fits low in
      let from : tree_part w e (level_start w e a + i / w ^ (a + 1)) (i / w ^ a % w)
      ≡ Link (level_start w e h + i / w ^ suc h) =
      subst (λ x. tree_part w e (level_start w e a + i / w ^ x) (i / w ^ a % w)
      ≡ Link (level_start w e h + i / w ^ suc h)) above
      (subst (λ x. tree_part w e (level_start w e x + i / w ^ suc (suc h)) (i / w ^ x % w)
      ≡ Link (level_start w e h + i / w ^ suc h)) (sym here) on) in
      subst (λ x. tree_part w e (level_start w e a + i / w ^ (a + 1)) (i / w ^ a % w)
      ≡ Link (level_start w e b + i / w ^ x)) below
      (subst (λ x. tree_part w e (level_start w e a + i / w ^ (a + 1)) (i / w ^ a % w)
      ≡ Link (level_start w e x + i / w ^ suc h)) (sym next) from)

  -- the way begins at the root
  way_starts : (i h : ℕ) → i < e → h ≡ tree_depth w e → level_start w e h + i / w ^ (h + 1) ≡ 0
  way_starts i h fits is =
      let last : i / w ^ suc (tree_depth w e) < level_size w e (tree_depth w e) =
      in_level w e (tree_depth w e) (level_start w e) (level_size w e) levels i
      (tree_depth w e) fits (omega arith) in
      let up : suc (tree_depth w e) ≡ tree_depth w e + 1 = omega arith in
      let lowest : i / w ^ (tree_depth w e + 1) < level_size w e (tree_depth w e) =
      subst (λ x. i / w ^ x < level_size w e (tree_depth w e)) up last in
      subst (λ x. level_start w e x + i / w ^ (x + 1) ≡ 0) (sym is)
      (omega (arith, levels.origin, levels.root))

  -- and ends at the element's place
  way_ends : (i h : ℕ) → i < e → h ≡ 0
      → tree_part w e (level_start w e h + i / w ^ (h + 1)) (i / w ^ h % w) ≡ Field i
  way_ends i h fits is =
      let zeroth : w ^ 0 ≡ 1 = pow-zero w in
      let first : w ^ (0 + 1) ≡ w = pow_one w in
      let own : i ≡ i / w ^ 0 = subst (λ x. i ≡ i / x) (sym zeroth) (omega arith) in
      subst (λ x. tree_part w e (level_start w e x + i / w ^ (x + 1)) (i / w ^ x % w) ≡ Field i)
      (sym is)
      (subst (λ x. tree_part w e (level_start w e 0 + i / x) (i / w ^ 0 % w) ≡ Field i) (sym first)
      (subst (λ x. tree_part w e (level_start w e 0 + i / w) (x % w) ≡ Field i) own
      (tree_fields i fits)))

  pub tree_is_way : (i : ℕ) → i < e
      → IsWay (tree_part w e) i (tree_depth w e) (tree_turn w e i (tree_depth w e))
      (tree_way w e i) (tree_turn w e i)
  tree_is_way i fits = record {
    starts = way_starts i (tree_depth w e - 0) fits (omega arith);
    links = λ l low.
        step_on i (tree_depth w e - (l + 1)) (tree_depth w e - l) (tree_depth w e - (l + 1)) fits
        (omega arith) (omega arith) refl;
    ends = way_ends i (tree_depth w e - tree_depth w e) fits (omega arith);
  }
