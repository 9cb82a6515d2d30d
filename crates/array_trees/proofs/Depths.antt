-- How deep an array is, and how its levels are counted.
use Rattle.std.proofs.Common.{◌≡◌, ℕ, zero, suc, ◌+◌, ◌-◌, ◌*◌, ◌/◌, ◌%◌, ◌^◌, ◌<◌, ◌≤◌, min, refl, sym, ap, ◌∙◌, subst, arith, inl, inr, add-one}
use Rattle.std.proofs.Math.Nat.{pow-suc, pow-zero, pow-le-pow_right, one-le-pow, add-mul-div_right, div-div-eq-div-mul}
use Rattle.std.proofs.lemmas.Bool.{cases_lt}
use Rattle.block_store.specs.declared.Width.{Width}
use Rattle.block_store.specs.declared.Width.TheVariants.{Four, Eight}
use Rattle.block_store.specs.Widths.{payloads}
use Rattle.block_store.proofs.Lemmas.{many}
use Rattle.array_trees.specs.Trees.{blocks_over, leaves}
use Rattle.array_trees.specs.Levels.{level, level_size, array_part, array_depth, array_way, array_turn}
use Rattle.object_lists.specs.Parts.{Link, Field}
use Rattle.array_trees.proofs.Counts.{div-over}
use Rattle.array_trees.proofs.Arrays.{depth_is, level-suc, tree_is_way}

pub level-next : (w q h : ℕ) → level w q (h + 1) ≡ blocks_over w (level w q h)
level-next w q h = rw add-one refl

-- a level that is not the root is below it
pub below_root : (w : Width) (e h : ℕ) → h ≤ array_depth w e → 1 < level_size (payloads w) e h
    → h < array_depth w e
below_root w e h low more = elim (cases_lt h (array_depth w e)) [
  | inl less ↦ less
  | inr same ↦
      let root = (depth_is (payloads w) e (many w)).root in
      let at : h ≡ array_depth w e = omega arith in
      absurd (
      let one : level_size (payloads w) e h ≡ 1 =
      subst (λ x. level_size (payloads w) e x ≡ 1) (sym at) root in
      omega arith
      )
]

-- and the root is the first level of one block
pub at_root : (w : Width) (e h : ℕ) → h ≤ array_depth w e → level_size (payloads w) e h ≤ 1
    → h ≡ array_depth w e
at_root w e h low one = elim (cases_lt h (array_depth w e)) [
  | inl less ↦ absurd (omega (arith, (depth_is (payloads w) e (many w)).more h less))
  | inr same ↦ omega arith
]

-- k levels above at most w ^ k blocks is at most one block
four_few : (k q : ℕ) → q ≤ 4 ^ k → level 4 q k ≤ 1
four_few zero q few = omega (arith, pow-zero 4)
four_few (suc k) q few =
    let power : 4 ^ suc k ≡ 4 ^ k * 4 = pow-suc 4 k in
    subst (λ x. x ≤ 1) (sym (level-suc 4 q k)) (four_few k (blocks_over 4 q) (omega arith))

eight_few : (k q : ℕ) → q ≤ 8 ^ k → level 8 q k ≤ 1
eight_few zero q few = omega (arith, pow-zero 8)
eight_few (suc k) q few =
    let power : 8 ^ suc k ≡ 8 ^ k * 8 = pow-suc 8 k in
    subst (λ x. x ≤ 1) (sym (level-suc 8 q k)) (eight_few k (blocks_over 8 q) (omega arith))

-- so a longest array has this many levels above its leaves
unfoldable most : Width → ℕ
most Four = 7
most Eight = 5

level_few : (w : Width) (e : ℕ) → e ≤ 65535 → level_size (payloads w) e (most w) ≤ 1
unfolding most
level_few Four e few = four_few 7 (leaves 4 e) (omega arith)
level_few Eight e few = eight_few 5 (leaves 8 e) (omega arith)

depth_most : (w : Width) (e : ℕ) → e ≤ 65535 → array_depth w e ≤ most w
depth_most w e few = elim (cases_lt (most w) (array_depth w e)) [
  | inl deep ↦ absurd (
      let more = (depth_is (payloads w) e (many w)).more (most w) deep in
      omega (arith, more, level_few w e few)
      )
  | inr low ↦ low
]

most_few : (w : Width) → most w ≤ 7
unfolding most
most_few Four = omega arith
most_few Eight = omega arith

pub depth_few : (w : Width) (e : ℕ) → e ≤ 65535 → array_depth w e ≤ 7
depth_few w e few = omega (arith, depth_most w e few, most_few w)

-- the powers that the levels need
power_most : (w : Width) → payloads w ^ most w ≤ 32768
unfolding most
power_most Four = omega arith
power_most Eight = omega arith

pub power_few : (w : Width) (e h : ℕ) → e ≤ 65535 → h ≤ array_depth w e
    → (0 < payloads w ^ h) × (payloads w ^ h ≤ 32768)
power_few w e h few low =
    let deep : h ≤ most w = omega (arith, depth_most w e few) in
    let power : payloads w ^ h ≤ payloads w ^ most w =
    pow-le-pow_right {n = payloads w} (omega (arith, many w)) deep in
    let some : 1 ≤ payloads w ^ h = one-le-pow h (payloads w) (omega (arith, many w)) in
    (omega arith, omega (arith, power, power_most w))

-- rounding up once more is rounding up by the product
level-closed : (v q h : ℕ) → level (suc v) q h ≡ blocks_over (suc v ^ h) q
level-closed v q zero = sym (rw (pow-zero (suc v)) (omega arith))
level-closed v q (suc h) =
    let some : 1 ≤ suc v ^ h = one-le-pow h (suc v) (omega arith) in
    let power : suc v ^ suc h ≡ suc v ^ h * suc v = pow-suc (suc v) h in
    ap (λ x. blocks_over (suc v) x) (level-closed v q h)
    ∙ round_up v q (suc v ^ h) (suc v ^ suc h) some power
  where
    round_up : (v q p s : ℕ) → 1 ≤ p → s ≡ p * suc v
        → blocks_over (suc v) (blocks_over p q) ≡ blocks_over s q
    round_up v q p s some power =
        let less : suc v - 1 ≡ v = omega arith in
        let inner : (q + (p - 1) + v * p) / p ≡ (q + (p - 1)) / p + v =
        add-mul-div_right (q + (p - 1)) v {z = p} some in
        let both : (q + (p - 1) + v * p) / p / suc v ≡ (q + (p - 1) + v * p) / (p * suc v) =
        div-div-eq-div-mul (q + (p - 1) + v * p) p (suc v) in
        let sum : q + (p - 1) + v * p ≡ q + (s - 1) = omega arith in
        ap (λ x. ((q + (p - 1)) / p + x) / suc v) less ∙ ap (λ x. x / suc v) (sym inner) ∙ both
        ∙ ap (λ x. x / (p * suc v)) sum ∙ ap (λ x. (q + (s - 1)) / x) (sym power)

-- the same where the width is no successor
level-rounded : (w q h : ℕ) → 1 < w → level w q h ≡ blocks_over (w ^ h) q
level-rounded zero q h hw = absurd (omega arith)
level-rounded (suc v) q h hw = level-closed v q h

-- by one division of std
pub level-power : (w : Width) (e h q n p : ℕ) → e ≤ 65535 → h ≤ array_depth w e
    → q ≡ leaves (payloads w) e → p ≡ payloads w ^ h → n ≡ q / p + min 1 (q % p)
    → n ≡ level_size (payloads w) e h
level-power w e h q n p few deep leaf is at =
    let power : 0 < payloads w ^ h = (power_few w e h few deep).0 in
    let some : 0 < p = omega arith in
    at ∙ div-over q p some ∙ ap (λ x. blocks_over x q) is
    ∙ ap (λ x. blocks_over (payloads w ^ h) x) leaf
    ∙ sym (level-rounded (payloads w) (leaves (payloads w) e) h (many w))

-- the payload of a path by one power
pub path-turn : (w : Width) (e i l d s p : ℕ) → d ≡ array_depth w e → s ≡ payloads w ^ (d - l)
    → p ≡ payloads w → i / s % p ≡ array_turn w e i l
path-turn w e i l d s p deep power wide =
    ap (λ x. i / s % x) wide ∙ ap (λ x. i / x % payloads w) power
    ∙ ap (λ x. i / payloads w ^ (x - l) % payloads w) deep

-- what is at the payload of a path
pub path_on : (w : Width) (e i l r : ℕ) → i < e → r ≡ array_turn w e i l → l < array_depth w e
    → array_part w e (array_way w e i l) r ≡ Link (array_way w e i (l + 1))
path_on w e i l r fits is low =
    subst (λ x. array_part w e (array_way w e i l) x ≡ Link (array_way w e i (l + 1))) (sym is)
    ((tree_is_way (payloads w) e (many w) i fits).links l low)

pub path_ends : (w : Width) (e i l r : ℕ) → i < e → r ≡ array_turn w e i l → l ≡ array_depth w e
    → array_part w e (array_way w e i l) r ≡ Field i
path_ends w e i l r fits is last =
    let turn : r ≡ array_turn w e i (array_depth w e) =
    subst (λ x. r ≡ array_turn w e i x) last is in
    subst (λ x. array_part w e (array_way w e i x) r ≡ Field i) (sym last)
    (subst (λ x. array_part w e (array_way w e i (array_depth w e)) x ≡ Field i) (sym turn)
    (tree_is_way (payloads w) e (many w) i fits).ends)

pub ruleset depths = (level-next, below_root, at_root, depth_few, power_few)
