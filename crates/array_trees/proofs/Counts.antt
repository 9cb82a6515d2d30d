-- Facts on the number of blocks of a level and of all levels over it.
use Rattle.std.proofs.Common.{◌≡◌, ℕ, zero, suc, ◌+◌, ◌-◌, ◌*◌, ◌/◌, ◌%◌, min, ◌^◌, ◌<◌, ◌≤◌, refl, sym, ap, arith, inl, inr, subst}
use Rattle.std.proofs.lemmas.Nat.{div_below, le-div}
use Rattle.std.proofs.lemmas.Grind.{div_ceil_times}
use Rattle.std.proofs.Math.Nat.{div-eq_of_lt-le, pow-suc, one-le-pow}
use Rattle.std.proofs.lemmas.Bool.{cases_lt, lt-ltb, le-ltb}
use Rattle.block_store.specs.declared.Width.{Width}
use Rattle.block_store.specs.declared.Width.TheVariants.{Four, Eight}
use Rattle.block_store.specs.Widths.{payloads}
use Rattle.block_store.proofs.Lemmas.{many}
use Rattle.array_trees.specs.Trees.{blocks_over, leaves, tree_within, tree, IsTree, array_blocks}

-- how std rounds up
pub div-over : (x y : ℕ) → 0 < y → x / y + min 1 (x % y) ≡ blocks_over y x
div-over x y some =
    let both : (x ≤ (x / y + min 1 (x % y)) * y) × ((x / y + min 1 (x % y)) * y < x + y) =
    div_ceil_times x y some in
    ceiling_of x y (x / y + min 1 (x % y)) some both.0 both.1
  where
    ceiling_of : (x y z : ℕ) → 0 < y → x ≤ z * y → z * y < x + y → z ≡ blocks_over y x
    ceiling_of x y z some low high =
        sym (div-eq_of_lt-le {k = z} y {m = x + (y - 1)} (omega arith) (omega arith))

-- a level of more than one block has fewer blocks over it
pub over_less : (w q : ℕ) → 1 < w → 1 < q → blocks_over w q < q
over_less zero q hw hq = absurd (omega arith)
over_less (suc zero) q hw hq = absurd (omega arith)
over_less (suc (suc v)) zero hw hq = absurd (omega arith)
over_less (suc (suc v)) (suc zero) hw hq = absurd (omega arith)
over_less (suc (suc v)) (suc (suc p)) hw hq =
    div_below (suc (suc p) + (suc (suc v) - 1)) (suc (suc v)) (suc (suc p)) (omega arith)
    (omega arith)

-- and at least one
pub over_some : (w q : ℕ) → 1 < w → 0 < q → 0 < blocks_over w q
over_some w q hw hq =
    let some : 1 ≤ (q + (w - 1)) / w = le-div 1 (q + (w - 1)) w (omega arith) (omega arith) in
    omega arith

-- the bound on the number of levels may be any that is large enough
pub tree_bound : (w n m q : ℕ) → 1 < w → q ≤ suc n → q ≤ suc m
    → tree_within w n q ≡ tree_within w m q
tree_bound w zero zero q hw hn hm = refl
tree_bound w zero (suc m) q hw hn hm = rw (le-ltb 1 q hn) refl
tree_bound w (suc n) zero q hw hn hm = rw (le-ltb 1 q hm) refl
tree_bound w (suc n) (suc m) q hw hn hm = elim (cases_lt 1 q) [
  | inl some ↦
      let less : blocks_over w q < q = over_less w q hw some in
      rw (lt-ltb 1 q some) (ap (λ t. q + t)
      (tree_bound w n m (blocks_over w q) hw (omega arith) (omega arith)))
  | inr few ↦ rw (le-ltb 1 q few) refl
]

pub tree-one : (w : ℕ) → tree w 1 ≡ 1
unfolding tree
tree-one w = refl

-- no level is over a level of one block
pub tree-last : (w q : ℕ) → q ≤ 1 → 0 < q → tree w q ≡ q
tree-last w q hq some =
    let e : q ≡ 1 = omega arith in
    subst (λ x. tree w x ≡ x) (sym e) (tree-one w)

pub tree-more : (w q : ℕ) → 1 < w → 1 < q → tree w q ≡ q + tree w (blocks_over w q)
unfolding tree
tree-more w zero hw hq = absurd (omega arith)
tree-more w (suc n) hw hq =
    let less : blocks_over w (suc n) < suc n = over_less w (suc n) hw hq in
    rw (lt-ltb 1 (suc n) hq) (ap (λ t. suc n + t)
    (tree_bound w n (blocks_over w (suc n)) (blocks_over w (suc n)) hw (omega arith)
    (omega arith)))

pub tree_is : (w : ℕ) → 1 < w → IsTree w
tree_is w hw = record { one = tree-one w; more = λ q hq. tree-more w q hw hq }

-- a tree has at least its lowest level
pub le-tree : (w q : ℕ) → 1 < w → q ≤ tree w q
le-tree w zero hw = omega arith
le-tree w (suc q) hw = elim (cases_lt 1 (suc q)) [
  | inl some ↦ omega (arith, tree-more w (suc q) hw some)
  | inr few ↦
      let e : suc q ≡ 1 = omega arith in
      subst (λ x. x ≤ tree w x) (sym e) (omega (arith, tree-one w))
]

-- where four are under one, about a third more blocks in all
few_within : (k q : ℕ) → q ≤ 4 ^ k → 0 < q → 3 * tree 4 q < 4 * 4 ^ k
few_within zero q hn hq =
    let e : q ≡ 1 = omega arith in
    subst (λ x. 3 * tree 4 x < 4 * 1) (sym e) (omega (arith, tree-one 4))
few_within (suc k) q hn hq =
    let power : 4 ^ suc k ≡ 4 ^ k * 4 = pow-suc 4 k in
    elim (cases_lt 1 q) [
      | inl some ↦
          let over : blocks_over 4 q ≤ 4 ^ k = omega arith in
          let above = few_within k (blocks_over 4 q) over (over_some 4 q (omega arith) hq) in
          omega (arith, tree-more 4 q (omega arith) some, above)
      | inr few ↦
          let e : q ≡ 1 = omega arith in
          let positive : 1 ≤ 4 ^ k = one-le-pow k 4 (omega arith) in
          subst (λ x. 3 * tree 4 x < 4 * 4 ^ suc k) (sym e) (omega (arith, tree-one 4))
    ]

-- where eight do, at most twice as many
twice_within : (n q : ℕ) → q ≤ n → 0 < q → tree 8 q ≤ 2 * q
twice_within zero q hn hq = absurd (omega arith)
twice_within (suc n) q hn hq = elim (cases_lt 1 q) [
  | inl some ↦
      let less : blocks_over 8 q < q = over_less 8 q (omega arith) some in
      let above = twice_within n (blocks_over 8 q) (omega arith) (over_some 8 q (omega arith) hq) in
      omega (arith, tree-more 8 q (omega arith) some, above)
  | inr few ↦ omega (arith, tree-last 8 q few hq)
]

-- the blocks of the longest array, and of the longest that threads share
pub tree_few : (w : Width) (e : ℕ) → e ≤ 65535 → array_blocks w e ≤ 21845
tree_few Four e few =
    let third : 3 * tree 4 (leaves 4 e) < 4 * 4 ^ 7 =
    few_within 7 (leaves 4 e) (omega arith) (omega arith) in
    omega arith
tree_few Eight e few = omega
    (arith, twice_within (leaves 8 e) (leaves 8 e) (omega arith) (omega arith))

pub few_shared : (w : Width) (e : ℕ) → e ≤ 1024 → array_blocks w e ≤ 341
few_shared Four e few =
    let third : 3 * tree 4 (leaves 4 e) < 4 * 4 ^ 4 =
    few_within 4 (leaves 4 e) (omega arith) (omega arith) in
    omega arith
few_shared Eight e few =
    omega (arith, twice_within (leaves 8 e) (leaves 8 e) (omega arith) (omega arith))

pub width_over_less : (w : Width) (q : ℕ) → 1 < q → blocks_over (payloads w) q < q
width_over_less w q some = over_less (payloads w) q (many w) some

pub width_over_some : (w : Width) (q : ℕ) → 0 < q → 0 < blocks_over (payloads w) q
width_over_some w q some = over_some (payloads w) q (many w) some

pub width_tree_last : (w : Width) (q : ℕ) → q ≤ 1 → 0 < q → tree (payloads w) q ≡ q
width_tree_last w q few some = tree-last (payloads w) q few some

pub width_tree_more : (w : Width) (q : ℕ) → 1 < q
    → tree (payloads w) q ≡ q + tree (payloads w) (blocks_over (payloads w) q)
width_tree_more w q some = tree-more (payloads w) q (many w) some

pub width_le_tree : (w : Width) (q : ℕ) → q ≤ tree (payloads w) q
width_le_tree w q = le-tree (payloads w) q (many w)

pub width_div_over : (w : Width) (x : ℕ)
    → x / payloads w + min 1 (x % payloads w) ≡ blocks_over (payloads w) x
width_div_over w x = div-over x (payloads w) (omega (arith, many w))

pub ruleset counts =
    (width_over_less, width_over_some, width_tree_last, width_tree_more, width_le_tree, tree_few)
