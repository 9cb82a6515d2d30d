use Rattle.std.proofs.Common.{◌≡◌, ℕ, ◌+◌, ◌-◌, ◌*◌, ◌<◌, ◌≤◌, sym, ◌∙◌, arith}
use Rattle.std.proofs.lemmas.Nat.{mul-le}
use Rattle.block_store.specs.declared.Width.{Width}
use Rattle.block_store.specs.Widths.{payloads}
use Rattle.array_trees.specs.Levels.{level_size, level_start, array_depth}
use Rattle.array_trees.proofs.Children.{next_start, end_few, child_here, child_below, child_root, root_start}
use Rattle.array_trees.proofs.child_of.Goals as goal

-- where a level ends, and that it ends early enough
below : (w : Width) (e g s u : ℕ) → e ≤ 65535 → 0 < g → g ≤ array_depth w e
    → s ≡ level_start (payloads w) e g → u ≡ level_size (payloads w) e (g - 1 + 1)
    → (s + u ≡ level_start (payloads w) e (g - 1))
    × (level_start (payloads w) e (g - 1) + level_size (payloads w) e (g - 1) ≤ 21845)
below w e g s u few above deep start size = (
  next_start w e g (g - 1) (g - 1 + 1) s u (omega arith) (omega arith) deep start size,
  end_few w e (g - 1) few (omega arith),
)

-- the children of the blocks of a level before block r are not too many to be counted
children_few : (o s p : ℕ) → o ≤ 21845 → p ≤ 8 → (o - s) * p ≤ 174760
children_few o s p few wide = mul-le (o - s) p 21845 8 (omega arith) wide

pub loop-height-init : goal.loop-height-init
loop-height-init c = record {
  deep = omega arith;
  start = root_start c.args.width c.args.e c.depth_of-height.result c.depth_of-height.ensures.value;
  inside = omega arith;
  part = child_root c.args.width c.args.e c.depth_of-height.result c.args.ordinal c.args.j
      c.depth_of-height.ensures.value c.requires.child;
}

pub overflow_add-below : goal.overflow_add-below
overflow_add-below c =
    let both = below c.args.width c.args.e c.loop-height.height c.loop-height.start
    c.blocks_in_level.result c.requires.few c.loop-height-test.true
    c.loop-height.invariant.deep c.loop-height.invariant.start c.blocks_in_level.ensures in
    omega (arith, both.0, both.1)

pub overflow_mul-child : goal.overflow_mul-child
overflow_mul-child c =
    let both = below c.args.width c.args.e c.loop-height.height c.loop-height.start
    c.blocks_in_level.result c.requires.few c.loop-height-test.true
    c.loop-height.invariant.deep c.loop-height.invariant.start c.blocks_in_level.ensures in
    let many = children_few c.args.ordinal c.loop-height.start c.payloads.result
    (omega (arith, both.0, both.1)) c.payloads.ensures.few in
    omega (arith, both.0, both.1, many)

pub overflow_add-child : goal.overflow_add-child
overflow_add-child c =
    let both = below c.args.width c.args.e c.loop-height.height c.loop-height.start
    c.blocks_in_level.result c.requires.few c.loop-height-test.true
    c.loop-height.invariant.deep c.loop-height.invariant.start c.blocks_in_level.ensures in
    let many = children_few c.args.ordinal c.loop-height.start c.payloads.result
    (omega (arith, both.0, both.1)) c.payloads.ensures.few in
    omega (arith, both.0, both.1, many)

pub overflow_add-child-then-ordinal-below : goal.overflow_add-child-then-ordinal-below
overflow_add-child-then-ordinal-below c =
    let both = below c.args.width c.args.e c.loop-height.height c.loop-height.start
    c.blocks_in_level.result c.requires.few c.loop-height-test.true
    c.loop-height.invariant.deep c.loop-height.invariant.start c.blocks_in_level.ensures in
    let many = children_few c.args.ordinal c.loop-height.start c.payloads.result
    (omega (arith, both.0, both.1)) c.payloads.ensures.few in
    omega (arith, both.0, both.1, many)

pub overflow_add-end : goal.overflow_add-end
overflow_add-end c =
    let both = below c.args.width c.args.e c.loop-height.height c.loop-height.start
    c.blocks_in_level.result c.requires.few c.loop-height-test.true
    c.loop-height.invariant.deep c.loop-height.invariant.start c.blocks_in_level.ensures in
    omega (arith, both.0, both.1)

pub returns-then-ordinal-below : goal.returns-then-ordinal-below
returns-then-ordinal-below c =
    let height = c.loop-height.height in
    let start = c.loop-height.start in
    let both = below c.args.width c.args.e c.loop-height.height c.loop-height.start
    c.blocks_in_level.result c.requires.few c.loop-height-test.true
    c.loop-height.invariant.deep c.loop-height.invariant.start c.blocks_in_level.ensures in
    c.then_some.ensures
    ∙ child_here c.args.width c.args.e height (height - 1) c.args.ordinal c.args.j start
    (start + c.blocks_in_level.result) c.blocks_in_level-then-ordinal-below.result
    c.payloads.result c.payloads.ensures.value (omega arith) c.loop-height.invariant.start both.0
    c.blocks_in_level-then-ordinal-below.ensures c.if-ordinal-below.true
    ∙ c.loop-height.invariant.part

pub loop-height-preserved : goal.loop-height-preserved
loop-height-preserved c =
    let height = c.loop-height.height in
    let start = c.loop-height.start in
    let both = below c.args.width c.args.e c.loop-height.height c.loop-height.start
    c.blocks_in_level.result c.requires.few c.loop-height-test.true
    c.loop-height.invariant.deep c.loop-height.invariant.start c.blocks_in_level.ensures in
    record {
      deep = omega arith;
      start = both.0;
      inside = c.if-ordinal-below.false;
      part = sym (child_below c.args.width c.args.e height (height - 1) c.args.ordinal c.args.j
          (start + c.blocks_in_level.result) (omega arith) both.0 c.if-ordinal-below.false)
          ∙ c.loop-height.invariant.part;
    }
